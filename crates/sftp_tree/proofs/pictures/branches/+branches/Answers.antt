-- A directory is written and then what is below it, child by child.
use Rattle.sftp_tree.proofs.Imports.{◌≡◌, ℕ, List, ◌∷◌, ◌++◌, ◌∙◌, ap, sym, subst, length, drop, length-append, arith}
use Rattle.sftp_tree.proofs.Imports.{Owner, branch, placed, flat, AreBranches, AreWritable}
use Rattle.sftp_treefile.specs.declared.times.Times.{Times}
use Rattle.sftp_treefile.specs.TreeFile.{entry_text, times_at}
use Rattle.std.specs.Io.KnownBytes.{Appends}
use Rattle.sftp_streams.specs.Streams.{AppendsPart}
use Rattle.sftp_streams.proofs.Buffers.{on_err}
use Rattle.sftp_tree.proofs.Imports.{refl, Names}
use Rattle.sftp_tree.proofs.TreeFiles.Branches.{entries_text, dir_unwritten, below_unwritten, none_written}
use Rattle.sftp_tree.proofs.TreeFiles.Branches.{child_unwritten}
use Rattle.sftp_treefile.specs.declared.files.Kind.TheVariants as kinds
use Rattle.sftp_tree.proofs.TreeFiles.Branches.{At, state_of, IsWritten, IsLeft, own_path, own_writable, own_count}
use Rattle.sftp_tree.proofs.TreeFiles.Branches.{dir_written, child_step, child_writable, child_few, next_smaller}
use Rattle.sftp_tree.proofs.pictures.branches.+branches.Goals as goal

-- the text of a directory's own entry

abbrev own_text : Owner → List Times → At → List ℕ
own_text owner times at =
    entry_text (record { path = at.text; kind = kinds.Dir owner }, times_at times at.next)

own_entry_text : (owner : Owner) (times : List Times) (next : ℕ) {given path : List ℕ} {time : Times} → given ≡ path
    → time ≡ times_at times next
    → entry_text (record { path = given; kind = kinds.Dir owner }, time)
    ≡ entry_text (record { path = path; kind = kinds.Dir owner }, times_at times next)
own_entry_text owner times next path-is time-is =
    λ i. entry_text (record { path = path-is i; kind = kinds.Dir owner }, time-is i)

-- ---- a child

pub send_child-send_timed_directory-requires : goal.send_child-send_timed_directory-requires
send_child-send_timed_directory-requires g t c =
    let files = c.args.tree.now.files in
    let times = c.args.times.now in
    let path = c.args.at.now.path.items in
    let fit = subst (AreWritable files path) (ap branch c.in-Dir.is) c.requires.writable in
    let owner = c.owner.ensures in
    omega (
      arith,
      ap length c.deref.ensures.value,
      own_path files path c.in-Dir.dir c.owner.result owner.ordered owner.owner fit,
    )

pub send_child-overflow_add-at : goal.send_child-overflow_add-at
send_child-overflow_add-at g t c =
    let owner = c.owner.ensures in
    let count = own_count c.in-Dir.dir c.owner.result owner.ordered owner.owner in
    omega (arith, c.requires.few, ap length (ap branch c.in-Dir.is), count)

pub send_child-send_below-requires : goal.send_child-send_below-requires
send_child-send_below-requires g t c =
    let files = c.args.tree.now.files in
    let times = c.args.times.now in
    let path = c.args.at.now.path.items in
    let dir = c.in-Dir.dir in
    let branches = ap branch c.in-Dir.is in
    let fit = subst (AreWritable files path) branches c.requires.writable in
    let owner = c.owner.ensures in
    let count = own_count dir c.owner.result owner.ordered owner.owner in
    λ κs held. (
      omega (arith, c.decreases, ap length branches),
      (
        held,
        (
          own_writable files path dir c.owner.result owner.ordered owner.owner fit,
          omega (arith, c.requires.few, ap length branches, count),
        ),
      ),
    )

-- a directory

written : (g : _) (t : ℕ) (c : goal.send_child-In_ok-send_below-in-Dir g t)
    → IsWritten c.args.tree.now.files c.args.times.now (branch c.args.child.now)
    (state_of c.args.at.now (g.L.Sink.written c.args.sink.now))
    (state_of c.send_below.new.at (g.L.Sink.written c.send_below.new.sink))
written g t c =
    let files = c.args.tree.now.files in
    let times = c.args.times.now in
    let before = state_of c.args.at.now (g.L.Sink.written c.args.sink.now) in
    let after = state_of c.send_below.new.at (g.L.Sink.written c.send_below.new.sink) in
    let own-out = g.L.Sink.written c.send_timed_directory.new.sink in
    let owner = c.owner.ensures in
    let own : Appends before.out own-out (own_text c.owner.result times before) =
    subst (Appends before.out own-out) (own_entry_text c.owner.result times c.args.at.now.next c.deref.ensures.value c.get-time.ensures)
    c.in_ok-send_timed_directory-in-Dir.ensures.ok in
    let done = c.in_ok-send_below-in-Dir.ensures in
    subst (λ names. IsWritten files times names before after) (sym (ap branch c.in-Dir.is))
    (dir_written files times c.in-Dir.dir c.owner.result before after own-out owner.ordered owner.owner own
    (record { out = done.ok; path = done.path; next = done.next; firsts = done.firsts }))

pub send_child-returns-in_ok-send_below-in-Dir-clause-ok : goal.send_child-returns-in_ok-send_below-in-Dir-clause-ok
send_child-returns-in_ok-send_below-in-Dir-clause-ok g t c = (written g t c).out

pub send_child-returns-in_ok-send_below-in-Dir-clause-next : goal.send_child-returns-in_ok-send_below-in-Dir-clause-next
send_child-returns-in_ok-send_below-in-Dir-clause-next g t c = (written g t c).next

pub send_child-returns-in_ok-send_below-in-Dir-clause-firsts : goal.send_child-returns-in_ok-send_below-in-Dir-clause-firsts
send_child-returns-in_ok-send_below-in-Dir-clause-firsts g t c = (written g t c).firsts

pub send_child-returns-in_err-send_timed_directory-in-Dir-clause-err : goal.send_child-returns-in_err-send_timed_directory-in-Dir-clause-err
send_child-returns-in_err-send_timed_directory-in-Dir-clause-err g t c =
    let files = c.args.tree.now.files in
    let times = c.args.times.now in
    let before = state_of c.args.at.now (g.L.Sink.written c.args.sink.now) in
    let new = g.L.Sink.written c.send_timed_directory.new.sink in
    let owner = c.owner.ensures in
    let part : AppendsPart before.out new (own_text c.owner.result times before) =
    subst (AppendsPart before.out new) (own_entry_text c.owner.result times c.args.at.now.next c.deref.ensures.value c.get-time.ensures)
    c.in_err-send_timed_directory-in-Dir.ensures.err in
    on_err _ (subst (λ (names : Names). AppendsPart before.out new (entries_text files times before names))
    (sym (ap branch c.in-Dir.is))
    (dir_unwritten files times c.in-Dir.dir c.owner.result before new owner.ordered owner.owner part))

pub send_child-returns-in_err-send_below-in-Dir-clause-err : goal.send_child-returns-in_err-send_below-in-Dir-clause-err
send_child-returns-in_err-send_below-in-Dir-clause-err g t c =
    let files = c.args.tree.now.files in
    let times = c.args.times.now in
    let before = state_of c.args.at.now (g.L.Sink.written c.args.sink.now) in
    let own-out = g.L.Sink.written c.send_timed_directory.new.sink in
    let new = g.L.Sink.written c.send_below.new.sink in
    let owner = c.owner.ensures in
    let own : Appends before.out own-out (own_text c.owner.result times before) =
    subst (Appends before.out own-out) (own_entry_text c.owner.result times c.args.at.now.next c.deref.ensures.value c.get-time.ensures)
    c.in_ok-send_timed_directory-in-Dir.ensures.ok in
    on_err _ (subst (λ (names : Names). AppendsPart before.out new (entries_text files times before names))
    (sym (ap branch c.in-Dir.is))
    (below_unwritten files times c.in-Dir.dir c.owner.result before own-out new owner.ordered owner.owner own
    c.in_err-send_below-in-Dir.ensures.err))

-- ---- the children

pub send_below-loop-name-init : goal.send_below-loop-name-init
send_below-loop-name-init g t c =
    let whole = drop 1 c.args.dir.now in
    let given : c.into_iter-name-iterator.result ≡ c.children-children.result =
    c.into_iter-name-iterator.ensures.into_iter_gives in
    let all : flat c.into_iter-name-iterator.result ≡ whole = ap flat given ∙ c.children-children.ensures.below in
    record {
      left = none_written c.args.tree.now.files c.args.times.now whole (state_of c.args.at.now (g.L.Sink.written c.args.sink.now))
          (flat c.into_iter-name-iterator.result) all c.requires.writable;
      none_failed = refl;
      end = omega (arith, c.len-end.ensures, c.args.at.now.path.ok.0);
      branches = subst AreBranches (sym given) c.children-children.ensures.children.1;
      few = omega (arith, ap length all);
    }

pub send_below-returns-in_err-send_child-clause-err : goal.send_below-returns-in_err-send_child-clause-err
send_below-returns-in_err-send_child-clause-err g t c =
    let at = c.loop-name in
    let child = c.in-Some.child.now in
    let name = c.in-Some.name.now in
    let steps : at.name-iterator ≡ (name, child) ∷ c.next.new.self = c.in-Some.ensures.steps in
    let rest = flat c.next.new.self in
    let start = state_of c.args.at.now (g.L.Sink.written c.args.sink.now) in
    let here = state_of at.at (g.L.Sink.written at.sink) in
    let inside = state_of c.enter.new.self (g.L.Sink.written at.sink) in
    let whole = drop 1 c.args.dir.now in
    let files = c.args.tree.now.files in
    let times = c.args.times.now in
    let left = subst (λ cs. IsLeft files times whole start here (flat cs)) steps at.invariant.left in
    let entered = c.in_ok-enter.ensures in
    let same : inside ≡ record here { text = here.text ++ 47 ∷ name } =
    λ i. record { text = entered.path i; next = entered.next i; firsts = entered.firsts i; out = here.out } in
    on_err _ (child_unwritten files times whole start here inside (g.L.Sink.written c.send_child.new.sink) name (branch child)
    rest left same c.in_err-send_child.ensures.err)

pub send_below-send_child-requires : goal.send_below-send_child-requires
send_below-send_child-requires g t c =
    let at = c.loop-name in
    let child = c.in-Some.child.now in
    let name = c.in-Some.name.now in
    let steps : at.name-iterator ≡ (name, child) ∷ c.next.new.self = c.in-Some.ensures.steps in
    let rest = flat c.next.new.self in
    let start = state_of c.args.at.now (g.L.Sink.written c.args.sink.now) in
    let here = state_of at.at (g.L.Sink.written at.sink) in
    let whole = drop 1 c.args.dir.now in
    let files = c.args.tree.now.files in
    let times = c.args.times.now in
    let left = subst (λ cs. IsLeft files times whole start here (flat cs)) steps at.invariant.left in
    let entered = c.in_ok-enter.ensures in
    let smaller = next_smaller c.args.dir.now at.name-iterator name child c.next.new.self steps at.invariant.branches
    at.invariant.few in
    λ κs held. (
      omega (arith, c.decreases, smaller),
      (
        held,
        (
          child_writable files times whole start here name (branch child) rest c.enter.new.self.path.items left entered.path,
          omega (arith, entered.next, child_few files times whole start here name (branch child) rest left c.requires.few),
        ),
      ),
    )

pub send_below-loop-name-preserved : goal.send_below-loop-name-preserved
send_below-loop-name-preserved g t c =
    let at = c.loop-name in
    let child = c.in-Some.child.now in
    let name = c.in-Some.name.now in
    let steps : at.name-iterator ≡ (name, child) ∷ c.next.new.self = c.in-Some.ensures.steps in
    let rest = flat c.next.new.self in
    let start = state_of c.args.at.now (g.L.Sink.written c.args.sink.now) in
    let here = state_of at.at (g.L.Sink.written at.sink) in
    let inside = state_of c.enter.new.self (g.L.Sink.written at.sink) in
    let after = state_of c.send_child.new.at (g.L.Sink.written c.send_child.new.sink) in
    let whole = drop 1 c.args.dir.now in
    let files = c.args.tree.now.files in
    let times = c.args.times.now in
    let left = subst (λ cs. IsLeft files times whole start here (flat cs)) steps at.invariant.left in
    let entered = c.in_ok-enter.ensures in
    let same : inside ≡ record here { text = here.text ++ 47 ∷ name } =
    λ i. record { text = entered.path i; next = entered.next i; firsts = entered.firsts i; out = here.out } in
    let done = c.in_ok-send_child.ensures in
    let step =
    child_step files times whole start here inside after name (branch child) rest c.len-end.result c.truncate.new.self.items
    left same (record { out = done.ok; path = done.path; next = done.next; firsts = done.firsts }) at.invariant.end
    c.truncate.ensures.items in
    record {
      left = step.0;
      none_failed = done.counts ∙ at.invariant.none_failed;
      end = step.1;
      branches = (subst AreBranches steps at.invariant.branches).1;
      few = omega (arith, at.invariant.few, ap length (ap flat steps), length-append (placed name (branch child)) rest);
    }
