-- A directory is asked for and then what is below it, child by child.
use Rattle.sftp_tree.proofs.Imports.{◌≡◌, ℕ, List, ◌∷◌, ◌++◌, ◌∙◌, ap, sym, subst, length, drop, length-append, arith}
use Rattle.sftp_tree.proofs.Imports.{branch, placed, flat, AreBranches, IsBranch, Names, File, Link, firsts_from, refl}
use Rattle.sftp_tree.specs.PictureParts.{AddsTimes}
use Rattle.sftp_treefile.specs.TreeFile.{no_times}
use Rattle.sftp_tree.proofs.TreeFiles.Branches.{next_smaller}
use Rattle.sftp_tree.proofs.TreeFiles.Times.{here_of, IsLeftToAsk, none_asked, alone_asked, dir_asked, child_asked}
use Rattle.sftp_tree.proofs.TreeFiles.Times.{child_numbers, own_length, dir_firsts}
use Rattle.sftp_tree.proofs.pictures.times.+times.Goals as goal

-- ---- a child

pub ask_child-overflow_add-at : goal.ask_child-overflow_add-at
ask_child-overflow_add-at g t c =
    let is = subst IsBranch c.in-Dir.is c.requires.branch in
    omega (arith, c.requires.few, ap length (ap branch c.in-Dir.is), own_length c.in-Dir.dir is)

pub ask_child-ask_below-requires : goal.ask_child-ask_below-requires
ask_child-ask_below-requires g t c =
    let branches = ap branch c.in-Dir.is in
    let is = subst IsBranch c.in-Dir.is c.requires.branch in
    λ κs held. (
      omega (arith, c.decreases, ap length branches),
      (held, omega (arith, c.requires.few, ap length branches, own_length c.in-Dir.dir is)),
    )

-- a directory

pub ask_child-returns-in_ok-ask_below-in-Dir-clause-told : goal.ask_child-returns-in_ok-ask_below-in-Dir-clause-told
ask_child-returns-in_ok-ask_below-in-Dir-clause-told g t c =
    let F = g.K.HasTimes.of_file c.args.keeper.now in
    let D = g.K.HasTimes.of_directory c.args.keeper.now in
    let at = c.args.at.now in
    let old = c.args.times.now.items in
    let new = c.ask_below.new.times.items in
    let is = subst IsBranch c.in-Dir.is c.requires.branch in
    let time = c.times_of_directory-time.result in
    let told : D at.path.items time =
    subst (λ (path : List ℕ). D path time) c.deref.ensures.value c.times_of_directory-time.ensures.told in
    subst (λ (ns : Names). AddsTimes F D at.firsts.entries at.next at.path.items ns old new)
    (sym (ap branch c.in-Dir.is))
    (dir_asked F D c.in-Dir.dir at.firsts.entries at.next at.path.items old c.push.new.self.items new time is
    c.in_ok-push-in-Dir.ensures.items told c.times_of_directory-time.ensures.small
    c.in_ok-ask_below-in-Dir.ensures.told)

pub ask_child-returns-in_ok-ask_below-in-Dir-clause-next : goal.ask_child-returns-in_ok-ask_below-in-Dir-clause-next
ask_child-returns-in_ok-ask_below-in-Dir-clause-next g t c =
    let is = subst IsBranch c.in-Dir.is c.requires.branch in
    omega (
      arith,
      c.in_ok-ask_below-in-Dir.ensures.next,
      ap length (ap branch c.in-Dir.is),
      own_length c.in-Dir.dir is,
    )

pub ask_child-returns-in_ok-ask_below-in-Dir-clause-firsts : goal.ask_child-returns-in_ok-ask_below-in-Dir-clause-firsts
ask_child-returns-in_ok-ask_below-in-Dir-clause-firsts g t c =
    let at = c.args.at.now in
    let is = subst IsBranch c.in-Dir.is c.requires.branch in
    c.in_ok-ask_below-in-Dir.ensures.firsts
    ∙ dir_firsts c.in-Dir.dir at.firsts.entries at.next is
    ∙ ap (firsts_from at.firsts.entries at.next) (sym (ap branch c.in-Dir.is))

-- a name of a file, and a link

pub ask_child-returns-in_ok-push-in-File-clause-told : goal.ask_child-returns-in_ok-push-in-File-clause-told
ask_child-returns-in_ok-push-in-File-clause-told g t c =
    let F = g.K.HasTimes.of_file c.args.keeper.now in
    let D = g.K.HasTimes.of_directory c.args.keeper.now in
    let at = c.args.at.now in
    let old = c.args.times.now.items in
    let new = c.push-in-File.new.self.items in
    let named = c.in_ok-time-in-File.ensures in
    subst (λ (ns : Names). AddsTimes F D at.firsts.entries at.next at.path.items ns old new)
    (sym (ap branch c.in-File.is))
    (alone_asked F D (File c.in-File.number) at.firsts.entries at.next at.path.items old new c.in_ok-time-in-File.time
    c.in_ok-push-in-File.ensures.items named.told named.small)

pub ask_child-returns-in_ok-push-in-Link-clause-told : goal.ask_child-returns-in_ok-push-in-Link-clause-told
ask_child-returns-in_ok-push-in-Link-clause-told g t c =
    let F = g.K.HasTimes.of_file c.args.keeper.now in
    let D = g.K.HasTimes.of_directory c.args.keeper.now in
    let at = c.args.at.now in
    let old = c.args.times.now.items in
    let new = c.push-in-Link.new.self.items in
    subst (λ (ns : Names). AddsTimes F D at.firsts.entries at.next at.path.items ns old new)
    (sym (ap branch c.in-Link.is))
    (alone_asked F D (Link c.in-Link.field-0) at.firsts.entries at.next at.path.items old new no_times
    c.in_ok-push-in-Link.ensures.items refl (omega arith, omega arith))

-- ---- the children

pub ask_below-loop-name-init : goal.ask_below-loop-name-init
ask_below-loop-name-init g t c =
    let whole = drop 1 c.args.dir.now in
    let given : c.into_iter-name-iterator.result ≡ c.children-children.result =
    c.into_iter-name-iterator.ensures.into_iter_gives in
    let all : flat c.into_iter-name-iterator.result ≡ whole = ap flat given ∙ c.children-children.ensures.below in
    record {
      left = none_asked (g.K.HasTimes.of_file c.args.keeper.now) (g.K.HasTimes.of_directory c.args.keeper.now) whole
          (here_of c.args.at.now c.args.times.now.items) (flat c.into_iter-name-iterator.result) all;
      end = omega (arith, c.len-end.ensures, c.args.at.now.path.ok.0);
      branches = subst AreBranches (sym given) c.children-children.ensures.children.1;
      few = omega (arith, ap length all);
    }

pub ask_below-ask_child-requires : goal.ask_below-ask_child-requires
ask_below-ask_child-requires g t c =
    let at = c.loop-name in
    let child = c.in-Some.child.now in
    let name = c.in-Some.name.now in
    let steps : at.name-iterator ≡ (name, child) ∷ c.next.new.self = c.in-Some.ensures.steps in
    let rest = flat c.next.new.self in
    let F = g.K.HasTimes.of_file c.args.keeper.now in
    let D = g.K.HasTimes.of_directory c.args.keeper.now in
    let start = here_of c.args.at.now c.args.times.now.items in
    let here = here_of at.at at.times.items in
    let whole = drop 1 c.args.dir.now in
    let left = subst (λ cs. IsLeftToAsk F D whole start here (flat cs)) steps at.invariant.left in
    let entered = c.in_ok-enter.ensures in
    let smaller = next_smaller c.args.dir.now at.name-iterator name child c.next.new.self steps at.invariant.branches
    at.invariant.few in
    λ κs held. (
      omega (arith, c.decreases, smaller),
      (
        held,
        (
          (subst AreBranches steps at.invariant.branches).0,
          omega (arith, entered.next, child_numbers F D whole start here name (branch child) rest left c.requires.few),
        ),
      ),
    )

pub ask_below-loop-name-preserved : goal.ask_below-loop-name-preserved
ask_below-loop-name-preserved g t c =
    let at = c.loop-name in
    let child = c.in-Some.child.now in
    let name = c.in-Some.name.now in
    let steps : at.name-iterator ≡ (name, child) ∷ c.next.new.self = c.in-Some.ensures.steps in
    let rest = flat c.next.new.self in
    let F = g.K.HasTimes.of_file c.args.keeper.now in
    let D = g.K.HasTimes.of_directory c.args.keeper.now in
    let start = here_of c.args.at.now c.args.times.now.items in
    let here = here_of at.at at.times.items in
    let inside = here_of c.enter.new.self at.times.items in
    let after = here_of c.ask_child.new.at c.ask_child.new.times.items in
    let whole = drop 1 c.args.dir.now in
    let left = subst (λ cs. IsLeftToAsk F D whole start here (flat cs)) steps at.invariant.left in
    let entered = c.in_ok-enter.ensures in
    let same : inside ≡ record here { text = here.text ++ 47 ∷ name } =
    λ i. record { text = entered.path i; next = entered.next i; firsts = entered.firsts i; times = here.times } in
    let done = c.in_ok-ask_child.ensures in
    let step =
    child_asked F D whole start here inside after name (branch child) rest c.len-end.result c.truncate.new.self.items
    left same (record { times = done.told; path = done.path; next = done.next; firsts = done.firsts }) at.invariant.end
    c.truncate.ensures.items in
    record {
      left = step.0;
      end = step.1;
      branches = (subst AreBranches steps at.invariant.branches).1;
      few = omega (arith, at.invariant.few, ap length (ap flat steps), length-append (placed name (branch child)) rest);
    }
