-- All entries but the root's are written.
use Rattle.sftp_tree.proofs.Imports.{◌≡◌, ◌∙◌, [], ap, sym, subst, length, drop, arith, flat_map, AreWritable}
use Rattle.sftp_tree.proofs.Imports.{ℕ, List, Tree, Names, IsKept, Firsts}
use Rattle.sftp_treefile.specs.declared.times.Times.{Times}
use Rattle.sftp_treefile.specs.TreeFile.{entry_text}
use Rattle.sftp_tree.specs.PictureParts.{entries_from, timed_entries}
use Rattle.std.specs.Io.KnownBytes.{Appends}
use Rattle.sftp_streams.specs.Streams.{AppendsPart}
use Rattle.sftp_streams.proofs.Buffers.{on_err}
use Rattle.sftp_tree.proofs.TreeFiles.Branches.{tree_writable, tree_few, tree_written}
use Rattle.sftp_tree.proofs.pictures.branches.send_entries.Goals as goal

pub send_below-requires-clause-writable : goal.send_below-requires-clause-writable
send_below-requires-clause-writable g c =
    let t = c.args.tree.now in
    let fit = subst (λ names. AreWritable t.files [] (drop 1 names)) (sym c.requires.root)
    (tree_writable t c.home.ensures.kept) in
    subst (λ text. AreWritable t.files text (drop 1 c.args.root.now)) (sym c.new-at.ensures.path) fit

pub send_below-requires-clause-few : goal.send_below-requires-clause-few
send_below-requires-clause-few g c = omega (
  arith,
  c.new-at.ensures.next,
  ap length (ap (drop 1) c.requires.root),
  tree_few c.args.tree.now c.home.ensures.kept,
)

-- what is written is what the tree's entries say
all : (t : Tree) → IsKept t → (times : List Times) (root : Names) (firsts : Firsts) (next : ℕ) (path : List ℕ)
    → root ≡ t.names → firsts ≡ [] → next ≡ 1 → path ≡ []
    → entries_from t.files times firsts next path (drop 1 root) ≡ timed_entries t times
all t kept times root firsts next path root-is none one empty =
    (λ i. entries_from t.files times firsts (one i) (empty i) (drop 1 (root-is i)))
    ∙ tree_written t kept times firsts none

pub returns-in_err-send_below-clause-err : goal.returns-in_err-send_below-clause-err
returns-in_err-send_below-clause-err g c =
    let at = c.new-at in
    on_err c.from_residual.result
    (subst (AppendsPart (g.L.Sink.written c.args.sink.now) (g.L.Sink.written c.send_below.new.sink))
    (ap (flat_map entry_text) (all c.args.tree.now c.home.ensures.kept c.args.times.now c.args.root.now at.result.firsts.entries
    at.result.next at.result.path.items c.requires.root at.ensures.firsts at.ensures.next at.ensures.path)) c.in_err-send_below.ensures.err)

pub returns-clause-ok : goal.returns-clause-ok
returns-clause-ok g c =
    let at = c.new-at in
    subst (Appends (g.L.Sink.written c.args.sink.now) (g.L.Sink.written c.send_below.new.sink))
    (ap (flat_map entry_text) (all c.args.tree.now c.home.ensures.kept c.args.times.now c.args.root.now at.result.firsts.entries
    at.result.next at.result.path.items c.requires.root at.ensures.firsts at.ensures.next at.ensures.path)) c.in_ok-send_below.ensures.ok
