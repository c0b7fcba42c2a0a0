-- The times of the root and of what is below it are those of the tree.
use Rattle.sftp_tree.proofs.Imports.{◌++◌, ◌∷◌, [], ◌∙◌, ap, subst, drop, length, arith, Names}
use Rattle.sftp_tree.specs.PictureParts.{AddsTimes}
use Rattle.sftp_tree.proofs.TreeFiles.Branches.{tree_few}
use Rattle.sftp_tree.proofs.TreeFiles.Times.{tree_told}
use Rattle.sftp_tree.proofs.pictures.times.entry_times.Goals as goal

pub ask_below-requires : goal.ask_below-requires
ask_below-requires g c = omega (
  arith,
  c.new-at.ensures.next,
  ap length (ap (drop 1) (c.root_directory-root.ensures ∙ c.names-2.ensures.names)),
  tree_few c.args.tree.now c.names-2.ensures.kept,
)

pub returns : goal.returns
returns g c =
    let t = c.args.tree.now in
    let F = g.K.HasTimes.of_file c.args.keeper.now in
    let D = g.K.HasTimes.of_directory c.args.keeper.now in
    let at = c.new-at in
    let root = c.root_directory-root.ensures ∙ c.names-2.ensures.names in
    let adds = subst (λ (ns : Names). AddsTimes F D at.result.firsts.entries at.result.next at.result.path.items (drop 1 ns)
    c.push.new.self.items c.ask_below.new.times.items) root c.in_ok-ask_below.ensures.told in
    tree_told F D t c.names-2.ensures.kept at.result.firsts.entries at.result.next at.result.path.items
    c.times_of_directory-time.result c.push.new.self.items c.ask_below.new.times.items c.new.result at.ensures.firsts
    at.ensures.next at.ensures.path
    (c.in_ok-push.ensures.items ∙ ap (λ ts. ts ++ c.times_of_directory-time.result ∷ []) c.in_ok-times.ensures.items)
    c.times_of_directory-time.ensures.told c.times_of_directory-time.ensures.small adds c.new.ensures
