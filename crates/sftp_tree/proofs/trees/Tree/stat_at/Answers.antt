use Rattle.sftp_tree.proofs.Imports.{sym, ◌∙◌, ap, option_map, node_seen, node_at}
use Rattle.sftp_tree.proofs.WellFormedTrees.{node-kept}
use Rattle.sftp_tree.proofs.trees.Tree.stat_at.Goals as goal

pub shown-requires : goal.shown-requires
shown-requires c =
    node-kept c.args.self.now c.args.place.now (node_seen c.in-Some.node) c.names.ensures.kept
    (ap (λ names. node_at names c.args.place.now) (sym c.names.ensures.names ∙ sym c.root_directory.ensures)
    ∙ (ap (node_at c.root_directory.result.now) (sym c.names-2.ensures.names)
    ∙ (sym c.at.ensures.there ∙ ap (option_map node_seen) c.in-Some.is)))
