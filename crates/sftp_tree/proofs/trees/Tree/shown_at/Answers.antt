use Rattle.sftp_tree.proofs.Imports.{sym, ◌∙◌, ap, option_map, node_seen}
use Rattle.sftp_tree.proofs.WellFormedTrees.{node-kept}
use Rattle.sftp_tree.proofs.trees.Tree.shown_at.Goals as goal

pub shown-requires : goal.shown-requires
shown-requires c =
    node-kept c.args.self.now c.args.found.now.place (node_seen c.in-Some.node) c.requires.kept (sym c.requires.there.node ∙ ap (option_map node_seen) c.in-Some.is)
