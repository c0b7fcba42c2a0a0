use Rattle.sftp_tree.proofs.Imports.{sym, ◌∙◌, ap, Some, option_map, node_seen, Dir}
use Rattle.sftp_tree.proofs.WellFormedTrees.{node-kept}
use Rattle.sftp_tree.proofs.trees.Tree.plan_to_set.Goals as goal

pub changed_owner-requires : goal.changed_owner-requires
changed_owner-requires c = node-kept c.args.self.now c.args.place (Dir c.in-Dir.owner) c.requires.kept
    (sym c.requires.there ∙ ap (option_map node_seen) c.in-Some.is ∙ ap (λ s. Some (node_seen s)) c.in-Dir.is)
