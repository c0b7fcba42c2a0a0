use Rattle.sftp_tree.proofs.Imports.{◌∙◌, sym, ap, Split, list_all, is_step, components-steps, list_all-octets}
use Rattle.sftp_tree.proofs.Walks.Plain.{path-down}
use Rattle.sftp_tree.proofs.trees.Tree.plain_end.Goals as goal

pub down-requires : goal.down-requires
down-requires c = ap (list_all is_step) (ap (λ (s : Split). s.left) c.in-Ok.ensures.parts)
    ∙ components-steps c.args.path.now c.in-Ok.ensures.good (list_all-octets c.args.path.now c.type_inv.path)

pub returns : goal.returns
returns c =
    path-down c.args.self.now c.args.follow c.args.path.now c.root_directory.result.now c.in-Ok.steps.left c.down.result
    c.names.ensures.kept c.in-Ok.ensures.good
    (sym (ap (λ (s : Split). s.absolute) (c.steps.view_is ∙ c.in-Ok.ensures.parts)) ∙ c.if-not-steps.false)
    (c.root_directory.ensures ∙ c.names.ensures.names) (ap (λ (s : Split). s.left) c.in-Ok.ensures.parts) c.down.ensures
