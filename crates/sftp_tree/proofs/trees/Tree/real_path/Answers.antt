use Rattle.sftp_tree.proofs.Imports.{◌≡◌, ◌∙◌, ap, subst, IfOk, absolute}
use Rattle.std.specs.Result.{result_from_control_flow}
use Rattle.sftp_tree.proofs.Requests.Rows.{path-told}
use Rattle.sftp_tree.proofs.trees.Tree.real_path.Goals as goal

pub returns-clause-text : goal.returns-clause-text
returns-clause-text c =
    let is = c.branch-text.ensures ∙ ap result_from_control_flow c.in_ok-text.is in
    path-told c.args.self.now c.args.path.now c.in_ok-text.field-0.items c.in_ok-places.places.old.place c.in_ok-places.ensures.led.first
    (subst (λ r. IfOk r (λ text. text.items ≡ absolute c.names.result.now)) is c.absolute-text.ensures ∙ ap absolute c.names.ensures.names)
