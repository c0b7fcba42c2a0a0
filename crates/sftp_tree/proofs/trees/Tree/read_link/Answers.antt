use Rattle.sftp_tree.proofs.Imports.{◌≡◌, sym, ◌∙◌, ap, subst, IfOk, is_link}
use Rattle.std.specs.Result.{result_from_control_flow}
use Rattle.sftp_tree.specs.Requests.{target_of}
use Rattle.sftp_tree.proofs.Requests.Rows.{read-link, link-told}
use Rattle.sftp_tree.proofs.trees.Tree.read_link.Goals as goal

pub target_of-requires : goal.target_of-requires
target_of-requires c = ap is_link c.in_ok-places.ensures.well.0.lent.node
    ∙ read-link c.args.self.now c.args.path.now c.in_ok-places.places.old.place c.in_ok-places.ensures.free c.in_ok-places.ensures.led.first

pub returns-clause-target : goal.returns-clause-target
returns-clause-target c =
    let is = c.branch-target.ensures ∙ ap result_from_control_flow c.in_ok-target.is in
    link-told c.args.self.now c.args.path.now c.in_ok-target.field-0.items c.in_ok-places.places.old.place c.target_of.result.now c.in_ok-places.ensures.led.first
    (ap target_of (sym c.in_ok-places.ensures.well.0.lent.node) ∙ c.target_of.ensures)
    (subst (λ r. IfOk r (λ bytes. bytes.items ≡ c.target_of.result.now)) is c.from_slice-target.ensures.items)
