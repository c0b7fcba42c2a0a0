use Rattle.sftp_tree.proofs.Imports.{◌≡◌, ◌∙◌, ap, subst, map, IfOk, entry_of, listing}
use Rattle.std.specs.Result.{result_from_control_flow}
use Rattle.sftp_tree.proofs.Requests.Rows.{listed-directory, listing-told}
use Rattle.sftp_tree.proofs.trees.Tree.list.Goals as goal

pub returns-clause-listed : goal.returns-clause-listed
returns-clause-listed c =
    let is = c.branch-items.ensures ∙ ap result_from_control_flow c.in_ok-items.is in
    let place = c.in_ok-places.places.old.place in
    listing-told c.args.self.now c.args.path.now place (map entry_of c.in_ok-items.field-0.items) c.in_ok-places.ensures.led.first
    (subst (λ r. IfOk r (λ items. map entry_of items.items ≡ listing c.args.self.now place)) is c.items_below-items.ensures)

pub items_below-items-requires-clause-directory : goal.items_below-items-requires-clause-directory
items_below-items-requires-clause-directory c =
    listed-directory c.args.self.now c.args.path.now c.in_ok-places.places.old.place c.in_ok-places.ensures.free
    c.in_ok-places.ensures.led.first
