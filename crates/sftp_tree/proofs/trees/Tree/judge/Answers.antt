use Rattle.sftp_tree.proofs.Imports.{◌≡◌, ◌&&◌, not, sym, ap, ◌∙◌, Ok, list_any, Place, IsKept, every_cause}
use Rattle.sftp_tree.proofs.Imports.{has_room_for, asked, in_set}
use Rattle.sftp_tree.specs.Plans.{placed, new_placed}
use Rattle.sftp_tree.proofs.Requests.Rows.{judged}
use Rattle.sftp_tree.proofs.Walks.Counts.{end-kept}
use Rattle.sftp_tree.proofs.trees.Tree.judge.Goals as goal
use Rattle.sftp_tree.proofs.trees.Tree.judge.Goals.{then-not-has_any, else-not-has_any}

pub returns : goal.returns
returns c =
    let t = c.args.self.now in
    let ask = asked c.args.ask in
    let end = placed c.args.ends.now.old in
    let new = new_placed c.args.ends.now.new in
    let room = has_room_for t ask end new in
    let lacks : c.if-not-has_any.lacks ≡ (not (list_any (in_set c.plain_causes-plain.result) every_cause) && not room) = elim c.if-not-has_any.branch [
      | then-not-has_any w ↦ w.lacks-is ∙ ap not w.has_room_for.ensures ∙ sym (ap (λ b. b && not room) (ap not (sym c.has_any.ensures ∙ w.if-not-has_any.true)))
      | else-not-has_any w ↦ w.lacks-is ∙ ap not w.if-not-has_any.false ∙ sym (ap (λ b. b && not room) (ap not (sym c.has_any.ensures ∙ w.if-not-has_any.false)))
    ] in
    let keeps : (place : Place) → end ≡ Ok place → IsKept t = λ place is. end-kept t c.args.ends.now.old place c.requires.well.0 is in
    c.when.ensures ∙ judged t ask end new (in_set c.plain_causes-plain.result) c.if-not-has_any.lacks c.requires.old c.requires.new keeps c.plain_causes-plain.ensures lacks
