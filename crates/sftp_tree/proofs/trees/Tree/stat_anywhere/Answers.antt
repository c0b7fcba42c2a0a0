use Rattle.sftp_tree.proofs.Imports.{◌≡◌, sym, ◌∙◌, ap, asked, stat_ask}
use Rattle.sftp_tree.proofs.Requests.Rows.{stat-taken, stat-shown}
use Rattle.sftp_tree.proofs.trees.Tree.stat_anywhere.Goals as goal
use Rattle.sftp_tree.proofs.trees.Tree.stat_anywhere.Goals.{then-follow, else-follow}

pub shown_at-requires-clause-taken : goal.shown_at-requires-clause-taken
shown_at-requires-clause-taken c =
    let is : asked c.if-follow.ask ≡ stat_ask c.args.follow c.args.path.now = elim c.if-follow.branch [
      | then-follow w ↦ ap asked w.ask-is ∙ ap (λ b. stat_ask b c.args.path.now) (sym w.if-follow.true)
      | else-follow w ↦ ap asked w.ask-is ∙ ap (λ b. stat_ask b c.args.path.now) (sym w.if-follow.false)
    ] in
    stat-taken c.args.self.now (asked c.if-follow.ask) c.args.follow c.args.path.now c.in_ok-places.places.old.place is c.in_ok-places.ensures.free c.in_ok-places.ensures.led.first

pub returns-clause-shown : goal.returns-clause-shown
returns-clause-shown c =
    let is : asked c.if-follow.ask ≡ stat_ask c.args.follow c.args.path.now = elim c.if-follow.branch [
      | then-follow w ↦ ap asked w.ask-is ∙ ap (λ b. stat_ask b c.args.path.now) (sym w.if-follow.true)
      | else-follow w ↦ ap asked w.ask-is ∙ ap (λ b. stat_ask b c.args.path.now) (sym w.if-follow.false)
    ] in
    stat-shown c.args.self.now (asked c.if-follow.ask) c.args.follow c.args.path.now c.in_ok-places.places.old.place c.shown_at.result is c.in_ok-places.ensures.led.first c.shown_at.ensures
