use Rattle.sftp_tree.proofs.Imports.{◌≡◌, subst, ap, ◌∙◌, IfSome, asked, planned, AreAny, IsPlanned, HasNode}
use Rattle.sftp_tree.specs.Requests.{plan_at}
use Rattle.sftp_tree.specs.Plans.{IsFoundIn, new_placed}
use Rattle.sftp_tree.specs.Plans.{ok_where}
use Rattle.sftp_tree.proofs.CauseLaws.{free-between}
use Rattle.sftp_tree.proofs.Requests.{if-ok-both}
use Rattle.sftp_tree.proofs.Requests.Rows.{file-at}
use Rattle.sftp_tree.proofs.Requests.Rows.{planned-at, planned-between}
use Rattle.sftp_tree.proofs.trees.Tree.plan_for.Goals as goal

pub plan_between-requires-clause-file : goal.plan_between-requires-clause-file
plan_between-requires-clause-file c =
    let t = c.args.self.now in
    let ask = asked c.args.ask in
    file-at t ask c.args.places.old.place c.in-Some.new.place (free-between t ask c.args.places.old.place c.in-Some.new.place c.requires.free c.requires.led.first (c.requires.led.second ∙ ap (λ o. new_placed (ok_where o)) c.in-Some.is))

pub returns-in-None : goal.returns-in-None
returns-in-None c =
    let t = c.args.self.now in
    let ask = asked c.args.ask in
    let place = c.args.places.old.place in
    if-ok-both c.plan_at.result (λ plan. planned plan ≡ plan_at t ask place) (λ plan. HasNode AreAny t ask place) (IsPlanned t ask)
    (λ plan is good. planned-at t ask place plan c.requires.free c.requires.led.first (c.requires.led.second ∙ ap (λ o. new_placed (ok_where o)) c.in-None.is) c.requires.well.0.place good is)
    c.plan_at.ensures.plan c.plan_at.ensures.node

pub returns-in-Some : goal.returns-in-Some
returns-in-Some c =
    let t = c.args.self.now in
    let ask = asked c.args.ask in
    let well : IsFoundIn t c.in-Some.new = subst (λ o. IfSome o (IsFoundIn t)) c.in-Some.is c.requires.well.1 in
    planned-between t ask c.args.places.old.place c.in-Some.new.place c.plan_between.result c.requires.free c.requires.led.first (c.requires.led.second ∙ ap (λ o. new_placed (ok_where o)) c.in-Some.is) well.place c.plan_between.ensures
