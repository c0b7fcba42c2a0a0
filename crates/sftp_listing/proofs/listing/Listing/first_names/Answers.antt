use Rattle.sftp_listing.proofs.Imports.{◌≤◌, ◌<◌, length, subst, ◌∙◌, arith, drop, unmarked}
use Rattle.sftp_listing.proofs.FirstNames.{first-all, first-front}
use Rattle.sftp_listing.proofs.MarkedItems.{left-none}
use Rattle.sftp_listing.proofs.FirstNames.{listed-next, few-next}
use Rattle.sftp_listing.proofs.listing.Listing.first_names.Goals as goal
use Rattle.sftp_listing.proofs.listing.Listing.first_names.Goals.{else-loop-place-test, then-loop-place-test+then-len-most}

pub loop-place-preserved : goal.loop-place-preserved
loop-place-preserved c =
    let at = c.loop-place in
    let inside = c.self.inside in
    let within : at.place < length inside.items.items =
    omega (arith, c.loop-place-test.true, c.len-place-end.ensures, inside.items.ok.0) in
    record {
      listed =
          listed-next at.names.items c.push_name.new.names.items c.item_at.result inside.items.items
          inside.marks.items at.place c.args.self.now within c.self.invariant.paired.same c.item_at.ensures
          at.invariant.listed c.in_ok-push_name.ensures;
      few =
          few-next at.names.items c.push_name.new.names.items c.item_at.result c.args.most
          (omega (arith, c.if-len-most.false, c.len.ensures, at.names.ok.0)) c.in_ok-push_name.ensures;
    }

pub returns : goal.returns
returns c =
    let at = c.loop-place in
    let inside = c.self.inside in
    let rest = unmarked (drop at.place inside.items.items) (drop at.place inside.marks.items) in
    elim c.loop-place-test.branch [
      | else-loop-place-test w ↦
          first-all at.names.items rest c.args.self.now c.args.most at.invariant.listed at.invariant.few
          (left-none inside.items.items inside.marks.items at.place
          (omega (arith, w.loop-place-test.false, c.len-place-end.ensures, inside.items.ok.0)))
      | then-loop-place-test+then-len-most w ↦
          first-front at.names.items rest c.args.self.now c.args.most at.invariant.listed at.invariant.few
          (subst (λ n. c.args.most ≤ n) (w.len.ensures ∙ at.names.ok.0) w.if-len-most.true)
    ]
