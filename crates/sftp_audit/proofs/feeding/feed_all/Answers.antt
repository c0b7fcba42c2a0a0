-- Each turn of the loop gives an event and feeds it; the feed ends where no event is left, or at an error.
use Rattle.sftp_audit.proofs.Imports.{◌≡◌, ℕ, None, Some, Event, refl, sym, subst, ◌∙◌, arith, err_from_is_err_and}
use Rattle.std.proofs.lemmas.Grind.{common_steps}
use Rattle.sftp_audit.proofs.streams.{gave_event, IsFeeding, feeding-start, feeding-next, all-fed, stops-fault}
use Rattle.sftp_audit.proofs.streams.{stops-refused, fault-refuses_nothing, refused-for_good, told-fault}
use Rattle.sftp_audit.proofs.streams.{told-refused}
use Rattle.sftp_audit.proofs.feeding.feed_all.Goals as goal

pub events-init : goal.events-init
events-init g c = record {
  feeding = feeding-start g.J.Judges.allowed c.args.auditor.now c.args.records.now;
  faultless = λ is. is;
  sound = λ is. refl;
}

pub returns-in-Err-clause-stopped : goal.returns-in-Err-clause-stopped
returns-in-Err-clause-stopped g c =
    rw c.from-in-Err.ensures (λ judged start transcript new stands.
    let feeding = c.events.invariant.feeding start transcript new stands in
    stops-fault g.J.Judges.allowed start transcript c.events.requests c.events.auditor c.events.records c.in-Err.error feeding
    (c.in-Err.ensures.first transcript feeding.ahead feeding.seen feeding.given) judged)

pub returns-in-Err-clause-for_good : goal.returns-in-Err-clause-for_good
returns-in-Err-clause-for_good g c =
    rw c.from-in-Err.ensures (fault-refuses_nothing c.events.auditor c.in-Err.error)

pub events-preserved : goal.events-preserved
events-preserved g c = record {
  feeding = λ start transcript new stands.
      let feeding = c.events.invariant.feeding start transcript new stands in
      let gave = gave_event transcript feeding.seen _ c.next.new.self c.in-Ok-Some.event c.in-Ok-Some.field-0-is
      (c.in-Ok-Some.ensures.first transcript feeding.ahead feeding.seen feeding.given) in
      let fed =
      feeding-next g.J.Judges.allowed start transcript c.events.requests c.events.auditor c.judge_event.new.self c.events.records
      c.next.new.self c.in-Ok-Some.event feeding gave (c.in_ok-judge_event-in-Ok-Some.ensures.stands start feeding.seen feeding.stands) in
      subst (λ (m : ℕ). IsFeeding g.J.Judges.allowed start transcript m c.judge_event.new.self c.next.new.self) (grind (arith, common_steps)) fed;
  faultless = λ is. c.in-Ok-Some.ensures.fault;
  sound = λ is. c.in-Ok-Some.ensures.counts (c.events.invariant.faultless is) ∙ c.events.invariant.sound is;
}

pub returns-in_err-judge_event-in-Ok-Some-clause-stopped : goal.returns-in_err-judge_event-in-Ok-Some-clause-stopped
returns-in_err-judge_event-in-Ok-Some-clause-stopped g c =
    let p = err_from_is_err_and c.from_residual.result c.from_residual.ensures.1 in
    rw (p.1, p.2) (λ judged start transcript new stands.
    let feeding = c.events.invariant.feeding start transcript new stands in
    let gave = gave_event transcript feeding.seen _ c.next.new.self c.in-Ok-Some.event c.in-Ok-Some.field-0-is
    (c.in-Ok-Some.ensures.first transcript feeding.ahead feeding.seen feeding.given) in
    stops-refused g.J.Judges.allowed start transcript c.events.requests c.events.auditor c.events.records c.next.new.self c.in-Ok-Some.event
    c.in_err-judge_event-in-Ok-Some.field-0.0 feeding gave (c.in_err-judge_event-in-Ok-Some.ensures.refused start feeding.seen feeding.stands))

pub returns-in_err-judge_event-in-Ok-Some-clause-for_good : goal.returns-in_err-judge_event-in-Ok-Some-clause-for_good
returns-in_err-judge_event-in-Ok-Some-clause-for_good g c =
    let p = err_from_is_err_and c.from_residual.result c.from_residual.ensures.1 in
    rw (p.1, p.2) (refused-for_good c.judge_event.new.self c.in_err-judge_event-in-Ok-Some.field-0.0 c.in_err-judge_event-in-Ok-Some.ensures.for_good)

pub returns-in-Err-clause-told : goal.returns-in-Err-clause-told
returns-in-Err-clause-told g c =
    rw c.from-in-Err.ensures (λ judged start transcript new stands.
    let feeding = c.events.invariant.feeding start transcript new stands in
    told-fault g.J.Judges.allowed g.J.Judges.follows start transcript c.events.auditor.follows
    c.in-Err.error feeding.stands.followed)

pub returns-in_err-judge_event-in-Ok-Some-clause-told : goal.returns-in_err-judge_event-in-Ok-Some-clause-told
returns-in_err-judge_event-in-Ok-Some-clause-told g c =
    let p = err_from_is_err_and c.from_residual.result c.from_residual.ensures.1 in
    rw (p.1, p.2) (λ judged start transcript new stands.
    let feeding = c.events.invariant.feeding start transcript new stands in
    let gave = gave_event transcript feeding.seen _ c.next.new.self c.in-Ok-Some.event c.in-Ok-Some.field-0-is
    (c.in-Ok-Some.ensures.first transcript feeding.ahead feeding.seen feeding.given) in
    told-refused g.J.Judges.allowed g.J.Judges.follows start transcript c.events.requests c.events.auditor
    c.events.records c.next.new.self c.in-Ok-Some.event c.judge_event.new.self.follows c.in_err-judge_event-in-Ok-Some.field-0.0
    feeding gave (c.in_err-judge_event-in-Ok-Some.ensures.told start feeding.seen feeding.stands))

nothing_given : {event : Event} → None ≡ Some event → ⊥
nothing_given is = cc

pub returns-in-Ok-None-clause-fed : goal.returns-in-Ok-None-clause-fed
returns-in-Ok-None-clause-fed g c = λ start transcript new stands.
    let feeding = c.events.invariant.feeding start transcript new stands in
    all-fed g.J.Judges.allowed start transcript c.events.requests c.events.auditor c.events.records c.next.new.self
    c.in-Ok-None.field-0 feeding
    (λ event some. nothing_given (sym c.in-Ok-None.field-0-is ∙ some))
    (c.in-Ok-None.ensures.first transcript feeding.ahead feeding.seen feeding.given)
