-- Each turn of the loop gives an event and notes it; it ends where no event is left, or at an error.
use Rattle.sftp_audit.proofs.Imports.{◌≡◌, None, Some, Event, sym, ◌∙◌, err_from_is_err_and}
use Rattle.sftp_sets.proofs.Timing.{collecting-start, collecting-next, collecting-end, stops-at-fault, stops-at-event}
use Rattle.sftp_sets.proofs.reading.collect.Goals as goal

pub events-init : goal.events-init
events-init g c = record {
  holds = λ transcript new.
      collecting-start c.args.times.now.start c.args.times.now.entries.items transcript c.args.collected.now
      c.args.records.now c.requires.done c.requires.kept c.requires.number new;
}

pub events-preserved : goal.events-preserved
events-preserved g c = record {
  holds = λ transcript new.
      let at = c.events.invariant.holds transcript new in
      collecting-next c.args.times.now.start c.args.times.now.entries.items transcript c.events.collected
      c.events.records c.in-Ok-Some.event _ c.note.new.self c.next.new.self at c.in-Ok-Some.field-0-is
      (c.in-Ok-Some.ensures.first transcript at.ahead at.seen at.given) c.in_ok-note-in-Ok-Some.ensures.holds;
}

pub returns-in-Err-clause-stopped : goal.returns-in-Err-clause-stopped
returns-in-Err-clause-stopped g c =
    rw c.from.ensures (λ judged transcript new.
    let at = c.events.invariant.holds transcript new in
    stops-at-fault c.args.times.now.start c.args.times.now.entries.items transcript c.events.collected c.events.records
    c.in-Err.error at (c.in-Err.ensures.first transcript at.ahead at.seen at.given) judged)

pub returns-in_err-note-in-Ok-Some-clause-stopped : goal.returns-in_err-note-in-Ok-Some-clause-stopped
returns-in_err-note-in-Ok-Some-clause-stopped g c =
    let p = err_from_is_err_and c.from_residual.result c.from_residual.ensures.1 in
    rw (p.1, p.2) (λ judged transcript new.
    let at = c.events.invariant.holds transcript new in
    stops-at-event c.args.times.now.start c.args.times.now.entries.items transcript c.events.collected c.events.records
    c.next.new.self c.in-Ok-Some.event _ c.in_err-note-in-Ok-Some.field-0.0 at c.in-Ok-Some.field-0-is
    (c.in-Ok-Some.ensures.first transcript at.ahead at.seen at.given) c.in_err-note-in-Ok-Some.ensures.refused)

nothing_given : {event : Event} → None ≡ Some event → ⊥
nothing_given is = cc

pub returns-in-Ok-None-clause-read : goal.returns-in-Ok-None-clause-read
returns-in-Ok-None-clause-read g c = λ transcript new.
    let at = c.events.invariant.holds transcript new in
    collecting-end c.args.times.now.start c.args.times.now.entries.items transcript c.events.collected c.events.records
    c.next.new.self c.in-Ok-None.field-0 at (λ event some. nothing_given (sym c.in-Ok-None.field-0-is ∙ some))
    (c.in-Ok-None.ensures.first transcript at.ahead at.seen at.given)
