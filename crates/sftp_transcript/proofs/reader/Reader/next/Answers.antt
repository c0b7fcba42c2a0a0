-- A reader comes past INIT and VERSION to an event, to the end, or to an error.
use Rattle.sftp_transcript.proofs.Imports.{◌≡◌, Some, None, refl, ap, ◌∙◌, arith}
use Rattle.sftp_transcript.proofs.Imports.{[]}
use Rattle.sftp_transcript.specs.Packets.{event_in}
use Rattle.std.proofs.Common.{rules}
use Rattle.std.proofs.lemmas.Grind.{common_steps}
use Rattle.sftp_transcript.proofs.Reaching.{comes-start, comes-then, comes-untaken, comes-past, ended-past, known-after}
use Rattle.sftp_transcript.proofs.Reaching.{same-by, gave-event, gives-event, gave-none, gives-none, given-by, gave-end}
use Rattle.sftp_transcript.proofs.Reaching.{excused-events, fault-of, number-is, onward}
use Rattle.sftp_transcript.proofs.reader.Reader.next.Goals as goal

pub greetings-init : goal.greetings-init
greetings-init g c = record {
  comes = comes-start c.args.self.now;
  number = refl;
  fault = refl;
  again = λ error is. refl;
  failures = λ none. refl;
  never_rises = omega arith;
  onward = omega arith;
}

-- ---- an error

pub returns-in-Err-clause-only : goal.returns-in-Err-clause-only
returns-in-Err-clause-only g c = λ events none r.
    let passed = c.greetings.invariant in
    excused-events c.args.self.now c.greetings.self c.in-Err.error passed.comes
    (λ before known. c.in-Err.ensures.first before (passed.fault ∙ none) known) events r

pub returns-in-Err-clause-first : goal.returns-in-Err-clause-first
returns-in-Err-clause-first g c = λ bytes ahead events has.
    let passed = c.greetings.invariant in
    fault-of c.args.self.now c.greetings.self c.in-Err.error passed.comes passed.number passed.fault
    (λ before known. c.in-Err.ensures.first before (passed.fault ∙ has.faultless) known) bytes ahead events has

pub returns-in-Err-clause-still : goal.returns-in-Err-clause-still
returns-in-Err-clause-still g c = λ bytes ahead events has.
    let passed = c.greetings.invariant in
    let mid = given-by c.args.self.now c.greetings.self None passed.comes passed.number passed.fault bytes ahead events has in
    c.in-Err.ensures.still bytes mid.0 events mid.1

pub returns-in-Err-clause-no_memory : goal.returns-in-Err-clause-no_memory
returns-in-Err-clause-no_memory g c = λ is.
    let old = c.args.self.now in
    let mid = c.greetings.self in
    let new = c.next_record.new.self in
    let passed = c.greetings.invariant in
    let same = c.in-Err.ensures.no_memory (cc is) in
    same-by old new (comes-then old mid new None passed.comes (comes-untaken mid new c.in-Err.ensures.kept))
    (same.number ∙ passed.number) (same.fault ∙ passed.fault) (omega (arith, same.never_rises, passed.never_rises))

-- ---- an event

pub returns-in-Some-clause-found : goal.returns-in-Some-clause-found
returns-in-Some-clause-found g c =
    gave-event c.args.self.now c.next_record.new.self c.in-Some.event
    (comes-past c.args.self.now c.greetings.self c.next_record.new.self c.in-Ok-Some.field-0 c.greetings.invariant.comes
    c.in-Ok-Some.ensures.found (Some c.in-Some.event) (search rules))

pub returns-in-Some-clause-only : goal.returns-in-Some-clause-only
returns-in-Some-clause-only g c = λ events none r.
    gives-event c.args.self.now c.next_record.new.self c.in-Some.event
    (comes-past c.args.self.now c.greetings.self c.next_record.new.self c.in-Ok-Some.field-0 c.greetings.invariant.comes
    c.in-Ok-Some.ensures.found (Some c.in-Some.event) (search rules)) events r

pub returns-in-Some-clause-first : goal.returns-in-Some-clause-first
returns-in-Some-clause-first g c = λ bytes ahead events has.
    let passed = c.greetings.invariant in
    let mid = given-by c.args.self.now c.greetings.self None passed.comes passed.number passed.fault bytes ahead events has in
    let is : event_in c.in-Ok-Some.field-0 ≡ Some c.in-Some.event = search rules in
    rw is at (c.in-Ok-Some.ensures.given bytes mid.0 events mid.1)

pub returns-in-Some-clause-known : goal.returns-in-Some-clause-known
returns-in-Some-clause-known g c =
    known-after c.args.self.now c.next_record.new.self (Some c.in-Some.event)
    (comes-past c.args.self.now c.greetings.self c.next_record.new.self c.in-Ok-Some.field-0 c.greetings.invariant.comes
    c.in-Ok-Some.ensures.found (Some c.in-Some.event) (search rules))

-- ---- an INIT or a VERSION

pub greetings-preserved : goal.greetings-preserved
greetings-preserved g c = record {
  comes = comes-past c.args.self.now c.greetings.self c.next_record.new.self c.in-Ok-Some.field-0 c.greetings.invariant.comes
      c.in-Ok-Some.ensures.found None (search rules);
  number = grind (arith, common_steps, number-is);
  fault = grind (arith, common_steps);
  again = λ error is. grind (arith, common_steps);
  failures = λ none. grind (arith, common_steps);
  never_rises = grind (arith, common_steps);
  onward = grind (arith, common_steps, onward);
}

-- ---- the end

pub returns-in-Ok-None-clause-found : goal.returns-in-Ok-None-clause-found
returns-in-Ok-None-clause-found g c =
    let old = c.args.self.now in
    let new = c.next_record.new.self in
    gave-none old new
    (comes-past old c.greetings.self new c.in-Ok-None.field-0 c.greetings.invariant.comes c.in-Ok-None.ensures.found None (ap event_in c.in-Ok-None.field-0-is))
    (ended-past old c.greetings.self new c.in-Ok-None.field-0 c.greetings.invariant.comes c.in-Ok-None.ensures.found c.in-Ok-None.field-0-is)

pub returns-in-Ok-None-clause-only : goal.returns-in-Ok-None-clause-only
returns-in-Ok-None-clause-only g c = λ events none r.
    let old = c.args.self.now in
    let new = c.next_record.new.self in
    gives-none old new
    (comes-past old c.greetings.self new c.in-Ok-None.field-0 c.greetings.invariant.comes c.in-Ok-None.ensures.found None (ap event_in c.in-Ok-None.field-0-is))
    (ended-past old c.greetings.self new c.in-Ok-None.field-0 c.greetings.invariant.comes c.in-Ok-None.ensures.found c.in-Ok-None.field-0-is)
    events r

pub returns-in-Ok-None-clause-first : goal.returns-in-Ok-None-clause-first
returns-in-Ok-None-clause-first g c = λ bytes ahead events has.
    let old = c.args.self.now in
    let new = c.next_record.new.self in
    gave-end old new
    (comes-past old c.greetings.self new c.in-Ok-None.field-0 c.greetings.invariant.comes c.in-Ok-None.ensures.found None (ap event_in c.in-Ok-None.field-0-is))
    (ended-past old c.greetings.self new c.in-Ok-None.field-0 c.greetings.invariant.comes c.in-Ok-None.ensures.found c.in-Ok-None.field-0-is)
    (grind (arith, common_steps)) (grind (arith, common_steps)) bytes ahead events has

pub returns-in-Ok-None-clause-known : goal.returns-in-Ok-None-clause-known
returns-in-Ok-None-clause-known g c = λ known. (
  [],
  (ended-past c.args.self.now c.greetings.self c.next_record.new.self c.in-Ok-None.field-0 c.greetings.invariant.comes
      c.in-Ok-None.ensures.found c.in-Ok-None.field-0-is known).1,
)
