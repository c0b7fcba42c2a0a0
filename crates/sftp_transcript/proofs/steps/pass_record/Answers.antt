-- What is taken from the bytes held is taken from the bytes ahead.
use Rattle.sftp_transcript.proofs.Imports.{◌≡◌, ◌-◌, ◌<◌, length, rules, sym, subst, Ahead}
use Rattle.sftp_transcript.proofs.Imports.{bytes_ahead, ahead_without, BeginsNext, MayCome, record_number, Begins, HasAhead, Took}
use Rattle.sftp_transcript.specs.declared.stage.Stage.TheVariants as stages
use Rattle.sftp_transcript.specs.Transcript.{KindFault}
use Rattle.sftp_transcript.proofs.Packets.{stage_fault, fault_held}
use Rattle.sftp_streams.proofs.Buffers.{known_kept}
use Rattle.sftp_transcript.proofs.Fronts.{record_took}
use Rattle.sftp_transcript.proofs.steps.pass_record.Goals as goal

pub returns-in-Err-clause-first : goal.returns-in-Err-clause-first
returns-in-Err-clause-first g c = λ before known.
    let m = c.fill_record.new.self in
    let stage = c.args.stage in
    let now : HasAhead m before =
    known_kept (bytes_ahead c.args.input.now) (bytes_ahead m) before c.fill_record.ensures.same.bytes known in
    let some : stage ≡ stages.Events → 0 < length m.held = search rules in
    let fault : KindFault (MayCome stage) (record_number stage c.args.number) m.held c.in-Err.error =
    rw (← c.held-2.ensures, ← c.record_number-place.ensures) c.in-Err.ensures.refused in
    stage_fault stage c.args.number m before c.in-Err.error c.requires now c.in_ok-fill_record.ensures.end c.in_ok-fill_record.ensures.part some fault

pub returns-in-Err-clause-refused : goal.returns-in-Err-clause-refused
returns-in-Err-clause-refused g c =
    let m = c.fill_record.new.self in
    let stage = c.args.stage in
    let fault : KindFault (MayCome stage) (record_number stage c.args.number) m.held c.in-Err.error =
    rw (← c.held-2.ensures, ← c.record_number-place.ensures) c.in-Err.ensures.refused in
    fault_held stage c.args.number m.held c.in-Err.error c.requires fault

pub returns-in-Ok-clause-found : goal.returns-in-Ok-clause-found
returns-in-Ok-clause-found g c = λ before known.
    let m = c.fill_record.new.self in
    let now : HasAhead m before =
    known_kept (bytes_ahead c.args.input.now) (bytes_ahead m) before c.fill_record.ensures.same.bytes known in
    let packet = c.in-Ok.packet in
    let rest = c.in-Ok.rest.now in
    let new : c.take.new.self ≡ ahead_without (length m.held - length rest) m = search rules in
    let begins : Begins m.held packet rest = rw (← c.held-2.ensures) c.in-Ok.ensures.found.1 in
    subst (λ (a : Ahead). Took (λ all after. BeginsNext c.args.stage all packet after) before a) (sym new)
    (record_took c.args.stage m packet rest before c.requires now c.in-Ok.ensures.found.0 begins)
