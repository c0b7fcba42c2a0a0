-- The record in front is the next one.
use Rattle.sftp_transcript.proofs.Imports.{◌≡◌, List, ℕ, [], subst, BeginsNext, stage_after, Reading, HasAhead}
use Rattle.sftp_transcript.specs.declared.stage.Stage.TheVariants as stages
use Rattle.sftp_transcript.proofs.reader.Reader.take_record.Goals as goal

pub returns-in-Ok-Some-clause-found : goal.returns-in-Ok-Some-clause-found
returns-in-Ok-Some-clause-found g c =
    let packet = c.in-Ok-Some.packet in
    let new = c.pass_record.new.input in
    subst
    (λ (s : Reading). (before : List ℕ) → HasAhead s.ahead before → (c.stage_after-self-inside.result ≡ stage_after s.stage) × ((x : List ℕ) × HasAhead new x × BeginsNext s.stage before packet x))
    c.self.view_is
    (λ before known. (c.stage_after-self-inside.ensures, rw c.in-Ok-Some.field-0-is at (c.in-Ok-Some.ensures.found before known)))

pub returns-in-Ok-None-clause-found : goal.returns-in-Ok-None-clause-found
returns-in-Ok-None-clause-found g c =
    let new = c.pass_record.new.input in
    subst
    (λ (s : Reading). (before : List ℕ) → HasAhead s.ahead before → (s.stage ≡ stages.Events) × (c.self.inside.stage ≡ stages.Events) × (before ≡ []) × HasAhead new [])
    c.self.view_is
    (λ before known. let took = rw c.in-Ok-None.field-0-is at (c.in-Ok-None.ensures.found before known) in (took.0, took.0, took.1, took.2))
