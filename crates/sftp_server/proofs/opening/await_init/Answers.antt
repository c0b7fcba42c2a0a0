use Rattle.sftp_server.proofs.Imports.{inl, inr}
use Rattle.sftp_server.proofs.Sessions.Opened.{unopened-kept, unopened-stopped, waits-room, stopped-so}
use Rattle.sftp_server.proofs.opening.await_init.Goals as goal

pub returns-in_err-first-clause-unopened : goal.returns-in_err-first-clause-unopened
returns-in_err-first-clause-unopened g c = λ start past written logged unopened.
    stopped-so c.from_residual.result _ _ c.in_err-first.field-0.0 c.from_residual.ensures.1
    (unopened-stopped (c.first.invariant.unopened past written logged unopened) (inl c.in_err-first.ensures.err))

pub read-requires : goal.read-requires
read-requires g c = waits-room c.first.input.held c.in_ok-first.field-0 c.in_ok-first.ensures.found c.in-None.is

pub returns-in_err-read-in-None-clause-unopened : goal.returns-in_err-read-in-None-clause-unopened
returns-in_err-read-in-None-clause-unopened g c = λ start past written logged unopened.
    stopped-so c.from_residual-in_err-read-in-None.result _ _ c.in_err-read-in-None.field-0.0
    c.from_residual-in_err-read-in-None.ensures.1
    (unopened-stopped
    (unopened-kept (c.first.invariant.unopened past written logged unopened) c.in_err-read-in-None.ensures.kept)
    (inr c.in_err-read-in-None.ensures.err))
