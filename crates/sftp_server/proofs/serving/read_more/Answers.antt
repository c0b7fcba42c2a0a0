-- After the writer's flush the session reads; at the end of the input it ends.
use Rattle.sftp_server.proofs.Imports.{None, subst, sym, arith, ◌≡◌, Ok, err_from_is_err_and, Client, front_of}
use Rattle.sftp_server.proofs.Imports.{none-leaves_room, Ahead}
use Rattle.sftp_server.proofs.Sessions.Closed.{writer-stops, reader-stops, log-stops, running-written, running-more}
use Rattle.sftp_server.proofs.Sessions.Closed.{running-logged, ending-whole, ending-cut, nothing-read, held-none}
use Rattle.sftp_server.proofs.Sessions.Closed.{held-some}
use Rattle.sftp_server.proofs.serving.read_more.Goals as goal

pub returns-in_err-flush-clause-running : goal.returns-in_err-flush-clause-running
returns-in_err-flush-clause-running g c =
    let p = err_from_is_err_and c.from_residual.result c.from_residual.ensures.1 in
    rw (p.1, p.2) (λ start past core running answered.
    writer-stops running c.flush.ensures.bytes c.in_err-flush.ensures.err)

pub read-requires : goal.read-requires
read-requires g c = omega (arith, none-leaves_room Client c.args.input.now.held c.requires.waits)

pub returns-in_err-read-clause-running : goal.returns-in_err-read-clause-running
returns-in_err-read-clause-running g c =
    let p = err_from_is_err_and c.from_residual-in_err-read.result c.from_residual-in_err-read.ensures.1 in
    rw (p.1, p.2) (λ start past core running answered.
    reader-stops (running-written running c.flush.ensures.bytes) c.in_err-read.ensures.kept c.in_err-read.ensures.err)

pub returns-then-branch-gt0-clause-running : goal.returns-then-branch-gt0-clause-running
returns-then-branch-gt0-clause-running g c = λ start past core running answered.
    running-more running c.flush.ensures.bytes c.in_ok-read.ensures.ok

pub returns-in_err-flush_log-clause-running : goal.returns-in_err-flush_log-clause-running
returns-in_err-flush_log-clause-running g c =
    let p = err_from_is_err_and c.from_residual-in_err-flush_log.result c.from_residual-in_err-flush_log.ensures.1 in
    rw (p.1, p.2) (λ start past core running answered.
    log-stops (running-more running c.flush.ensures.bytes c.in_ok-read.ensures.ok) c.flush_log.ensures.bytes
    c.in_err-flush_log.ensures.err)

pub returns-then-is_empty-clause-running : goal.returns-then-is_empty-clause-running
returns-then-is_empty-clause-running g c = λ start past core running answered.
    ending-whole
    (running-logged (running-more running c.flush.ensures.bytes c.in_ok-read.ensures.ok) c.flush_log.ensures.bytes)
    answered (c.in_ok-read.ensures.end (omega arith))
    (held-none c.read.new.self.held c.held.result.now c.is_empty.result c.held.ensures c.is_empty.ensures
    c.if-is_empty.true)

pub returns-else-is_empty-clause-running : goal.returns-else-is_empty-clause-running
returns-else-is_empty-clause-running g c = λ start past core running answered.
    let none : c.in_ok-read.field-0 ≡ 0 = omega arith in
    let same : c.read.new.self ≡ c.args.input.now =
    nothing-read (g.R.Source.left c.args.reader.now) (g.R.Source.left c.read.new.reader) c.in_ok-read.ensures.ok none in
    ending-cut
    (running-logged (running-more running c.flush.ensures.bytes c.in_ok-read.ensures.ok) c.flush_log.ensures.bytes)
    answered (c.in_ok-read.ensures.end none)
    (held-some c.read.new.self.held c.held.result.now c.is_empty.result c.held.ensures c.is_empty.ensures
    c.if-is_empty.false)
    (subst (λ (a : Ahead). front_of Client a.held ≡ Ok None) (sym same) c.requires.waits) c.place-place.ensures
