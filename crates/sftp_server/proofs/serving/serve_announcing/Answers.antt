-- The session begins with nothing read; it is opened, or its first packet ends it.
use Rattle.sftp_server.proofs.Imports.{subst, sym, IsAtEnd, stream_bytes, IsUnopenedYet}
use Rattle.sftp_server.specs.Ending.{IsFirst}
use Rattle.sftp_server.specs.Served.{announcing}
use Rattle.sftp_server.proofs.Sessions.Closed.{unopened-at_start, unopened-stops, unopened, stopped-end}
use Rattle.sftp_server.proofs.serving.serve_announcing.Goals as goal

pub returns-in-Err-clause-served : goal.returns-in-Err-clause-served
returns-in-Err-clause-served g c =
    let past =
    stream_bytes (g.R.Source.left c.args.reader.now) (g.W.Sink.written c.args.writer.now) c.args.log.now.bytes in
    (stopped-end {start = announcing c.args.tree c.args.version.now} c.leaving.ensures.ended c.leaving.ensures.left
    (unopened-stops (unopened-at_start past) c.in-Err.ensures.err)).0

pub returns-in-Err-clause-left : goal.returns-in-Err-clause-left
returns-in-Err-clause-left g c =
    let past =
    stream_bytes (g.R.Source.left c.args.reader.now) (g.W.Sink.written c.args.writer.now) c.args.log.now.bytes in
    (stopped-end {start = announcing c.args.tree c.args.version.now} c.leaving.ensures.ended c.leaving.ensures.left
    (unopened-stops (unopened-at_start past) c.in-Err.ensures.err)).1

pub returns-in-Ok-Init-clause-served : goal.returns-in-Ok-Init-clause-served
returns-in-Ok-Init-clause-served g c =
    let written = g.W.Sink.written c.args.writer.now in
    let past = stream_bytes (g.R.Source.left c.args.reader.now) written c.args.log.now.bytes in
    (c.serve_from.ensures.served past
    (c.in-Ok-Init.ensures.unopened (announcing c.args.tree c.args.version.now) past written c.args.log.now.bytes
    (subst (IsUnopenedYet past past) (sym c.in-Ok.ensures.empty) (unopened-at_start past)))).0

pub returns-in-Ok-Init-clause-left : goal.returns-in-Ok-Init-clause-left
returns-in-Ok-Init-clause-left g c =
    let written = g.W.Sink.written c.args.writer.now in
    let past = stream_bytes (g.R.Source.left c.args.reader.now) written c.args.log.now.bytes in
    (c.serve_from.ensures.served past
    (c.in-Ok-Init.ensures.unopened (announcing c.args.tree c.args.version.now) past written c.args.log.now.bytes
    (subst (IsUnopenedYet past past) (sym c.in-Ok.ensures.empty) (unopened-at_start past)))).1

pub returns-in-Ok-Fault-clause-served : goal.returns-in-Ok-Fault-clause-served
returns-in-Ok-Fault-clause-served g c =
    let written = g.W.Sink.written c.args.writer.now in
    let past = stream_bytes (g.R.Source.left c.args.reader.now) written c.args.log.now.bytes in
    let left = g.R.Source.left c.await_init.new.reader in
    let now = stream_bytes left written c.args.log.now.bytes in
    unopened (announcing c.args.tree c.args.version.now) past now c.await_init.new.input c.in-Ok-Fault.fault
    (c.in-Ok-Fault.ensures.unopened (announcing c.args.tree c.args.version.now) past written c.args.log.now.bytes
    (subst (IsUnopenedYet past past) (sym c.in-Ok.ensures.empty) (unopened-at_start past)))
    (subst (IsFirst c.await_init.new.input.held (IsAtEnd left)) c.in-Ok-Fault.field-0-is c.in-Ok-Fault.ensures.first)

pub returns-clause-served : goal.returns-clause-served
returns-clause-served g c =
    let written = g.W.Sink.written c.args.writer.now in
    let past = stream_bytes (g.R.Source.left c.args.reader.now) written c.args.log.now.bytes in
    (stopped-end c.leaving-in-Err-await_init.ensures.ended c.leaving-in-Err-await_init.ensures.left
    (c.in-Err-await_init.ensures.unopened (announcing c.args.tree c.args.version.now) past written c.args.log.now.bytes
    (subst (IsUnopenedYet past past) (sym c.in-Ok.ensures.empty) (unopened-at_start past)))).0

pub returns-clause-left : goal.returns-clause-left
returns-clause-left g c =
    let written = g.W.Sink.written c.args.writer.now in
    let past = stream_bytes (g.R.Source.left c.args.reader.now) written c.args.log.now.bytes in
    (stopped-end c.leaving-in-Err-await_init.ensures.ended c.leaving-in-Err-await_init.ensures.left
    (c.in-Err-await_init.ensures.unopened (announcing c.args.tree c.args.version.now) past written c.args.log.now.bytes
    (subst (IsUnopenedYet past past) (sym c.in-Ok.ensures.empty) (unopened-at_start past)))).1
