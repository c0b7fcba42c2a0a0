-- The VERSION is the usual one.
use Rattle.sftp_server.proofs.Imports.{Packet, HasSpelling, StreamBytes, stream_bytes, subst, sym, version_spelled}
use Rattle.sftp_server.specs.Left.{LeavesFrom}
use Rattle.sftp_server.specs.Served.{announcing, usual, ServesFrom}
use Rattle.sftp_server.proofs.Sessions.Closed.{unopened-at_start, unopened-stops, stopped-end}
use Rattle.sftp_server.proofs.serving.serve_as.Goals as goal

pub serve_announcing-end-requires-clause-spelled : goal.serve_announcing-end-requires-clause-spelled
serve_announcing-end-requires-clause-spelled g c = subst HasSpelling (sym c.in-Ok.ensures.ok) version_spelled

pub returns-in-Err-clause-served : goal.returns-in-Err-clause-served
returns-in-Err-clause-served g c =
    let past =
    stream_bytes (g.R.Source.left c.args.reader.now) (g.W.Sink.written c.args.writer.now) c.args.log.now.bytes in
    (stopped-end {start = usual c.args.tree} c.leaving.ensures.ended c.leaving.ensures.left
    (unopened-stops (unopened-at_start past) c.in-Err.ensures.err)).0

pub returns-in-Err-clause-left : goal.returns-in-Err-clause-left
returns-in-Err-clause-left g c =
    let past =
    stream_bytes (g.R.Source.left c.args.reader.now) (g.W.Sink.written c.args.writer.now) c.args.log.now.bytes in
    (stopped-end {start = usual c.args.tree} c.leaving.ensures.ended c.leaving.ensures.left
    (unopened-stops (unopened-at_start past) c.in-Err.ensures.err)).1

pub returns-clause-served : goal.returns-clause-served
returns-clause-served g c =
    let end = c.serve_announcing-end in
    let past : StreamBytes =
    stream_bytes (g.R.Source.left c.args.reader.now) (g.W.Sink.written c.args.writer.now) c.args.log.now.bytes in
    let now : StreamBytes =
    stream_bytes (g.R.Source.left end.new.reader) (g.W.Sink.written end.new.writer) end.new.log.bytes in
    subst (λ (version : Packet). ServesFrom (announcing c.args.tree version) past now end.result.ended)
    c.in-Ok.ensures.ok end.ensures.served

pub returns-clause-left : goal.returns-clause-left
returns-clause-left g c =
    let end = c.serve_announcing-end in
    let past : StreamBytes =
    stream_bytes (g.R.Source.left c.args.reader.now) (g.W.Sink.written c.args.writer.now) c.args.log.now.bytes in
    let now : StreamBytes =
    stream_bytes (g.R.Source.left end.new.reader) (g.W.Sink.written end.new.writer) end.new.log.bytes in
    subst (λ (version : Packet). LeavesFrom (announcing c.args.tree version) past now end.result.ended end.result.left)
    c.in-Ok.ensures.ok end.ensures.left
