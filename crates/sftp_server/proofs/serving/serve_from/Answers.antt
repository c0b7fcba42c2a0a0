-- Once memory is there, the session is opened, served, and ends.
use Rattle.sftp_server.proofs.Imports.{Some, None, refl, subst, sym, ap, ◌∙◌, State, Machine, stream_bytes, IsRunning}
use Rattle.sftp_server.proofs.Imports.{tree_left}
use Rattle.sftp_server.specs.Served.{announcing}
use Rattle.sftp_server.proofs.Sessions.Closed.{unopened-stops, stopped-end, closed-session}
use Rattle.sftp_server.proofs.serving.serve_from.Goals as goal

pub returns-in_default-clause-served : goal.returns-in_default-clause-served
returns-in_default-clause-served g c = λ past yet.
    stopped-end c.leaving.ensures.ended c.leaving.ensures.left (unopened-stops yet refl)

pub returns-in_default-with_capacity-clause-served : goal.returns-in_default-with_capacity-clause-served
returns-in_default-with_capacity-clause-served g c = λ past yet.
    let call = c.leaving-in_default-with_capacity in
    stopped-end call.ensures.ended call.ensures.left (unopened-stops yet refl)

pub returns-in-Err-clause-served : goal.returns-in-Err-clause-served
returns-in-Err-clause-served g c = λ past yet.
    let call = c.leaving-in-Err in
    stopped-end call.ensures.ended
    (call.ensures.left ∙ ap Some c.into_tree.ensures
    ∙ ap (λ (core : Machine State). tree_left core) c.in-Ok.ensures.start)
    (c.in-Err.ensures.running (announcing c.args.tree c.args.version.now) past (g.R.Source.left c.args.reader.now) refl
    c.in-Ok.ensures.good yet)

pub returns-in-Ok-serve_open-clause-served : goal.returns-in-Ok-serve_open-clause-served
returns-in-Ok-serve_open-clause-served g c = λ past yet.
    let left = g.R.Source.left c.args.reader.now in
    let start = announcing c.args.tree c.args.version.now in
    let now = stream_bytes left (g.W.Sink.written c.greet.new.writer) c.greet.new.log.bytes in
    closed-session c.end.ensures
    (c.in-Ok-serve_open.ensures.running start past
    (subst (λ (core : Machine State). IsRunning start past now c.greet.new.input core None)
    (sym c.in-Ok.ensures.start)
    (c.in-Ok-greet.ensures.running start past left refl c.in-Ok.ensures.good yet)))

pub returns-clause-served : goal.returns-clause-served
returns-clause-served g c = λ past yet.
    let left = g.R.Source.left c.args.reader.now in
    let start = announcing c.args.tree c.args.version.now in
    let now = stream_bytes left (g.W.Sink.written c.greet.new.writer) c.greet.new.log.bytes in
    let call = c.leaving-in-Err-serve_open in
    stopped-end call.ensures.ended (call.ensures.left ∙ ap Some c.into_tree-in-Err-serve_open.ensures)
    (c.in-Err-serve_open.ensures.running start past
    (subst (λ (core : Machine State). IsRunning start past now c.greet.new.input core None)
    (sym c.in-Ok.ensures.start)
    (c.in-Ok-greet.ensures.running start past left refl c.in-Ok.ensures.good yet)))
