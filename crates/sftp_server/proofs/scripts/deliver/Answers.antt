use Rattle.sftp_server.proofs.Imports.{refl}
use Rattle.sftp_server.proofs.ScriptLaws.{performed-taken, performed-refused}
use Rattle.sftp_server.proofs.scripts.deliver.Goals as goal

pub returns-in-Ok : goal.returns-in-Ok
returns-in-Ok c =
    performed-taken c.args.request.now c.in_ok-copy.copy c.args.core.now c.deliver.new.self c.args.events.now.items
    c.note.new.events.items c.note.result c.in_ok-copy.ensures.same c.in_ok-copy.ensures.value
    c.in-Ok.ensures.could c.in-Ok.ensures.taken c.note.ensures

pub returns-in-Err : goal.returns-in-Err
returns-in-Err c =
    performed-refused c.args.request.now c.in_ok-copy.copy c.in-Err.returned.1 c.args.core.now c.deliver.new.self
    c.args.events.now.items c.args.events.now.items c.refused.result c.in_ok-copy.ensures.same
    c.in_ok-copy.ensures.value c.in-Err.ensures.refused c.in-Err.ensures.err refl c.refused.ensures
