use Rattle.sftp_server.proofs.Sessions.Opened.{first-found}
use Rattle.sftp_server.proofs.opening.first_packet.Goals as goal

pub returns-in-Ok-Some-clause-found : goal.returns-in-Ok-Some-clause-found
returns-in-Ok-Some-clause-found c =
    first-found c.args.input.now.held c.held.result.now c.in-Ok-Some.field-0 c.in-Ok-Some.packet c.in-Ok-Some.count
    c.greeting-first.result c.held.ensures c.in-Ok-Some.ensures.exact c.in-Ok-Some.ensures.found
    c.in-Ok-Some.field-0-is c.greeting-first.ensures
