use Rattle.sftp_server.proofs.Sessions.Asked.{takes-no-memory}
use Rattle.sftp_server.proofs.taking.take_one.Goals as goal

pub returns-in-Err-clause-running : goal.returns-in-Err-clause-running
returns-in-Err-clause-running g c = takes-no-memory c.args.input.now c.args.core.now c.args.log.now.bytes
