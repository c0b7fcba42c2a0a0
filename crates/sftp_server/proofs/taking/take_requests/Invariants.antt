use Rattle.sftp_server.proofs.Imports.{length}
use Rattle.sftp_server.proofs.Sessions.Asked.{HasTaken}
use Rattle.sftp_server.proofs.taking.take_requests.Given as goal

abbrev pub invariant-front : goal.invariant-front
invariant-front g l = HasTaken l.initial.input l.input l.initial.core l.core l.initial.log l.log

abbrev pub decreases-front : goal.decreases-front
decreases-front g l = length l.input.held
