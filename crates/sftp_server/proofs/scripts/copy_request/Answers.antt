use Rattle.sftp_server.proofs.ScriptLaws.{request-value}
use Rattle.sftp_server.proofs.scripts.copy_request.Goals as goal

pub returns-clause-value : goal.returns-clause-value
returns-clause-value c =
    request-value c.args.request.now _ c.request_with.ensures.fits c.in_ok-ask.ensures.cases
