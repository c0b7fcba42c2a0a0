use Rattle.sftp_handles.proofs.Imports.{Readdir}
use Rattle.sftp_handles.proofs.OpenFiles.{only-holds}
use Rattle.sftp_handles.proofs.sessions.Session.names_up_to.Goals as goal

pub returns-in-Err-clause-refused : goal.returns-in-Err-clause-refused
returns-in-Err-clause-refused g c =
    only-holds c.args.self.now (Readdir c.args.handle.now) c.in-Err.cause c.in-Err.ensures.causes
