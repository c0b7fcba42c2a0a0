use Rattle.sftp_handles.proofs.Imports.{sym}
use Rattle.sftp_handles.proofs.RangeLaws.Spans.{spanned-other}
use Rattle.sftp_handles.proofs.sessions.Session.span.Goals as goal

pub returns-in_default : goal.returns-in_default
returns-in_default g c =
    sym (spanned-other c.args.self.now c.args.ask.now c.in_default.not-Read c.in_default.not-Write)
