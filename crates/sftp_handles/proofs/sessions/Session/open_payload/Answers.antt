use Rattle.sftp_handles.proofs.Imports.{Some, refl}
use Rattle.sftp_packets.specs.declared.requests.Ask.TheVariants as asks
use Rattle.sftp_handles.specs.Replies.{shows}
use Rattle.sftp_handles.proofs.Judged.QueryReplies.{carries-open}
use Rattle.sftp_handles.proofs.sessions.Session.open_payload.Goals as goal

pub returns-in-Ok-clause-carried : goal.returns-in-Ok-clause-carried
returns-in-Ok-clause-carried g c =
    carries-open c.args.self.now (asks.Fstat c.args.handle.now) c.args.handle.now refl (shows (Some c.in-Ok.shown))
    c.in-Ok.ensures.kept c.in-Ok.ensures.free c.in-Ok.ensures.shown
