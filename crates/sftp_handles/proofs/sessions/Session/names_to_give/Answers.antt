use Rattle.sftp_handles.proofs.Judged.GivenNames.{listing-left}
use Rattle.sftp_handles.proofs.sessions.Session.names_to_give.Goals as goal

pub chosen-requires : goal.chosen-requires
chosen-requires g c =
    listing-left c.args.self.now c.args.handle.now c.in-Ok.left.now c.in-Ok.ensures.kept c.in-Ok.ensures.found
