use Rattle.std.proofs.Common.{sym}
use Rattle.sftp_profile.proofs.notes.give.Goals as goal

pub returns : goal.returns
returns c = rw (sym c.items_of.ensures) c.give_all.ensures
