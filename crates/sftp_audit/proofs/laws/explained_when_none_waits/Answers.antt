use Rattle.sftp_audit.proofs.Imports.{Allowed, sound_by, settled_by, explained_by}
use Rattle.sftp_audit.proofs.laws.explained_when_none_waits.Goals as goal

pub returns : goal.returns
returns c = record { sound = sound_by Allowed; answered = settled_by Allowed; explained = explained_by Allowed }
