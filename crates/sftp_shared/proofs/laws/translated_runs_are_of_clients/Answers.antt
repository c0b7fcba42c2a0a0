use Rattle.sftp_handles.specs.Allowed.{Allowed}
use Rattle.sftp_joint.proofs.Translated.{run-inner}
use Rattle.sftp_shared.proofs.Sharing.{allowed-ignores}
use Rattle.sftp_shared.proofs.laws.translated_runs_are_of_clients.Goals as goal

pub returns : goal.returns
returns c insides table s end are run = run-inner Allowed allowed-ignores table insides s end are run
