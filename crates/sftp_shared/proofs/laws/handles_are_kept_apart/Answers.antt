use Rattle.sftp_packets.specs.Layouts.{IsAsk}
use Rattle.sftp_handles.specs.State.{Good}
use Rattle.sftp_handles.specs.Allowed.{Allowed}
use Rattle.sftp_joint.proofs.Ownership.{kept-apart}
use Rattle.sftp_shared.specs.Sharing.{left_by}
use Rattle.sftp_shared.proofs.Sharing.{open_in, premises}
use Rattle.sftp_shared.proofs.laws.handles_are_kept_apart.Goals as goal

pub returns : goal.returns
returns c s end client other handle request reply good fits fits_other apart allowed =
    kept-apart open_in Allowed left_by Good (λ request. IsAsk request.ask) (premises c.good_stays_good.ensures) s end client
    other handle request reply good fits fits_other apart allowed
