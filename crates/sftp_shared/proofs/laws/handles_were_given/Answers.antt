use Rattle.std.proofs.Common.{inl, inr}
use Rattle.sftp_packets.specs.Layouts.{IsAsk}
use Rattle.sftp_handles.specs.State.{Good}
use Rattle.sftp_handles.specs.Allowed.{Allowed}
use Rattle.sftp_joint.proofs.Ownership.{was-given}
use Rattle.sftp_shared.specs.Sharing.{left_by}
use Rattle.sftp_shared.proofs.Sharing.{open_in, premises, asked-values}
use Rattle.sftp_shared.proofs.laws.handles_were_given.Goals as goal

pub returns : goal.returns
returns c s end deeds client handle good fits asked none run there =
    elim (was-given open_in Allowed left_by Good (λ request. IsAsk request.ask) (premises c.good_stays_good.ensures) s end
    deeds client handle good fits (asked-values deeds asked) run there) [
      | inl before ↦ absurd (before none)
      | inr given ↦ given
    ]
