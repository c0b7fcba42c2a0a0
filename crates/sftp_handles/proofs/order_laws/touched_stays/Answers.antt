use Rattle.sftp_handles.proofs.ClashLaws.{other-touches}
use Rattle.sftp_handles.proofs.ClashLaws.{touched-past}
use Rattle.sftp_handles.proofs.order_laws.touched_stays.Goals as goal

pub returns : goal.returns
returns c s end request reply ask good fit bounded allowed =
    touched-past s end request reply ask good fit (other-touches s request.ask bounded) allowed
