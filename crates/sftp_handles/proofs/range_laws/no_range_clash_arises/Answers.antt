use Rattle.sftp_handles.proofs.RangeLaws.SteadyRanges.{still-free}
use Rattle.sftp_handles.proofs.range_laws.no_range_clash_arises.Goals as goal

pub returns : goal.returns
returns c s end request earlier later reply good fit free none allowed =
    still-free s end request earlier later reply good fit allowed free none
