use Rattle.sftp_handles.proofs.RangeLaws.SteadyRanges.{ranges-exchanged}
use Rattle.sftp_handles.proofs.range_laws.ranged_requests_change_places.Goals as goal

pub returns : goal.returns
returns c s mid end request other reply next good fit fit_other free first second =
    ranges-exchanged c.good_stays_good.ensures s mid end request other reply next good fit fit_other free first second
