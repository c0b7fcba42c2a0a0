use Rattle.sftp_handles.proofs.ClashLaws.{clash-none, exchanged}
use Rattle.sftp_handles.proofs.order_laws.requests_change_places.Goals as goal

pub returns : goal.returns
returns c s mid end request other reply next good fit fit_other free first second =
    let none = clash-none s request other free in
    exchanged c.good_stays_good.ensures s mid end request other reply next good fit fit_other none.0 none.1 first second
