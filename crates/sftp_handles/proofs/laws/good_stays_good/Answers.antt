use Rattle.sftp_handles.proofs.Good.GoodPaths.{allowed-good}
use Rattle.sftp_listing.proofs.FirstNames.{listing-fits}
use Rattle.sftp_handles.proofs.laws.good_stays_good.Goals as goal

pub returns : goal.returns
returns c s request reply end good fit =
    allowed-good (λ t kept follow path place bytes is. record {
      named = c.walks_give_places.ensures.names t follow path place kept bytes is;
      above = c.walks_give_places.ensures.parent t follow path place kept bytes is;
    }) s request reply end (listing-fits s.tree good.tree) good fit
