use Rattle.sftp_shared.proofs.Sharing.{left-own, left-others, left-good}
use Rattle.sftp_shared.proofs.laws.leaving_closes_handles.Goals as goal

pub returns-clause-own : goal.returns-clause-own
returns-clause-own c s client handle good = left-own client s handle good

pub returns-clause-others : goal.returns-clause-others
returns-clause-others c s client other handle good fits fits_other apart =
    left-others client other s handle fits fits_other apart good

pub returns-clause-good : goal.returns-clause-good
returns-clause-good c s client good = left-good client s good
