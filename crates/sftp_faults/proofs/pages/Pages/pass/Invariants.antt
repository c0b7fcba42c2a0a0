-- Fewer bytes are missing each time.
use Rattle.sftp_faults.proofs.pages.Pages.pass.Given as goal

abbrev pub decreases-pass : goal.decreases-pass
decreases-pass g l = l.missing
