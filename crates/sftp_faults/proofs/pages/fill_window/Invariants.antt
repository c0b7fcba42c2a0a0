-- Each read but the last one leaves fewer to be done.
use Rattle.sftp_faults.proofs.pages.fill_window.Given as goal

abbrev pub decreases-fill : goal.decreases-fill
decreases-fill g l = g.R.Source.reads_left l.source
