-- Each is the higher of two.
use Rattle.sftp_treefile.proofs.Texts.Raised.{raised_highest}
use Rattle.sftp_treefile.proofs.raising.raised_limits_are_the_highest.Goals as goal

pub returns : goal.returns
returns c = raised_highest
