-- What was not taken is not there, whatever its fault.
use Rattle.sftp_treefile.proofs.Texts.Front.{or_excused}
use Rattle.sftp_treefile.proofs.pieces.whole_head.Goals as goal

pub returns-in-Err-clause-none : goal.returns-in-Err-clause-none
returns-in-Err-clause-none g c = or_excused _ _ _ c.in-Err.ensures.none c.settle.ensures.excused
