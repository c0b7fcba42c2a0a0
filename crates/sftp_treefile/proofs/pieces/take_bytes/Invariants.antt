-- The bytes so far are taken.
use Rattle.sftp_treefile.proofs.Imports.{◌-◌, ◌≤◌, length}
use Rattle.sftp_treefile.proofs.Texts.Front.{SoFar}
use Rattle.sftp_treefile.proofs.pieces.take_bytes.Given as goal

abbrev pub invariant-more : goal.invariant-more
invariant-more g l = record {
  within : length l.bytes.items ≤ l.size;
  taken : SoFar l.initial.input l.bytes.items l.input;
}

abbrev pub decreases-more : goal.decreases-more
decreases-more g l = l.size - length l.bytes.items
