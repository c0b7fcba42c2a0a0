use Rattle.std.proofs.Common.{◌≡◌, take, replicate}
use Rattle.std.specs.Prelude.{IsTrue}
use Rattle.sftp_contents.proofs.reading.are_zeros.Given as goal

abbrev pub invariant-loop-byte : goal.invariant-loop-byte
invariant-loop-byte l = record {
  same : IsTrue l.zeros → replicate l.byte-index 0 ≡ take l.byte-index l.given;
  apart : replicate l.byte-index 0 ≡ take l.byte-index l.given → IsTrue l.zeros;
}
