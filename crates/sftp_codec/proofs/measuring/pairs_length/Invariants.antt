use Rattle.std.proofs.Common.{◌≡◌, ◌-◌, ◌^◌, ◌<◌, length, min, take}
use Rattle.sftp_packets.specs.Spelling.{pairs, FitsPairs}
use Rattle.sftp_codec.proofs.measuring.pairs_length.Given as goal

abbrev pub invariant-loop-name : goal.invariant-loop-name
invariant-loop-name l = record {
  exact : l.total ≡ min (length (pairs (take l.name-index l.name-items))) (2 ^ 64 - 1);
  fits : length (pairs (take l.name-index l.name-items)) < 2 ^ 32 → FitsPairs (take l.name-index l.name-items);
}
