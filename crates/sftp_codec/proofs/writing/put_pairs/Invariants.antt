use Rattle.std.proofs.Common.{◌≡◌, ◌++◌, take}
use Rattle.sftp_packets.specs.Spelling.{pairs}
use Rattle.sftp_codec.proofs.writing.put_pairs.Given as goal

abbrev pub invariant-loop-name : goal.invariant-loop-name
invariant-loop-name l = l.out.items ≡ l.initial.out.items ++ pairs (take l.name-index l.name-items)
