use Rattle.std.proofs.Common.{◌-◌, ◌≡◌, ◌≤◌, ℕ, length, take}
use Rattle.sftp_contents.specs.Bytes.{patched}
use Rattle.sftp_contents.specs.Pieces.{byte_at, AreKept}
use Rattle.sftp_contents.proofs.writing.fill.Given as goal

abbrev pub invariant-filling : goal.invariant-filling
invariant-filling l = record {
  room : l.store.room ≡ l.room;
  bytes : (i : ℕ) → byte_at l.store i ≡ patched (byte_at l.initial.store) l.offset (take l.done l.new) i;
  kept : AreKept l.store l.offset (length l.new);
  few : l.done ≤ l.count;
}

abbrev pub decreases-filling : goal.decreases-filling
decreases-filling l = l.count - l.done
