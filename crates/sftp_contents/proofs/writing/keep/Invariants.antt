use Rattle.std.proofs.Common.{◌-◌, ◌≡◌, ◌≤◌, ℕ}
use Rattle.sftp_contents.specs.Pieces.{byte_at, AreKept}
use Rattle.sftp_contents.proofs.writing.keep.Given as goal

abbrev pub invariant-keeping : goal.invariant-keeping
invariant-keeping l = record {
  room : l.store.room ≡ l.room;
  bytes : (i : ℕ) → byte_at l.store i ≡ byte_at l.initial.store i;
  kept : AreKept l.store l.offset l.done;
  few : l.done ≤ l.count;
}

abbrev pub decreases-keeping : goal.decreases-keeping
decreases-keeping l = l.count - l.done
