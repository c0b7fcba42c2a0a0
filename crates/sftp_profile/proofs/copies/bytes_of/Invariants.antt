-- What was copied and what is left within the end make up what is to be copied.
use Rattle.std.proofs.Common.{◌≡◌, ◌≤◌, ◌+◌, ◌-◌, ◌++◌}
use Rattle.sftp_handles.specs.State.{a_file, seen}
use Rattle.sftp_profile.specs.Departures.{bytes_within}
use Rattle.sftp_profile.proofs.copies.bytes_of.Given as goal

abbrev pub invariant-pieces : goal.invariant-pieces
invariant-pieces l = record {
  before : l.at ≤ l.end;
  end_is : l.end ≡ l.fn.offset + l.fn.count;
  copied :
      l.bytes.items ++ bytes_within (seen l.session a_file l.handle) l.at (l.end - l.at)
      ≡ bytes_within (seen l.session a_file l.handle) l.fn.offset l.fn.count;
}

abbrev pub decreases-pieces : goal.decreases-pieces
decreases-pieces l = l.end - l.at
