use Rattle.std.proofs.Common.{◌≡◌, ◌+◌, length, IsTrue}
use Rattle.sftp_handles.specs.State.{a_file, seen}
use Rattle.sftp_profile.specs.BytesRead.{is_readable, stand_in}
use Rattle.sftp_profile.proofs.bytes_read.stand_in.Given as goal

-- as many bytes are left as are to be compared, and these decide
abbrev pub invariant-pieces : goal.invariant-pieces
invariant-pieces l = record {
  there : IsTrue (is_readable (seen l.session a_file l.handle) (l.at + length l.rest));
  fits : l.at + length l.rest ≡ l.fn.offset + length l.fn.given;
  decides :
      stand_in l.at (seen l.session a_file l.handle) l.rest
      ≡ stand_in l.fn.offset (seen l.session a_file l.handle) l.fn.given;
}

abbrev pub decreases-pieces : goal.decreases-pieces
decreases-pieces l = length l.rest
