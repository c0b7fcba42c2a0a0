-- The first request is answered as the blank tree allows; the second has its id.
use Rattle.sftp_server.proofs.Imports.{[], refl, inr, Init, hex, spelling, get, retain, pins_of, started, sent_by}
use Rattle.sftp_server.proofs.Imports.{answered_last}
use Rattle.sftp_server.specs.Examples.{stat_bytes, stat_answered}
use Rattle.sftp_tree.specs.Picture.{blank}
use Rattle.sftp_server.proofs.Worked.{greeting}
use Rattle.sftp_server.proofs.Worked.{stat_root, stat_spelled, root_spelled, looked}
use Rattle.sftp_server.proofs.examples.same_id_twice.Goals as goal

pub returns : goal.returns
unfolding sent_by spelling hex answered_last pins_of retain get
returns c = inr (record {
  init = Init 3 [];
  events = stat_answered;
  rest = stat_bytes;
  opened = record {
    greeting = greeting;
    spelled = (stat_spelled, (root_spelled, tt));
    read = refl;
    written = refl;
    logged = refl;
  };
  served = record { last = started blank; explained = looked; end_is = refl };
  broken = (
    record { request = stat_root; rest = []; spelled = stat_spelled; bytes_are = refl; same_id = refl },
    refl,
  );
})
