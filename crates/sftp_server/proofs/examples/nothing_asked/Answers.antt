use Rattle.sftp_server.proofs.Imports.{[], refl, hex, Init, spelling, sent_by}
use Rattle.sftp_server.proofs.Worked.{greeting, opened, unchanged}
use Rattle.sftp_server.proofs.examples.nothing_asked.Goals as goal

pub returns-clause-served : goal.returns-clause-served
returns-clause-served c = record { init = Init 3 []; events = []; opened = opened []; served = unchanged; ended = tt }

pub returns-clause-logged : goal.returns-clause-logged
unfolding hex
returns-clause-logged c = refl

pub returns-clause-announced : goal.returns-clause-announced
unfolding sent_by spelling hex
returns-clause-announced c = record {
  init = Init 3 [];
  events = [];
  opened = record { greeting = greeting; spelled = tt; read = refl; written = refl; logged = refl };
  served = unchanged;
  ended = tt;
}

pub returns-clause-announced_log : goal.returns-clause-announced_log
unfolding hex
returns-clause-announced_log c = refl
