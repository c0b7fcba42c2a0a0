use Rattle.sftp_server.proofs.Machines.Laws.{begun, explained, leads-to, windowed, still-good}
use Rattle.sftp_server.proofs.laws.sessions_are_explained.Goals as goal

pub returns : goal.returns
returns c = record {
  begun = begun c.good_stays_good.ensures c.some_reply.ensures;
  explained = explained c.good_stays_good.ensures c.some_reply.ensures;
  done = leads-to c.good_stays_good.ensures c.some_reply.ensures;
  in_window = windowed c.good_stays_good.ensures c.some_reply.ensures;
  good = still-good c.good_stays_good.ensures c.some_reply.ensures;
}
