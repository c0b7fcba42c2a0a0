use Rattle.sftp_server.proofs.Imports.{take, window, Allowed, at_start, AreActs, server_clash, started, AreDeliverable}
use Rattle.sftp_server.proofs.scripts.run_script.Given as goal

abbrev pub invariant-acts : goal.invariant-acts
invariant-acts l = record {
  steps : AreActs Allowed server_clash (at_start (started l.fn.tree) window)
      (take l.act-index l.acts) l.events.items l.core;
  values : AreDeliverable (take l.act-index l.acts);
}
