-- Bytes were read, and none was taken.
use Rattle.sftp_server.proofs.Sessions.Opened.{OnlyReads}
use Rattle.sftp_server.proofs.opening.await_init.Given as goal

abbrev pub invariant-first : goal.invariant-first
invariant-first g l =
    OnlyReads (g.R.Source.left l.initial.reader) (g.R.Source.left l.reader) l.initial.input l.input
    (g.R.Source.failures l.initial.reader) (g.R.Source.failures l.reader)

abbrev pub decreases-first : goal.decreases-first
decreases-first g l = g.R.Source.reads_left l.reader
