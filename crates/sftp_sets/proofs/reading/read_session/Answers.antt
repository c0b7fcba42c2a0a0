-- What is refused event by event, or at the end, is no session.
use Rattle.sftp_sets.proofs.Timing.{lost-at, end-refused}
use Rattle.sftp_sets.proofs.reading.read_session.Goals as goal

pub returns-in-Err-clause-refused : goal.returns-in-Err-clause-refused
returns-in-Err-clause-refused g c = λ judged transcript new.
    lost-at c.args.times.now.start c.args.times.now.entries.items transcript c.in-Err.error c.in-Err.ensures.plain
    judged (c.in-Err.ensures.stopped judged transcript new)

pub returns-in-Ok-clause-refused : goal.returns-in-Ok-clause-refused
returns-in-Ok-clause-refused g c =
    end-refused c.args.times.now.start c.args.times.now.entries.items c.args.records.now _ c.end.result c.end.ensures
    c.in-Ok.ensures.read
