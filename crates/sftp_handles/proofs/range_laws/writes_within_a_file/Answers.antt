use Rattle.sftp_handles.proofs.RangeLaws.Spans.{written-sized, written-before, written-behind, written-twice}
use Rattle.sftp_handles.proofs.range_laws.writes_within_a_file.Goals as goal

pub returns-clause-sized : goal.returns-clause-sized
returns-clause-sized c = written-sized

pub returns-clause-in_front : goal.returns-clause-in_front
returns-clause-in_front c = written-before

pub returns-clause-behind : goal.returns-clause-behind
returns-clause-behind c = written-behind

pub returns-clause-twice : goal.returns-clause-twice
returns-clause-twice c = written-twice
