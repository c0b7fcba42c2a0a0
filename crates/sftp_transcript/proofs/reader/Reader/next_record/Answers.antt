-- One record is next at most.
use Rattle.sftp_transcript.proofs.Imports.{◌∙◌}
use Rattle.sftp_transcript.proofs.Fronts.{names_record}
use Rattle.sftp_transcript.proofs.Packets.{gives_only, next_excuse}
use Rattle.sftp_transcript.proofs.Reaching.{comes-given, comes-untaken, given-by, number-is, still-given}
use Rattle.sftp_transcript.proofs.reader.Reader.next_record.Goals as goal

pub returns-in-Ok-clause-only : goal.returns-in-Ok-clause-only
returns-in-Ok-clause-only g c = λ packet before rest none known n.
    gives_only c.args.self.now.stage before rest packet c.in-Ok.given c.take_next_record.new.self (c.in-Ok.ensures.found before known) n

pub returns-in-Err-clause-only : goal.returns-in-Err-clause-only
returns-in-Err-clause-only g c = λ packet before rest none known n.
    next_excuse c.args.self.now.stage c.args.self.now.number before rest packet c.in-Err.fault (c.in-Err.ensures.first before known) n

pub returns-in-Ok-clause-given : goal.returns-in-Ok-clause-given
returns-in-Ok-clause-given g c = λ bytes ahead events has.
    let old = c.args.self.now in
    let new = c.take_next_record.new.self in
    let given = c.in-Ok.given in
    given-by old new _ (comes-given old new given c.in-Ok.ensures.found)
    (c.in-Ok.ensures.number ∙ number-is old.stage old.number given c.in-Ok.ensures.may_come)
    c.take_next_record.ensures.fault bytes ahead events has

pub returns-in-Err-clause-still : goal.returns-in-Err-clause-still
returns-in-Err-clause-still g c = λ bytes ahead events has.
    let old = c.args.self.now in
    let mid = c.take_next_record.new.self in
    still-given bytes events c.in-Err.fault mid c.report.new.self c.report.ensures.becomes
    (given-by old mid _ (comes-untaken old mid c.in-Err.ensures.kept) c.in-Err.ensures.number c.take_next_record.ensures.fault bytes ahead events has)

pub returns-in-Err-clause-names : goal.returns-in-Err-clause-names
returns-in-Err-clause-names g c = λ none.
    let mid = c.take_next_record.new.self in
    names_record c.report.new.self.stage mid.stage mid.number c.args.self.now.number mid.ahead.held c.in-Err.fault
    c.report.ensures.stage c.in-Err.ensures.number c.in-Err.ensures.refused
