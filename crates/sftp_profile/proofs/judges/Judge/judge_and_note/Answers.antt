use Rattle.sftp_profile.proofs.DirectoryLists.{unmet-outcome, met-outcome}
use Rattle.sftp_profile.proofs.judges.Judge.judge_and_note.Goals as goal

pub returns-in-Ok-false : goal.returns-in-Ok-false
returns-in-Ok-false c =
    unmet-outcome c.args.self.now c.meet.new.self c.args.request.now.ask c.args.reply.now.answer c.args.there
    c.in-Ok-false.field-0 c.in-Ok-false.field-0-test c.in-Ok-false.ensures

pub returns-in_ok-take_note-in-Ok-true : goal.returns-in_ok-take_note-in-Ok-true
returns-in_ok-take_note-in-Ok-true c =
    met-outcome c.args.self.now c.meet.new.self c.take_note.new.self c.args.request.now.ask c.args.reply.now.answer
    c.args.there c.in-Ok-true.field-0 c.in-Ok-true.field-0-test c.in-Ok-true.ensures
    c.in_ok-take_note-in-Ok-true.ensures
