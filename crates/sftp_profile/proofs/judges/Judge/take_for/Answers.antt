use Rattle.sftp_profile.proofs.Permissions.{follow-outcome}
use Rattle.sftp_profile.proofs.judges.Judge.take_for.Goals as goal

pub returns-then-branch-clause-ok : goal.returns-then-branch-clause-ok
returns-then-branch-clause-ok c =
    follow-outcome c.args.self.now c.take_otherwise.new.self c.follow.new.self c.args.ask.now c.args.reply.now.answer
    c.in_ok-take_otherwise.field-0 c.if-branch.true c.in_ok-take_otherwise.ensures.ok c.in_ok-follow.ensures.ok
