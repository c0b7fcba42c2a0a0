use Rattle.std.proofs.Common.{sym}
use Rattle.sftp_profile.proofs.Permissions.{strict-result}
use Rattle.sftp_profile.proofs.judges.Judge.judge_strictly.Goals as goal

pub returns-clause-ok : goal.returns-clause-ok
returns-clause-ok c =
    rw (sym c.self.view_is)
    (strict-result (record {
      profile = c.self.inside.profile;
      session = c.self.inside.session;
      directories = c.self.inside.directories.items;
    }) c.args.request.now c.args.reply.now
    c.accept.new.self c.requires c.accept.result c.accept.ensures.allowed c.accept.ensures.refused
    c.accept.ensures.kept)
