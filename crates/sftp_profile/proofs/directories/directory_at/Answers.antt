use Rattle.std.proofs.Common.{sym, ◌∙◌}
use Rattle.sftp_profile.proofs.DirectoryLists.{directory-next, directory-here, directory-none}
use Rattle.sftp_profile.proofs.directories.directory_at.Goals as goal

pub returns-then-is_under : goal.returns-then-is_under
returns-then-is_under c =
    sym
    (directory-here c.args.directories.now c.args.handle.now c.loop-directory.directory-index c.directory-item.result
    c.loop-directory-test.true c.directory-item.is (sym c.is_under.ensures ∙ c.if-is_under.true))
    ∙ c.loop-directory.invariant

pub loop-directory-preserved : goal.loop-directory-preserved
loop-directory-preserved c =
    directory-next c.args.directories.now c.args.handle.now c.loop-directory.directory-index c.directory-item.result
    c.loop-directory-test.true c.directory-item.is (sym c.is_under.ensures ∙ c.if-is_under.false)
    ∙ c.loop-directory.invariant

pub returns : goal.returns
returns c =
    sym
    (directory-none c.args.directories.now c.args.handle.now c.loop-directory.directory-index
    c.loop-directory-test.false)
    ∙ c.loop-directory.invariant
