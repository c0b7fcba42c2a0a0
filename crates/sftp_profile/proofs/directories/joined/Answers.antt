use Rattle.std.proofs.Common.{◌∙◌, ap, ◌++◌}
use Rattle.sftp_profile.proofs.DirectoryLists.{entered-next, entered-all}
use Rattle.sftp_profile.proofs.directories.joined.Goals as goal

pub loop-name-preserved : goal.loop-name-preserved
loop-name-preserved c =
    entered-next c.args.top.now c.names_from-rest.result.now c.loop-name.name-index c.name-item.result c.loop-name.place
    c.enter.new.place c.loop-name-test.true c.name-item.is c.loop-name.invariant c.in_ok-enter.ensures

pub returns : goal.returns
returns c =
    entered-all c.args.top.now c.names_from-rest.result.now c.loop-name.name-index c.loop-name.place
    c.loop-name-test.false c.loop-name.invariant
    ∙ ap (λ l. c.args.top.now ++ l) c.names_from-rest.ensures
