use Rattle.std.proofs.Common.{[]}
use Rattle.sftp_profile.proofs.DirectoryLists.{entered-next, entered-all}
use Rattle.sftp_profile.proofs.notes.place_of.Goals as goal

pub loop-name-preserved : goal.loop-name-preserved
loop-name-preserved c =
    entered-next [] c.args.names.now c.loop-name.name-index c.name-item.result c.loop-name.place c.enter.new.place
    c.loop-name-test.true c.name-item.is c.loop-name.invariant c.in_ok-enter.ensures

pub returns : goal.returns
returns c =
    entered-all [] c.args.names.now c.loop-name.name-index c.loop-name.place c.loop-name-test.false
    c.loop-name.invariant
