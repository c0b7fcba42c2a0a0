use Rattle.sftp_handles.proofs.Imports.{◌∙◌, ap, with_open}
use Rattle.sftp_handles.proofs.tables.HandleTable.swap.Goals as goal

pub returns-in-Some-clause-swapped : goal.returns-in-Some-clause-swapped
returns-in-Some-clause-swapped g c =
    (rw c.in-Some.is at (c.find_mut.follows.holds c.replace.new.dest)).0
    ∙ ap (with_open (g.Self.HandleTable.handles c.args.self.now) c.args.name.now) c.replace.ensures.after

pub returns-in-Some-clause-kept : goal.returns-in-Some-clause-kept
returns-in-Some-clause-kept g c = (rw c.in-Some.is at (c.find_mut.follows.holds c.replace.new.dest)).1
