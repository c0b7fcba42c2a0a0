use Rattle.sftp_profile.proofs.DirectoryLists.{opendir-note, open-note, readdir-note, close-note, other-note}
use Rattle.sftp_profile.proofs.notes.note_of.Goals as goal

pub returns-in-Opendir : goal.returns-in-Opendir
returns-in-Opendir c =
    rw (opendir-note c.args.tree.now c.args.ask.now c.args.answer.now c.in-Opendir.path c.in-Opendir.is)
    c.opened_listing.ensures

pub returns-in-Open : goal.returns-in-Open
returns-in-Open c =
    rw
    (open-note c.args.tree.now c.args.ask.now c.args.answer.now c.in-Open.path c.in-Open.pflags c.in-Open.attrs
    c.in-Open.is)
    c.opened_plainly.ensures

pub returns-in-Readdir : goal.returns-in-Readdir
returns-in-Readdir c =
    rw (readdir-note c.args.tree.now c.args.ask.now c.args.answer.now c.in-Readdir.handle c.in-Readdir.is)
    c.gives.ensures

pub returns-in-Close : goal.returns-in-Close
returns-in-Close c =
    rw (close-note c.args.tree.now c.args.ask.now c.args.answer.now c.in-Close.handle c.in-Close.is) c.closed.ensures

pub returns-in_default : goal.returns-in_default
returns-in_default c =
    rw
    (other-note c.args.tree.now c.args.ask.now c.args.answer.now c.in_default.not-Opendir c.in_default.not-Open
    c.in_default.not-Readdir c.in_default.not-Close)
    c.shifts.ensures
