use Rattle.sftp_handles.proofs.Imports.{◌<◌, ◌^◌, refl, sym, ap, subst, ◌∙◌, Tree, WellFormed, HasFile, times_pinned}
use Rattle.sftp_handles.proofs.Imports.{pins-stay, Does, Good}
use Rattle.sftp_packets.specs.declared.requests.Ask.TheVariants as asks
use Rattle.sftp_packets.specs.declared.replies.Answer.TheVariants as replies
use Rattle.sftp_handles.proofs.Good.Pins.{state_of}
use Rattle.sftp_handles.proofs.OpenFiles.Opened as opened
use Rattle.sftp_handles.proofs.openings.open_file.Given as given
use Rattle.sftp_handles.proofs.openings.open_file.Goals as goal

pub pin-requires-clause-file : goal.pin-requires-clause-file
pin-requires-clause-file g c =
    let file = c.in-Ok-open_file in
    subst (λ (t : Tree). HasFile t.files file.file) (sym file.ensures.done)
    (opened.file-opened c.args.tree.now c.args.path.now c.args.pflags c.args.attrs.now file.file
    file.ensures.number (subst WellFormed file.ensures.done file.ensures.valid.well_formed))

pub pin-requires-clause-few : goal.pin-requires-clause-few
pin-requires-clause-few g c =
    let file = c.in-Ok-open_file in
    subst (λ pins. times_pinned pins file.file < 2 ^ 32)
    (sym (ap (λ (t : Tree). t.pins) file.ensures.done
    ∙ pins-stay c.args.tree.now (asks.Open c.args.path.now c.args.pflags c.args.attrs.now)))
    (opened.few-pins (state_of c.args.tree.now (g.T.HandleTable.handles c.args.table.now)) file.file
    c.requires.good)

-- the state at the end is good, and the request led to it
ended : (g : given.Over) (c : goal.After-put_reserved g)
    → Good (state_of c.pin.new.self (g.T.HandleTable.handles c.put_reserved.new.self))
    × Does (state_of c.args.tree.now (g.T.HandleTable.handles c.args.table.now))
    (asks.Open c.args.path.now c.args.pflags c.args.attrs.now) (replies.Handle c.in-Ok.name.items)
    (state_of c.pin.new.self (g.T.HandleTable.handles c.put_reserved.new.self))
ended g c =
    let name = c.in-Ok in
    let file = c.in-Ok-open_file in
    opened.opened-end (state_of c.args.tree.now (g.T.HandleTable.handles c.args.table.now)) c.args.path.now
    c.args.pflags c.args.attrs.now file.file c.open_file.new.self c.pin.new.self
    (g.T.HandleTable.handles c.reserve.new.self) (g.T.HandleTable.handles c.put_reserved.new.self) name.name.items
    (g.T.HandleTable.name_for c.reserve.new.self c.args.want.items) c.kept_flags-flags.result c.requires.good
    name.ensures.short name.ensures.closed c.requires.room file.ensures.number
    file.ensures.done c.pin.ensures.pinned name.ensures.kept
    (name.ensures.named ∙ ap (g.T.HandleTable.name_for c.reserve.new.self) c.as_slice.ensures.value)
    c.kept_flags-flags.ensures c.put_reserved.ensures c.pin.ensures.valid file.ensures.free

pub returns-in-Ok-open_file-clause-good : goal.returns-in-Ok-open_file-clause-good
returns-in-Ok-open_file-clause-good g c = (ended g c).0

pub returns-in-Ok-open_file-clause-done : goal.returns-in-Ok-open_file-clause-done
returns-in-Ok-open_file-clause-done g c = (ended g c).1

pub returns-in-Ok-clause-failed : goal.returns-in-Ok-clause-failed
returns-in-Ok-clause-failed g c =
    opened.refused-file (state_of c.args.tree.now (g.T.HandleTable.handles c.args.table.now)) c.args.tree.now
    c.args.path.now c.args.pflags c.args.attrs.now c.in-Err.refused refl c.in-Err.ensures.refused
