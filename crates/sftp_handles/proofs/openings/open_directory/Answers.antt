use Rattle.sftp_handles.proofs.Imports.{◌≡◌, refl, sym, ap, subst, ◌∙◌, map, Some, entry_of, IsLeft}
use Rattle.sftp_packets.specs.declared.requests.Ask.TheVariants as asks
use Rattle.sftp_tree.specs.Told as told
use Rattle.sftp_handles.proofs.OpenFiles.Opened as opened
use Rattle.sftp_handles.proofs.Good.Pins.{state_of}
use Rattle.sftp_handles.proofs.openings.open_directory.Given as given
use Rattle.sftp_handles.proofs.openings.open_directory.Goals as goal

pub from_items-requires : goal.from_items-requires
from_items-requires g c =
    (opened.left-fits c.args.tree.now c.args.path.now (map entry_of c.in-Ok.items.items) c.in-Ok.ensures.kept
    c.in-Ok.ensures.listed).ordered

-- what is left of the listing is a listing's
is-left : (g : given.Over) (c : goal.After-open_listing g) → IsLeft c.in-Ok-from_items.left
is-left g c =
    subst IsLeft (sym c.in-Ok-from_items.ensures)
    (opened.left-fits c.args.tree.now c.args.path.now (map entry_of c.in-Ok.items.items) c.in-Ok.ensures.kept
    c.in-Ok.ensures.listed)

pub returns-in-Ok-from_items-clause-good : goal.returns-in-Ok-from_items-clause-good
returns-in-Ok-from_items-clause-good g c =
    opened.good-either (state_of c.args.tree.now (g.T.HandleTable.handles c.args.table.now))
    c.in-Ok-from_items.left (g.T.HandleTable.handles c.open_listing.new.table) c.open_listing.result
    (λ name. name.items) c.requires.good (is-left g c) c.requires.room c.open_listing.ensures.absent
    c.open_listing.ensures.opened c.open_listing.ensures.short c.open_listing.ensures.closed

pub returns-in-Ok-from_items-clause-done : goal.returns-in-Ok-from_items-clause-done
returns-in-Ok-from_items-clause-done g c =
    let listed : told.listing_to c.args.tree.now (asks.Opendir c.args.path.now) ≡ Some c.in-Ok-from_items.left =
    c.in-Ok.ensures.listed ∙ ap Some (sym c.in-Ok-from_items.ensures) in
    opened.listed-ok (state_of c.args.tree.now (g.T.HandleTable.handles c.args.table.now))
    (state_of c.args.tree.now (g.T.HandleTable.handles c.open_listing.new.table)) c.args.path.now
    c.in-Ok-from_items.left c.open_listing.result (λ name. name.items) c.requires.good listed c.requires.room
    c.in-Ok.ensures.free c.open_listing.ensures.absent
    (opened.on-tree c.args.tree.now (g.T.HandleTable.handles c.args.table.now)
    (g.T.HandleTable.handles c.open_listing.new.table) c.in-Ok-from_items.left c.open_listing.result
    (λ name. name.items) c.open_listing.ensures.opened) c.open_listing.ensures.short

pub returns-in-Err-clause-failed : goal.returns-in-Err-clause-failed
returns-in-Err-clause-failed g c =
    opened.refused-listing (state_of c.args.tree.now (g.T.HandleTable.handles c.args.table.now)) c.args.tree.now
    c.args.path.now c.in-Err.refused refl c.in-Err.ensures.refused
