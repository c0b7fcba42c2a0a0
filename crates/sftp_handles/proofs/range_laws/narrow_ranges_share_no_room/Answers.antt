use Rattle.sftp_handles.proofs.Imports.{◌||◌, ◌&&◌, not, ap, share, touched}
use Rattle.sftp_treefile.proofs.Texts.{raised_near}
use Rattle.sftp_handles.specs.Clash.{share_room, range, are_apart, range_clash}
use Rattle.sftp_tree.specs.Tree.{limits}
use Rattle.sftp_handles.proofs.range_laws.narrow_ranges_share_no_room.Goals as goal

pub returns : goal.returns
unfolding range_clash
returns c s request other near =
    ap
    (λ far.
    far && share_room (touched s request.ask) (touched s other.ask)
    || (share (touched s request.ask) (touched s other.ask)
    && not (are_apart (range s request.ask) (range s other.ask))))
    (raised_near (limits s.tree) near)
