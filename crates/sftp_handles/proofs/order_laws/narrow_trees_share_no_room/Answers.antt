use Rattle.sftp_handles.proofs.Imports.{◌||◌, ◌&&◌, ap, clash, share, touched}
use Rattle.sftp_treefile.proofs.Texts.{raised_near}
use Rattle.sftp_handles.specs.Clash.{share_room}
use Rattle.sftp_tree.specs.Tree.{limits}
use Rattle.sftp_handles.proofs.order_laws.narrow_trees_share_no_room.Goals as goal

pub returns : goal.returns
unfolding clash
returns c s request other near =
    ap
    (λ far.
    far && share_room (touched s request.ask) (touched s other.ask)
    || share (touched s request.ask) (touched s other.ask))
    (raised_near (limits s.tree) near)
