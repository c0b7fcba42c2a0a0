use Rattle.std.proofs.Common.{◌+◌}
use Rattle.sftp_profile.proofs.Pieces.{pieces-free}
use Rattle.sftp_profile.proofs.bytes_read.piece_at.Goals as goal

pub unreachable-requires-in-Err : goal.unreachable-requires-in-Err
unreachable-requires-in-Err c =
    let free =
    pieces-free c.args.session.now c.args.handle.now c.args.at 4294967295 (c.args.at + 1) c.in-Err.field-0 c.requires in
    let holds = c.in-Err.ensures.refused in
    cc
