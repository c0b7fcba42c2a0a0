use Rattle.sftp_profile.proofs.Pieces.{refused-size}
use Rattle.sftp_profile.proofs.bytes_read.size_of.Goals as goal

pub returns-in-Err : goal.returns-in-Err
returns-in-Err c =
    refused-size c.args.session.now c.args.handle.now c.in-Err.field-0 c.in-Err.ensures.refused
