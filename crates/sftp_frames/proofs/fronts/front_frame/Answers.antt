-- The part has as many bytes as the head says.
use Rattle.sftp_frames.proofs.FrameTexts.{whole}
use Rattle.std.proofs.Common.{arith}
use Rattle.sftp_frames.proofs.fronts.front_frame.Goals as goal

pub returns-in-Some-split_at_checked-clause-front : goal.returns-in-Some-split_at_checked-clause-front
returns-in-Some-split_at_checked-clause-front c =
    let cases = c.in-Some-split_at_checked.ensures.cases in
    rw cases.1 (whole c.args.bytes.now c.in-Some.after.now c.in-Some-take_number.rest.now c.in-Some.client
    c.in-Some-take_number.size (grind arith) c.if-size-gt-FRAME_LIMIT.false cases.0 c.in-Some.ensures.found c.in-Some-take_number.ensures.found)
