use Rattle.sftp_handles.proofs.Good.Pins.{pins-times, pins-order, pins-positive}
use Rattle.sftp_handles.proofs.pin_laws.files_are_pinned_while_open.Goals as goal

pub returns : goal.returns
returns c = record { times = pins-times; order = pins-order; pinned = pins-positive }
