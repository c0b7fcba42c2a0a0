use Rattle.sftp_times.proofs.Reading.{times-read}
use Rattle.sftp_times.proofs.laws.times_are_read.Goals as goal

pub returns : goal.returns
returns c = λ first times fits all rises. times-read first times fits all rises
