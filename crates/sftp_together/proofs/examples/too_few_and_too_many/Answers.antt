use Rattle.sftp_together.proofs.Worked.{one-left-out, one-too-many}
use Rattle.sftp_together.proofs.examples.too_few_and_too_many.Goals as goal

pub returns : goal.returns
returns c = record { few = one-left-out; many = one-too-many }
