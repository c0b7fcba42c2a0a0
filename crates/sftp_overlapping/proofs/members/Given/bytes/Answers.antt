-- All bytes of the file are read.
use Rattle.sftp_overlapping.proofs.Saying.{all-read}
use Rattle.sftp_overlapping.proofs.members.Given.bytes.Goals as goal

pub returns-in-Ok-clause-read : goal.returns-in-Ok-clause-read
returns-in-Ok-clause-read g c = λ known is.
    all-read _ known _ _ (c.in_ok-file.ensures.bytes known is) c.new-bytes.ensures.items c.in-Ok.ensures.bytes
