use Rattle.sftp_together.proofs.Worked.{late-exactly, late-nearly, tolerated}
use Rattle.sftp_together.proofs.examples.against_the_clock.Goals as goal

pub returns : goal.returns
returns c = record { exact = late-exactly; nearly = late-nearly; tolerated = tolerated }
