use Rattle.std.proofs.Common.{length}
use Rattle.sftp_commands.proofs.selecting.put_bytes.Given as goal

abbrev pub decreases-bytes : goal.decreases-bytes
decreases-bytes l = length l.rest
