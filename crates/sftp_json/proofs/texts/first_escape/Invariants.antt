use Rattle.std.proofs.Common.{length}
use Rattle.sftp_json.proofs.texts.first_escape.Given as goal

abbrev pub decreases-bytes : goal.decreases-bytes
decreases-bytes l = length l.rest
