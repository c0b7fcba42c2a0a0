use Rattle.std.proofs.Common.{length}
use Rattle.sftp_json.proofs.lines.JsonLines.put_characters.Given as goal

abbrev pub decreases-escapes : goal.decreases-escapes
decreases-escapes g l = length l.rest
