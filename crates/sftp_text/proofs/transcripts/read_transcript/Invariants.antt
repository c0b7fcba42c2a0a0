use Rattle.std.proofs.Common.{◌≡◌, [], length}
use Rattle.sftp_text.specs.Lines.{lines_read}
use Rattle.sftp_text.specs.Texts.{records_onto, transcript_onto}
use Rattle.sftp_text.proofs.transcripts.read_transcript.Given as goal

abbrev pub invariant-lines : goal.invariant-lines
invariant-lines l =
    records_onto l.bytes.items (lines_read [] l.rest) ≡ transcript_onto l.fn.bytes.items (lines_read [] l.fn.text)

abbrev pub decreases-lines : goal.decreases-lines
decreases-lines l = length l.rest
