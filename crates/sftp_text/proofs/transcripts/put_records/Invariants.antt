use Rattle.std.proofs.Common.{◌≡◌, length}
use Rattle.sftp_text.specs.Lines.{records_up_to}
use Rattle.sftp_text.specs.Texts.{lines_onto}
use Rattle.sftp_text.proofs.transcripts.put_records.Given as goal

abbrev pub invariant-records : goal.invariant-records
invariant-records l =
    lines_onto l.text.items (records_up_to l.most l.rest)
    ≡ lines_onto l.fn.text.items (records_up_to (length l.fn.bytes) l.fn.bytes)

abbrev pub decreases-records : goal.decreases-records
decreases-records l = l.most
