use Rattle.std.proofs.Common.{◌≡◌, length}
use Rattle.sftp_text.specs.Fields.{fields_text}
use Rattle.sftp_text.proofs.fields.read_fields.Given as goal

abbrev pub invariant-fields : goal.invariant-fields
invariant-fields l =
    (fields_text l.left).read l.bytes.items l.line.now ≡ (fields_text l.fn.fields).read l.fn.bytes.items l.fn.line.now

abbrev pub decreases-fields : goal.decreases-fields
decreases-fields l = length l.left
