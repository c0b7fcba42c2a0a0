use Rattle.std.proofs.Common.{◌≡◌, length}
use Rattle.sftp_text.specs.Fields.{fields_text}
use Rattle.sftp_text.proofs.fields.put_fields.Given as goal

abbrev pub invariant-fields : goal.invariant-fields
invariant-fields l =
    (fields_text l.left).show l.text.items l.bytes.now ≡ (fields_text l.fn.fields).show l.fn.text.items l.fn.bytes.now

abbrev pub decreases-fields : goal.decreases-fields
decreases-fields l = length l.left
