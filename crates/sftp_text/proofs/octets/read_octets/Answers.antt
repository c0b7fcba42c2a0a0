use Rattle.std.proofs.Common.{◌∙◌}
use Rattle.sftp_text.proofs.ListLaws.{hex_onto-goes_on}
use Rattle.sftp_text.proofs.octets.read_octets.Goals as goal

pub octets-preserved : goal.octets-preserved
octets-preserved c =
    rw c.in_ok-push.ensures.items (hex_onto-goes_on c.octets.bytes.items c.octets.line.now c.in-Some.rest.now
    c.in-Some.byte c.in-Some.ensures
    ∙ c.octets.invariant)
