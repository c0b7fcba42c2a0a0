-- The names are those of the sessions, one by one.
use Rattle.sftp_overlapping.proofs.Files.{one-name-more}
use Rattle.sftp_overlapping.proofs.judging.names_of.Goals as goal

pub members-preserved : goal.members-preserved
members-preserved g c =
    rw c.in_ok-push.ensures.items (one-name-more c.args.members.now c.members.member-index c.member-item.result _
    c.as_bytes.result c.members-test.true c.member-item.is c.as_bytes.ensures.value c.members.invariant)
