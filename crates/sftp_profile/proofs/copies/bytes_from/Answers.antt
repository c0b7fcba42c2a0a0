use Rattle.std.proofs.Common.{◌+◌, ◌∙◌, sym}
use Rattle.sftp_profile.proofs.Pieces.{readable-up_to, copied-within, some-count}
use Rattle.sftp_profile.proofs.copies.bytes_from.Goals as goal

pub bytes_of-requires-clause-there : goal.bytes_of-requires-clause-there
bytes_of-requires-clause-there c =
    readable-up_to c.args.session.now c.args.handle.now c.args.offset 0 c.in-Some.size
    (c.args.offset + c.copied_count-count.result) c.requires (sym c.size_of.ensures ∙ c.in-Some.is)
    (copied-within c.in-Some.size c.args.offset c.args.len c.copied_count-count.result c.copied_count-count.ensures
    (some-count c.copied_count-count.result c.if-count-eq0.false))
