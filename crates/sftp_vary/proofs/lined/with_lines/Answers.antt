-- Short names with lines have room in a reply.
use Rattle.std.proofs.Common.{◌∙◌, ap, map, subst, sym}
use Rattle.std.specs.List.{AllByRecursion}
use Rattle.sftp_packets.specs.Packets.{HasSpelling}
use Rattle.sftp_packets.specs.Spelling.{FitsNameItem}
use Rattle.sftp_bare.specs.Bare.{bare_item}
use Rattle.sftp_vary.specs.Lines.{listing, AreShort}
use Rattle.sftp_vary.proofs.LineLaws.{lined-spelled}
use Rattle.sftp_vary.proofs.lined.with_lines.Goals as goal

pub returns-then-are_short-clause-spelled : goal.returns-then-are_short-clause-spelled
returns-then-are_short-clause-spelled c = λ id spelled.
    subst (λ items. HasSpelling (listing id items)) (sym c.new.ensures)
    (lined-spelled id c.args.names c.put_lines.new.items.items
    (subst AreShort c.as_slice.ensures (c.are_short.ensures c.if-are_short.true))
    (c.put_lines.ensures.lined
    (subst (AllByRecursion FitsNameItem) (sym c.into_vec-items.ensures) spelled.fields.1.1))
    (c.put_lines.ensures.same ∙ ap (map bare_item) c.into_vec-items.ensures) spelled)
