-- Names that had room for times have an encoding with them.
use Rattle.std.proofs.Common.{◌∙◌, ap, map, subst, sym}
use Rattle.std.specs.List.{AllByRecursion}
use Rattle.sftp_packets.specs.Packets.{HasSpelling}
use Rattle.sftp_packets.specs.Spelling.{FitsNameItem}
use Rattle.sftp_bare.specs.Bare.{bare_item}
use Rattle.sftp_clock.specs.Timed.{listing, untimed, ArePlain}
use Rattle.sftp_clock.proofs.TimedItems.{names-spelled, bare-same}
use Rattle.sftp_clock.proofs.replies.with_name_times.Goals as goal

pub returns-then-are_plain-clause-same : goal.returns-then-are_plain-clause-same
returns-then-are_plain-clause-same c =
    ap (map bare_item) c.new.ensures
    ∙ bare-same c.args.names c.put_times.new.items.items
    (c.put_times.ensures.same ∙ ap (map untimed) c.into_vec-items.ensures)

pub returns-then-are_plain-clause-spelled : goal.returns-then-are_plain-clause-spelled
returns-then-are_plain-clause-spelled c = λ id spelled.
    subst (λ items. HasSpelling (listing id items)) (sym c.new.ensures)
    (names-spelled id c.args.names c.put_times.new.items.items
    (subst ArePlain c.as_slice.ensures (c.are_plain.ensures c.if-are_plain.true))
    (c.put_times.ensures.timed
    (subst (AllByRecursion FitsNameItem) (sym c.into_vec-items.ensures) spelled.fields.1.1))
    (c.put_times.ensures.same ∙ ap (map untimed) c.into_vec-items.ensures) spelled)
