-- The request at the place that was found gets the reply.
use Rattle.sftp_audit.proofs.Imports.{refl, sym, ap, ◌∙◌, arith, is_some, true≢false, slice_get_read}
use Rattle.sftp_audit.proofs.auditing.Places.{place_of-open}
use Rattle.sftp_sets.specs.Collecting.{exchanges_of}
use Rattle.sftp_sets.proofs.Places.{given_there, within_kept}
use Rattle.sftp_sets.proofs.waiting.answer.Goals as goal

pub returns-in_default-clause-refused : goal.returns-in_default-clause-refused
returns-in_default-clause-refused c = (
  refl,
  sym (place_of-open c.args.stamped.reply.id (exchanges_of c.args.kept.now.items)) ∙ ap is_some (sym c.in_default.ensures),
)

pub unreachable-requires : goal.unreachable-requires
unreachable-requires c =
    let kept = c.args.kept.now in
    let within = within_kept kept.items c.in-Some.place c.args.stamped.reply.id (sym c.in-Some.ensures) in
    true≢false (sym (c.in-None.ensures.variant.1 (omega (arith, within, kept.ok.0))))

pub returns-clause-noted : goal.returns-clause-noted
returns-clause-noted c = λ apart.
    let kept = c.args.kept.now in
    let w = c.in-Some-get_mut.waiting.now in
    given_there kept.items c.in-Some.place w c.args.stamped apart (sym c.in-Some.ensures)
    (slice_get_read kept.items kept.len c.in-Some.place w kept.ok.0 (c.in-Some-get_mut.ensures.variant.0 refl)
    c.in-Some-get_mut.ensures.value)

pub returns-clause-waited : goal.returns-clause-waited
returns-clause-waited c =
    sym (place_of-open c.args.stamped.reply.id (exchanges_of c.args.kept.now.items))
    ∙ ap is_some (sym c.in-Some.ensures)
