-- Whether a request of the id waits is whether it has a place.
use Rattle.sftp_audit.proofs.Imports.{refl, sym, ap, ◌∙◌, arith, is_some, length-map}
use Rattle.sftp_audit.proofs.auditing.Places.{place_of-open}
use Rattle.sftp_sets.specs.Collecting.{exchange_of, exchanges_of}
use Rattle.sftp_sets.proofs.waiting.make_room.Goals as goal

pub returns-then-is_some-clause-refused : goal.returns-then-is_some-clause-refused
returns-then-is_some-clause-refused c = (
  refl,
  sym (place_of-open c.args.id (exchanges_of c.args.kept.now.items)) ∙ ap is_some (sym c.place_of.ensures)
      ∙ sym c.is_some.ensures ∙ c.if-is_some.true,
)

pub returns-then-len-ge-WINDOW-clause-refused : goal.returns-then-len-ge-WINDOW-clause-refused
returns-then-len-ge-WINDOW-clause-refused c = (
  refl,
  sym (place_of-open c.args.id (exchanges_of c.args.kept.now.items)) ∙ ap is_some (sym c.place_of.ensures)
      ∙ sym c.is_some.ensures ∙ c.if-is_some.false,
  omega (arith, c.if-len-ge-WINDOW.true, c.args.kept.now.ok.0, length-map c.args.kept.now.items exchange_of),
)

pub returns-clause-apart : goal.returns-clause-apart
returns-clause-apart c =
    sym (place_of-open c.args.id (exchanges_of c.args.kept.now.items)) ∙ ap is_some (sym c.place_of.ensures)
    ∙ sym c.is_some.ensures ∙ c.if-is_some.false
