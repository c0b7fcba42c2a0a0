-- The names are compared one by one.
use Rattle.std.proofs.Common.{sym, ◌∙◌}
use Rattle.std.specs.Cmp.Lexicographic.{same_text, other_text}
use Rattle.sftp_gathering.proofs.Names.{names-next, names-differ, was_true, was_false, decides-no}
use Rattle.sftp_gathering.proofs.places.are_same.Goals as goal

pub returns-then-ne : goal.returns-then-ne
returns-then-ne c =
    decides-no _
    (names-differ c.args.found.now c.args.names.now c.names.place c.index-found-place.result _ c.names-test.true
    c.if-found-names.false c.index-found-place.is
    (λ same. other_text _ _ (was_false _ c.if-ne.ensures) (c.as_slice.ensures ∙ same)))

pub names-preserved : goal.names-preserved
names-preserved c =
    names-next c.args.found.now c.args.names.now c.names.place c.index-found-place.result _ c.names-test.true
    c.if-found-names.false c.index-found-place.is
    (sym c.as_slice.ensures ∙ same_text _ _ (was_true _ c.if-ne.ensures)) c.names.invariant
