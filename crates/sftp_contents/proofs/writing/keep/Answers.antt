use Rattle.std.proofs.Common.{◌≡◌, ◌+◌, ℕ, arith, refl, ◌∙◌, inl, inr}
use Rattle.std.proofs.lemmas.Bool.{cases_lt}
use Rattle.sftp_contents.specs.Pieces.{AreKept}
use Rattle.sftp_contents.specs.declared.store.Store.{Store}
use Rattle.sftp_contents.proofs.Reach.{same-bytes, lengthened-bytes, lengthened-longer, lengthened-here, kept-still}
use Rattle.sftp_contents.proofs.writing.keep.Goals as goal

pub keeping-init : goal.keeping-init
unfolding AreKept
keeping-init c = record { room = refl; bytes = λ i. refl; kept = λ i h k. absurd (omega arith); few = omega arith }

pub returns-in_err-lengthen_piece-clause-bytes : goal.returns-in_err-lengthen_piece-clause-bytes
returns-in_err-lengthen_piece-clause-bytes c = λ i.
    same-bytes c.keeping.store c.lengthen_piece.new.store c.lengthen_piece.ensures.room
    c.in_err-lengthen_piece.ensures.err i ∙ c.keeping.invariant.bytes i

pub keeping-preserved : goal.keeping-preserved
unfolding AreKept
keeping-preserved c =
    let old : Store = c.keeping.store in
    let new : Store = c.lengthen_piece.new.store in
    let r : ℕ = c.args.store.now.room in
    let start : ℕ = c.args.offset + c.keeping.done in
    let here : ℕ = c.min-here.result in
    let with = c.in_ok-lengthen_piece.ensures.ok in
    let at = rw (c.locate-position.ensures.piece, c.locate-position.ensures.offset) at with in
    let room : new.room ≡ r = c.lengthen_piece.ensures.room ∙ c.keeping.invariant.room in
    record {
      room = room;
      bytes = λ i. lengthened-bytes old new _ _ c.lengthen_piece.ensures.room with i ∙ c.keeping.invariant.bytes i;
      kept = λ i h k. elim (cases_lt i start) [
        | inl before ↦ kept-still old new i c.lengthen_piece.ensures.room (lengthened-longer old new _ _ with)
            (c.keeping.invariant.kept i h before)
        | inr from ↦ lengthened-here old new r start here room (omega arith) at i from (omega arith)
      ];
      few = omega arith;
    }
