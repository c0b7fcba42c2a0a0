-- The first that is known, or none.
use Rattle.sftp_treefile.proofs.Imports.{◌≡◌, ℕ, ◌<◌, List, [], ◌∷◌, length, get_or, refl, sym, ◌∙◌, arith, suc, zero, Times}
use Rattle.std.proofs.Common.{add-one}
use Rattle.sftp_treefile.proofs.Texts.Entries.{any_here, any_next, any_end}
use Rattle.sftp_treefile.proofs.times.any_known.Goals as goal

-- what stands at a place does not depend on what would stand past the end
own : (times : List Times) (i : ℕ) (d e : Times) → i < length times → get_or times i d ≡ get_or times i e
own [] i d e lt = absurd (omega arith)
own (t ∷ times) zero d e lt = refl
own (t ∷ times) (suc i) d e lt = own times i d e (omega arith)

pub returns-then-are_known : goal.returns-then-are_known
returns-then-are_known c =
    sym
    (any_here c.args.times.now c.loop-time.time-index _ c.loop-time-test.true
    (own c.args.times.now c.loop-time.time-index _ _ c.loop-time-test.true) (sym c.are_known.ensures ∙ c.if-are_known.true))
    ∙ c.loop-time.invariant

pub loop-time-preserved : goal.loop-time-preserved
loop-time-preserved c =
    rw add-one (any_next c.args.times.now c.loop-time.time-index _ c.loop-time-test.true
    (own c.args.times.now c.loop-time.time-index _ _ c.loop-time-test.true) (sym c.are_known.ensures ∙ c.if-are_known.false)
    ∙ c.loop-time.invariant)

pub returns : goal.returns
returns c = sym (any_end c.args.times.now c.loop-time.time-index c.loop-time-test.false) ∙ c.loop-time.invariant
