-- Nothing is held, and nothing is left.
use Rattle.sftp_treefile.proofs.Imports.{arith, inr}
use Rattle.sftp_treefile.proofs.Texts.Front.{nothing_ahead}
use Rattle.sftp_treefile.proofs.pieces.hold_some.Goals as goal

pub returns-then-count-eq0-clause-none : goal.returns-then-count-eq0-clause-none
returns-then-count-eq0-clause-none g c = inr (nothing_ahead c.args.input.now c.refill.new.self c.refill.ensures.same
    (grind arith) (c.in_ok-count.ensures.end (grind arith)))
