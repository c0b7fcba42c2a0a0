-- No bytes are held, and none are left.
use Rattle.sftp_treefile.proofs.Imports.{◌≡◌, ◌<◌, length, arith, inr, eqb-true}
use Rattle.std.proofs.lemmas.Bool.Decides.{nat_tests}
use Rattle.sftp_treefile.proofs.Texts.Front.{nothing_held, something_held}
use Rattle.sftp_treefile.proofs.reading.check_end.Goals as goal

pub returns-clause-ended : goal.returns-clause-ended
returns-clause-ended g c =
    let m = c.fill.new.self in
    let none : length m.held ≡ 0 = grind (arith, nat_tests, eqb-true) in
    nothing_held c.args.input.now m c.fill.ensures.same c.in_ok-fill.ensures.held none

pub returns-then-not-is_empty-clause-more : goal.returns-then-not-is_empty-clause-more
returns-then-not-is_empty-clause-more g c =
    let m = c.fill.new.self in
    let some : 0 < length m.held = grind (arith, nat_tests) in
    inr (something_held c.args.input.now m c.fill.ensures.same some)
