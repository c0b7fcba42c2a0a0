use Rattle.sftp_path.proofs.Imports.{sym, refl, arith, false≢true}
use Rattle.sftp_path.proofs.PathTexts.{is_absolute-begins, not_absolute}
use Rattle.sftp_path.proofs.PathTexts.{parts_after-first}
use Rattle.sftp_path.proofs.texts.place_of_text.Goals as goal

pub loop-rest-init : goal.loop-rest-init
loop-rest-init c =
    let h = is_absolute-begins c.args.text.now (sym c.if-not-is_absolute.ensures) in
    rw c.root-place.ensures record { names = refl; read = refl; cut = h.1; behind = h.0; some = omega (arith, h.2) }

pub returns-then-not-is_name-clause-none : goal.returns-then-not-is_name-clause-none
returns-then-not-is_name-clause-none c place is = grind (arith, not_absolute, false≢true, parts_after-first)
