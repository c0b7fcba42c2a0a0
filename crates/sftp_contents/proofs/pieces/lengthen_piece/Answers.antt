use Rattle.std.proofs.Common.{◌≢◌, arith, refl}
use Rattle.std.proofs.lemmas.Result.{on_err_weaker, on_ok_weaker}
use Rattle.sftp_contents.proofs.Fronts.{front-piece, page-piece, front-with, page-with, front-same, page-same}
use Rattle.sftp_contents.proofs.pieces.lengthen_piece.Goals as goal

pub returns-then-number-eq0-clause-ok : goal.returns-then-number-eq0-clause-ok
returns-then-number-eq0-clause-ok c =
    let f = front-piece c.args.store.now c.args.number c.if-number-eq0.true in
    rw f (on_ok_weaker c.lengthen.result
    (λ is. front-with c.args.store.now _ c.args.number _ c.if-number-eq0.true is refl) c.lengthen.ensures.ok)

pub returns-then-number-eq0-clause-err : goal.returns-then-number-eq0-clause-err
returns-then-number-eq0-clause-err c =
    on_err_weaker c.lengthen.result (λ is. front-same c.args.store.now _ is refl) c.lengthen.ensures.err

pub returns-else-number-eq0-clause-ok : goal.returns-else-number-eq0-clause-ok
returns-else-number-eq0-clause-ok c =
    let apart : c.args.number ≢ 0 = omega arith in
    let f = page-piece c.args.store.now c.args.number apart in
    rw f (on_ok_weaker c.lengthen_page.result
    (λ with. page-with c.args.store.now _ c.args.number _ apart refl with) c.lengthen_page.ensures.ok)

pub returns-else-number-eq0-clause-err : goal.returns-else-number-eq0-clause-err
returns-else-number-eq0-clause-err c =
    on_err_weaker c.lengthen_page.result (λ pages. page-same c.args.store.now _ refl pages) c.lengthen_page.ensures.err
