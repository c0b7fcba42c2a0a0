use Rattle.std.proofs.Common.{◌≢◌, arith, refl}
use Rattle.sftp_contents.proofs.Fronts.{front-piece, page-piece, front-with, page-with}
use Rattle.sftp_contents.proofs.pieces.fill_piece.Goals as goal

pub overwrite-requires : goal.overwrite-requires
overwrite-requires c = rw (← front-piece c.args.store.now c.args.number c.if-number-eq0.true) c.requires

pub fill_page-requires : goal.fill_page-requires
fill_page-requires c =
    let apart : c.args.number ≢ 0 = omega arith in
    rw (← page-piece c.args.store.now c.args.number apart) c.requires

pub returns-then-number-eq0-clause-written : goal.returns-then-number-eq0-clause-written
returns-then-number-eq0-clause-written c =
    let f = front-piece c.args.store.now c.args.number c.if-number-eq0.true in
    front-with c.args.store.now _ c.args.number _ c.if-number-eq0.true (rw f c.overwrite.ensures) refl

pub returns-else-number-eq0-clause-written : goal.returns-else-number-eq0-clause-written
returns-else-number-eq0-clause-written c =
    let apart : c.args.number ≢ 0 = omega arith in
    let f = page-piece c.args.store.now c.args.number apart in
    page-with c.args.store.now _ c.args.number _ apart refl (rw f c.fill_page.ensures)
