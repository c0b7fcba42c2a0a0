use Rattle.std.proofs.Common.{◌≡◌, ◌≤◌, ℕ, length, arith, refl, ap, ◌∙◌}
use Rattle.std.proofs.lemmas.Result.{err_from_is_err_and}
use Rattle.sftp_contents.specs.Pieces.{piece_number, piece_offset, piece_left, piece}
use Rattle.sftp_contents.specs.declared.store.Store.{Store}
use Rattle.sftp_contents.proofs.Reach.{same-bytes, appended-bytes}
use Rattle.sftp_contents.proofs.writing.put.Goals as goal

pub returns-in_err-extend_piece-clause-err : goal.returns-in_err-extend_piece-clause-err
returns-in_err-extend_piece-clause-err c =
    let p = err_from_is_err_and c.from_residual.result c.from_residual.ensures.1 in
    rw p.1 (λ i. same-bytes c.args.store.now c.extend_piece.new.store c.extend_piece.ensures.room
    c.in_err-extend_piece.ensures.err i)

pub returns-then-kept-position-clause-ok : goal.returns-then-kept-position-clause-ok
returns-then-kept-position-clause-ok c =
    let old : Store = c.args.store.now in
    let r : ℕ = old.room in
    let e : piece old c.locate-position.result.piece ≡ piece old (piece_number r c.args.offset) =
    ap (piece old) c.locate-position.ensures.piece in
    let l = ap length (c.piece-kept.ensures ∙ e) in
    let with = rw c.locate-position.ensures.piece at c.in_ok-extend_piece.ensures.ok in
    let end : piece_offset r c.args.offset ≡ length (piece old (piece_number r c.args.offset)) = omega arith in
    let fits : length c.args.new.now ≤ piece_left r c.args.offset = omega arith in
    appended-bytes old c.extend_piece.new.store r c.args.offset c.args.new.now refl c.extend_piece.ensures.room fits end with
