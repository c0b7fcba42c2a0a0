use Rattle.std.proofs.Common.{◌≡◌, ◌≢◌, ℕ, sym, ◌∙◌, refl, arith}
use Rattle.sftp_contents.specs.Pieces.{piece_number}
use Rattle.sftp_contents.proofs.Cuts.{cut-front, cut-behind}
use Rattle.sftp_contents.proofs.cutting.cut.Goals as goal

pub returns-then-position-eq0 : goal.returns-then-position-eq0
returns-then-position-eq0 c =
    let r : ℕ = c.args.store.now.room in
    let at : piece_number r c.args.size ≡ 0 = sym c.locate-position.ensures.piece ∙ c.if-position-eq0.true in
    cut-front c.args.store.now _ c.args.size at (omega arith)
    (rw c.locate-position.ensures.offset at c.cut_bytes.ensures) c.clear.ensures.empty

pub returns-else-position-eq0 : goal.returns-else-position-eq0
returns-else-position-eq0 c =
    let r : ℕ = c.args.store.now.room in
    let e : c.locate-position.result.piece ≡ piece_number r c.args.size = c.locate-position.ensures.piece in
    let apart : piece_number r c.args.size ≢ 0 = omega arith in
    cut-behind c.args.store.now _ r c.args.size refl refl apart refl
    (rw (c.locate-position.ensures.piece, c.locate-position.ensures.offset) at c.cut_pages.ensures)
