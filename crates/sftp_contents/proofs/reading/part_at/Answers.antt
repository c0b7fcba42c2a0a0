use Rattle.std.proofs.Common.{◌≡◌, ◌+◌, ◌-◌, ◌≤◌, ℕ, List, length, take, drop, sym, ap, ◌∙◌, refl, arith}
use Rattle.sftp_contents.specs.Pieces.{piece_number, piece_offset, piece}
use Rattle.sftp_contents.specs.declared.store.Store.{Store}
use Rattle.sftp_contents.proofs.Whole.{kept-tabulate, hole-tabulate, part-length}
use Rattle.sftp_contents.proofs.reading.part_at.Goals as goal

pub returns-then-position-kept-clause-bytes : goal.returns-then-position-kept-clause-bytes
returns-then-position-kept-clause-bytes c =
    let s : Store = c.args.store.now in
    let r : ℕ = s.room in
    let at : ℕ = c.args.at in
    let n : ℕ = c.min-count.result in
    let kept : List ℕ = c.piece-kept.result.now in
    let w : ℕ = c.locate-position.result.offset in
    let is : kept ≡ piece s (piece_number r at) = c.piece-kept.ensures ∙ ap (piece s) c.locate-position.ensures.piece in
    let fits : w + n ≤ length kept = omega arith in
    let l = part-length w n kept fits in
    let cut : w + n - w ≡ n = omega arith in
    let needs : piece_offset r at + n ≤ length (piece s (piece_number r at)) =
    rw (← is, ← c.locate-position.ensures.offset) fits in
    rw l (ap (λ t. take t (drop w kept)) cut ∙ ap (λ t. take n (drop t kept)) c.locate-position.ensures.offset
    ∙ ap (λ t. take n (drop (piece_offset r at) t)) is ∙ sym (kept-tabulate s r at n refl (omega arith) needs))

pub returns-else-position-kept-clause-bytes : goal.returns-else-position-kept-clause-bytes
returns-else-position-kept-clause-bytes c =
    let s : Store = c.args.store.now in
    let r : ℕ = s.room in
    let at : ℕ = c.args.at in
    let n : ℕ = c.min-here.result in
    let is : c.piece-kept.result.now ≡ piece s (piece_number r at) =
    c.piece-kept.ensures ∙ ap (piece s) c.locate-position.ensures.piece in
    let l = ap length is in
    let past : length (piece s (piece_number r at)) ≤ piece_offset r at = omega arith in
    sym (hole-tabulate s r at n refl (omega arith) past)
