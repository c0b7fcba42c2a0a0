use Rattle.std.proofs.Common.{◌≡◌, ◌+◌, ◌-◌, ◌<◌, ◌≤◌, ℕ, List, length, take, drop, arith, refl, sym, ap, ◌∙◌}
use Rattle.std.proofs.lemmas.List.{length-take, length-drop}
use Rattle.sftp_contents.specs.Bytes.{patched}
use Rattle.sftp_contents.specs.Pieces.{AreKept, piece_number, piece_offset, piece, byte_at, IsKept}
use Rattle.sftp_contents.specs.declared.store.Store.{Store}
use Rattle.sftp_contents.proofs.Splices.{patched-none, patched-more, patched-over}
use Rattle.sftp_contents.proofs.Reach.{filled-bytes, filled-longer, kept-still, kept-part}
use Rattle.sftp_contents.proofs.writing.fill.Goals as goal

pub filling-init : goal.filling-init
filling-init c = record {
  room = refl;
  bytes = λ i. sym (patched-none (byte_at c.args.store.now) c.args.offset i);
  kept = c.requires.kept;
  few = omega arith;
}

part-length : (done here : ℕ) (new : List ℕ) → done + here ≤ length new
    → length (take (done + here - done) (drop done new)) ≡ here
part-length done here new h = simp (length-take, length-drop) (omega arith)

kept-among : (s : Store) (offset count start here : ℕ) → AreKept s offset count → offset ≤ start
    → start + here ≤ offset + count → (i : ℕ) → start ≤ i → i < start + here → IsKept s i
unfolding AreKept
kept-among s offset count start here kept low high i h k = kept i (omega arith) (omega arith)

pub fill_piece-requires : goal.fill_piece-requires
fill_piece-requires c =
    let s : Store = c.filling.store in
    let r : ℕ = c.args.store.now.room in
    let start : ℕ = c.args.offset + c.filling.done in
    let here : ℕ = c.min-here.result in
    let few : c.filling.done + here ≤ length c.args.new.now = omega arith in
    let l = part-length c.filling.done here c.args.new.now few in
    let k : piece_offset r start + here ≤ length (piece s (piece_number r start)) =
    kept-part s r start here c.filling.invariant.room (omega arith) (omega arith)
    (kept-among s c.args.offset (length c.args.new.now) start here c.filling.invariant.kept (omega arith) (omega arith)) in
    rw (l, c.locate-position.ensures.piece, c.locate-position.ensures.offset) k

pub filling-preserved : goal.filling-preserved
unfolding AreKept
filling-preserved c =
    let old : Store = c.filling.store in
    let new : Store = c.fill_piece.new.store in
    let r : ℕ = c.args.store.now.room in
    let start : ℕ = c.args.offset + c.filling.done in
    let here : ℕ = c.min-here.result in
    let few : c.filling.done + here ≤ length c.args.new.now = omega arith in
    let part : List ℕ = take (c.filling.done + here - c.filling.done) (drop c.filling.done c.args.new.now) in
    let l : length part ≡ here = part-length c.filling.done here c.args.new.now few in
    let with = c.fill_piece.ensures.written in
    let at = rw (c.locate-position.ensures.piece, c.locate-position.ensures.offset) at with in
    let room : new.room ≡ r = c.fill_piece.ensures.room ∙ c.filling.invariant.room in
    let needs : piece_offset r start + length part ≤ length (piece old (piece_number r start)) =
    rw l (kept-part old r start here c.filling.invariant.room (omega arith) (omega arith)
    (kept-among old c.args.offset (length c.args.new.now) start here c.filling.invariant.kept (omega arith)
    (omega arith))) in
    record {
      room = room;
      bytes = λ i. filled-bytes old new r start part c.filling.invariant.room room (omega arith) (omega arith) at i
          ∙ patched-over (byte_at old) (patched (byte_at c.args.store.now) c.args.offset (take c.filling.done c.args.new.now))
          start part i (c.filling.invariant.bytes i)
          ∙ ap (λ t. patched (patched (byte_at c.args.store.now) c.args.offset (take c.filling.done c.args.new.now)) start
          (take t (drop c.filling.done c.args.new.now)) i) (cut c.filling.done here)
          ∙ patched-more (byte_at c.args.store.now) c.args.offset c.args.new.now c.filling.done here i few;
      kept = λ i h k. kept-still old new i c.fill_piece.ensures.room
          (filled-longer old new (piece_number r start) (piece_offset r start) part needs at) (c.filling.invariant.kept i h k);
      few = omega arith;
    }
  where
    cut : (done here : ℕ) → done + here - done ≡ here
    cut done here = omega arith
