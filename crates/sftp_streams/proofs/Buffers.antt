-- Readers that hold bytes and look ahead, and bytes that are written in several calls.
use Rattle.sftp_streams.proofs.Imports.{◌≡◌, ℕ, ◌+◌, ◌-◌, ◌≤◌, List, ◌++◌, take, drop, length, sym, ap, ◌∙◌, arith}
use Rattle.sftp_streams.proofs.Imports.{append_assoc, take-append-drop, min, drop-drop, drop-take, take_at}
use Rattle.sftp_streams.proofs.Imports.{length-append, length-take, length-take-le, Option, None, Some, refl}
use Rattle.sftp_streams.proofs.Imports.{same_Some, prepend_known, Ahead, bytes_ahead, Result, Ok, Err, OnErr, drop_at}
use Rattle.sftp_streams.proofs.Imports.{take-append-le, Keeps, HasAhead, ahead_without}
use Rattle.std.specs.Io.KnownBytes.{Appends}
use Rattle.sftp_streams.specs.Streams.{AppendsPart}

-- ==== The bytes between two places of a room.

pub taken : (start end count : ℕ) (room held : List ℕ) → held ≡ take (end - start) (drop start room) → start ≤ end
    → count ≤ length held → take (end - (start + count)) (drop (start + count) room) ≡ drop count held
taken start end count room held e ordered some =
    let rest = end - (start + count) in
    let len : length held ≡ min (end - start) (length (drop start room)) =
    ap length e ∙ length-take (end - start) (drop start room) in
    let whole : count + rest ≡ end - start = omega (arith, len) in
    ap (λ (l : List ℕ). take rest l) (sym (drop-drop count start room)) ∙ sym (drop-take count rest (drop start room))
    ∙ ap (λ (n : ℕ). drop count (take n (drop start room))) whole ∙ ap (λ (l : List ℕ). drop count l) (sym e)

-- the bytes that are read after the front ones
pub read_behind : (front more rest : List ℕ) (end count : ℕ) → length front ≡ end → count ≤ length more
    → take (end + count) (front ++ (more ++ rest)) ≡ front ++ take count more
read_behind front more rest end count here within =
    let new = front ++ take count more in
    let parts : front ++ (more ++ rest) ≡ new ++ (drop count more ++ rest) =
    ap (λ (l : List ℕ). front ++ (l ++ rest)) (sym (take-append-drop count more))
    ∙ ap (λ (l : List ℕ). front ++ l) (append_assoc (take count more) (drop count more) rest)
    ∙ sym (append_assoc front (take count more) (drop count more ++ rest)) in
    ap (λ (l : List ℕ). take (end + count) l) parts
    ∙ take_at new (drop count more ++ rest) (end + count) (omega (arith, length-append front (take count more), length-take-le count more within))

-- the same where the front bytes were moved there
pub refilled : (start end count : ℕ) (old room held more rest : List ℕ) → held ≡ take (end - start) (drop start old)
    → take (end - start) room ≡ take (end - start) (drop start old) → start ≤ end → end ≤ length room
    → count ≤ length more → take (end - start + count) (take (end - start) room ++ (more ++ rest)) ≡ held ++ take count more
refilled start end count old room held more rest e moved ordered within some =
    read_behind (take (end - start) room) more rest (end - start) count (length-take-le (end - start) room (omega arith)) some
    ∙ ap (λ (l : List ℕ). l ++ take count more) (moved ∙ sym e)

-- ==== What is ahead of a reader while its buffer fills.

-- what is ahead begins with what is held
pub record Ahead-parts (a : Ahead) (bytes : List ℕ) : Type 0 where
  pub left : List ℕ
  pub known : a.left ≡ Some left
  pub bytes_are : bytes ≡ a.held ++ left

pub ahead_parts : (a : Ahead) (bytes : List ℕ) → bytes_ahead a ≡ Some bytes → Ahead-parts a bytes
ahead_parts a bytes known = parts_by a a.left bytes refl known
  where
    parts_by : (a : Ahead) (left : Option (List ℕ)) (bytes : List ℕ) → a.left ≡ left → prepend_known a.held left ≡ Some bytes → Ahead-parts a bytes
    parts_by a None bytes e k = absurd cc
    parts_by a (Some x) bytes e k = record { left = x; known = e; bytes_are = sym (same_Some (a.held ++ x) bytes k) }

-- ==== Bytes that are written in several calls.

pub on_err : {A E P : Type 0} (result : Result A E) → P → OnErr result P
on_err (Ok value) holds = tt
on_err (Err error) holds = holds

pub Appends-then : (a b c : Option (List ℕ)) (xs ys : List ℕ) → Appends a b xs → Appends b c ys → Appends a c (xs ++ ys)
Appends-then None b c xs ys p q = tt
Appends-then (Some x) None c xs ys p q = absurd p
Appends-then (Some x) (Some y) None xs ys p q = absurd q
Appends-then (Some x) (Some y) (Some z) xs ys p q = q ∙ ap (λ (l : List ℕ). l ++ ys) p ∙ append_assoc x xs ys

-- of the bytes all but the rest were appended, and no call failed
pub record IsPutBefore (old new : Option (List ℕ)) (failed fails : ℕ) (bytes rest : List ℕ) : Type 0 where
  pub done : List ℕ
  pub parts : bytes ≡ done ++ rest
  pub appended : Appends old new done
  pub none_failed : fails ≡ failed

pub IsPutBefore-next : (a b c : Option (List ℕ)) (failed fails now : ℕ) (bytes rest : List ℕ) (count : ℕ) → IsPutBefore a b failed fails bytes rest
    → Appends b c (take count rest) → now ≡ fails → IsPutBefore a c failed now bytes (drop count rest)
IsPutBefore-next a b c failed fails now bytes rest count put some e = record {
  done = put.done ++ take count rest;
  parts = put.parts ∙ ap (λ (l : List ℕ). put.done ++ l) (sym (take-append-drop count rest))
      ∙ sym (append_assoc put.done (take count rest) (drop count rest));
  appended = Appends-then a b c put.done (take count rest) put.appended some;
  none_failed = e ∙ put.none_failed;
}

-- ---- one text after another

pub AppendsPart-first : (a b : Option (List ℕ)) (xs ys : List ℕ) → AppendsPart a b xs → AppendsPart a b (xs ++ ys)
AppendsPart-first a b xs ys p = record {
  part = p.part;
  rest = p.rest ++ ys;
  parts = ap (λ (l : List ℕ). l ++ ys) p.parts ∙ append_assoc p.part p.rest ys;
  appended = p.appended;
}

pub AppendsPart-then : (a b c : Option (List ℕ)) (xs ys : List ℕ) → Appends a b xs → AppendsPart b c ys → AppendsPart a c (xs ++ ys)
AppendsPart-then a b c xs ys first p = record {
  part = xs ++ p.part;
  rest = p.rest;
  parts = ap (λ (l : List ℕ). xs ++ l) p.parts ∙ sym (append_assoc xs p.part p.rest);
  appended = Appends-then a b c xs p.part first p.appended;
}

-- ==== What is taken from the front of the bytes held is taken from the bytes ahead.

pub known_kept : (a b : Option (List ℕ)) (bytes : List ℕ) → Keeps a b → a ≡ Some bytes → b ≡ Some bytes
known_kept None b bytes kept e = absurd cc
known_kept (Some x) None bytes kept e = absurd kept
known_kept (Some x) (Some y) bytes kept e = ap Some kept ∙ e

-- a text in front of the bytes ahead is in front of those held, if so many are
pub front_held : (m : Ahead) (text before after : List ℕ) → HasAhead m before → before ≡ text ++ after
    → length text ≤ length m.held → m.held ≡ text ++ drop (length text) m.held
front_held m text before after known e within =
    let p = ahead_parts m before known in
    let count = length text in
    let whole : m.held ++ p.left ≡ text ++ after = sym p.bytes_are ∙ e in
    let front : take count m.held ≡ text =
    sym (take-append-le count m.held p.left within) ∙ ap (take count) whole ∙ take_at text after count refl in
    sym (take-append-drop count m.held) ∙ ap (λ (l : List ℕ). l ++ drop count m.held) front

pub front_taken : (m : Ahead) (text rest left : List ℕ) → m.held ≡ text ++ rest → m.left ≡ Some left
    → HasAhead (ahead_without (length m.held - length rest) m) (rest ++ left)
front_taken m text rest left held known =
    let taken = length m.held - length rest in
    let count : taken ≡ length text = omega (arith, ap length held, length-append text rest) in
    let dropped : drop taken m.held ≡ rest =
    ap (λ (n : ℕ). drop n m.held) count ∙ ap (drop (length text)) held ∙ drop_at text rest (length text) refl in
    ap (λ (l : Option (List ℕ)). prepend_known (drop taken m.held) l) known ∙ ap (λ (l : List ℕ). Some (l ++ left)) dropped
