-- Texts in quotes, a byte at a time, and hexadecimal digits.
use Rattle.std.proofs.Common.{◌≡◌, ◌==◌, ℕ, ◌+◌, ◌-◌, ◌*◌, ◌/◌, ◌%◌, ◌<◌, ◌≤◌, List, [], ◌∷◌, ◌++◌, take, drop, length}
use Rattle.std.proofs.Common.{false, nat_lt, refl, sym, ap, ◌∙◌, append_assoc, arith, inl, inr}
use Rattle.std.specs.List.{flat_map}
use Rattle.std.proofs.lemmas.Bool.{cases_Bool}
use Rattle.std.proofs.lemmas.List.{append-nil, length-append, length-take-le, take-append-drop, take_all}
use Rattle.std.proofs.lemmas.Grind.{flat_map-append}
use Rattle.std.proofs.Math.Seq.{take-append_seam, drop-append_seam}
use Rattle.std.proofs.Math.ListN.{drop_of_length-le}
use Rattle.sftp_text.specs.Digits.{byte_text, hex_byte, hex_digit, is_plain, hex_text}
use Rattle.sftp_commands.specs.Going.{escapes_in}

-- ---- how many bytes a text stands for

escapes_in-append : (xs ys : List ℕ) → escapes_in (xs ++ ys) ≡ escapes_in xs + escapes_in ys
escapes_in-append [] ys = omega arith
escapes_in-append (c ∷ xs) ys =
    elim (cases_Bool (c == 92)) [
      | inl escape ↦ rw escape omega (arith, escapes_in-append xs ys)
      | inr other ↦ rw other omega (arith, escapes_in-append xs ys)
    ]

-- no hexadecimal digit begins an escape
digit-plain : (d : ℕ) → (hex_digit d == 92) ≡ false
digit-plain d =
    elim (cases_Bool (nat_lt d 10)) [
      | inl low ↦ rw low grind arith
      | inr high ↦ rw high grind arith
    ]

-- the characters of a byte
byte-size : (b : ℕ) → length (byte_text b) ≡ 1 + 3 * escapes_in (byte_text b)
byte-size b =
    elim (cases_Bool (is_plain b)) [
      | inl plain ↦ let other : (b == 92) ≡ false = grind arith in rw (plain, other) refl
      | inr escaped ↦ rw (escaped, digit-plain (b / 16), digit-plain (b % 16)) refl
    ]

pub text_size : (bytes : List ℕ)
    → length (flat_map byte_text bytes) ≡ length bytes + 3 * escapes_in (flat_map byte_text bytes)
text_size [] = refl
text_size (b ∷ bytes) =
    omega (
      arith,
      length-append (byte_text b) (flat_map byte_text bytes),
      escapes_in-append (byte_text b) (flat_map byte_text bytes),
      byte-size b,
      text_size bytes,
    )

-- ---- the first bytes of a text

-- the text of the bytes in front, and what is left
pub record IsCutAt (count : ℕ) (text left bytes : List ℕ) : Type 0 where
  pub front : List ℕ
  pub back : List ℕ
  pub whole : bytes ≡ front ++ back
  pub size : length front ≡ count
  pub shown : text ≡ flat_map byte_text front ++ left
  pub hidden : left ≡ flat_map byte_text back

-- what is left of a text behind so many bytes
pub record IsCut (count : ℕ) (text left : List ℕ) : Type 0 where
  pub within : length left ≤ length text
  pub parts : (bytes : List ℕ) → text ≡ flat_map byte_text bytes → IsCutAt count text left bytes

pub cut_start : (text : List ℕ) → IsCut 0 text text
cut_start text = record {
  within = omega arith;
  parts = λ bytes is. record { front = []; back = bytes; whole = refl; size = refl; shown = refl; hidden = is };
}

-- a byte further
step-back : (count : ℕ) (text left rest bytes : List ℕ) → ((b : ℕ) (next : List ℕ) → left ≡ byte_text b ++ next → rest ≡ next)
    → length rest < length left → (cut : IsCutAt count text left bytes) → (back : List ℕ) → cut.back ≡ back
    → IsCutAt (count + 1) text rest bytes
step-back count text left rest bytes next shorter cut [] is =
    absurd (omega (arith, ap length (cut.hidden ∙ ap (flat_map byte_text) is)))
step-back count text left rest bytes next shorter cut (b ∷ back) is =
    let left_is : left ≡ byte_text b ++ flat_map byte_text back = cut.hidden ∙ ap (flat_map byte_text) is in
    let rest_is : rest ≡ flat_map byte_text back = next b (flat_map byte_text back) left_is in
    record {
      front = cut.front ++ b ∷ [];
      back = back;
      whole = cut.whole ∙ ap (λ (l : List ℕ). cut.front ++ l) is ∙ sym (append_assoc cut.front (b ∷ []) back);
      size = omega (arith, length-append cut.front (b ∷ []), cut.size);
      shown =
          cut.shown ∙ ap (λ (l : List ℕ). flat_map byte_text cut.front ++ l) (left_is ∙ ap (λ (l : List ℕ). byte_text b ++ l) (sym rest_is))
          ∙ sym (append_assoc (flat_map byte_text cut.front) (byte_text b) rest)
          ∙ ap (λ (l : List ℕ). l ++ rest) (ap (λ (l : List ℕ). flat_map byte_text cut.front ++ l) (sym (append-nil (byte_text b)))
          ∙ sym (flat_map-append byte_text cut.front (b ∷ [])));
      hidden = rest_is;
    }

pub cut_next : (count : ℕ) (text left rest : List ℕ) → IsCut count text left
    → ((b : ℕ) (next : List ℕ) → left ≡ byte_text b ++ next → rest ≡ next) → length rest < length left
    → IsCut (count + 1) text rest
cut_next count text left rest so_far next shorter = record {
  within = omega (arith, so_far.within);
  parts = λ bytes is.
      step-back count text left rest bytes next shorter (so_far.parts bytes is) (so_far.parts bytes is).back refl;
}

-- at the limit
pub shown_at : (count : ℕ) (text left bytes : List ℕ) → IsCut count text left → text ≡ flat_map byte_text bytes
    → take (length text - length left) text ≡ flat_map byte_text (take count bytes)
shown_at count text left bytes so_far is =
    let cut = so_far.parts bytes is in
    let size : length text - length left ≡ length (flat_map byte_text cut.front) =
    omega (arith, ap length cut.shown, length-append (flat_map byte_text cut.front) left) in
    ap (λ (n : ℕ). take n text) size ∙ ap (take (length (flat_map byte_text cut.front))) cut.shown
    ∙ take-append_seam (flat_map byte_text cut.front) left
    ∙ ap (flat_map byte_text) (sym (ap (take count) cut.whole ∙ ap (λ (n : ℕ). take n (cut.front ++ cut.back)) (sym cut.size) ∙ take-append_seam cut.front cut.back))

pub hidden_at : (count : ℕ) (text left bytes : List ℕ) → IsCut count text left → text ≡ flat_map byte_text bytes
    → left ≡ flat_map byte_text (drop count bytes)
hidden_at count text left bytes so_far is =
    let cut = so_far.parts bytes is in
    cut.hidden
    ∙ ap (flat_map byte_text) (sym (ap (drop count) cut.whole ∙ ap (λ (n : ℕ). drop n (cut.front ++ cut.back)) (sym cut.size) ∙ drop-append_seam cut.front cut.back))

-- at the end of the text before that
end-back : (count limit : ℕ) (text left bytes : List ℕ) → ((b : ℕ) (next : List ℕ) → left ≡ byte_text b ++ next → ⊥)
    → count ≤ limit → (cut : IsCutAt count text left bytes) → (back : List ℕ) → cut.back ≡ back
    → length bytes ≤ limit
end-back count limit text left bytes none below cut [] is =
    omega (arith, ap length (cut.whole ∙ ap (λ (l : List ℕ). cut.front ++ l) is ∙ append-nil cut.front), cut.size, below)
end-back count limit text left bytes none below cut (b ∷ back) is =
    absurd (none b (flat_map byte_text back) (cut.hidden ∙ ap (flat_map byte_text) is))

few : (count limit : ℕ) (text left bytes : List ℕ) → IsCut count text left
    → ((b : ℕ) (next : List ℕ) → left ≡ byte_text b ++ next → ⊥) → count ≤ limit → text ≡ flat_map byte_text bytes
    → length bytes ≤ limit
few count limit text left bytes so_far none below is =
    end-back count limit text left bytes none below (so_far.parts bytes is) (so_far.parts bytes is).back refl

pub shown_whole : (count limit : ℕ) (text left bytes : List ℕ) → IsCut count text left
    → ((b : ℕ) (next : List ℕ) → left ≡ byte_text b ++ next → ⊥) → count ≤ limit → text ≡ flat_map byte_text bytes
    → text ≡ flat_map byte_text (take limit bytes)
shown_whole count limit text left bytes so_far none below is =
    is ∙ ap (flat_map byte_text) (sym (take_all limit bytes (few count limit text left bytes so_far none below is)))

pub hidden_whole : (count limit : ℕ) (text left bytes : List ℕ) → IsCut count text left
    → ((b : ℕ) (next : List ℕ) → left ≡ byte_text b ++ next → ⊥) → count ≤ limit → text ≡ flat_map byte_text bytes
    → [] ≡ flat_map byte_text (drop limit bytes)
hidden_whole count limit text left bytes so_far none below is =
    ap (flat_map byte_text) (sym (drop_of_length-le bytes (few count limit text left bytes so_far none below is)))

-- ---- hexadecimal digits

digits-size : (bytes : List ℕ) → length (flat_map hex_byte bytes) ≡ 2 * length bytes
digits-size [] = refl
digits-size (b ∷ bytes) = omega (arith, digits-size bytes)

digits-parts : (limit : ℕ) (bytes : List ℕ)
    → flat_map hex_byte bytes ≡ flat_map hex_byte (take limit bytes) ++ flat_map hex_byte (drop limit bytes)
digits-parts limit bytes =
    ap (flat_map hex_byte) (sym (take-append-drop limit bytes))
    ∙ flat_map-append hex_byte (take limit bytes) (drop limit bytes)

front-size : (limit : ℕ) (bytes : List ℕ) → limit ≤ length bytes
    → 2 * limit ≡ length (flat_map hex_byte (take limit bytes))
front-size limit bytes few = omega (arith, digits-size (take limit bytes), length-take-le limit bytes few)

enough : (limit : ℕ) (digits bytes : List ℕ) → digits ≡ flat_map hex_byte bytes → limit < length digits / 2
    → limit ≤ length bytes
enough limit digits bytes is more = omega (arith, ap length is, digits-size bytes)

few-digits : (limit : ℕ) (digits bytes : List ℕ) → digits ≡ flat_map hex_byte bytes → length digits / 2 ≤ limit
    → length bytes ≤ limit
few-digits limit digits bytes is small = omega (arith, ap length is, digits-size bytes)

shown-digits : (limit : ℕ) (digits bytes : List ℕ) → digits ≡ flat_map hex_byte bytes → limit < length digits / 2
    → take (2 * limit) digits ≡ flat_map hex_byte (take limit bytes)
shown-digits limit digits bytes is more =
    ap (λ (n : ℕ). take n digits) (front-size limit bytes (enough limit digits bytes is more))
    ∙ ap (take (length (flat_map hex_byte (take limit bytes)))) (is ∙ digits-parts limit bytes)
    ∙ take-append_seam (flat_map hex_byte (take limit bytes)) (flat_map hex_byte (drop limit bytes))

hidden-digits : (limit : ℕ) (digits bytes : List ℕ) → digits ≡ flat_map hex_byte bytes → limit < length digits / 2
    → drop (2 * limit) digits ≡ flat_map hex_byte (drop limit bytes)
hidden-digits limit digits bytes is more =
    ap (λ (n : ℕ). drop n digits) (front-size limit bytes (enough limit digits bytes is more))
    ∙ ap (drop (length (flat_map hex_byte (take limit bytes)))) (is ∙ digits-parts limit bytes)
    ∙ drop-append_seam (flat_map hex_byte (take limit bytes)) (flat_map hex_byte (drop limit bytes))

pub digits_shown : (limit : ℕ) (digits bytes : List ℕ) → digits ≡ hex_text bytes → limit < length digits / 2
    → take (2 * limit) digits ≡ hex_text (take limit bytes)
unfolding hex_text
digits_shown limit digits bytes is more = shown-digits limit digits bytes is more

pub digits_hidden : (limit : ℕ) (digits bytes : List ℕ) → digits ≡ hex_text bytes → limit < length digits / 2
    → drop (2 * limit) digits ≡ hex_text (drop limit bytes)
unfolding hex_text
digits_hidden limit digits bytes is more = hidden-digits limit digits bytes is more

pub digits_shown_whole : (limit : ℕ) (digits bytes : List ℕ) → digits ≡ hex_text bytes → length digits / 2 ≤ limit
    → digits ≡ hex_text (take limit bytes)
unfolding hex_text
digits_shown_whole limit digits bytes is small =
    is ∙ ap (flat_map hex_byte) (sym (take_all limit bytes (few-digits limit digits bytes is small)))

pub digits_hidden_whole : (limit : ℕ) (digits bytes : List ℕ) → digits ≡ hex_text bytes → length digits / 2 ≤ limit
    → [] ≡ hex_text (drop limit bytes)
unfolding hex_text
digits_hidden_whole limit digits bytes is small =
    ap (flat_map hex_byte) (sym (drop_of_length-le bytes (few-digits limit digits bytes is small)))
