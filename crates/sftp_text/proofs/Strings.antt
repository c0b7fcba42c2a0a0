-- Texts in quotes and hexadecimal digits are read back.
use Rattle.std.proofs.Common.{◌≡◌, ℕ, ◌+◌, ◌*◌, ◌/◌, ◌%◌, ◌^◌, ◌<◌, cond, Bool, true, false, ◌&&◌, not, List, [], ◌∷◌, ◌++◌, length}
use Rattle.std.proofs.Common.{Option, Some, None, refl, sym, ap, subst, ◌∙◌, append_assoc, arith, inl, inr, take, drop}
use Rattle.std.specs.Prelude.{IsTrue, option_and_then, ◌==◌, nat_le, nat_lt}
use Rattle.std.specs.Int.{w64, from_be_bytes, to_be_bytes}
use Rattle.std.specs.List.{list_all, flat_map}
use Rattle.std.proofs.lemmas.Bool.{cond-true, cond-false, cases_Bool, and_parts, eqb-true, leb-true, lt-ltb, agree_below_at}
use Rattle.std.proofs.lemmas.Option.{option_and_then_some}
use Rattle.std.proofs.lemmas.List.{append-nil, length-take, take-append-drop}
use Rattle.sftp_packets.specs.Spelling.{AreBytes}
use Rattle.sftp_strings.proofs.Bytes.{wide64}
use Rattle.sftp_text.specs.Formats.{begins_with, front_number}
use Rattle.sftp_text.specs.Digits.{hex_digit, hex_value, hex_byte, hex_text, byte_of, hex_onto, is_plain, byte_text, quoted}
use Rattle.sftp_text.specs.Digits.{Place, Effect, effect_of, with_effect, unquoted, text_in, rest_text, counted_text, string_text, long_string_text, or_refuse}
use Rattle.sftp_text.specs.Digits.Place.{Plain, Escape, FirstDigit, SecondDigit}
use Rattle.sftp_text.specs.Digits.Effect.{Close, Refuse, Go, Give}
use Rattle.sftp_text.specs.Lines.{is_printable}
use Rattle.sftp_text.proofs.Exact.{some-inj, none-some, printable-append, AreBytes-front, AreBytes-behind, IsExact, IsExactCounted}
use Rattle.sftp_text.proofs.Exact.{CountedShown, ahead-exact, front_number-some}

-- ---- the digits of a byte

abbrev is_value : ℕ → Option ℕ → Bool
is_value n None = false
is_value n (Some m) = m == n

is_value-true : (n : ℕ) (o : Option ℕ) → is_value n o ≡ true → o ≡ Some n
is_value-true n None e = cc
is_value-true n (Some m) e = ap (λ k. Some k) (eqb-true m n e)

-- whether the digits of a byte are read back, and are printable
abbrev comes_back : ℕ → Bool
comes_back b =
    is_value (b / 16) (hex_value (hex_digit (b / 16))) && is_value (b % 16) (hex_value (hex_digit (b % 16)))
    && (16 * (b / 16) + b % 16 == b) && list_all is_printable (byte_text b) && list_all is_printable (hex_byte b)

each_comes_back : (b : ℕ) → b < 256 → comes_back b ≡ true
each_comes_back b lt = agree_below_at comes_back (λ n. true) 256 b refl lt

record DigitsOf (b : ℕ) : Type 0 where
  pub high : hex_value (hex_digit (b / 16)) ≡ Some (b / 16)
  pub low : hex_value (hex_digit (b % 16)) ≡ Some (b % 16)
  pub sum : 16 * (b / 16) + b % 16 ≡ b
  pub text_printable : IsTrue (list_all is_printable (byte_text b))
  pub digits_printable : IsTrue (list_all is_printable (hex_byte b))

digits_of : (b : ℕ) → b < 256 → DigitsOf b
digits_of b lt =
    let a = and_parts _ _ (each_comes_back b lt) in
    let d = and_parts _ _ a.0 in
    let e = and_parts _ _ d.0 in
    let f = and_parts _ _ e.0 in
    record {
      high = is_value-true _ _ f.0;
      low = is_value-true _ _ f.1;
      sum = eqb-true _ b e.1;
      text_printable = d.1;
      digits_printable = a.1;
    }

-- ---- hexadecimal

pub hex_onto-text : (done bytes : List ℕ) → AreBytes bytes → hex_onto done (hex_text bytes) ≡ Some (done ++ bytes)
unfolding hex_text
hex_onto-text done [] are = ap (λ l. Some l) (sym (append-nil done))
hex_onto-text done (b ∷ bytes) are =
    let digits = digits_of b are.0 in
    let next : ℕ → Option (List ℕ) = λ c. hex_onto (done ++ c ∷ []) (hex_text bytes) in
    let one : byte_of (hex_digit (b / 16)) (hex_digit (b % 16)) ≡ Some b = byte_of-digits (b / 16) (b % 16) b digits.high digits.low digits.sum in
    ap (option_and_then next) one ∙ hex_onto-text (done ++ b ∷ []) bytes are.1
    ∙ ap (λ l. Some l) (append_assoc done (b ∷ []) bytes)
  where
    byte_of-digits : (h l b : ℕ) → hex_value (hex_digit h) ≡ Some h → hex_value (hex_digit l) ≡ Some l → 16 * h + l ≡ b
        → byte_of (hex_digit h) (hex_digit l) ≡ Some b
    byte_of-digits h l b high low sum =
        let inner : ℕ → Option ℕ = λ x. option_and_then (λ y. Some (16 * x + y)) (hex_value (hex_digit l)) in
        let last : ℕ → Option ℕ = λ y. Some (16 * h + y) in
        ap (option_and_then inner) high ∙ ap (option_and_then last) low ∙ ap (λ n. Some n) sum

pub hex_text-printable : (bytes : List ℕ) → AreBytes bytes → IsTrue (list_all is_printable (hex_text bytes))
unfolding hex_text
hex_text-printable [] are = refl
hex_text-printable (b ∷ bytes) are =
    printable-append (hex_byte b) (hex_text bytes) (digits_of b are.0).digits_printable (hex_text-printable bytes are.1)

-- ---- texts in quotes

-- a byte that stands for itself is read, and goes on
unquoted-plain : (done : List ℕ) (b : ℕ) (rest : List ℕ) → is_plain b ≡ true
    → unquoted Plain done (b ∷ rest) ≡ unquoted Plain (done ++ b ∷ []) rest
unquoted-plain done b rest plain =
    let parts = and_parts _ _ plain in
    let no_slash = flip (b == 92) parts.1 in
    let no_quote = flip (b == 34) (and_parts _ _ parts.0).1 in
    let effect : effect_of Plain b ≡ Give b =
    cond-false (b == 34) Close _ no_quote ∙ cond-false (b == 92) (Go Escape) _ no_slash
    ∙ cond-true (is_plain b) (Give b) Refuse plain
    in
    let more : Place → List ℕ → Option (List ℕ × List ℕ) = λ next d. unquoted next d rest in
    ap (λ f. with_effect f done rest more) effect
  where
    flip : (b : Bool) → not b ≡ true → b ≡ false
    flip true h = cc
    flip false h = refl

-- an escape is read, and goes on
unquoted-escape : (done : List ℕ) (b : ℕ) (rest : List ℕ) → DigitsOf b
    → unquoted Plain done (92 ∷ 120 ∷ (hex_byte b ++ rest)) ≡ unquoted Plain (done ++ b ∷ []) rest
unquoted-escape done b rest digits =
    let h = hex_digit (b / 16) in
    let l = hex_digit (b % 16) in
    let go_high : ℕ → Effect = λ d. Go (SecondDigit d) in
    let give_low : ℕ → Effect = λ d. Give (16 * (b / 16) + d) in
    let more_high : Place → List ℕ → Option (List ℕ × List ℕ) = λ next d. unquoted next d (l ∷ rest) in
    let more_low : Place → List ℕ → Option (List ℕ × List ℕ) = λ next d. unquoted next d rest in
    let first : effect_of FirstDigit h ≡ Go (SecondDigit (b / 16)) = ap (or_refuse go_high) digits.high in
    let second : effect_of (SecondDigit (b / 16)) l ≡ Give (16 * (b / 16) + b % 16) = ap (or_refuse give_low) digits.low in
    let one : unquoted FirstDigit done (h ∷ l ∷ rest) ≡ unquoted (SecondDigit (b / 16)) done (l ∷ rest) =
    ap (λ f. with_effect f done (l ∷ rest) more_high) first
    in
    let two : unquoted (SecondDigit (b / 16)) done (l ∷ rest) ≡ unquoted Plain (done ++ (16 * (b / 16) + b % 16) ∷ []) rest =
    ap (λ f. with_effect f done rest more_low) second
    in
    one ∙ two ∙ ap (λ n. unquoted Plain (done ++ n ∷ []) rest) digits.sum

-- a byte's text is read as the byte
unquoted-byte : (done : List ℕ) (b : ℕ) (rest : List ℕ) → b < 256
    → unquoted Plain done (byte_text b ++ rest) ≡ unquoted Plain (done ++ b ∷ []) rest
unquoted-byte done b rest lt =
    elim (cases_Bool (is_plain b)) [
      | inl plain ↦
          ap (λ l. unquoted Plain done (l ++ rest)) (cond-true (is_plain b) (b ∷ []) (92 ∷ 120 ∷ hex_byte b) plain)
          ∙ unquoted-plain done b rest plain
      | inr escaped ↦
          ap (λ l. unquoted Plain done (l ++ rest)) (cond-false (is_plain b) (b ∷ []) (92 ∷ 120 ∷ hex_byte b) escaped)
          ∙ unquoted-escape done b rest (digits_of b lt)
    ]

unquoted-bytes : (done bytes rest : List ℕ) → AreBytes bytes
    → unquoted Plain done (flat_map byte_text bytes ++ (34 ∷ rest)) ≡ Some (done ++ bytes, rest)
unquoted-bytes done [] rest are = ap (λ l. Some (l, rest)) (sym (append-nil done))
unquoted-bytes done (b ∷ bytes) rest are =
    ap (unquoted Plain done) (append_assoc (byte_text b) (flat_map byte_text bytes) (34 ∷ rest))
    ∙ unquoted-byte done b (flat_map byte_text bytes ++ (34 ∷ rest)) are.0
    ∙ unquoted-bytes (done ++ b ∷ []) bytes rest are.1 ∙ ap (λ l. Some (l, rest)) (append_assoc done (b ∷ []) bytes)

pub text_in-quoted : (done bytes rest : List ℕ) → AreBytes bytes
    → text_in done (quoted bytes ++ rest) ≡ Some (done ++ bytes, rest)
unfolding text_in quoted
text_in-quoted done bytes rest are =
    ap (unquoted Plain done) (append_assoc (flat_map byte_text bytes) (34 ∷ []) rest) ∙ unquoted-bytes done bytes rest are

bytes-printable : (bytes : List ℕ) → AreBytes bytes → IsTrue (list_all is_printable (flat_map byte_text bytes))
bytes-printable [] are = refl
bytes-printable (b ∷ bytes) are =
    printable-append (byte_text b) (flat_map byte_text bytes) (digits_of b are.0).text_printable (bytes-printable bytes are.1)

pub quoted-printable : (bytes : List ℕ) → AreBytes bytes → IsTrue (list_all is_printable (quoted bytes))
unfolding quoted
quoted-printable bytes are = printable-append (flat_map byte_text bytes) (34 ∷ []) (bytes-printable bytes are) refl

-- how a text in quotes begins
abbrev pub StartsQuoted : List ℕ → Type 0
StartsQuoted l = IsTrue (begins_with 34 l)

quoted-starts : (bytes rest : List ℕ) → StartsQuoted (quoted bytes ++ rest)
unfolding quoted
quoted-starts bytes rest = refl

pub rest_text-exact : (B : List ℕ → Type 0) → IsExact rest_text StartsQuoted B
unfolding rest_text
rest_text-exact B = record {
  exact = λ text bytes more left are e.
      let both = some-inj (text ++ quoted bytes, []) (more, left) e in
      record {
        shown = quoted bytes;
        taken = bytes;
        text_is = sym (ap (λ p. p.0) both);
        bytes_are = sym (append-nil bytes) ∙ ap (λ p. bytes ++ p.1) both;
        printable = quoted-printable bytes are;
        back = λ done rest ok. text_in-quoted done bytes rest are;
        front = λ rest ok. quoted-starts bytes rest;
      };
}

counted_text-shown : (B : List ℕ → Type 0) (n : ℕ) (text bytes more left : List ℕ) → AreBytes bytes
    → counted_text.show n text bytes ≡ Some (more, left)
    → CountedShown counted_text StartsQuoted B n text bytes more left
counted_text-shown B n text bytes more left are e =
    elim (cases_Bool (nat_le n (length bytes))) [
      | inl enough ↦
          let string = take n bytes in
          let both =
          some-inj (text ++ quoted string, drop n bytes) (more, left)
          (sym (cond-true (nat_le n (length bytes)) (Some (text ++ quoted string, drop n bytes)) None enough) ∙ e)
          in
          let parts : bytes ≡ string ++ drop n bytes = sym (take-append-drop n bytes) in
          let fit : AreBytes string = AreBytes-front string (drop n bytes) (subst AreBytes parts are) in
          let len : length string ≡ n = omega (arith, length-take n bytes, leb-true n (length bytes) enough) in
          record {
            shown = quoted string;
            taken = string;
            text_is = sym (ap (λ p. p.0) both);
            bytes_are = parts ∙ ap (λ p. string ++ p.1) both;
            printable = quoted-printable string fit;
            back = λ rest ok.
                let next : List ℕ × List ℕ → Option (ℕ × (List ℕ × List ℕ)) = λ moved. Some (length moved.0, moved) in
                ap (option_and_then next) (text_in-quoted [] string rest fit) ∙ ap (λ k. Some (k, (string, rest))) len;
            front = λ rest ok. quoted-starts string rest;
          }
      | inr short ↦
          none-some (more, left) (sym (cond-false (nat_le n (length bytes)) (Some (text ++ quoted (take n bytes), drop n bytes)) None short) ∙ e)
    ]

counted_text-exact : (B : List ℕ → Type 0) → IsExactCounted counted_text StartsQuoted B
counted_text-exact B = record { exact = λ n text bytes more left lt are e. counted_text-shown B n text bytes more left are e }

pub string_text-exact : (B : List ℕ → Type 0) → IsExact string_text StartsQuoted B
unfolding string_text
string_text-exact B = ahead-exact counted_text StartsQuoted B (counted_text-exact B)

long_read : (done : List ℕ) (n : ℕ) (eight taken rest : List ℕ) → n < 2 ^ 64 → to_be_bytes w64 n ≡ eight
    → cond {A = Option (List ℕ × List ℕ)} (nat_lt n (2 ^ 64)) (Some (done ++ to_be_bytes w64 n ++ taken, rest)) None
    ≡ Some (done ++ (eight ++ taken), rest)
long_read done n eight taken rest lt again =
    let found : List ℕ → Option (List ℕ × List ℕ) = λ bytes. Some (bytes, rest) in
    cond-true (nat_lt n (2 ^ 64)) (found (done ++ to_be_bytes w64 n ++ taken)) None (lt-ltb n (2 ^ 64) lt)
    ∙ ap found (append_assoc done (to_be_bytes w64 n) taken) ∙ ap (λ (l : List ℕ). found (done ++ (l ++ taken))) again

pub long_string_text-exact : (B : List ℕ → Type 0) → IsExact long_string_text StartsQuoted B
unfolding long_string_text
long_string_text-exact B = record {
  exact = λ text bytes more left are e.
      option_and_then_some (λ front. counted_text.show front.0 text front.1) (front_number 8 (from_be_bytes w64) bytes)
      (more, left) e (λ front number_is part_is.
      let number = front_number-some w64 8 (2 ^ 64) wide64 refl bytes front.0 front.1 are number_is in
      let fit : AreBytes front.1 = AreBytes-behind number.number front.1 (subst AreBytes number.parts are) in
      let s = counted_text-shown B front.0 text front.1 more left fit part_is in
      record {
        shown = s.shown;
        taken = number.number ++ s.taken;
        text_is = s.text_is;
        bytes_are =
            number.parts ∙ ap (λ l. number.number ++ l) s.bytes_are ∙ sym (append_assoc number.number s.taken left);
        printable = s.printable;
        back = λ done rest ok.
            let next : ℕ × (List ℕ × List ℕ) → Option (List ℕ × List ℕ) =
            λ f. cond (nat_lt f.0 (2 ^ 64)) (Some (done ++ to_be_bytes w64 f.0 ++ f.1.0, f.1.1)) None
            in
            ap (option_and_then next) (s.back rest ok)
            ∙ long_read done front.0 number.number s.taken rest number.fits number.again;
        front = s.front;
      });
}
