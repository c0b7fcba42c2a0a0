-- Numbers are read back: decimal, octal and flags.
use Rattle.std.proofs.Common.{◌≡◌, ℕ, ◌+◌, ◌-◌, ◌*◌, ◌^◌, ◌<◌, ◌≤◌, Bool, true, false, ◌&&◌, ◌||◌, not, List, [], ◌∷◌, ◌++◌}
use Rattle.std.proofs.Common.{Option, Some, None, refl, sym, ap, subst, ◌∙◌, arith, inl, inr, cond}
use Rattle.std.specs.Prelude.{IsTrue, option_and_then, ◌==◌, nat_le, nat_lt, decimal}
use Rattle.std.specs.Char.{digit_value}
use Rattle.std.specs.Fmt.{digits}
use Rattle.std.specs.Int.{w32, w64, from_be_bytes, to_be_bytes, IsInRange}
use Rattle.std.specs.List.{list_all}
use Rattle.std.specs.Str.Parse.{IsNumeral, AllDigits, digits_value, digits_value_after}
use Rattle.std.proofs.lemmas.Bool.{cond-true, cond-false, cases_Bool, and_from, and_parts, eqb-true, leb-true, lt-ltb, ltb-true, le-leb, agree_below_at}
use Rattle.std.proofs.lemmas.Fmt.{digits_is_IsNumeral, decimal_is_IsNumeral}
use Rattle.std.proofs.lemmas.Option.{option_and_then_some}
use Rattle.std.proofs.lemmas.Str.{digit_value_digit}
use Rattle.std.proofs.lemmas.Str.Parse.{digit_from_value}
use Rattle.sftp_strings.proofs.Bytes.{wide32, wide64}
use Rattle.sftp_text.specs.Formats.{front_number}
use Rattle.sftp_text.specs.Digits.{is_digit, digits_from, number_in, decimal_in, octal_text, octal_in, flags_text, flags_from, flags_in, flag_names, with_flag, is_letter}
use Rattle.sftp_text.specs.Digits.{four_bytes, eight_bytes, number, long, octal, flags}
use Rattle.sftp_text.specs.Lines.{is_printable}
use Rattle.sftp_text.proofs.Exact.{some-inj, IsExact, front_number-some}

-- ---- what may stand behind a number

-- the end, or a character that is in no number and no flag's name: a space, `,`, `;` or `=`
abbrev pub ends_word : List ℕ → Bool
ends_word [] = true
ends_word (c ∷ rest) = c == 32 || c == 44 || c == 59 || c == 61

abbrev pub EndsWord : List ℕ → Type 0
EndsWord l = IsTrue (ends_word l)

-- such a character is neither a digit, nor a letter, nor `|`
data Ends (c : ℕ) : Type 0 where
  ends : is_digit 10 c ≡ false → is_digit 8 c ≡ false → is_letter c ≡ false → (c == 124) ≡ false → Ends c

Ends-subst : (b c : ℕ) → b ≡ c → Ends b → Ends c
Ends-subst b c e h = subst Ends e h

Ends-from : (c : ℕ) (rest : List ℕ) → EndsWord (c ∷ rest) → Ends c
Ends-from c rest ok =
    elim (cases_Bool (c == 32)) [
      | inl same ↦ Ends-subst 32 c (sym (eqb-true c 32 same)) (ends refl refl refl refl)
      | inr a ↦ elim (cases_Bool (c == 44)) [
        | inl same ↦ Ends-subst 44 c (sym (eqb-true c 44 same)) (ends refl refl refl refl)
        | inr b ↦ elim (cases_Bool (c == 59)) [
          | inl same ↦ Ends-subst 59 c (sym (eqb-true c 59 same)) (ends refl refl refl refl)
          | inr d ↦ elim (cases_Bool (c == 61)) [
            | inl same ↦ Ends-subst 61 c (sym (eqb-true c 61 same)) (ends refl refl refl refl)
            | inr f ↦ absurd (nowhere a b d f ok)
          ]
        ]
      ]
    ]
  where
    nowhere : (c == 32) ≡ false → (c == 44) ≡ false → (c == 59) ≡ false → (c == 61) ≡ false
        → (c == 32 || c == 44 || c == 59 || c == 61) ≡ true → ⊥
    nowhere a b d f ok = cc

-- ---- digits

-- a digit of a base of at most ten is read as its value
pub is_digit-from_value : (base c : ℕ) → base ≤ 10 → digit_value c < base → (is_digit base c ≡ true) × (c - 48 ≡ digit_value c)
is_digit-from_value base c small lt =
    let within : IsInRange 48 57 c = digit_from_value c (omega arith) in
    let value = digit_value_digit c within in
    (and_from _ _ (le-leb 48 c within.0) (lt-ltb c (48 + base) (omega (arith, value))), omega (arith, value))

-- a character that ends a word is no digit
record NoDigit (base : ℕ) : Type 0 where
  pub none : (c : ℕ) (rest : List ℕ) → EndsWord (c ∷ rest) → is_digit base c ≡ false

no_digit10 : NoDigit 10
no_digit10 = record { none = λ c rest ok. no10 c (Ends-from c rest ok) }
  where
    no10 : (c : ℕ) → Ends c → is_digit 10 c ≡ false
    no10 c (ends a b d e) = a

no_digit8 : NoDigit 8
no_digit8 = record { none = λ c rest ok. no8 c (Ends-from c rest ok) }
  where
    no8 : (c : ℕ) → Ends c → is_digit 8 c ≡ false
    no8 c (ends a b d e) = b

digits_from-all : (base n : ℕ) (ds rest : List ℕ) → base ≤ 10 → NoDigit base → AllDigits base ds → EndsWord rest
    → digits_from base n (ds ++ rest) ≡ (digits_value_after base n ds, rest)
digits_from-all base n [] [] small none all ok = refl
digits_from-all base n [] (c ∷ rest) small none all ok =
    cond-false (is_digit base c) (digits_from base (n * base + (c - 48)) rest) (n, c ∷ rest) (none.none c rest ok)
digits_from-all base n (d ∷ ds) rest small none all ok =
    let here = is_digit-from_value base d small all.0 in
    cond-true (is_digit base d) (digits_from base (n * base + (d - 48)) (ds ++ rest)) (n, d ∷ (ds ++ rest)) here.0
    ∙ ap (λ v. digits_from base (n * base + v) (ds ++ rest)) here.1
    ∙ digits_from-all base (n * base + digit_value d) ds rest small none all.1 ok

number_in-all : (base : ℕ) (ds rest : List ℕ) → base ≤ 10 → NoDigit base → IsNumeral base ds → EndsWord rest
    → number_in base (ds ++ rest) ≡ Some (digits_value base ds, rest)
number_in-all base [] rest small none all ok = absurd (omega (arith, all.0))
number_in-all base (d ∷ ds) rest small none all ok =
    let here = is_digit-from_value base d small all.1.0 in
    let start : d - 48 ≡ 0 * base + digit_value d = omega (arith, here.1) in
    cond-true (is_digit base d) (Some (digits_from base (d - 48) (ds ++ rest))) None here.0
    ∙ ap (λ v. Some (digits_from base v (ds ++ rest))) start
    ∙ ap (λ p. Some p) (digits_from-all base (0 * base + digit_value d) ds rest small none all.1.1 ok)

digits-printable : (base : ℕ) (ds : List ℕ) → base ≤ 10 → AllDigits base ds → IsTrue (list_all is_printable ds)
digits-printable base [] small all = refl
digits-printable base (d ∷ ds) small all =
    let within : IsInRange 48 57 d = digit_from_value d (omega (arith, all.0)) in
    and_from _ _ (and_from _ _ (le-leb 32 d (omega (arith, within.0))) (le-leb d 126 (omega (arith, within.1)))) (digits-printable base ds small all.1)

-- ---- how the text of a number is read

pub record IsRead (text_of : ℕ → List ℕ) (find_in : List ℕ → Option (ℕ × List ℕ)) (limit : ℕ) : Type 0 where
  pub back : (n : ℕ) (rest : List ℕ) → n < limit → EndsWord rest → find_in (text_of n ++ rest) ≡ Some (n, rest)
  pub printable : (n : ℕ) → n < limit → IsTrue (list_all is_printable (text_of n))

pub decimal-read : (limit : ℕ) → limit ≤ 2 ^ 64 → IsRead decimal decimal_in limit
decimal-read limit small = record {
  back = λ n rest lt ok.
      let numeral = decimal_is_IsNumeral n (omega arith) in
      number_in-all 10 (decimal n) rest (omega arith) no_digit10 numeral.0 ok ∙ ap (λ v. Some (v, rest)) numeral.1;
  printable = λ n lt.
      let numeral = decimal_is_IsNumeral n (omega arith) in digits-printable 10 (decimal n) (omega arith) numeral.0.1;
}

octal-read : IsRead octal_text octal_in (2 ^ 32)
octal-read = record {
  back = λ n rest lt ok.
      let numeral = digits_is_IsNumeral 8 false (omega arith) (omega arith) n (omega arith) in
      number_in-all 8 (digits 8 false n) rest (omega arith) no_digit8 numeral.0 ok ∙ ap (λ v. Some (v, rest)) numeral.1;
  printable = λ n lt.
      let numeral = digits_is_IsNumeral 8 false (omega arith) (omega arith) n (omega arith) in
      digits-printable 8 (digits 8 false n) (omega arith) numeral.0.1;
}

-- ---- flags

-- flags that are read up to the end are read in front of what ends a word
flags_from-more : (n : ℕ) (text rest : List ℕ) → EndsWord rest → (flags : ℕ) (name : List ℕ)
    → flags_from flags name text ≡ Some (n, []) → flags_from flags name (text ++ rest) ≡ Some (n, rest)
flags_from-more n [] [] ok flags name e = e
flags_from-more n [] (c ∷ rest) ok flags name e = stops (Ends-from c rest ok)
  where
    stops : Ends c → flags_from flags name (c ∷ rest) ≡ Some (n, c ∷ rest)
    stops (ends ten eight letter bar) =
        cond-false (is_letter c) _ _ letter ∙ cond-false (c == 124) _ _ bar
        ∙ option_and_then_some (λ all. Some (all, [])) (with_flag flags name flag_names) (n, []) e (λ all found same.
        ap (option_and_then (λ a. Some (a, c ∷ rest))) found
        ∙ ap (λ a. Some (a, c ∷ rest)) (ap (λ p. p.0) (some-inj (all, []) (n, []) same)))
flags_from-more n (c ∷ text) rest ok flags name e =
    elim (cases_Bool (is_letter c)) [
      | inl letter ↦
          cond-true (is_letter c) _ _ letter
          ∙ flags_from-more n text rest ok flags (name ++ c ∷ []) (sym (cond-true (is_letter c) _ _ letter) ∙ e)
      | inr other ↦
          elim (cases_Bool (c == 124)) [
            | inl bar ↦
                cond-false (is_letter c) _ _ other ∙ cond-true (c == 124) _ _ bar
                ∙ option_and_then_some (λ more. flags_from more [] text) (with_flag flags name flag_names) (n, [])
                (sym (cond-true (c == 124) _ _ bar) ∙ sym (cond-false (is_letter c) _ _ other) ∙ e)
                (λ more found here.
                ap (option_and_then (λ m. flags_from m [] (text ++ rest))) found
                ∙ flags_from-more n text rest ok more [] here)
            | inr neither ↦
                option_and_then_some (λ all. Some (all, c ∷ text)) (with_flag flags name flag_names) (n, [])
                (sym (cond-false (c == 124) _ _ neither) ∙ sym (cond-false (is_letter c) _ _ other) ∙ e)
                (λ all found here. absurd (cons-nil c text (ap (λ p. p.1) (some-inj (all, c ∷ text) (n, []) here))))
          ]
    ]
  where
    cons-nil : (b : ℕ) (l : List ℕ) → b ∷ l ≡ [] → ⊥
    cons-nil b l h = cc

-- whether an answer is these flags and the end
abbrev is_answer : ℕ → Option (ℕ × List ℕ) → Bool
is_answer n None = false
is_answer n (Some (m, [])) = m == n
is_answer n (Some (m, c ∷ rest)) = false

is_answer-true : (n : ℕ) (o : Option (ℕ × List ℕ)) → is_answer n o ≡ true → o ≡ Some (n, [])
is_answer-true n None e = cc
is_answer-true n (Some (m, [])) e = ap (λ k. Some (k, [])) (eqb-true m n e)
is_answer-true n (Some (m, c ∷ rest)) e = cc

-- whether flags are read back by their names; by name no digit is in front
abbrev starts_with_digit : List ℕ → Bool
starts_with_digit [] = true
starts_with_digit (c ∷ text) = is_digit 10 c

abbrev flags_come_back : ℕ → Bool
flags_come_back n = not (nat_le 1 n) || (is_answer n (flags_from 0 [] (flags_text n)) && not (starts_with_digit (flags_text n)) && list_all is_printable (flags_text n))

by_name : (n : ℕ) → n < 64 → flags_come_back n ≡ true
by_name n lt = agree_below_at flags_come_back (λ m. true) 64 n refl lt

-- what is known of flags that are shown by their names
record ByName (n : ℕ) : Type 0 where
  pub read : flags_from 0 [] (flags_text n) ≡ Some (n, [])
  pub letters : starts_with_digit (flags_text n) ≡ false
  pub printable : IsTrue (list_all is_printable (flags_text n))

ByName-from : (n : ℕ) → 1 ≤ n → n < 64 → ByName n
ByName-from n low high =
    let all : (is_answer n (flags_from 0 [] (flags_text n)) && not (starts_with_digit (flags_text n)) && list_all is_printable (flags_text n)) ≡ true =
    or_else (nat_le 1 n) _ (le-leb 1 n low) (by_name n high)
    in
    let parts = and_parts _ _ all in
    let first = and_parts _ _ parts.0 in
    record { read = is_answer-true n _ first.0; letters = flip _ first.1; printable = parts.1 }
  where
    or_else : (b c : Bool) → b ≡ true → (not b || c) ≡ true → c ≡ true
    or_else true c e h = h
    or_else false c e h = absurd (absurdity e)
      where
        absurdity : false ≡ true → ⊥
        absurdity x = cc

    flip : (b : Bool) → not b ≡ true → b ≡ false
    flip true h = cc
    flip false h = refl

flags_in-letters : (text rest : List ℕ) → starts_with_digit text ≡ false → flags_in (text ++ rest) ≡ flags_from 0 [] (text ++ rest)
flags_in-letters [] rest e = cc
flags_in-letters (c ∷ text) rest e = cond-false (is_digit 10 c) _ _ e

flags_in-decimal : (text rest : List ℕ) → IsNumeral 10 text → flags_in (text ++ rest) ≡ decimal_in (text ++ rest)
flags_in-decimal [] rest all = absurd (omega (arith, all.0))
flags_in-decimal (c ∷ text) rest all = cond-true (is_digit 10 c) _ _ (is_digit-from_value 10 c (omega arith) all.1.0).0

flags-read : IsRead flags_text flags_in (2 ^ 32)
flags-read = record { back = back; printable = printable }
  where
    back : (n : ℕ) (rest : List ℕ) → n < 2 ^ 32 → EndsWord rest → flags_in (flags_text n ++ rest) ≡ Some (n, rest)
    back n rest lt ok =
        elim (cases_Bool (nat_le 1 n && nat_lt n 64)) [
          | inl flagged ↦
              let parts = and_parts _ _ flagged in
              let known = ByName-from n (leb-true 1 n parts.0) (ltb-true n 64 parts.1) in
              flags_in-letters (flags_text n) rest known.letters
              ∙ flags_from-more n (flags_text n) rest ok 0 [] known.read
          | inr plain ↦
              let is : flags_text n ≡ decimal n = cond-false (nat_le 1 n && nat_lt n 64) _ (decimal n) plain in
              let numeral = decimal_is_IsNumeral n (omega arith) in
              ap (λ l. flags_in (l ++ rest)) is ∙ flags_in-decimal (decimal n) rest numeral.0
              ∙ (decimal-read (2 ^ 32) (omega arith)).back n rest lt ok
        ]

    printable : (n : ℕ) → n < 2 ^ 32 → IsTrue (list_all is_printable (flags_text n))
    printable n lt =
        elim (cases_Bool (nat_le 1 n && nat_lt n 64)) [
          | inl flagged ↦
              let parts = and_parts _ _ flagged in
              (ByName-from n (leb-true 1 n parts.0) (ltb-true n 64 parts.1)).printable
          | inr plain ↦
              ap (list_all is_printable) (cond-false (nat_le 1 n && nat_lt n 64) _ (decimal n) plain)
              ∙ (decimal-read (2 ^ 32) (omega arith)).printable n lt
        ]

-- ---- formats

-- how a number begins: with its text
pub record NumberFront (text_of : ℕ → List ℕ) (limit : ℕ) (B : List ℕ → Type 0) (list : List ℕ) : Type 0 where
  pub value : ℕ
  pub fits : value < limit
  pub rest : List ℕ
  pub parts : list ≡ text_of value ++ rest
  pub follows : B rest

pub four_bytes-exact : (text_of : ℕ → List ℕ) (find_in : List ℕ → Option (ℕ × List ℕ)) (B : List ℕ → Type 0)
    → IsRead text_of find_in (2 ^ 32) → ((l : List ℕ) → B l → EndsWord l)
    → IsExact (four_bytes text_of find_in) (NumberFront text_of (2 ^ 32) B) B
four_bytes-exact text_of find_in B reads ends_so = record {
  exact = λ text bytes more left are e.
      option_and_then_some (λ front. Some (text ++ text_of front.0, front.1)) (front_number 4 (from_be_bytes w32) bytes)
      (more, left) e (λ front number_is same.
      let found = front_number-some w32 4 (2 ^ 32) wide32 refl bytes front.0 front.1 are number_is in
      let both = some-inj (text ++ text_of front.0, front.1) (more, left) same in
      record {
        shown = text_of front.0;
        taken = found.number;
        text_is = sym (ap (λ p. p.0) both);
        bytes_are = found.parts ∙ ap (λ p. found.number ++ p.1) both;
        printable = reads.printable front.0 found.fits;
        back = λ done rest ok.
            let next : ℕ × List ℕ → Option (List ℕ × List ℕ) =
            λ f. cond (nat_lt f.0 (2 ^ 32)) (Some (done ++ to_be_bytes w32 f.0, f.1)) None
            in
            ap (option_and_then next) (reads.back front.0 rest found.fits (ends_so rest ok))
            ∙ cond-true (nat_lt front.0 (2 ^ 32)) (Some (done ++ to_be_bytes w32 front.0, rest)) None
            (lt-ltb front.0 (2 ^ 32) found.fits)
            ∙ ap (λ (l : List ℕ). Some (done ++ l, rest)) found.again;
        front = λ rest ok. record { value = front.0; fits = found.fits; rest = rest; parts = refl; follows = ok };
      });
}

pub eight_bytes-exact : (text_of : ℕ → List ℕ) (find_in : List ℕ → Option (ℕ × List ℕ)) (B : List ℕ → Type 0)
    → IsRead text_of find_in (2 ^ 64) → ((l : List ℕ) → B l → EndsWord l)
    → IsExact (eight_bytes text_of find_in) (NumberFront text_of (2 ^ 64) B) B
eight_bytes-exact text_of find_in B reads ends_so = record {
  exact = λ text bytes more left are e.
      option_and_then_some (λ front. Some (text ++ text_of front.0, front.1)) (front_number 8 (from_be_bytes w64) bytes)
      (more, left) e (λ front number_is same.
      let found = front_number-some w64 8 (2 ^ 64) wide64 refl bytes front.0 front.1 are number_is in
      let both = some-inj (text ++ text_of front.0, front.1) (more, left) same in
      record {
        shown = text_of front.0;
        taken = found.number;
        text_is = sym (ap (λ p. p.0) both);
        bytes_are = found.parts ∙ ap (λ p. found.number ++ p.1) both;
        printable = reads.printable front.0 found.fits;
        back = λ done rest ok.
            let next : ℕ × List ℕ → Option (List ℕ × List ℕ) =
            λ f. cond (nat_lt f.0 (2 ^ 64)) (Some (done ++ to_be_bytes w64 f.0, f.1)) None
            in
            ap (option_and_then next) (reads.back front.0 rest found.fits (ends_so rest ok))
            ∙ cond-true (nat_lt front.0 (2 ^ 64)) (Some (done ++ to_be_bytes w64 front.0, rest)) None
            (lt-ltb front.0 (2 ^ 64) found.fits)
            ∙ ap (λ (l : List ℕ). Some (done ++ l, rest)) found.again;
        front = λ rest ok. record { value = front.0; fits = found.fits; rest = rest; parts = refl; follows = ok };
      });
}

pub number-exact : (B : List ℕ → Type 0) → ((l : List ℕ) → B l → EndsWord l)
    → IsExact number (NumberFront decimal (2 ^ 32) B) B
unfolding number
number-exact B ends_so = four_bytes-exact decimal decimal_in B (decimal-read (2 ^ 32) (omega arith)) ends_so

pub long-exact : (B : List ℕ → Type 0) → ((l : List ℕ) → B l → EndsWord l)
    → IsExact long (NumberFront decimal (2 ^ 64) B) B
unfolding long
long-exact B ends_so = eight_bytes-exact decimal decimal_in B (decimal-read (2 ^ 64) (omega arith)) ends_so

pub octal-exact : (B : List ℕ → Type 0) → ((l : List ℕ) → B l → EndsWord l)
    → IsExact octal (NumberFront octal_text (2 ^ 32) B) B
unfolding octal
octal-exact B ends_so = four_bytes-exact octal_text octal_in B octal-read ends_so

pub flags-exact : (B : List ℕ → Type 0) → ((l : List ℕ) → B l → EndsWord l)
    → IsExact flags (NumberFront flags_text (2 ^ 32) B) B
unfolding flags
flags-exact B ends_so = four_bytes-exact flags_text flags_in B flags-read ends_so
