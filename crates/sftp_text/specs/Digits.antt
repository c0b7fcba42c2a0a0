-- Numbers as text: decimal, octal, and flags by their names.
use Rattle.std.specs.Prelude.{◌==◌, ◌&&◌, not, nat_lt, nat_le, ℕ, ◌+◌, ◌-◌, ◌*◌, ◌^◌, Bool, false, if◌then◌else◌}
use Rattle.std.specs.Prelude.{List, [], ◌∷◌, ◌++◌, codes, decimal, Option, Some, None, option_and_then, bytes_eq}
use Rattle.std.specs.Prelude.{filter, ◌/◌, ◌%◌, length, take, drop, flat_map}
use Rattle.std.specs.Int.{w32, w64, to_be_bytes, from_be_bytes}
use Rattle.std.specs.Int.RustNames.{bit_and, bit_or}
use Rattle.std.specs.Fmt.{digits}
use Rattle.sftp_text.specs.Formats.{Format, front_number, Step, Counted, ahead}

-- whether a character is a digit of the base, which is at most ten
abbrev pub is_digit : ℕ → ℕ → Bool
is_digit base c = nat_le 48 c && nat_lt c (48 + base)

-- the number that goes on with the digits in front, and what follows them
abbrev pub digits_from : ℕ → ℕ → List ℕ → ℕ × List ℕ
digits_from base n [] = (n, [])
digits_from base n (c ∷ rest) = if is_digit base c then digits_from base (n * base + (c - 48)) rest else (n, c ∷ rest)

-- a number in front, which has a digit at least, and what follows it
abbrev pub number_in : ℕ → List ℕ → Option (ℕ × List ℕ)
number_in base [] = None
number_in base (c ∷ rest) = if is_digit base c then Some (digits_from base (c - 48) rest) else None

-- a decimal number in front
abbrev pub decimal_in : List ℕ → Option (ℕ × List ℕ)
decimal_in text = number_in 10 text

-- `0` and then octal digits
abbrev pub octal_text : ℕ → List ℕ
octal_text n = 48 ∷ digits 8 false n

-- `0` and at least one octal digit in front
abbrev pub octal_in : List ℕ → Option (ℕ × List ℕ)
octal_in [] = None
octal_in (c ∷ rest) = if c == 48 then number_in 8 rest else None

-- ---- the flags of OPEN

-- the flags with their names (draft-ietf-secsh-filexfer-02, section 6.3)
abbrev pub flag_names : List (ℕ × List ℕ)
flag_names =
    (0x1, codes "READ") ∷ (0x2, codes "WRITE") ∷ (0x4, codes "APPEND") ∷ (0x8, codes "CREAT") ∷ (0x10, codes "TRUNC")
    ∷ (0x20, codes "EXCL") ∷ []

-- names with `|` between them
abbrev pub names_text : List (ℕ × List ℕ) → List ℕ
names_text [] = []
names_text (flag ∷ []) = flag.1
names_text (flag ∷ next ∷ flags) = flag.1 ++ 124 ∷ names_text (next ∷ flags)

-- the names of the flags that are set, from the lowest bit; decimal where there are none, or others than these
abbrev pub flags_text : ℕ → List ℕ
flags_text n =
    if nat_le 1 n && nat_lt n 64 then names_text (filter (λ flag. not (bit_and n flag.0 == 0)) flag_names)
    else decimal n

-- whether a character may be in a flag's name
abbrev pub is_letter : ℕ → Bool
is_letter c = nat_le 65 c && nat_le c 90

-- the flags with that of a name, unless it is no flag's name or the flag is set
abbrev pub with_flag : ℕ → List ℕ → List (ℕ × List ℕ) → Option ℕ
with_flag flags name [] = None
with_flag flags name (flag ∷ others) =
    if bytes_eq name flag.1 then (if bit_and flags flag.0 == 0 then Some (bit_or flags flag.0) else None)
    else with_flag flags name others

-- the flags whose names go on in front, with `|` between them: those so far, and the letters of a name so far
abbrev pub flags_from : ℕ → List ℕ → List ℕ → Option (ℕ × List ℕ)
flags_from flags name [] = option_and_then (λ all. Some (all, [])) (with_flag flags name flag_names)
flags_from flags name (c ∷ rest) =
    if is_letter c then flags_from flags (name ++ c ∷ []) rest
    else (if c == 124 then option_and_then (λ more. flags_from more [] rest) (with_flag flags name flag_names)
    else option_and_then (λ all. Some (all, c ∷ rest)) (with_flag flags name flag_names))

-- flags in front: decimal, or by their names in any order, none of them twice
abbrev pub flags_in : List ℕ → Option (ℕ × List ℕ)
flags_in [] = None
flags_in (c ∷ rest) = if is_digit 10 c then decimal_in (c ∷ rest) else flags_from 0 [] (c ∷ rest)

-- ---- formats

-- a number of four bytes, by its text
abbrev pub four_bytes : (ℕ → List ℕ) → (List ℕ → Option (ℕ × List ℕ)) → Format
four_bytes text_of find_in = record {
  show = λ text bytes. option_and_then (λ front. Some (text ++ text_of front.0, front.1))
      (front_number 4 (from_be_bytes w32) bytes);
  read = λ bytes text. option_and_then (λ found.
      if nat_lt found.0 (2 ^ 32) then Some (bytes ++ to_be_bytes w32 found.0, found.1) else None) (find_in text);
}

-- a number of eight bytes, by its text
abbrev pub eight_bytes : (ℕ → List ℕ) → (List ℕ → Option (ℕ × List ℕ)) → Format
eight_bytes text_of find_in = record {
  show = λ text bytes. option_and_then (λ front. Some (text ++ text_of front.0, front.1))
      (front_number 8 (from_be_bytes w64) bytes);
  read = λ bytes text. option_and_then (λ found.
      if nat_lt found.0 (2 ^ 64) then Some (bytes ++ to_be_bytes w64 found.0, found.1) else None) (find_in text);
}

-- a uint32 in decimal
unfoldable pub number : Format
number = four_bytes decimal decimal_in

-- a uint64 in decimal
unfoldable pub long : Format
long = eight_bytes decimal decimal_in

-- permissions
unfoldable pub octal : Format
octal = four_bytes octal_text octal_in

-- the flags of OPEN
unfoldable pub flags : Format
flags = four_bytes flags_text flags_in

-- ==== Texts in quotes, and bytes in hexadecimal.

-- ---- hexadecimal digits, in lower case

abbrev pub hex_digit : ℕ → ℕ
hex_digit d = if nat_lt d 10 then 48 + d else 87 + d

abbrev pub hex_value : ℕ → Option ℕ
hex_value c =
    if nat_le 48 c && nat_lt c 58 then Some (c - 48)
    else (if nat_le 97 c && nat_lt c 103 then Some (c - 87) else None)

-- the two digits of a byte
abbrev pub hex_byte : ℕ → List ℕ
hex_byte b = hex_digit (b / 16) ∷ hex_digit (b % 16) ∷ []

unfoldable pub hex_text : List ℕ → List ℕ
hex_text bytes = flat_map hex_byte bytes

-- the byte of two digits
abbrev pub byte_of : ℕ → ℕ → Option ℕ
byte_of high low =
    option_and_then (λ h. option_and_then (λ l. Some (16 * h + l)) (hex_value low)) (hex_value high)

-- the bytes so far, and those of all digits
abbrev pub hex_onto : List ℕ → List ℕ → Option (List ℕ)
hex_onto bytes [] = Some bytes
hex_onto bytes (high ∷ []) = None
hex_onto bytes (high ∷ low ∷ text) = option_and_then (λ b. hex_onto (bytes ++ b ∷ []) text) (byte_of high low)

-- ---- texts in quotes

-- whether a byte stands for itself: printable ASCII but `"` and `\`
abbrev pub is_plain : ℕ → Bool
is_plain b = nat_le 32 b && nat_le b 126 && not (b == 34) && not (b == 92)

-- a byte in quotes
abbrev pub byte_text : ℕ → List ℕ
byte_text b = if is_plain b then b ∷ [] else 92 ∷ 120 ∷ hex_byte b

-- bytes in quotes
unfoldable pub quoted : List ℕ → List ℕ
quoted bytes = 34 ∷ flat_map byte_text bytes ++ 34 ∷ []

-- where a text in quotes is read: at a character, behind `\`, behind `\x`, behind its first digit
pub data Place : Type 0 where
  Plain : Place
  Escape : Place
  FirstDigit : Place
  SecondDigit : ℕ → Place

-- what a character does: end the text, stand nowhere, lead to the next place, or give a byte
pub data Effect : Type 0 where
  Close : Effect
  Refuse : Effect
  Go : Place → Effect
  Give : ℕ → Effect

abbrev pub or_refuse : {A : Type 0} → (A → Effect) → Option A → Effect
or_refuse effect None = Refuse
or_refuse effect (Some x) = effect x

-- what a character does at a place
abbrev pub effect_of : Place → ℕ → Effect
effect_of Plain c = if c == 34 then Close else (if c == 92 then Go Escape else (if is_plain c then Give c else Refuse))
effect_of Escape c = if c == 120 then Go FirstDigit else Refuse
effect_of FirstDigit c = or_refuse (λ high. Go (SecondDigit high)) (hex_value c)
effect_of (SecondDigit high) c = or_refuse (λ low. Give (16 * high + low)) (hex_value c)

-- what comes after a character: the bytes so far, the characters behind it, and how to go on
abbrev pub with_effect : Effect → List ℕ → List ℕ → (Place → List ℕ → Option (List ℕ × List ℕ))
    → Option (List ℕ × List ℕ)
with_effect Close bytes rest more = Some (bytes, rest)
with_effect Refuse bytes rest more = None
with_effect (Go place) bytes rest more = more place bytes
with_effect (Give b) bytes rest more = more Plain (bytes ++ b ∷ [])

-- the rest of a text in quotes, up to the quote that closes it
abbrev pub unquoted : Place → List ℕ → List ℕ → Option (List ℕ × List ℕ)
unquoted place bytes [] = None
unquoted place bytes (c ∷ rest) = with_effect (effect_of place c) bytes rest (λ next more. unquoted next more rest)

-- a text in quotes at the front: the bytes so far with its bytes, and what follows it
unfoldable pub text_in : Step
text_in bytes [] = None
text_in bytes (c ∷ rest) = if c == 34 then unquoted Plain bytes rest else None

-- all bytes that are left, in quotes
unfoldable pub rest_text : Format
rest_text = record {
  show = λ text bytes. Some (text ++ quoted bytes, []);
  read = text_in;
}

-- the bytes of a string behind their number
abbrev pub counted_text : Counted
counted_text = record {
  show = λ length_of text bytes. if nat_le length_of (length bytes)
      then Some (text ++ quoted (take length_of bytes), drop length_of bytes) else None;
  read = λ text. option_and_then (λ moved. Some (length moved.0, moved)) (text_in [] text);
}

-- a string
unfoldable pub string_text : Format
string_text = ahead counted_text

-- a long string, whose length is a uint64
unfoldable pub long_string_text : Format
long_string_text = record {
  show = λ text bytes. option_and_then (λ front. counted_text.show front.0 text front.1)
      (front_number 8 (from_be_bytes w64) bytes);
  read = λ bytes text. option_and_then (λ found.
      if nat_lt found.0 (2 ^ 64) then Some (bytes ++ to_be_bytes w64 found.0 ++ found.1.0, found.1.1) else None)
      (counted_text.read text);
}
