-- Lists and repeated steps, one item at a time.
use Rattle.std.proofs.Common.{◌≡◌, ◌≢◌, ◌==◌, ℕ, List, [], ◌∷◌, ◌++◌, Option, Some, None, Bool, true, false, Bor}
use Rattle.std.proofs.Common.{refl, eq-eqb, ◌+◌, ◌-◌, ◌*◌, ◌<◌, ◌≤◌, arith, sym, ◌&&◌, zero, suc, subst, ◌∙◌, length}
use Rattle.std.proofs.Common.{take, drop, get_or, ap, inl, inr}
use Rattle.std.specs.Prelude.{MatchOption, IfSome, option_and_then, codes, is_some}
use Rattle.std.proofs.lemmas.Bool.{eqb-true}
use Rattle.sftp_text.specs.Formats.{strip, Step, Format, show_each, show_list, read_each, repeat, after, word, mark}
use Rattle.std.proofs.Math.Nat.{mul-le-mul_left}
use Rattle.sftp_text.specs.Digits.{is_digit, digits_from, flags_text}
use Rattle.sftp_text.specs.Digits.{byte_of, hex_onto, string_text}
use Rattle.sftp_text.specs.Trees.{octet_in, lower_flags, higher_flags, behind, behind_path}
use Rattle.std.specs.Str.{bytes_eq}
use Rattle.std.proofs.lemmas.Slice.Eq.{bytes_eq-Decides}
use Rattle.std.proofs.lemmas.Bool.Decides.{Decides-below_and, eqb_tells}
use Rattle.sftp_text.specs.Trees.{kind_text, entry_of, show_kind, read_kind}
use Rattle.sftp_text.specs.Fields.{up_to_space}

-- ==== What stands behind a word at the front of a list.

-- a word is stripped from what it begins
pub strip-append : (word rest : List ℕ) → strip word (word ++ rest) ≡ Some rest
strip-append [] rest = refl
strip-append (w ∷ word) rest =
    rw (eq-eqb w w refl) (strip-append word rest)

strip-none-step :
    (w c : ℕ) (word list : List ℕ) (b : Bool) → (w == c) ≡ b
    → ((rest : List ℕ) → c ∷ list ≢ (w ∷ word) ++ rest)
    → (((rest : List ℕ) → list ≢ word ++ rest) → strip word list ≡ None)
    → strip (w ∷ word) (c ∷ list) ≡ None
strip-none-step w c word list true same apart below =
    rw same (below (λ rest is. apart rest (cc (eqb-true w c same, is))))
strip-none-step w c word list false differ apart below = rw differ

-- nothing is stripped where the word does not stand in front
pub strip-none : (word list : List ℕ) → ((rest : List ℕ) → list ≢ word ++ rest) → strip word list ≡ None
strip-none [] list apart = absurd (apart list refl)
strip-none (w ∷ word) [] apart = refl
strip-none (w ∷ word) (c ∷ list) apart =
    strip-none-step w c word list (w == c) refl apart (strip-none word list)

-- what the search for a word tells, as the word behind it
pub stripped :
    (word list : List ℕ) (r : Option (Bor (List ℕ)))
    → MatchOption r ((rest : List ℕ) → list ≢ word ++ rest) (λ x. list ≡ word ++ x.now)
    → MatchOption r (strip word list ≡ None) (λ x. strip word list ≡ Some x.now)
stripped word list None apart = strip-none word list apart
stripped word list (Some x) is = rw is (strip-append word x.now)

-- ==== Numbers in front of a text.

-- a number that is too large is not taken
pub above :
    {B : Type 0} (most : ℕ) (found : Option (ℕ × List ℕ)) (take_it : ℕ × List ℕ → Option B)
    → IfSome found (λ f. most < f.0) → ((f : ℕ × List ℕ) → most < f.0 → take_it f ≡ None)
    → option_and_then take_it found ≡ None
above most None take_it large refuses = refl
above most (Some f) take_it large refuses = refuses f large

grows-step :
    (base n c : ℕ) (rest : List ℕ) (b : Bool) → is_digit base c ≡ b → 1 ≤ base
    → n * base + (c - 48) ≤ (digits_from base (n * base + (c - 48)) rest).0
    → n ≤ (digits_from base n (c ∷ rest)).0
grows-step base n c rest true is some below =
    let more : n ≤ n * base + (c - 48) = omega (arith, mul-le-mul_left n some) in
    rw is (omega (arith, below, more))
grows-step base n c rest false is some below = rw is (omega arith)

-- digits do not make a number smaller
pub digits_from-grows :
    (base n : ℕ) (text : List ℕ) → 1 ≤ base → n ≤ (digits_from base n text).0
digits_from-grows base n [] some = omega arith
digits_from-grows base n (c ∷ rest) some =
    grows-step base n c rest (is_digit base c) refl some (digits_from-grows base (n * base + (c - 48)) rest some)

-- a number that is too large with one more digit stays so
pub digits_from-above :
    (base n c : ℕ) (rest : List ℕ) (most : ℕ) → 1 ≤ base → is_digit base c ≡ true → most < n * base + (c - 48)
    → most < (digits_from base n (c ∷ rest)).0
digits_from-above base n c rest most some is large =
    rw is (omega (arith, digits_from-grows base (n * base + (c - 48)) rest some))

-- ==== Bytes in hexadecimal, byte by byte.

-- the bytes with the one that is found, and those of what follows it
abbrev with_found : List ℕ → ℕ × List ℕ → Option (List ℕ)
with_found bytes found = hex_onto (bytes ++ found.0 ∷ []) found.1

abbrev with_text : List ℕ → ℕ → Option (ℕ × List ℕ)
with_text text b = Some (b, text)

hex-byte :
    (bytes text : List ℕ) (byte : Option ℕ)
    → option_and_then (λ b. hex_onto (bytes ++ b ∷ []) text) byte
    ≡ option_and_then (with_found bytes) (option_and_then (with_text text) byte)
hex-byte bytes text None = refl
hex-byte bytes text (Some b) = refl

hex_onto-octet :
    (bytes : List ℕ) (c : ℕ) (line : List ℕ)
    → hex_onto bytes (c ∷ line) ≡ option_and_then (with_found bytes) (octet_in (c ∷ line))
hex_onto-octet bytes high [] = refl
hex_onto-octet bytes high (low ∷ text) = hex-byte bytes text (byte_of high low)

-- the bytes of a line go on with the byte that is found
pub hex_onto-goes_on :
    (bytes line rest : List ℕ) (b : ℕ) → octet_in line ≡ Some (b, rest)
    → hex_onto (bytes ++ b ∷ []) rest ≡ hex_onto bytes line
hex_onto-goes_on bytes [] rest b found = absurd (cc)
hex_onto-goes_on bytes (c ∷ line) rest b found = sym (rw found at (hex_onto-octet bytes c line))

-- ==== The flags of OPEN: what is written flag by flag is the text of all.

abbrev parts_are_text : ℕ → Type 0
parts_are_text n = lower_flags (suc n) ++ higher_flags (suc n) ≡ flags_text (suc n)

abbrev are_text : ℕ → Bool
are_text n = bytes_eq (lower_flags (suc n) ++ higher_flags (suc n)) (flags_text (suc n))

-- whether the parts of each number from 1 up to this are its text
abbrev all_are_text : ℕ → Bool
all_are_text zero = true
all_are_text (suc n) = are_text n && all_are_text n

each_is_text : all_are_text 63 ≡ true
each_is_text = refl

-- the parts of named flags are their text
pub flags_text_parts : (n : ℕ) → 1 ≤ n → n < 64 → lower_flags n ++ higher_flags n ≡ flags_text n
flags_text_parts zero some named = absurd (omega arith)
flags_text_parts (suc n) some named =
    (Decides-below_and are_text parts_are_text all_are_text
    (λ k. bytes_eq-Decides (lower_flags (suc k) ++ higher_flags (suc k)) (flags_text (suc k)))
    refl (λ k. refl) 63).0 each_is_text n (omega arith)

-- an item that is shown leaves the others to be shown
show_each-step :
    (item : Format) (separator : List ℕ) (left : ℕ) (text bytes : List ℕ) (moved : List ℕ × List ℕ)
    → item.show (text ++ separator) bytes ≡ Some moved
    → show_each item separator (suc left) text bytes ≡ show_each item separator left moved.0 moved.1
show_each-step item separator left text bytes moved is = rw is

pub show_each_goes_on :
    (item : Format) (separator : List ℕ) (left : ℕ) (text bytes more rest : List ℕ) → 0 < left
    → item.show (text ++ separator) bytes ≡ Some (more, rest)
    → show_each item separator (left - 1) more rest ≡ show_each item separator left text bytes
show_each_goes_on item separator left text bytes more rest some is =
    let same : left ≡ suc (left - 1) = omega arith in
    let P : ℕ → Type 0 = λ n. show_each item separator (left - 1) more rest ≡ show_each item separator n text bytes in
    subst P (sym same) (sym (show_each-step item separator (left - 1) text bytes (more, rest) is))

pub show_each_fails :
    (item : Format) (separator : List ℕ) (left : ℕ) (text bytes : List ℕ) → 0 < left
    → item.show (text ++ separator) bytes ≡ None → show_each item separator left text bytes ≡ None
show_each_fails item separator zero text bytes some is = absurd (omega arith)
show_each_fails item separator (suc left) text bytes some is = rw is

-- a list of items shows one and the others
show_list-step :
    (item : Format) (separator : List ℕ) (left : ℕ) (text bytes : List ℕ) (moved : List ℕ × List ℕ)
    → item.show text bytes ≡ Some moved
    → show_list item separator (suc left) text bytes ≡ show_each item separator left moved.0 moved.1
show_list-step item separator left text bytes moved is = rw is

pub show_list_goes_on :
    (item : Format) (separator : List ℕ) (left : ℕ) (text bytes more rest : List ℕ) → left ≢ 0
    → item.show text bytes ≡ Some (more, rest)
    → show_each item separator (left - 1) more rest ≡ show_list item separator left text bytes
show_list_goes_on item separator left text bytes more rest some is =
    let same : left ≡ suc (left - 1) = omega arith in
    let P : ℕ → Type 0 = λ n. show_each item separator (left - 1) more rest ≡ show_list item separator n text bytes in
    subst P (sym same) (sym (show_list-step item separator (left - 1) text bytes (more, rest) is))

pub show_list_fails :
    (item : Format) (separator : List ℕ) (left : ℕ) (text bytes : List ℕ) → left ≢ 0
    → item.show text bytes ≡ None → show_list item separator left text bytes ≡ None
show_list_fails item separator zero text bytes some is = absurd (some refl)
show_list_fails item separator (suc left) text bytes some is = rw is

-- an item behind a separator leaves the others to be read
read_each-step :
    (item : Format) (separator : List ℕ) (most count : ℕ) (bytes text rest : List ℕ) (moved : List ℕ × List ℕ)
    → strip separator text ≡ Some rest → item.read bytes rest ≡ Some moved
    → read_each item separator (suc most) count bytes text ≡ read_each item separator most (count + 1) moved.0 moved.1
read_each-step item separator most count bytes text rest moved found is = rw found (rw is)

pub read_each_goes_on :
    (item : Format) (separator : List ℕ) (most count : ℕ) (bytes text rest more after : List ℕ) → 0 < most
    → strip separator text ≡ Some rest → item.read bytes rest ≡ Some (more, after)
    → read_each item separator (most - 1) (count + 1) more after ≡ read_each item separator most count bytes text
read_each_goes_on item separator most count bytes text rest more after some found is =
    let same : most ≡ suc (most - 1) = omega arith in
    let P : ℕ → Type 0 =
    λ n. read_each item separator (most - 1) (count + 1) more after ≡ read_each item separator n count bytes text in
    subst P (sym same) (sym (read_each-step item separator (most - 1) count bytes text rest (more, after) found is))

pub read_each_fails :
    (item : Format) (separator : List ℕ) (most count : ℕ) (bytes text rest : List ℕ) → 0 < most
    → strip separator text ≡ Some rest → item.read bytes rest ≡ None
    → read_each item separator most count bytes text ≡ None
read_each_fails item separator zero count bytes text rest some found is = absurd (omega arith)
read_each_fails item separator (suc most) count bytes text rest some found is = rw found (rw is)

-- where no separator is in front, the list ends
pub read_each_ends :
    (item : Format) (separator : List ℕ) (most count : ℕ) (bytes text : List ℕ)
    → strip separator text ≡ None → read_each item separator most count bytes text ≡ Some (count, (bytes, text))
read_each_ends item separator zero count bytes text none = refl
read_each_ends item separator (suc most) count bytes text none = rw none

-- ---- steps up to the end

-- where nothing is left, nothing more is done
pub repeat_ends :
    (step : Step) (most : ℕ) (done : List ℕ) → repeat step most done [] ≡ Some (done, [])
repeat_ends step zero done = refl
repeat_ends step (suc most) done = refl

repeat-step :
    (step : Step) (most : ℕ) (done : List ℕ) (c : ℕ) (left : List ℕ) (moved : List ℕ × List ℕ)
    → step done (c ∷ left) ≡ Some moved
    → repeat step (suc most) done (c ∷ left) ≡ repeat step most moved.0 moved.1
repeat-step step most done c left moved is = rw is

repeat-some :
    (step : Step) (most : ℕ) (done left : List ℕ) (moved : List ℕ × List ℕ) → left ≢ []
    → step done left ≡ Some moved → repeat step (suc most) done left ≡ repeat step most moved.0 moved.1
repeat-some step most done [] moved some is = absurd (some refl)
repeat-some step most done (c ∷ left) moved some is = repeat-step step most done c left moved is

pub repeat_goes_on :
    (step : Step) (most : ℕ) (done left more rest : List ℕ) → 0 < most → left ≢ []
    → step done left ≡ Some (more, rest) → repeat step (most - 1) more rest ≡ repeat step most done left
repeat_goes_on step most done left more rest some any is =
    let same : most ≡ suc (most - 1) = omega arith in
    let P : ℕ → Type 0 = λ n. repeat step (most - 1) more rest ≡ repeat step n done left in
    subst P (sym same) (sym (repeat-some step (most - 1) done left (more, rest) any is))

pub repeat_fails :
    (step : Step) (most : ℕ) (done left : List ℕ) → 0 < most → left ≢ []
    → step done left ≡ None → repeat step most done left ≡ None
repeat_fails step zero done left some any is = absurd (omega arith)
repeat_fails step (suc most) done [] some any is = absurd (any refl)
repeat_fails step (suc most) done (c ∷ left) some any is = rw is

-- ==== An entry of a kind is its letter, its path, the kind, and what it says behind its path.

-- nothing follows a step of which nothing comes
nothing-behind :
    {A B : Type 0} (before : Option A) (f : A → Option B) → ((a : A) → f a ≡ None) → option_and_then f before ≡ None
nothing-behind None f none = refl
nothing-behind (Some a) f none = none a

-- where the kind is unknown nothing is shown
unknown-shown :
    (kind : ℕ) (last : Step) (text bytes : List ℕ) → ((t b : List ℕ) → last t b ≡ None)
    → after (word (kind ∷ codes " ")).show (after string_text.show (after (mark (kind ∷ [])).show last)) text bytes ≡ None
unknown-shown kind last text bytes none =
    nothing-behind ((word (kind ∷ codes " ")).show text bytes)
    (λ w. after string_text.show (after (mark (kind ∷ [])).show last) w.0 w.1)
    (λ w. nothing-behind (string_text.show w.0 w.1) (λ m. after (mark (kind ∷ [])).show last m.0 m.1)
    (λ m. nothing-behind ((mark (kind ∷ [])).show m.0 m.1) (λ n. last n.0 n.1) (λ n. none n.0 n.1)))

-- where the kind is unknown nothing is read
unknown-read :
    (kind : ℕ) (last : Step) (bytes text : List ℕ) → ((b t : List ℕ) → last b t ≡ None)
    → after (word (kind ∷ codes " ")).read (after string_text.read (after (mark (kind ∷ [])).read last)) bytes text ≡ None
unknown-read kind last bytes text none =
    nothing-behind ((word (kind ∷ codes " ")).read bytes text)
    (λ w. after string_text.read (after (mark (kind ∷ [])).read last) w.0 w.1)
    (λ w. nothing-behind (string_text.read w.0 w.1) (λ m. after (mark (kind ∷ [])).read last m.0 m.1)
    (λ m. nothing-behind ((mark (kind ∷ [])).read m.0 m.1) (λ n. last n.0 n.1) (λ n. none n.0 n.1)))

shown-of :
    (kind : ℕ) (fields : Option Format) (text bytes : List ℕ)
    → option_and_then (λ f. (entry_of kind f).show text bytes) fields
    ≡ (entry_of kind (behind fields)).show text bytes
shown-of kind None text bytes = sym (unknown-shown kind (λ t b. None) text bytes (λ t b. refl))
shown-of kind (Some f) text bytes = refl

read-of :
    (kind : ℕ) (fields : Option Format) (bytes text : List ℕ)
    → option_and_then (λ f. (entry_of kind f).read bytes text) fields
    ≡ (entry_of kind (behind fields)).read bytes text
read-of kind None bytes text = sym (unknown-read kind (λ b t. None) bytes text (λ b t. refl))
read-of kind (Some f) bytes text = refl

pub kind_is_shown :
    (wide : Bool) (kind : ℕ) (text bytes : List ℕ) (shown : Option (List ℕ × List ℕ))
    → (entry_of kind (behind_path wide kind)).show text bytes ≡ shown → show_kind wide text bytes kind ≡ shown
kind_is_shown wide kind text bytes shown is = shown-of kind (kind_text wide kind) text bytes ∙ is

pub kind_is_read :
    (wide : Bool) (kind : ℕ) (bytes text : List ℕ) (taken : Option (List ℕ × List ℕ))
    → (entry_of kind (behind_path wide kind)).read bytes text ≡ taken → read_kind wide bytes text kind ≡ taken
kind_is_read wide kind bytes text taken is = read-of kind (kind_text wide kind) bytes text ∙ is

not-read :
    (kind : ℕ) (fields : Option Format) (bytes text : List ℕ) → is_some fields ≡ false
    → option_and_then (λ f. (entry_of kind f).read bytes text) fields ≡ None
not-read kind None bytes text is = refl
not-read kind (Some f) bytes text is = absurd cc

pub no_kind_is_read :
    (wide : Bool) (kind : ℕ) (bytes text : List ℕ) → is_some (kind_text wide kind) ≡ false
    → read_kind wide bytes text kind ≡ None
no_kind_is_read wide kind bytes text is = not-read kind (kind_text wide kind) bytes text is

-- ==== The characters up to a space, found one by one.

step :
    (text : List ℕ) (i : ℕ) → i < length text → get_or text i 0 ≢ 32
    → take i text ++ up_to_space (drop i text) ≡ take (suc i) text ++ up_to_space (drop (suc i) text)
step [] i inside other = absurd (omega arith)
step (c ∷ text) zero inside other =
    elim (eqb_tells c 32) [ inl same ↦ absurd (other same.1) | inr differ ↦ rw differ.0 ]
step (c ∷ text) (suc i) inside other = ap (λ (x : List ℕ). c ∷ x) (step text i (omega arith) other)

-- a character that is no space goes on
pub up_to_space_more :
    (text : List ℕ) (i : ℕ) → i < length text → get_or text i 0 ≢ 32
    → take i text ++ up_to_space (drop i text) ≡ take (i + 1) text ++ up_to_space (drop (i + 1) text)
up_to_space_more text i inside other =
    let next : i + 1 ≡ suc i = omega arith in
    rw next (step text i inside other)

-- a space ends them
pub up_to_space_end :
    (text : List ℕ) (i : ℕ) → i < length text → get_or text i 0 ≡ 32
    → take i text ++ up_to_space (drop i text) ≡ take i text
up_to_space_end [] i inside is = absurd (omega arith)
up_to_space_end (c ∷ text) zero inside is =
    elim (eqb_tells c 32) [ inl same ↦ rw same.0 | inr differ ↦ absurd (differ.1 is) ]
up_to_space_end (c ∷ text) (suc i) inside is = ap (λ (x : List ℕ). c ∷ x) (up_to_space_end text i (omega arith) is)

-- how steps are repeated
pub ruleset repeat_steps = (repeat_goes_on, repeat_fails, repeat_ends)

-- how each of so many is read
pub ruleset each_steps = (read_each_goes_on, read_each_fails, read_each_ends)

-- how the entry of a letter is read
pub ruleset kind_steps = (kind_is_read, no_kind_is_read)
