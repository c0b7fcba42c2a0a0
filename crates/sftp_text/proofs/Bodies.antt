-- Packets are read back in the layout that their bytes have.
use Rattle.std.proofs.Common.{◌≡◌, ℕ, Bool, true, List, [], ◌∷◌, ◌++◌, Option, Some, None, refl, sym, ap, subst, ◌∙◌}
use Rattle.std.proofs.Common.{arith, ◌^◌, false, ◌&&◌, not, drop, inl, inr}
use Rattle.std.specs.Prelude.{IsTrue, IsFalse, ◌==◌, codes, decimal, bytes_eq, find}
use Rattle.std.proofs.lemmas.Bool.{eqb-true, and_parts, cond-true, cond-false, cases_Bool}
use Rattle.std.proofs.lemmas.List.{append-nil}
use Rattle.sftp_packets.specs.declared.layouts.FieldKind.{FieldKind}
use Rattle.sftp_packets.specs.declared.layouts.FieldKind.TheVariants.{Number, LongNumber, Flags, Text, Handle}
use Rattle.sftp_packets.specs.declared.layouts.Tail.{Tail}
use Rattle.sftp_packets.specs.declared.layouts.Tail.TheVariants.{Nothing, Attributes, Pairs, Items, Message, Rest}
use Rattle.sftp_packets.specs.Spelling.{AreBytes}
use Rattle.sftp_text.specs.Formats.{nothing, ◌then◌, word, strip, begins_with, if_found, if_any, listed, Format, mark}
use Rattle.sftp_text.specs.Digits.{string_text, rest_text}
use Rattle.sftp_text.specs.Fields.{pairs, attributes, name_item, names, no_message, two_texts, message, field_text}
use Rattle.sftp_text.specs.Fields.{tail_text, fields_text}
use Rattle.sftp_text.proofs.Exact.{some-inj, strip-some, Shown, IsExact, IsExact-weaken, then-exact, nothing-exact}
use Rattle.sftp_text.proofs.Exact.{Behind, ahead-exact, none-some, mark-exact}
use Rattle.sftp_text.proofs.Numerals.{EndsWord, number-exact, long-exact, flags-exact, NumberFront}
use Rattle.sftp_text.proofs.Numerals.{is_digit-from_value}
use Rattle.sftp_text.proofs.Strings.{StartsQuoted, string_text-exact, rest_text-exact}
use Rattle.sftp_text.proofs.Repeats.{Separates, ListFront, with_item, no_items, listed-exact, IsEnd, EndFront}
use Rattle.sftp_text.proofs.Repeats.{separated, ended}
use Rattle.sftp_text.proofs.Parts.{Anything, behind_word, pairs-exact, EndsFields, LabelFront, labelled, unlabelled}
use Rattle.sftp_text.proofs.Parts.{label_front, attribute_initials, attributes-exact, Behind-ends}
use Rattle.std.specs.List.{list_all}
use Rattle.std.specs.Str.Parse.{IsNumeral, AllDigits}
use Rattle.std.proofs.lemmas.Fmt.{decimal_is_IsNumeral}
use Rattle.std.proofs.lemmas.Slice.Eq.{bytes_eq-Decides}
use Rattle.sftp_packets.specs.declared.packets.Side.{Side}
use Rattle.sftp_packets.specs.declared.packets.Side.TheVariants.{Client, Server}
use Rattle.sftp_packets.specs.Layouts.{Shape, shapes, layout_of_bytes}
use Rattle.sftp_text.specs.Digits.{number, is_digit}
use Rattle.sftp_text.specs.Fields.{id_text, body_text, packet_text, up_to_space, behind_space, name_in}
use Rattle.sftp_text.specs.Fields.{layout_of_text}
use Rattle.sftp_text.specs.Lines.{is_printable}

-- ==== Fields, and what comes after them, are read back.

-- ---- names of a directory

name_item-exact : IsExact name_item (λ l. IsTrue (begins_with 32 l)) EndsFields
unfolding name_item
name_item-exact =
    let last = attributes-exact EndsFields (λ l e. e) in
    let long_text = then-exact string_text attributes StartsQuoted _ EndsFields (string_text-exact _) last in
    let second = behind_word (codes " ") (string_text then attributes) StartsQuoted EndsFields refl long_text in
    let text =
    then-exact string_text (word (codes " ") then string_text then attributes) StartsQuoted _ EndsFields
    (string_text-exact _) second
    in
    let first = behind_word (codes " ") _ StartsQuoted EndsFields refl text in
    IsExact-weaken _ _ (λ l. IsTrue (begins_with 32 l)) EndsFields EndsFields
    (λ l b. subst (λ x. IsTrue (begins_with 32 x)) (sym b.parts) refl) (λ l e. e) first

end-fields : (l : List ℕ) → IsEnd l → EndsFields l
end-fields l e = subst EndsFields (sym e) refl

names-exact : IsExact names (ListFront 32 IsEnd) IsEnd
unfolding names
names-exact =
    let separates : Separates name_item 32 (codes ";") EndsFields IsEnd =
    record {
      item_exact = name_item-exact;
      printable = refl;
      nonempty = omega arith;
      after_item = λ l. refl;
      after_last = end-fields;
      no_separator = λ l e. subst (λ x. strip (codes ";") x ≡ None) (sym e) refl;
      no_item = λ l e. subst (λ x. IsFalse (begins_with 32 x)) (sym e) refl;
    }
    in
    ahead-exact (listed name_item 32 (codes ";")) (ListFront 32 IsEnd) IsEnd
    (listed-exact name_item 32 (codes ";") EndsFields IsEnd separates)

-- ---- messages

-- the end, or a space
abbrev pub space_front : List ℕ → Bool
space_front [] = true
space_front (c ∷ rest) = c == 32

abbrev pub SpaceFront : List ℕ → Type 0
SpaceFront l = IsTrue (space_front l)

two_texts-exact : IsExact two_texts (Behind (codes " ") StartsQuoted) IsEnd
two_texts-exact =
    let last = behind_word (codes " ") string_text StartsQuoted IsEnd refl (string_text-exact IsEnd) in
    let text = then-exact string_text (word (codes " ") then string_text) StartsQuoted _ IsEnd (string_text-exact _) last in
    behind_word (codes " ") _ StartsQuoted IsEnd refl text

pub space-behind : (A : List ℕ → Type 0) (w l : List ℕ) → Behind (32 ∷ w) A l → SpaceFront l
space-behind A w l b = subst SpaceFront (sym b.parts) refl

message-exact : IsExact message SpaceFront IsEnd
unfolding message
message-exact = record { exact = λ text bytes more left are e. shows text bytes more left are (strip no_message bytes) refl e }
  where
    shows : (text bytes more left : List ℕ) → AreBytes bytes → (found : Option (List ℕ)) → strip no_message bytes ≡ found
        → if_found (strip no_message bytes) (λ rest. Some (text, rest)) (two_texts.show text bytes) ≡ Some (more, left)
        → Shown message SpaceFront IsEnd text bytes more left
    shows text bytes more left are (Some rest) is e =
        let keep : List ℕ → Option (List ℕ × List ℕ) = λ r. Some (text, r) in
        let both =
        some-inj (text, rest) (more, left) (sym (ap (λ o. if_found o keep (two_texts.show text bytes)) is) ∙ e)
        in
        record {
          shown = [];
          taken = no_message;
          text_is = sym (ap (λ m. m.0) both) ∙ sym (append-nil text);
          bytes_are = strip-some no_message bytes rest is ∙ ap (λ m. no_message ++ m.1) both;
          printable = refl;
          back = λ done r ok.
              subst (λ l. message.read done l ≡ Some (done ++ no_message, l)) (sym ok) refl;
          front = λ r ok. subst SpaceFront (sym ok) refl;
        }
    shows text bytes more left are None is e =
        let keep : List ℕ → Option (List ℕ × List ℕ) = λ r. Some (text, r) in
        let s =
        two_texts-exact.exact text bytes more left are
        (sym (ap (λ o. if_found o keep (two_texts.show text bytes)) is) ∙ e)
        in
        record {
          shown = s.shown;
          taken = s.taken;
          text_is = s.text_is;
          bytes_are = s.bytes_are;
          printable = s.printable;
          back = λ done r ok.
              let front = s.front r ok in
              let other : Option (List ℕ × List ℕ) = Some (done ++ no_message, s.shown ++ r) in
              let read = two_texts.read done (s.shown ++ r) in
              ap (λ l. if_any l read other) front.parts ∙ s.back done r ok;
          front = λ r ok. space-behind StartsQuoted [] (s.shown ++ r) (s.front r ok);
        }

-- ---- what comes after the fields

label-space : (initials l : List ℕ) → IsTrue (label_front initials l) → SpaceFront l
label-space initials [] e = refl
label-space initials (c ∷ []) e = cc
label-space initials (c ∷ d ∷ l) e = (and_parts _ _ e).0

labels-space : (initials l : List ℕ) → LabelFront initials IsEnd l → SpaceFront l
labels-space initials l (labelled e) = label-space initials l e
labels-space initials l (unlabelled e) = subst SpaceFront (sym e) refl

ends-space : (l : List ℕ) → EndFront (codes " ") l → SpaceFront l
ends-space l (separated rest parts) = subst SpaceFront (sym parts) refl
ends-space l (ended is) = subst SpaceFront (sym is) refl

begins-space : (l : List ℕ) → IsTrue (begins_with 32 l) → SpaceFront l
begins-space [] e = refl
begins-space (c ∷ l) e = e

list-space : (l : List ℕ) → ListFront 32 IsEnd l → SpaceFront l
list-space l (with_item e) = begins-space l e
list-space l (no_items e) = subst SpaceFront (sym e) refl

pub tail_text-exact : (tail : Tail) → IsExact (tail_text tail) SpaceFront IsEnd
unfolding tail_text
tail_text-exact Nothing =
    IsExact-weaken nothing IsEnd SpaceFront IsEnd IsEnd (λ l e. subst SpaceFront (sym e) refl) (λ l e. e)
    (nothing-exact IsEnd)
tail_text-exact Attributes =
    IsExact-weaken attributes _ SpaceFront IsEnd IsEnd (labels-space attribute_initials) (λ l e. e)
    (attributes-exact IsEnd end-fields)
tail_text-exact Pairs = IsExact-weaken pairs _ SpaceFront IsEnd IsEnd ends-space (λ l e. e) pairs-exact
tail_text-exact Items = IsExact-weaken names _ SpaceFront IsEnd IsEnd list-space (λ l e. e) names-exact
tail_text-exact Message = message-exact
tail_text-exact Rest =
    IsExact-weaken (word (codes " ") then rest_text) _ SpaceFront IsEnd IsEnd (space-behind StartsQuoted []) (λ l e. e)
    (behind_word (codes " ") rest_text StartsQuoted IsEnd refl (rest_text-exact IsEnd))

-- ---- fields

pub space-ends : (l : List ℕ) → SpaceFront l → EndsWord l
space-ends [] e = refl
space-ends (c ∷ l) e = subst (λ b. EndsWord (b ∷ l)) (sym (eqb-true c 32 e)) refl

field_text-exact : (field : FieldKind) → IsExact (field_text field) Anything SpaceFront
unfolding field_text
field_text-exact Number =
    IsExact-weaken _ _ Anything SpaceFront SpaceFront (λ l a. tt) (λ l e. e) (number-exact SpaceFront space-ends)
field_text-exact LongNumber =
    IsExact-weaken _ _ Anything SpaceFront SpaceFront (λ l a. tt) (λ l e. e) (long-exact SpaceFront space-ends)
field_text-exact Flags =
    IsExact-weaken _ _ Anything SpaceFront SpaceFront (λ l a. tt) (λ l e. e) (flags-exact SpaceFront space-ends)
field_text-exact Text =
    IsExact-weaken _ _ Anything SpaceFront SpaceFront (λ l a. tt) (λ l e. e) (string_text-exact SpaceFront)
field_text-exact Handle =
    IsExact-weaken _ _ Anything SpaceFront SpaceFront (λ l a. tt) (λ l e. e) (string_text-exact SpaceFront)

pub fields_text-exact : (fields : List FieldKind) → IsExact (fields_text fields) SpaceFront SpaceFront
fields_text-exact [] = nothing-exact SpaceFront
fields_text-exact (field ∷ fields) =
    let one =
    IsExact-weaken (word (codes " ") then field_text field) _ SpaceFront SpaceFront SpaceFront
    (space-behind Anything []) (λ l e. e)
    (behind_word (codes " ") (field_text field) Anything SpaceFront refl (field_text-exact field))
    in
    then-exact (word (codes " ") then field_text field) (fields_text fields) SpaceFront SpaceFront SpaceFront one
    (fields_text-exact fields)

-- ---- names

abbrev is_not_space : ℕ → Bool
is_not_space c = not (c == 32)

abbrev begins_with_digit : List ℕ → Bool
begins_with_digit [] = true
begins_with_digit (c ∷ text) = is_digit 10 c

-- whether a name is printable, has no space, and does not begin with a digit
abbrev is_name : List ℕ → Bool
is_name name = list_all is_printable name && list_all is_not_space name && not (begins_with_digit name)

record IsName (name : List ℕ) : Type 0 where
  pub printable : IsTrue (list_all is_printable name)
  pub spaceless : IsTrue (list_all is_not_space name)
  pub letter : IsFalse (begins_with_digit name)

not-true : (b : Bool) → not b ≡ true → b ≡ false
not-true true h = cc
not-true false h = refl

IsName-from : (name : List ℕ) → is_name name ≡ true → IsName name
IsName-from name passes =
    let both = and_parts _ _ passes in
    let first = and_parts _ _ both.0 in
    record { printable = first.0; spaceless = first.1; letter = not-true _ both.1 }

up_to_space-name : (name rest : List ℕ) → IsTrue (list_all is_not_space name) → SpaceFront rest
    → up_to_space (name ++ rest) ≡ name
up_to_space-name [] [] spaceless ok = refl
up_to_space-name [] (c ∷ rest) spaceless ok = cond-true (c == 32) [] (c ∷ up_to_space rest) ok
up_to_space-name (c ∷ name) rest spaceless ok =
    let parts = and_parts _ _ spaceless in
    cond-false (c == 32) [] (c ∷ up_to_space (name ++ rest)) (not-true _ parts.0)
    ∙ ap (λ l. c ∷ l) (up_to_space-name name rest parts.1 ok)

-- no digit is a space
digit-no_space : (c : ℕ) → is_digit 10 c ≡ true → (c == 32) ≡ false
digit-no_space c digit =
    elim (cases_Bool (c == 32)) [
      | inl same ↦ cc_digit (subst (λ b. is_digit 10 b ≡ true) (eqb-true c 32 same) digit)
      | inr differs ↦ differs
    ]
  where
    cc_digit : is_digit 10 32 ≡ true → (c == 32) ≡ false
    cc_digit e = cc

behind_space-digits : (ds rest : List ℕ) → AllDigits 10 ds → behind_space (ds ++ (32 ∷ rest)) ≡ rest
behind_space-digits [] rest all = refl
behind_space-digits (d ∷ ds) rest all =
    let digit = (is_digit-from_value 10 d (omega arith) all.0).0 in
    cond-false (d == 32) (ds ++ (32 ∷ rest)) (behind_space (ds ++ (32 ∷ rest))) (digit-no_space d digit)
    ∙ behind_space-digits ds rest all.1

-- the name is found where no number is in front of it
name_in-first : (name rest : List ℕ) → IsName name → SpaceFront rest → name_in (name ++ rest) ≡ name
name_in-first [] rest is ok = elim_clash is.letter
  where
    elim_clash : true ≡ false → name_in ([] ++ rest) ≡ []
    elim_clash e = cc
name_in-first (c ∷ name) rest is ok =
    cond-false (is_digit 10 c) _ (up_to_space (c ∷ (name ++ rest))) is.letter
    ∙ up_to_space-name (c ∷ name) rest is.spaceless ok

-- and where one is
name_in-second : (ds name rest : List ℕ) → IsNumeral 10 ds → IsName name → SpaceFront rest
    → name_in (ds ++ (32 ∷ (name ++ rest))) ≡ name
name_in-second [] name rest numeral is ok = absurd (omega (arith, numeral.0))
name_in-second (d ∷ ds) name rest numeral is ok =
    let digit = (is_digit-from_value 10 d (omega arith) numeral.1.0).0 in
    cond-true (is_digit 10 d) (up_to_space (behind_space (d ∷ (ds ++ (32 ∷ (name ++ rest)))))) _ digit
    ∙ ap up_to_space (behind_space-digits (d ∷ ds) (name ++ rest) numeral.1)
    ∙ up_to_space-name name rest is.spaceless ok

-- ---- the text of a packet begins with its name, behind its id if it has one

abbrev pub NameFront : List ℕ → List ℕ → Type 0
NameFront name l = name_in (drop 1 l) ≡ name

named-exact : (s : Shape) → IsName s.name
    → IsExact (word (32 ∷ s.name) then mark s.mark then fields_text s.fields then tail_text s.tail) (Behind (32 ∷ s.name) SpaceFront) IsEnd
named-exact s is =
    let last = tail_text-exact s.tail in
    let fields = then-exact (fields_text s.fields) (tail_text s.tail) SpaceFront SpaceFront IsEnd (fields_text-exact s.fields) last in
    let marked = then-exact (mark s.mark) (fields_text s.fields then tail_text s.tail) SpaceFront SpaceFront IsEnd (mark-exact s.mark SpaceFront) fields in
    behind_word (32 ∷ s.name) (mark s.mark then fields_text s.fields then tail_text s.tail) SpaceFront IsEnd is.printable marked

-- what stands behind the id
abbrev named : Shape → Format
named s = word (32 ∷ s.name) then mark s.mark then fields_text s.fields then tail_text s.tail

body_text-exact : (s : Shape) → IsName s.name → IsExact (body_text s) (NameFront s.name) IsEnd
body_text-exact s is = go s.has_id
  where
    go : (has_id : Bool) → IsExact (id_text has_id then named s) (NameFront s.name) IsEnd
    go false =
        IsExact-weaken (nothing then named s) (Behind (32 ∷ s.name) SpaceFront) (NameFront s.name) IsEnd IsEnd
        (λ l b. ap (λ x. name_in (drop 1 x)) b.parts ∙ name_in-first s.name b.rest is b.follows) (λ l e. e)
        (then-exact nothing (named s) (Behind (32 ∷ s.name) SpaceFront) (Behind (32 ∷ s.name) SpaceFront) IsEnd
        (nothing-exact (Behind (32 ∷ s.name) SpaceFront)) (named-exact s is))
    go true =
        let N = Behind (32 ∷ s.name) SpaceFront in
        let D = NumberFront decimal (2 ^ 32) N in
        let id = behind_word (codes " ") number D N refl (number-exact N (λ l b. Behind-ends (32 ∷ s.name) SpaceFront l (λ rest. refl) b)) in
        IsExact-weaken ((word (codes " ") then number) then named s) (Behind (codes " ") D) (NameFront s.name) IsEnd IsEnd
        (λ l b.
        let n = b.follows in
        let numeral = decimal_is_IsNumeral n.value (omega (arith, n.fits)) in
        ap (λ x. name_in (drop 1 x)) b.parts ∙ ap name_in n.parts
        ∙ ap (λ x. name_in (decimal n.value ++ x)) n.follows.parts
        ∙ name_in-second (decimal n.value) s.name n.follows.rest numeral.0 is n.follows.follows)
        (λ l e. e)
        (then-exact (word (codes " ") then number) (named s) (Behind (codes " ") D) N IsEnd id (named-exact s is))

-- ---- which layout

-- what is found passes the test, and each that all pass
find-passes : {A : Type 0} (p q : A → Bool) (xs : List A) (x : A) → find p xs ≡ Some x → list_all q xs ≡ true
    → (p x ≡ true) × (q x ≡ true)
find-passes p q [] x e all = none-some x e
find-passes p q (y ∷ xs) x e all =
    let parts = and_parts _ _ all in
    elim (cases_Bool (p y)) [
      | inl passes ↦
          let same = some-inj y x (sym (cond-true (p y) (Some y) (find p xs) passes) ∙ e) in
          subst (λ z. (p z ≡ true) × (q z ≡ true)) same (passes, parts.0)
      | inr fails ↦ find-passes p q xs x (sym (cond-false (p y) (Some y) (find p xs) fails) ∙ e) parts.1
    ]

-- whether a layout has this name
abbrev is_named : List ℕ → Shape → Bool
is_named name s = bytes_eq s.name name

-- whether no two layouts have one name
abbrev are_distinct : List Shape → Bool
are_distinct [] = true
are_distinct (x ∷ xs) = list_all (λ y. not (is_named y.name x)) xs && are_distinct xs

-- what is found among layouts of distinct names is found by its name
find-named : (p : Shape → Bool) (xs : List Shape) (x : Shape) → are_distinct xs ≡ true
    → find p xs ≡ Some x → find (is_named x.name) xs ≡ Some x
find-named p [] x distinct e = none-some x e
find-named p (y ∷ xs) x distinct e =
    let parts = and_parts _ _ distinct in
    let named : Shape → Shape → Bool = λ z. is_named z.name in
    elim (cases_Bool (p y)) [
      | inl passes ↦
          let same = some-inj y x (sym (cond-true (p y) (Some y) (find p xs) passes) ∙ e) in
          let own = (bytes_eq-Decides y.name y.name).1 refl in
          subst (λ z. find (named z) (y ∷ xs) ≡ Some z) same (cond-true (named y y) (Some y) (find (named y) xs) own)
      | inr fails ↦
          let later = sym (cond-false (p y) (Some y) (find p xs) fails) ∙ e in
          let other = not-true _ (find-passes p (λ z. not (named z y)) xs x later parts.0).1 in
          cond-false (named x y) (Some y) (find (named x) xs) other ∙ find-named p xs x parts.1 later
    ]

-- the layout of a side and a name
abbrev named_layout : Side → List ℕ → Option Shape
named_layout side name = find (is_named name) (shapes side)

-- the names of a side's layouts are names
all_are_names : (side : Side) → list_all (λ s. is_name s.name) (shapes side) ≡ true
unfolding shapes
all_are_names Client = refl
all_are_names Server = refl

-- and no two are one
all_are_distinct : (side : Side) → are_distinct (shapes side) ≡ true
unfolding shapes
all_are_distinct Client = refl
all_are_distinct Server = refl

-- the name of a layout that is found is a name
layout-IsName : (side : Side) (bytes : List ℕ) (s : Shape) → layout_of_bytes side bytes ≡ Some s → IsName s.name
unfolding layout_of_bytes
layout-IsName side bytes s found =
    IsName-from s.name (find-passes _ (λ z. is_name z.name) (shapes side) s found (all_are_names side)).1

-- the text of a packet whose layout is found is read back
pub packet_text-exact : (side : Side) (bytes : List ℕ) (s : Shape) → layout_of_bytes side bytes ≡ Some s
    → IsExact (packet_text s) (NameFront s.name) IsEnd
packet_text-exact side bytes s found =
    then-exact (mark (s.kind ∷ [])) (body_text s) (NameFront s.name) (NameFront s.name) IsEnd
    (mark-exact (s.kind ∷ []) (NameFront s.name)) (body_text-exact s (layout-IsName side bytes s found))

-- a line that begins with the name of a layout that was found is read in that layout
pub layout_of_text-named : (side : Side) (bytes text : List ℕ) (s : Shape)
    → layout_of_bytes side bytes ≡ Some s → NameFront s.name text → layout_of_text side text ≡ Some s
unfolding layout_of_bytes layout_of_text
layout_of_text-named side bytes text s found name_is =
    ap (named_layout side) name_is ∙ find-named _ (shapes side) s (all_are_distinct side) found

-- no packet has the name `raw`
pub no_raw : (side : Side) → named_layout side (codes "raw") ≡ None
unfolding shapes
no_raw Client = refl
no_raw Server = refl
