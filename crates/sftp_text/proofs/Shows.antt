-- What is spelled in bytes is shown.
use Rattle.std.proofs.Common.{◌≡◌, ℕ, zero, suc, ◌^◌, ◌<◌, ◌≤◌, true, List, [], ◌∷◌, ◌++◌, length, take, drop}
use Rattle.std.proofs.Common.{Option, Some, None, refl, sym, ap, subst, ◌∙◌, append_assoc, arith}
use Rattle.std.specs.Prelude.{IfSome, option_and_then, nat_le, codes, decimal, is_some}
use Rattle.std.specs.Int.{Width, w32, w64, byte_len, from_be_bytes, to_be_bytes}
use Rattle.std.specs.List.{flat_map, AllByRecursion}
use Rattle.std.proofs.lemmas.Bool.{cond-true, cond-false, le-leb}
use Rattle.std.proofs.lemmas.List.{append-nil, length-append, take_at, drop_at}
use Rattle.sftp_packets.specs.declared.attributes.Attrs.{Attrs as WireAttrs}
use Rattle.sftp_packets.specs.declared.names.NameItem.{NameItem}
use Rattle.sftp_packets.specs.Spelling as wire
use Rattle.sftp_packets.specs.Reading.{has_flag, are_known}
use Rattle.sftp_strings.proofs.Bytes.{IsWide, wide32, wide64}
use Rattle.sftp_packets.proofs.FieldLaws.{attribute_flags-say, attribute_flags-known}
use Rattle.sftp_text.specs.Formats.{Step, Format, Counted, stay, after, ◌then◌, word, mark, strip, front_number, front_uint32, ahead, if_found}
use Rattle.sftp_text.specs.Formats.{show_each, show_list, listed, repeat}
use Rattle.sftp_text.specs.Digits.{four_bytes, eight_bytes, decimal_in, octal_text, octal_in, flags_text, flags_in, number, long, octal, flags}
use Rattle.sftp_text.specs.Digits.{quoted, counted_text, string_text, rest_text}
use Rattle.sftp_text.specs.Fields.{two_numbers, pair, pairs, counted_pairs, Part, part, attribute_parts, show_part, show_parts, known_parts, attributes, name_item, names, no_message, two_texts, message}
use Rattle.sftp_text.proofs.Exact.{strip-same, strip-some}

-- the step takes the bytes that are in front of what it leaves
pub record Goes (s : Step) (text bytes left : List ℕ) : Type 0 where
  pub more : List ℕ
  pub is : s text bytes ≡ Some (more, left)

-- the step takes these bytes, whatever stands behind them
abbrev pub Takes : Step → List ℕ → Type 0
Takes s bytes = (text rest : List ℕ) → Goes s text (bytes ++ rest) rest

-- the step takes these bytes where nothing stands behind them
abbrev pub TakesAll : Step → List ℕ → Type 0
TakesAll s bytes = (text : List ℕ) → Goes s text bytes []

pub all_from_front : (s : Step) (bytes : List ℕ) → Takes s bytes → TakesAll s bytes
all_from_front s bytes takes text =
    let goes = takes text [] in record { more = goes.more; is = ap (s text) (sym (append-nil bytes)) ∙ goes.is }

-- ---- one step after another

go_on : (s t : Step) (text bytes mid left : List ℕ) → Goes s text bytes mid → ((m : List ℕ) → Goes t m mid left)
    → Goes (after s t) text bytes left
go_on s t text bytes mid left one two =
    let next : List ℕ × List ℕ → Option (List ℕ × List ℕ) = λ m. t m.0 m.1 in
    record { more = (two one.more).more; is = ap (option_and_then next) one.is ∙ (two one.more).is }

pub after-takes : (s t : Step) (xs ys : List ℕ) → Takes s xs → Takes t ys → Takes (after s t) (xs ++ ys)
after-takes s t xs ys one two text rest =
    subst (λ l. Goes (after s t) text l rest) (sym (append_assoc xs ys rest))
    (go_on s t text (xs ++ (ys ++ rest)) (ys ++ rest) rest (one text (ys ++ rest)) (λ m. two m rest))

pub after-all : (s t : Step) (xs ys : List ℕ) → Takes s xs → TakesAll t ys → TakesAll (after s t) (xs ++ ys)
after-all s t xs ys one two text = go_on s t text (xs ++ ys) ys [] (one text ys) two

pub word_then-takes : (w : List ℕ) (f : Format) (bytes : List ℕ) → Takes f.show bytes → Takes (word w then f).show bytes
word_then-takes w f bytes takes text rest =
    let goes = takes (text ++ w) rest in record { more = goes.more; is = goes.is }

pub mark-takes : (b : List ℕ) → Takes (mark b).show b
mark-takes b text rest = record {
  more = text;
  is = ap (option_and_then (λ r. Some (text, r))) (strip-same b rest);
}

-- ---- numbers

front_number-spelled : (w : Width) (size limit : ℕ) → IsWide w limit → size ≡ byte_len w → (n : ℕ) (rest : List ℕ) → n < limit
    → front_number size (from_be_bytes w) (to_be_bytes w n ++ rest) ≡ Some (n, rest)
front_number-spelled w size limit wide size_is n rest lt =
    let bytes = to_be_bytes w n in
    let len : length bytes ≡ size = wide.len n ∙ sym size_is in
    let enough : nat_le size (length (bytes ++ rest)) ≡ true = le-leb size _ (omega (arith, len, length-append bytes rest)) in
    cond-true (nat_le size (length (bytes ++ rest)))
    (Some (from_be_bytes w (take size (bytes ++ rest)), drop size (bytes ++ rest))) None enough
    ∙ ap (λ l. Some (from_be_bytes w l, drop size (bytes ++ rest))) (take_at bytes rest size len)
    ∙ ap (λ l. Some (from_be_bytes w bytes, l)) (drop_at bytes rest size len) ∙ ap (λ k. Some (k, rest)) (wide.again n lt)

pub front_uint32-spelled : (n : ℕ) (rest : List ℕ) → n < 2 ^ 32 → front_uint32 (wire.uint32 n ++ rest) ≡ Some (n, rest)
front_uint32-spelled n rest lt = front_number-spelled w32 4 (2 ^ 32) wide32 refl n rest lt

four_bytes-takes : (text_of : ℕ → List ℕ) (find_in : List ℕ → Option (ℕ × List ℕ)) (n : ℕ) → n < 2 ^ 32
    → Takes (four_bytes text_of find_in).show (wire.uint32 n)
four_bytes-takes text_of find_in n lt text rest =
    let show : ℕ × List ℕ → Option (List ℕ × List ℕ) = λ f. Some (text ++ text_of f.0, f.1) in
    record { more = text ++ text_of n; is = ap (option_and_then show) (front_uint32-spelled n rest lt) }

eight_bytes-takes : (text_of : ℕ → List ℕ) (find_in : List ℕ → Option (ℕ × List ℕ)) (n : ℕ) → n < 2 ^ 64
    → Takes (eight_bytes text_of find_in).show (wire.uint64 n)
eight_bytes-takes text_of find_in n lt text rest =
    let show : ℕ × List ℕ → Option (List ℕ × List ℕ) = λ f. Some (text ++ text_of f.0, f.1) in
    record {
      more = text ++ text_of n;
      is = ap (option_and_then show) (front_number-spelled w64 8 (2 ^ 64) wide64 refl n rest lt);
    }

pub number-takes : (n : ℕ) → n < 2 ^ 32 → Takes number.show (wire.uint32 n)
unfolding number
number-takes n lt = four_bytes-takes decimal decimal_in n lt

pub long-takes : (n : ℕ) → n < 2 ^ 64 → Takes long.show (wire.uint64 n)
unfolding long
long-takes n lt = eight_bytes-takes decimal decimal_in n lt

pub octal-takes : (n : ℕ) → n < 2 ^ 32 → Takes octal.show (wire.uint32 n)
unfolding octal
octal-takes n lt = four_bytes-takes octal_text octal_in n lt

pub flags-takes : (n : ℕ) → n < 2 ^ 32 → Takes flags.show (wire.uint32 n)
unfolding flags
flags-takes n lt = four_bytes-takes flags_text flags_in n lt

two_numbers-takes : (p : ℕ × ℕ) → wire.FitsTwo p → Takes two_numbers.show (wire.two_uint32 p)
unfolding two_numbers
two_numbers-takes p fits =
    after-takes number.show (word (codes ",") then number).show (wire.uint32 p.0) (wire.uint32 p.1) (number-takes p.0 fits.0)
    (word_then-takes (codes ",") number (wire.uint32 p.1) (number-takes p.1 fits.1))

-- ---- parts behind their number

ahead-takes : (c : Counted) (n : ℕ) (bytes : List ℕ) → n < 2 ^ 32 → Takes (c.show n) bytes
    → Takes (ahead c).show (wire.uint32 n ++ bytes)
ahead-takes c n bytes lt takes text rest =
    let show : ℕ × List ℕ → Option (List ℕ × List ℕ) = λ f. c.show f.0 text f.1 in
    let goes = takes text (bytes ++ rest) in
    let part = takes text rest in
    record {
      more = part.more;
      is =
          ap ((ahead c).show text) (append_assoc (wire.uint32 n) bytes rest)
          ∙ ap (option_and_then show) (front_uint32-spelled n (bytes ++ rest) lt) ∙ part.is;
    }

pub string_text-takes : (bytes : List ℕ) → wire.FitsString bytes → Takes string_text.show (wire.string bytes)
unfolding string_text
string_text-takes bytes fits = ahead-takes counted_text (length bytes) bytes fits.length_fits shows
  where
    shows : Takes (counted_text.show (length bytes)) bytes
    shows text rest =
        let n = length bytes in
        let enough : nat_le n (length (bytes ++ rest)) ≡ true = le-leb n _ (omega (arith, length-append bytes rest)) in
        record {
          more = text ++ quoted (take n (bytes ++ rest));
          is =
              cond-true (nat_le n (length (bytes ++ rest)))
              (Some (text ++ quoted (take n (bytes ++ rest)), drop n (bytes ++ rest))) None enough
              ∙ ap (λ l. Some (text ++ quoted (take n (bytes ++ rest)), l)) (drop_at bytes rest n refl);
        }

-- ---- lists

pub pair-takes : (p : List ℕ × List ℕ) → wire.FitsPair p → Takes pair.show (wire.pair p)
unfolding pair
pair-takes p fits =
    after-takes string_text.show (word (codes "=") then string_text).show (wire.string p.0) (wire.string p.1)
    (string_text-takes p.0 fits.0)
    (word_then-takes (codes "=") string_text (wire.string p.1) (string_text-takes p.1 fits.1))

each-takes : {A : Type 0} (item : Format) (separator : List ℕ) (spell : A → List ℕ) (P : A → Type 0)
    → ((x : A) → P x → Takes item.show (spell x)) → (xs : List A) → AllByRecursion P xs
    → Takes (show_each item separator (length xs)) (flat_map spell xs)
each-takes item separator spell P takes [] all = λ text rest. record { more = text; is = refl }
each-takes item separator spell P takes (x ∷ xs) all =
    after-takes (word separator then item).show (show_each item separator (length xs)) (spell x) (flat_map spell xs)
    (word_then-takes separator item (spell x) (takes x all.0))
    (each-takes item separator spell P takes xs all.1)

list-takes : {A : Type 0} (item : Format) (separator : List ℕ) (spell : A → List ℕ) (P : A → Type 0)
    → ((x : A) → P x → Takes item.show (spell x)) → (xs : List A) → AllByRecursion P xs
    → Takes (show_list item separator (length xs)) (flat_map spell xs)
list-takes item separator spell P takes [] all = λ text rest. record { more = text; is = refl }
list-takes item separator spell P takes (x ∷ xs) all =
    after-takes item.show (show_each item separator (length xs)) (spell x) (flat_map spell xs) (takes x all.0)
    (each-takes item separator spell P takes xs all.1)

counted_pairs-takes : (ps : List (List ℕ × List ℕ)) → wire.FitsCounted ps → Takes counted_pairs.show (wire.counted_pairs ps)
unfolding counted_pairs
counted_pairs-takes ps fits =
    ahead-takes (listed pair 34 (codes ",")) (length ps) (wire.pairs ps) fits.0
    (list-takes pair (codes ",") wire.pair wire.FitsPair pair-takes ps fits.1)

-- pairs up to the end, if the most steps are no fewer than the bytes
repeat-takes : (most : ℕ) (ps : List (List ℕ × List ℕ)) → wire.FitsPairs ps → length (wire.pairs ps) ≤ most
    → TakesAll (repeat (word (codes " ") then pair).show most) (wire.pairs ps)
repeat-takes zero [] fits enough text = record { more = text; is = refl }
repeat-takes (suc most) [] fits enough text = record { more = text; is = refl }
repeat-takes zero (p ∷ ps) fits enough text =
    absurd (omega (
      arith,
      enough,
      length-append (wire.pair p) (wire.pairs ps),
      length-append (wire.string p.0) (wire.string p.1),
      length-append (wire.uint32 (length p.0)) p.0,
      wide32.len (length p.0),
    ))
repeat-takes (suc most) (p ∷ ps) fits enough text =
    let step = (word (codes " ") then pair).show in
    let one =
    word_then-takes (codes " ") pair (wire.pair p) (pair-takes p fits.0) text (wire.pairs ps)
    in
    let small : length (wire.pairs ps) ≤ most =
    omega (
      arith,
      enough,
      length-append (wire.pair p) (wire.pairs ps),
      length-append (wire.string p.0) (wire.string p.1),
      length-append (wire.uint32 (length p.0)) p.0,
      wide32.len (length p.0),
    )
    in
    let others = repeat-takes most ps fits.1 small one.more in
    let next : List ℕ × List ℕ → Option (List ℕ × List ℕ) = λ m. repeat step most m.0 m.1 in
    record { more = others.more; is = ap (option_and_then next) one.is ∙ others.is }

pub pairs-all : (ps : List (List ℕ × List ℕ)) → wire.FitsPairs ps → TakesAll pairs.show (wire.pairs ps)
unfolding pairs
pairs-all ps fits text =
    let goes = repeat-takes (length (wire.pairs ps)) ps fits (omega arith) text in
    record { more = goes.more; is = goes.is }

-- ---- attributes

part-takes : {A : Type 0} (p : Part) (n : ℕ) (spell : A → List ℕ) (value : Option A) (P : A → Type 0)
    → is_some value ≡ has_flag n p.flag → IfSome value P → ((x : A) → P x → Takes p.format.show (spell x))
    → Takes (show_part p n) (wire.optional spell value)
part-takes p n spell None P says fits takes text rest = record {
  more = text;
  is =
      ap (λ (f : Step). f text rest)
      (cond-false (has_flag n p.flag) (word p.label then p.format).show stay (sym says));
}
part-takes p n spell (Some x) P says fits takes text rest =
    let goes = takes x fits (text ++ p.label) rest in
    record {
      more = goes.more;
      is =
          ap (λ (f : Step). f text (spell x ++ rest))
          (cond-true (has_flag n p.flag) (word p.label then p.format).show stay (sym says))
          ∙ goes.is;
    }

parts-takes : (a : WireAttrs) → wire.FitsAttrs a
    → Takes (show_parts attribute_parts (wire.attribute_flags a)) (wire.attribute_fields a ++ [])
unfolding attribute_parts
parts-takes a fits =
    let n = wire.attribute_flags a in
    let says = attribute_flags-say a in
    let s = wire.optional wire.uint64 a.size in
    let o = wire.optional wire.two_uint32 a.owner in
    let p = wire.optional wire.uint32 a.permissions in
    let t = wire.optional wire.two_uint32 a.times in
    let e = wire.optional wire.counted_pairs a.extended in
    subst (λ l. Takes (show_parts attribute_parts n) l) (regrouped a)
    (after-takes (show_part (part 0x00000001 (codes " size=") long) n) (show_parts (drop 1 attribute_parts) n) s (o ++ (p ++ (t ++ (e ++ []))))
    (part-takes (part 0x00000001 (codes " size=") long) n wire.uint64 a.size (λ v. v < 2 ^ 64) says.size fits.size long-takes)
    (after-takes (show_part (part 0x00000002 (codes " owner=") two_numbers) n) (show_parts (drop 2 attribute_parts) n) o (p ++ (t ++ (e ++ [])))
    (part-takes (part 0x00000002 (codes " owner=") two_numbers) n wire.two_uint32 a.owner wire.FitsTwo says.owner fits.owner two_numbers-takes)
    (after-takes (show_part (part 0x00000004 (codes " permissions=") octal) n) (show_parts (drop 3 attribute_parts) n) p (t ++ (e ++ []))
    (part-takes (part 0x00000004 (codes " permissions=") octal) n wire.uint32 a.permissions (λ v. v < 2 ^ 32) says.permissions fits.permissions octal-takes)
    (after-takes (show_part (part 0x00000008 (codes " times=") two_numbers) n) (show_parts (drop 4 attribute_parts) n) t (e ++ [])
    (part-takes (part 0x00000008 (codes " times=") two_numbers) n wire.two_uint32 a.times wire.FitsTwo says.times fits.times two_numbers-takes)
    (after-takes (show_part (part 0x80000000 (codes " extended=") counted_pairs) n) stay e []
    (part-takes (part 0x80000000 (codes " extended=") counted_pairs) n wire.counted_pairs a.extended wire.FitsCounted says.extended fits.extended counted_pairs-takes)
    (λ text rest. record { more = text; is = refl }))))))
  where
    regrouped : (a : WireAttrs)
        → wire.optional wire.uint64 a.size ++ (wire.optional wire.two_uint32 a.owner ++ (wire.optional wire.uint32 a.permissions
        ++ (wire.optional wire.two_uint32 a.times ++ (wire.optional wire.counted_pairs a.extended ++ []))))
        ≡ wire.attribute_fields a ++ []
    regrouped a =
        let s = wire.optional wire.uint64 a.size in
        let o = wire.optional wire.two_uint32 a.owner in
        let p = wire.optional wire.uint32 a.permissions in
        let t = wire.optional wire.two_uint32 a.times in
        let e = wire.optional wire.counted_pairs a.extended in
        ap (λ l. s ++ (o ++ (p ++ l))) (sym (append_assoc t e [])) ∙ ap (λ l. s ++ (o ++ l)) (sym (append_assoc p (t ++ e) []))
        ∙ ap (λ l. s ++ l) (sym (append_assoc o (p ++ (t ++ e)) [])) ∙ sym (append_assoc s (o ++ (p ++ (t ++ e))) [])

known_parts-takes : (a : WireAttrs) → wire.FitsAttrs a → Takes (known_parts.show (wire.attribute_flags a)) (wire.attribute_fields a)
known_parts-takes a fits text rest =
    let n = wire.attribute_flags a in
    let fields = wire.attribute_fields a in
    let goes = parts-takes a fits text rest in
    record {
      more = goes.more;
      is =
          ap (λ (f : Step). f text (fields ++ rest))
          (cond-true (are_known n) (show_parts attribute_parts n) (λ t b. None) (attribute_flags-known a))
          ∙ ap (λ l. show_parts attribute_parts n text (l ++ rest)) (sym (append-nil fields)) ∙ goes.is;
    }

flag-sum : (a : WireAttrs) → wire.attribute_flags a < 2 ^ 32
flag-sum a = omega (arith, flag-le 0x1 a.size, flag-le 0x2 a.owner, flag-le 0x4 a.permissions, flag-le 0x8 a.times, flag-le 0x80000000 a.extended)
  where
    flag-le : {A : Type 0} (bit : ℕ) (o : Option A) → wire.flag bit o ≤ bit
    flag-le bit None = omega arith
    flag-le bit (Some x) = omega arith

pub attributes-takes : (a : WireAttrs) → wire.FitsAttrs a → Takes attributes.show (wire.attributes a)
unfolding attributes
attributes-takes a fits = ahead-takes known_parts (wire.attribute_flags a) (wire.attribute_fields a) (flag-sum a) (known_parts-takes a fits)

-- ---- names

name_item-takes : (item : NameItem) → wire.FitsNameItem item → Takes name_item.show (wire.name_item item)
unfolding name_item
name_item-takes item fits =
    let last = word_then-takes (codes " ") (string_text then attributes) (wire.string item.longname ++ wire.attributes item.attrs)
    (after-takes string_text.show attributes.show (wire.string item.longname) (wire.attributes item.attrs)
    (string_text-takes item.longname fits.longname) (attributes-takes item.attrs fits.attrs))
    in
    word_then-takes (codes " ") (string_text then word (codes " ") then string_text then attributes) (wire.name_item item)
    (after-takes string_text.show (word (codes " ") then string_text then attributes).show (wire.string item.filename)
    (wire.string item.longname ++ wire.attributes item.attrs) (string_text-takes item.filename fits.filename) last)

pub names-takes : (ns : List NameItem) → wire.FitsNames ns → Takes names.show (wire.names ns)
unfolding names
names-takes ns fits =
    ahead-takes (listed name_item 32 (codes ";")) (length ns) (flat_map wire.name_item ns) fits.0
    (list-takes name_item (codes ";") wire.name_item wire.FitsNameItem name_item-takes ns fits.1)

-- ---- messages

two_texts-takes : (m l : List ℕ) → wire.FitsString m → wire.FitsString l → Takes two_texts.show (wire.string m ++ wire.string l)
two_texts-takes m l fits_m fits_l =
    word_then-takes (codes " ") (string_text then word (codes " ") then string_text) (wire.string m ++ wire.string l)
    (after-takes string_text.show (word (codes " ") then string_text).show (wire.string m) (wire.string l)
    (string_text-takes m fits_m) (word_then-takes (codes " ") string_text (wire.string l) (string_text-takes l fits_l)))

-- a string that begins with four zeros is empty
empty_string : (s x rest : List ℕ) → wire.FitsString s → wire.string s ++ x ≡ (0 ∷ 0 ∷ 0 ∷ 0 ∷ rest) → (s ≡ []) × (x ≡ rest)
empty_string [] x rest fits e = (refl, ap (drop 4) e)
empty_string (c ∷ s) x rest fits e =
    let number : from_be_bytes w32 (wire.uint32 (length (c ∷ s))) ≡ 0 = ap (λ (l : List ℕ). from_be_bytes w32 (take 4 l)) e in
    absurd (omega (arith, number, wide32.again (length (c ∷ s)) fits.length_fits))

-- where two strings begin as two empty ones, that is all
nothing_left : (m l rest : List ℕ) → wire.FitsString m → wire.FitsString l → wire.string m ++ wire.string l ≡ no_message ++ rest
    → [] ≡ rest
nothing_left m l rest fits_m fits_l e =
    let first = empty_string m (wire.string l) (0 ∷ 0 ∷ 0 ∷ 0 ∷ rest) fits_m e in
    let second = empty_string l [] rest fits_l (append-nil (wire.string l) ∙ first.1) in
    second.1

pub message-all : (m l : List ℕ) → wire.FitsString m → wire.FitsString l → TakesAll message.show (wire.string m ++ wire.string l)
unfolding message
message-all m l fits_m fits_l text = go (strip no_message (wire.string m ++ wire.string l)) refl
  where
    keep : List ℕ → Option (List ℕ × List ℕ)
    keep r = Some (text, r)

    go : (found : Option (List ℕ)) → strip no_message (wire.string m ++ wire.string l) ≡ found
        → Goes message.show text (wire.string m ++ wire.string l) []
    go (Some rest) is =
        let other = two_texts.show text (wire.string m ++ wire.string l) in
        let left : rest ≡ [] = sym (nothing_left m l rest fits_m fits_l (strip-some no_message (wire.string m ++ wire.string l) rest is)) in
        record { more = text; is = ap (λ o. if_found o keep other) is ∙ ap (λ r. Some (text, r)) left }
    go None is =
        let other = two_texts.show text (wire.string m ++ wire.string l) in
        let goes = all_from_front two_texts.show (wire.string m ++ wire.string l) (two_texts-takes m l fits_m fits_l) text in
        record { more = goes.more; is = ap (λ o. if_found o keep other) is ∙ goes.is }

pub rest-all : (bytes : List ℕ) → TakesAll (word (codes " ") then rest_text).show bytes
unfolding rest_text
rest-all bytes text = record { more = (text ++ codes " ") ++ quoted bytes; is = refl }
