-- The fields of packets are read back.
use Rattle.std.proofs.Common.{◌≡◌, ℕ, ◌+◌, ◌^◌, ◌<◌, Bool, true, false, ◌&&◌, List, [], ◌∷◌, ◌++◌}
use Rattle.std.proofs.Common.{Option, Some, None, refl, sym, ap, subst, ◌∙◌, append_assoc, arith, inl, inr, cond}
use Rattle.std.specs.Prelude.{IsTrue, IsFalse, option_and_then, ◌==◌, codes, decimal, is_some}
use Rattle.std.specs.List.{list_all, list_any}
use Rattle.std.proofs.lemmas.Bool.{cond-true, cond-false, cases_Bool, and_from, and_parts, eqb-true, eq-eqb, or_left, or_right, true≢false}
use Rattle.std.proofs.lemmas.List.{append-nil}
use Rattle.std.proofs.lemmas.Option.{option_and_then_some}
use Rattle.sftp_packets.specs.declared.attributes.Attrs.{Attrs as WireAttrs}
use Rattle.sftp_packets.specs.Spelling.{AreBytes, flag}
use Rattle.sftp_packets.specs.Reading.{has_flag, are_known}
use Rattle.sftp_packets.proofs.FieldLaws.{attribute_flags-are, SaysFields}
use Rattle.sftp_text.specs.Formats.{Format, ◌then◌, word, strip, stay, begins_with, if_found, listed}
use Rattle.sftp_text.specs.Digits.{number}
use Rattle.sftp_text.specs.Digits.{string_text}
use Rattle.sftp_text.specs.Fields.{two_numbers, pair, pairs, counted_pairs, Part, attribute_parts, show_part, read_part, show_parts, read_parts, and_flag}
use Rattle.sftp_text.specs.Fields.{known_parts, attributes}
use Rattle.sftp_text.specs.Lines.{is_printable}
use Rattle.sftp_text.proofs.Exact.{some-inj, none-some, AreBytes-behind, printable-append, strip-same, IsExact, IsExact-weaken, then-exact, word-exact, Behind, IsExactCounted, ahead-exact}
use Rattle.sftp_text.proofs.Numerals.{EndsWord, NumberFront, number-exact, long-exact, octal-exact}
use Rattle.sftp_text.proofs.Strings.{StartsQuoted, string_text-exact}
use Rattle.sftp_text.proofs.Repeats.{Separates, ListFront, listed-exact, IsEnd, EndFront, to_end-exact}

-- anything may follow
abbrev pub Anything : List ℕ → Type 0
Anything l = Unit {0}

-- a word, and behind it a format behind which B may stand
pub behind_word : (w : List ℕ) (f : Format) (A B : List ℕ → Type 0) → IsTrue (list_all is_printable w) → IsExact f A B
    → IsExact (word w then f) (Behind w A) B
behind_word w f A B printable p = then-exact (word w) f (Behind w A) A B (word-exact w A printable) p

-- what begins with a word that ends one
pub Behind-ends : (w : List ℕ) (A : List ℕ → Type 0) (l : List ℕ) → ((rest : List ℕ) → EndsWord (w ++ rest)) → Behind w A l → EndsWord l
Behind-ends w A l ends b = subst EndsWord (sym b.parts) (ends b.rest)

two_numbers-exact : (B : List ℕ → Type 0) → ((l : List ℕ) → B l → EndsWord l)
    → IsExact two_numbers Anything B
unfolding two_numbers
two_numbers-exact B ends =
    let second = number-exact B ends in
    let comma = behind_word (codes ",") number _ B refl second in
    let C = Behind (codes ",") (NumberFront decimal (2 ^ 32) B) in
    let first = number-exact C (λ l b. Behind-ends (codes ",") _ l (λ rest. refl) b) in
    IsExact-weaken _ _ Anything B B (λ l a. tt) (λ l b. b) (then-exact number (word (codes ",") then number) _ C B first comma)

pair-exact : (B : List ℕ → Type 0) → IsExact pair StartsQuoted B
unfolding pair
pair-exact B =
    let equals = behind_word (codes "=") string_text StartsQuoted B refl (string_text-exact B) in
    then-exact string_text (word (codes "=") then string_text) StartsQuoted (Behind (codes "=") StartsQuoted) B (string_text-exact _) equals

-- pairs up to the end begin with a space, if there are any
pub pairs-exact : IsExact pairs (EndFront (codes " ")) IsEnd
unfolding pairs
pairs-exact = to_end-exact pair (codes " ") Anything StartsQuoted (pair-exact Anything) refl (omega arith) (λ l. tt) tt

-- ---- what stands behind attributes

-- the end, or `;`
abbrev pub ends_fields : List ℕ → Bool
ends_fields [] = true
ends_fields (c ∷ rest) = c == 59

abbrev pub EndsFields : List ℕ → Type 0
EndsFields l = IsTrue (ends_fields l)

fields_end-word : (l : List ℕ) → EndsFields l → EndsWord l
fields_end-word [] e = refl
fields_end-word (c ∷ l) e = subst (λ b. EndsWord (b ∷ l)) (sym (eqb-true c 59 e)) refl

fields_end-quote : (l : List ℕ) → EndsFields l → IsFalse (begins_with 34 l)
fields_end-quote [] e = refl
fields_end-quote (c ∷ l) e = subst (λ b. IsFalse (begins_with 34 (b ∷ l))) (sym (eqb-true c 59 e)) refl

fields_end-comma : (l : List ℕ) → EndsFields l → strip (codes ",") l ≡ None
fields_end-comma [] e = refl
fields_end-comma (c ∷ l) e = subst (λ b. strip (codes ",") (b ∷ l) ≡ None) (sym (eqb-true c 59 e)) refl

-- ---- labels

-- whether a space and one of the initials of labels are in front
abbrev pub label_front : List ℕ → List ℕ → Bool
label_front initials [] = false
label_front initials (c ∷ []) = false
label_front initials (c ∷ d ∷ l) = c == 32 && list_any (λ i. i == d) initials

-- what may stand behind a part: a later label, or what stands behind all
pub data LabelFront (initials : List ℕ) (B : List ℕ → Type 0) (list : List ℕ) : Type 0 where
  labelled : IsTrue (label_front initials list) → LabelFront initials B list
  unlabelled : B list → LabelFront initials B list

label-ends : (initials l : List ℕ) → IsTrue (label_front initials l) → EndsWord l
label-ends initials [] e = refl
label-ends initials (c ∷ []) e = cc
label-ends initials (c ∷ d ∷ l) e =
    subst (λ b. EndsWord (b ∷ d ∷ l)) (sym (eqb-true c 32 (and_parts _ _ e).0)) refl

label-quote : (initials l : List ℕ) → IsTrue (label_front initials l) → IsFalse (begins_with 34 l)
label-quote initials [] e = refl
label-quote initials (c ∷ []) e = cc
label-quote initials (c ∷ d ∷ l) e =
    subst (λ b. IsFalse (begins_with 34 (b ∷ d ∷ l))) (sym (eqb-true c 32 (and_parts _ _ e).0)) refl

label-comma : (initials l : List ℕ) → IsTrue (label_front initials l) → strip (codes ",") l ≡ None
label-comma initials [] e = refl
label-comma initials (c ∷ []) e = cc
label-comma initials (c ∷ d ∷ l) e =
    subst (λ b. strip (codes ",") (b ∷ d ∷ l) ≡ None) (sym (eqb-true c 32 (and_parts _ _ e).0)) refl

-- a label is not in front of what ends the fields
absent-end : (i : ℕ) (label l : List ℕ) → EndsFields l → strip (32 ∷ i ∷ label) l ≡ None
absent-end i label [] e = refl
absent-end i label (c ∷ l) e = subst (λ b. strip (32 ∷ i ∷ label) (b ∷ l) ≡ None) (sym (eqb-true c 59 e)) refl

-- a label is not in front of another
absent-label : (i : ℕ) (label initials l : List ℕ) → list_any (λ j. j == i) initials ≡ false
    → IsTrue (label_front initials l) → strip (32 ∷ i ∷ label) l ≡ None
absent-label i label initials [] other e = refl
absent-label i label initials (c ∷ []) other e = cc
absent-label i label initials (c ∷ d ∷ l) other e =
    let parts = and_parts _ _ e in
    subst (λ b. strip (32 ∷ i ∷ label) (b ∷ d ∷ l) ≡ None) (sym (eqb-true c 32 parts.0))
    (cond-false (i == d) (strip label l) None (differ parts.1))
  where
    clash : list_any (λ j. j == i) initials ≡ true → ⊥
    clash some = true≢false (sym some ∙ other)

    differ : list_any (λ j. j == d) initials ≡ true → (i == d) ≡ false
    differ some =
        elim (cases_Bool (i == d)) [
          | inl same ↦
              absurd (clash (subst (λ x. list_any (λ j. j == x) initials ≡ true) (sym (eqb-true i d same)) some))
          | inr differs ↦ differs
        ]

-- ---- parts of attributes

-- a part: how its label begins, which no later one does, and its format
pub record IsPart (p : Part) (i : ℕ) (label initials : List ℕ) (B : List ℕ → Type 0) : Type 0 where
  pub label_is : p.label ≡ 32 ∷ i ∷ label
  pub printable : IsTrue (list_all is_printable p.label)
  pub format_exact : IsExact p.format Anything (LabelFront initials B)
  pub other : list_any (λ j. j == i) initials ≡ false

-- parts whose labels begin so
pub data AreParts (B : List ℕ → Type 0) : List Part → List ℕ → Type 0 where
  all_parts : AreParts B [] []
  one_part : (p : Part) (i : ℕ) (label : List ℕ) (parts : List Part) (initials : List ℕ) → IsPart p i label initials B
      → AreParts B parts initials → AreParts B (p ∷ parts) (i ∷ initials)

-- the flag of a part, if it is set
abbrev pub flag_in : ℕ → ℕ → ℕ
flag_in present flag = cond (has_flag present flag) flag 0

-- the sum of the flags that are set
abbrev pub flags_sum : List Part → ℕ → ℕ
flags_sum [] present = 0
flags_sum (p ∷ parts) present = flag_in present p.flag + flags_sum parts present

-- what parts showed, and how they are read with their flags
pub record PartsShown (parts : List Part) (initials : List ℕ) (B : List ℕ → Type 0) (sum : ℕ) (text bytes more left : List ℕ) : Type 0 where
  pub shown : List ℕ
  pub taken : List ℕ
  pub text_is : more ≡ text ++ shown
  pub bytes_are : bytes ≡ taken ++ left
  pub printable : IsTrue (list_all is_printable shown)
  pub back : (done rest : List ℕ) → B rest → read_parts parts done (shown ++ rest) ≡ Some (sum, (done ++ taken, rest))
  pub front : (rest : List ℕ) → B rest → LabelFront initials B (shown ++ rest)

more-initials : (i : ℕ) (initials : List ℕ) (B : List ℕ → Type 0) (l : List ℕ) → LabelFront initials B l
    → LabelFront (i ∷ initials) B l
more-initials i initials B l (unlabelled ok) = unlabelled ok
more-initials i initials B [] (labelled e) = cc
more-initials i initials B (c ∷ []) (labelled e) = cc
more-initials i initials B (c ∷ d ∷ l) (labelled e) =
    let parts = and_parts _ _ e in labelled (and_from _ _ parts.0 (or_right (i == d) _ parts.1))

label-in-front : (i : ℕ) (label initials : List ℕ) (B : List ℕ → Type 0) (rest : List ℕ)
    → LabelFront (i ∷ initials) B (32 ∷ i ∷ (label ++ rest))
label-in-front i label initials B rest = labelled (or_left (i == i) _ (eq-eqb i i refl))

abbrev Found : Type 0
Found = Option (ℕ × (List ℕ × List ℕ))

parts-exact : (B : List ℕ → Type 0) → ((l : List ℕ) → B l → EndsFields l) → (parts : List Part) (initials : List ℕ)
    → AreParts B parts initials → (present : ℕ) (text bytes more left : List ℕ) → AreBytes bytes
    → show_parts parts present text bytes ≡ Some (more, left)
    → PartsShown parts initials B (flags_sum parts present) text bytes more left
parts-exact B ends [] [] all_parts present text bytes more left are e =
    let both = some-inj (text, bytes) (more, left) e in
    record {
      shown = [];
      taken = [];
      text_is = sym (ap (λ m. m.0) both) ∙ sym (append-nil text);
      bytes_are = ap (λ m. m.1) both;
      printable = refl;
      back = λ done rest ok. ap (λ l. Some (0, (l, rest))) (sym (append-nil done));
      front = λ rest ok. unlabelled ok;
    }
parts-exact B ends [] (i ∷ initials) some present text bytes more left are e = elim some [ ]
parts-exact B ends (p ∷ parts) [] some present text bytes more left are e = elim some [ ]
parts-exact B ends (p ∷ parts) (i ∷ initials) (one_part _ _ label _ _ part are_parts) present text bytes more left are e =
    option_and_then_some (λ m. show_parts parts present m.0 m.1) (show_part p present text bytes) (more, left) e
    (λ mid one_is others_are.
    go mid one_is (λ fit. parts-exact B ends parts initials are_parts present mid.0 mid.1 more left fit others_are)
    (has_flag present p.flag) refl)
  where
    absent : (l : List ℕ) → LabelFront initials B l → strip p.label l ≡ None
    absent l (unlabelled ok) = ap (λ w. strip w l) part.label_is ∙ absent-end i label l (ends l ok)
    absent l (labelled front) = ap (λ w. strip w l) part.label_is ∙ absent-label i label initials l part.other front

    next : ℕ × (List ℕ × List ℕ) → Found
    next found = and_flag found.0 (read_parts parts found.1.0 found.1.1)

    add : ℕ → ℕ × (List ℕ × List ℕ) → Found
    add bit found = Some (bit + found.0, found.1)

    go : (mid : List ℕ × List ℕ) → show_part p present text bytes ≡ Some mid
        → (AreBytes mid.1 → PartsShown parts initials B (flags_sum parts present) mid.0 mid.1 more left) → (has : Bool) → has_flag present p.flag ≡ has
        → PartsShown (p ∷ parts) (i ∷ initials) B (flags_sum (p ∷ parts) present) text bytes more left
    go mid one_is others_are true has =
        let shows : (word p.label then p.format).show text bytes ≡ Some mid =
        sym (ap (λ f. f text bytes) (cond-true (has_flag present p.flag) (word p.label then p.format).show stay has)) ∙ one_is
        in
        let one = part.format_exact.exact (text ++ p.label) bytes mid.0 mid.1 are shows in
        let fit : AreBytes mid.1 = AreBytes-behind one.taken mid.1 (subst AreBytes one.bytes_are are) in
        let others = others_are fit in
        let flag_is : p.flag ≡ flag_in present p.flag = sym (cond-true (has_flag present p.flag) p.flag 0 has) in
        let grouped : (rest : List ℕ) → (p.label ++ (one.shown ++ others.shown)) ++ rest ≡ p.label ++ (one.shown ++ (others.shown ++ rest)) =
        λ rest. append_assoc p.label (one.shown ++ others.shown) rest
        ∙ ap (λ l. p.label ++ l) (append_assoc one.shown others.shown rest)
        in
        record {
          shown = p.label ++ (one.shown ++ others.shown);
          taken = one.taken ++ others.taken;
          text_is =
              others.text_is ∙ ap (λ l. l ++ others.shown) one.text_is
              ∙ append_assoc (text ++ p.label) one.shown others.shown
              ∙ append_assoc text p.label (one.shown ++ others.shown);
          bytes_are =
              one.bytes_are ∙ ap (λ l. one.taken ++ l) others.bytes_are ∙ sym (append_assoc one.taken others.taken left);
          printable =
              printable-append p.label _ part.printable
              (printable-append one.shown others.shown one.printable others.printable);
          back = λ done rest ok.
              let tail : List ℕ = one.shown ++ (others.shown ++ rest) in
              let with : List ℕ × List ℕ → Found = λ moved. Some (p.flag, moved) in
              let read : List ℕ → Found = λ r. option_and_then with (p.format.read done r) in
              let part_is : read_part p done (p.label ++ tail) ≡ Some (p.flag, (done ++ one.taken, others.shown ++ rest)) =
              ap (λ o. if_found o read (Some (0, (done, p.label ++ tail)))) (strip-same p.label tail)
              ∙ ap (option_and_then with) (one.back done (others.shown ++ rest) (others.front rest ok))
              in
              ap (read_parts (p ∷ parts) done) (grouped rest) ∙ ap (option_and_then next) part_is
              ∙ ap (option_and_then (add p.flag)) (others.back (done ++ one.taken) rest ok)
              ∙ ap (λ f. Some (f + flags_sum parts present, ((done ++ one.taken) ++ others.taken, rest))) flag_is
              ∙ ap (λ l. Some (flags_sum (p ∷ parts) present, (l, rest))) (append_assoc done one.taken others.taken);
          front = λ rest ok.
              subst (LabelFront (i ∷ initials) B)
              (ap (λ w. w ++ (one.shown ++ (others.shown ++ rest))) (sym part.label_is) ∙ sym (grouped rest))
              (label-in-front i label initials B (one.shown ++ (others.shown ++ rest)));
        }
    go mid one_is others_are false has =
        let stays : Some (text, bytes) ≡ Some mid =
        sym (ap (λ f. f text bytes) (cond-false (has_flag present p.flag) (word p.label then p.format).show stay has)) ∙ one_is
        in
        let same = some-inj (text, bytes) mid stays in
        let fit : AreBytes mid.1 = subst AreBytes (ap (λ m. m.1) same) are in
        let others = others_are fit in
        let flag_is : 0 ≡ flag_in present p.flag = sym (cond-false (has_flag present p.flag) p.flag 0 has) in
        record {
          shown = others.shown;
          taken = others.taken;
          text_is = others.text_is ∙ ap (λ m. m.0 ++ others.shown) (sym same);
          bytes_are = ap (λ m. m.1) same ∙ others.bytes_are;
          printable = others.printable;
          back = λ done rest ok.
              let with : List ℕ × List ℕ → Found = λ moved. Some (p.flag, moved) in
              let read : List ℕ → Found = λ r. option_and_then with (p.format.read done r) in
              let part_is : read_part p done (others.shown ++ rest) ≡ Some (0, (done, others.shown ++ rest)) =
              ap (λ o. if_found o read (Some (0, (done, others.shown ++ rest)))) (absent _ (others.front rest ok))
              in
              ap (option_and_then next) part_is ∙ ap (option_and_then (add 0)) (others.back done rest ok)
              ∙ ap (λ f. Some (f + flags_sum parts present, (done ++ others.taken, rest))) flag_is;
          front = λ rest ok. more-initials i initials B (others.shown ++ rest) (others.front rest ok);
        }

-- ---- attributes

-- the initials of the labels
abbrev pub attribute_initials : List ℕ
attribute_initials = codes "sopte"

front-ends : (B : List ℕ → Type 0) → ((l : List ℕ) → B l → EndsFields l) → (initials l : List ℕ)
    → LabelFront initials B l → EndsWord l
front-ends B ends initials l (labelled e) = label-ends initials l e
front-ends B ends initials l (unlabelled ok) = fields_end-word l (ends l ok)

front-quote : (B : List ℕ → Type 0) → ((l : List ℕ) → B l → EndsFields l) → (initials l : List ℕ)
    → LabelFront initials B l → IsFalse (begins_with 34 l)
front-quote B ends initials l (labelled e) = label-quote initials l e
front-quote B ends initials l (unlabelled ok) = fields_end-quote l (ends l ok)

front-comma : (B : List ℕ → Type 0) → ((l : List ℕ) → B l → EndsFields l) → (initials l : List ℕ)
    → LabelFront initials B l → strip (codes ",") l ≡ None
front-comma B ends initials l (labelled e) = label-comma initials l e
front-comma B ends initials l (unlabelled ok) = fields_end-comma l (ends l ok)

counted_pairs-exact : (B : List ℕ → Type 0) → ((l : List ℕ) → B l → IsFalse (begins_with 34 l))
    → ((l : List ℕ) → B l → strip (codes ",") l ≡ None) → IsExact counted_pairs Anything B
unfolding counted_pairs
counted_pairs-exact B no_quote no_comma =
    let separates : Separates pair 34 (codes ",") Anything B =
    record {
      item_exact = pair-exact Anything;
      printable = refl;
      nonempty = omega arith;
      after_item = λ l. tt;
      after_last = λ l ok. tt;
      no_separator = no_comma;
      no_item = no_quote;
    }
    in
    IsExact-weaken _ _ Anything B B (λ l a. tt) (λ l b. b)
    (ahead-exact (listed pair 34 (codes ",")) (ListFront 34 B) B (listed-exact pair 34 (codes ",") Anything B separates))

attribute_parts-are : (B : List ℕ → Type 0) → ((l : List ℕ) → B l → EndsFields l)
    → AreParts B attribute_parts attribute_initials
unfolding attribute_parts
attribute_parts-are B ends =
    let behind : List ℕ → List ℕ → Type 0 = λ initials l. LabelFront initials B l in
    let word_ends : (initials l : List ℕ) → LabelFront initials B l → EndsWord l = front-ends B ends in
    let any : (f : Format) (A C : List ℕ → Type 0) → IsExact f A C → IsExact f Anything C =
    λ f A C p. IsExact-weaken f A Anything C C (λ l a. tt) (λ l b. b) p
    in
    one_part _ 115 (codes "ize=") _ _ (record {
      label_is = refl;
      printable = refl;
      format_exact = any _ _ _ (long-exact (behind (codes "opte")) (word_ends (codes "opte")));
      other = refl;
    }) (one_part _ 111 (codes "wner=") _ _ (record {
      label_is = refl;
      printable = refl;
      format_exact = two_numbers-exact (behind (codes "pte")) (word_ends (codes "pte"));
      other = refl;
    }) (one_part _ 112 (codes "ermissions=") _ _ (record {
      label_is = refl;
      printable = refl;
      format_exact = any _ _ _ (octal-exact (behind (codes "te")) (word_ends (codes "te")));
      other = refl;
    }) (one_part _ 116 (codes "imes=") _ _ (record {
      label_is = refl;
      printable = refl;
      format_exact = two_numbers-exact (behind (codes "e")) (word_ends (codes "e"));
      other = refl;
    }) (one_part _ 101 (codes "xtended=") _ _ (record {
      label_is = refl;
      printable = refl;
      format_exact = counted_pairs-exact (behind []) (front-quote B ends []) (front-comma B ends []);
      other = refl;
    }) all_parts))))

-- ---- the flags of attributes are the sum of those that are set

-- some value where a flag is set
abbrev where_set : {A : Type 0} → Bool → A → Option A
where_set set value = cond set (Some value) None

is_some-where_set : {A : Type 0} (set : Bool) (value : A) → is_some (where_set set value) ≡ set
is_some-where_set true value = refl
is_some-where_set false value = refl

flag-where_set : {A : Type 0} (bit : ℕ) (set : Bool) (value : A) → flag bit (where_set set value) ≡ cond set bit 0
flag-where_set bit true value = refl
flag-where_set bit false value = refl

sum-is : (n : ℕ) → n < 2 ^ 32 → are_known n ≡ true → flags_sum attribute_parts n ≡ n
unfolding attribute_parts
sum-is n lt known =
    let a : WireAttrs =
    record {
      size = where_set (has_flag n 0x00000001) 0;
      owner = where_set (has_flag n 0x00000002) (0, 0);
      permissions = where_set (has_flag n 0x00000004) 0;
      times = where_set (has_flag n 0x00000008) (0, 0);
      extended = where_set (has_flag n 0x80000000) [];
    }
    in
    let says : SaysFields n a =
    record {
      size = is_some-where_set (has_flag n 0x00000001) 0;
      owner = is_some-where_set (has_flag n 0x00000002) (0, 0);
      permissions = is_some-where_set (has_flag n 0x00000004) 0;
      times = is_some-where_set (has_flag n 0x00000008) (0, 0);
      extended = is_some-where_set (has_flag n 0x80000000) [];
    }
    in
    omega (
      arith,
      attribute_flags-are n a lt known says,
      flag-where_set {A = ℕ} 0x00000001 (has_flag n 0x00000001) 0,
      flag-where_set {A = ℕ × ℕ} 0x00000002 (has_flag n 0x00000002) (0, 0),
      flag-where_set {A = ℕ} 0x00000004 (has_flag n 0x00000004) 0,
      flag-where_set {A = ℕ × ℕ} 0x00000008 (has_flag n 0x00000008) (0, 0),
      flag-where_set {A = List (List ℕ × List ℕ)} 0x80000000 (has_flag n 0x80000000) [],
    )

known_parts-exact : (B : List ℕ → Type 0) → ((l : List ℕ) → B l → EndsFields l)
    → IsExactCounted known_parts (LabelFront attribute_initials B) B
known_parts-exact B ends = record {
  exact = λ n text bytes more left lt are e.
      elim (cases_Bool (are_known n)) [
        | inl known ↦
            let shows : show_parts attribute_parts n text bytes ≡ Some (more, left) =
            sym (ap (λ f. f text bytes) (cond-true (are_known n) (show_parts attribute_parts n) (λ t b. None) known)) ∙ e
            in
            let s = parts-exact B ends attribute_parts attribute_initials (attribute_parts-are B ends) n text bytes more left are shows in
            record {
              shown = s.shown;
              taken = s.taken;
              text_is = s.text_is;
              bytes_are = s.bytes_are;
              printable = s.printable;
              back = λ rest ok. s.back [] rest ok ∙ ap (λ k. Some (k, (s.taken, rest))) (sum-is n lt known);
              front = s.front;
            }
        | inr unknown ↦
            none-some (more, left)
            (sym (ap (λ f. f text bytes) (cond-false (are_known n) (show_parts attribute_parts n) (λ t b. None) unknown)) ∙ e)
      ];
}

pub attributes-exact : (B : List ℕ → Type 0) → ((l : List ℕ) → B l → EndsFields l)
    → IsExact attributes (LabelFront attribute_initials B) B
unfolding attributes
attributes-exact B ends = ahead-exact known_parts (LabelFront attribute_initials B) B (known_parts-exact B ends)
