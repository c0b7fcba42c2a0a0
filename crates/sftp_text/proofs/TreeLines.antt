-- The lines of a tree file are read as the bytes that they show.
use Rattle.std.proofs.Common.{◌≡◌, ℕ, Bool, true, false, ◌&&◌, List, [], ◌∷◌, ◌++◌, Option, Some, refl, sym, ap}
use Rattle.std.proofs.Common.{subst, ◌∙◌, inl, inr, zero, suc, ◌≤◌, length, take, drop, None, append_assoc, arith}
use Rattle.std.specs.Prelude.{IsTrue, option_and_then, ◌==◌, codes, flat_map}
use Rattle.std.specs.List.{list_all, AllByRecursion}
use Rattle.std.proofs.lemmas.Bool.{cond-true, cond-false, cases_Bool, eqb-true, and_parts}
use Rattle.std.proofs.lemmas.List.{append-nil, length-drop, take-append-drop}
use Rattle.std.proofs.lemmas.Option.{option_and_then_some}
use Rattle.sftp_packets.specs.Spelling.{AreBytes}
use Rattle.sftp_text.specs.Formats.{Format, after, ◌then◌, word, mark, ReadsBack, strip, repeat, repeat_to_end}
use Rattle.sftp_text.specs.Digits.{number, octal}
use Rattle.sftp_text.specs.Digits.{string_text, long_string_text}
use Rattle.sftp_text.specs.declared.trees.entries.Letter.{Letter}
use Rattle.sftp_text.specs.Trees.{owner_text, timed_owner, root_line, letter_of_root, word_of_root, is_timed_root}
use Rattle.sftp_text.specs.Trees.{root_with, lettered_root, root_text, letter_of, content_text, with_content, owned_text, other_text}
use Rattle.sftp_text.specs.Trees.{head_text, kind_text, entry_of, first_of, kind_behind, show_kind, begins_wide}
use Rattle.sftp_text.specs.Trees.{read_kind, entry_text, entry_line, first_lines, show_tree, bytes_and, entries_read}
use Rattle.sftp_text.specs.Trees.{head_is_wide, root_and_lines, tree_of_lines, tree_read}
use Rattle.sftp_text.specs.Lines.{is_printable, is_blank, whole, side_letter, side_of_letter, text_of, text_read}
use Rattle.sftp_text.specs.Lines.{transcript_opening, transcript_of, record_length, records_up_to, records_of}
use Rattle.sftp_text.specs.Lines.{with_said, said_lines}
use Rattle.sftp_text.proofs.Exact.{some-inj, none-some, IsExact, IsExact-weaken, Shown, then-exact, mark-exact, Behind}
use Rattle.sftp_text.proofs.Exact.{AreBytes-front, AreBytes-behind, strip-some}
use Rattle.sftp_text.proofs.Numerals.{octal-exact}
use Rattle.sftp_text.proofs.Strings.{StartsQuoted, string_text-exact, long_string_text-exact}
use Rattle.sftp_text.proofs.Repeats.{IsEnd}
use Rattle.sftp_text.proofs.Parts.{behind_word}
use Rattle.sftp_text.proofs.Bodies.{SpaceFront, space-behind, space-ends}
use Rattle.sftp_packets.specs.declared.packets.Side.{Side}
use Rattle.sftp_packets.specs.declared.packets.Side.TheVariants.{Client, Server}
use Rattle.sftp_text.proofs.Heads.{IsSaid, end-space, spaced_number, spaced_then, head-shown}
use Rattle.sftp_text.proofs.Written.{text_read-text_of}

-- what is known of the line that a format shows of what is in front of bytes
pub record LineShown (f : Format) (bytes line left : List ℕ) : Type 0 where
  pub taken : List ℕ
  pub parts : bytes ≡ taken ++ left
  pub back : f.read [] line ≡ Some (taken, [])
  pub printable : IsTrue (list_all is_printable line)
  pub said : is_blank line ≡ false

-- a line that a format appends to a text
pub record LineOnto (f : Format) (bytes text more left : List ℕ) : Type 0 where
  pub line : List ℕ
  pub text_is : more ≡ text ++ line
  pub line_is : LineShown f bytes line left

-- what a format shows is a line that says something, and is read back
pub record LinesExact (f : Format) : Type 0 where
  pub onto : (text bytes more left : List ℕ) → AreBytes bytes → f.show text bytes ≡ Some (more, left)
      → LineOnto f bytes text more left

-- the line of what a format showed takes the same bytes
record LineOf (f : Format) (text bytes more left : List ℕ) (s : Shown f IsSaid IsEnd text bytes more left) : Type 0 where
  onto : LineOnto f bytes text more left
  takes : onto.line_is.taken ≡ s.taken

line_of : (f : Format) (text bytes more left : List ℕ) (s : Shown f IsSaid IsEnd text bytes more left)
    → LineOf f text bytes more left s
line_of f text bytes more left s =
    let alone : s.shown ≡ s.shown ++ [] = sym (append-nil s.shown) in
    record {
      onto = record {
        line = s.shown;
        text_is = s.text_is;
        line_is = record {
          taken = s.taken;
          parts = s.bytes_are;
          back = ap (f.read []) alone ∙ s.back [] [] refl;
          printable = s.printable;
          said = ap is_blank alone ∙ s.front [] refl;
        };
      };
      takes = refl;
    }

lines_exact : (f : Format) → IsExact f IsSaid IsEnd → LinesExact f
lines_exact f p = record {
  onto = λ text bytes more left are e. (line_of f text bytes more left (p.exact text bytes more left are e)).onto;
}

owner_text-exact : (B : List ℕ → Type 0) → ((l : List ℕ) → B l → SpaceFront l) → IsExact owner_text SpaceFront B
unfolding owner_text
owner_text-exact B space =
    let last =
    IsExact-weaken (word (codes " ") then octal) _ SpaceFront B B (space-behind _ []) (λ l b. b)
    (behind_word (codes " ") octal _ B refl (octal-exact B (λ l b. space-ends l (space l b))))
    in
    spaced_then [] (word (codes " ") then number then word (codes " ") then octal) B refl
    (spaced_then [] (word (codes " ") then octal) B refl last)

-- an owner, and the times behind it
timed_owner-exact : (has_times : Bool) (B : List ℕ → Type 0) → ((l : List ℕ) → B l → SpaceFront l)
    → IsExact (timed_owner has_times) SpaceFront B
timed_owner-exact false B space = owner_text-exact B space
timed_owner-exact true B space =
    then-exact owner_text (word (codes " ") then number then word (codes " ") then number) SpaceFront SpaceFront B
    (owner_text-exact SpaceFront (λ l s. s))
    (spaced_then [] (word (codes " ") then number) B refl (spaced_number [] B space refl))

-- the letter of a root is first in its line, and tells whether there are times
root_begins : (has_times : Bool) (l : List ℕ) → Behind (word_of_root has_times) SpaceFront l
    → IsSaid l × (is_timed_root l ≡ has_times)
root_begins false l b = (ap is_blank b.parts, ap is_timed_root b.parts)
root_begins true l b = (ap is_blank b.parts, ap is_timed_root b.parts)

root_printable : (has_times : Bool) → IsTrue (list_all is_printable (word_of_root has_times))
root_printable false = refl
root_printable true = refl

root_line-exact : (has_times : Bool) → IsExact (root_line has_times) (Behind (word_of_root has_times) SpaceFront) IsEnd
root_line-exact has_times =
    behind_word (word_of_root has_times) (timed_owner has_times) SpaceFront IsEnd (root_printable has_times)
    (timed_owner-exact has_times IsEnd end-space)

root_with-exact : (has_times : Bool) → IsExact (root_with has_times) (λ l. IsSaid l × (is_timed_root l ≡ has_times)) IsEnd
root_with-exact has_times =
    let w : List ℕ = word_of_root has_times in
    IsExact-weaken (root_with has_times) (Behind w SpaceFront) _ IsEnd IsEnd (root_begins has_times) (λ l e. e)
    (then-exact (mark (letter_of_root has_times ∷ [])) (root_line has_times) (Behind w SpaceFront) (Behind w SpaceFront) IsEnd
    (mark-exact (letter_of_root has_times ∷ []) (Behind w SpaceFront)) (root_line-exact has_times))

lettered_root-exact : IsExact lettered_root IsSaid IsEnd
lettered_root-exact = record {
  exact = λ text bytes more left are e.
      let s = (root_with-exact (is_timed_root bytes)).exact text bytes more left are e in
      record {
        shown = s.shown;
        taken = s.taken;
        text_is = s.text_is;
        bytes_are = s.bytes_are;
        printable = s.printable;
        back = λ done rest ok.
            ap (λ has_times. (root_with has_times).read done (s.shown ++ rest)) (s.front rest ok).1 ∙ s.back done rest ok;
        front = λ rest ok. (s.front rest ok).0;
      };
}

root_text-exact : (wide : Bool) → IsExact (root_text wide) IsSaid IsEnd
unfolding root_text
root_text-exact false =
    IsExact-weaken (root_line false) (Behind (word_of_root false) SpaceFront) IsSaid IsEnd IsEnd
    (λ l b. (root_begins false l b).0) (λ l e. e) (root_line-exact false)
root_text-exact true = lettered_root-exact

-- ---- entries

-- a letter that is printable, and after which a line is not blank
abbrev IsLetter : ℕ → Type 0
IsLetter kind = IsTrue (is_printable kind) × ((line : List ℕ) → is_blank (kind ∷ line) ≡ false)

-- a kind of entry: its letter is printable, and its fields are read back
record IsKind (kind : ℕ) (fields : Format) : Type 0 where
  pub letter : IsLetter kind
  pub fields_exact : IsExact fields SpaceFront IsEnd

spaced_string : IsExact (word (codes " ") then string_text) SpaceFront IsEnd
spaced_string =
    IsExact-weaken (word (codes " ") then string_text) _ SpaceFront IsEnd IsEnd (space-behind StartsQuoted []) (λ l e. e)
    (behind_word (codes " ") string_text StartsQuoted IsEnd refl (string_text-exact IsEnd))

spaced_content : (is_long : Bool) → IsExact (word (codes " ") then content_text is_long) SpaceFront IsEnd
spaced_content false = spaced_string
spaced_content true =
    IsExact-weaken (word (codes " ") then long_string_text) _ SpaceFront IsEnd IsEnd (space-behind StartsQuoted []) (λ l e. e)
    (behind_word (codes " ") long_string_text StartsQuoted IsEnd refl (long_string_text-exact IsEnd))

with_content-exact : (is_file is_long has_times : Bool)
    → IsExact (with_content is_file is_long (timed_owner has_times)) SpaceFront IsEnd
with_content-exact false is_long has_times = timed_owner-exact has_times IsEnd end-space
with_content-exact true is_long has_times =
    then-exact (timed_owner has_times) (word (codes " ") then content_text is_long) SpaceFront SpaceFront IsEnd
    (timed_owner-exact has_times SpaceFront (λ l s. s)) (spaced_content is_long)

IsLetter-from : (b kind : ℕ) → (kind == b) ≡ true → IsLetter b → IsLetter kind
IsLetter-from b kind same is = subst IsLetter (sym (eqb-true kind b same)) is

IsKind-from : (kind : ℕ) (fields found : Format) → IsLetter kind → IsExact fields SpaceFront IsEnd
    → Some fields ≡ Some found → IsKind kind found
IsKind-from kind fields found letter p e = record {
  letter = letter;
  fields_exact = subst (λ f. IsExact f SpaceFront IsEnd) (some-inj fields found e) p;
}

-- only six letters say what follows
letter_of-some : (wide : Bool) (kind : ℕ) (letter : Letter) → letter_of wide kind ≡ Some letter → IsLetter kind
unfolding letter_of
letter_of-some wide kind letter e =
    elim (cases_Bool (kind == 68)) [
      | inl same ↦ IsLetter-from 68 kind same (refl, λ line. refl)
      | inr not_68 ↦ elim (cases_Bool (kind == 70)) [
        | inl same ↦ IsLetter-from 70 kind same (refl, λ line. refl)
        | inr not_70 ↦ elim (cases_Bool (kind == 100)) [
          | inl same ↦ IsLetter-from 100 kind same (refl, λ line. refl)
          | inr not_100 ↦ elim (cases_Bool (kind == 102)) [
            | inl same ↦ IsLetter-from 102 kind same (refl, λ line. refl)
            | inr not_102 ↦ elim (cases_Bool (kind == 71)) [
              | inl same ↦ IsLetter-from 71 kind same (refl, λ line. refl)
              | inr not_71 ↦ elim (cases_Bool (kind == 103)) [
                | inl same ↦ IsLetter-from 103 kind same (refl, λ line. refl)
                | inr not_103 ↦
                    none-some letter
                    (sym (cond-false (kind == 103) _ _ not_103) ∙ sym (cond-false (kind == 71) _ _ not_71)
                    ∙ sym (cond-false (kind == 102) _ _ not_102) ∙ sym (cond-false (kind == 100) _ _ not_100)
                    ∙ sym (cond-false (kind == 70) _ _ not_70) ∙ sym (cond-false (kind == 68) _ _ not_68) ∙ e)
              ]
            ]
          ]
        ]
      ]
    ]

other_text-some : (kind : ℕ) (found : Option Letter) (fields : Format) → ((letter : Letter) → found ≡ Some letter → IsLetter kind)
    → other_text kind found ≡ Some fields → IsKind kind fields
other_text-some kind (Some letter) fields letters e =
    IsKind-from kind (owned_text letter) fields (letters letter refl)
    (with_content-exact letter.is_file letter.is_long letter.has_times) e
other_text-some kind None fields letters e =
    elim (cases_Bool (kind == 72)) [
      | inl h ↦
          IsKind-from kind _ fields (IsLetter-from 72 kind h (refl, λ line. refl)) (spaced_number [] IsEnd end-space refl)
          (sym (cond-true (kind == 72) _ _ h) ∙ e)
      | inr no_h ↦
          let e1 = sym (cond-false (kind == 72) _ _ no_h) ∙ e in
          elim (cases_Bool (kind == 76)) [
            | inl l ↦
                IsKind-from kind _ fields (IsLetter-from 76 kind l (refl, λ line. refl)) spaced_string
                (sym (cond-true (kind == 76) _ _ l) ∙ e1)
            | inr no_l ↦ none-some fields (sym (cond-false (kind == 76) _ _ no_l) ∙ e1)
          ]
    ]

kind_text-some : (wide : Bool) (kind : ℕ) (fields : Format) → kind_text wide kind ≡ Some fields → IsKind kind fields
unfolding kind_text
kind_text-some wide kind fields e = other_text-some kind (letter_of wide kind) fields (letter_of-some wide kind) e

entry_of-exact : (kind : ℕ) (fields : Format) → IsKind kind fields
    → IsExact (entry_of kind fields) (λ l. first_of l ≡ Some kind) IsEnd
entry_of-exact kind fields is =
    let marked = then-exact (mark (kind ∷ [])) fields SpaceFront SpaceFront IsEnd (mark-exact (kind ∷ []) SpaceFront) is.fields_exact in
    let path = then-exact string_text (mark (kind ∷ []) then fields) StartsQuoted SpaceFront IsEnd (string_text-exact SpaceFront) marked in
    IsExact-weaken (entry_of kind fields) (Behind (kind ∷ codes " ") StartsQuoted) (λ l. first_of l ≡ Some kind) IsEnd IsEnd
    (λ l b. ap first_of b.parts) (λ l e. e)
    (behind_word (kind ∷ codes " ") (string_text then mark (kind ∷ []) then fields) StartsQuoted IsEnd (letter_printable is.letter.0) path)
  where
    letter_printable : IsTrue (is_printable kind) → IsTrue (list_all is_printable (kind ∷ codes " "))
    letter_printable ok = ap (λ b. b && list_all is_printable (codes " ")) ok

-- ---- the lines of a tree file

-- what a head showed, as a line, and that its bytes have the opening of all
record HeadLine (bytes text more left : List ℕ) : Type 0 where
  onto : LineOnto head_text bytes text more left
  opens : begins_wide onto.line_is.taken ≡ begins_wide bytes

head-line : (text bytes more left : List ℕ) → AreBytes bytes → head_text.show text bytes ≡ Some (more, left)
    → HeadLine bytes text more left
head-line text bytes more left are e =
    let s = head-shown text bytes more left are e in
    let l = line_of head_text text bytes more left s.shown in
    record { onto = l.onto; opens = ap begins_wide l.takes ∙ s.opens }

pub head-lines : LinesExact head_text
head-lines = record { onto = λ text bytes more left are e. (head-line text bytes more left are e).onto }

pub root-lines : (wide : Bool) → LinesExact (root_text wide)
root-lines wide = lines_exact (root_text wide) (root_text-exact wide)

-- the letter of a kind is first in a line that says something
said-kind : (kind : ℕ) (fields : Format) (l : List ℕ) → IsKind kind fields → first_of l ≡ Some kind → is_blank l ≡ false
said-kind kind fields [] is e = none-some kind e
said-kind kind fields (c ∷ l) is e =
    ap (λ b. is_blank (b ∷ l)) (some-inj c kind e) ∙ is.letter.1 l

pub entry-lines : (wide : Bool) → LinesExact (entry_text wide)
unfolding entry_text
entry-lines wide = record {
  onto = λ text bytes more left are e.
      option_and_then_some (show_kind wide text bytes) (kind_behind bytes) (more, left) e (λ kind kind_is here.
      option_and_then_some (λ fields. (entry_of kind fields).show text bytes) (kind_text wide kind) (more, left) here
      (λ fields fields_are shows.
      let is = kind_text-some wide kind fields fields_are in
      let s = (entry_of-exact kind fields is).exact text bytes more left are shows in
      let alone : s.shown ≡ s.shown ++ [] = sym (append-nil s.shown) in
      let read_fields : Format → Option (List ℕ × List ℕ) = λ f. (entry_of kind f).read [] (s.shown ++ []) in
      record {
        line = s.shown;
        text_is = s.text_is;
        line_is = record {
          taken = s.taken;
          parts = s.bytes_are;
          back =
              ap ((entry_text wide).read []) alone
              ∙ ap (option_and_then (read_kind wide [] (s.shown ++ []))) (s.front [] refl)
              ∙ ap (option_and_then read_fields) fields_are ∙ s.back [] [] refl;
          printable = s.printable;
          said = ap is_blank alone ∙ said-kind kind fields (s.shown ++ []) is (s.front [] refl);
        };
      }));
}

-- ---- what is published

back-from : (f : Format) → LinesExact f → (bytes line left : List ℕ) → AreBytes bytes → f.show [] bytes ≡ Some (line, left)
    → ReadsBack f bytes line left
back-from f p bytes line left are e =
    let s = p.onto [] bytes line left are e in
    record { taken = s.line_is.taken; parts = s.line_is.parts; back = ap (f.read []) s.text_is ∙ s.line_is.back }

pub heads_back : (bytes line left : List ℕ) → AreBytes bytes → head_text.show [] bytes ≡ Some (line, left)
    → ReadsBack head_text bytes line left
heads_back = back-from head_text head-lines

pub roots_back : (wide : Bool) (bytes line left : List ℕ) → AreBytes bytes
    → (root_text wide).show [] bytes ≡ Some (line, left) → ReadsBack (root_text wide) bytes line left
roots_back wide = back-from (root_text wide) (root-lines wide)

pub entries_back : (wide : Bool) (bytes line left : List ℕ) → AreBytes bytes
    → (entry_text wide).show [] bytes ≡ Some (line, left) → ReadsBack (entry_text wide) bytes line left
entries_back wide = back-from (entry_text wide) (entry-lines wide)

-- ==== Whole files: what the text of a transcript or of a tree file is read as.

-- ---- transcripts

letter-of_side : (c : ℕ) (side : Side) → side_of_letter c ≡ Some side → side_letter side ≡ c
letter-of_side c side e =
    elim (cases_Bool (c == 67)) [
      | inl client ↦
          let same = some-inj Client side (sym (cond-true (c == 67) (Some Client) _ client) ∙ e) in
          ap side_letter (sym same) ∙ sym (eqb-true c 67 client)
      | inr other ↦
          let next = sym (cond-false (c == 67) (Some Client) _ other) ∙ e in
          elim (cases_Bool (c == 83)) [
            | inl server ↦
                let same = some-inj Server side (sym (cond-true (c == 83) (Some Server) None server) ∙ next) in
                ap side_letter (sym same) ∙ sym (eqb-true c 83 server)
            | inr neither ↦ none-some side (sym (cond-false (c == 83) (Some Server) None neither) ∙ next)
          ]
    ]

-- a record as its letter and its bytes
abbrev letter_and_bytes : Side × List ℕ → List ℕ
letter_and_bytes r = side_letter r.0 ∷ r.1

-- the records that bytes are cut into
record AreRecords (bytes : List ℕ) (records : List (Side × List ℕ)) : Type 0 where
  pub joined : flat_map letter_and_bytes records ≡ bytes
  pub fit : AllByRecursion (λ r. AreBytes r.1) records

no_records : (records : List (Side × List ℕ)) → Some [] ≡ Some records → AreRecords [] records
no_records records e = subst (AreRecords []) (some-inj [] records e) (record { joined = refl; fit = tt })

records_up_to-some : (most : ℕ) (bytes : List ℕ) (records : List (Side × List ℕ)) → length bytes ≤ most → AreBytes bytes
    → records_up_to most bytes ≡ Some records → AreRecords bytes records
records_up_to-some zero [] records enough are e = no_records records e
records_up_to-some zero (c ∷ bytes) records enough are e = absurd (omega (arith, enough))
records_up_to-some (suc most) [] records enough are e = no_records records e
records_up_to-some (suc most) (c ∷ bytes) records enough are e =
    let n = record_length bytes in
    let add : Side → List (Side × List ℕ) → Option (List (Side × List ℕ)) = λ s others. Some ((s, take n bytes) ∷ others) in
    let next : Side → Option (List (Side × List ℕ)) = λ s. option_and_then (add s) (records_up_to most (drop n bytes)) in
    option_and_then_some next (side_of_letter c) records e (λ side side_is here.
    option_and_then_some (add side) (records_up_to most (drop n bytes)) records here (λ others others_are same.
    let parts : take n bytes ++ drop n bytes ≡ bytes = take-append-drop n bytes in
    let fit : AreBytes (take n bytes ++ drop n bytes) = subst AreBytes (sym parts) are.1 in
    let small : length (drop n bytes) ≤ most = omega (arith, enough, length-drop n bytes) in
    let rest =
    records_up_to-some most (drop n bytes) others small (AreBytes-behind (take n bytes) (drop n bytes) fit) others_are
    in
    let all : AreRecords (c ∷ bytes) ((side, take n bytes) ∷ others) =
    record {
      joined =
          ap (λ l. side_letter side ∷ (take n bytes ++ l)) rest.joined ∙ ap (λ l. side_letter side ∷ l) parts
          ∙ ap (λ b. b ∷ bytes) (letter-of_side c side side_is);
      fit = (AreBytes-front (take n bytes) (drop n bytes) fit, rest.fit);
    }
    in
    subst (AreRecords (c ∷ bytes)) (some-inj ((side, take n bytes) ∷ others) records same) all))

pub transcript-back : (bytes : List ℕ) (records : List (Side × List ℕ)) → AreBytes bytes → records_of bytes ≡ Some records
    → (text_read (text_of records) ≡ Some records) × (transcript_of records ≡ bytes)
unfolding records_of
transcript-back bytes records are e =
    option_and_then_some (λ rest. records_up_to (length rest) rest) (strip transcript_opening bytes) records e
    (λ rest rest_is here.
    let parts = strip-some transcript_opening bytes rest rest_is in
    let fit : AreBytes rest = AreBytes-behind transcript_opening rest (subst AreBytes parts are) in
    let cut = records_up_to-some (length rest) rest records (omega arith) fit here in
    (text_read-text_of records cut.fit, ap (λ l. transcript_opening ++ l) cut.joined ∙ sym parts))

-- ---- tree files

-- a line that says something, in front of others
said_lines-line : (done line text : List ℕ) → IsTrue (list_all is_printable line)
    → said_lines done (line ++ (10 ∷ text)) ≡ with_said (done ++ line) (said_lines [] text)
said_lines-line done [] text printable = ap (λ l. with_said l (said_lines [] text)) (sym (append-nil done))
said_lines-line done (c ∷ line) text printable =
    let parts = and_parts _ _ printable in
    cond-false (c == 10) (with_said done (said_lines [] (line ++ (10 ∷ text))))
    (said_lines (done ++ c ∷ []) (line ++ (10 ∷ text))) (other parts.0)
    ∙ said_lines-line (done ++ c ∷ []) line text parts.1
    ∙ ap (λ l. with_said l (said_lines [] text)) (append_assoc done (c ∷ []) line)
  where
    no_feed : is_printable 10 ≡ true → (c == 10) ≡ false
    no_feed e = cc

    other : is_printable c ≡ true → (c == 10) ≡ false
    other ok =
        elim (cases_Bool (c == 10)) [
          | inl same ↦ no_feed (subst (λ b. is_printable b ≡ true) (eqb-true c 10 same) ok)
          | inr differs ↦ differs
        ]

said_lines-shown : (f : Format) (bytes line left text : List ℕ) → LineShown f bytes line left
    → said_lines [] (line ++ (10 ∷ text)) ≡ line ∷ said_lines [] text
said_lines-shown f bytes line left text s =
    said_lines-line [] line text s.printable
    ∙ cond-false (is_blank line) (said_lines [] text) (line ∷ said_lines [] text) s.said

-- the bytes of a line in front of those of others
bytes_and-shown : (f : Format) (bytes line left : List ℕ) (others : Option (List ℕ)) → LineShown f bytes line left
    → others ≡ Some left → bytes_and f line others ≡ Some bytes
bytes_and-shown f bytes line left others s is =
    let all : Option (List ℕ × List ℕ) → Option (List ℕ) =
    λ o. option_and_then (λ b. option_and_then (λ more. Some (b ++ more)) others) (whole o)
    in
    let add : List ℕ → Option (List ℕ) = λ more. Some (s.taken ++ more) in
    ap all s.back ∙ ap (option_and_then add) is ∙ ap (λ l. Some l) (sym s.parts)

-- entries up to the end are read back
entries-back : (wide : Bool) (most : ℕ) (text bytes more : List ℕ) → AreBytes bytes
    → repeat (entry_line wide).show most text bytes ≡ Some (more, [])
    → (lines : List ℕ) × (more ≡ text ++ lines) × (entries_read wide (said_lines [] lines) ≡ Some bytes)
entries-back wide zero text bytes more are e =
    let both = some-inj (text, bytes) (more, []) e in
    ([], sym (ap (λ m. m.0) both) ∙ sym (append-nil text), ap (λ m. Some m.1) (sym both))
entries-back wide (suc most) text [] more are e =
    let both = some-inj (text, []) (more, []) e in
    ([], sym (ap (λ m. m.0) both) ∙ sym (append-nil text), refl)
entries-back wide (suc most) text (b ∷ bytes) more are e =
    let entry : Format = entry_text wide in
    let line : Format = entry_line wide in
    let feed : List ℕ × List ℕ → Option (List ℕ × List ℕ) = λ m. Some (m.0 ++ 10 ∷ [], m.1) in
    let again : List ℕ × List ℕ → Option (List ℕ × List ℕ) = λ m. repeat line.show most m.0 m.1 in
    option_and_then_some again (line.show text (b ∷ bytes)) (more, []) e (λ mid mid_is rest_is.
    option_and_then_some feed (entry.show text (b ∷ bytes)) mid mid_is (λ shown shown_is fed.
    let s = (entry-lines wide).onto text (b ∷ bytes) shown.0 shown.1 are shown_is in
    let fit : AreBytes shown.1 = AreBytes-behind s.line_is.taken shown.1 (subst AreBytes s.line_is.parts are) in
    let same = some-inj (shown.0 ++ 10 ∷ [], shown.1) mid fed in
    let rest =
    entries-back wide most (shown.0 ++ 10 ∷ []) shown.1 more fit
    (ap again same ∙ rest_is)
    in (
      s.line ++ (10 ∷ rest.0),
      rest.1 ∙ ap (λ l. (l ++ 10 ∷ []) ++ rest.0) s.text_is ∙ ap (λ l. l ++ rest.0) (append_assoc text s.line (10 ∷ []))
          ∙ append_assoc text (s.line ++ 10 ∷ []) rest.0 ∙ ap (λ l. text ++ l) (append_assoc s.line (10 ∷ []) rest.0),
      ap (entries_read wide) (said_lines-shown entry (b ∷ bytes) s.line shown.1 rest.0 s.line_is)
          ∙ bytes_and-shown entry (b ∷ bytes) s.line shown.1 (entries_read wide (said_lines [] rest.0)) s.line_is rest.2,
    )))

-- the lines of a tree file whose opening is known
tree-back-as : (wide : Bool) (bytes text : List ℕ) → AreBytes bytes → begins_wide bytes ≡ wide
    → after (first_lines wide).show (repeat_to_end (entry_line wide).show) [] bytes ≡ Some (text, [])
    → tree_of_lines (said_lines [] text) ≡ Some bytes
tree-back-as wide bytes text are opens e =
    let form : Format = root_text wide in
    let feed : List ℕ × List ℕ → Option (List ℕ × List ℕ) = λ m. Some (m.0 ++ 10 ∷ [], m.1) in
    let root_on : List ℕ × List ℕ → Option (List ℕ × List ℕ) = λ m. option_and_then feed (form.show m.0 m.1) in
    let rest_on : List ℕ × List ℕ → Option (List ℕ × List ℕ) = λ m. root_on (m.0 ++ 10 ∷ [], m.1) in
    let entries : List ℕ × List ℕ → Option (List ℕ × List ℕ) = λ m. repeat_to_end (entry_line wide).show m.0 m.1 in
    option_and_then_some entries ((first_lines wide).show [] bytes) (text, []) e (λ first first_is entries_are.
    option_and_then_some rest_on (head_text.show [] bytes) first first_is (λ head head_is after_head.
    option_and_then_some feed (form.show (head.0 ++ 10 ∷ []) head.1) first after_head (λ root root_is fed.
    let top = head-line [] bytes head.0 head.1 are head_is in
    let h = top.onto in
    let fit : AreBytes head.1 = AreBytes-behind h.line_is.taken head.1 (subst AreBytes h.line_is.parts are) in
    let r = (root-lines wide).onto (head.0 ++ 10 ∷ []) head.1 root.0 root.1 fit root_is in
    let root_fit : AreBytes root.1 = AreBytes-behind r.line_is.taken root.1 (subst AreBytes r.line_is.parts fit) in
    let same = some-inj (root.0 ++ 10 ∷ [], root.1) first fed in
    let all = entries-back wide (length root.1) (root.0 ++ 10 ∷ []) root.1 text root_fit (ap entries same ∙ entries_are) in
    let text_is : text ≡ h.line ++ (10 ∷ (r.line ++ (10 ∷ all.0))) =
    all.1 ∙ ap (λ l. (l ++ 10 ∷ []) ++ all.0) (r.text_is ∙ ap (λ l. (l ++ 10 ∷ []) ++ r.line) h.text_is)
    ∙ append_assoc (((h.line ++ 10 ∷ []) ++ r.line)) (10 ∷ []) all.0
    ∙ append_assoc (h.line ++ 10 ∷ []) r.line (10 ∷ all.0) ∙ append_assoc h.line (10 ∷ []) (r.line ++ (10 ∷ all.0))
    in
    let lines : List (List ℕ) = said_lines [] all.0 in
    let below : root_and_lines wide r.line lines ≡ Some head.1 =
    bytes_and-shown form head.1 r.line root.1 (entries_read wide lines) r.line_is all.2
    in
    let told : head_is_wide (whole (head_text.read [] h.line)) ≡ wide =
    ap (λ o. head_is_wide (whole o)) h.line_is.back ∙ top.opens ∙ opens
    in
    ap (λ l. tree_of_lines (said_lines [] l)) text_is
    ∙ ap tree_of_lines (said_lines-shown head_text bytes h.line head.1 (r.line ++ (10 ∷ all.0)) h.line_is
    ∙ ap (λ l. h.line ∷ l) (said_lines-shown form head.1 r.line root.1 all.0 r.line_is))
    ∙ ap (λ b. bytes_and head_text h.line (root_and_lines b r.line lines)) told
    ∙ bytes_and-shown head_text bytes h.line head.1 (root_and_lines wide r.line lines) h.line_is below)))

pub tree-back : (bytes text : List ℕ) → AreBytes bytes → show_tree [] bytes ≡ Some (text, []) → tree_read text ≡ Some bytes
unfolding show_tree tree_read
tree-back bytes text are e = tree-back-as (begins_wide bytes) bytes text are refl e

pub ruleset file_laws = (tree-back)
