-- The line of a record is read as its side and its bytes, and is printable.
use Rattle.std.proofs.Common.{◌≡◌, ℕ, ◌^◌, ◌<◌, List, [], ◌∷◌, ◌++◌, length, Option, Some, None, refl, sym, ap, subst}
use Rattle.std.proofs.Common.{◌∙◌, arith, inl, inr, cond, true, false, append_assoc}
use Rattle.std.specs.Prelude.{IsTrue, option_and_then, ◌==◌, codes, nat_lt}
use Rattle.std.specs.List.{list_all, AllByRecursion}
use Rattle.std.specs.Int.{w32, to_be_bytes}
use Rattle.std.proofs.lemmas.Bool.{cond-true, cond-false, cases_Bool, eqb-true, lt-ltb, and_parts}
use Rattle.std.proofs.lemmas.List.{append-nil}
use Rattle.sftp_packets.specs.declared.packets.Side.{Side}
use Rattle.sftp_packets.specs.declared.packets.Side.TheVariants.{Client, Server}
use Rattle.sftp_packets.specs.Spelling.{AreBytes}
use Rattle.sftp_packets.specs.Layouts.{Shape, layout_of_bytes}
use Rattle.sftp_strings.proofs.Bytes.{wide32}
use Rattle.sftp_text.specs.Formats.{front_uint32, if_found}
use Rattle.sftp_text.specs.Fields.{packet_text, layout_of_text}
use Rattle.sftp_text.specs.Lines.{is_printable, whole, digits_text, raw_text, digits_read, raw_read, side_letter}
use Rattle.sftp_text.specs.Lines.{show_whole, show_packet, named_line, line_of, side_of_letter, with_length}
use Rattle.sftp_text.specs.Lines.{read_packet, bytes_of_text, line_read, text_of, is_blank, and_others, with_line}
use Rattle.sftp_text.specs.Lines.{lines_read, text_read}
use Rattle.sftp_text.proofs.Exact.{some-inj, none-some, AreBytes-behind, printable-append, front_number-some}
use Rattle.sftp_text.proofs.Strings.{hex_onto-text, hex_text-printable}
use Rattle.sftp_text.proofs.Bodies.{packet_text-exact, layout_of_text-named, no_raw}

-- what is known of the line of a record
pub record IsLine (side : Side) (bytes line : List ℕ) : Type 0 where
  pub back : line_read line ≡ Some (side, bytes)
  pub printable : IsTrue (list_all is_printable line)

letter-read : (side : Side) → side_of_letter (side_letter side) ≡ Some side
letter-read Client = refl
letter-read Server = refl

letter-printable : (side : Side) (text : List ℕ) → IsTrue (list_all is_printable text)
    → IsTrue (list_all is_printable (side_letter side ∷ text))
letter-printable Client text ok = ok
letter-printable Server text ok = ok

-- a line whose text is read as the bytes
line_read-text : (side : Side) (text bytes : List ℕ) → bytes_of_text side text ≡ Some bytes
    → line_read (side_letter side ∷ text) ≡ Some (side, bytes)
unfolding line_read
line_read-text side text bytes is =
    let pack : Side → List ℕ → Option (Side × List ℕ) = λ s b. Some (s, b) in
    let next : Side → Option (Side × List ℕ) = λ s. option_and_then (pack s) (bytes_of_text s text) in
    ap (option_and_then next) (letter-read side) ∙ ap (option_and_then (pack side)) is

-- ---- lines in hexadecimal

digits-back : (bytes : List ℕ) → AreBytes bytes → digits_read (digits_text bytes) ≡ Some bytes
digits-back [] are = refl
digits-back (b ∷ bytes) are = hex_onto-text [] (b ∷ bytes) are

raw-name : (side : Side) (bytes : List ℕ) → layout_of_text side (raw_text bytes) ≡ None
unfolding layout_of_text
raw-name side [] = no_raw side
raw-name side (b ∷ bytes) = no_raw side

digits-printable : (bytes : List ℕ) → AreBytes bytes → IsTrue (list_all is_printable (digits_text bytes))
digits-printable [] are = refl
digits-printable (b ∷ bytes) are = hex_text-printable (b ∷ bytes) are

raw-line : (side : Side) (bytes : List ℕ) → AreBytes bytes → IsLine side bytes (side_letter side ∷ raw_text bytes)
unfolding bytes_of_text
raw-line side bytes are = record {
  back =
      line_read-text side (raw_text bytes) bytes
      (ap (λ o. if_found o (read_packet (raw_text bytes)) (raw_read (raw_text bytes))) (raw-name side bytes)
      ∙ digits-back bytes are);
  printable =
      letter-printable side (raw_text bytes)
      (printable-append (codes " raw") (digits_text bytes) refl (digits-printable bytes are));
}

-- ---- lines by name

whole-some : (moved : Option (List ℕ × List ℕ)) (all : List ℕ) → whole moved ≡ Some all → moved ≡ Some (all, [])
whole-some None all e = none-some all e
whole-some (Some (done, [])) all e = ap (λ d. Some (d, [])) (some-inj done all e)
whole-some (Some (done, b ∷ left)) all e = none-some all e

-- the text of a packet is read as its length and its body
bytes_of_text-named : (side : Side) (bytes : List ℕ) (layout : Shape) (n : ℕ) (body shown : List ℕ) → n < 2 ^ 32
    → to_be_bytes w32 n ++ body ≡ bytes → n ≡ length body → layout_of_text side shown ≡ Some layout
    → (packet_text layout).read [] shown ≡ Some (body, []) → bytes_of_text side shown ≡ Some bytes
unfolding bytes_of_text
bytes_of_text-named side bytes layout n body shown fits parts len named back =
    let small : length body < 2 ^ 32 = omega (arith, fits, len) in
    let read_whole : Option (List ℕ × List ℕ) → Option (List ℕ) = λ o. option_and_then with_length (whole o) in
    ap (λ o. if_found o (read_packet shown) (raw_read shown)) named ∙ ap read_whole back
    ∙ cond-true (nat_lt (length body) (2 ^ 32)) (Some (to_be_bytes w32 (length body) ++ body)) None
    (lt-ltb (length body) (2 ^ 32) small)
    ∙ ap (λ (k : ℕ). Some (to_be_bytes w32 k ++ body)) (sym len) ∙ ap (λ l. Some l) parts

named-line : (side : Side) (bytes line : List ℕ) (layout : Shape) → AreBytes bytes
    → layout_of_bytes side bytes ≡ Some layout → show_packet side bytes layout ≡ Some line → IsLine side bytes line
named-line side bytes line layout are layout_is shows = framed (front_uint32 bytes) refl shows
  where
    exact : (n : ℕ) (body : List ℕ) → n < 2 ^ 32 → to_be_bytes w32 n ++ body ≡ bytes → AreBytes body → n ≡ length body
        → show_whole side (packet_text layout) body ≡ Some line → IsLine side bytes line
    exact n body fits parts fit len e =
        let s =
        (packet_text-exact side bytes layout layout_is).exact (side_letter side ∷ []) body line [] fit
        (whole-some ((packet_text layout).show (side_letter side ∷ []) body) line e)
        in
        let alone : s.shown ++ [] ≡ s.shown = append-nil s.shown in
        let taken_is : s.taken ≡ body = sym (s.bytes_are ∙ append-nil s.taken) in
        let named =
        ap (layout_of_text side) (sym alone)
        ∙ layout_of_text-named side bytes (s.shown ++ []) layout layout_is (s.front [] refl)
        in
        let back =
        ap ((packet_text layout).read []) (sym alone) ∙ s.back [] [] refl ∙ ap (λ l. Some (l, [])) taken_is
        in
        record {
          back =
              ap line_read s.text_is
              ∙ line_read-text side s.shown bytes (bytes_of_text-named side bytes layout n body s.shown fits parts len named back);
          printable = ap (list_all is_printable) s.text_is ∙ letter-printable side s.shown s.printable;
        }

    framed : (front : Option (ℕ × List ℕ)) → front_uint32 bytes ≡ front
        → show_packet side bytes layout ≡ Some line → IsLine side bytes line
    framed None none e =
        let next : ℕ × List ℕ → Option (List ℕ) =
        λ f. cond (f.0 == length f.1) (show_whole side (packet_text layout) f.1) None
        in
        none-some line (sym (ap (option_and_then next) none) ∙ e)
    framed (Some (n, body)) some e =
        let next : ℕ × List ℕ → Option (List ℕ) =
        λ f. cond (f.0 == length f.1) (show_whole side (packet_text layout) f.1) None
        in
        let here : next (n, body) ≡ Some line = sym (ap (option_and_then next) some) ∙ e in
        let number = front_number-some w32 4 (2 ^ 32) wide32 refl bytes n body are some in
        let parts : to_be_bytes w32 n ++ body ≡ bytes = ap (λ (l : List ℕ). l ++ body) number.again ∙ sym number.parts in
        let fit : AreBytes body = AreBytes-behind number.number body (subst AreBytes number.parts are) in
        elim (cases_Bool (n == length body)) [
          | inl right ↦
              exact n body number.fits parts fit (eqb-true n (length body) right)
              (sym (cond-true (n == length body) (show_whole side (packet_text layout) body) None right) ∙ here)
          | inr wrong ↦
              none-some line (sym (cond-false (n == length body) (show_whole side (packet_text layout) body) None wrong) ∙ here)
        ]

-- ---- every line

pub line-IsLine : (side : Side) (bytes : List ℕ) → AreBytes bytes → IsLine side bytes (line_of side bytes)
unfolding line_of named_line
line-IsLine side bytes are = by_layout (layout_of_bytes side bytes) refl
  where
    by_line : (layout : Shape) → layout_of_bytes side bytes ≡ Some layout → (shown : Option (List ℕ))
        → show_packet side bytes layout ≡ shown → IsLine side bytes (if_found shown (λ line. line) (side_letter side ∷ raw_text bytes))
    by_line layout layout_is None e = raw-line side bytes are
    by_line layout layout_is (Some line) e = named-line side bytes line layout are layout_is e

    by_layout : (layout : Option Shape) → layout_of_bytes side bytes ≡ layout
        → IsLine side bytes (if_found (option_and_then (show_packet side bytes) (layout_of_bytes side bytes)) (λ line. line) (side_letter side ∷ raw_text bytes))
    by_layout None none =
        subst (λ o. IsLine side bytes (if_found (option_and_then (show_packet side bytes) o) (λ line. line) (side_letter side ∷ raw_text bytes)))
        (sym none) (raw-line side bytes are)
    by_layout (Some layout) some =
        subst (λ o. IsLine side bytes (if_found (option_and_then (show_packet side bytes) o) (λ line. line) (side_letter side ∷ raw_text bytes)))
        (sym some) (by_line layout some (show_packet side bytes layout) refl)

pub ruleset line_laws = (line-IsLine)

-- ==== The text of a session is read as that session.

-- a line up to its line feed
lines_read-line : (done line text : List ℕ) → IsTrue (list_all is_printable line)
    → lines_read done (line ++ (10 ∷ text)) ≡ with_line (done ++ line) (lines_read [] text)
lines_read-line done [] text printable = ap (λ l. with_line l (lines_read [] text)) (sym (append-nil done))
lines_read-line done (c ∷ line) text printable =
    let parts = and_parts _ _ printable in
    cond-false (c == 10) (with_line done (lines_read [] (line ++ (10 ∷ text)))) (lines_read (done ++ c ∷ []) (line ++ (10 ∷ text))) (other parts.0)
    ∙ lines_read-line (done ++ c ∷ []) line text parts.1
    ∙ ap (λ l. with_line l (lines_read [] text)) (append_assoc done (c ∷ []) line)
  where
    no_feed : is_printable 10 ≡ true → (c == 10) ≡ false
    no_feed e = cc

    other : is_printable c ≡ true → (c == 10) ≡ false
    other ok =
        elim (cases_Bool (c == 10)) [
          | inl same ↦ no_feed (subst (λ b. is_printable b ≡ true) (eqb-true c 10 same) ok)
          | inr differs ↦ differs
        ]

-- a line that is read is not blank
not_blank : (line : List ℕ) (record_of : Side × List ℕ) → line_read line ≡ Some record_of → is_blank line ≡ false
unfolding line_read
not_blank [] r e = none-some r e
not_blank (c ∷ line) r e =
    elim (cases_Bool (c == 32)) [
      | inl space ↦ none-some r (sym (ap none_for (eqb-true c 32 space)) ∙ e)
      | inr no_space ↦
          elim (cases_Bool (c == 35)) [
            | inl sharp ↦ none-some r (sym (ap none_for (eqb-true c 35 sharp)) ∙ e)
            | inr no_sharp ↦ cond-false (c == 32) (is_blank line) (c == 35) no_space ∙ no_sharp
          ]
    ]
  where
    none_for : ℕ → Option (Side × List ℕ)
    none_for b = option_and_then (λ side. option_and_then (λ bytes. Some (side, bytes)) (bytes_of_text side line)) (side_of_letter b)

pub text_read-text_of : (records : List (Side × List ℕ)) → AllByRecursion (λ r. AreBytes r.1) records
    → text_read (text_of records) ≡ Some records
unfolding text_read text_of
text_read-text_of [] all = refl
text_read-text_of (r ∷ records) all =
    let line = line_of r.0 r.1 in
    let known = line-IsLine r.0 r.1 all.0 in
    let others = text_of records in
    let add : Side × List ℕ → Option (List (Side × List ℕ)) → Option (List (Side × List ℕ)) =
    λ x o. and_others (Some x) o
    in
    ap (lines_read []) (append_assoc line (10 ∷ []) others) ∙ lines_read-line [] line others known.printable
    ∙ cond-false (is_blank line) (lines_read [] others) (and_others (line_read line) (lines_read [] others)) (not_blank line (r.0, r.1) known.back)
    ∙ ap (λ o. and_others o (lines_read [] others)) known.back ∙ ap (add (r.0, r.1)) (text_read-text_of records all.1)

pub ruleset session_laws = (text_read-text_of)
