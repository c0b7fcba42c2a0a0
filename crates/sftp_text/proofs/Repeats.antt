-- Lists with separators, and items up to the end.
use Rattle.std.proofs.Common.{◌≡◌, ℕ, zero, suc, ◌+◌, ◌^◌, ◌<◌, ◌≤◌, List, [], ◌∷◌, ◌++◌, length}
use Rattle.std.proofs.Common.{Option, Some, None, refl, sym, ap, subst, ◌∙◌, append_assoc, arith}
use Rattle.std.specs.Prelude.{IsTrue, IsFalse, option_and_then}
use Rattle.std.specs.List.{list_all}
use Rattle.std.proofs.lemmas.Bool.{cond-true, cond-false}
use Rattle.std.proofs.lemmas.List.{append-nil, length-append}
use Rattle.std.proofs.lemmas.Option.{option_and_then_some}
use Rattle.sftp_packets.specs.Spelling.{AreBytes}
use Rattle.sftp_text.specs.Formats.{Step, Format, ◌then◌, strip, word, if_found, begins_with}
use Rattle.sftp_text.specs.Formats.{show_each, show_list, read_each, read_list, listed, repeat, repeat_to_end, to_end}
use Rattle.sftp_text.specs.Lines.{is_printable}
use Rattle.sftp_text.proofs.Exact.{some-inj, AreBytes-behind, printable-append, strip-same, IsExact}
use Rattle.sftp_text.proofs.Exact.{CountedShown, IsExactCounted}

abbrev Found : Type 0
Found = Option (ℕ × (List ℕ × List ℕ))

-- ---- lists whose number of items is known

-- What may stand behind an item (I) and behind a list (B), and how an item begins: neither a separator nor an item is in
-- front of what stands behind a list, and a separator may stand behind an item.
pub record Separates (item : Format) (first : ℕ) (separator : List ℕ) (I B : List ℕ → Type 0) : Type 0 where
  pub item_exact : IsExact item (λ l. IsTrue (begins_with first l)) I
  pub printable : IsTrue (list_all is_printable separator)
  pub nonempty : 0 < length separator
  pub after_item : (l : List ℕ) → I (separator ++ l)
  pub after_last : (l : List ℕ) → B l → I l
  pub no_separator : (l : List ℕ) → B l → strip separator l ≡ None
  pub no_item : (l : List ℕ) → B l → IsFalse (begins_with first l)

-- what items behind separators showed, and how they are read behind others
record EachShown (item : Format) (separator : List ℕ) (I B : List ℕ → Type 0) (count : ℕ) (text bytes more left : List ℕ) : Type 0 where
  pub shown : List ℕ
  pub taken : List ℕ
  pub text_is : more ≡ text ++ shown
  pub bytes_are : bytes ≡ taken ++ left
  pub printable : IsTrue (list_all is_printable shown)
  pub back : (most k : ℕ) (done rest : List ℕ) → length (shown ++ rest) ≤ most → B rest
      → read_each item separator most k done (shown ++ rest) ≡ Some (k + count, (done ++ taken, rest))
  pub front : (rest : List ℕ) → B rest → I (shown ++ rest)

-- nothing more is read where no separator is in front
read_each-stops : (item : Format) (separator : List ℕ) (most k : ℕ) (done rest : List ℕ) → strip separator rest ≡ None
    → read_each item separator most k done rest ≡ Some (k, (done, rest))
read_each-stops item separator zero k done rest none = refl
read_each-stops item separator (suc most) k done rest none =
    let next : List ℕ → Found =
    λ r. option_and_then (λ m. read_each item separator most (k + 1) m.0 m.1) (item.read done r)
    in
    ap (λ o. if_found o next (Some (k, (done, rest)))) none

-- an item is read behind a separator
read_each-goes : (item : Format) (separator : List ℕ) (most k : ℕ) (done list more rest : List ℕ)
    → item.read done list ≡ Some (more, rest)
    → read_each item separator (suc most) k done (separator ++ list) ≡ read_each item separator most (k + 1) more rest
read_each-goes item separator most k done list more rest is =
    let next : List ℕ → Found =
    λ r. option_and_then (λ m. read_each item separator most (k + 1) m.0 m.1) (item.read done r)
    in
    ap (λ o. if_found o next (Some (k, (done, separator ++ list)))) (strip-same separator list)
    ∙ ap (option_and_then (λ m. read_each item separator most (k + 1) m.0 m.1)) is

each-exact : (item : Format) (first : ℕ) (separator : List ℕ) (I B : List ℕ → Type 0)
    → Separates item first separator I B → (count : ℕ) (text bytes more left : List ℕ) → AreBytes bytes
    → show_each item separator count text bytes ≡ Some (more, left)
    → EachShown item separator I B count text bytes more left
each-exact item first separator I B p zero text bytes more left are e =
    let both = some-inj (text, bytes) (more, left) e in
    record {
      shown = [];
      taken = [];
      text_is = sym (ap (λ m. m.0) both) ∙ sym (append-nil text);
      bytes_are = ap (λ m. m.1) both;
      printable = refl;
      back = λ most k done rest enough ok.
          let sum : k ≡ k + 0 = omega arith in
          read_each-stops item separator most k done rest (p.no_separator rest ok)
          ∙ ap (λ n. Some (n, (done, rest))) sum ∙ ap (λ l. Some (k + 0, (l, rest))) (sym (append-nil done));
      front = λ rest ok. p.after_last rest ok;
    }
each-exact item first separator I B p (suc count) text bytes more left are e =
    option_and_then_some (λ m. show_each item separator count m.0 m.1) (item.show (text ++ separator) bytes) (more, left)
    e (λ mid one_is others_are.
    let one = p.item_exact.exact (text ++ separator) bytes mid.0 mid.1 are one_is in
    let fit : AreBytes mid.1 = AreBytes-behind one.taken mid.1 (subst AreBytes one.bytes_are are) in
    let others = each-exact item first separator I B p count mid.0 mid.1 more left fit others_are in
    let shown = separator ++ (one.shown ++ others.shown) in
    let grouped : (rest : List ℕ) → shown ++ rest ≡ separator ++ (one.shown ++ (others.shown ++ rest)) =
    λ rest. append_assoc separator (one.shown ++ others.shown) rest
    ∙ ap (λ l. separator ++ l) (append_assoc one.shown others.shown rest)
    in
    record {
      shown = shown;
      taken = one.taken ++ others.taken;
      text_is =
          others.text_is ∙ ap (λ l. l ++ others.shown) one.text_is
          ∙ append_assoc (text ++ separator) one.shown others.shown
          ∙ append_assoc text separator (one.shown ++ others.shown);
      bytes_are =
          one.bytes_are ∙ ap (λ l. one.taken ++ l) others.bytes_are ∙ sym (append_assoc one.taken others.taken left);
      printable =
          printable-append separator _ p.printable
          (printable-append one.shown others.shown one.printable others.printable);
      back = λ most k done rest enough ok.
          read_goes_on most k done rest one.shown others.shown one.taken others.taken (subst (λ l. length l ≤ most) (grouped rest) enough)
          (one.back done (others.shown ++ rest) (others.front rest ok))
          (λ less small. others.back less (k + 1) (done ++ one.taken) rest small ok)
          (grouped rest);
      front = λ rest ok. subst I (sym (grouped rest)) (p.after_item (one.shown ++ (others.shown ++ rest)));
    })
  where
    read_goes_on : (most k : ℕ) (done rest one others took others_took : List ℕ)
        → length (separator ++ (one ++ (others ++ rest))) ≤ most
        → item.read done (one ++ (others ++ rest)) ≡ Some (done ++ took, others ++ rest)
        → ((less : ℕ) → length (others ++ rest) ≤ less
        → read_each item separator less (k + 1) (done ++ took) (others ++ rest)
        ≡ Some (k + 1 + count, ((done ++ took) ++ others_took, rest)))
        → (separator ++ (one ++ others)) ++ rest ≡ separator ++ (one ++ (others ++ rest))
        → read_each item separator most k done ((separator ++ (one ++ others)) ++ rest)
        ≡ Some (k + suc count, (done ++ (took ++ others_took), rest))
    read_goes_on zero k done rest one others took others_took enough one_is others_are grouped =
        absurd (omega (arith, p.nonempty, length-append separator (one ++ (others ++ rest))))
    read_goes_on (suc most) k done rest one others took others_took enough one_is others_are grouped =
        let small : length (others ++ rest) ≤ most =
        omega (arith, p.nonempty, length-append separator (one ++ (others ++ rest)), length-append one (others ++ rest))
        in
        let sum : k + 1 + count ≡ k + suc count = omega arith in
        ap (read_each item separator (suc most) k done) grouped
        ∙ read_each-goes item separator most k done (one ++ (others ++ rest)) (done ++ took) (others ++ rest) one_is
        ∙ others_are most small ∙ ap (λ n. Some (n, ((done ++ took) ++ others_took, rest))) sum
        ∙ ap (λ l. Some (k + suc count, (l, rest))) (append_assoc done took others_took)

-- how a list begins: with an item, or with what stands behind it
pub data ListFront (first : ℕ) (B : List ℕ → Type 0) (list : List ℕ) : Type 0 where
  with_item : IsTrue (begins_with first list) → ListFront first B list
  no_items : B list → ListFront first B list

pub listed-exact : (item : Format) (first : ℕ) (separator : List ℕ) (I B : List ℕ → Type 0)
    → Separates item first separator I B → IsExactCounted (listed item first separator) (ListFront first B) B
listed-exact item first separator I B p = record { exact = shows }
  where
    shows : (n : ℕ) (text bytes more left : List ℕ) → n < 2 ^ 32 → AreBytes bytes
        → show_list item separator n text bytes ≡ Some (more, left)
        → CountedShown (listed item first separator) (ListFront first B) B n text bytes more left
    shows zero text bytes more left lt are e =
        let both = some-inj (text, bytes) (more, left) e in
        record {
          shown = [];
          taken = [];
          text_is = sym (ap (λ m. m.0) both) ∙ sym (append-nil text);
          bytes_are = ap (λ m. m.1) both;
          printable = refl;
          back = λ rest ok. cond-false (begins_with first rest) _ (Some (0, ([], rest))) (p.no_item rest ok);
          front = λ rest ok. no_items ok;
        }
    shows (suc count) text bytes more left lt are e =
        option_and_then_some (λ m. show_each item separator count m.0 m.1) (item.show text bytes) (more, left) e
        (λ mid one_is others_are.
        let one = p.item_exact.exact text bytes mid.0 mid.1 are one_is in
        let fit : AreBytes mid.1 = AreBytes-behind one.taken mid.1 (subst AreBytes one.bytes_are are) in
        let others = each-exact item first separator I B p count mid.0 mid.1 more left fit others_are in
        let begins : (rest : List ℕ) → B rest → IsTrue (begins_with first (one.shown ++ (others.shown ++ rest))) =
        λ rest ok. one.front (others.shown ++ rest) (others.front rest ok)
        in
        record {
          shown = one.shown ++ others.shown;
          taken = one.taken ++ others.taken;
          text_is = others.text_is ∙ ap (λ l. l ++ others.shown) one.text_is ∙ append_assoc text one.shown others.shown;
          bytes_are =
              one.bytes_are ∙ ap (λ l. one.taken ++ l) others.bytes_are ∙ sym (append_assoc one.taken others.taken left);
          printable = printable-append one.shown others.shown one.printable others.printable;
          back = λ rest ok.
              let sum : 1 + count ≡ suc count = omega arith in
              let next : List ℕ × List ℕ → Found = λ m. read_each item separator (length m.1) 1 m.0 m.1 in
              let whole = one.shown ++ (others.shown ++ rest) in
              ap (read_list item first separator) (append_assoc one.shown others.shown rest)
              ∙ cond-true (begins_with first whole) (option_and_then next (item.read [] whole)) (Some (0, ([], whole)))
              (begins rest ok)
              ∙ ap (option_and_then next) (one.back [] (others.shown ++ rest) (others.front rest ok))
              ∙ others.back (length (others.shown ++ rest)) 1 one.taken rest (omega arith) ok
              ∙ ap (λ n. Some (n, (one.taken ++ others.taken, rest))) sum;
          front = λ rest ok. with_item (subst (λ l. IsTrue (begins_with first l)) (sym (append_assoc one.shown others.shown rest)) (begins rest ok));
        })

-- ---- items up to the end

-- nothing is left
abbrev pub IsEnd : List ℕ → Type 0
IsEnd l = l ≡ []

-- how items up to the end begin: with a separator, or not at all
pub data EndFront (separator : List ℕ) (list : List ℕ) : Type 0 where
  separated : (rest : List ℕ) → list ≡ separator ++ rest → EndFront separator list
  ended : list ≡ [] → EndFront separator list

record RepeatShown (item : Format) (separator : List ℕ) (text bytes more left : List ℕ) : Type 0 where
  pub shown : List ℕ
  pub taken : List ℕ
  pub text_is : more ≡ text ++ shown
  pub bytes_are : bytes ≡ taken ++ left
  pub printable : IsTrue (list_all is_printable shown)
  pub back : (most : ℕ) (done : List ℕ) → length shown ≤ most
      → repeat (word separator then item).read most done shown ≡ Some (done ++ taken, [])
  pub front : EndFront separator shown

-- a step that is left out at the end
repeat-end : (step : Step) (most : ℕ) (done : List ℕ) → repeat step most done [] ≡ Some (done, [])
repeat-end step zero done = refl
repeat-end step (suc most) done = refl

-- a step that is taken before the end
repeat-goes : (step : Step) (most : ℕ) (done list more rest : List ℕ) → 0 < length list
    → step done list ≡ Some (more, rest) → repeat step (suc most) done list ≡ repeat step most more rest
repeat-goes step most done [] more rest some is = absurd (omega (arith, some))
repeat-goes step most done (c ∷ list) more rest some is =
    ap (option_and_then (λ m. repeat step most m.0 m.1)) is

repeat-exact : (item : Format) (separator : List ℕ) (I : List ℕ → Type 0) (A : List ℕ → Type 0) → IsExact item A I
    → IsTrue (list_all is_printable separator) → 0 < length separator → ((l : List ℕ) → I (separator ++ l)) → I []
    → (count : ℕ) (text bytes more left : List ℕ) → AreBytes bytes
    → repeat (word separator then item).show count text bytes ≡ Some (more, left)
    → RepeatShown item separator text bytes more left
repeat-exact item separator I A p printable nonempty between last zero text bytes more left are e =
    let both = some-inj (text, bytes) (more, left) e in
    record {
      shown = [];
      taken = [];
      text_is = sym (ap (λ m. m.0) both) ∙ sym (append-nil text);
      bytes_are = ap (λ m. m.1) both;
      printable = refl;
      back = λ most done enough. repeat-end _ most done ∙ ap (λ l. Some (l, [])) (sym (append-nil done));
      front = ended refl;
    }
repeat-exact item separator I A p printable nonempty between last (suc count) text [] more left are e =
    let both = some-inj (text, []) (more, left) e in
    record {
      shown = [];
      taken = [];
      text_is = sym (ap (λ m. m.0) both) ∙ sym (append-nil text);
      bytes_are = ap (λ m. m.1) both;
      printable = refl;
      back = λ most done enough. repeat-end _ most done ∙ ap (λ l. Some (l, [])) (sym (append-nil done));
      front = ended refl;
    }
repeat-exact item separator I A p printable nonempty between last (suc count) text (b ∷ bytes) more left are e =
    let show = (word separator then item).show in
    let read = (word separator then item).read in
    option_and_then_some (λ m. repeat show count m.0 m.1) (item.show (text ++ separator) (b ∷ bytes)) (more, left) e
    (λ mid one_is others_are.
    let one = p.exact (text ++ separator) (b ∷ bytes) mid.0 mid.1 are one_is in
    let fit : AreBytes mid.1 = AreBytes-behind one.taken mid.1 (subst AreBytes one.bytes_are are) in
    let others =
    repeat-exact item separator I A p printable nonempty between last count mid.0 mid.1 more left fit others_are
    in
    let follows : I others.shown = behind others.shown others.front in
    record {
      shown = separator ++ (one.shown ++ others.shown);
      taken = one.taken ++ others.taken;
      text_is =
          others.text_is ∙ ap (λ l. l ++ others.shown) one.text_is
          ∙ append_assoc (text ++ separator) one.shown others.shown
          ∙ append_assoc text separator (one.shown ++ others.shown);
      bytes_are =
          one.bytes_are ∙ ap (λ l. one.taken ++ l) others.bytes_are ∙ sym (append_assoc one.taken others.taken left);
      printable =
          printable-append separator _ printable
          (printable-append one.shown others.shown one.printable others.printable);
      back = λ most done enough.
          goes_on most done one.shown others.shown one.taken others.taken enough
          (one.back done others.shown follows)
          (λ less small. others.back less (done ++ one.taken) small);
      front = separated (one.shown ++ others.shown) refl;
    })
  where
    behind : (l : List ℕ) → EndFront separator l → I l
    behind l (separated rest parts) = subst I (sym parts) (between rest)
    behind l (ended is) = subst I (sym is) last

    goes_on : (most : ℕ) (done one others took others_took : List ℕ) → length (separator ++ (one ++ others)) ≤ most
        → item.read done (one ++ others) ≡ Some (done ++ took, others)
        → ((less : ℕ) → length others ≤ less
        → repeat (word separator then item).read less (done ++ took) others ≡ Some ((done ++ took) ++ others_took, []))
        → repeat (word separator then item).read most done (separator ++ (one ++ others)) ≡ Some (done ++ (took ++ others_took), [])
    goes_on zero done one others took others_took enough one_is others_are =
        absurd (omega (arith, nonempty, length-append separator (one ++ others)))
    goes_on (suc most) done one others took others_took enough one_is others_are =
        let small : length others ≤ most =
        omega (arith, nonempty, length-append separator (one ++ others), length-append one others)
        in
        let next : List ℕ × List ℕ → Option (List ℕ × List ℕ) = λ m. item.read m.0 m.1 in
        let pass : List ℕ → Option (List ℕ × List ℕ) = λ r. Some (done, r) in
        let both : (word separator then item).read done (separator ++ (one ++ others)) ≡ Some (done ++ took, others) =
        ap (option_and_then next) (ap (option_and_then pass) (strip-same separator (one ++ others))) ∙ one_is
        in
        let some : 0 < length (separator ++ (one ++ others)) = omega (arith, nonempty, length-append separator (one ++ others)) in
        repeat-goes (word separator then item).read most done (separator ++ (one ++ others)) (done ++ took) others some both
        ∙ others_are most small ∙ ap (λ l. Some (l, [])) (append_assoc done took others_took)

pub to_end-exact : (item : Format) (separator : List ℕ) (I : List ℕ → Type 0) (A : List ℕ → Type 0) → IsExact item A I
    → IsTrue (list_all is_printable separator) → 0 < length separator → ((l : List ℕ) → I (separator ++ l)) → I []
    → IsExact (to_end item separator) (EndFront separator) IsEnd
to_end-exact item separator I A p printable nonempty between last = record {
  exact = λ text bytes more left are e.
      let s =
      repeat-exact item separator I A p printable nonempty between last (length bytes) text bytes more left are e
      in
      record {
        shown = s.shown;
        taken = s.taken;
        text_is = s.text_is;
        bytes_are = s.bytes_are;
        printable = s.printable;
        back = λ done rest ended.
            let alone : s.shown ++ rest ≡ s.shown = ap (λ l. s.shown ++ l) ended ∙ append-nil s.shown in
            ap (repeat_to_end (word separator then item).read done) alone
            ∙ s.back (length s.shown) done (omega arith) ∙ ap (λ l. Some (done ++ s.taken, l)) (sym ended);
        front = λ rest ended. subst (EndFront separator) (sym (ap (λ l. s.shown ++ l) ended ∙ append-nil s.shown)) s.front;
      };
}
