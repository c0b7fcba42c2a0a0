-- What a format shows, it reads back: a triple of the format, what the text begins with and what may follow it.
use Rattle.std.proofs.Common.{◌≡◌, ℕ, ◌^◌, ◌<◌, List, [], ◌∷◌, ◌++◌, length, take, drop}
use Rattle.std.proofs.Common.{Option, Some, None, refl, sym, ap, subst, ◌∙◌, append_assoc, arith, inl, inr}
use Rattle.std.specs.Prelude.{IsTrue, option_and_then, unwrap_or, ◌==◌, nat_le, nat_lt}
use Rattle.std.specs.List.{list_all}
use Rattle.std.specs.Int.{Width, w32, byte_len, from_be_bytes, to_be_bytes}
use Rattle.std.proofs.lemmas.Bool.{cond-true, cond-false, cases_Bool, and_from, eqb-true, eq-eqb, leb-true, lt-ltb}
use Rattle.std.proofs.lemmas.List.{append-nil, length-take, take-append-drop}
use Rattle.std.proofs.lemmas.List.Folds.{list_all-append}
use Rattle.std.proofs.lemmas.Option.{option_and_then_some}
use Rattle.sftp_packets.specs.Spelling.{AreBytes}
use Rattle.sftp_strings.proofs.Bytes.{IsBytes-take, IsBytes-from_all, IsWide, wide32}
use Rattle.sftp_text.specs.Formats.{Format, Counted, after, nothing, ◌then◌, strip, word, mark}
use Rattle.sftp_text.specs.Formats.{front_number, front_uint32, numbered, ahead}
use Rattle.sftp_text.specs.Lines.{is_printable}

-- ---- lists and options

pub some-inj : {A : Type 0} (x y : A) → Some x ≡ Some y → x ≡ y
some-inj x y e = ap (λ o. unwrap_or o x) e

pub none-some : {A P : Type 0} (x : A) → None ≡ Some x → P
none-some x e = cc

pub AreBytes-behind : (xs ys : List ℕ) → AreBytes (xs ++ ys) → AreBytes ys
AreBytes-behind [] ys fit = fit
AreBytes-behind (x ∷ xs) ys fit = AreBytes-behind xs ys fit.1

pub AreBytes-front : (xs ys : List ℕ) → AreBytes (xs ++ ys) → AreBytes xs
AreBytes-front [] ys fit = tt
AreBytes-front (x ∷ xs) ys fit = (fit.0, AreBytes-front xs ys fit.1)

pub printable-append : (xs ys : List ℕ) → IsTrue (list_all is_printable xs) → IsTrue (list_all is_printable ys)
    → IsTrue (list_all is_printable (xs ++ ys))
printable-append xs ys p q = list_all-append is_printable xs ys ∙ and_from _ _ p q

pub strip-same : (text rest : List ℕ) → strip text (text ++ rest) ≡ Some rest
strip-same [] rest = refl
strip-same (w ∷ text) rest =
    cond-true (w == w) (strip text (text ++ rest)) None (eq-eqb w w refl) ∙ strip-same text rest

pub strip-some : (text list rest : List ℕ) → strip text list ≡ Some rest → list ≡ text ++ rest
strip-some [] list rest e = some-inj list rest e
strip-some (w ∷ text) [] rest e = none-some rest e
strip-some (w ∷ text) (c ∷ list) rest e =
    elim (cases_Bool (w == c)) [
      | inl same ↦
          let here : strip text list ≡ Some rest = sym (cond-true (w == c) (strip text list) None same) ∙ e in
          let tail : list ≡ text ++ rest = strip-some text list rest here in
          let head : c ≡ w = sym (eqb-true w c same) in
          ap (λ x. x ∷ list) head ∙ ap (λ l. w ∷ l) tail
      | inr other ↦ none-some rest (sym (cond-false (w == c) (strip text list) None other) ∙ e)
    ]

-- ---- the triple

-- what a format showed: the text that it appended for the bytes that it took, and how it reads that text
pub record Shown (f : Format) (Front Behind : List ℕ → Type 0) (text bytes more left : List ℕ) : Type 0 where
  pub shown : List ℕ
  pub taken : List ℕ
  pub text_is : more ≡ text ++ shown
  pub bytes_are : bytes ≡ taken ++ left
  pub printable : IsTrue (list_all is_printable shown)
  pub back : (done rest : List ℕ) → Behind rest → f.read done (shown ++ rest) ≡ Some (done ++ taken, rest)
  pub front : (rest : List ℕ) → Behind rest → Front (shown ++ rest)

-- What a format shows of bytes is printable, and is read as those bytes where what follows it may follow it; and then it
-- begins as said.
pub record IsExact (f : Format) (Front Behind : List ℕ → Type 0) : Type 0 where
  pub exact : (text bytes more left : List ℕ) → AreBytes bytes → f.show text bytes ≡ Some (more, left)
      → Shown f Front Behind text bytes more left

-- where nothing is shown of nothing
shown_nothing : (f : Format) (B : List ℕ → Type 0) (text bytes more left : List ℕ) → text ≡ more → bytes ≡ left
    → ((done rest : List ℕ) → B rest → f.read done rest ≡ Some (done, rest)) → Shown f B B text bytes more left
shown_nothing f B text bytes more left same_text same_bytes back = record {
  shown = [];
  taken = [];
  text_is = sym same_text ∙ sym (append-nil text);
  bytes_are = same_bytes;
  printable = refl;
  back = λ done rest ok. back done rest ok ∙ ap (λ l. Some (l, rest)) (sym (append-nil done));
  front = λ rest ok. ok;
}

pub nothing-exact : (B : List ℕ → Type 0) → IsExact nothing B B
nothing-exact B = record {
  exact = λ text bytes more left are e.
      let both = some-inj (text, bytes) (more, left) e in
      shown_nothing nothing B text bytes more left (ap (λ p. p.0) both) (ap (λ p. p.1) both) (λ done rest ok. refl);
}

-- what stands in front is the word, and then what may follow it
pub record Behind (w : List ℕ) (B : List ℕ → Type 0) (list : List ℕ) : Type 0 where
  pub rest : List ℕ
  pub parts : list ≡ w ++ rest
  pub follows : B rest

pub word-exact : (w : List ℕ) (B : List ℕ → Type 0) → IsTrue (list_all is_printable w) → IsExact (word w) (Behind w B) B
word-exact w B printable = record {
  exact = λ text bytes more left are e.
      let both = some-inj (text ++ w, bytes) (more, left) e in
      record {
        shown = w;
        taken = [];
        text_is = sym (ap (λ p. p.0) both);
        bytes_are = ap (λ p. p.1) both;
        printable = printable;
        back = λ done rest ok.
            ap (option_and_then (λ r. Some (done, r))) (strip-same w rest)
            ∙ ap (λ l. Some (l, rest)) (sym (append-nil done));
        front = λ rest ok. record { rest = rest; parts = refl; follows = ok };
      };
}

pub mark-exact : (b : List ℕ) (B : List ℕ → Type 0) → IsExact (mark b) B B
mark-exact b B = record {
  exact = λ text bytes more left are e.
      option_and_then_some (λ rest. Some (text, rest)) (strip b bytes) (more, left) e (λ rest found same.
      let both = some-inj (text, rest) (more, left) same in
      record {
        shown = [];
        taken = b;
        text_is = sym (ap (λ p. p.0) both) ∙ sym (append-nil text);
        bytes_are = strip-some b bytes rest found ∙ ap (λ l. b ++ l) (ap (λ p. p.1) both);
        printable = refl;
        back = λ done r ok. refl;
        front = λ r ok. ok;
      });
}

pub then-exact : (f g : Format) (A B C : List ℕ → Type 0) → IsExact f A B → IsExact g B C → IsExact (f then g) A C
then-exact f g A B C p q = record {
  exact = λ text bytes more left are e.
      option_and_then_some (λ moved. g.show moved.0 moved.1) (f.show text bytes) (more, left) e (λ mid one_is two_is.
      let one = p.exact text bytes mid.0 mid.1 are one_is in
      let fit : AreBytes mid.1 = AreBytes-behind one.taken mid.1 (subst AreBytes one.bytes_are are) in
      let two = q.exact mid.0 mid.1 more left fit two_is in
      let read_both : List ℕ → List ℕ → Option (List ℕ × List ℕ) = after f.read g.read in
      let read_two : Option (List ℕ × List ℕ) → Option (List ℕ × List ℕ) = option_and_then (λ m. g.read m.0 m.1) in
      record {
        shown = one.shown ++ two.shown;
        taken = one.taken ++ two.taken;
        text_is = two.text_is ∙ ap (λ l. l ++ two.shown) one.text_is ∙ append_assoc text one.shown two.shown;
        bytes_are =
            one.bytes_are ∙ ap (λ l. one.taken ++ l) two.bytes_are ∙ sym (append_assoc one.taken two.taken left);
        printable = printable-append one.shown two.shown one.printable two.printable;
        back = λ done rest ok.
            ap (read_both done) (append_assoc one.shown two.shown rest)
            ∙ ap read_two (one.back done (two.shown ++ rest) (two.front rest ok))
            ∙ two.back (done ++ one.taken) rest ok
            ∙ ap (λ l. Some (l, rest)) (append_assoc done one.taken two.taken);
        front = λ rest ok.
            subst A (sym (append_assoc one.shown two.shown rest)) (one.front (two.shown ++ rest) (two.front rest ok));
      });
}

pub IsExact-weaken : (f : Format) (A A' B B' : List ℕ → Type 0) → ((l : List ℕ) → A l → A' l)
    → ((l : List ℕ) → B' l → B l) → IsExact f A B → IsExact f A' B'
IsExact-weaken f A A' B B' front behind p = record {
  exact = λ text bytes more left are e.
      let s = p.exact text bytes more left are e in
      record {
        shown = s.shown;
        taken = s.taken;
        text_is = s.text_is;
        bytes_are = s.bytes_are;
        printable = s.printable;
        back = λ done rest ok. s.back done rest (behind rest ok);
        front = λ rest ok. front (s.shown ++ rest) (s.front rest (behind rest ok));
      };
}

-- ---- parts behind their number

-- what a counted part showed
pub record CountedShown (c : Counted) (Front Behind : List ℕ → Type 0) (n : ℕ) (text bytes more left : List ℕ) : Type 0 where
  pub shown : List ℕ
  pub taken : List ℕ
  pub text_is : more ≡ text ++ shown
  pub bytes_are : bytes ≡ taken ++ left
  pub printable : IsTrue (list_all is_printable shown)
  pub back : (rest : List ℕ) → Behind rest → c.read (shown ++ rest) ≡ Some (n, (taken, rest))
  pub front : (rest : List ℕ) → Behind rest → Front (shown ++ rest)

pub record IsExactCounted (c : Counted) (Front Behind : List ℕ → Type 0) : Type 0 where
  pub exact : (n : ℕ) (text bytes more left : List ℕ) → n < 2 ^ 32 → AreBytes bytes → c.show n text bytes ≡ Some (more, left)
      → CountedShown c Front Behind n text bytes more left

-- the number of a width in front, with its bytes
pub record FrontNumber (w : Width) (limit : ℕ) (bytes : List ℕ) (n : ℕ) (rest : List ℕ) : Type 0 where
  pub number : List ℕ
  pub parts : bytes ≡ number ++ rest
  pub again : to_be_bytes w n ≡ number
  pub fits : n < limit

pub front_number-some : (w : Width) (size limit : ℕ) → IsWide w limit → size ≡ byte_len w → (bytes : List ℕ) (n : ℕ)
    (rest : List ℕ) → AreBytes bytes → front_number size (from_be_bytes w) bytes ≡ Some (n, rest)
    → FrontNumber w limit bytes n rest
front_number-some w size limit wide size_is bytes n rest are e =
    elim (cases_Bool (nat_le size (length bytes))) [
      | inl enough ↦
          let number = take size bytes in
          let found : ℕ × List ℕ = (from_be_bytes w number, drop size bytes) in
          let both = some-inj found (n, rest) (sym (cond-true (nat_le size (length bytes)) (Some found) None enough) ∙ e) in
          let n_is : from_be_bytes w number ≡ n = ap (λ p. p.0) both in
          let rest_is : drop size bytes ≡ rest = ap (λ p. p.1) both in
          let fit = IsBytes-take size bytes (IsBytes-from_all bytes are) in
          let len : length number ≡ byte_len w =
          omega (arith, size_is, length-take size bytes, leb-true size (length bytes) enough)
          in
          record {
            number = number;
            parts = sym (take-append-drop size bytes) ∙ ap (λ l. number ++ l) rest_is;
            again = ap (to_be_bytes w) (sym n_is) ∙ wide.back number len fit;
            fits = let P : ℕ → Type 0 = λ m. m < limit in subst P n_is (wide.below number fit);
          }
      | inr short ↦ none-some (n, rest) (sym (cond-false (nat_le size (length bytes)) _ None short) ∙ e)
    ]

numbered-small : (done : List ℕ) (n : ℕ) (four taken rest : List ℕ) → n < 2 ^ 32 → to_be_bytes w32 n ≡ four
    → numbered done (n, (taken, rest)) ≡ Some (done ++ (four ++ taken), rest)
numbered-small done n four taken rest lt again =
    cond-true (nat_lt n (2 ^ 32)) (Some (done ++ (to_be_bytes w32 n ++ taken), rest)) None (lt-ltb n (2 ^ 32) lt)
    ∙ ap (λ (l : List ℕ). Some (done ++ (l ++ taken), rest)) again

pub ahead-exact : (c : Counted) (A B : List ℕ → Type 0) → IsExactCounted c A B → IsExact (ahead c) A B
ahead-exact c A B p = record {
  exact = λ text bytes more left are e.
      option_and_then_some (λ front. c.show front.0 text front.1) (front_uint32 bytes) (more, left) e (λ front number_is part_is.
      let number = front_number-some w32 4 (2 ^ 32) wide32 refl bytes front.0 front.1 are number_is in
      let fit : AreBytes front.1 = AreBytes-behind number.number front.1 (subst AreBytes number.parts are) in
      let s = p.exact front.0 text front.1 more left number.fits fit part_is in
      record {
        shown = s.shown;
        taken = number.number ++ s.taken;
        text_is = s.text_is;
        bytes_are =
            number.parts ∙ ap (λ l. number.number ++ l) s.bytes_are ∙ sym (append_assoc number.number s.taken left);
        printable = s.printable;
        back = λ done rest ok.
            ap (option_and_then (numbered done)) (s.back rest ok)
            ∙ numbered-small done front.0 number.number s.taken rest number.fits number.again;
        front = s.front;
      });
}
