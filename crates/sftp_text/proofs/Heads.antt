-- The line of a head is read as the bytes that it shows: its limits tell the opening.
use Rattle.std.proofs.Common.{◌≡◌, ℕ, ◌^◌, Bool, true, false, List, [], ◌∷◌, ◌++◌, Option, Some, None, refl, sym, ap, subst}
use Rattle.std.proofs.Common.{◌∙◌, append_assoc, arith, cond}
use Rattle.std.specs.Prelude.{IsTrue, is_some, option_and_then, codes, decimal, nat_lt}
use Rattle.std.specs.Int.{w32, w64, to_be_bytes}
use Rattle.std.specs.List.{list_all}
use Rattle.std.proofs.lemmas.Bool.{cond-true, lt-ltb}
use Rattle.std.proofs.lemmas.Option.{option_and_then_some}
use Rattle.sftp_packets.specs.Spelling.{AreBytes}
use Rattle.sftp_text.specs.Formats.{Step, Format, after, nothing, ◌then◌, word, mark, strip}
use Rattle.sftp_text.specs.Digits.{number, long}
use Rattle.sftp_text.specs.Digits.{string_text}
use Rattle.sftp_text.specs.declared.openings.Opening.{Opening}
use Rattle.sftp_text.specs.declared.openings.Opening.TheVariants.{Usual, Raised, Wide}
use Rattle.sftp_text.specs.Trees.{opening, front_text, four_limits, five_limits, behind_front, head_of, begins_wide}
use Rattle.sftp_text.specs.Trees.{opening_of, opening_by_limits, opening_behind, opening_named, head_text}
use Rattle.sftp_text.specs.Lines.{is_printable, is_blank}
use Rattle.sftp_text.proofs.Exact.{some-inj, IsExact, IsExact-weaken, Shown, then-exact, Behind, AreBytes-behind}
use Rattle.sftp_text.proofs.Exact.{nothing-exact, strip-same, strip-some}
use Rattle.sftp_text.proofs.Numerals.{EndsWord, NumberFront, number-exact, long-exact, decimal-read}
use Rattle.sftp_text.proofs.Strings.{StartsQuoted, string_text-exact}
use Rattle.sftp_text.proofs.Repeats.{IsEnd}
use Rattle.sftp_text.proofs.Parts.{Anything, behind_word}
use Rattle.sftp_text.proofs.Bodies.{SpaceFront, space-behind, space-ends}

-- a line that says something
abbrev pub IsSaid : List ℕ → Type 0
IsSaid l = is_blank l ≡ false

pub end-space : (l : List ℕ) → IsEnd l → SpaceFront l
end-space l e = subst SpaceFront (sym e) refl

-- a number behind a word that begins with a space
pub spaced_number : (w : List ℕ) (B : List ℕ → Type 0) → ((l : List ℕ) → B l → SpaceFront l)
    → IsTrue (list_all is_printable (32 ∷ w)) → IsExact (word (32 ∷ w) then number) SpaceFront B
spaced_number w B space printable =
    IsExact-weaken _ _ SpaceFront B B (space-behind _ w) (λ l b. b)
    (behind_word (32 ∷ w) number _ B printable (number-exact B (λ l b. space-ends l (space l b))))

pub spaced_then : (w : List ℕ) (f : Format) (B : List ℕ → Type 0) → IsTrue (list_all is_printable (32 ∷ w))
    → IsExact f SpaceFront B → IsExact (word (32 ∷ w) then number then f) SpaceFront B
spaced_then w f B printable p =
    IsExact-weaken _ _ SpaceFront B B (space-behind _ w) (λ l b. b)
    (behind_word (32 ∷ w) (number then f) _ B printable
    (then-exact number f _ SpaceFront B (number-exact SpaceFront space-ends) p))

spaced_long : (f : Format) (B : List ℕ → Type 0) → IsExact f SpaceFront B
    → IsExact (word (codes " ") then long then f) SpaceFront B
spaced_long f B p =
    IsExact-weaken _ _ SpaceFront B B (space-behind _ []) (λ l b. b)
    (behind_word (codes " ") (long then f) _ B refl (then-exact long f _ SpaceFront B (long-exact SpaceFront space-ends) p))

last_long : (B : List ℕ → Type 0) → ((l : List ℕ) → B l → SpaceFront l)
    → IsExact (word (codes " ") then long) SpaceFront B
last_long B space =
    IsExact-weaken _ _ SpaceFront B B (space-behind _ []) (λ l b. b)
    (behind_word (codes " ") long _ B refl (long-exact B (λ l b. space-ends l (space l b))))

front_text-exact : IsExact front_text IsSaid SpaceFront
front_text-exact =
    let gid = spaced_number (codes "gid ") SpaceFront (λ l s. s) refl in
    let uid = spaced_then (codes "uid ") (word (codes " gid ") then number) SpaceFront refl gid in
    let home = then-exact string_text _ StartsQuoted SpaceFront SpaceFront (string_text-exact SpaceFront) uid in
    IsExact-weaken _ _ IsSaid SpaceFront SpaceFront (λ l b. ap is_blank b.parts) (λ l s. s)
    (behind_word (codes "home ") _ StartsQuoted SpaceFront refl home)

-- ---- what a list is read as, whatever was done before

-- a step takes a list to what follows
record Passes (f : Step) (list rest : List ℕ) : Type 0 where
  passes : (done : List ℕ) → (more : List ℕ) × (f done list ≡ Some (more, rest))

passes-word : (w : List ℕ) (B : List ℕ → Type 0) (l : List ℕ) (b : Behind w B l) → Passes (word w).read l b.rest
passes-word w B l b = record {
  passes = λ done. (
    done,
    ap ((word w).read done) b.parts ∙ ap (option_and_then (λ r. Some (done, r))) (strip-same w b.rest),
  );
}

passes-number : (B : List ℕ → Type 0) (l : List ℕ) → ((r : List ℕ) → B r → EndsWord r)
    → (n : NumberFront decimal (2 ^ 32) B l) → Passes number.read l n.rest
unfolding number
passes-number B l ends n = record {
  passes = λ done.
      let next : ℕ × List ℕ → Option (List ℕ × List ℕ) =
      λ f. cond (nat_lt f.0 (2 ^ 32)) (Some (done ++ to_be_bytes w32 f.0, f.1)) None
      in (
        done ++ to_be_bytes w32 n.value,
        ap (number.read done) n.parts
            ∙ ap (option_and_then next) ((decimal-read (2 ^ 32) (omega arith)).back n.value n.rest n.fits (ends n.rest n.follows))
            ∙ cond-true (nat_lt n.value (2 ^ 32)) (Some (done ++ to_be_bytes w32 n.value, n.rest)) None
            (lt-ltb n.value (2 ^ 32) n.fits),
      );
}

-- what is a uint32 is a uint64, too
passes-long : (B : List ℕ → Type 0) (l : List ℕ) → ((r : List ℕ) → B r → EndsWord r)
    → (n : NumberFront decimal (2 ^ 32) B l) → Passes long.read l n.rest
unfolding long
passes-long B l ends n = record {
  passes = λ done.
      let next : ℕ × List ℕ → Option (List ℕ × List ℕ) =
      λ f. cond (nat_lt f.0 (2 ^ 64)) (Some (done ++ to_be_bytes w64 f.0, f.1)) None
      in (
        done ++ to_be_bytes w64 n.value,
        ap (long.read done) n.parts
            ∙ ap (option_and_then next) ((decimal-read (2 ^ 32) (omega arith)).back n.value n.rest n.fits (ends n.rest n.follows))
            ∙ cond-true (nat_lt n.value (2 ^ 64)) (Some (done ++ to_be_bytes w64 n.value, n.rest)) None
            (lt-ltb n.value (2 ^ 64) (omega (arith, n.fits))),
      );
}

-- nothing is read where what follows a step is not
none-behind : (f g : Step) (l rest : List ℕ) → Passes f l rest → ((done : List ℕ) → g done rest ≡ None)
    → (done : List ℕ) → after f g done l ≡ None
none-behind f g l rest p none done =
    let next : List ℕ × List ℕ → Option (List ℕ × List ℕ) = λ m. g m.0 m.1 in
    ap (option_and_then next) (p.passes done).1 ∙ none (p.passes done).0

-- ---- limits tell the opening

-- four limits, and then the count of entries
abbrev Count : List ℕ → Type 0
Count = Behind (codes " entries ") Anything

abbrev Numbered : (List ℕ → Type 0) → List ℕ → Type 0
Numbered B = Behind (codes " ") (NumberFront decimal (2 ^ 32) B)

abbrev Four : List ℕ → Type 0
Four = Behind (codes " limits ") (NumberFront decimal (2 ^ 32) (Numbered (Numbered (Numbered Count))))

count-ends : (l : List ℕ) → Count l → EndsWord l
count-ends l b = subst EndsWord (sym b.parts) refl

numbered-ends : (B : List ℕ → Type 0) (l : List ℕ) → Numbered B l → EndsWord l
numbered-ends B l b = subst EndsWord (sym b.parts) refl

no_fifth : (l : List ℕ) → Count l → (done : List ℕ) → (word (codes " ") then long).read done l ≡ None
unfolding long
no_fifth l b done = ap ((word (codes " ") then long).read done) b.parts

-- four limits are not five
four_not_five : (l : List ℕ) → Four l → (done : List ℕ) → five_limits.read done l ≡ None
four_not_five l a =
    let b = a.follows in
    let c = b.follows in
    let d = c.follows in
    let e = d.follows in
    let f = e.follows in
    let g = f.follows in
    let h = g.follows in
    let space : Format = word (codes " ") in
    let total : Format = space then long in
    let handles : Format = number then total in
    let reads : Format = number then space then handles in
    let files : Format = long then space then reads in
    let all : Format = number then space then files in
    let at_total : (done : List ℕ) → total.read done h.rest ≡ None = no_fifth h.rest h.follows in
    let at_handles : (done : List ℕ) → handles.read done g.rest ≡ None =
    none-behind number.read total.read g.rest h.rest (passes-number Count g.rest count-ends h) at_total
    in
    let before_handles : (done : List ℕ) → (space then handles).read done f.rest ≡ None =
    none-behind space.read handles.read f.rest g.rest (passes-word (codes " ") _ f.rest g) at_handles
    in
    let at_reads : (done : List ℕ) → reads.read done e.rest ≡ None =
    none-behind number.read (space then handles).read e.rest f.rest
    (passes-number (Numbered Count) e.rest (numbered-ends Count) f) before_handles
    in
    let before_reads : (done : List ℕ) → (space then reads).read done d.rest ≡ None =
    none-behind space.read reads.read d.rest e.rest (passes-word (codes " ") _ d.rest e) at_reads
    in
    let at_files : (done : List ℕ) → files.read done c.rest ≡ None =
    none-behind long.read (space then reads).read c.rest d.rest
    (passes-long (Numbered (Numbered Count)) c.rest (numbered-ends (Numbered Count)) d) before_reads
    in
    let before_files : (done : List ℕ) → (space then files).read done b.rest ≡ None =
    none-behind space.read files.read b.rest c.rest (passes-word (codes " ") _ b.rest c) at_files
    in
    let at_all : (done : List ℕ) → all.read done a.rest ≡ None =
    none-behind number.read (space then files).read a.rest b.rest
    (passes-number (Numbered (Numbered (Numbered Count))) a.rest (numbered-ends (Numbered (Numbered Count))) b) before_files
    in
    none-behind (word (codes " limits ")).read all.read l a.rest (passes-word (codes " limits ") _ l a) at_all

-- a list that a format reads up to what may follow it
record ReadsUpTo (f : Format) (B : List ℕ → Type 0) (list : List ℕ) : Type 0 where
  done : List ℕ
  rest : List ℕ
  read : f.read [] list ≡ Some (done, rest)
  follows : B rest

reads-exact : (f : Format) (A B : List ℕ → Type 0) → IsExact f A B → IsExact f (λ l. A l × ReadsUpTo f B l) B
reads-exact f A B p = record {
  exact = λ text bytes more left are e.
      let s = p.exact text bytes more left are e in
      record {
        shown = s.shown;
        taken = s.taken;
        text_is = s.text_is;
        bytes_are = s.bytes_are;
        printable = s.printable;
        back = s.back;
        front = λ rest ok.
            (s.front rest ok, record { done = [] ++ s.taken; rest = rest; read = s.back [] rest ok; follows = ok });
      };
}

-- what follows the front, by the opening: the count, or limits, which are five if they are read as five
abbrev Tells : Opening → List ℕ → Type 0
Tells begins l = SpaceFront l × (opening_by_limits l ≡ begins)

tells-none : (l : List ℕ) → Count l → Tells Usual l
tells-none l b = (subst SpaceFront (sym b.parts) refl, ap opening_by_limits b.parts)

limits_in_front : (B : List ℕ → Type 0) (l : List ℕ) → Behind (codes " limits ") B l
    → is_some (strip (codes " limits ") l) ≡ true
limits_in_front B l b = ap (λ x. is_some (strip (codes " limits ") x)) b.parts

by_limits : (l : List ℕ) (five : Bool) → is_some (strip (codes " limits ") l) ≡ true
    → is_some (five_limits.read [] l) ≡ five → opening_by_limits l ≡ cond five Wide Raised
by_limits l five some is =
    cond-true (is_some (strip (codes " limits ") l)) (cond (is_some (five_limits.read [] l)) Wide Raised) Usual some
    ∙ ap (λ (b : Bool). cond b Wide Raised) is

tells-four : (l : List ℕ) → Four l → Tells Raised l
tells-four l b =
    (subst SpaceFront (sym b.parts) refl, by_limits l false (limits_in_front _ l b) (ap is_some (four_not_five l b [])))

tells-five : (B : List ℕ → Type 0) (l : List ℕ) → Behind (codes " limits ") B l × ReadsUpTo five_limits SpaceFront l
    → Tells Wide l
tells-five B l b =
    (subst SpaceFront (sym b.0.parts) refl, by_limits l true (limits_in_front B l b.0) (ap is_some b.1.read))

four_limits-exact : IsExact four_limits Four Count
four_limits-exact =
    let ends : (B : List ℕ → Type 0) (l : List ℕ) → Numbered B l → EndsWord l = numbered-ends in
    let next : (f : Format) (B C : List ℕ → Type 0) → ((l : List ℕ) → B l → EndsWord l) → IsExact f B C
    → IsExact (word (codes " ") then number then f) (Numbered B) C =
    λ f B C stops p.
    behind_word (codes " ") (number then f) _ C refl (then-exact number f _ B C (number-exact B stops) p)
    in
    let handles = behind_word (codes " ") number _ Count refl (number-exact Count count-ends) in
    let reads = next (word (codes " ") then number) (Numbered Count) Count (ends Count) handles in
    let files = next _ (Numbered (Numbered Count)) Count (ends (Numbered Count)) reads in
    behind_word (codes " limits ") _ _ Count refl
    (then-exact number _ _ (Numbered (Numbered (Numbered Count))) Count
    (number-exact (Numbered (Numbered (Numbered Count))) (ends (Numbered (Numbered Count)))) files)

five_limits-exact : IsExact five_limits (Behind (codes " limits ") (NumberFront decimal (2 ^ 32) SpaceFront)) SpaceFront
five_limits-exact =
    let total = last_long SpaceFront (λ l s. s) in
    let handles = spaced_then [] _ SpaceFront refl total in
    let reads = spaced_then [] _ SpaceFront refl handles in
    let files = spaced_long _ SpaceFront reads in
    behind_word (codes " limits ") _ _ SpaceFront refl
    (then-exact number _ _ SpaceFront SpaceFront (number-exact SpaceFront space-ends) files)

any_behind : (w : List ℕ) (A : List ℕ → Type 0) (l : List ℕ) → Behind w A l → Behind w Anything l
any_behind w A l b = record { rest = b.rest; parts = b.parts; follows = tt }

count-exact : IsExact (word (codes " entries ") then number) Count IsEnd
count-exact =
    IsExact-weaken _ _ Count IsEnd IsEnd (any_behind (codes " entries ") _) (λ l e. e)
    (behind_word (codes " entries ") number _ IsEnd refl (number-exact IsEnd (λ l e. space-ends l (end-space l e))))

behind_front-exact : (begins : Opening) → IsExact (behind_front begins) (Tells begins) IsEnd
behind_front-exact Usual =
    IsExact-weaken _ Count (Tells Usual) IsEnd IsEnd tells-none (λ l e. e)
    (then-exact nothing (word (codes " entries ") then number) Count Count IsEnd (nothing-exact Count) count-exact)
behind_front-exact Raised =
    IsExact-weaken _ Four (Tells Raised) IsEnd IsEnd tells-four (λ l e. e)
    (then-exact four_limits (word (codes " entries ") then number) Four Count IsEnd four_limits-exact count-exact)
behind_front-exact Wide =
    let five = reads-exact five_limits _ SpaceFront five_limits-exact in
    let count : IsExact (word (codes " entries ") then number) SpaceFront IsEnd =
    IsExact-weaken _ Count SpaceFront IsEnd IsEnd (λ l b. (tells-none l b).0) (λ l e. e) count-exact
    in
    IsExact-weaken _ _ (Tells Wide) IsEnd IsEnd (tells-five _) (λ l e. e)
    (then-exact five_limits (word (codes " entries ") then number) _ SpaceFront IsEnd five count)

-- ---- the head

opening_told : (begins : Opening) (l : List ℕ) → ReadsUpTo front_text (Tells begins) l → opening_named l ≡ begins
unfolding opening_named
opening_told begins l r = ap opening_behind r.read ∙ r.follows.1

-- what follows the opening
behind_opening-exact : (begins : Opening)
    → IsExact (front_text then behind_front begins) (λ l. IsSaid l × (opening_named l ≡ begins)) IsEnd
behind_opening-exact begins =
    let front = IsExact-weaken front_text IsSaid IsSaid SpaceFront (Tells begins) (λ l s. s) (λ l t. t.0) front_text-exact in
    let read = reads-exact front_text IsSaid (Tells begins) front in
    let both = then-exact front_text (behind_front begins) _ (Tells begins) IsEnd read (behind_front-exact begins) in
    IsExact-weaken (front_text then behind_front begins) _ _ IsEnd IsEnd (λ l f. (f.0, opening_told begins l f.1)) (λ l e. e) both

-- what comes behind an opening does not say which it is
same_opening : (begins : Opening) (xs ys : List ℕ) → begins_wide (opening begins ++ xs) ≡ begins_wide (opening begins ++ ys)
same_opening Usual xs ys = refl
same_opening Raised xs ys = refl
same_opening Wide xs ys = refl

-- what a head showed, and that the bytes that it took have the opening of all
pub record HeadShown (text bytes more left : List ℕ) : Type 0 where
  pub shown : Shown head_text IsSaid IsEnd text bytes more left
  pub opens : begins_wide shown.taken ≡ begins_wide bytes

pub head-shown : (text bytes more left : List ℕ) → AreBytes bytes → head_text.show text bytes ≡ Some (more, left)
    → HeadShown text bytes more left
unfolding head_text
head-shown text bytes more left are e =
    let begins : Opening = opening_of bytes in
    let inner : List ℕ × List ℕ → Option (List ℕ × List ℕ) = λ m. (front_text then behind_front begins).show m.0 m.1 in
    option_and_then_some inner ((mark (opening begins)).show text bytes) (more, left) e (λ mid mid_is here.
    option_and_then_some (λ rest. Some (text, rest)) (strip (opening begins) bytes) mid mid_is (λ rest rest_is same.
    let parts : bytes ≡ opening begins ++ rest = strip-some (opening begins) bytes rest rest_is in
    let fit : AreBytes rest = AreBytes-behind (opening begins) rest (subst AreBytes parts are) in
    let shows : (front_text then behind_front begins).show text rest ≡ Some (more, left) =
    ap inner (some-inj (text, rest) mid same) ∙ here
    in
    let s = (behind_opening-exact begins).exact text rest more left fit shows in
    record {
      shown = record {
        shown = s.shown;
        taken = opening begins ++ s.taken;
        text_is = s.text_is;
        bytes_are = parts ∙ ap (λ l. opening begins ++ l) s.bytes_are ∙ sym (append_assoc (opening begins) s.taken left);
        printable = s.printable;
        back = λ done r ok.
            ap (λ o. (head_of o).read done (s.shown ++ r)) (s.front r ok).1 ∙ s.back (done ++ opening begins) r ok
            ∙ ap (λ l. Some (l, r)) (append_assoc done (opening begins) s.taken);
        front = λ r ok. (s.front r ok).0;
      };
      opens = same_opening begins s.taken rest ∙ ap begins_wide (sym parts);
    }))
