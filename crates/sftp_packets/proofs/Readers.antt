-- Readers and the ways to combine them; loops that read.
use Rattle.std.proofs.Common.{◌≡◌, ℕ, Bool, true, false, cond, List, [], ◌++◌, Result, Ok, Err, refl, sym, ap, ◌∙◌}
use Rattle.std.proofs.Common.{append_assoc, zero, suc, ◌<◌, ◌≤◌, ◌∷◌, length, Option, Some, None, subst, arith, ◌-◌}
use Rattle.std.proofs.Common.{◌+◌}
use Rattle.sftp_packets.specs.declared.errors.Fault.{Fault}
use Rattle.sftp_packets.specs.Reading.{◌>>=◌, Reader, one, two, three, optional_at, many_at, up_to_end, Reads}
use Rattle.sftp_strings.proofs.Bytes.{IsBytes}
use Rattle.std.specs.Prelude.{IfSome, is_some}
use Rattle.std.specs.List.{flat_map, AllByRecursion}
use Rattle.std.proofs.lemmas.List.{length-append}
use Rattle.std.proofs.lemmas.List.Concat.{flat_map-cons}
use Rattle.sftp_packets.specs.Spelling.{optional}
use Rattle.sftp_packets.specs.declared.errors.ReadError.{ReadError}
use Rattle.sftp_packets.specs.declared.errors.ReadError.TheVariants as reads

-- ==== The steps of a reader: what follows when none of them failed.

-- the value of a step that did not fail
pub bind_ok : {A B : Type 0} (read : Result A Fault) (next : A → Result B Fault) (y : B) → (read >>= next) ≡ Ok y → (x : A) × (read ≡ Ok x) × (next x ≡ Ok y)
bind_ok (Ok x) next y e = (x, refl, e)
bind_ok (Err fault) next y e = absurd cc

-- a test that refuses where it holds, and did not hold
pub guard_ok : {B : Type 0} (test : Bool) (fault : Fault) (read : Result B Fault) (y : B) → cond test (Err fault) read ≡ Ok y → (test ≡ false) × (read ≡ Ok y)
guard_ok true fault read y e = absurd cc
guard_ok false fault read y e = (refl, e)

-- a test that refuses where it does not hold, and held
pub guard_held : {B : Type 0} (test : Bool) (fault : Fault) (read : Result B Fault) (y : B) → cond test read (Err fault) ≡ Ok y → (test ≡ true) × (read ≡ Ok y)
guard_held true fault read y e = (refl, e)
guard_held false fault read y e = absurd cc

abbrev done : {A : Type 0} → A → Result A Fault
done x = Ok x

pub ok_is : {A : Type 0} (x y : A) → done x ≡ done y → x ≡ y
ok_is x y e = cc

-- what a reader took from the front
pub record Takes (bytes text rest : List ℕ) : Type 0 where
  pub parts : bytes ≡ text ++ rest
  pub rest_fits : IsBytes rest

pub Takes-none : (bytes : List ℕ) → IsBytes bytes → Takes bytes [] bytes
Takes-none bytes fits = record { parts = refl; rest_fits = fits }

pub Takes-then : (a x b y c : List ℕ) → Takes a x b → Takes b y c → Takes a (x ++ y) c
Takes-then a x b y c p q = record { parts = p.parts ∙ ap (λ (t : List ℕ). x ++ t) q.parts ∙ sym (append_assoc x y c); rest_fits = q.rest_fits }

-- ==== The laws of readers, for each way to put readers together: what is read is spelled so and fits, and what fits is
-- read again, whatever follows.

-- what is read is spelled so, and fits
abbrev pub TakesAs : {A : Type 0} → Reader A → (A → List ℕ) → (A → Type 0) → Type 0
TakesAs {A = A} read spell Fits = (bytes : List ℕ) (x : A) (rest : List ℕ) → IsBytes bytes → read bytes ≡ Ok (x, rest) → Takes bytes (spell x) rest × Fits x

-- what fits is read again, whatever follows
abbrev pub AgainAs : {A : Type 0} → Reader A → (A → List ℕ) → (A → Type 0) → Type 0
AgainAs {A = A} read spell Fits = (rest : List ℕ) (x : A) → Fits x → read (spell x ++ rest) ≡ Ok (x, rest)

-- ---- one

pub one_takes : {A C : Type 0} (first : Reader A) (make : A → C) (spell_first : A → List ℕ) (spell : C → List ℕ) (FitsFirst : A → Type 0) (Fits : C → Type 0)
    → TakesAs first spell_first FitsFirst → ((a : A) → spell (make a) ≡ spell_first a) → ((a : A) → FitsFirst a → Fits (make a)) → TakesAs (one first make) spell Fits
one_takes {C = C} first make spell_first spell FitsFirst Fits takes_first same fit bytes x rest is_bytes e =
    let a = bind_ok (first bytes) (λ a. Ok (make a.0, a.1)) (x, rest) e in
    let t = takes_first bytes a.0.0 a.0.1 is_bytes a.1 in
    subst (λ (y : C × List ℕ). Takes bytes (spell y.0) y.1 × Fits y.0) (ok_is (make a.0.0, a.0.1) (x, rest) a.2) (rw (same a.0.0) t.0, fit a.0.0 t.1)

pub one_again : {A C : Type 0} (first : Reader A) (make : A → C) (text : List ℕ) (a : A) (rest : List ℕ) → first (text ++ rest) ≡ Ok (a, rest) → one first make (text ++ rest) ≡ Ok (make a, rest)
one_again first make text a rest e = rw e refl

-- ---- two

pub two_takes : {A B C : Type 0} (first : Reader A) (second : Reader B) (make : A → B → C) (spell_first : A → List ℕ) (spell_second : B → List ℕ) (spell : C → List ℕ)
    (FitsFirst : A → Type 0) (FitsSecond : B → Type 0) (Fits : C → Type 0)
    → TakesAs first spell_first FitsFirst → TakesAs second spell_second FitsSecond → ((a : A) (b : B) → spell (make a b) ≡ spell_first a ++ spell_second b)
    → ((a : A) (b : B) → FitsFirst a → FitsSecond b → Fits (make a b)) → TakesAs (two first second make) spell Fits
two_takes {C = C} first second make spell_first spell_second spell FitsFirst FitsSecond Fits takes_first takes_second same fit bytes x rest is_bytes e =
    let a = bind_ok (first bytes) (λ a. second a.1 >>= λ b. Ok (make a.0 b.0, b.1)) (x, rest) e in
    let b = bind_ok (second a.0.1) (λ b. Ok (make a.0.0 b.0, b.1)) (x, rest) a.2 in
    let t = takes_first bytes a.0.0 a.0.1 is_bytes a.1 in
    let u = takes_second a.0.1 b.0.0 b.0.1 t.0.rest_fits b.1 in
    let both = Takes-then bytes (spell_first a.0.0) a.0.1 (spell_second b.0.0) b.0.1 t.0 u.0 in
    subst (λ (y : C × List ℕ). Takes bytes (spell y.0) y.1 × Fits y.0) (ok_is (make a.0.0 b.0.0, b.0.1) (x, rest) b.2) (rw (same a.0.0 b.0.0) both, fit a.0.0 b.0.0 t.1 u.1)

pub two_again : {A B C : Type 0} (first : Reader A) (second : Reader B) (make : A → B → C) (spell_first : A → List ℕ) (spell_second : B → List ℕ) (a : A) (b : B) (rest : List ℕ)
    → first (spell_first a ++ (spell_second b ++ rest)) ≡ Ok (a, spell_second b ++ rest) → second (spell_second b ++ rest) ≡ Ok (b, rest)
    → two first second make ((spell_first a ++ spell_second b) ++ rest) ≡ Ok (make a b, rest)
two_again first second make spell_first spell_second a b rest e f =
    ap (two first second make) (append_assoc (spell_first a) (spell_second b) rest) ∙ rw (e, f) refl

-- ---- three

pub three_takes : {A B C D : Type 0} (first : Reader A) (second : Reader B) (third : Reader C) (make : A → B → C → D)
    (spell_first : A → List ℕ) (spell_second : B → List ℕ) (spell_third : C → List ℕ) (spell : D → List ℕ)
    (FitsFirst : A → Type 0) (FitsSecond : B → Type 0) (FitsThird : C → Type 0) (Fits : D → Type 0)
    → TakesAs first spell_first FitsFirst → TakesAs second spell_second FitsSecond → TakesAs third spell_third FitsThird
    → ((a : A) (b : B) (c : C) → spell (make a b c) ≡ spell_first a ++ (spell_second b ++ spell_third c))
    → ((a : A) (b : B) (c : C) → FitsFirst a → FitsSecond b → FitsThird c → Fits (make a b c)) → TakesAs (three first second third make) spell Fits
three_takes {D = D} first second third make spell_first spell_second spell_third spell FitsFirst FitsSecond FitsThird Fits takes_first takes_second takes_third same fit bytes x rest is_bytes e =
    let a = bind_ok (first bytes) (λ a. second a.1 >>= λ b. third b.1 >>= λ c. Ok (make a.0 b.0 c.0, c.1)) (x, rest) e in
    let b = bind_ok (second a.0.1) (λ b. third b.1 >>= λ c. Ok (make a.0.0 b.0 c.0, c.1)) (x, rest) a.2 in
    let c = bind_ok (third b.0.1) (λ c. Ok (make a.0.0 b.0.0 c.0, c.1)) (x, rest) b.2 in
    let t = takes_first bytes a.0.0 a.0.1 is_bytes a.1 in
    let u = takes_second a.0.1 b.0.0 b.0.1 t.0.rest_fits b.1 in
    let v = takes_third b.0.1 c.0.0 c.0.1 u.0.rest_fits c.1 in
    let last = Takes-then a.0.1 (spell_second b.0.0) b.0.1 (spell_third c.0.0) c.0.1 u.0 v.0 in
    let all = Takes-then bytes (spell_first a.0.0) a.0.1 (spell_second b.0.0 ++ spell_third c.0.0) c.0.1 t.0 last in
    subst (λ (y : D × List ℕ). Takes bytes (spell y.0) y.1 × Fits y.0) (ok_is (make a.0.0 b.0.0 c.0.0, c.0.1) (x, rest) c.2) (rw (same a.0.0 b.0.0 c.0.0) all, fit a.0.0 b.0.0 c.0.0 t.1 u.1 v.1)

pub three_again : {A B C D : Type 0} (first : Reader A) (second : Reader B) (third : Reader C) (make : A → B → C → D)
    (spell_first : A → List ℕ) (spell_second : B → List ℕ) (spell_third : C → List ℕ) (a : A) (b : B) (c : C) (rest : List ℕ)
    → first (spell_first a ++ (spell_second b ++ (spell_third c ++ rest))) ≡ Ok (a, spell_second b ++ (spell_third c ++ rest))
    → second (spell_second b ++ (spell_third c ++ rest)) ≡ Ok (b, spell_third c ++ rest) → third (spell_third c ++ rest) ≡ Ok (c, rest)
    → three first second third make ((spell_first a ++ (spell_second b ++ spell_third c)) ++ rest) ≡ Ok (make a b c, rest)
three_again first second third make spell_first spell_second spell_third a b c rest e f g =
    let regrouped : (spell_first a ++ (spell_second b ++ spell_third c)) ++ rest ≡ spell_first a ++ (spell_second b ++ (spell_third c ++ rest)) =
    append_assoc (spell_first a) (spell_second b ++ spell_third c) rest ∙ ap (λ (x : List ℕ). spell_first a ++ x) (append_assoc (spell_second b) (spell_third c) rest) in
    ap (three first second third make) regrouped ∙ rw (e, f, g) refl

-- ---- an optional field

-- a field is read where it is present
pub optional_takes : {A : Type 0} (there : Bool) (read : Reader A) (spell : A → List ℕ) (Fits : A → Type 0)
    → TakesAs read spell Fits → TakesAs (optional_at there read) (optional spell) (λ o. IfSome o Fits × (is_some o ≡ there))
optional_takes {A = A} true read spell Fits takes bytes x rest is_bytes e =
    one_takes read Some spell (optional spell) Fits (λ o. IfSome o Fits × (is_some o ≡ true)) takes (λ a. refl) (λ a fits. (fits, refl)) bytes x rest is_bytes e
optional_takes {A = A} false read spell Fits takes bytes x rest is_bytes e =
    let none : Option A = None in
    subst (λ (y : Option A × List ℕ). Takes bytes (optional spell y.0) y.1 × (IfSome y.0 Fits × (is_some y.0 ≡ false))) (ok_is (none, bytes) (x, rest) e) (Takes-none bytes is_bytes, (tt, refl))

pub optional_again : {A : Type 0} (read : Reader A) (spell : A → List ℕ) (Fits : A → Type 0) → AgainAs read spell Fits
    → (rest : List ℕ) (there : Bool) (o : Option A) → is_some o ≡ there → IfSome o Fits → optional_at there read (optional spell o ++ rest) ≡ Ok (o, rest)
optional_again read spell Fits again rest true None is fits = absurd cc
optional_again read spell Fits again rest false None is fits = refl
optional_again read spell Fits again rest true (Some a) is fits = one_again read Some (spell a) a rest (again rest a fits)
optional_again read spell Fits again rest false (Some a) is fits = absurd cc

-- ---- `count` values

pub many_takes : {A : Type 0} (read : Reader A) (spell : A → List ℕ) (Fits : A → Type 0) → TakesAs read spell Fits
    → (count : ℕ) → TakesAs (many_at read count) (flat_map spell) (λ xs. (length xs ≡ count) × AllByRecursion Fits xs)
many_takes {A = A} read spell Fits takes zero bytes x rest is_bytes e =
    let none : List A = [] in
    subst (λ (y : List A × List ℕ). Takes bytes (flat_map spell y.0) y.1 × ((length y.0 ≡ 0) × AllByRecursion Fits y.0)) (ok_is (none, bytes) (x, rest) e) (Takes-none bytes is_bytes, (refl, tt))
many_takes {A = A} read spell Fits takes (suc count) bytes x rest is_bytes e =
    two_takes read (many_at read count) (λ first others. first ∷ others) spell (flat_map spell) (flat_map spell) Fits (λ xs. (length xs ≡ count) × AllByRecursion Fits xs)
    (λ xs. (length xs ≡ suc count) × AllByRecursion Fits xs) takes (many_takes read spell Fits takes count) (λ first others. flat_map-cons spell first others)
    (λ first others f g. (ap suc g.0, (f, g.1))) bytes x rest is_bytes e

pub many_again : {A : Type 0} (read : Reader A) (spell : A → List ℕ) (Fits : A → Type 0) → AgainAs read spell Fits
    → (rest : List ℕ) (xs : List A) → AllByRecursion Fits xs → many_at read (length xs) (flat_map spell xs ++ rest) ≡ Ok (xs, rest)
many_again read spell Fits again rest [] fits = refl
many_again {A = A} read spell Fits again rest (x ∷ xs) fits =
    ap (λ (text : List ℕ). many_at read (suc (length xs)) (text ++ rest)) (flat_map-cons spell x xs)
    ∙ two_again read (many_at read (length xs)) (λ first others. first ∷ others) spell (flat_map spell) x xs rest (again (flat_map spell xs ++ rest) x fits.0) (many_again read spell Fits again rest xs fits.1)

-- ---- up to the end

-- each value takes at least a byte, so no bytes are left
pub up_to_end_takes : {A : Type 0} (read : Reader A) (spell : A → List ℕ) (Fits : A → Type 0) → TakesAs read spell Fits
    → (most : ℕ) → TakesAs (up_to_end read most) (flat_map spell) (AllByRecursion Fits)
up_to_end_takes {A = A} read spell Fits takes zero bytes x rest is_bytes e =
    let none : List A = [] in
    subst (λ (y : List A × List ℕ). Takes bytes (flat_map spell y.0) y.1 × AllByRecursion Fits y.0) (ok_is (none, bytes) (x, rest) e) (Takes-none bytes is_bytes, tt)
up_to_end_takes {A = A} read spell Fits takes (suc most) [] x rest is_bytes e =
    let none : List A = [] in
    subst (λ (y : List A × List ℕ). Takes [] (flat_map spell y.0) y.1 × AllByRecursion Fits y.0) (ok_is (none, []) (x, rest) e) (Takes-none [] is_bytes, tt)
up_to_end_takes {A = A} read spell Fits takes (suc most) (b ∷ bytes) x rest is_bytes e =
    two_takes read (up_to_end read most) (λ first others. first ∷ others) spell (flat_map spell) (flat_map spell) Fits (AllByRecursion Fits) (AllByRecursion Fits)
    takes (up_to_end_takes read spell Fits takes most) (λ first others. flat_map-cons spell first others) (λ first others f g. (f, g)) (b ∷ bytes) x rest is_bytes e

-- a spelling that is not empty, read up to the end
up_to_end_step : {A : Type 0} (read : Reader A) (most : ℕ) (bytes : List ℕ) → 0 < length bytes
    → up_to_end read (suc most) bytes ≡ two read (up_to_end read most) (λ first others. first ∷ others) bytes
up_to_end_step read most [] there = absurd (omega arith)
up_to_end_step read most (b ∷ bytes) there = refl

pub up_to_end_again : {A : Type 0} (read : Reader A) (spell : A → List ℕ) (Fits : A → Type 0) → AgainAs read spell Fits → ((x : A) → 0 < length (spell x))
    → (most : ℕ) (xs : List A) → length xs ≤ most → AllByRecursion Fits xs → up_to_end read most (flat_map spell xs ++ []) ≡ Ok (xs, [])
up_to_end_again read spell Fits again long zero [] le fits = refl
up_to_end_again read spell Fits again long (suc most) [] le fits = refl
up_to_end_again read spell Fits again long zero (x ∷ xs) le fits = absurd (omega arith)
up_to_end_again {A = A} read spell Fits again long (suc most) (x ∷ xs) le fits =
    let first = long x in
    let there : 0 < length ((spell x ++ flat_map spell xs) ++ []) = omega (arith, length-append (spell x ++ flat_map spell xs) [], length-append (spell x) (flat_map spell xs)) in
    ap (λ (text : List ℕ). up_to_end read (suc most) (text ++ [])) (flat_map-cons spell x xs)
    ∙ up_to_end_step read most ((spell x ++ flat_map spell xs) ++ []) there
    ∙ two_again read (up_to_end read most) (λ first others. first ∷ others) spell (flat_map spell) x xs [] (again (flat_map spell xs ++ []) x fits.0) (up_to_end_again read spell Fits again long most xs (omega arith) fits.1)

-- ==== Values that are read one after the other, as loops read them.

-- the values read before, and those still to be read
abbrev pub with_front : {A : Type 0} → List A → Result (List A × List ℕ) Fault → Result (List A × List ℕ) Fault
with_front front read = read >>= λ x. Ok (front ++ x.0, x.1)

regroup : {A : Type 0} (front : List A) (n : A) (read : Result (List A × List ℕ) Fault) → with_front front (read >>= λ x. Ok (n ∷ x.0, x.1)) ≡ with_front (front ++ n ∷ []) read
regroup {A = A} front n (Ok x) = ap (λ (xs : List A). Ok (xs, x.1)) (simp append_assoc)
regroup front n (Err fault) = refl

-- ---- `count` values

pub many-goes_on : {A : Type 0} (read : Reader A) (front : List A) (count i : ℕ) (bytes : List ℕ) (n : A) (after : List ℕ) (total : Result (List A × List ℕ) Fault)
    → i < count → read bytes ≡ Ok (n, after) → with_front front (many_at read (count - i) bytes) ≡ total → with_front (front ++ n ∷ []) (many_at read (count - (i + 1)) after) ≡ total
many-goes_on read front count i bytes n after total lt is so_far =
    let k : count - i ≡ suc (count - (i + 1)) = omega arith in
    let one : with_front front (many_at read (count - i) bytes) ≡ with_front (front ++ n ∷ []) (many_at read (count - (i + 1)) after) = rw (k, is) (regroup front n (many_at read (count - (i + 1)) after)) in
    sym one ∙ so_far

pub many-fails : {A : Type 0} (read : Reader A) (error : ReadError) (front : List A) (count i : ℕ) (bytes after : List ℕ) (total : Result (List A × List ℕ) Fault)
    → i < count → Reads {A = A} (Err error) after (read bytes) → with_front front (many_at read (count - i) bytes) ≡ total → Reads {A = List A} (Err error) after total
many-fails read reads.NoMemory front count i bytes after total lt fails so_far = tt
many-fails read (reads.Fault fault) front count i bytes after total lt fails so_far =
    let k : count - i ≡ suc (count - (i + 1)) = omega arith in
    let one : with_front front (many_at read (count - i) bytes) ≡ Err fault = rw (k, fails) refl in
    sym so_far ∙ one

-- ---- up to the end

-- what is still to be read, where at most so many values may come
pub record ReadsOn {A : Type 0} (read : Reader A) (front : List A) (bytes : List ℕ) (total : Result (List A × List ℕ) Fault) : Type 0 where
  pub most : ℕ
  pub enough : length bytes ≤ most
  pub so_far : with_front front (up_to_end read most bytes) ≡ total

with_none : {A : Type 0} (read : Result (List A × List ℕ) Fault) → with_front [] read ≡ read
with_none (Ok x) = refl
with_none (Err fault) = refl

pub ReadsOn-start : {A : Type 0} (read : Reader A) (bytes : List ℕ) → ReadsOn read [] bytes (up_to_end read (length bytes) bytes)
ReadsOn-start read bytes = record { most = length bytes; enough = omega arith; so_far = with_none (up_to_end read (length bytes) bytes) }

pub ReadsOn-goes_on : {A : Type 0} (read : Reader A) (front : List A) (bytes : List ℕ) (n : A) (after : List ℕ) (total : Result (List A × List ℕ) Fault)
    → length after < length bytes → read bytes ≡ Ok (n, after) → ReadsOn read front bytes total → ReadsOn read (front ++ n ∷ []) after total
ReadsOn-goes_on read front [] n after total shorter is on = absurd (omega arith)
ReadsOn-goes_on read front (b ∷ bytes) n after total shorter is on = ReadsOn-goes_on_by read front b bytes n after total on.most shorter on.enough is on.so_far
  where
    ReadsOn-goes_on_by : {A : Type 0} (read : Reader A) (front : List A) (b : ℕ) (bytes : List ℕ) (n : A) (after : List ℕ) (total : Result (List A × List ℕ) Fault) (most : ℕ)
        → length after < length (b ∷ bytes) → length (b ∷ bytes) ≤ most → read (b ∷ bytes) ≡ Ok (n, after) → with_front front (up_to_end read most (b ∷ bytes)) ≡ total → ReadsOn read (front ++ n ∷ []) after total
    ReadsOn-goes_on_by read front b bytes n after total zero shorter enough is so_far = absurd (omega arith)
    ReadsOn-goes_on_by read front b bytes n after total (suc most) shorter enough is so_far =
        let one : with_front front (up_to_end read (suc most) (b ∷ bytes)) ≡ with_front (front ++ n ∷ []) (up_to_end read most after) = rw is (regroup front n (up_to_end read most after)) in
        record { most = most; enough = omega arith; so_far = sym one ∙ so_far }
