-- Pages in a map.
use Rattle.std.proofs.Common.{◌≡◌, ◌≢◌, ℕ, ◌+◌, ◌<◌, ◌≤◌, true, false, List, [], ◌++◌, length, Option, Some, None}
use Rattle.std.proofs.Common.{refl, ap, sym, ◌∙◌, arith, is_some, rules}
use Rattle.std.proofs.lemmas.Bool.{cases_eq, false≢true}
use Rattle.std.specs.Prelude.{IsSome}
use Rattle.std.proofs.Common.{inl, inr, take, drop, zero, suc}
use Rattle.std.proofs.lemmas.List.{nil_from_length}
use Rattle.std.specs.BTreeMap.{BTreeMap, UpdatesBy, WritesThrough, IsUpperBound, get_by}
use Rattle.std.specs.Ordering.{nat_cmp, is_eq, is_lt}
use Rattle.std.specs.Global.{Vec}
use Rattle.sftp_contents.specs.Pieces.{page, items_of, IsWithPage, AreSamePages, AreCutPages}

pub numbers-apart : (number other : ℕ) → other ≢ number → is_eq (nat_cmp number other) ≡ false
numbers-apart number other differ = search rules

pub found : (m : BTreeMap ℕ (Vec ℕ)) (number : ℕ) (o : Option (Vec ℕ)) → get_by (nat_cmp number) m ≡ o
    → page m.entries number ≡ items_of o
unfolding page
found m number o there = ap items_of there

pub updated : (m n : BTreeMap ℕ (Vec ℕ)) (number : ℕ) (w : Vec ℕ) (bytes : List ℕ) → w.items ≡ bytes
    → UpdatesBy nat_cmp (nat_cmp number) m n (Some w) → IsWithPage number bytes m.entries n.entries
unfolding page IsWithPage
updated m n number w bytes is updates =
    (ap items_of updates.1 ∙ is, λ other differ. ap items_of (updates.2 other (numbers-apart number other differ)))

pub written : (m n : BTreeMap ℕ (Vec ℕ)) (number : ℕ) (v w : Vec ℕ) (bytes : List ℕ)
    → get_by (nat_cmp number) m ≡ Some v → w.items ≡ bytes → WritesThrough nat_cmp (nat_cmp number) m w n
    → IsWithPage number bytes m.entries n.entries
written m n number v w bytes there is through = updated m n number w bytes is (through.3 (ap is_some there))

-- a page that has what it had
pub unwritten : (m n : BTreeMap ℕ (Vec ℕ)) (number : ℕ) → IsWithPage number (page m.entries number) m.entries n.entries
    → AreSamePages m.entries n.entries
unfolding IsWithPage AreSamePages
unwritten m n number with = λ other. elim (cases_eq other number) [ inl is ↦ rw is with.0 | inr differ ↦ with.1 other differ ]

pub same_pages : (m n : BTreeMap ℕ (Vec ℕ)) → n.entries ≡ m.entries → AreSamePages m.entries n.entries
unfolding AreSamePages
same_pages m n same = λ number. ap (λ es. page es number) same

-- no bytes are written to a page that is not there
pub nowhere : (m n : BTreeMap ℕ (Vec ℕ)) (number start : ℕ) (new : List ℕ) → page m.entries number ≡ []
    → start + length new ≤ length (page m.entries number) → n ≡ m
    → IsWithPage number (take start (page m.entries number) ++ (new ++ drop (start + length new) (page m.entries number)))
    m.entries n.entries
unfolding IsWithPage
nowhere m n number start new none fits same =
    let l : start + length new ≤ 0 = rw (← ap length none) fits in
    let e : new ≡ [] = nil_from_length new (omega arith) in
    let z : start ≡ 0 = omega arith in
    (rw (none, e, z, same, none) refl, λ other differ. ap (λ t. page t.entries other) same)

-- no bytes are taken from a page that is not there
pub untaken : (m n : BTreeMap ℕ (Vec ℕ)) (number count : ℕ) → page m.entries number ≡ [] → n ≡ m
    → IsWithPage number (take count (page m.entries number)) m.entries n.entries
unfolding IsWithPage
untaken m n number count none same = (rw (none, same, none) (sym (none-taken count)), λ other differ. ap (λ t. page t.entries other) same)
  where
    none-taken : (count : ℕ) → take {A = ℕ} count [] ≡ []
    none-taken zero = refl
    none-taken (suc count) = refl

pub removed : (m n : BTreeMap ℕ (Vec ℕ)) (number other : ℕ) → UpdatesBy nat_cmp (nat_cmp number) m n None
    → other ≢ number → page n.entries other ≡ page m.entries other
unfolding page
removed m n number other updates differ = ap items_of (updates.2 other (numbers-apart number other differ))

less : (k n : ℕ) → k < n → is_lt (nat_cmp k n) ≡ true
less k n h = search rules

pub above-top : (m : BTreeMap ℕ (Vec ℕ)) (k n : ℕ) → IsUpperBound nat_cmp m k → k < n → page m.entries n ≡ []
unfolding page
above-top m k n top h = by (get_by (nat_cmp n) m) (top n)
  where
    by : (o : Option (Vec ℕ)) → (IsSome o → is_lt (nat_cmp k n) ≡ false) → items_of o ≡ []
    by None none = refl
    by (Some v) none = let t = less k n h in let f = none refl in absurd (false≢true (sym f ∙ t))

pub empty-page : (m : BTreeMap ℕ (Vec ℕ)) (n : ℕ) → m.entries ≡ [] → page m.entries n ≡ []
unfolding page
empty-page m n none = rw none refl

pub cut-pages : (m l n : BTreeMap ℕ (Vec ℕ)) (last count : ℕ)
    → ((k : ℕ) → k ≤ last → page l.entries k ≡ page m.entries k) → ((k : ℕ) → last < k → page l.entries k ≡ [])
    → IsWithPage last (take count (page l.entries last)) l.entries n.entries
    → AreCutPages last count m.entries n.entries
unfolding IsWithPage AreCutPages
cut-pages m l n last count low high with = (
  with.0 ∙ ap (take count) (low last (omega arith)),
  λ k h. with.1 k (omega arith) ∙ low k (omega arith),
  λ k h. with.1 k (omega arith) ∙ high k h,
)
