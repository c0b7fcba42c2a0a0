-- Orders of what several clients asked: which of them need not be tried. For any states, steps and conflicts that have
-- the laws of requests that change places.
use Rattle.std.proofs.Common.{◌≡◌, ◌==◌, ℕ, Bool, true, false, List, [], ◌∷◌, ◌++◌, refl, sym, ap, ◌∙◌}
use Rattle.std.proofs.Common.{subst, cond}
use Rattle.std.proofs.lemmas.Bool.{ne_eqb, eqb-false}
use Rattle.std.proofs.Common.{eqb-true, eq-eqb}
use Rattle.std.specs.List.{AllByRecursion}
use Rattle.sftp_packets.specs.declared.packets.Request.{Request}
use Rattle.sftp_packets.specs.declared.packets.Reply.{Reply}
use Rattle.sftp_transcript.specs.Explained.{StepOf, Run}
use Rattle.sftp_joint.specs.Orders.{Pair, Tagged, own, untagged, ClashOf, IsFreeOf, Left, IsOrderOf, behind}
use Rattle.sftp_joint.specs.Orders.{without_first, Refuted, every, one}

-- the laws of a step and a clash, in good states and for requests that are values: those of `sftp_handles`
pub record Premises {S : Type 0} (step : StepOf S) (clash : ClashOf S) (good : S → Type 0)
    (value : Request → Type 0) : Type 0 where
  -- two requests that do not clash may change places: the replies and the end are the same
  pub exchange : (s mid end : S) (p q : Request) (a b : Reply) → good s → value p → value q → clash s p q ≡ false
      → step s q b mid → step mid p a end → (other : S) × step s p a other × step other q b end
  -- what does not clash with a request makes nothing else clash with it
  pub steady : (s end : S) (p o q : Request) (a : Reply) → good s → value p
      → clash s p q ≡ false → clash s o q ≡ false → step s p a end → clash end o q ≡ false
  pub either_way : (s : S) (p q : Request) → clash s p q ≡ clash s q p
  pub stays_good : (s end : S) (p : Request) (a : Reply) → good s → value p → step s p a end → good end
  -- a state, a request and its reply fix the state after them
  pub one_end : (s : S) (p : Request) (a : Reply) (x y : S) → step s p a x → step s p a y → x ≡ y

abbrev pub AreValues : (Request → Type 0) → List Tagged → Type 0
AreValues value tagged = AllByRecursion (λ t. value t.1.0) tagged

module _ {S : Type 0} (step : StepOf S) (clash : ClashOf S) (good : S → Type 0) (value : Request → Type 0)
    (premises : Premises step clash good value) where
  -- what clashes with nothing before it may be done first
  pub moved-first : (s end : S) (front back : List Tagged) (client : ℕ) (pair : Pair) → good s
      → AreValues value front → value pair.0 → IsFreeOf clash s pair.0 front
      → Run step s (untagged (front ++ (client, pair) ∷ back)) end
      → Run step s (untagged ((client, pair) ∷ (front ++ back))) end
  unfolding untagged IsFreeOf
  moved-first s end [] back client pair is_good values is_value free run = run
  moved-first s end (t ∷ front) back client pair is_good values is_value free run =
      let mid = run.0 in
      let good_mid = premises.stays_good s mid t.1.0 t.1.1 is_good values.0 run.1 in
      let later : IsFreeOf clash mid pair.0 front = still-free s mid t front pair is_good values free run.1 in
      let inner = moved-first mid end front back client pair good_mid values.1 is_value later run.2 in
      let swapped = premises.exchange s mid inner.0 pair.0 t.1.0 pair.1 t.1.1 is_good is_value values.0
      (premises.either_way s pair.0 t.1.0 ∙ free.0) run.1 inner.1 in
      (swapped.0, swapped.1, (inner.0, swapped.2, inner.2))
    where
      still-free : (s mid : S) (t : Tagged) (front : List Tagged) (pair : Pair) → good s
          → AreValues value (t ∷ front) → IsFreeOf clash s pair.0 (t ∷ front) → step s t.1.0 t.1.1 mid
          → IsFreeOf clash mid pair.0 front
      still-free s mid t [] pair is_good values free done = tt
      still-free s mid t (u ∷ front) pair is_good values free done = (
        premises.steady s mid t.1.0 u.1.0 pair.0 t.1.1 is_good values.0 free.0 free.1.0 done,
        still-free s mid t front pair is_good (values.0, values.1.1) (free.0, free.1.1) done,
      )

-- ==== Orders and what each client has among them.

own-append : (d : ℕ) (xs ys : List Tagged) → own d (xs ++ ys) ≡ own d xs ++ own d ys
unfolding own
own-append d [] ys = refl
own-append d (t ∷ xs) ys = by (t.0 == d) (own-append d xs ys)
  where
    by : (b : Bool) → own d (xs ++ ys) ≡ own d xs ++ own d ys
        → cond b (t.1 ∷ own d (xs ++ ys)) (own d (xs ++ ys)) ≡ cond b (t.1 ∷ own d xs) (own d xs) ++ own d ys
    by true later = ap (λ (ps : List Pair). t.1 ∷ ps) later
    by false later = later

-- the first of a client
record Split (c : ℕ) (pair : Pair) (tagged : List Tagged) : Type 0 where
  front : List Tagged
  back : List Tagged
  is : tagged ≡ front ++ (c, pair) ∷ back
  none : own c front ≡ []

head-is : (p q : Pair) (ps qs : List Pair) → p ∷ ps ≡ q ∷ qs → p ≡ q
head-is p q ps qs same = cc

split : (c : ℕ) (pair : Pair) (rest : List Pair) (tagged : List Tagged) → own c tagged ≡ pair ∷ rest
    → Split c pair tagged
unfolding own
split c pair rest [] has = absurd cc
split c pair rest ((d, p) ∷ tagged) has = by (d == c) refl (split c pair rest tagged) has
  where
    by : (b : Bool) → (d == c) ≡ b → (own c tagged ≡ pair ∷ rest → Split c pair tagged)
        → cond b (p ∷ own c tagged) (own c tagged) ≡ pair ∷ rest → Split c pair ((d, p) ∷ tagged)
    by true same later now = record {
      front = [];
      back = tagged;
      is = λ i. (eqb-true d c same i, head-is p pair (own c tagged) rest now i) ∷ tagged;
      none = refl;
    }
    by false other later now =
        let cut = later now in
        record {
          front = (d, p) ∷ cut.front;
          back = cut.back;
          is = ap (λ (ts : List Tagged). (d, p) ∷ ts) cut.is;
          none = rw other cut.none;
        }

-- what is left once the first of a client is done
order-tail : (left : Left) (t : Tagged) (tagged : List Tagged) → IsOrderOf left (t ∷ tagged)
    → IsOrderOf (without_first t.0 left) tagged
unfolding own
order-tail left t tagged order d = by (d == t.0) refl
  where
    mine : d ≡ t.0 → own d (t ∷ tagged) ≡ t.1 ∷ own d tagged
    mine same = rw (eq-eqb t.0 d (sym same)) refl

    by : (b : Bool) → (d == t.0) ≡ b → own d tagged ≡ cond b (behind (left d)) (left d)
    by true same = ap behind (sym (mine (eqb-true d t.0 same)) ∙ order d)
    by false other = sym (rw (ne_eqb t.0 d (λ e. eqb-false d t.0 other (sym e))) refl) ∙ order d

order-split : (left : Left) (c : ℕ) (pair : Pair) (front back : List Tagged) → own c front ≡ []
    → IsOrderOf left (front ++ (c, pair) ∷ back) → IsOrderOf (without_first c left) (front ++ back)
unfolding own
order-split left c pair front back none order d = by (d == c) refl
  where
    parts : own d front ++ own d ((c, pair) ∷ back) ≡ left d
    parts = sym (own-append d front ((c, pair) ∷ back)) ∙ order d

    by : (b : Bool) → (d == c) ≡ b → own d (front ++ back) ≡ cond b (behind (left d)) (left d)
    by true same =
        let is : d ≡ c = eqb-true d c same in
        let empty : own d front ≡ [] = ap (λ (n : ℕ). own n front) is ∙ none in
        let here : own d ((c, pair) ∷ back) ≡ pair ∷ own d back = rw (eq-eqb c d (sym is)) refl in
        let now : pair ∷ own d back ≡ left d =
        sym here ∙ (ap (λ (ps : List Pair). ps ++ own d ((c, pair) ∷ back)) (sym empty) ∙ parts) in
        own-append d front back
        ∙ (ap (λ (ps : List Pair). ps ++ own d back) empty ∙ ap behind now)
    by false other =
        let away : own d ((c, pair) ∷ back) ≡ own d back =
        rw (ne_eqb c d (λ e. eqb-false d c other (sym e))) refl in
        own-append d front back ∙ (ap (λ (ps : List Pair). own d front ++ ps) (sym away) ∙ parts)

all-front : (P : Pair → Type 0) (xs ys : List Pair) → AllByRecursion P (xs ++ ys) → AllByRecursion P xs
all-front P [] ys all = tt
all-front P (x ∷ xs) ys all = (all.0, all-front P xs ys all.1)

-- a request that is free of all that others have left is free of what comes before it in an order
AreFree : {S : Type 0} → ClashOf S → S → Request → List Pair → Type 0
AreFree clash s request pairs = AllByRecursion (λ pair. clash s pair.0 request ≡ false) pairs

own-here : (t : Tagged) (tagged : List Tagged) → own t.0 (t ∷ tagged) ≡ t.1 ∷ own t.0 tagged
unfolding own
own-here t tagged = rw (eq-eqb t.0 t.0 refl) refl

free-tail : {S : Type 0} (clash : ClashOf S) (s : S) (request : Request) (p : Pair) (pairs : List Pair) (b : Bool)
    → AreFree clash s request (cond b (p ∷ pairs) pairs) → AreFree clash s request pairs
unfolding AreFree
free-tail clash s request p pairs true all = all.1
free-tail clash s request p pairs false all = all

none-tail : (b : Bool) (p : Pair) (pairs : List Pair) → cond b (p ∷ pairs) pairs ≡ [] → (b ≡ false) × (pairs ≡ [])
none-tail true p pairs empty = absurd cc
none-tail false p pairs empty = (refl, empty)

free-front : {S : Type 0} (clash : ClashOf S) (s : S) (c : ℕ) (request : Request) (front : List Tagged)
    → own c front ≡ [] → ((d : ℕ) → (d == c) ≡ false → AreFree clash s request (own d front))
    → IsFreeOf clash s request front
unfolding own IsFreeOf AreFree
free-front clash s c request [] none all = tt
free-front clash s c request ((e, p) ∷ front) none all =
    let away = none-tail (e == c) p (own c front) none in
    let here : AreFree clash s request (p ∷ own e front) =
    subst (AreFree clash s request) (own-here (e, p) front) (all e away.0) in (
      here.0,
      free-front clash s c request front away.1
          (λ d apart. free-tail clash s request p (own d front) (e == d) (all d apart)),
    )

values-append : (value : Request → Type 0) (xs ys : List Tagged) (t : Tagged)
    → AllByRecursion (λ t. value t.1.0) (xs ++ t ∷ ys)
    → AllByRecursion (λ t. value t.1.0) xs × value t.1.0 × AllByRecursion (λ t. value t.1.0) (xs ++ ys)
values-append value [] ys t all = (tt, all.0, all.1)
values-append value (x ∷ xs) ys t all =
    let later = values-append value xs ys t all.1 in ((all.0, later.0), later.1, (all.0, later.2))

front-free : {S : Type 0} (clash : ClashOf S) (s : S) (request : Request) (xs ys : List Pair)
    → AreFree clash s request (xs ++ ys) → AreFree clash s request xs
unfolding AreFree
front-free clash s request xs ys all = all-front (λ q. clash s q.0 request ≡ false) xs ys all

free-all : {S : Type 0} (clash : ClashOf S) (s : S) (request : Request) (pairs : List Pair)
    → AllByRecursion (λ pair. clash s pair.0 request ≡ false) pairs → AreFree clash s request pairs
unfolding AreFree
free-all clash s request pairs all = all

module _ {S : Type 0} (step : StepOf S) (clash : ClashOf S) (good : S → Type 0) (value : Request → Type 0)
    (premises : Premises step clash good value) where
  -- what a search refutes has no order
  pub no-order : (s : S) (left : Left) → Refuted step clash s left → good s → (tagged : List Tagged)
      → AllByRecursion (λ t. value t.1.0) tagged → IsOrderOf left tagged → (end : S)
      → Run step s (untagged tagged) end → ⊥
  unfolding own untagged
  no-order _ _ (every s left c pair rest has tries) is_good [] values order end run =
      absurd (let empty : [] ≡ pair ∷ rest = order c ∙ has in cc)
  no-order _ _ (every s left c pair rest has tries) is_good (t ∷ tagged) values order end run =
      let next : left t.0 ≡ t.1 ∷ own t.0 tagged = sym (order t.0) ∙ own-here t tagged in
      no-order run.0 (without_first t.0 left) (tries t.0 t.1 (own t.0 tagged) next run.0 run.1)
      (premises.stays_good s run.0 t.1.0 t.1.1 is_good values.0 run.1) tagged values.1
      (order-tail left t tagged order) end run.2
  no-order _ _ (one s left c pair rest has free tries) is_good tagged values order end run =
      let cut = split c pair rest tagged (order c ∙ has) in
      let all = subst (AllByRecursion (λ t. value t.1.0)) cut.is values in
      let parts = values-append value cut.front cut.back (c, pair) all in
      let ordered : IsOrderOf left (cut.front ++ (c, pair) ∷ cut.back) = subst (IsOrderOf left) cut.is order in
      let before : IsFreeOf clash s pair.0 cut.front =
      free-front clash s c pair.0 cut.front cut.none
      (λ d apart. front-free clash s pair.0 (own d cut.front) (own d ((c, pair) ∷ cut.back))
      (subst (AreFree clash s pair.0)
      (sym (ordered d) ∙ own-append d cut.front ((c, pair) ∷ cut.back)) (free-all clash s pair.0 (left d) (free d apart)))) in
      let moved = moved-first step clash good value premises s end cut.front cut.back c pair is_good parts.0 parts.1 before
      (subst (λ (ts : List Tagged). Run step s (untagged ts) end) cut.is run) in
      no-order moved.0 (without_first c left) (tries moved.0 moved.1)
      (premises.stays_good s moved.0 pair.0 pair.1 is_good parts.1 moved.1) (cut.front ++ cut.back) parts.2
      (order-split left c pair cut.front cut.back cut.none ordered) end moved.2
