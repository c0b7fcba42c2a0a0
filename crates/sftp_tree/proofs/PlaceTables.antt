-- Tables of places: what holds of each entry, in what order the entries are, and what is left without one.
use Rattle.sftp_tree.proofs.Imports.{◌≡◌, ◌-◌, ◌<◌, Bool, true, false, cond, List, [], ◌∷◌, ◌++◌, length, take, drop}
use Rattle.sftp_tree.proofs.Imports.{map, Option, Some, None, refl, sym, ap, subst, ◌∙◌, arith, insert_entry, keys_of}
use Rattle.sftp_tree.proofs.Imports.{lookup, AllByRecursion, IsStrictlySortedBy, IsTotalOrder, slice_cmp}
use Rattle.sftp_tree.proofs.Imports.{nat_list_cmp_total, nat_list_eq_equiv, lists_equiv, lists_ties, texts_ties}
use Rattle.sftp_tree.proofs.Imports.{nat_cmp, is_eq, ordering_reverse, Ordering, Less, Greater, tied_itself}
use Rattle.sftp_tree.proofs.Imports.{take-append-drop, map-append, length-drop, Place, place_cmp, parent, same_place}
use Rattle.sftp_tree.proofs.Imports.{◌&&◌, ◌||◌, ℕ, zero, suc, Equal-is, list_any, is_at, Node, is_below, get}
use Rattle.sftp_tree.proofs.Imports.{place_cmp-same, Names, node_at, is_taken, has_entries, ◌≤◌, remove_entry}
use Rattle.sftp_tree.proofs.Imports.{without, IsTrue, list_all, filter, IsAntisymmetric, and_parts, and_from}
use Rattle.sftp_tree.proofs.Imports.{sorted_head, sorted_tail, Table, InOrder, put, retain, get-empty, get-cons}
use Rattle.sftp_tree.proofs.Imports.{get-below, get-put, InOrder-put}
use Rattle.std.proofs.Math.Bool.{or-true}

-- ==== Lists whose keys rise, and tables that grow at their end.

-- ---- lists

pub all_both : {A : Type 0} (P : A → Type 0) (xs ys : List A) → AllByRecursion P xs → AllByRecursion P ys → AllByRecursion P (xs ++ ys)
all_both P [] ys p q = q
all_both P (x ∷ xs) ys p q = (p.0, all_both P xs ys p.1 q)

pub all_left : {A : Type 0} (P : A → Type 0) (xs ys : List A) → AllByRecursion P (xs ++ ys) → AllByRecursion P xs
all_left P [] ys p = tt
all_left P (x ∷ xs) ys p = (p.0, all_left P xs ys p.1)

pub all_right : {A : Type 0} (P : A → Type 0) (xs ys : List A) → AllByRecursion P (xs ++ ys) → AllByRecursion P ys
all_right P [] ys p = p
all_right P (x ∷ xs) ys p = all_right P xs ys p.1

-- each element's image, and each image
pub all_from_map : {A B : Type 0} (f : A → B) (P : B → Type 0) (xs : List A) → AllByRecursion P (map f xs) → AllByRecursion (λ x. P (f x)) xs
all_from_map f P [] p = tt
all_from_map f P (x ∷ xs) p = (p.0, all_from_map f P xs p.1)

pub all_to_map : {A B : Type 0} (f : A → B) (P : B → Type 0) (xs : List A) → AllByRecursion (λ x. P (f x)) xs → AllByRecursion P (map f xs)
all_to_map f P [] p = tt
all_to_map f P (x ∷ xs) p = (p.0, all_to_map f P xs p.1)

pub all_together : {A : Type 0} (P Q : A → Type 0) (xs : List A) → AllByRecursion P xs → AllByRecursion Q xs → AllByRecursion (λ x. P x × Q x) xs
all_together P Q [] p q = tt
all_together P Q (x ∷ xs) p q = ((p.0, q.0), all_together P Q xs p.1 q.1)

-- ---- keys that rise

pub sorted_push : {K : Type 0} (R : K → K → Ordering) (ks : List K) (k : K) → IsStrictlySortedBy R ks → AllByRecursion (λ q. R q k ≡ Less) ks → IsStrictlySortedBy R (ks ++ k ∷ [])
unfolding IsStrictlySortedBy
sorted_push R [] k sorted below = (tt, tt)
sorted_push R (q ∷ ks) k sorted below = (all_both (λ y. R q y ≡ Less) ks (k ∷ []) sorted.0 (below.0, tt), sorted_push R ks k sorted.1 below.1)

pub sorted_before : {K : Type 0} (R : K → K → Ordering) (ks : List K) (k : K) (rest : List K) → IsStrictlySortedBy R (ks ++ k ∷ rest) → AllByRecursion (λ q. R q k ≡ Less) ks
unfolding IsStrictlySortedBy
sorted_before R [] k rest sorted = tt
sorted_before R (q ∷ ks) k rest sorted = ((all_right (λ y. R q y ≡ Less) ks (k ∷ rest) sorted.0).0, sorted_before R ks k rest sorted.1)

pub sorted_right : {K : Type 0} (R : K → K → Ordering) (ks rest : List K) → IsStrictlySortedBy R (ks ++ rest) → IsStrictlySortedBy R rest
unfolding IsStrictlySortedBy
sorted_right R [] rest sorted = sorted
sorted_right R (q ∷ ks) rest sorted = sorted_right R ks rest sorted.1

pub sorted_left : {K : Type 0} (R : K → K → Ordering) (ks rest : List K) → IsStrictlySortedBy R (ks ++ rest) → IsStrictlySortedBy R ks
unfolding IsStrictlySortedBy
sorted_left R [] rest sorted = tt
sorted_left R (q ∷ ks) rest sorted = (all_left (λ y. R q y ≡ Less) ks rest sorted.0, sorted_left R ks rest sorted.1)

pub keys_append : {K X : Type 0} (xs ys : List (K × X)) → keys_of (xs ++ ys) ≡ keys_of xs ++ keys_of ys
keys_append xs ys = map-append (λ e. e.0) xs ys

-- ---- look-ups

cond_left : {X : Type 0} (b : Bool) (w v : X) (m n : Option X) → (m ≡ Some v → n ≡ Some v) → cond b (Some w) m ≡ Some v → cond b (Some w) n ≡ Some v
cond_left true w v m n f h = h
cond_left false w v m n f h = f h

pub lookup_left : {K X : Type 0} (test : K → Bool) (xs ys : List (K × X)) (v : X) → lookup test xs ≡ Some v → lookup test (xs ++ ys) ≡ Some v
lookup_left test [] ys v h = absurd cc
lookup_left test (x ∷ xs) ys v h = cond_left (test x.0) x.1 v (lookup test xs) (lookup test (xs ++ ys)) (lookup_left test xs ys v) h

cond_right : {X : Type 0} (b : Bool) (w : X) (m n o : Option X) → (m ≡ None → n ≡ o) → cond b (Some w) m ≡ None → cond b (Some w) n ≡ o
cond_right true w m n o f h = absurd cc
cond_right false w m n o f h = f h

pub lookup_right : {K X : Type 0} (test : K → Bool) (xs ys : List (K × X)) → lookup test xs ≡ None → lookup test (xs ++ ys) ≡ lookup test ys
lookup_right test [] ys h = refl
lookup_right test (x ∷ xs) ys h = cond_right (test x.0) x.1 (lookup test xs) (lookup test (xs ++ ys)) (lookup test ys) (lookup_right test xs ys) h

cond_found : {X : Type 0} (b : Bool) (w : X) (m : Option X) → ((v : X) × (m ≡ Some v)) → (v : X) × (cond b (Some w) m ≡ Some v)
cond_found true w m h = (w, refl)
cond_found false w m h = h

pub lookup_found : {K X : Type 0} (test : K → Bool) (xs : List (K × X)) (y : K × X) (ys : List (K × X)) → test y.0 ≡ true → (v : X) × (lookup test (xs ++ y ∷ ys) ≡ Some v)
lookup_found test [] y ys h = (y.1, rw h refl)
lookup_found test (x ∷ xs) y ys h = cond_found (test x.0) x.1 (lookup test (xs ++ y ∷ ys)) (lookup_found test xs y ys h)

-- an entry after all others
pub insert_last : {K X : Type 0} {R : K → K → Ordering} → IsTotalOrder R → (es : List (K × X)) (k : K) (v : X) → AllByRecursion (λ q. R q k ≡ Less) (keys_of es) → insert_entry R es k v ≡ es ++ (k, v) ∷ []
insert_last o [] k v below = refl
insert_last {R = R} o (e ∷ es) k v below =
    let above : R k e.0 ≡ Greater = o.antisymm k e.0 ∙ ap ordering_reverse below.0 in
    rw above (ap (λ t. e ∷ t) (insert_last o es k v below.1))

-- ---- the order of places

-- the places that tie are those that are the same
pub places_tie : (p q : Place) → is_eq (place_cmp p q) ≡ same_place q p
places_tie p q = sym (lists_ties (slice_cmp nat_cmp) texts_ties p q) ∙ (lists_equiv nat_list_eq_equiv).symm p q

front_less : {K : Type 0} {R : K → K → Ordering} → IsTotalOrder R → (xs ys : List K) → 0 < length ys → slice_cmp R xs (xs ++ ys) ≡ Less
front_less o [] [] more = absurd (omega arith)
front_less o [] (y ∷ ys) more = refl
front_less {R = R} o (x ∷ xs) ys more = rw (tied_itself o x) (front_less o xs ys more)

pub parent_less : (p : Place) → 0 < length p → place_cmp (parent p) p ≡ Less
parent_less p below =
    let whole : take (length p - 1) p ++ drop (length p - 1) p ≡ p = take-append-drop (length p - 1) p in
    subst (λ (q : Place). place_cmp (parent p) q ≡ Less) whole (front_less nat_list_cmp_total (parent p) (drop (length p - 1) p) (omega (arith, length-drop (length p - 1) p)))

-- the root is before all others
pub root_before : (p : Place) → 0 < length p → place_cmp [] p ≡ Less
root_before [] below = absurd (omega arith)
root_before (n ∷ ns) below = refl

-- ==== What is below a place: it comes right after the place, and all of it in a row.

-- ---- the parent

below-front : (q : Place) (k : ℕ) → k < length q → is_below (take k q) q ≡ true
below-front [] k less = absurd (omega arith)
below-front (n ∷ ns) zero less = refl
below-front (n ∷ ns) (suc k) less =
    let fewer : k < length ns = omega arith in
    ap (λ b. b && is_below (take k ns) ns) (nat_list_eq_equiv.refl n) ∙ below-front ns k fewer

-- what has names is below its parent
pub below-parent : (q : Place) → 0 < length q → is_below (parent q) q ≡ true
below-parent q some = let less : length q - 1 < length q = omega arith in below-front q (length q - 1) less

-- what is below a place is one of its entries
has-turn : (p q : Place) (e : Place × Node) (es : Names) → is_below p q ≡ true → (is_taken (lookup (is_at (place_cmp q)) es) ≡ true → list_any (λ e. is_below p e.0) es ≡ true) → (b : Bool) → is_eq (place_cmp q e.0) ≡ b → is_taken (cond b (Some e.1) (lookup (is_at (place_cmp q)) es)) ≡ true → (is_below p e.0 || list_any (λ e. is_below p e.0) es) ≡ true
has-turn p q e es below rest true same taken =
    let one : q ≡ e.0 = place_cmp-same q e.0 ((Equal-is (place_cmp q e.0)).0 same) in
    ap (λ x. is_below p x || list_any (λ e. is_below p e.0) es) (sym one) ∙ ap (λ b. b || list_any (λ e. is_below p e.0) es) below
has-turn p q e es below rest false apart taken = ap (λ b. is_below p e.0 || b) (rest taken) ∙ or-true (is_below p e.0)

has-below : (p q : Place) (es : Names) → is_below p q ≡ true → is_taken (lookup (is_at (place_cmp q)) es) ≡ true → list_any (λ e. is_below p e.0) es ≡ true
has-below p q [] below taken = cc
has-below p q (e ∷ es) below taken =
    has-turn p q e es below (has-below p q es below) (is_eq (place_cmp q e.0)) refl taken

-- what is taken below a place is an entry of it
pub has_entries-below : (p q : Place) (es : Names) → is_below p q ≡ true → is_taken (node_at es q) ≡ true → has_entries es p ≡ true
unfolding has_entries get
has_entries-below p q es below taken = has-below p q es below taken

-- if no entry is below a place, it has none
pub has_entries-none : (p : Place) (es : Names) → AllByRecursion (λ e. is_below p e.0 ≡ false) es → has_entries es p ≡ false
unfolding has_entries
has_entries-none p es h = none p es h
  where
    none : (p : Place) (es : Names) → AllByRecursion (λ e. is_below p e.0 ≡ false) es → list_any (λ e. is_below p e.0) es ≡ false
    none p [] h = refl
    none p (e ∷ es) h = ap (λ b. b || list_any (λ e. is_below p e.0) es) h.0 ∙ none p es h.1

-- the parent of a taken place has entries
pub has_entries-child : (q : Place) (es : Names) → 0 < length q → is_taken (node_at es q) ≡ true → has_entries es (parent q) ≡ true
unfolding has_entries get
has_entries-child q es some taken = has-below (parent q) q es (below-parent q some) taken

-- ==== Tables of places with an entry less: what is left of them.

length-remove : (test : Place → Bool) (es : Names) → length (remove_entry test es) ≤ length es
length-remove test [] = omega arith
length-remove test (e ∷ es) = by (test e.0) (length-remove test es)
  where
    by : (b : Bool) → length (remove_entry test es) ≤ length es → length (cond b es (e ∷ remove_entry test es)) ≤ length (e ∷ es)
    by true rest = omega arith
    by false rest = omega arith

-- there are no more entries without a place
pub length-without : (place : Place) (es : Names) → length (without place_cmp es place) ≤ length es
unfolding without
length-without place = length-remove (is_at (place_cmp place))

each-remove : (P : Place × Node → Type 0) (at : Place → Bool) (es : Names) → AllByRecursion P es → AllByRecursion P (remove_entry at es)
each-remove P at [] kept = tt
each-remove P at (e ∷ es) kept = by (at e.0) (each-remove P at es kept.1)
  where
    by : (b : Bool) → AllByRecursion P (remove_entry at es) → AllByRecursion P (cond b es (e ∷ remove_entry at es))
    by true rest = kept.1
    by false rest = (kept.0, rest)

-- what holds of each entry holds of each that is left
pub each-without : (P : Place × Node → Type 0) (place : Place) (es : Names) → AllByRecursion P es → AllByRecursion P (without place_cmp es place)
unfolding without
each-without P place = each-remove P (is_at (place_cmp place))

-- ==== What holds of each entry of a table, by the values at its keys; for any keys and values.

-- ---- each entry of a list

module _ {E : Type 0} where
  pub each-weaker : (P Q : E → Type 0) → ((e : E) → P e → Q e) → (es : List E) → AllByRecursion P es → AllByRecursion Q es
  each-weaker P Q so [] h = tt
  each-weaker P Q so (e ∷ es) h = (so e h.0, each-weaker P Q so es h.1)

  each-filter : (P Q : E → Type 0) (keeps : E → Bool) → ((e : E) → P e → keeps e ≡ true → Q e) → (es : List E) → AllByRecursion P es → AllByRecursion Q (filter keeps es)
  each-filter P Q keeps so [] h = tt
  each-filter P Q keeps so (e ∷ es) h = by (keeps e) refl (each-filter P Q keeps so es h.1)
    where
      by : (b : Bool) → keeps e ≡ b → AllByRecursion Q (filter keeps es) → AllByRecursion Q (cond b (e ∷ filter keeps es) (filter keeps es))
      by true is rest = (so e h.0 is, rest)
      by false is rest = rest

  pub each-all : (test : E → Bool) (es : List E) → list_all test es ≡ true → AllByRecursion (λ e. IsTrue (test e)) es
  each-all test [] h = tt
  each-all test (e ∷ es) h = let parts = and_parts (test e) (list_all test es) h in (parts.0, each-all test es parts.1)

  pub all-each : (test : E → Bool) (es : List E) → AllByRecursion (λ e. IsTrue (test e)) es → list_all test es ≡ true
  all-each test [] h = refl
  all-each test (e ∷ es) h = and_from (test e) (list_all test es) h.0 (all-each test es h.1)

module _ {K : Type 0} (cmp : K → K → Ordering) (same : IsAntisymmetric cmp) where
  tie : (a b : K) → is_eq (cmp a b) ≡ true → a ≡ b
  tie a b h = same a b ((Equal-is (cmp a b)).0 h)

module _ {K X : Type 0} where
  -- of the entries that are left, that they passed the test is known too
  pub each-retain : (P Q : K × X → Type 0) (es : Table K X) (keeps : K × X → Bool) → ((e : K × X) → P e → keeps e ≡ true → Q e) → AllByRecursion P es → AllByRecursion Q (retain es keeps)
  unfolding retain
  each-retain P Q es keeps so = each-filter P Q keeps so es

  module _ (cmp : K → K → Ordering) (same : IsAntisymmetric cmp) where
    -- what holds of each entry holds of one that is found
    pub each-get : (P : K × X → Type 0) (es : Table K X) (key : K) (value : X) → AllByRecursion P es → get cmp es key ≡ Some value → P (key, value)
    each-get P [] key value h there = absurd (nowhere (sym (get-empty cmp key) ∙ there))
      where
        nowhere : None ≡ Some value → ⊥
        nowhere e = cc
    each-get P (e ∷ es) key value h there = by (is_eq (cmp key e.0)) refl (sym (get-cons cmp e es key) ∙ there) (each-get P es key value h.1)
      where
        by : (b : Bool) → is_eq (cmp key e.0) ≡ b → cond b (Some e.1) (get cmp es key) ≡ Some value → (get cmp es key ≡ Some value → P (key, value)) → P (key, value)
        by true hit is rest =
            let at : e.0 ≡ key = sym (tie cmp same key e.0 hit) in
            let one : e.1 ≡ value = cc in
            subst P (λ i. (at i, one i)) h.0
        by false miss is rest = rest is

    module _ (total : IsTotalOrder cmp) where
      -- in a table in order what holds of all that is found holds of each entry
      pub get-each : (P : K × X → Type 0) (es : Table K X) → InOrder cmp es → ((key : K) (value : X) → get cmp es key ≡ Some value → P (key, value)) → AllByRecursion P es
      get-each P [] order holds = tt
      get-each P (e ∷ es) order holds =
          (holds e.0 e.1 here, get-each P es (sorted_tail cmp e.0 (keys_of es) order) (λ key value there. holds key value (behind key value there)))
        where
          here : get cmp (e ∷ es) e.0 ≡ Some e.1
          here = get-cons cmp e es e.0 ∙ ap (λ o. cond (is_eq o) (Some e.1) (get cmp es e.0)) (tied_itself total e.0)

          none : get cmp es e.0 ≡ None
          none = get-below cmp e.0 es (sorted_head cmp e.0 (keys_of es) order)

          by : (key : K) (value : X) (b : Bool) → is_eq (cmp key e.0) ≡ b → get cmp es key ≡ Some value → cond b (Some e.1) (get cmp es key) ≡ Some value
          by key value true hit there =
              let nothing : get cmp es key ≡ None = ap (get cmp es) (tie cmp same key e.0 hit) ∙ none in
              cc
          by key value false miss there = there

          behind : (key : K) (value : X) → get cmp es key ≡ Some value → get cmp (e ∷ es) key ≡ Some value
          behind key value there = get-cons cmp e es key ∙ by key value (is_eq (cmp key e.0)) refl there

      -- what holds of each entry and of one that is put holds of each then
      pub each-put : (P : K × X → Type 0) (es : Table K X) (key : K) (value : X) → InOrder cmp es → P (key, value) → AllByRecursion P es → AllByRecursion P (put cmp es key value)
      each-put P es key value order new h =
          get-each P (put cmp es key value) (InOrder-put cmp total es key value order) found
        where
          by : (at : K) (v : X) (b : Bool) → is_eq (cmp at key) ≡ b → cond b (Some value) (get cmp es at) ≡ Some v → P (at, v)
          by at v true hit is =
              let here : key ≡ at = sym (tie cmp same at key hit) in
              let one : value ≡ v = cc in
              subst P (λ i. (here i, one i)) new
          by at v false miss is = each-get P es at v h is

          found : (at : K) (v : X) → get cmp (put cmp es key value) at ≡ Some v → P (at, v)
          found at v there = by at v (is_eq (cmp at key)) refl (sym (get-put cmp total es key value at) ∙ there)

-- ---- what is found

-- what holds of each value holds of one that is found
found_by : {X : Type 0} (P : X → Type 0) (b : Bool) (y x : X) (o : Option X) → cond b (Some y) o ≡ Some x → P y → (o ≡ Some x → P x) → P x
found_by P true y x o e here there = let same : y ≡ x = cc in subst P same here
found_by P false y x o e here there = there e

pub lookup_holds : {K X : Type 0} (P : X → Type 0) (test : K → Bool) (es : List (K × X)) (x : X) → AllByRecursion (λ e. P e.1) es → lookup test es ≡ Some x → P x
lookup_holds P test [] x h e = cc
lookup_holds P test (entry ∷ es) x h e = found_by P (test entry.0) entry.1 x (lookup test es) e h.0 (lookup_holds P test es x h.1)
