-- Laws of tables, for any keys and values.
use Rattle.sftp_path.proofs.Imports.{◌≡◌, ◌≢◌, ◌+◌, Bool, true, false, cond, ◌&&◌, List, [], ◌∷◌, length, refl, sym, ap}
use Rattle.sftp_path.proofs.Imports.{subst, ◌∙◌, arith, Option, Some, None, is_some, inl, inr, is_eq, is_lt}
use Rattle.sftp_path.proofs.Imports.{match_ordering, Ordering, Less, Equal, Greater, insert_entry, is_at, lookup}
use Rattle.sftp_path.proofs.Imports.{remove_entry, keys_of, IsStrictlySortedBy, IsTotalOrder, Equal-is, IsAntisymmetric}
use Rattle.sftp_path.proofs.Imports.{cases_Bool, tied_itself, eq_by_cmp_equiv, lookup-remove_entry, sorted_head}
use Rattle.sftp_path.proofs.Imports.{sorted_tail, Table, InOrder, get, put, without, retain, from_entries, size, kept}
use Rattle.std.proofs.Math.Dec.{T}
use Rattle.std.specs.List.{AllByRecursion, filter}
use Rattle.std.specs.FinMap.Entries as sorted_list
use Rattle.std.proofs.lemmas.Map.Keys.{IsDistinct-from_sorted}

-- ---- orders

apart : (o : Ordering) → o ≢ Equal → is_eq o ≡ false
apart Less e = refl
apart Equal e = absurd (e refl)
apart Greater e = refl

both : (a b : Bool) → T a → T b → T (a && b)
both true b p q = q
both false b p q = p

first : (a b : Bool) → T (a && b) → T a
first true b p = tt
first false b p = p

second : (a b : Bool) → T (a && b) → T b
second true b p = p
second false b p = absurd p

less_from : (o : Ordering) → T (is_lt o) → o ≡ Less
less_from Less h = refl
less_from Equal h = absurd h
less_from Greater h = absurd h

-- a choice by an order, in std's two forms
turn : {A : Type 0} (o : Ordering) (x y z w : A) → z ≡ w → match_ordering o x y z ≡ sorted_list.by_order o x y w
turn Less x y z w e = refl
turn Equal x y z w e = refl
turn Greater x y z w e = e

pub InOrder-empty : {K : Type 0} (X : Type 0) (cmp : K → K → Ordering) → InOrder {X = X} cmp []
unfolding IsStrictlySortedBy
InOrder-empty X cmp = tt

module _ {K X : Type 0} (cmp : K → K → Ordering) where
  -- ---- tables and std's lists of entries in order

  insert-is : (key : K) (value : X) (es : Table K X) → insert_entry cmp es key value ≡ sorted_list.put cmp key value es
  insert-is key value [] = refl
  insert-is key value (e ∷ es) = grind (arith, turn, insert-is key value es)

  put-is : (key : K) (value : X) (es : Table K X) → put cmp es key value ≡ sorted_list.put cmp key value es
  unfolding put
  put-is = insert-is

  lookup-is : (key : K) (es : Table K X) → lookup (is_at (cmp key)) es ≡ sorted_list.find cmp key es
  lookup-is key [] = refl
  lookup-is key (e ∷ es) = ap (cond (is_eq (cmp key e.0)) (Some e.1)) (lookup-is key es)

  get-is : (key : K) (es : Table K X) → get cmp es key ≡ sorted_list.find cmp key es
  unfolding get
  get-is = lookup-is

  below-to : (key : K) (es : Table K X) → AllByRecursion (λ k. cmp key k ≡ Less) (keys_of es)
      → T (sorted_list.below_all cmp key es)
  below-to key [] h = tt
  below-to key (e ∷ es) h = grind (arith, both, below-to key es h.1)

  below-from : (key : K) (es : Table K X) → T (sorted_list.below_all cmp key es)
      → AllByRecursion (λ k. cmp key k ≡ Less) (keys_of es)
  below-from key [] h = tt
  below-from key (e ∷ es) h =
      (less_from (cmp key e.0) (first (is_lt (cmp key e.0)) (sorted_list.below_all cmp key es) h), below-from key es (second (is_lt (cmp key e.0)) (sorted_list.below_all cmp key es) h))

  sorted-to : (es : Table K X) → InOrder cmp es → T (sorted_list.is_sorted cmp es)
  sorted-to [] h = tt
  sorted-to (e ∷ es) h =
      grind (arith, both, below-to, sorted_head, sorted_tail, sorted-to es (sorted_tail cmp e.0 (keys_of es) h))

  sorted-from : (es : Table K X) → T (sorted_list.is_sorted cmp es) → InOrder cmp es
  unfolding IsStrictlySortedBy
  sorted-from [] h = tt
  sorted-from (e ∷ es) h =
      (below-from e.0 es (first (sorted_list.below_all cmp e.0 es) (sorted_list.is_sorted cmp es) h), sorted-from es (second (sorted_list.below_all cmp e.0 es) (sorted_list.is_sorted cmp es) h))

  -- ---- the value of a key

  pub get-empty : (key : K) → get {X = X} cmp [] key ≡ None
  unfolding get
  get-empty key = refl

  -- the first entry, and the others
  pub get-cons : (e : K × X) (es : Table K X) (key : K)
      → get cmp (e ∷ es) key ≡ cond (is_eq (cmp key e.0)) (Some e.1) (get cmp es key)
  unfolding get
  get-cons e es key = refl

  -- a key below all others has nothing
  pub get-below : (key : K) (es : Table K X) → AllByRecursion (λ k. cmp key k ≡ Less) (keys_of es)
      → get cmp es key ≡ None
  get-below key [] h = get-empty key
  get-below key (e ∷ es) h = grind (arith, get-cons, get-below key es h.1)

  -- ---- how many entries

  size-turn : (key : K) (value : X) (e : K × X) (es more : Table K X) (o : Ordering)
      → cond (is_eq o) (Some e.1) (lookup (is_at (cmp key)) es) ≡ None
      → (lookup (is_at (cmp key)) es ≡ None → length more ≡ length es + 1)
      → length (match_ordering o ((key, value) ∷ e ∷ es) ((e.0, value) ∷ es) (e ∷ more)) ≡ length (e ∷ es) + 1
  size-turn key value e es more Less absent rest = omega arith
  size-turn key value e es more Equal absent rest = cc
  size-turn key value e es more Greater absent rest = omega (arith, rest absent)

  length-insert : (es : Table K X) (key : K) (value : X) → lookup (is_at (cmp key)) es ≡ None
      → length (insert_entry cmp es key value) ≡ length es + 1
  length-insert [] key value absent = refl
  length-insert (e ∷ es) key value absent = grind (arith, size-turn, length-insert es key value)

  -- an absent key makes one more
  pub size-put : (es : Table K X) (key : K) (value : X) → get cmp es key ≡ None
      → size (put cmp es key value) ≡ size es + 1
  unfolding get put
  size-put = length-insert

  length-remove : (es : Table K X) (key : K) (value : X) → lookup (is_at (cmp key)) es ≡ Some value
      → length (remove_entry (is_at (cmp key)) es) + 1 ≡ length es
  length-remove [] key value there = cc
  length-remove (e ∷ es) key value there = grind (arith, length-remove es key value)

  -- to take away what is there leaves one less
  pub size-without : (es : Table K X) (key : K) (value : X) → get cmp es key ≡ Some value
      → size (without cmp es key) + 1 ≡ size es
  unfolding get without
  size-without = length-remove

  -- ---- the order, with entries less

  all-filter : (P : K → Type 0) (keeps : K × X → Bool) (es : Table K X) → AllByRecursion P (keys_of es)
      → AllByRecursion P (keys_of (filter keeps es))
  all-filter P keeps [] h = tt
  all-filter P keeps (e ∷ es) h = grind (arith, all-filter P keeps es h.1)

  sorted-filter : (keeps : K × X → Bool) (es : Table K X) → InOrder cmp es → InOrder cmp (filter keeps es)
  unfolding IsStrictlySortedBy
  sorted-filter keeps [] h = tt
  sorted-filter keeps (e ∷ es) h = by (keeps e) (sorted-filter keeps es h.1)
    where
      by : (b : Bool) → InOrder cmp (filter keeps es) → InOrder cmp (cond b (e ∷ filter keeps es) (filter keeps es))
      by true rest = (all-filter (λ k. cmp e.0 k ≡ Less) keeps es h.0, rest)
      by false rest = rest

  pub InOrder-retain : (es : Table K X) (keeps : K × X → Bool) → InOrder cmp es → InOrder cmp (retain es keeps)
  unfolding retain
  InOrder-retain es keeps = sorted-filter keeps es

  all-remove : (P : K → Type 0) (test : K → Bool) (es : Table K X) → AllByRecursion P (keys_of es)
      → AllByRecursion P (keys_of (remove_entry test es))
  all-remove P test [] h = tt
  all-remove P test (e ∷ es) h = grind (arith, all-remove P test es h.1)

  sorted-remove : (test : K → Bool) (es : Table K X) → InOrder cmp es → InOrder cmp (remove_entry test es)
  unfolding IsStrictlySortedBy
  sorted-remove test [] h = tt
  sorted-remove test (e ∷ es) h = by (test e.0) (sorted-remove test es h.1)
    where
      by : (b : Bool) → InOrder cmp (remove_entry test es) → InOrder cmp (cond b es (e ∷ remove_entry test es))
      by true rest = h.1
      by false rest = (all-remove (λ k. cmp e.0 k ≡ Less) test es h.0, rest)

  pub InOrder-without : (es : Table K X) (key : K) → InOrder cmp es → InOrder cmp (without cmp es key)
  unfolding without
  InOrder-without es key = sorted-remove (is_at (cmp key)) es

  -- ---- by the laws of an order

  module _ (total : IsTotalOrder cmp) where
    pub get-put : (es : Table K X) (key : K) (value : X) (at : K)
        → get cmp (put cmp es key value) at ≡ cond (is_eq (cmp at key)) (Some value) (get cmp es at)
    get-put es key value at = get-is at (put cmp es key value) ∙ ap (sorted_list.find cmp at) (put-is key value es)
        ∙ sorted_list.find-put cmp total at key value es
        ∙ ap (cond (is_eq (cmp at key)) (Some value)) (sym (get-is at es))

    pub get-put_here : (es : Table K X) (key : K) (value : X) → get cmp (put cmp es key value) key ≡ Some value
    get-put_here es key value = grind (arith, get-put, tied_itself)

    pub get-put_elsewhere : (es : Table K X) (key other : K) (value : X) → cmp other key ≢ Equal
        → get cmp (put cmp es key value) other ≡ get cmp es other
    get-put_elsewhere es key other value differ = simp (get-put, apart)

    pub InOrder-put : (es : Table K X) (key : K) (value : X) → InOrder cmp es → InOrder cmp (put cmp es key value)
    InOrder-put es key value h =
        sorted-from (put cmp es key value) (subst (λ fs. T (sorted_list.is_sorted cmp fs)) (sym (put-is key value es)) (sorted_list.is_sorted-put cmp total key value es (sorted-to es h)))

    pub size-put_present : (es : Table K X) (key : K) (value old : X) → InOrder cmp es → get cmp es key ≡ Some old
        → size (put cmp es key value) ≡ size es
    size-put_present es key value old h there =
        ap length (put-is key value es) ∙ sorted_list.length-put cmp total key value es (sorted-to es h)
        ∙ ap (λ o. cond (is_some o) (length es) (length es + 1)) (sym (get-is key es) ∙ there)

    lookup-without : (es : Table K X) (key at : K) → InOrder cmp es
        → lookup (is_at (cmp at)) (remove_entry (is_at (cmp key)) es)
        ≡ cond (is_eq (cmp key at)) None (lookup (is_at (cmp at)) es)
    lookup-without es key at h = lookup-remove_entry (eq_by_cmp_equiv total) (is_at (cmp key))
        (λ x y same. ap is_eq (total.congr key x y ((Equal-is (cmp key x)).0 same))) at es
        (IsDistinct-from_sorted cmp (keys_of es) h)

    pub get-without : (es : Table K X) (key at : K) → InOrder cmp es
        → get cmp (without cmp es key) at ≡ cond (is_eq (cmp key at)) None (get cmp es at)
    unfolding get without
    get-without = lookup-without

    pub get-without_here : (es : Table K X) (key : K) → InOrder cmp es → get cmp (without cmp es key) key ≡ None
    get-without_here es key h = grind (arith, get-without, tied_itself)

    pub get-without_elsewhere : (es : Table K X) (key other : K) → InOrder cmp es → cmp key other ≢ Equal
        → get cmp (without cmp es key) other ≡ get cmp es other
    get-without_elsewhere es key other h differ = simp (get-without, apart)

    pub get-from_entries : (es : List (K × X)) (at : K) → get cmp (from_entries cmp es) at ≡ get cmp es at
    unfolding from_entries
    get-from_entries [] at = refl
    get-from_entries (e ∷ es) at = simp (get-put, get-cons, get-from_entries es at)

    pub InOrder-from_entries : (es : List (K × X)) → InOrder cmp (from_entries cmp es)
    unfolding from_entries IsStrictlySortedBy
    InOrder-from_entries [] = tt
    InOrder-from_entries (e ∷ es) = InOrder-put (from_entries cmp es) e.0 e.1 (InOrder-from_entries es)

    -- ---- where keys that tie are equal

    module _ (same : IsAntisymmetric cmp) where
      pub same_table : (es fs : Table K X) → InOrder cmp es → InOrder cmp fs
          → ((key : K) → get cmp es key ≡ get cmp fs key) → es ≡ fs
      same_table es fs g h alike = sorted_list.same_entries cmp total same es fs (sorted-to es g) (sorted-to fs h)
          (λ key. sym (get-is key es) ∙ alike key ∙ get-is key fs)

      pub from_entries-is : (es : Table K X) → InOrder cmp es → from_entries cmp es ≡ es
      from_entries-is es h = same_table (from_entries cmp es) es (InOrder-from_entries es) h (get-from_entries es)

      kept-none : (keeps : K × X → Bool) (key : K) (o : Option X) → o ≡ None → kept keeps key o ≡ None
      kept-none keeps key o e = ap (kept keeps key) e

      pub get-retain : (es : Table K X) (keeps : K × X → Bool) (key : K) → InOrder cmp es
          → get cmp (retain es keeps) key ≡ kept keeps key (get cmp es key)
      unfolding get retain
      get-retain [] keeps key h = refl
      get-retain (e ∷ es) keeps key h =
          let rest : lookup (is_at (cmp key)) (filter keeps es) ≡ kept keeps key (lookup (is_at (cmp key)) es) =
          get-retain es keeps key (sorted_tail cmp e.0 (keys_of es) h) in
          elim (cases_Bool (is_eq (cmp key e.0))) [
            | inl hit ↦
                let is : key ≡ e.0 = same key e.0 ((Equal-is (cmp key e.0)).0 hit) in
                let none : lookup (is_at (cmp key)) es ≡ None =
                ap (λ k. lookup (is_at (cmp k)) es) is ∙ get-below e.0 es (sorted_head cmp e.0 (keys_of es) h) in
                here (keeps e) hit (rest ∙ kept-none keeps key (lookup (is_at (cmp key)) es) none)
                ∙ ap (λ k. cond (keeps (k, e.1)) (Some e.1) None) (sym is)
                ∙ ap (λ b. kept keeps key (cond b (Some e.1) (lookup (is_at (cmp key)) es))) (sym hit)
            | inr miss ↦ there (keeps e) miss ∙ rest
                ∙ ap (λ b. kept keeps key (cond b (Some e.1) (lookup (is_at (cmp key)) es))) (sym miss)
          ]
        where
          here : (b : Bool) → is_eq (cmp key e.0) ≡ true → lookup (is_at (cmp key)) (filter keeps es) ≡ None
              → lookup (is_at (cmp key)) (cond b (e ∷ filter keeps es) (filter keeps es)) ≡ cond b (Some e.1) None
          here true hit none = ap (λ c. cond c (Some e.1) (lookup (is_at (cmp key)) (filter keeps es))) hit
          here false hit none = none

          there : (b : Bool) → is_eq (cmp key e.0) ≡ false
              → lookup (is_at (cmp key)) (cond b (e ∷ filter keeps es) (filter keeps es))
              ≡ lookup (is_at (cmp key)) (filter keeps es)
          there true miss = ap (λ c. cond c (Some e.1) (lookup (is_at (cmp key)) (filter keeps es))) miss
          there false miss = refl

pub ruleset key_laws = (get-empty, get-put_here, get-put_elsewhere, get-without_here, get-without_elsewhere, get-from_entries)

pub ruleset order_laws = (InOrder-empty, InOrder-put, InOrder-without, InOrder-retain, InOrder-from_entries)

pub ruleset size_laws = (size-put, size-put_present, size-without)
