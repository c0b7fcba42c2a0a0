-- The entries of a table one by one: how many there are, their values, and tests of each.
use Rattle.sftp_path.proofs.Imports.{◌≡◌, ◌≢◌, Bool, true, false, cond, List, [], ◌∷◌, ◌++◌, refl, sym, ap, ◌∙◌}
use Rattle.sftp_path.proofs.Imports.{Option, Some, arith, None, is_eq, Ordering, Less, Equal, is_at, lookup}
use Rattle.sftp_path.proofs.Imports.{remove_entry, keys_of, IsStrictlySortedBy, IsTotalOrder, Equal-is}
use Rattle.sftp_path.proofs.Imports.{IsAntisymmetric, false_from_ne_true, tied_itself, Table, InOrder, get, put}
use Rattle.sftp_path.proofs.Imports.{without, from_entries, ◌+◌, ◌<◌, ℕ, if◌then◌else◌, length, IsTrue}
use Rattle.sftp_path.proofs.Imports.{match_ordering, Greater, insert_entry, lookup-none, sorted_tail, retain, count}
use Rattle.sftp_path.proofs.Imports.{subst, length-map, size, with_values, ◌&&◌, list_all, and_parts, and_from}
use Rattle.std.specs.List.{AllByRecursion, filter}
use Rattle.sftp_path.proofs.Table.Laws.{get-empty, get-cons, get-put, get-without, get-from_entries, InOrder-put}
use Rattle.sftp_path.proofs.Table.Laws.{InOrder-without, InOrder-from_entries, same_table}
use Rattle.std.proofs.lemmas.Map.Entries.{none_below_head}
use Rattle.std.specs.Option.{option_map}
use Rattle.std.proofs.lemmas.Map.Made.{lookup-map_values, keys_of-map_values}

-- ==== Laws of the entries of a table one by one: the last one, those in front, and two keys that do not tie.

none-parts : {X : Type 0} (b : Bool) (value : X) (o : Option X) → cond b (Some value) o ≡ None
    → (b ≡ false) × (o ≡ None)
none-parts true value o h = cc
none-parts false value o h = (refl, h)

-- two choices, one of which is not made, come in either order
swap-choices : {A : Type 0} (b c : Bool) (x y z : A) → (b ≡ true → c ≡ true → ⊥)
    → cond b x (cond c y z) ≡ cond c y (cond b x z)
swap-choices true true x y z never = absurd (never refl refl)
swap-choices true false x y z never = refl
swap-choices false c x y z never = refl

all-behind : {K X : Type 0} (P : K → Type 0) (es : Table K X) (e : K × X) (fs : Table K X)
    → AllByRecursion P (keys_of (es ++ e ∷ fs)) → P e.0
all-behind P [] e fs h = h.0
all-behind P (x ∷ xs) e fs h = all-behind P xs e fs h.1

not-both : (o p : Ordering) → o ≡ Less → p ≡ Equal → o ≡ p → ⊥
not-both o p is_less is_equal same = cc

module _ {K : Type 0} (cmp : K → K → Ordering) (total : IsTotalOrder cmp) (same : IsAntisymmetric cmp) where
  tie : (a b : K) → is_eq (cmp a b) ≡ true → a ≡ b
  tie a b h = same a b ((Equal-is (cmp a b)).0 h)

  -- what rises to a key does not tie with it
  less-apart : (a b : K) → cmp a b ≡ Less → is_eq (cmp b a) ≡ false
  less-apart a b less = grind (arith, false_from_ne_true, not-both, tied_itself, tie)

module _ {K X : Type 0} (cmp : K → K → Ordering) where
  -- a key has no value: neither in the first entry, nor in the others
  pub get-none : (e : K × X) (es : Table K X) (key : K) → get cmp (e ∷ es) key ≡ None
      → (is_eq (cmp key e.0) ≡ false) × (get cmp es key ≡ None)
  get-none e es key h = none-parts (is_eq (cmp key e.0)) e.1 (get cmp es key) (sym (get-cons cmp e es key) ∙ h)

  -- a key has no value: neither in front, nor after
  pub get-none_front : (es fs : Table K X) (key : K) → get cmp (es ++ fs) key ≡ None → get cmp es key ≡ None
  get-none_front [] fs key h = get-empty cmp key
  get-none_front (x ∷ xs) fs key h = grind (arith, get-none, get-cons, get-none_front xs fs key)

  pub get-none_behind : (es fs : Table K X) (key : K) → get cmp (es ++ fs) key ≡ None → get cmp fs key ≡ None
  get-none_behind [] fs key h = h
  get-none_behind (x ∷ xs) fs key h = get-none_behind xs fs key (get-none x (xs ++ fs) key h).1

  module _ (total : IsTotalOrder cmp) (same : IsAntisymmetric cmp) where
    -- in a table in order no entry in front has the key of one after
    pub get-front : (es : Table K X) (e : K × X) (fs : Table K X) → InOrder cmp (es ++ e ∷ fs) → get cmp es e.0 ≡ None
    unfolding IsStrictlySortedBy
    get-front [] e fs h = get-empty cmp e.0
    get-front (x ∷ xs) e fs h =
        let miss : is_eq (cmp e.0 x.0) ≡ false =
        less-apart cmp total same x.0 e.0 (all-behind (λ k. cmp x.0 k ≡ Less) xs e fs h.0) in
        get-cons cmp x xs e.0 ∙ (λ i. cond (miss i) (Some x.1) (get-front xs e fs h.1 i))

    -- one entry more at the end, with a key that none in front has
    pub get-last : (es : Table K X) (e : K × X) (at : K) → get cmp es e.0 ≡ None
        → get cmp (es ++ e ∷ []) at ≡ cond (is_eq (cmp at e.0)) (Some e.1) (get cmp es at)
    get-last [] e at absent = get-cons cmp e [] at
    get-last (x ∷ xs) e at absent = grind (arith, get-none, get-cons, swap-choices, tie, get-last xs e at)

    -- the table of entries is made from the first to the last as well, where no key comes twice
    pub from_entries-last : (es : List (K × X)) (e : K × X) → get cmp es e.0 ≡ None
        → from_entries cmp (es ++ e ∷ []) ≡ put cmp (from_entries cmp es) e.0 e.1
    from_entries-last es e absent =
        same_table cmp total same (from_entries cmp (es ++ e ∷ [])) (put cmp (from_entries cmp es) e.0 e.1)
        (InOrder-from_entries cmp total (es ++ e ∷ []))
        (InOrder-put cmp total (from_entries cmp es) e.0 e.1 (InOrder-from_entries cmp total es)) (λ at.
        get-from_entries cmp total (es ++ e ∷ []) at ∙ get-last es e at absent
        ∙ ap (cond (is_eq (cmp at e.0)) (Some e.1)) (sym (get-from_entries cmp total es at))
        ∙ sym (get-put cmp total (from_entries cmp es) e.0 e.1 at))

    -- a key put and another taken away, in one order or the other
    pub put-without : (es : Table K X) (gone key : K) (value : X) → InOrder cmp es → cmp gone key ≢ Equal
        → put cmp (without cmp es gone) key value ≡ without cmp (put cmp es key value) gone
    put-without es gone key value order differ =
        same_table cmp total same (put cmp (without cmp es gone) key value) (without cmp (put cmp es key value) gone)
        (InOrder-put cmp total (without cmp es gone) key value (InOrder-without cmp es gone order))
        (InOrder-without cmp (put cmp es key value) gone (InOrder-put cmp total es key value order)) (λ at.
        get-put cmp total (without cmp es gone) key value at
        ∙ ap (cond (is_eq (cmp at key)) (Some value)) (get-without cmp total es gone at order)
        ∙ swap-choices (is_eq (cmp at key)) (is_eq (cmp gone at)) (Some value) None (get cmp es at) (never at)
        ∙ ap (cond (is_eq (cmp gone at)) None) (sym (get-put cmp total es key value at))
        ∙ sym (get-without cmp total (put cmp es key value) gone at (InOrder-put cmp total es key value order)))
      where
        never : (at : K) → is_eq (cmp at key) ≡ true → is_eq (cmp gone at) ≡ true → ⊥
        never at g h = differ (ap (λ k. cmp gone k) (sym (tie cmp total same at key g)) ∙ (Equal-is (cmp gone at)).0 h)

-- ---- a key that is not there

remove-absent : {K X : Type 0} (test : K → Bool) (es : Table K X) → lookup test es ≡ None → remove_entry test es ≡ es
remove-absent test [] absent = refl
remove-absent test (e ∷ es) absent = grind (arith, remove-absent test es)

-- to take it away changes nothing
pub without-absent : {K X : Type 0} (cmp : K → K → Ordering) (es : Table K X) (key : K) → get cmp es key ≡ None
    → without cmp es key ≡ es
unfolding get without
without-absent cmp es key = remove-absent (is_at (cmp key)) es

pub ruleset absent_laws = (without-absent)

-- ==== How many values of a table pass a test, after each operation; for any keys and values.

-- 1 for a value that passes
abbrev pub one_if : Bool → ℕ
one_if passes = if passes then 1 else 0

module _ {K X : Type 0} (passes : X → Bool) where
  -- the test of an entry's value
  abbrev of_value : K × X → Bool
  of_value e = passes e.1

  count-with : (b : Bool) (e : K × X) (es : Table K X) → length (cond b (e ∷ es) es) ≡ one_if b + length es
  count-with true e es = omega arith
  count-with false e es = omega arith

  -- the first entry, and the others
  count-cons : (e : K × X) (es : Table K X)
      → length (filter of_value (e ∷ es)) ≡ one_if (passes e.1) + length (filter of_value es)
  count-cons e es = count-with (passes e.1) e (filter of_value es)

  module _ (cmp : K → K → Ordering) where
    -- ---- a new key

    new-turn : (key : K) (value : X) (e : K × X) (es more : Table K X) (o : Ordering)
        → cond (is_eq o) (Some e.1) (lookup (is_at (cmp key)) es) ≡ None
        → (lookup (is_at (cmp key)) es ≡ None → length (filter of_value more) ≡ length (filter of_value es) + one_if (passes value))
        → length (filter of_value (match_ordering o ((key, value) ∷ e ∷ es) ((e.0, value) ∷ es) (e ∷ more)))
        ≡ length (filter of_value (e ∷ es)) + one_if (passes value)
    new-turn key value e es more Less absent rest = omega (arith, count-cons (key, value) (e ∷ es))
    new-turn key value e es more Equal absent rest = cc
    new-turn key value e es more Greater absent rest = omega (arith, count-cons e es, count-cons e more, rest absent)

    count-insert_new : (es : Table K X) (key : K) (value : X) → lookup (is_at (cmp key)) es ≡ None
        → length (filter of_value (insert_entry cmp es key value)) ≡ length (filter of_value es) + one_if (passes value)
    count-insert_new [] key value absent = count-cons (key, value) [] ∙ omega arith
    count-insert_new (e ∷ es) key value absent = simp (new-turn, count-insert_new es key value)

    -- ---- a key taken away

    count-remove : (es : Table K X) (key : K) (value : X) → lookup (is_at (cmp key)) es ≡ Some value
        → length (filter of_value (remove_entry (is_at (cmp key)) es)) + one_if (passes value)
        ≡ length (filter of_value es)
    count-remove [] key value there = cc
    count-remove (e ∷ es) key value there = grind (arith, count-cons, count-remove es key value)

    -- ---- another value at a key, by the laws of an order

    module _ (total : IsTotalOrder cmp) where
      again-turn : (key : K) (value old : X) (e : K × X) (es more : Table K X) (o : Ordering) → cmp key e.0 ≡ o
          → InOrder cmp (e ∷ es) → lookup (is_at (cmp key)) (e ∷ es) ≡ Some old
          → cond (is_eq o) (Some e.1) (lookup (is_at (cmp key)) es) ≡ Some old
          → (lookup (is_at (cmp key)) es ≡ Some old → length (filter of_value more) + one_if (passes old) ≡ length (filter of_value es) + one_if (passes value))
          → length (filter of_value (match_ordering o ((key, value) ∷ e ∷ es) ((e.0, value) ∷ es) (e ∷ more))) + one_if (passes old) ≡ length (filter of_value (e ∷ es)) + one_if (passes value)
      again-turn key value old e es more Less is order there there_o rest = grind (arith, lookup-none, none_below_head)
      again-turn key value old e es more Equal is order there there_o rest = grind (arith, count-cons)
      again-turn key value old e es more Greater is order there there_o rest = grind (arith, count-cons)

      count-insert_again : (es : Table K X) (key : K) (value old : X) → InOrder cmp es
          → lookup (is_at (cmp key)) es ≡ Some old
          → length (filter of_value (insert_entry cmp es key value)) + one_if (passes old)
          ≡ length (filter of_value es) + one_if (passes value)
      count-insert_again [] key value old order there = cc
      count-insert_again (e ∷ es) key value old order there =
          simp (again-turn, sorted_tail, count-insert_again es key value old (sorted_tail cmp e.0 (keys_of es) order))

-- ---- the laws

module _ {K X : Type 0} where
  -- the first entry, and the others
  pub count-step : (e : K × X) (es : Table K X) (passes : X → Bool)
      → count (e ∷ es) passes ≡ one_if (passes e.1) + count es passes
  unfolding retain
  count-step e es passes = count-cons passes e es

  module _ (cmp : K → K → Ordering) where
    pub count-put_new : (es : Table K X) (key : K) (value : X) (passes : X → Bool) → get cmp es key ≡ None
        → count (put cmp es key value) passes ≡ count es passes + one_if (passes value)
    unfolding get put retain
    count-put_new es key value passes = count-insert_new passes cmp es key value

    pub count-without : (es : Table K X) (key : K) (value : X) (passes : X → Bool) → get cmp es key ≡ Some value
        → count (without cmp es key) passes + one_if (passes value) ≡ count es passes
    unfolding get without retain
    count-without es key value passes = count-remove passes cmp es key value

    -- a value that passes is counted
    pub count-found : (es : Table K X) (key : K) (value : X) (passes : X → Bool) → get cmp es key ≡ Some value
        → IsTrue (passes value) → 0 < count es passes
    count-found es key value passes there passing =
        omega (arith, count-without es key value passes there, ap (λ b. one_if b) passing)

    pub count-put_again : IsTotalOrder cmp → (es : Table K X) (key : K) (value old : X) (passes : X → Bool)
        → InOrder cmp es → get cmp es key ≡ Some old
        → count (put cmp es key value) passes + one_if (passes old) ≡ count es passes + one_if (passes value)
    unfolding get put retain
    count-put_again total es key value old passes = count-insert_again passes cmp total es key value old

pub ruleset count_laws = (count-put_new, count-put_again, count-without, count-found)

-- ==== Laws of a table whose keys get other values, each made of the one before.

module _ {K X Y : Type 0} (f : X → Y) where
  insert-turn : (key : K) (value : X) (e : K × X) (es more : Table K X) (others : Table K Y) (o : Ordering)
      → with_values f more ≡ others
      → with_values f (match_ordering o ((key, value) ∷ e ∷ es) ((e.0, value) ∷ es) (e ∷ more))
      ≡ match_ordering o ((key, f value) ∷ (e.0, f e.1) ∷ with_values f es) ((e.0, f value) ∷ with_values f es) ((e.0, f e.1) ∷ others)
  insert-turn key value e es more others Less is = refl
  insert-turn key value e es more others Equal is = refl
  insert-turn key value e es more others Greater is = ap (λ fs. (e.0, f e.1) ∷ fs) is

  with_values-insert : (cmp : K → K → Ordering) (es : Table K X) (key : K) (value : X)
      → with_values f (insert_entry cmp es key value) ≡ insert_entry cmp (with_values f es) key (f value)
  with_values-insert cmp [] key value = refl
  with_values-insert cmp (e ∷ es) key value = grind (arith, insert-turn, with_values-insert cmp es key value)

  with_values-remove : (test : K → Bool) (es : Table K X)
      → with_values f (remove_entry test es) ≡ remove_entry test (with_values f es)
  with_values-remove test [] = refl
  with_values-remove test (e ∷ es) = grind (arith, with_values-remove test es)

  pub size-with_values : (es : Table K X) → size (with_values f es) ≡ size es
  size-with_values es = length-map es (λ (e : K × X). (e.0, f e.1))

-- ---- the laws, by the comparison of the keys

module _ {K X Y : Type 0} (cmp : K → K → Ordering) (f : X → Y) where
  pub get-with_values : (es : Table K X) (key : K) → get cmp (with_values f es) key ≡ option_map f (get cmp es key)
  unfolding get
  get-with_values es key = lookup-map_values f (is_at (cmp key)) es

  pub with_values-put : (es : Table K X) (key : K) (value : X)
      → with_values f (put cmp es key value) ≡ put cmp (with_values f es) key (f value)
  unfolding put
  with_values-put = with_values-insert f cmp

  pub with_values-without : (es : Table K X) (key : K)
      → with_values f (without cmp es key) ≡ without cmp (with_values f es) key
  unfolding without
  with_values-without es key = with_values-remove f (is_at (cmp key)) es

  pub InOrder-with_values : (es : Table K X) → InOrder cmp es → InOrder cmp (with_values f es)
  InOrder-with_values es = subst (IsStrictlySortedBy cmp) (sym (keys_of-map_values f es))

pub ruleset value_laws = (get-with_values, with_values-put, with_values-without, InOrder-with_values, size-with_values)

-- ==== Laws of a test that all entries of a table pass, after each operation.

swap-tests : (a b c : Bool) → (a && (b && c)) ≡ (b && (a && c))
swap-tests true b c = refl
swap-tests false true c = refl
swap-tests false false c = refl

-- what a test implies adds nothing to it
implied : (a b : Bool) → (b ≡ true → a ≡ true) → (a && b) ≡ b
implied true b from = refl
implied false true from = from refl
implied false false from = refl

module _ {K X : Type 0} (cmp : K → K → Ordering) where
  -- ---- a new key

  test-turn : (keeps : K × X → Bool) (key : K) (value : X) (e : K × X) (es more : Table K X) (o : Ordering)
      → cond (is_eq o) (Some e.1) (lookup (is_at (cmp key)) es) ≡ None
      → (lookup (is_at (cmp key)) es ≡ None → list_all keeps more ≡ (keeps (key, value) && list_all keeps es))
      → list_all keeps (match_ordering o ((key, value) ∷ e ∷ es) ((e.0, value) ∷ es) (e ∷ more))
      ≡ (keeps (key, value) && list_all keeps (e ∷ es))
  test-turn keeps key value e es more Less absent rest = refl
  test-turn keeps key value e es more Equal absent rest = cc
  test-turn keeps key value e es more Greater absent rest = grind (arith, swap-tests)

  all-insert_new : (keeps : K × X → Bool) (es : Table K X) (key : K) (value : X) → lookup (is_at (cmp key)) es ≡ None
      → list_all keeps (insert_entry cmp es key value) ≡ (keeps (key, value) && list_all keeps es)
  all-insert_new keeps [] key value absent = refl
  all-insert_new keeps (e ∷ es) key value absent = simp (test-turn, all-insert_new keeps es key value)

  pub all-put_new : (es : Table K X) (key : K) (value : X) (keeps : K × X → Bool) → get cmp es key ≡ None
      → list_all keeps (put cmp es key value) ≡ (keeps (key, value) && list_all keeps es)
  unfolding get put
  all-put_new es key value keeps = all-insert_new keeps es key value

  -- ---- a key taken away

  all-remove : (keeps : K × X → Bool) (test : K → Bool) (es : Table K X) → IsTrue (list_all keeps es)
      → IsTrue (list_all keeps (remove_entry test es))
  all-remove keeps test [] h = refl
  all-remove keeps test (e ∷ es) h = grind (arith, and_parts, and_from, all-remove keeps test es)

  pub all-without : (es : Table K X) (key : K) (keeps : K × X → Bool) → IsTrue (list_all keeps es)
      → IsTrue (list_all keeps (without cmp es key))
  unfolding without
  all-without es key keeps = all-remove keeps (is_at (cmp key)) es

  -- ---- any key, where the test is on the values alone

  values-turn : (passes : X → Bool) (key : K) (value : X) (e : K × X) (es more : Table K X) (o : Ordering)
      → IsTrue (passes e.1) → IsTrue (list_all (λ x. passes x.1) es) → IsTrue (passes value)
      → IsTrue (list_all (λ x. passes x.1) more)
      → IsTrue (list_all (λ x. passes x.1) (match_ordering o ((key, value) ∷ e ∷ es) ((e.0, value) ∷ es) (e ∷ more)))
  values-turn passes key value e es more Less first others passing rest = cc
  values-turn passes key value e es more Equal first others passing rest = cc
  values-turn passes key value e es more Greater first others passing rest = cc

  values-insert : (passes : X → Bool) (es : Table K X) (key : K) (value : X) → IsTrue (list_all (λ e. passes e.1) es)
      → IsTrue (passes value) → IsTrue (list_all (λ e. passes e.1) (insert_entry cmp es key value))
  values-insert passes [] key value h passing = and_from (passes value) true passing refl
  values-insert passes (e ∷ es) key value h passing =
      grind (arith, and_parts, values-turn, values-insert passes es key value)

  pub values-put : (es : Table K X) (key : K) (value : X) (passes : X → Bool)
      → IsTrue (list_all (λ e. passes e.1) es) → IsTrue (passes value)
      → IsTrue (list_all (λ e. passes e.1) (put cmp es key value))
  unfolding put
  values-put es key value passes = values-insert passes es key value

  -- ---- a key that is there, where the test is on the keys alone

  keys-turn : (test : K → Bool) (key : K) (value : X) (e : K × X) (es more : Table K X) (o : Ordering)
      → (is_eq o ≡ false → (test key && list_all (λ x. test x.0) (e ∷ es)) ≡ list_all (λ x. test x.0) (e ∷ es))
      → (is_eq o ≡ false → list_all (λ x. test x.0) more ≡ list_all (λ x. test x.0) es)
      → list_all (λ x. test x.0) (match_ordering o ((key, value) ∷ e ∷ es) ((e.0, value) ∷ es) (e ∷ more))
      ≡ list_all (λ x. test x.0) (e ∷ es)
  keys-turn test key value e es more Less front rest = front refl
  keys-turn test key value e es more Equal front rest = refl
  keys-turn test key value e es more Greater front rest = ap (λ b. test e.0 && b) (rest refl)

  lookup-rest : (b : Bool) (value old : X) (es : Table K X) (key : K)
      → cond b (Some value) (lookup (is_at (cmp key)) es) ≡ Some old → b ≡ false
      → lookup (is_at (cmp key)) es ≡ Some old
  lookup-rest true value old es key there miss = cc
  lookup-rest false value old es key there miss = there

  module _ (same : IsAntisymmetric cmp) where
    -- the key of what is found passes where all keys do
    key-passes : (test : K → Bool) (es : Table K X) (key : K) (old : X) → lookup (is_at (cmp key)) es ≡ Some old
        → list_all (λ x. test x.0) es ≡ true → test key ≡ true
    key-passes test [] key old there h = cc
    key-passes test (e ∷ es) key old there h = grind (arith, and_parts, key-passes test es key old)

    keys-insert_again : (test : K → Bool) (es : Table K X) (key : K) (value old : X)
        → lookup (is_at (cmp key)) es ≡ Some old
        → list_all (λ e. test e.0) (insert_entry cmp es key value) ≡ list_all (λ e. test e.0) es
    keys-insert_again test [] key value old there = cc
    keys-insert_again test (e ∷ es) key value old there =
        grind (arith, keys-turn, implied, key-passes, lookup-rest, keys-insert_again test es key value old)

    -- in order or not, where keys that tie are equal
    pub keys-put_again : (es : Table K X) (key : K) (value old : X) (test : K → Bool) → get cmp es key ≡ Some old
        → list_all (λ e. test e.0) (put cmp es key value) ≡ list_all (λ e. test e.0) es
    unfolding get put
    keys-put_again es key value old test = keys-insert_again test es key value old

  module _ (total : IsTotalOrder cmp) where
    keys-insert_in_order : (test : K → Bool) (es : Table K X) (key : K) (value old : X) → InOrder cmp es
        → lookup (is_at (cmp key)) es ≡ Some old
        → list_all (λ e. test e.0) (insert_entry cmp es key value) ≡ list_all (λ e. test e.0) es
    keys-insert_in_order test [] key value old order there = cc
    keys-insert_in_order test (e ∷ es) key value old order there =
        by (cmp key e.0) refl there (λ found. keys-insert_in_order test es key value old (sorted_tail cmp e.0 (keys_of es) order) found)
      where
        by : (o : Ordering) → cmp key e.0 ≡ o → cond (is_eq o) (Some e.1) (lookup (is_at (cmp key)) es) ≡ Some old
            → (lookup (is_at (cmp key)) es ≡ Some old → list_all (λ x. test x.0) (insert_entry cmp es key value) ≡ list_all (λ x. test x.0) es)
            → list_all (λ x. test x.0) (match_ordering o ((key, value) ∷ e ∷ es) ((e.0, value) ∷ es) (e ∷ insert_entry cmp es key value)) ≡ list_all (λ x. test x.0) (e ∷ es)
        by Less is found rest = grind (arith, lookup-none, none_below_head)
        by Equal is found rest = refl
        by Greater is found rest = ap (λ b. test e.0 && b) (rest found)

    -- in a table in order, for any order of keys
    pub keys-put_in_order : (es : Table K X) (key : K) (value old : X) (test : K → Bool) → InOrder cmp es
        → get cmp es key ≡ Some old → list_all (λ e. test e.0) (put cmp es key value) ≡ list_all (λ e. test e.0) es
    unfolding get put
    keys-put_in_order es key value old test = keys-insert_in_order test es key value old

pub ruleset test_laws = (all-put_new, all-without, values-put, keys-put_in_order)
