-- Items in rising order of their names, with marks: what of them is left, looked up, struck out and put.
use Rattle.sftp_listing.proofs.Imports.{◌≡◌, ℕ, zero, suc, ◌+◌, ◌<◌, ◌≤◌, Bool, true, false, cond, List, [], ◌∷◌, ◌++◌}
use Rattle.sftp_listing.proofs.Imports.{map, take, drop, length, get_or, Option, Some, None, refl, sym, ap, subst, ◌∙◌}
use Rattle.sftp_listing.proofs.Imports.{arith, nat_lt, nat_eq, is_some, ◌-◌, ◌↔◌, Bor, IsSome, IfSome, IfNone, IfOk}
use Rattle.sftp_listing.proofs.Imports.{IfErr, option_copied, Result, Ok, Err, AllByRecursion, insert, is_eq, Less}
use Rattle.sftp_listing.proofs.Imports.{Equal, Greater, keys_of, remove_entry, nat_list_cmp_total, pointwise}
use Rattle.sftp_listing.proofs.Imports.{bytes_decides, length-set, length-replicate, length-map, ltb-true, ltb-false}
use Rattle.sftp_listing.proofs.Imports.{Attrs, Name, name_cmp, InOrder, get, put, without, bytes_cmp-same, get-empty}
use Rattle.sftp_listing.proofs.Imports.{get-cons, get-below, InOrder-empty, InOrder-put, without-absent, Item, entry_of}
use Rattle.sftp_listing.proofs.Imports.{Left, unmarked, ArePaired}
use Rattle.std.specs.BTreeMap.{is_at, insert_entry}
use Rattle.std.proofs.Math.ListN.{set, replicate}
use Rattle.std.specs.List.Sorted.{IsStrictlySortedBy, IsNonDecreasingBy, IsBinarySearchResult, IsSearchInRange}
use Rattle.std.specs.Ordering.{is_lt, match_ordering, ordering_index, ordering_reverse}
use Rattle.std.specs.Option.{option_map, option_to_list}
use Rattle.std.proofs.lemmas.Cmp.{tied_itself}
use Rattle.std.proofs.lemmas.List.Sorted.{searchable_from_sorted}
use Rattle.sftp_listing.specs.Marked.{unmarked_at, is_struck_first, with_attrs_at, IsMarked, IsNamed, IsGap}

-- ---- orders of names

turned : (a b : Name) → name_cmp a b ≡ Less → name_cmp b a ≡ Greater
turned a b less = nat_list_cmp_total.antisymm b a ∙ ap ordering_reverse less

turned-back : (a b : Name) → name_cmp a b ≡ Greater → name_cmp b a ≡ Less
turned-back a b greater = nat_list_cmp_total.antisymm b a ∙ ap ordering_reverse greater

-- a name is below those of all entries
abbrev pub IsBelow : Name → Left → Type 0
IsBelow name left = AllByRecursion (λ k. name_cmp name k ≡ Less) (keys_of left)

below-all : (low name : Name) (left : Left) → name_cmp low name ≡ Less → IsBelow name left → IsBelow low left
below-all low name [] less below = tt
below-all low name (e ∷ es) less below =
    (nat_list_cmp_total.trans low name e.0 less below.0, below-all low name es less below.1)

-- what is below all items is below those without a mark
below-unmarked : (name : Name) (items : List Item) (marks : List Bool) → IsBelow name (map entry_of items)
    → IsBelow name (unmarked items marks)
below-unmarked name [] marks below = tt
below-unmarked name (x ∷ xs) [] below = (below.0, below-unmarked name xs [] below.1)
below-unmarked name (x ∷ xs) (true ∷ ms) below = below-unmarked name xs ms below.1
below-unmarked name (x ∷ xs) (false ∷ ms) below = (below.0, below-unmarked name xs ms below.1)

-- the items without a mark are in order
pub unmarked-rises : (items : List Item) (marks : List Bool) → InOrder name_cmp (map entry_of items)
    → InOrder name_cmp (unmarked items marks)
unfolding IsStrictlySortedBy
unmarked-rises [] marks order = tt
unmarked-rises (x ∷ xs) [] order = (below-unmarked x.name xs [] order.0, unmarked-rises xs [] order.1)
unmarked-rises (x ∷ xs) (true ∷ ms) order = unmarked-rises xs ms order.1
unmarked-rises (x ∷ xs) (false ∷ ms) order = (below-unmarked x.name xs ms order.0, unmarked-rises xs ms order.1)

order-head : (x : Item) (xs : List Item) → InOrder name_cmp (map entry_of (x ∷ xs)) → IsBelow x.name (map entry_of xs)
unfolding IsStrictlySortedBy
order-head x xs order = order.0

order-tail : (x : Item) (xs : List Item) → InOrder name_cmp (map entry_of (x ∷ xs)) → InOrder name_cmp (map entry_of xs)
unfolding IsStrictlySortedBy
order-tail x xs order = order.1

-- what is below all items is below the one at a place
below-named : (low : Name) (items : List Item) (name : Name) (place : ℕ) → IsBelow low (map entry_of items)
    → IsNamed items name place → name_cmp low name ≡ Less
below-named low [] name place below named = absurd named
below-named low (x ∷ xs) name zero below named = subst (λ n. name_cmp low n ≡ Less) named below.0
below-named low (x ∷ xs) name (suc place) below named = below-named low xs name place below.1 named

-- ---- entries of a table one by one

less-apart : (a b : Name) → name_cmp a b ≡ Less → is_eq (name_cmp b a) ≡ false
less-apart a b less = ap is_eq (turned a b less)

pub get-behind : (e : Name × Attrs) (es : Left) (name : Name) → name_cmp e.0 name ≡ Less
    → get name_cmp (e ∷ es) name ≡ get name_cmp es name
get-behind e es name less =
    get-cons name_cmp e es name
    ∙ ap (λ b. cond b (Some e.1) (get name_cmp es name)) (less-apart e.0 name less)

pub get-here : (e : Name × Attrs) (es : Left) → get name_cmp (e ∷ es) e.0 ≡ Some e.1
get-here e es =
    get-cons name_cmp e es e.0
    ∙ ap (λ o. cond (is_eq o) (Some e.1) (get name_cmp es e.0)) (tied_itself nat_list_cmp_total e.0)

without-behind : (e : Name × Attrs) (es : Left) (name : Name) → name_cmp e.0 name ≡ Less
    → without name_cmp (e ∷ es) name ≡ e ∷ without name_cmp es name
unfolding without
without-behind e es name less =
    ap (λ b. cond b es (e ∷ remove_entry (is_at (name_cmp name)) es)) (less-apart e.0 name less)

pub without-here : (e : Name × Attrs) (es : Left) → without name_cmp (e ∷ es) e.0 ≡ es
unfolding without
without-here e es =
    ap (λ o. cond (is_eq o) es (e ∷ remove_entry (is_at (name_cmp e.0)) es)) (tied_itself nat_list_cmp_total e.0)

put-behind : (e : Name × Attrs) (es : Left) (name : Name) (attrs : Attrs) → name_cmp e.0 name ≡ Less
    → put name_cmp (e ∷ es) name attrs ≡ e ∷ put name_cmp es name attrs
unfolding put
put-behind e es name attrs less =
    ap (λ o. match_ordering o ((name, attrs) ∷ e ∷ es) ((e.0, attrs) ∷ es) (e ∷ insert_entry name_cmp es name attrs))
    (turned e.0 name less)

put-here : (e : Name × Attrs) (es : Left) (attrs : Attrs) → put name_cmp (e ∷ es) e.0 attrs ≡ (e.0, attrs) ∷ es
unfolding put
put-here e es attrs =
    ap (λ o. match_ordering o ((e.0, attrs) ∷ e ∷ es) ((e.0, attrs) ∷ es) (e ∷ insert_entry name_cmp es e.0 attrs))
    (tied_itself nat_list_cmp_total e.0)

put-below : (es : Left) (name : Name) (attrs : Attrs) → IsBelow name es
    → put name_cmp es name attrs ≡ (name, attrs) ∷ es
unfolding put
put-below [] name attrs below = refl
put-below (e ∷ es) name attrs below =
    ap (λ o. match_ordering o ((name, attrs) ∷ e ∷ es) ((e.0, attrs) ∷ es) (e ∷ insert_entry name_cmp es name attrs))
    below.0

-- ---- an item with a name

-- the name is left if the item has no mark
pub get-named : (items : List Item) (marks : List Bool) (name : Name) (place : ℕ)
    → InOrder name_cmp (map entry_of items) → length marks ≡ length items → IsNamed items name place
    → get name_cmp (unmarked items marks) name ≡ option_map (λ e. e.1) (unmarked_at items marks place)
get-named [] marks name place order same named = absurd named
get-named (x ∷ xs) [] name place order same named = absurd cc
get-named (x ∷ xs) (true ∷ ms) name zero order same named =
    get-below name_cmp name (unmarked xs ms)
    (below-unmarked name xs ms (subst (λ n. IsBelow n (map entry_of xs)) named (order-head x xs order)))
get-named (x ∷ xs) (false ∷ ms) name zero order same named =
    ap (get name_cmp (entry_of x ∷ unmarked xs ms)) (sym named) ∙ get-here (entry_of x) (unmarked xs ms)
get-named (x ∷ xs) (true ∷ ms) name (suc place) order same named =
    get-named xs ms name place (order-tail x xs order) (omega (arith, same)) named
get-named (x ∷ xs) (false ∷ ms) name (suc place) order same named =
    get-behind (entry_of x) (unmarked xs ms) name (below-named x.name xs name place (order-head x xs order) named)
    ∙ get-named xs ms name place (order-tail x xs order) (omega (arith, same)) named

-- with a mark it is struck out
pub struck-named : (items : List Item) (marks : List Bool) (name : Name) (place : ℕ)
    → InOrder name_cmp (map entry_of items) → length marks ≡ length items → IsNamed items name place
    → unmarked items (set marks place true) ≡ without name_cmp (unmarked items marks) name
struck-named [] marks name place order same named = absurd named
struck-named (x ∷ xs) [] name place order same named = absurd cc
struck-named (x ∷ xs) (true ∷ ms) name zero order same named =
    sym
    (without-absent name_cmp (unmarked xs ms) name
    (get-below name_cmp name (unmarked xs ms)
    (below-unmarked name xs ms (subst (λ n. IsBelow n (map entry_of xs)) named (order-head x xs order)))))
struck-named (x ∷ xs) (false ∷ ms) name zero order same named =
    sym
    (ap (without name_cmp (entry_of x ∷ unmarked xs ms)) (sym named) ∙ without-here (entry_of x) (unmarked xs ms))
struck-named (x ∷ xs) (true ∷ ms) name (suc place) order same named =
    struck-named xs ms name place (order-tail x xs order) (omega (arith, same)) named
struck-named (x ∷ xs) (false ∷ ms) name (suc place) order same named =
    ap (λ es. entry_of x ∷ es)
    (struck-named xs ms name place (order-tail x xs order) (omega (arith, same)) named)
    ∙ sym
    (without-behind (entry_of x) (unmarked xs ms) name
    (below-named x.name xs name place (order-head x xs order) named))

-- with other attributes and no mark it is put
pub put-named : (items : List Item) (marks : List Bool) (name : Name) (attrs : Attrs) (place : ℕ)
    → InOrder name_cmp (map entry_of items) → IsNamed items name place
    → unmarked (with_attrs_at items place attrs) (set marks place false) ≡ put name_cmp (unmarked items marks) name attrs
put-named [] marks name attrs place order named = absurd named
put-named (x ∷ xs) [] name attrs zero order named =
    sym (ap (λ n. put name_cmp (entry_of x ∷ unmarked xs []) n attrs) (sym named)
    ∙ put-here (entry_of x) (unmarked xs []) attrs)
put-named (x ∷ xs) (true ∷ ms) name attrs zero order named =
    sym (ap (λ n. put name_cmp (unmarked xs ms) n attrs) (sym named)
    ∙ put-below (unmarked xs ms) x.name attrs (below-unmarked x.name xs ms (order-head x xs order)))
put-named (x ∷ xs) (false ∷ ms) name attrs zero order named =
    sym (ap (λ n. put name_cmp (entry_of x ∷ unmarked xs ms) n attrs) (sym named)
    ∙ put-here (entry_of x) (unmarked xs ms) attrs)
put-named (x ∷ xs) [] name attrs (suc place) order named =
    ap (λ es. entry_of x ∷ es) (put-named xs [] name attrs place (order-tail x xs order) named)
    ∙ sym (put-behind (entry_of x) (unmarked xs []) name attrs
    (below-named x.name xs name place (order-head x xs order) named))
put-named (x ∷ xs) (true ∷ ms) name attrs (suc place) order named =
    put-named xs ms name attrs place (order-tail x xs order) named
put-named (x ∷ xs) (false ∷ ms) name attrs (suc place) order named =
    ap (λ es. entry_of x ∷ es) (put-named xs ms name attrs place (order-tail x xs order) named)
    ∙ sym (put-behind (entry_of x) (unmarked xs ms) name attrs
    (below-named x.name xs name place (order-head x xs order) named))

-- ---- a name that no item has

gap-below : (x : Item) (xs : List Item) (name : Name) → name_cmp x.name name ≡ Greater
    → InOrder name_cmp (map entry_of (x ∷ xs)) → IsBelow name (map entry_of (x ∷ xs))
gap-below x xs name greater order =
    let less = turned-back x.name name greater in
    (less, below-all name x.name (map entry_of xs) less (order-head x xs order))

-- it is not left
pub get-gap : (items : List Item) (marks : List Bool) (name : Name) (place : ℕ)
    → InOrder name_cmp (map entry_of items) → IsGap items name place → get name_cmp (unmarked items marks) name ≡ None
get-gap [] marks name place order gap = get-empty name_cmp name
get-gap (x ∷ xs) marks name zero order gap =
    get-below name_cmp name (unmarked (x ∷ xs) marks)
    (below-unmarked name (x ∷ xs) marks (gap-below x xs name gap order))
get-gap (x ∷ xs) [] name (suc place) order gap =
    get-behind (entry_of x) (unmarked xs []) name gap.0
    ∙ get-gap xs [] name place (order-tail x xs order) gap.1
get-gap (x ∷ xs) (true ∷ ms) name (suc place) order gap = get-gap xs ms name place (order-tail x xs order) gap.1
get-gap (x ∷ xs) (false ∷ ms) name (suc place) order gap =
    get-behind (entry_of x) (unmarked xs ms) name gap.0
    ∙ get-gap xs ms name place (order-tail x xs order) gap.1

-- an item with it is put
pub put-gap : (items : List Item) (marks : List Bool) (item : Item) (place : ℕ)
    → InOrder name_cmp (map entry_of items) → length marks ≡ length items → IsGap items item.name place
    → unmarked (insert items place item) (insert marks place false)
    ≡ put name_cmp (unmarked items marks) item.name item.attrs
put-gap [] [] item zero order same gap = sym (put-below [] item.name item.attrs tt)
put-gap [] [] item (suc place) order same gap = absurd gap
put-gap [] (m ∷ ms) item place order same gap = absurd cc
put-gap (x ∷ xs) [] item place order same gap = absurd cc
put-gap (x ∷ xs) (m ∷ ms) item zero order same gap =
    sym (put-below (unmarked (x ∷ xs) (m ∷ ms)) item.name item.attrs
    (below-unmarked item.name (x ∷ xs) (m ∷ ms) (gap-below x xs item.name gap order)))
put-gap (x ∷ xs) (true ∷ ms) item (suc place) order same gap =
    put-gap xs ms item place (order-tail x xs order) (omega (arith, same)) gap.1
put-gap (x ∷ xs) (false ∷ ms) item (suc place) order same gap =
    ap (λ es. entry_of x ∷ es) (put-gap xs ms item place (order-tail x xs order) (omega (arith, same)) gap.1)
    ∙ sym (put-behind (entry_of x) (unmarked xs ms) item.name item.attrs gap.0)

pub put-gap_all : (items : List Item) (item : Item) (place : ℕ) → InOrder name_cmp (map entry_of items)
    → IsGap items item.name place
    → map entry_of (insert items place item) ≡ put name_cmp (map entry_of items) item.name item.attrs
put-gap_all [] item zero order gap = sym (put-below [] item.name item.attrs tt)
put-gap_all [] item (suc place) order gap = absurd gap
put-gap_all (x ∷ xs) item zero order gap =
    sym (put-below (map entry_of (x ∷ xs)) item.name item.attrs (gap-below x xs item.name gap order))
put-gap_all (x ∷ xs) item (suc place) order gap =
    ap (λ es. entry_of x ∷ es) (put-gap_all xs item place (order-tail x xs order) gap.1)
    ∙ sym (put-behind (entry_of x) (map entry_of xs) item.name item.attrs gap.0)

-- ---- how many have no mark

pub unmarked-few : (items : List Item) (marks : List Bool) → length (unmarked items marks) ≤ length items
unmarked-few [] marks = omega arith
unmarked-few (x ∷ xs) [] = omega (arith, unmarked-few xs [])
unmarked-few (x ∷ xs) (true ∷ ms) = omega (arith, unmarked-few xs ms)
unmarked-few (x ∷ xs) (false ∷ ms) = omega (arith, unmarked-few xs ms)

pub named-within : (items : List Item) (name : Name) (place : ℕ) → IsNamed items name place → place < length items
named-within [] name place named = absurd named
named-within (x ∷ xs) name zero named = omega arith
named-within (x ∷ xs) name (suc place) named = omega (arith, named-within xs name place named)

pub gap-within : (items : List Item) (name : Name) (place : ℕ) → IsGap items name place → place ≤ length items
gap-within [] name zero gap = omega arith
gap-within [] name (suc place) gap = absurd gap
gap-within (x ∷ xs) name zero gap = omega arith
gap-within (x ∷ xs) name (suc place) gap = omega (arith, gap-within xs name place gap.1)

-- one less once an item gets a mark
count-struck : (items : List Item) (marks : List Bool) (place : ℕ) (before : Bool) → place < length items
    → length marks ≡ length items → before ≡ get_or marks place before → before ≡ false
    → length (unmarked items (set marks place true)) + 1 ≡ length (unmarked items marks)
count-struck [] marks place before within same is none = absurd (omega (arith, within))
count-struck (x ∷ xs) [] place before within same is none = absurd cc
count-struck (x ∷ xs) (true ∷ ms) zero before within same is none = absurd cc
count-struck (x ∷ xs) (false ∷ ms) zero before within same is none = omega arith
count-struck (x ∷ xs) (true ∷ ms) (suc place) before within same is none =
    count-struck xs ms place before (omega (arith, within)) (omega (arith, same)) is none
count-struck (x ∷ xs) (false ∷ ms) (suc place) before within same is none =
    omega (arith, count-struck xs ms place before (omega (arith, within)) (omega (arith, same)) is none)

-- a mark again changes nothing
again : (marks : List Bool) (place : ℕ) (before : Bool) → before ≡ get_or marks place before → before ≡ true
    → set marks place true ≡ marks
again [] place before is struck = refl
again (m ∷ ms) zero before is struck = ap (λ b. b ∷ ms) (sym struck ∙ is)
again (m ∷ ms) (suc place) before is struck = ap (λ l. m ∷ l) (again ms place before is struck)

-- one more once a mark is taken away
count-put : (items : List Item) (marks : List Bool) (attrs : Attrs) (place : ℕ) (before : Bool) → place < length items
    → length marks ≡ length items → before ≡ get_or marks place before
    → length (unmarked (with_attrs_at items place attrs) (set marks place false))
    ≡ cond before 1 0 + length (unmarked items marks)
count-put [] marks attrs place before within same is = absurd (omega (arith, within))
count-put (x ∷ xs) [] attrs place before within same is = absurd cc
count-put (x ∷ xs) (true ∷ ms) attrs zero true within same is = omega arith
count-put (x ∷ xs) (true ∷ ms) attrs zero false within same is = absurd cc
count-put (x ∷ xs) (false ∷ ms) attrs zero true within same is = absurd cc
count-put (x ∷ xs) (false ∷ ms) attrs zero false within same is = omega arith
count-put (x ∷ xs) (true ∷ ms) attrs (suc place) before within same is =
    count-put xs ms attrs place before (omega (arith, within)) (omega (arith, same)) is
count-put (x ∷ xs) (false ∷ ms) attrs (suc place) before within same is =
    omega (arith, count-put xs ms attrs place before (omega (arith, within)) (omega (arith, same)) is)

count-inserted : (items : List Item) (marks : List Bool) (item : Item) (place : ℕ) → place ≤ length items
    → length marks ≡ length items
    → length (unmarked (insert items place item) (insert marks place false)) ≡ 1 + length (unmarked items marks)
count-inserted items marks item zero within same = omega arith
count-inserted [] marks item (suc place) within same = absurd (omega (arith, within))
count-inserted (x ∷ xs) [] item (suc place) within same = absurd cc
count-inserted (x ∷ xs) (true ∷ ms) item (suc place) within same =
    count-inserted xs ms item place (omega (arith, within)) (omega (arith, same))
count-inserted (x ∷ xs) (false ∷ ms) item (suc place) within same =
    omega (arith, count-inserted xs ms item place (omega (arith, within)) (omega (arith, same)))

length-with_attrs : (items : List Item) (place : ℕ) (attrs : Attrs)
    → length (with_attrs_at items place attrs) ≡ length items
length-with_attrs [] place attrs = refl
length-with_attrs (x ∷ xs) zero attrs = refl
length-with_attrs (x ∷ xs) (suc place) attrs = ap suc (length-with_attrs xs place attrs)

names-with_attrs : (items : List Item) (place : ℕ) (attrs : Attrs)
    → keys_of (map entry_of (with_attrs_at items place attrs)) ≡ keys_of (map entry_of items)
names-with_attrs [] place attrs = refl
names-with_attrs (x ∷ xs) zero attrs = refl
names-with_attrs (x ∷ xs) (suc place) attrs = ap (λ ks. x.name ∷ ks) (names-with_attrs xs place attrs)

length-inserted : {X : Type 0} (xs : List X) (place : ℕ) (x : X) → place ≤ length xs
    → length (insert xs place x) ≡ length xs + 1
length-inserted xs zero x within = omega arith
length-inserted [] (suc place) x within = absurd (omega (arith, within))
length-inserted (y ∷ ys) (suc place) x within = omega (arith, length-inserted ys place x (omega (arith, within)))

-- ---- what stays so

pub nothing-marked : IsMarked [] [] 0
nothing-marked = record {
  paired = record { same = refl; ordered = InOrder-empty Attrs name_cmp };
  counted = refl;
}

pub struck-marked : (items : List Item) (marks : List Bool) (left : ℕ) (name : Name) (place : ℕ) (before : Bool)
    → IsMarked items marks left → IsNamed items name place → before ≡ get_or marks place before → before ≡ false
    → (1 ≤ left) × IsMarked items (set marks place true) (left - 1)
struck-marked items marks left name place before marked named is none =
    let same = marked.paired.same in
    let less = count-struck items marks place before (named-within items name place named) same is none in (
      omega (arith, less, marked.counted),
      record {
        paired = record { same = length-set marks place true ∙ same; ordered = marked.paired.ordered };
        counted = omega (arith, less, marked.counted);
      },
    )

pub struck-again : (items : List Item) (marks : List Bool) (left : ℕ) (place : ℕ) (before : Bool)
    → IsMarked items marks left → before ≡ get_or marks place before → before ≡ true
    → IsMarked items (set marks place true) left
struck-again items marks left place before marked is struck =
    subst (λ ms. IsMarked items ms left) (sym (again marks place before is struck)) marked

pub put-paired : (items : List Item) (marks : List Bool) (attrs : Attrs) (place : ℕ) → ArePaired items marks
    → ArePaired (with_attrs_at items place attrs) (set marks place false)
put-paired items marks attrs place paired = record {
  same = length-set marks place false ∙ (paired.same ∙ sym (length-with_attrs items place attrs));
  ordered = subst (IsStrictlySortedBy name_cmp) (sym (names-with_attrs items place attrs)) paired.ordered;
}

pub put-count : (items : List Item) (marks : List Bool) (name : Name) (attrs : Attrs) (place : ℕ) (before : Bool)
    → ArePaired items marks → IsNamed items name place → before ≡ get_or marks place before
    → length (unmarked (with_attrs_at items place attrs) (set marks place false))
    ≡ cond before 1 0 + length (unmarked items marks)
put-count items marks name attrs place before paired named is =
    count-put items marks attrs place before (named-within items name place named) paired.same is

pub inserted-paired : (items : List Item) (marks : List Bool) (item : Item) (place : ℕ) → ArePaired items marks
    → IsGap items item.name place → ArePaired (insert items place item) (insert marks place false)
inserted-paired items marks item place paired gap =
    let within = gap-within items item.name place gap in
    record {
      same =
          length-inserted marks place false (omega (arith, within, paired.same))
          ∙ (ap (λ n. n + 1) paired.same ∙ sym (length-inserted items place item within));
      ordered =
          subst (InOrder name_cmp) (sym (put-gap_all items item place paired.ordered gap))
          (InOrder-put name_cmp nat_list_cmp_total (map entry_of items) item.name item.attrs paired.ordered);
    }

pub inserted-count : (items : List Item) (marks : List Bool) (item : Item) (place : ℕ) → ArePaired items marks
    → IsGap items item.name place
    → length (unmarked (insert items place item) (insert marks place false)) ≡ 1 + length (unmarked items marks)
inserted-count items marks item place paired gap =
    count-inserted items marks item place (gap-within items item.name place gap) paired.same

-- ---- items without any mark

none-marked : (items : List Item) → unmarked items (replicate (length items) false) ≡ map entry_of items
none-marked [] = refl
none-marked (x ∷ xs) = ap (λ es. entry_of x ∷ es) (none-marked xs)

pub first-marks : (items : List Item) (marks : List Bool) → marks ≡ replicate (length items) false
    → unmarked items marks ≡ map entry_of items
first-marks items marks is = ap (unmarked items) is ∙ none-marked items

pub first-marked : (items : List Item) (marks : List Bool) → marks ≡ replicate (length items) false
    → InOrder name_cmp (map entry_of items) → IsMarked items marks (length items)
first-marked items marks is order = record {
  paired = record { same = ap length is ∙ length-replicate (length items) false; ordered = order };
  counted = sym (ap length (first-marks items marks is) ∙ length-map items entry_of);
}

-- ---- the item at a place

pub at-behind : (items : List Item) (marks : List Bool) (place : ℕ) → length marks ≤ place
    → unmarked_at items marks place ≡ None
at-behind [] marks place past = refl
at-behind (x ∷ xs) [] place past = refl
at-behind (x ∷ xs) (m ∷ ms) zero past = absurd (omega (arith, past))
at-behind (x ∷ xs) (m ∷ ms) (suc place) past = at-behind xs ms place (omega (arith, past))

pub at-struck : (items : List Item) (marks : List Bool) (place : ℕ) (mark : Bool) → place < length marks
    → mark ≡ get_or marks place mark → mark ≡ true → unmarked_at items marks place ≡ None
at-struck [] marks place mark within is struck = refl
at-struck (x ∷ xs) [] place mark within is struck = refl
at-struck (x ∷ xs) (m ∷ ms) zero mark within is struck =
    ap (λ b. cond b None (Some (entry_of x))) (sym is ∙ struck)
at-struck (x ∷ xs) (m ∷ ms) (suc place) mark within is struck =
    at-struck xs ms place mark (omega (arith, within)) is struck

at-left : (items : List Item) (marks : List Bool) (place : ℕ) (mark : Bool) (item : Item) → place < length marks
    → length marks ≡ length items → mark ≡ get_or marks place mark → mark ≡ false → item ≡ get_or items place item
    → Some (entry_of item) ≡ unmarked_at items marks place
at-left [] marks place mark item within same is none there = absurd (omega (arith, within, same))
at-left (x ∷ xs) [] place mark item within same is none there = absurd (omega (arith, within))
at-left (x ∷ xs) (m ∷ ms) zero mark item within same is none there =
    ap (λ (i : Item). Some (entry_of i)) there ∙ ap (λ b. cond b None (Some (entry_of x))) (sym none ∙ is)
at-left (x ∷ xs) (m ∷ ms) (suc place) mark item within same is none there =
    at-left xs ms place mark item (omega (arith, within)) (omega (arith, same)) is none there

pub at-got : (items : List Item) (marks : List Bool) (place len : ℕ) (mark : Bool) (got : Option (Bor Item))
    → place < length marks → length marks ≡ length items → mark ≡ get_or marks place mark → mark ≡ false
    → len ≡ length items → (IsSome got ↔ (place < len)) → IfSome got (λ item. item.now ≡ get_or items place item.now)
    → option_map entry_of (option_copied got) ≡ unmarked_at items marks place
at-got items marks place len mark (Some item) within same is none size some there =
    at-left items marks place mark item.now within same is none there
at-got items marks place len mark None within same is none size some there =
    let found : false ≡ true = some.1 (omega (arith, within, same, size)) in
    absurd cc

pub attrs-set : (items : List Item) (place : ℕ) (item : Item) (attrs : Attrs) → item ≡ get_or items place item
    → set items place (record { name = item.name; attrs = attrs }) ≡ with_attrs_at items place attrs
attrs-set [] place item attrs is = refl
attrs-set (x ∷ xs) zero item attrs is = ap (λ (i : Item). record i { attrs = attrs } ∷ xs) is
attrs-set (x ∷ xs) (suc place) item attrs is = ap (λ l. x ∷ l) (attrs-set xs place item attrs is)

-- what of the items is left from a place on
left-behind : (items : List Item) (marks : List Bool) (place : ℕ) → place < length items → length marks ≡ length items
    → unmarked (drop place items) (drop place marks)
    ≡ option_to_list (unmarked_at items marks place) ++ unmarked (drop (suc place) items) (drop (suc place) marks)
left-behind [] marks place within same = absurd (omega (arith, within))
left-behind (x ∷ xs) [] place within same = absurd cc
left-behind (x ∷ xs) (true ∷ ms) zero within same = refl
left-behind (x ∷ xs) (false ∷ ms) zero within same = refl
left-behind (x ∷ xs) (m ∷ ms) (suc place) within same =
    left-behind xs ms place (omega (arith, within)) (omega (arith, same))

pub left-next : (items : List Item) (marks : List Bool) (place : ℕ) → place < length items
    → length marks ≡ length items
    → unmarked (drop place items) (drop place marks)
    ≡ option_to_list (unmarked_at items marks place) ++ unmarked (drop (place + 1) items) (drop (place + 1) marks)
left-next items marks place within same =
    let next : place + 1 ≡ suc place = omega arith in
    subst
    (λ n. unmarked (drop place items) (drop place marks)
    ≡ option_to_list (unmarked_at items marks place) ++ unmarked (drop n items) (drop n marks))
    (sym next) (left-behind items marks place within same)

gone : {X : Type 0} (n : ℕ) (xs : List X) → length xs ≤ n → drop n xs ≡ []
gone zero [] past = refl
gone (suc n) [] past = refl
gone zero (x ∷ xs) past = absurd (omega (arith, past))
gone (suc n) (x ∷ xs) past = gone n xs (omega (arith, past))

pub left-none : (items : List Item) (marks : List Bool) (place : ℕ) → length items ≤ place
    → unmarked (drop place items) (drop place marks) ≡ []
left-none items marks place past = ap (λ l. unmarked l (drop place marks)) (gone place items past)

-- ---- the first items

pub struck-dropped : (items : List Item) (marks : List Bool) → ArePaired items marks → is_struck_first marks ≡ true
    → ArePaired (drop 1 items) (drop 1 marks) × (unmarked (drop 1 items) (drop 1 marks) ≡ unmarked items marks)
    × (length (drop 1 marks) < length marks)
struck-dropped items [] paired struck = absurd cc
struck-dropped [] (m ∷ ms) paired struck = absurd (omega (arith, paired.same))
struck-dropped (x ∷ xs) (true ∷ ms) paired struck =
    (record { same = omega (arith, paired.same); ordered = order-tail x xs paired.ordered }, refl, omega arith)
struck-dropped (x ∷ xs) (false ∷ ms) paired struck = absurd cc

pub first-dropped : (items : List Item) (marks : List Bool) → ArePaired items marks
    → ArePaired (drop 1 items) (drop 1 marks)
first-dropped [] [] paired = paired
first-dropped [] (m ∷ ms) paired = absurd (omega (arith, paired.same))
first-dropped (x ∷ xs) [] paired = absurd (omega (arith, paired.same))
first-dropped (x ∷ xs) (m ∷ ms) paired =
    record { same = omega (arith, paired.same); ordered = order-tail x xs paired.ordered }

-- an item that was taken is the first one without a mark
pub first-taken : (items : List Item) (marks : List Bool) (taken : Option Item) → ArePaired items marks
    → is_struck_first marks ≡ false → items ≡ option_to_list taken ++ drop 1 items
    → unmarked items marks
    ≡ option_to_list (option_map entry_of taken) ++ unmarked (drop 1 items) (drop 1 marks)
first-taken [] marks None paired none is = refl
first-taken [] marks (Some item) paired none is = absurd cc
first-taken (x ∷ xs) marks None paired none is = absurd (omega (arith, ap (λ (l : List Item). length l) is))
first-taken (x ∷ xs) [] (Some item) paired none is = absurd (omega (arith, paired.same))
first-taken (x ∷ xs) (true ∷ ms) (Some item) paired none is = absurd cc
first-taken (x ∷ xs) (false ∷ ms) (Some item) paired none is =
    let same : x ≡ item = cc in
    ap (λ (i : Item). entry_of i ∷ unmarked xs ms) same

-- and there is none left if none was taken
pub none-taken : (items : List Item) (marks : List Bool) (taken : Option Item)
    → items ≡ option_to_list taken ++ drop 1 items → IfNone taken (unmarked (drop 1 items) (drop 1 marks) ≡ [])
none-taken [] marks None is = refl
none-taken (x ∷ xs) marks None is = absurd (omega (arith, ap (λ (l : List Item). length l) is))
none-taken items marks (Some item) is = tt

-- ---- what a search finds

named-from : (items : List Item) (name : Name) (place : ℕ) → place < length items
    → ((d : Item) → name_cmp (get_or items place d).name name ≡ Equal) → IsNamed items name place
named-from [] name place within tied = absurd (omega (arith, within))
named-from (x ∷ xs) name zero within tied = bytes_cmp-same x.name name (tied x)
named-from (x ∷ xs) name (suc place) within tied = named-from xs name place (omega (arith, within)) tied

-- the item that was got at a place has a name if its name is that one
pub named-got : (items : List Item) (name : Name) (place : ℕ) (item : Item) → place < length items
    → item ≡ get_or items place item → pointwise nat_eq item.name name ≡ true → IsNamed items name place
named-got [] name place item within there same = absurd (omega (arith, within))
named-got (x ∷ xs) name zero item within there same =
    ap (λ (i : Item). i.name) (sym there) ∙ (bytes_decides item.name name).0 same
named-got (x ∷ xs) name (suc place) item within there same =
    named-got xs name place item (omega (arith, within)) there same

gap-from : (items : List Item) (name : Name) (place : ℕ) → place ≤ length items
    → ((k : ℕ) (d : Item) → 0 ≤ k → k < place → name_cmp (get_or items k d).name name ≡ Less)
    → ((k : ℕ) (d : Item) → place ≤ k → k < length items → name_cmp (get_or items k d).name name ≡ Greater)
    → IsGap items name place
gap-from [] name zero within below above = tt
gap-from [] name (suc place) within below above = absurd (omega (arith, within))
gap-from (x ∷ xs) name zero within below above = above 0 x (omega arith) (omega arith)
gap-from (x ∷ xs) name (suc place) within below above = (
  below 0 x (omega arith) (omega arith),
  gap-from xs name place (omega (arith, within))
      (λ k d low high. below (suc k) d (omega arith) (omega (arith, high)))
      (λ k d low high. above (suc k) d (omega (arith, low)) (omega (arith, high))),
)

next-rises : (items : List Item) → InOrder name_cmp (map entry_of items) → (k : ℕ) (d : Item) → suc k < length items
    → name_cmp (get_or items k d).name (get_or items (suc k) d).name ≡ Less
next-rises [] order k d within = absurd (omega (arith, within))
next-rises (x ∷ []) order k d within = absurd (omega (arith, within))
next-rises (x ∷ y ∷ ys) order zero d within = (order-head x (y ∷ ys) order).0
next-rises (x ∷ y ∷ ys) order (suc k) d within =
    next-rises (y ∷ ys) (order-tail x (y ∷ ys) order) k d (omega (arith, within))

searchable : (items : List Item) (name : Name) → InOrder name_cmp (map entry_of items)
    → IsNonDecreasingBy (λ (item : Item). ordering_index (name_cmp item.name name)) items
searchable items name order =
    searchable_from_sorted nat_list_cmp_total (λ (item : Item). item.name) items name (λ k d low high.
    let next : k + 1 ≡ suc k = omega arith in
    subst (λ n. is_lt (name_cmp (get_or items n d).name (get_or items k d).name) ≡ false) (sym next)
    (ap is_lt (turned (get_or items k d).name (get_or items (suc k) d).name
    (next-rises items order k d (omega (arith, high))))))

pub found-named : (items : List Item) (name : Name) (len : ℕ) (r : Result ℕ ℕ) → len ≡ length items
    → IsSearchInRange r len → IsBinarySearchResult (λ (item : Item). name_cmp item.name name) items r
    → IfOk r (IsNamed items name)
found-named items name len (Ok place) size within found =
    named-from items name place (omega (arith, size, within)) found
found-named items name len (Err place) size within found = tt

pub found-gap : (items : List Item) (name : Name) (len : ℕ) (r : Result ℕ ℕ) → len ≡ length items
    → IsSearchInRange r len → IsBinarySearchResult (λ (item : Item). name_cmp item.name name) items r
    → InOrder name_cmp (map entry_of items) → IfErr r (IsGap items name)
found-gap items name len (Ok place) size within found order = tt
found-gap items name len (Err place) size within found order =
    let point = found (searchable items name order) in
    gap-from items name place (omega (arith, size, within)) point.0 point.1

-- ---- a place after all marks

pub at-none : (items : List Item) (marks : List Bool) (place len : ℕ) → len ≡ length marks
    → (place < len → false ≡ true) → unmarked_at items marks place ≡ None
at-none items marks place len size none = by (nat_lt place len) refl
  where
    by : (b : Bool) → nat_lt place len ≡ b → unmarked_at items marks place ≡ None
    by true within =
        absurd (let found = none (ltb-true place len within) in cc)
    by false past = at-behind items marks place (omega (arith, size, ltb-false place len past))

-- ---- marks made for all items

take-none : {X : Type 0} (n : ℕ) (xs : List X) → xs ≡ [] → take n xs ≡ []
take-none zero xs none = refl
take-none (suc n) [] none = refl
take-none (suc n) (x ∷ xs) none = absurd cc

pub all-false : (items : List Item) (before marks : List Bool) (len count : ℕ) → before ≡ [] → len ≡ 0
    → count ≡ length items → marks ≡ take count before ++ replicate (count - len) false
    → marks ≡ replicate (length items) false
all-false items before marks len count empty none size is =
    let whole : count - len ≡ length items = omega (arith, none, size) in
    is
    ∙ (ap (λ (front : List Bool). front ++ replicate (count - len) false) (take-none count before empty)
    ∙ ap (λ n. replicate n false) whole)

-- ---- how many are left after a first one is taken, and after one is put

pub taken-one : (items : List Item) (marks : List Bool) (next : List Item) (next-marks : List Bool) (left : ℕ)
    → (taken : Option Item) → IsMarked items marks left → ArePaired next next-marks
    → unmarked items marks ≡ option_to_list (option_map entry_of taken) ++ unmarked next next-marks
    → is_some taken ≡ true → (1 ≤ left) × IsMarked next next-marks (left - 1)
taken-one items marks next next-marks left None marked paired is some = absurd cc
taken-one items marks next next-marks left (Some item) marked paired is some =
    let size = ap (λ (l : Left). length l) is in (
      omega (arith, size, marked.counted),
      record { paired = paired; counted = omega (arith, size, marked.counted) },
    )

pub put-one : (items : List Item) (marks : List Bool) (next : List Item) (next-marks : List Bool) (left : ℕ)
    → (more : Bool) → IsMarked items marks left → ArePaired next next-marks
    → length (unmarked next next-marks) ≡ cond more 1 0 + length (unmarked items marks) → more ≡ true
    → (left + 1 ≤ length next) × IsMarked next next-marks (left + 1)
put-one items marks next next-marks left more marked paired size is =
    let grown : length (unmarked next next-marks) ≡ 1 + length (unmarked items marks) =
    size ∙ ap (λ b. cond b 1 0 + length (unmarked items marks)) is in (
      omega (arith, grown, marked.counted, unmarked-few next next-marks),
      record { paired = paired; counted = omega (arith, grown, marked.counted) },
    )
