-- The first names of a listing, copied one by one: as items they are some of the names that it still has to give.
use Rattle.sftp_listing.proofs.Imports.{◌≡◌, ℕ, ◌+◌, ◌<◌, ◌≤◌, Bool, List, [], ◌∷◌, ◌++◌, map, drop, length, Option}
use Rattle.sftp_listing.proofs.Imports.{Some, None, option_copied, Bor, sym, ap, ◌∙◌, arith, append_assoc, append-nil}
use Rattle.sftp_listing.proofs.Imports.{length-append, Attrs, Name, Item, entry_of, Left, name_of, unmarked, ◌&&◌}
use Rattle.sftp_listing.proofs.Imports.{◌||◌, not, true, false, cond, take, get_or, refl, is_eq, nat_list_eq_equiv}
use Rattle.sftp_listing.proofs.Imports.{texts_ties, take_more, take-append-drop, list_any_more, list_any-append}
use Rattle.sftp_listing.proofs.Imports.{and_parts, name_cmp, same_bytes, is_among, are_distinct, zero, suc}
use Rattle.sftp_listing.proofs.Imports.{nat_list_cmp_total, keys_of, InOrder, get, without, retain, kept}
use Rattle.sftp_listing.proofs.Imports.{bytes_cmp-same, InOrder-retain, InOrder-without, get-retain, get-without}
use Rattle.sftp_listing.proofs.Imports.{same_table, names_in, struck, first_items, is_name, each-get, IsLeft, IsItem}
use Rattle.sftp_listing.proofs.Imports.{◌==◌, nat_lt, eq-eqb, Less, AllByRecursion, list_all, and_from, take_all}
use Rattle.sftp_listing.proofs.Imports.{take_min, length-take, length-map, is_plain, same_attributes, has_attributes}
use Rattle.sftp_listing.proofs.Imports.{is_left, are_some_left, first_names, item_of, nat_le, ◌^◌, subst, IsTrue}
use Rattle.sftp_listing.proofs.Imports.{leb-true, lit<, nat_cmp, list_all-append, Place, place_cmp, place_cmp-same}
use Rattle.sftp_listing.proofs.Imports.{get-each, each-all}
use Rattle.std.specs.Option.{option_map, option_to_list}
use Rattle.sftp_listing.specs.Marked.{unmarked_at}
use Rattle.sftp_listing.proofs.MarkedItems.{left-next, without-here, get-behind, get-here}
use Rattle.std.proofs.lemmas.Map.Keys.{sorted_tail, sorted_head}
use Rattle.std.proofs.lemmas.List.{at_drop_more, at_drop_all}
use Rattle.std.proofs.lemmas.Option.{same_Some}
use Rattle.std.specs.FinMap.{nat_cmp-IsAntisymmetric}
use Rattle.sftp_tree.proofs.Limits.{fits-parts}
use Rattle.sftp_tree.specs.Attributes.{said, shown, shown_content}
use Rattle.sftp_tree.specs.Attributes.{listing}
use Rattle.sftp_tree.specs.Requests.{shown_at}
use Rattle.sftp_tree.specs.Tree.{limits, IsContent, content_at, content_fits, Tree, IsNode, node_at, IsKept, link_fits}
use Rattle.sftp_tree.specs.declared.file_contents.Content.{Content}
use Rattle.sftp_tree.specs.declared.nodes.Node.{Node}
use Rattle.sftp_treefile.specs.TreeFile.{is_target}
use Rattle.sftp_packets.specs.Spelling.{FitsAttrs}
use Rattle.sftp_path.specs.Place.{are_names, is_good_path, name_limit, components}
use Rattle.sftp_tree.specs.declared.nodes.Node.TheVariants.{Dir, File, Link}
use Rattle.sftp_tree.proofs.Requests.{listing-rises, listed-at}

-- ==== The names of a reply to READDIR, copied from what a listing keeps, one place after the other.

-- what the item at a place gives
abbrev entry_at : Option (Bor Item) → Option (Name × Attrs)
entry_at item = option_map entry_of (option_copied item)

listed-more : (before : List Name) (found : Option (Name × Attrs)) (rest : Left)
    → (before ++ map name_of (option_to_list found)) ++ map name_of rest
    ≡ before ++ map name_of (option_to_list found ++ rest)
listed-more before None rest = ap (λ l. l ++ map name_of rest) (append-nil before)
listed-more before (Some e) rest = append_assoc before (name_of e ∷ []) (map name_of rest)

pub listed-next : (before next : List Name) (item : Option (Bor Item)) (items : List Item) (marks : List Bool)
    → (place : ℕ) (left : Left) → place < length items → length marks ≡ length items
    → entry_at item ≡ unmarked_at items marks place
    → before ++ map name_of (unmarked (drop place items) (drop place marks)) ≡ map name_of left
    → next ≡ before ++ map name_of (option_to_list (entry_at item))
    → next ++ map name_of (unmarked (drop (place + 1) items) (drop (place + 1) marks)) ≡ map name_of left
listed-next before next item items marks place left within same is listed pushed =
    let rest = unmarked (drop (place + 1) items) (drop (place + 1) marks) in
    ap (λ l. l ++ map name_of rest)
    (pushed ∙ ap (λ (o : Option (Name × Attrs)). before ++ map name_of (option_to_list o)) is)
    ∙ (listed-more before (unmarked_at items marks place) rest
    ∙ (ap (λ (l : Left). before ++ map name_of l) (sym (left-next items marks place within same)) ∙ listed))

at-most-one : (found : Option (Name × Attrs)) → length (map name_of (option_to_list found)) ≤ 1
at-most-one None = omega arith
at-most-one (Some e) = omega arith

pub few-next : (before next : List Name) (item : Option (Bor Item)) (most : ℕ) → length before < most
    → next ≡ before ++ map name_of (option_to_list (entry_at item)) → length next ≤ most
few-next before next item most few pushed =
    let added = map name_of (option_to_list (entry_at item)) in
    omega (arith, few, at-most-one (entry_at item), length-append before added, ap (λ (l : List Name). length l) pushed)

-- ==== Names that come once, looked at one after the other.

-- ---- the names so far, and one more

or-turn : (e among : Bool) → cond e true among ≡ (among || e)
or-turn true true = refl
or-turn true false = refl
or-turn false true = refl
or-turn false false = refl

pub tie : (x q : Name) → is_eq (name_cmp x q) ≡ same_bytes q x
tie x q = sym (texts_ties x q) ∙ nat_list_eq_equiv.symm x q

-- the names that are seen
pub next-seen : (names : List Name) (i : ℕ) (x q : Name) → i < length names → x ≡ get_or names i x
    → cond (is_eq (name_cmp x q)) true (is_among q (take i names)) ≡ is_among q (take (i + 1) names)
next-seen names i x q within is =
    or-turn (is_eq (name_cmp x q)) (is_among q (take i names))
    ∙ (ap (λ e. is_among q (take i names) || e) (tie x q ∙ ap (same_bytes q) is)
    ∙ sym (list_any_more (same_bytes q) names i x within))

inner-turn : (b c e : Bool) → (not e && (b && not c)) ≡ (b && not (e || c))
inner-turn true c true = refl
inner-turn false c true = refl
inner-turn b c false = refl

regroup : (a b c d e : Bool) → d ≡ e → (not (a || d) && (b && not c)) ≡ ((not a && b) && not (e || c))
regroup true b c d e is = refl
regroup false b c d e is = ap (λ d. not d && (b && not c)) is ∙ inner-turn b c e

or-false : (b : Bool) → (b || false) ≡ b
or-false true = refl
or-false false = refl

distinct-more : (names : List Name) (x : Name)
    → are_distinct (names ++ x ∷ []) ≡ (are_distinct names && not (is_among x names))
distinct-more [] x = refl
distinct-more (name ∷ names) x =
    ap (λ b. not b && are_distinct (names ++ x ∷ [])) (list_any-append (same_bytes name) names (x ∷ []))
    ∙ (ap (λ b. not (is_among name names || is_among name (x ∷ [])) && b) (distinct-more names x)
    ∙ regroup (is_among name names) (are_distinct names) (is_among x names) (is_among name (x ∷ [])) (same_bytes x name)
    (or-false (same_bytes name x) ∙ nat_list_eq_equiv.symm name x))

pub next-distinct : (names : List Name) (i : ℕ) (x : Name) (added : Bool) → i < length names → x ≡ get_or names i x
    → are_distinct (take i names) ≡ true → added ≡ not (is_among x (take i names))
    → are_distinct (take (i + 1) names) ≡ added
next-distinct names i x added within is distinct new =
    ap are_distinct (take_more names i x within)
    ∙ (ap (λ y. are_distinct (take i names ++ y ∷ [])) (sym is)
    ∙ (distinct-more (take i names) x
    ∙ (ap (λ b. b && not (is_among x (take i names))) distinct ∙ sym new)))

-- ---- a name that comes twice

distinct-front : (xs ys : List Name) → are_distinct (xs ++ ys) ≡ true → are_distinct xs ≡ true
distinct-front [] ys is = refl
distinct-front (x ∷ xs) ys is =
    let parts = and_parts (not (is_among x (xs ++ ys))) (are_distinct (xs ++ ys)) is in
    both (is_among x xs) (is_among x ys) (are_distinct xs)
    (ap not (sym (list_any-append (same_bytes x) xs ys)) ∙ parts.0) (distinct-front xs ys parts.1)
  where
    both : (a b rest : Bool) → not (a || b) ≡ true → rest ≡ true → (not a && rest) ≡ true
    both true b rest e f = absurd cc
    both false b rest e f = f

pub not-distinct : (names : List Name) (i : ℕ) → are_distinct (take i names) ≡ false → are_distinct names ≡ false
not-distinct names i twice = by (are_distinct names) refl
  where
    by : (b : Bool) → are_distinct names ≡ b → are_distinct names ≡ false
    by true once =
        absurd
        (let e = distinct-front (take i names) (drop i names) (ap are_distinct (take-append-drop i names) ∙ once) in
        cc)
    by false once = once

-- ==== Names that are struck from a listing, one by one and all at once.

-- what a name has once these are struck
struck-found : (left : Left) (names : List Name) (name : Name) → InOrder name_cmp left
    → get name_cmp (struck left names) name ≡ kept (λ e. not (is_among e.0 names)) name (get name_cmp left name)
struck-found left names name order =
    get-retain name_cmp nat_list_cmp_total bytes_cmp-same left (λ e. not (is_among e.0 names)) name order

one-more : (b among : Bool) (found : Option Attrs)
    → cond (not among) (cond b None found) None ≡ cond (not (b || among)) found None
one-more true true found = refl
one-more true false found = refl
one-more false true found = refl
one-more false false found = refl

kept-is : (b : Bool) (name : Name) (found : Option Attrs) (keeps : Name → Bool) → keeps name ≡ b
    → kept (λ e. keeps e.0) name found ≡ cond b found None
kept-is true name None keeps is = refl
kept-is false name None keeps is = refl
kept-is b name (Some attrs) keeps is = ap (λ x. cond x (Some attrs) None) is

-- a first name is struck, and then the others
pub struck-first : (left : Left) (name : Name) (names : List Name) → InOrder name_cmp left
    → struck left (name ∷ names) ≡ struck (without name_cmp left name) names
struck-first left name names order =
    same_table name_cmp nat_list_cmp_total bytes_cmp-same (struck left (name ∷ names))
    (struck (without name_cmp left name) names)
    (InOrder-retain name_cmp left (λ e. not (is_among e.0 (name ∷ names))) order)
    (InOrder-retain name_cmp (without name_cmp left name) (λ e. not (is_among e.0 names))
    (InOrder-without name_cmp left name order))
    (λ at.
    let found = get name_cmp left at in
    struck-found left (name ∷ names) at order
    ∙ (kept-is (not (same_bytes at name || is_among at names)) at found (λ n. not (is_among n (name ∷ names))) refl
    ∙ (sym (one-more (same_bytes at name) (is_among at names) found)
    ∙ (ap (λ b. cond (not (is_among at names)) (cond b None found) None) (sym (tie name at))
    ∙ (ap (λ o. cond (not (is_among at names)) o None)
    (sym (get-without name_cmp nat_list_cmp_total left name at order))
    ∙ (sym (kept-is (not (is_among at names)) at (get name_cmp (without name_cmp left name) at)
    (λ n. not (is_among n names)) refl)
    ∙ sym (struck-found (without name_cmp left name) names at (InOrder-without name_cmp left name order))))))))

-- no name is struck
pub struck-none : (left : Left) → struck left [] ≡ left
unfolding retain
struck-none [] = refl
struck-none (e ∷ es) = ap (λ rest. e ∷ rest) (struck-none es)

-- the first names are struck: as many entries are dropped
pub struck-first_items : (n : ℕ) (left : Left) → InOrder name_cmp left
    → struck left (names_in (first_items n left)) ≡ drop (length (first_items n left)) left
struck-first_items zero [] order = struck-none []
struck-first_items zero (e ∷ es) order = struck-none (e ∷ es)
struck-first_items (suc n) [] order = struck-none []
struck-first_items (suc n) (e ∷ es) order =
    struck-first (e ∷ es) e.0 (names_in (first_items n es)) order
    ∙ (ap (λ left. struck left (names_in (first_items n es))) (without-here e es)
    ∙ struck-first_items n es (sorted_tail name_cmp e.0 (keys_of es) order))

-- ==== Names that a listing still has to give, looked up and struck one after the other.

-- what is no name is not left
pub no-name-left : (left : Left) (name : Name) → IsLeft left → is_name name ≡ false → get name_cmp left name ≡ None
no-name-left left name is_left no_name = by (get name_cmp left name) refl
  where
    by : (found : Option Attrs) → get name_cmp left name ≡ found → get name_cmp left name ≡ None
    by None there = there
    by (Some attrs) there =
        absurd
        (let item : IsItem (name, attrs) =
        each-get name_cmp bytes_cmp-same IsItem left name attrs is_left.items there in
        let named : is_name name ≡ true = item.0 in
        cc)

-- once a name is struck, the others are still to be struck
pub struck-next : (left next : Left) (names : List Name) (i : ℕ) (x : Name) → InOrder name_cmp left
    → i < length names → x ≡ get_or names i x → next ≡ without name_cmp left x
    → struck next (drop (i + 1) names) ≡ struck left (drop i names)
struck-next left next names i x order within is same =
    ap (λ l. struck l (drop (i + 1) names)) same
    ∙ (sym (struck-first left x (drop (i + 1) names) order)
    ∙ (ap (λ y. struck left (y ∷ drop (i + 1) names)) is ∙ sym (at_drop_more (struck left) names i x within)))

-- at the end none is
pub struck-last : (left : Left) (names : List Name) (i : ℕ) → length names ≤ i → left ≡ struck left (drop i names)
struck-last left names i past = sym (at_drop_all (struck left) names i past ∙ struck-none left)

-- ---- the names that were copied

-- of all that are left
pub first-all : (names : List Name) (rest left : Left) (most : ℕ) → names ++ map name_of rest ≡ map name_of left
    → length names ≤ most → rest ≡ [] → names ≡ first_names most left
first-all names rest left most is few none =
    let whole : names ≡ map name_of left =
    sym (append-nil names) ∙ (ap (λ (r : Left). names ++ map name_of r) (sym none) ∙ is) in
    let short : length left ≤ most =
    omega (arith, few, ap (λ (xs : List Name). length xs) whole, length-map left name_of) in
    whole ∙ ap (λ (xs : Left). map name_of xs) (sym (take_all most left short))

-- the front of them
front : (names rest : List Name) (left : Left) → names ++ rest ≡ map name_of left
    → names ≡ first_names (length names) left
front [] rest [] is = refl
front [] rest (e ∷ es) is = refl
front (x ∷ xs) rest [] is = absurd cc
front (x ∷ xs) rest (e ∷ es) is =
    let head : x ≡ name_of e = cc in
    let tail : xs ++ rest ≡ map name_of es = cc in
    λ i. head i ∷ front xs rest es tail i

pub first-front : (names : List Name) (rest left : Left) (most : ℕ) → names ++ map name_of rest ≡ map name_of left
    → length names ≤ most → most ≤ length names → names ≡ first_names most left
first-front names rest left most is few many =
    let same : length names ≡ most = omega (arith, few, many) in
    front names (map name_of rest) left is ∙ ap (λ n. first_names n left) same

-- ---- as many items as names

-- as many as there are of the first names
counted : (n : ℕ) (left : Left) → take (length (first_names n left)) left ≡ take n left
counted n left =
    ap (λ m. take m left) (length-map (take n left) name_of ∙ length-take n left) ∙ take_min n left

pub first-again : (n : ℕ) (names : List Name) (left : Left) → names ≡ first_names n left
    → names ≡ first_names (length names) left
first-again n names left is =
    is
    ∙ (ap (λ (xs : Left). map name_of xs) (sym (counted n left))
    ∙ ap (λ (xs : List Name). first_names (length xs) left) (sym is))

pub as-many-items : (n : ℕ) (names : List Name) (left : Left) → names ≡ first_names n left
    → first_items (length names) left ≡ first_items n left
as-many-items n names left is =
    ap (λ (xs : List Name). first_items (length xs) left) is
    ∙ ap (λ (xs : Left). map item_of xs) (counted n left)

pub items-counted : (n : ℕ) (names : List Name) (left : Left) → names ≡ first_names n left
    → length (first_items n left) ≡ length names
items-counted n names left is =
    length-map (take n left) item_of
    ∙ (sym (length-map (take n left) name_of) ∙ ap (λ (xs : List Name). length xs) (sym is))

-- ---- each is left

pub same-itself : (n : ℕ) → (n == n) ≡ true
same-itself n = eq-eqb n n refl

abbrev pub Extended : Type 0
Extended = List (List ℕ × List ℕ)

abbrev pub attributes_of : Option ℕ → Option (ℕ × ℕ) → Option ℕ → Option (ℕ × ℕ) → Option Extended → Attrs
attributes_of size owner permissions times extended =
    record { size = size; owner = owner; permissions = permissions; times = times; extended = extended }

fields-alike : (size : Option ℕ) (owner : Option (ℕ × ℕ)) (permissions : Option ℕ) (times : Option (ℕ × ℕ))
    → (extended : Option Extended) → is_plain (attributes_of size owner permissions times extended) ≡ true
    → same_attributes (attributes_of size owner permissions times extended)
    (attributes_of size owner permissions times extended)
    ≡ true
fields-alike (Some size) (Some owner) (Some permissions) times extended is = simp (same-itself)
fields-alike None owner permissions times extended is = absurd cc
fields-alike (Some size) None permissions times extended is = absurd cc
fields-alike (Some size) (Some owner) None times extended is = absurd cc

plain-alike : (attrs : Attrs) → is_plain attrs ≡ true → same_attributes attrs attrs ≡ true
plain-alike attrs = fields-alike attrs.size attrs.owner attrs.permissions attrs.times attrs.extended

-- the first entry of a table in order is found
pub found-first : (name : Name) (attrs : Attrs) (left : Left) → get name_cmp ((name, attrs) ∷ left) name ≡ Some attrs
found-first name attrs left = get-here (name, attrs) left

-- names that come one after the other differ
apart : (first name : Name) → name_cmp first name ≡ Less → same_bytes first name ≡ false
apart first name less = texts_ties first name ∙ ap is_eq less

-- each of the first names is found in a table in which these come
module _ (whole : Left) where
  abbrev IsFound : Name × Attrs → Type 0
  IsFound e = get name_cmp whole e.0 ≡ Some e.1

  each-left : (n : ℕ) (left : Left) → AllByRecursion IsFound left → AllByRecursion IsItem left
      → list_all (is_left whole) (first_items n left) ≡ true
  each-left zero [] found items = refl
  each-left zero (e ∷ es) found items = refl
  each-left (suc n) [] found items = refl
  each-left (suc n) (e ∷ es) found items =
      and_from (is_left whole (item_of e)) (list_all (is_left whole) (first_items n es))
      (ap (λ o. has_attributes o e.1) found.0 ∙ plain-alike e.1 items.0.2) (each-left n es found.1 items.1)

found-more : (e : Name × Attrs) (left part : Left) → AllByRecursion (λ k. name_cmp e.0 k ≡ Less) (keys_of part)
    → AllByRecursion (IsFound left) part → AllByRecursion (IsFound (e ∷ left)) part
found-more e left [] above found = tt
found-more e left (d ∷ ds) above found =
    (get-behind e left d.0 above.0 ∙ found.0, found-more e left ds above.1 found.1)

each-found : (left : Left) → InOrder name_cmp left → AllByRecursion (IsFound left) left
each-found [] order = tt
each-found (e ∷ es) order = (
  found-first e.0 e.1 es,
  found-more e es es (sorted_head name_cmp e.0 (keys_of es) order)
      (each-found es (sorted_tail name_cmp e.0 (keys_of es) order)),
)

-- ---- and comes once

not-among : (name : Name) (n : ℕ) (left : Left) → AllByRecursion (λ k. name_cmp name k ≡ Less) (keys_of left)
    → is_among name (names_in (first_items n left)) ≡ false
not-among name zero [] above = refl
not-among name zero (e ∷ es) above = refl
not-among name (suc n) [] above = refl
not-among name (suc n) (e ∷ es) above = rw (apart name e.0 above.0) (not-among name n es above.1)

once : (n : ℕ) (left : Left) → InOrder name_cmp left → are_distinct (names_in (first_items n left)) ≡ true
once zero [] order = refl
once zero (e ∷ es) order = refl
once (suc n) [] order = refl
once (suc n) (e ∷ es) order =
    and_from (not (is_among e.0 (names_in (first_items n es)))) (are_distinct (names_in (first_items n es)))
    (ap not (not-among e.0 n es (sorted_head name_cmp e.0 (keys_of es) order)))
    (once n es (sorted_tail name_cmp e.0 (keys_of es) order))

-- so they are some of those left, unless there are none
pub first-some : (n : ℕ) (left : Left) → IsLeft left → nat_lt 0 (length (first_items n left)) ≡ true
    → are_some_left left (first_items n left) ≡ true
first-some n left is some =
    and_from (nat_lt 0 (length (first_items n left)))
    (list_all (is_left left) (first_items n left) && are_distinct (names_in (first_items n left))) some
    (and_from (list_all (is_left left) (first_items n left)) (are_distinct (names_in (first_items n left)))
    (each-left left n left (each-found left is.ordered) is.items) (once n left is.ordered))

-- ==== What the listing of a directory gives at first can be given.

-- attributes that an entry of a listing may have
abbrev pub IsShown : Attrs → Type 0
IsShown attrs = FitsAttrs attrs × IsTrue (is_plain attrs)

said-shown : (size uid gid permissions : ℕ) → size < 2 ^ 64 → uid < 2 ^ 32 → gid < 2 ^ 32 → permissions < 2 ^ 32
    → IsShown (said size uid gid permissions)
said-shown size uid gid permissions sized user group bits =
    (record { size = sized; owner = (user, group); permissions = bits; times = tt; extended = tt }, refl)

pub short-target : (linktarget : List ℕ) → is_target linktarget ≡ true → length linktarget ≤ 4096
unfolding is_good_path
short-target linktarget is =
    let parts = and_parts (nat_lt 0 (length linktarget)) (is_good_path linktarget) is in
    let sizes = and_parts (nat_le (length linktarget) 4096)
    (list_all (λ b. not (b == 0)) linktarget
    && list_all (λ part. nat_le (length part) name_limit) (components linktarget)) parts.1 in
    leb-true (length linktarget) 4096 sizes.0

pub content-shown : (t : Tree) (number : ℕ) (content : Content) → IsKept t → content_at t.files number ≡ Some content
    → IsShown (shown_content content)
content-shown t number content kept there =
    let well = kept.well_formed in
    let fit =
    each-get nat_cmp nat_cmp-IsAntisymmetric (λ e. IsContent e.1) t.files number content well.contents there in
    let test = λ (e : ℕ × Content). content_fits (limits t) e.1 in
    let within = each-get nat_cmp nat_cmp-IsAntisymmetric (λ e. IsTrue (test e)) t.files number content
    (each-all test t.files (fits-parts t kept.within_limits).files) there in
    let size = leb-true (length content.bytes) (limits t).file_bytes within in
    said-shown (length content.bytes) content.owner.uid content.owner.gid (0o100000 + content.owner.permissions)
    (omega (arith, size, well.limits.file_bytes.1)) fit.0.0 fit.0.1 (omega (arith, fit.0.2))

number-shown : (t : Tree) (number : ℕ) (found : Option Content) (attrs : Attrs) → IsKept t
    → content_at t.files number ≡ found → option_map shown_content found ≡ Some attrs → IsShown attrs
number-shown t number None attrs kept there is = absurd cc
number-shown t number (Some content) attrs kept there is =
    subst IsShown (same_Some (shown_content content) attrs is) (content-shown t number content kept there)

pub node-shown : (t : Tree) (standing : Node) (attrs : Attrs) → IsKept t → IsNode t.files standing
    → link_fits standing ≡ true → shown t standing ≡ Some attrs → IsShown attrs
node-shown t (Dir owner) attrs kept node link is =
    subst IsShown (same_Some (said 0 owner.uid owner.gid (0o040000 + owner.permissions)) attrs is)
    (said-shown 0 owner.uid owner.gid (0o040000 + owner.permissions) (lit< tt) node.0 node.1 (omega (arith, node.2)))
node-shown t (File number) attrs kept node link is =
    number-shown t number (content_at t.files number) attrs kept refl is
node-shown t (Link linktarget) attrs kept node link is =
    let short = short-target linktarget link in
    subst IsShown (same_Some (said (length linktarget) t.uid t.gid 0o120777) attrs is)
    (said-shown (length linktarget) t.uid t.gid 0o120777 (omega (arith, short)) kept.well_formed.uid
    kept.well_formed.gid (lit< tt))

last-name : (place : Place) (name : Name) → are_names (place ++ name ∷ []) ≡ true → is_name name ≡ true
last-name place name names =
    let both = and_parts (are_names place) (are_names (name ∷ []))
    (sym (list_all-append is_name place (name ∷ [])) ∙ names) in
    (and_parts (is_name name) true both.1).0

module _ (t : Tree) (kept : IsKept t) (place : Place) (name : Name) (attrs : Attrs) where
  item-of : (found : Option Node) → node_at t.names (place ++ name ∷ []) ≡ found → shown_at t found ≡ Some attrs
      → IsItem (name, attrs)
  item-of None there is = absurd cc
  item-of (Some standing) there is =
      let at = place ++ name ∷ [] in
      let well = kept.well_formed in
      let names =
      each-get place_cmp place_cmp-same (λ e. IsTrue (are_names e.0)) t.names at standing well.named there in
      let node = each-get place_cmp place_cmp-same (λ e. IsNode t.files e.1) t.names at standing well.nodes there in
      let test = λ (e : Place × Node). link_fits e.1 in
      let link = each-get place_cmp place_cmp-same (λ e. IsTrue (test e)) t.names at standing
      (each-all test t.names (fits-parts t kept.within_limits).links) there in
      let shown_well = node-shown t standing attrs kept node link is in
      (last-name place name names, shown_well.0, shown_well.1)

pub listing-fits : (t : Tree) → IsKept t → (place : Place) → IsLeft (listing t place)
listing-fits t kept place =
    let order = listing-rises t place kept.well_formed.ordered in
    record {
      ordered = order;
      items =
          get-each name_cmp bytes_cmp-same nat_list_cmp_total IsItem (listing t place) order
          (λ name attrs there.
          item-of t kept place name attrs (node_at t.names (place ++ name ∷ [])) refl
          (sym (listed-at t place name kept.well_formed) ∙ there));
    }
