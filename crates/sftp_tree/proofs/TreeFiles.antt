-- Tree files: what they say of a tree, and the trees that they are the files of.
use Rattle.sftp_tree.proofs.Imports.{◌≡◌, ℕ, ◌<◌, Bool, true, false, ◌&&◌, ◌||◌, cond, List, [], ◌∷◌, ◌++◌, length}
use Rattle.sftp_tree.proofs.Imports.{map, Option, Some, None, refl, sym, ap, subst, ◌∙◌, append_assoc, arith, IsTrue}
use Rattle.sftp_tree.proofs.Imports.{is_at, keys_of, AllByRecursion, list_any, IsStrictlySortedBy, is_eq, Ordering}
use Rattle.sftp_tree.proofs.Imports.{Less, Equal, le-leb, tied_itself, append-nil, map-append, sorted_head}
use Rattle.sftp_tree.proofs.Imports.{sorted_tail, Equal-is, Place, place_cmp, parent, are_names, InOrder, get}
use Rattle.sftp_tree.proofs.Imports.{place_cmp-total, place_cmp-same, get-below, Owner, Kind, Row, TreeLimits}
use Rattle.sftp_tree.proofs.Imports.{place_of, same_place, is_dir, is_dir_at, has_dir, is_target, are_bytes, IsOwner}
use Rattle.sftp_tree.proofs.Imports.{IsKind, IsPlaceText, IsNext, AreRows, Node, Dir, File, Link, Names, node_at}
use Rattle.sftp_tree.proofs.Imports.{is_directory, is_taken, depth_fits, only_root, keys_of-map_values, with_values}
use Rattle.sftp_tree.proofs.Imports.{get-with_values, node_of, names_of}
use Rattle.std.proofs.lemmas.Map.{lookup-none}
use Rattle.std.proofs.lemmas.Map.Entries.{none_below_head}
use Rattle.sftp_treefile.specs.declared.files.Kind.TheVariants as kinds
use Rattle.sftp_tree.proofs.PlaceTables.{all_both, all_from_map, all_to_map, sorted_push, sorted_before}
use Rattle.sftp_tree.proofs.PlaceTables.{sorted_right, sorted_left, keys_append, lookup_left, lookup_right}
use Rattle.sftp_tree.proofs.PlaceTables.{lookup_found, places_tie, parent_less, root_before}
use Rattle.sftp_tree.proofs.PlaceTables.{each-weaker}
use Rattle.std.specs.Option.{option_map}
use Rattle.sftp_tree.specs.PictureParts.{entry_of, entries_after}
pub mod Numbers
pub mod Stores
pub mod Files
pub mod Branches
pub mod Times
pub mod Growing

-- ==== The table of a root and of rows, each of which may come after those before it, is the table of a tree, and the
-- rows of each tree's table are such. Here all names of files are of the file 0: which places have entries of which
-- kind does not depend on the file.

-- ---- tables

-- a place within the limit
abbrev pub IsPlace : Place → Type 0
IsPlace place = IsTrue (are_names place) × IsTrue (depth_fits place)

-- what may be there
abbrev pub IsFitNode : Node → Type 0
IsFitNode (Dir owner) = IsOwner owner
IsFitNode (File number) = Unit {0}
IsFitNode (Link target) = IsTrue (are_bytes target) × IsTrue (is_target target)

-- an entry's node, where all names are of the file 0
abbrev pub bare_kind : Kind → Node
bare_kind (kinds.Dir owner) = Dir owner
bare_kind (kinds.First owner bytes) = File 0
bare_kind (kinds.Further number) = File 0
bare_kind (kinds.Link target) = Link target

abbrev pub bare_entry : Row → Place × Node
bare_entry row = (place_of row.path, bare_kind row.kind)

abbrev pub bare_names : Owner → List Row → Names
bare_names root rows = only_root root ++ map bare_entry rows

-- each kind may come after the rows before it
abbrev pub AreKinds : TreeLimits → List Row → List Row → Type 0
AreKinds bounds earlier [] = Unit {0}
AreKinds bounds earlier (row ∷ rows) = IsKind bounds earlier row.kind × AreKinds bounds (earlier ++ row ∷ []) rows

-- what holds of the table of a tree within the limits, but for their number
pub record IsTable (root : Owner) (names : Names) : Type 0 where
  pub ordered : InOrder place_cmp names
  pub places : AllByRecursion (λ e. IsPlace e.0) names
  pub nodes : AllByRecursion (λ e. IsFitNode e.1) names
  pub root_is : node_at names [] ≡ Some (Dir root)
  pub parents : (place : Place) → IsTrue (is_taken (node_at names place)) → IsTrue (is_directory (node_at names (parent place)))

-- ---- look-ups in a table and in its front

pub at_left : (xs ys : Names) (p : Place) (v : Node) → node_at xs p ≡ Some v → node_at (xs ++ ys) p ≡ Some v
unfolding get
at_left xs ys p v h = lookup_left (is_at (place_cmp p)) xs ys v h

at_right : (xs ys : Names) (p : Place) → node_at xs p ≡ None → node_at (xs ++ ys) p ≡ node_at ys p
unfolding get
at_right xs ys p h = lookup_right (is_at (place_cmp p)) xs ys h

at_found : (xs : Names) (e : Place × Node) (ys : Names) → (v : Node) × (node_at (xs ++ e ∷ ys) e.0 ≡ Some v)
unfolding get
at_found xs e ys = lookup_found (is_at (place_cmp e.0)) xs e ys (ap is_eq (tied_itself place_cmp-total e.0))

directory_is_some : (o : Option Node) → IsTrue (is_directory o) → (owner : Owner) × (o ≡ Some (Dir owner))
directory_is_some (Some (Dir owner)) h = (owner, refl)
directory_is_some other h = absurd cc

directory_left : (xs ys : Names) (p : Place) → IsTrue (is_directory (node_at xs p)) → IsTrue (is_directory (node_at (xs ++ ys) p))
directory_left xs ys p h = let d = directory_is_some (node_at xs p) h in rw (at_left xs ys p (Dir d.0) d.1) refl

-- what is not after is in front
directory_in_front : (xs ys : Names) (p : Place) (o : Option Node) → node_at xs p ≡ o → node_at ys p ≡ None → IsTrue (is_directory (node_at (xs ++ ys) p)) → IsTrue (is_directory (node_at xs p))
directory_in_front xs ys p None e none h = absurd (let b : is_directory None ≡ true = subst (λ (o : Option Node). is_directory o ≡ true) (at_right xs ys p e ∙ none) h in cc)
directory_in_front xs ys p (Some v) e none h = subst (λ (o : Option Node). IsTrue (is_directory o)) (at_left xs ys p v e ∙ sym e) h

only_equal : (p : Place) (e : Place × Node) → IsTrue (is_taken (node_at (e ∷ []) p)) → place_cmp p e.0 ≡ Equal
unfolding get
only_equal p e h = by (place_cmp p e.0) h
  where
    by : (o : Ordering) → IsTrue (is_taken (cond (is_eq o) (Some e.1) None)) → o ≡ Equal
    by Equal h = refl
    by other h = absurd cc

-- ---- a row at a place is the node there

kind_is : (kind : Kind) → is_dir kind ≡ is_directory (Some (bare_kind kind))
kind_is (kinds.Dir owner) = refl
kind_is other = refl

kind_fits : (bounds : TreeLimits) → (earlier : List Row) (kind : Kind) → IsKind bounds earlier kind → IsFitNode (bare_kind kind)
kind_fits bounds earlier (kinds.Dir owner) fits = fits
kind_fits bounds earlier (kinds.Link target) fits = (fits.1, fits.0)
kind_fits bounds earlier other fits = tt

here_or_behind : (dir same : Bool) (node : Node) (more : Bool) (o : Option Node) → dir ≡ is_directory (Some node) → more ≡ is_directory o → (same ≡ true → o ≡ None) → ((dir && same) || more) ≡ is_directory (cond same (Some node) o)
here_or_behind true true node more o dir-is more-is none = dir-is
here_or_behind false true node more o dir-is more-is none = more-is ∙ ap is_directory (none refl) ∙ dir-is
here_or_behind true false node more o dir-is more-is none = more-is
here_or_behind false false node more o dir-is more-is none = more-is

row_stands : (rows : List Row) (p : Place) → InOrder place_cmp (map bare_entry rows) → list_any (is_dir_at p) rows ≡ is_directory (node_at (map bare_entry rows) p)
unfolding get
row_stands [] p sorted = refl
row_stands (row ∷ rows) p sorted =
    let place = place_of row.path in
    let behind : node_at (map bare_entry rows) place ≡ None = get-below place_cmp place (map bare_entry rows) (sorted_head place_cmp place (keys_of (map bare_entry rows)) sorted) in
    let none : same_place place p ≡ true → node_at (map bare_entry rows) p ≡ None = (λ same. ap (node_at (map bare_entry rows)) (place_cmp-same p place ((Equal-is (place_cmp p place)).0 (places_tie p place ∙ same))) ∙ behind) in
    here_or_behind (is_dir row.kind) (same_place place p) (bare_kind row.kind) (list_any (is_dir_at p) rows) (node_at (map bare_entry rows) p) (kind_is row.kind) (row_stands rows p (sorted_tail place_cmp place (keys_of (map bare_entry rows)) sorted)) none
    ∙ ap (λ b. is_directory (cond b (Some (bare_kind row.kind)) (node_at (map bare_entry rows) p))) (sym (places_tie p place))

pub has_dir_is : (root : Owner) (rows : List Row) (p : Place) → InOrder place_cmp (bare_names root rows) → has_dir rows p ≡ is_directory (node_at (bare_names root rows) p)
unfolding get has_dir
has_dir_is root rows [] sorted = refl
has_dir_is root rows (n ∷ ns) sorted = row_stands rows (n ∷ ns) (sorted_tail place_cmp [] (keys_of (map bare_entry rows)) sorted)

-- ---- from the root, row by row

root_parents : (root : Owner) (place : Place) → IsTrue (is_taken (node_at (only_root root) place)) → IsTrue (is_directory (node_at (only_root root) (parent place)))
unfolding get
root_parents root [] h = refl
root_parents root (n ∷ ns) h = absurd cc

pub root_table : (root : Owner) → IsOwner root → IsTable root (only_root root)
unfolding get IsStrictlySortedBy
root_table root fits = record {
  ordered = (tt, tt);
  places = ((refl, refl), tt);
  nodes = (fits, tt);
  root_is = refl;
  parents = root_parents root;
}

parents_push : (root : Owner) (names : Names) (e : Place × Node) → IsTable root names → IsTrue (is_directory (node_at names (parent e.0))) → (place : Place) (o : Option Node) → node_at names place ≡ o
    → IsTrue (is_taken (node_at (names ++ e ∷ []) place)) → IsTrue (is_directory (node_at (names ++ e ∷ []) (parent place)))
parents_push root names e t there place (Some v) is h = directory_left names (e ∷ []) (parent place) (t.parents place (rw is refl))
parents_push root names e t there place None is h =
    let taken : IsTrue (is_taken (node_at (e ∷ []) place)) = subst (λ (o : Option Node). IsTrue (is_taken o)) (at_right names (e ∷ []) place is) h in
    let same : place ≡ e.0 = place_cmp-same place e.0 (only_equal place e taken) in
    subst (λ (p : Place). IsTrue (is_directory (node_at (names ++ e ∷ []) (parent p)))) (sym same) (directory_left names (e ∷ []) (parent e.0) there)

table_push : (root : Owner) (names : Names) (e : Place × Node) → IsTable root names → IsPlace e.0 → IsFitNode e.1 → AllByRecursion (λ q. place_cmp q e.0 ≡ Less) (keys_of names)
    → IsTrue (is_directory (node_at names (parent e.0))) → IsTable root (names ++ e ∷ [])
table_push root names e t place node later there = record {
  ordered = subst (IsStrictlySortedBy place_cmp) (sym (keys_append names (e ∷ []))) (sorted_push place_cmp (keys_of names) e.0 t.ordered later);
  places = all_both (λ (e : Place × Node). IsPlace e.0) names (e ∷ []) t.places (place, tt);
  nodes = all_both (λ (e : Place × Node). IsFitNode e.1) names (e ∷ []) t.nodes (node, tt);
  root_is = at_left names (e ∷ []) [] (Dir root) t.root_is;
  parents = λ place. parents_push root names e t there place (node_at names place) refl;
}

later_places : (earlier : List Row) (place : Place) → AllByRecursion (λ (r : Row). place_cmp (place_of r.path) place ≡ Less) earlier → AllByRecursion (λ q. place_cmp q place ≡ Less) (keys_of (map bare_entry earlier))
later_places earlier place later =
    all_to_map (λ (e : Place × Node). e.0) (λ q. place_cmp q place ≡ Less) (map bare_entry earlier) (all_to_map bare_entry (λ (e : Place × Node). place_cmp e.0 place ≡ Less) earlier later)

-- the place of a row comes after all places before it
pub later_than_all : (bounds : TreeLimits) → (root : Owner) (earlier : List Row) (row : Row) → IsNext bounds earlier row → AllByRecursion (λ q. place_cmp q (place_of row.path) ≡ Less) (keys_of (bare_names root earlier))
later_than_all bounds root earlier row next = (root_before (place_of row.path) next.below_root, later_places earlier (place_of row.path) next.later)

pub text_place : (text : List ℕ) → IsPlaceText text → IsPlace (place_of text)
text_place text is = (is.names, le-leb (length (place_of text)) 64 is.depth)

names_split : (root : Owner) (earlier rows : List Row) → bare_names root (earlier ++ rows) ≡ bare_names root earlier ++ map bare_entry rows
names_split root earlier rows = ap (λ (es : Names). ([], Dir root) ∷ es) (map-append bare_entry earlier rows)

-- one row more
pub names_push : (root : Owner) (earlier : List Row) (row : Row) → bare_names root (earlier ++ row ∷ []) ≡ bare_names root earlier ++ bare_entry row ∷ []
names_push root earlier row = names_split root earlier (row ∷ [])

row_push : (bounds : TreeLimits) → (root : Owner) (earlier : List Row) (row : Row) → IsTable root (bare_names root earlier) → IsNext bounds earlier row → IsTable root (bare_names root (earlier ++ row ∷ []))
row_push bounds root earlier row t next = subst (IsTable root) (sym (names_push root earlier row))
    (table_push root (bare_names root earlier) (bare_entry row) t (text_place row.path next.path) (kind_fits bounds earlier row.kind next.kind) (later_than_all bounds root earlier row next) (sym (has_dir_is root earlier (parent (place_of row.path)) t.ordered) ∙ next.parent))

rows_table : (bounds : TreeLimits) → (root : Owner) (earlier rows : List Row) → IsTable root (bare_names root earlier) → AreRows bounds earlier rows → IsTable root (bare_names root (earlier ++ rows))
rows_table bounds root earlier [] t grown = rw append-nil t
rows_table bounds root earlier (row ∷ rows) t grown =
    subst (λ (rs : List Row). IsTable root (bare_names root rs)) (append_assoc earlier (row ∷ []) rows) (rows_table bounds root (earlier ++ row ∷ []) rows (row_push bounds root earlier row t grown.0) grown.1)

pub table_of_rows : (bounds : TreeLimits) → (root : Owner) (rows : List Row) → IsOwner root → AreRows bounds [] rows → IsTable root (bare_names root rows)
table_of_rows bounds root rows fits grown = rows_table bounds root [] rows (root_table root fits) grown

-- ---- and back

below_root : (p : Place) → place_cmp [] p ≡ Less → 0 < length p
below_root [] less = absurd cc
below_root (n ∷ ns) less = omega arith

none_behind : (e : Place × Node) (entries : Names) (p : Place) → IsStrictlySortedBy place_cmp (keys_of (e ∷ entries)) → place_cmp p e.0 ≡ Less → node_at (e ∷ entries) p ≡ None
unfolding get
none_behind e entries p sorted less = lookup-none (is_at (place_cmp p)) (e ∷ entries) (none_below_head place_cmp-total p e entries sorted less)

next_of_table : (bounds : TreeLimits) → (root : Owner) (earlier : List Row) (row : Row) (rows : List Row) → IsTable root (bare_names root (earlier ++ row ∷ rows)) → IsPlaceText row.path → IsKind bounds earlier row.kind → IsNext bounds earlier row
next_of_table bounds root earlier row rows whole text kind =
    let place = place_of row.path in
    let front = bare_names root earlier in
    let back : Names = bare_entry row ∷ map bare_entry rows in
    let t : IsTable root (front ++ back) = subst (IsTable root) (names_split root earlier (row ∷ rows)) whole in
    let sorted : IsStrictlySortedBy place_cmp (keys_of front ++ keys_of back) = subst (IsStrictlySortedBy place_cmp) (keys_append front back) t.ordered in
    let later = sorted_before place_cmp (keys_of front) place (keys_of (map bare_entry rows)) sorted in
    let below = below_root place later.0 in
    let found = at_found front (bare_entry row) (map bare_entry rows) in
    let there_in_all : IsTrue (is_directory (node_at (front ++ back) (parent place))) = t.parents place (rw found.1 refl) in
    let behind = none_behind (bare_entry row) (map bare_entry rows) (parent place) (sorted_right place_cmp (keys_of front) (keys_of back) sorted) (parent_less place below) in
    let there = directory_in_front front back (parent place) (node_at front (parent place)) refl behind there_in_all in
    record {
      path = text;
      below_root = below;
      later = all_from_map bare_entry (λ (e : Place × Node). place_cmp e.0 place ≡ Less) earlier (all_from_map (λ (e : Place × Node). e.0) (λ q. place_cmp q place ≡ Less) (map bare_entry earlier) later.1);
      parent = has_dir_is root earlier (parent place) (sorted_left place_cmp (keys_of front) (keys_of back) sorted) ∙ there;
      kind = kind;
    }

pub rows_of_table : (bounds : TreeLimits) → (root : Owner) (earlier rows : List Row) → IsTable root (bare_names root (earlier ++ rows)) → AllByRecursion (λ (r : Row). IsPlaceText r.path) rows → AreKinds bounds earlier rows → AreRows bounds earlier rows
rows_of_table bounds root earlier [] t texts fit = tt
rows_of_table bounds root earlier (row ∷ rows) t texts fit =
    let split : IsTable root (bare_names root ((earlier ++ row ∷ []) ++ rows)) = subst (λ (rs : List Row). IsTable root (bare_names root rs)) (sym (append_assoc earlier (row ∷ []) rows)) t in
    (next_of_table bounds root earlier row rows t texts.0 fit.0, rows_of_table bounds root (earlier ++ row ∷ []) rows split texts.1 fit.1)

-- the root comes first
pub root_first : (names : Names) → InOrder place_cmp names → IsTrue (is_directory (node_at names [])) → (root : Owner) × (entries : Names) × (names ≡ only_root root ++ entries)
unfolding get
root_first [] sorted there = absurd cc
root_first (([], Dir root) ∷ entries) sorted there = (root, entries, refl)
root_first (([], other) ∷ entries) sorted there = absurd cc
root_first ((n ∷ ns, node) ∷ entries) sorted there =
    let none = none_behind (n ∷ ns, node) entries [] sorted refl in
    absurd (let b : is_directory None ≡ true = subst (λ (o : Option Node). is_directory o ≡ true) none there in cc)

-- and all else is below it
pub entries_below : (root : Owner) (entries : Names) → InOrder place_cmp (only_root root ++ entries) → AllByRecursion (λ e. 0 < length e.0) entries
entries_below root entries sorted =
    each-weaker (λ (e : Place × Node). place_cmp [] e.0 ≡ Less) (λ (e : Place × Node). 0 < length e.0) (λ e less. below_root e.0 less) entries
    (all_from_map (λ (e : Place × Node). e.0) (λ q. place_cmp [] q ≡ Less) entries (sorted_head place_cmp [] (keys_of entries) sorted))

pub root_at : (root : Owner) (entries : Names) → node_at (only_root root ++ entries) [] ≡ Some (Dir root)
unfolding get
root_at root entries = refl

-- ==== What the table of a tree keeps does not hang on the numbers of its files.

-- ---- without numbers

abbrev pub bare : Node → Node
bare (Dir owner) = Dir owner
bare (File number) = File 0
bare (Link target) = Link target

abbrev pub bared : Names → Names
bared names = with_values bare names

bare_taken : (o : Option Node) → is_taken (option_map bare o) ≡ is_taken o
bare_taken None = refl
bare_taken (Some standing) = refl

bare_directory : (o : Option Node) → is_directory (option_map bare o) ≡ is_directory o
bare_directory None = refl
bare_directory (Some (Dir owner)) = refl
bare_directory (Some other) = refl

bare_fits : (standing : Node) → IsFitNode standing → IsFitNode (bare standing)
bare_fits (File number) fits = tt
bare_fits other fits = fits

fits_bare : (standing : Node) → IsFitNode (bare standing) → IsFitNode standing
fits_bare (File number) fits = tt
fits_bare other fits = fits

bare_dir : (o : Option Node) (root : Owner) → option_map bare o ≡ Some (Dir root) → o ≡ Some (Dir root)
bare_dir (Some (Dir owner)) root is = is
bare_dir other root is = absurd cc

bare_at : (names : Names) (place : Place) → node_at (bared names) place ≡ option_map bare (node_at names place)
bare_at names place = get-with_values place_cmp bare names place

taken_bare : (names : Names) (place : Place) → is_taken (node_at (bared names) place) ≡ is_taken (node_at names place)
taken_bare names place = ap is_taken (bare_at names place) ∙ bare_taken (node_at names place)

pub directory_bare : (names : Names) (place : Place) → is_directory (node_at (bared names) place) ≡ is_directory (node_at names place)
directory_bare names place = ap is_directory (bare_at names place) ∙ bare_directory (node_at names place)

all_bare : (names : Names) → AllByRecursion (λ e. IsFitNode e.1) names → AllByRecursion (λ e. IsFitNode e.1) (bared names)
all_bare [] fit = tt
all_bare (e ∷ es) fit = (bare_fits e.1 fit.0, all_bare es fit.1)

all_from_bare : (names : Names) → AllByRecursion (λ e. IsFitNode e.1) (bared names) → AllByRecursion (λ e. IsFitNode e.1) names
all_from_bare [] fit = tt
all_from_bare (e ∷ es) fit = (fits_bare e.1 fit.0, all_from_bare es fit.1)

places_bare : (names : Names) → AllByRecursion (λ e. IsPlace e.0) names → AllByRecursion (λ e. IsPlace e.0) (bared names)
places_bare [] places = tt
places_bare (e ∷ es) places = (places.0, places_bare es places.1)

places_from_bare : (names : Names) → AllByRecursion (λ e. IsPlace e.0) (bared names) → AllByRecursion (λ e. IsPlace e.0) names
places_from_bare [] places = tt
places_from_bare (e ∷ es) places = (places.0, places_from_bare es places.1)

pub table_bare : (root : Owner) (names : Names) → IsTable root names → IsTable root (bared names)
table_bare root names t = record {
  ordered = subst (IsStrictlySortedBy place_cmp) (sym (keys_of-map_values bare names)) t.ordered;
  places = places_bare names t.places;
  nodes = all_bare names t.nodes;
  root_is = bare_at names [] ∙ ap (option_map bare) t.root_is;
  parents = λ place taken. directory_bare names (parent place) ∙ t.parents place (sym (taken_bare names place) ∙ taken);
}

pub table_from_bare : (root : Owner) (names : Names) → IsTable root (bared names) → IsTable root names
table_from_bare root names t = record {
  ordered = subst (IsStrictlySortedBy place_cmp) (keys_of-map_values bare names) t.ordered;
  places = places_from_bare names t.places;
  nodes = all_from_bare names t.nodes;
  root_is = bare_dir (node_at names []) root (sym (bare_at names []) ∙ t.root_is);
  parents = λ place taken. sym (directory_bare names (parent place)) ∙ t.parents place (taken_bare names place ∙ taken);
}

-- ---- of rows, and of entries

node_bare : (earlier : List Row) (kind : Kind) → bare (node_of earlier kind) ≡ bare_kind kind
node_bare earlier (kinds.Dir owner) = refl
node_bare earlier other = refl

entries_bare : (earlier rows : List Row) → bared (entries_after earlier rows) ≡ map bare_entry rows
entries_bare earlier [] = refl
entries_bare earlier (row ∷ rows) = λ i. ((entry_of earlier row).0, node_bare earlier row.kind i) ∷ entries_bare (earlier ++ row ∷ []) rows i

pub names_bare : (root : Owner) (rows : List Row) → bared (names_of root rows) ≡ bare_names root rows
names_bare root rows = ap (λ (es : Names). only_root root ++ es) (entries_bare [] rows)
