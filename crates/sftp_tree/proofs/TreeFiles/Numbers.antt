-- How rows number the files that they come with, and which entry is the first name of each.
use Rattle.sftp_tree.proofs.Imports.{◌≡◌, ℕ, zero, suc, ◌+◌, ◌-◌, ◌<◌, ◌≤◌, Bool, true, false, if◌then◌else◌, List}
use Rattle.sftp_tree.proofs.Imports.{[], ◌∷◌, ◌++◌, length, take, Option, Some, None, refl, sym, ap, subst, ◌∙◌}
use Rattle.sftp_tree.proofs.Imports.{append_assoc, arith, IsTrue, AllByRecursion, eq-eqb, ne_eqb, flat_map-append}
use Rattle.sftp_tree.proofs.Imports.{append-nil, length-append, take-append_seam, Place, Owner, Kind, Row, TreeLimits}
use Rattle.sftp_tree.proofs.Imports.{is_first, is_first_row, entry_at, IsKind, AreRows, Node, Dir, File, Link, Names}
use Rattle.sftp_tree.proofs.Imports.{names_file, entry_naming, content_of, contents_of, node_of, names_of, ◌≢◌, ◌==◌}
use Rattle.sftp_tree.proofs.Imports.{◌⊎◌, inl, inr, is_some, IsStrictlySortedBy, keys_of, nat_cmp, is_eq, Less}
use Rattle.sftp_tree.proofs.Imports.{nat_cmp_total, nat_cmp_is, nat_cmp-IsAntisymmetric, cases_eq, cond-true}
use Rattle.sftp_tree.proofs.Imports.{cond-false, nat_tests, InOrder, get-empty, get-cons, same_table, Content, Files}
use Rattle.sftp_tree.proofs.Imports.{content_at, numbered_from, ◌^◌, map, slice_get, eqb-true, leb-true, are_names}
use Rattle.sftp_tree.proofs.Imports.{absolute, components, components-absolute, are_bytes, IsOwner, IsPlaceText}
use Rattle.sftp_tree.proofs.Imports.{IsNode, naming, kind_of, rows_of, rows_after, only_root}
use Rattle.std.specs.Option.{option_map}
use Rattle.sftp_treefile.specs.declared.files.Kind.TheVariants as kinds
use Rattle.sftp_tree.specs.PictureParts.{entry_of, entries_after}
use Rattle.sftp_tree.proofs.PlaceTables.{all_both}
use Rattle.sftp_tree.proofs.PlaceTables.{each-weaker, each-get}
use Rattle.sftp_tree.proofs.TreeFiles.{IsPlace, IsFitNode, AreKinds, bare_kind, bare_entry}
use Rattle.sftp_tree.proofs.TreeFiles.{bare, bared}

-- ---- how many files rows come with

abbrev pub made_by : List Row → ℕ
made_by rows = length (contents_of rows)

pub contents_split : (xs ys : List Row) → contents_of (xs ++ ys) ≡ contents_of xs ++ contents_of ys
contents_split xs ys = flat_map-append (λ (r : Row). content_of r.kind) xs ys

made_split : (xs ys : List Row) → made_by (xs ++ ys) ≡ made_by xs + made_by ys
made_split xs ys = ap length (contents_split xs ys) ∙ length-append (contents_of xs) (contents_of ys)

made_behind : (row : Row) (rows : List Row) → made_by (row ∷ rows) ≡ length (content_of row.kind) + made_by rows
made_behind row rows = length-append (content_of row.kind) (contents_of rows)

pub made_push : (earlier : List Row) (row : Row) → made_by (earlier ++ row ∷ []) ≡ made_by earlier + length (content_of row.kind)
made_push earlier row = omega (arith, made_split earlier (row ∷ []), made_behind row [])

few_contents : (kind : Kind) → length (content_of kind) ≤ 1
few_contents (kinds.Dir owner) = omega arith
few_contents other = omega arith

pub made_few : (rows : List Row) → made_by rows ≤ length rows
made_few [] = omega arith
made_few (row ∷ rows) = omega (arith, length-append (content_of row.kind) (contents_of rows), few_contents row.kind, made_few rows)

first_made : (kind : Kind) → IsTrue (is_first kind) → length (content_of kind) ≡ 1
first_made (kinds.First owner bytes) h = refl
first_made other h = absurd cc

-- ---- first names

-- the entry of this number is the first name of a file
pub record FirstAt (rows : List Row) (entry : ℕ) : Type 0 where
  pub front : List Row
  pub row : Row
  pub rest : List Row
  pub rows_are : rows ≡ front ++ row ∷ rest
  pub first : IsTrue (is_first row.kind)
  pub entry_is : entry ≡ suc (length front)

pub first_at : (rows : List Row) (entry : ℕ) → IsTrue (is_first_row (entry_at rows entry)) → FirstAt rows entry
first_at rows zero h = absurd cc
first_at [] (suc n) h = absurd cc
first_at (row ∷ rows) (suc zero) h = record { front = []; row = row; rest = rows; rows_are = refl; first = h; entry_is = refl }
first_at (row ∷ rows) (suc (suc n)) h =
    let f = first_at rows (suc n) h in
    record { front = row ∷ f.front; row = f.row; rest = f.rest; rows_are = ap (λ (rs : List Row). row ∷ rs) f.rows_are; first = f.first; entry_is = ap suc f.entry_is }

pub front_taken : (rows : List Row) (entry : ℕ) (f : FirstAt rows entry) → take (entry - 1) rows ≡ f.front
front_taken rows entry f =
    let same : entry - 1 ≡ length f.front = omega (arith, f.entry_is) in
    (λ i. take (same i) (f.rows_are i)) ∙ take-append_seam f.front (f.row ∷ f.rest)

pub made_front : (rows : List Row) (entry : ℕ) (f : FirstAt rows entry) → made_by f.front < made_by rows
made_front rows entry f =
    omega (arith, ap made_by f.rows_are, made_split f.front (f.row ∷ f.rest), made_behind f.row f.rest, first_made f.row.kind f.first)

-- each number is that of one
pub record FirstOf (rows : List Row) (number : ℕ) : Type 0 where
  pub entry : ℕ
  pub at : FirstAt rows entry
  pub number_is : made_by at.front ≡ number

first_behind : (row : Row) (rows : List Row) (number behind : ℕ) → number ≡ length (content_of row.kind) + behind → FirstOf rows behind → FirstOf (row ∷ rows) number
first_behind row rows number behind is f = record {
  entry = suc f.entry;
  at = record { front = row ∷ f.at.front; row = f.at.row; rest = f.at.rest; rows_are = ap (λ (rs : List Row). row ∷ rs) f.at.rows_are; first = f.at.first; entry_is = ap suc f.at.entry_is };
  number_is = omega (arith, made_behind row f.at.front, f.number_is, is);
}

first_here : (row : Row) (rows : List Row) → IsTrue (is_first row.kind) → FirstOf (row ∷ rows) 0
first_here row rows first = record { entry = 1; at = record { front = []; row = row; rest = rows; rows_are = refl; first = first; entry_is = refl }; number_is = refl }

first_by : (row : Row) (rows : List Row) (kind : Kind) (number : ℕ) → row.kind ≡ kind → number < length (content_of kind) + made_by rows
    → ((behind : ℕ) → behind < made_by rows → FirstOf rows behind) → FirstOf (row ∷ rows) number
first_by row rows (kinds.First owner bytes) zero is below more = first_here row rows (rw is refl)
first_by row rows (kinds.First owner bytes) (suc behind) is below more = first_behind row rows (suc behind) behind (rw is (omega arith)) (more behind (omega arith))
first_by row rows other number is below more =
    first_behind row rows number number (rw is (omega arith)) (more number (omega arith))

pub first_of_number : (rows : List Row) (number : ℕ) → number < made_by rows → FirstOf rows number
first_of_number [] number below = absurd (omega arith)
first_of_number (row ∷ rows) number below = first_by row rows row.kind number refl (omega (arith, made_behind row rows, below)) (first_of_number rows)

-- ---- rows in two parts

pub rows_split : (bounds : TreeLimits) → (earlier xs ys : List Row) → AreRows bounds earlier (xs ++ ys) → AreRows bounds earlier xs × AreRows bounds (earlier ++ xs) ys
rows_split bounds earlier [] ys rows = (tt, rw append-nil rows)
rows_split bounds earlier (x ∷ xs) ys rows =
    let r = rows_split bounds (earlier ++ x ∷ []) xs ys rows.1 in
    ((rows.0, r.0), subst (λ (front : List Row). AreRows bounds front ys) (append_assoc earlier (x ∷ []) xs) r.1)

pub rows_join : (bounds : TreeLimits) → (earlier xs ys : List Row) → AreRows bounds earlier xs → AreRows bounds (earlier ++ xs) ys → AreRows bounds earlier (xs ++ ys)
rows_join bounds earlier [] ys a b = rw append-nil at b
rows_join bounds earlier (x ∷ xs) ys a b = (a.0, rows_join bounds (earlier ++ x ∷ []) xs ys a.1 (subst (λ (front : List Row). AreRows bounds front ys) (sym (append_assoc earlier (x ∷ []) xs)) b))

pub entries_split : (earlier xs ys : List Row) → entries_after earlier (xs ++ ys) ≡ entries_after earlier xs ++ entries_after (earlier ++ xs) ys
entries_split earlier [] ys = rw append-nil refl
entries_split earlier (x ∷ xs) ys =
    ap (λ (es : Names). entry_of earlier x ∷ es) (entries_split (earlier ++ x ∷ []) xs ys ∙ ap (λ (front : List Row). entries_after (earlier ++ x ∷ []) xs ++ entries_after front ys) (append_assoc earlier (x ∷ []) xs))

pub names_split : (root : Owner) (earlier rows : List Row) → names_of root (earlier ++ rows) ≡ names_of root earlier ++ entries_after earlier rows
names_split root earlier rows = ap (λ (es : Names). ([], Dir root) ∷ es) (entries_split [] earlier rows)

-- one row more
pub names_push : (root : Owner) (earlier : List Row) (row : Row) → names_of root (earlier ++ row ∷ []) ≡ names_of root earlier ++ entry_of earlier row ∷ []
names_push root earlier row = names_split root earlier (row ∷ [])

pub length-entries : (earlier rows : List Row) → length (entries_after earlier rows) ≡ length rows
length-entries earlier [] = refl
length-entries earlier (row ∷ rows) = ap suc (length-entries (earlier ++ row ∷ []) rows)

-- ---- the numbers of entries are below how many files there are

abbrev pub IsBelow : ℕ → Node → Type 0
IsBelow made (Dir owner) = Unit {0}
IsBelow made (File number) = number < made
IsBelow made (Link target) = Unit {0}

abbrev pub AreBelow : ℕ → Names → Type 0
AreBelow made names = AllByRecursion (λ e. IsBelow made e.1) names

below_more : (m n : ℕ) → m ≤ n → (standing : Node) → IsBelow m standing → IsBelow n standing
below_more m n le (File number) below = omega (arith, below, le)
below_more m n le other below = tt

entry_below : (bounds : TreeLimits) → (earlier : List Row) (kind : Kind) → IsKind bounds earlier kind → IsBelow (made_by earlier + length (content_of kind)) (node_of earlier kind)
entry_below bounds earlier (kinds.First owner bytes) fits = omega arith
entry_below bounds earlier (kinds.Further entry) fits =
    let f = first_at earlier entry fits.1 in
    omega (arith, made_front earlier entry f, ap made_by (front_taken earlier entry f))
entry_below bounds earlier other fits = tt

below_push : (bounds : TreeLimits) → (root : Owner) (earlier : List Row) (row : Row) → AreBelow (made_by earlier) (names_of root earlier) → IsKind bounds earlier row.kind → AreBelow (made_by (earlier ++ row ∷ [])) (names_of root (earlier ++ row ∷ []))
below_push bounds root earlier row below fits =
    let le : made_by earlier ≤ made_by earlier + length (content_of row.kind) = omega arith in
    let made = made_by earlier + length (content_of row.kind) in
    let all : AreBelow made (names_of root earlier ++ entry_of earlier row ∷ []) =
    all_both (λ (e : Place × Node). IsBelow made e.1) (names_of root earlier) (entry_of earlier row ∷ [])
    (each-weaker (λ (e : Place × Node). IsBelow (made_by earlier) e.1) (λ (e : Place × Node). IsBelow made e.1) (λ e b. below_more (made_by earlier) made le e.1 b) (names_of root earlier) below)
    (entry_below bounds earlier row.kind fits, tt) in
    subst (λ (n : ℕ). AreBelow n (names_of root (earlier ++ row ∷ []))) (sym (made_push earlier row)) (subst (AreBelow made) (sym (names_push root earlier row)) all)

below_behind : (bounds : TreeLimits) → (root : Owner) (earlier rows : List Row) → AreBelow (made_by earlier) (names_of root earlier) → AreRows bounds earlier rows → AreBelow (made_by (earlier ++ rows)) (names_of root (earlier ++ rows))
below_behind bounds root earlier [] below rows = subst (λ (rs : List Row). AreBelow (made_by rs) (names_of root rs)) (sym (append-nil earlier)) below
below_behind bounds root earlier (row ∷ more) below rows =
    subst (λ (rs : List Row). AreBelow (made_by rs) (names_of root rs)) (append_assoc earlier (row ∷ []) more) (below_behind bounds root (earlier ++ row ∷ []) more (below_push bounds root earlier row below rows.0.kind) rows.1)

pub all_below : (bounds : TreeLimits) → (root : Owner) (rows : List Row) → AreRows bounds [] rows → AreBelow (made_by rows) (names_of root rows)
all_below bounds root rows fit = below_behind bounds root [] rows (tt, tt) fit

-- ---- the entry that is a file's first name

naming_skips : (names : Bool) (behind : Option ℕ) → names ≡ false → behind ≡ None → (if names then Some 0 else option_map suc behind) ≡ None
naming_skips true behind other none = absurd cc
naming_skips false behind other none = ap (option_map suc) none

not_of_file : (number : ℕ) (standing : Node) → IsBelow number standing → names_file number standing ≡ false
not_of_file number (File n) below = ne_eqb n number (omega arith)
not_of_file number other below = refl

pub none_named : (number : ℕ) (names : Names) → AreBelow number names → entry_naming number names ≡ None
none_named number [] below = refl
none_named number (e ∷ es) below = naming_skips (names_file number e.1) (entry_naming number es) (not_of_file number e.1 below.0) (none_named number es below.1)

named_behind : (names : Bool) (front behind : Option ℕ) (n : ℕ) → (if names then Some 0 else option_map suc front) ≡ None → (front ≡ None → behind ≡ Some n) → (if names then Some 0 else option_map suc behind) ≡ Some (suc n)
named_behind false None behind n none more = ap (option_map suc) (more refl)
named_behind names front behind n none more = absurd cc

named_here : (names : Bool) (behind : Option ℕ) → names ≡ true → (if names then Some 0 else option_map suc behind) ≡ Some 0
named_here true behind is = refl
named_here false behind is = absurd cc

-- after entries that are no names of the file
pub named_at : (number : ℕ) (xs : Names) (e : Place × Node) (ys : Names) → entry_naming number xs ≡ None → names_file number e.1 ≡ true → entry_naming number (xs ++ e ∷ ys) ≡ Some (length xs)
named_at number [] e ys none is = named_here (names_file number e.1) (entry_naming number ys) is
named_at number (x ∷ xs) e ys none is =
    named_behind (names_file number x.1) (entry_naming number xs) (entry_naming number (xs ++ e ∷ ys)) (length xs) none (λ rest. named_at number xs e ys rest is)

pub first_names : (earlier : List Row) (kind : Kind) → IsTrue (is_first kind) → names_file (made_by earlier) (node_of earlier kind) ≡ true
first_names earlier (kinds.First owner bytes) first = eq-eqb (made_by earlier) (made_by earlier) refl
first_names earlier other first = absurd cc

names_at : (root : Owner) (rows : List Row) (entry : ℕ) (f : FirstAt rows entry) → names_of root rows ≡ names_of root f.front ++ entry_of f.front f.row ∷ entries_after (f.front ++ f.row ∷ []) f.rest
names_at root rows entry f = ap (names_of root) f.rows_are ∙ names_split root f.front (f.row ∷ f.rest)

pub first_is_named : (bounds : TreeLimits) → (root : Owner) (rows : List Row) (entry : ℕ) (f : FirstAt rows entry) → AreRows bounds [] rows → entry_naming (made_by f.front) (names_of root rows) ≡ Some entry
first_is_named bounds root rows entry f fit =
    let front = (rows_split bounds [] f.front (f.row ∷ f.rest) (subst (AreRows bounds []) f.rows_are fit)).0 in
    let none = none_named (made_by f.front) (names_of root f.front) (all_below bounds root f.front front) in
    let here = named_at (made_by f.front) (names_of root f.front) (entry_of f.front f.row) (entries_after (f.front ++ f.row ∷ []) f.rest) none (first_names f.front f.row.kind f.first) in
    let count : length (names_of root f.front) ≡ entry = omega (arith, length-entries [] f.front, f.entry_is) in
    ap (entry_naming (made_by f.front)) (names_at root rows entry f) ∙ here ∙ ap (λ n. Some n) count

-- ==== Files that are numbered in a row.

-- ---- look-ups

pub number_is : (n s : ℕ) → is_eq (nat_cmp n s) ≡ (n == s)
number_is n s = grind (arith, nat_tests)

pub at_number : (n s : ℕ) (content : Content) (files : Files) → n ≡ s → content_at ((s, content) ∷ files) n ≡ Some content
at_number n s content files same = get-cons nat_cmp (s, content) files n ∙ cond-true (is_eq (nat_cmp n s)) (Some content) (content_at files n) (number_is n s ∙ eq-eqb n s same)

pub past_number : (n s : ℕ) (content : Content) (files : Files) → n ≢ s → content_at ((s, content) ∷ files) n ≡ content_at files n
past_number n s content files other = get-cons nat_cmp (s, content) files n ∙ cond-false (is_eq (nat_cmp n s)) (Some content) (content_at files n) (number_is n s ∙ ne_eqb n s other)

-- the files of these numbers are there, one after another
abbrev pub AreContents : Files → ℕ → List Content → Type 0
AreContents files number [] = Unit {0}
AreContents files number (content ∷ contents) = (content_at files number ≡ Some content) × AreContents files (suc number) contents

pub contents_behind : (files : Files) (number : ℕ) (xs ys : List Content) → AreContents files number (xs ++ ys) → AreContents files (number + length xs) ys
contents_behind files number [] ys there = rw add_zero there
  where
    add_zero : number + 0 ≡ number
    add_zero = omega arith
contents_behind files number (x ∷ xs) ys there =
    let same : suc number + length xs ≡ number + length (x ∷ xs) = omega arith in
    subst (λ n. AreContents files n ys) same (contents_behind files (suc number) xs ys there.1)

numbered_at : (n s : ℕ) (front : List Content) (content : Content) (contents : List Content) → n ≡ s + length front → content_at (numbered_from s (front ++ content ∷ contents)) n ≡ Some content
numbered_at n s [] content contents is = at_number n s content (numbered_from (suc s) contents) (omega arith)
numbered_at n s (x ∷ front) content contents is =
    let other : n ≢ s = omega arith in
    past_number n s x (numbered_from (suc s) (front ++ content ∷ contents)) other ∙ numbered_at n (suc s) front content contents (omega arith)

numbered_behind : (s : ℕ) (front contents : List Content) → AreContents (numbered_from s (front ++ contents)) (s + length front) contents
numbered_behind s front [] = tt
numbered_behind s front (content ∷ contents) =
    let more : s + length (front ++ content ∷ []) ≡ suc (s + length front) = omega (arith, length-append front (content ∷ [])) in
    let rest = numbered_behind s (front ++ content ∷ []) contents in (
      numbered_at (s + length front) s front content contents refl,
      subst (λ n. AreContents (numbered_from s (front ++ content ∷ contents)) n contents) more
          (subst (λ (cs : List Content). AreContents (numbered_from s cs) (s + length (front ++ content ∷ [])) contents) (append_assoc front (content ∷ []) contents) rest),
    )

pub numbered_contents : (contents : List Content) → AreContents (numbered_from 0 contents) 0 contents
numbered_contents contents = numbered_behind 0 [] contents

pub numbered_there : (s : ℕ) (contents : List Content) (n : ℕ) → s ≤ n → n < s + length contents → IsTrue (is_some (content_at (numbered_from s contents) n))
numbered_there s [] n above below = absurd (omega arith)
numbered_there s (content ∷ contents) n above below = by (cases_eq n s) (λ other. numbered_there (suc s) contents n (omega arith) (omega arith))
  where
    by : (n ≡ s) ⊎ (n ≡ s → ⊥) → ((n ≡ s → ⊥) → IsTrue (is_some (content_at (numbered_from (suc s) contents) n))) → IsTrue (is_some (content_at (numbered_from s (content ∷ contents)) n))
    by (inl same) rest = ap is_some (at_number n s content (numbered_from (suc s) contents) same)
    by (inr other) rest = ap is_some (past_number n s content (numbered_from (suc s) contents) other) ∙ rest other

-- ---- each file, and the keys

pub each_number : (P : ℕ → Type 0) (s : ℕ) (contents : List Content) → ((n : ℕ) → s ≤ n → n < s + length contents → P n) → AllByRecursion (λ e. P e.0) (numbered_from s contents)
each_number P s [] each = tt
each_number P s (content ∷ contents) each = (each s (omega arith) (omega arith), each_number P (suc s) contents (λ n above below. each n (omega arith) (omega arith)))

pub each_content : (P : Content → Type 0) (s : ℕ) (contents : List Content) → AllByRecursion P contents → AllByRecursion (λ e. P e.1) (numbered_from s contents)
each_content P s [] each = tt
each_content P s (content ∷ contents) each = (each.0, each_content P (suc s) contents each.1)

keys_above : (m s : ℕ) (contents : List Content) → m < s → AllByRecursion (λ q. nat_cmp m q ≡ Less) (keys_of (numbered_from s contents))
keys_above m s [] below = tt
keys_above m s (content ∷ contents) below = (sym (nat_cmp_is m s Less below), keys_above m (suc s) contents (omega arith))

pub numbered_order : (s : ℕ) (contents : List Content) → InOrder nat_cmp (numbered_from s contents)
unfolding IsStrictlySortedBy
numbered_order s [] = tt
numbered_order s (content ∷ contents) = (keys_above s (suc s) contents (omega arith), numbered_order (suc s) contents)

-- ---- files with these contents are numbered so

numbered_beyond : (s : ℕ) (contents : List Content) (n : ℕ) → s + length contents ≤ n → content_at (numbered_from s contents) n ≡ None
numbered_beyond s [] n above = get-empty nat_cmp n
numbered_beyond s (content ∷ contents) n above =
    let other : n ≢ s = omega arith in
    past_number n s content (numbered_from (suc s) contents) other ∙ numbered_beyond (suc s) contents n (omega arith)

none_beyond : (files : Files) (made n : ℕ) → AllByRecursion (λ e. e.0 < made) files → made ≤ n → content_at files n ≡ None
none_beyond [] made n below above = get-empty nat_cmp n
none_beyond ((number, content) ∷ files) made n below above =
    let other : n ≢ number = omega arith in
    past_number n number content files other ∙ none_beyond files made n below.1 above

same_at : (files : Files) (s : ℕ) (contents : List Content) → AreContents files s contents → (n : ℕ) → s ≤ n → (s + length contents ≤ n → content_at files n ≡ None) → content_at (numbered_from s contents) n ≡ content_at files n
same_at files s [] there n above none = numbered_beyond s [] n (omega arith) ∙ sym (none (omega arith))
same_at files s (content ∷ contents) there n above none = by (cases_eq n s) (λ other. same_at files (suc s) contents there.1 n (omega arith) (λ beyond. none (omega arith)))
  where
    by : (n ≡ s) ⊎ (n ≡ s → ⊥) → ((n ≡ s → ⊥) → content_at (numbered_from (suc s) contents) n ≡ content_at files n) → content_at (numbered_from s (content ∷ contents)) n ≡ content_at files n
    by (inl same) rest = at_number n s content (numbered_from (suc s) contents) same ∙ sym (ap (content_at files) same ∙ there.0)
    by (inr other) rest = past_number n s content (numbered_from (suc s) contents) other ∙ rest other

pub numbered_again : (files : Files) (contents : List Content) → InOrder nat_cmp files → AllByRecursion (λ e. e.0 < length contents) files → AreContents files 0 contents → numbered_from 0 contents ≡ files
numbered_again files contents ordered below there =
    same_table nat_cmp nat_cmp_total nat_cmp-IsAntisymmetric (numbered_from 0 contents) files (numbered_order 0 contents) ordered
    (λ n. same_at files 0 contents there n (omega arith) (λ above. none_beyond files (length contents) n below (omega arith)))

-- ==== What the tree file of a tree says of its entries, one by one.

-- ---- the row of an entry below the root

abbrev pub row_of : Files → Names → Place × Node → Row
row_of files front e = record { path = absolute e.0; kind = kind_of files front e.1 }

pub one_row : (files : Files) (front : Names) (e : Place × Node) → 0 < length e.0 → rows_of files front e ≡ row_of files front e ∷ []
one_row files front ([], standing) below = absurd (omega arith)
one_row files front (n ∷ ns, standing) below = refl

-- an entry below the root, at a place within the limit
abbrev pub IsBelowRoot : Place × Node → Type 0
IsBelowRoot e = IsPlace e.0 × (0 < length e.0)

pub rows_cons : (files : Files) (front : Names) (e : Place × Node) (es : Names) → 0 < length e.0 → rows_after files front (e ∷ es) ≡ row_of files front e ∷ rows_after files (front ++ e ∷ []) es
rows_cons files front e es below = ap (λ (rs : List Row). rs ++ rows_after files (front ++ e ∷ []) es) (one_row files front e below)

pub length-rows : (files : Files) (front es : Names) → AllByRecursion IsBelowRoot es → length (rows_after files front es) ≡ length es
length-rows files front [] below = refl
length-rows files front (e ∷ es) below = ap length (rows_cons files front e es below.0.1) ∙ ap suc (length-rows files (front ++ e ∷ []) es below.1)

pub rows_push : (files : Files) (front es : Names) (e : Place × Node) → rows_after files front (es ++ e ∷ []) ≡ rows_after files front es ++ rows_of files (front ++ es) e
rows_push files front [] e = append-nil (rows_of files front e) ∙ ap (λ (ns : Names). rows_of files ns e) (sym (append-nil front))
rows_push files front (x ∷ es) e =
    ap (λ (rs : List Row). rows_of files front x ++ rs) (rows_push files (front ++ x ∷ []) es e)
    ∙ sym (append_assoc (rows_of files front x) (rows_after files (front ++ x ∷ []) es) (rows_of files ((front ++ x ∷ []) ++ es) e))
    ∙ ap (λ (ns : Names). rows_after files front (x ∷ es) ++ rows_of files ns e) (append_assoc front (x ∷ []) es)

pub place_text : (place : Place) → IsPlace place → IsPlaceText (absolute place)
place_text place is =
    let same : components (absolute place) ≡ place = components-absolute place is.0 in
    record {
      names = subst (λ (p : Place). IsTrue (are_names p)) (sym same) is.0;
      depth = omega (arith, ap length same, leb-true (length place) 64 is.1);
      one = ap absolute (sym same);
    }

pub entry_texts : (files : Files) (front es : Names) → AllByRecursion IsBelowRoot es → AllByRecursion (λ (r : Row). IsPlaceText r.path) (rows_after files front es)
entry_texts files front [] below = tt
entry_texts files front (e ∷ es) below =
    subst (λ (rs : List Row). AllByRecursion (λ (r : Row). IsPlaceText r.path) rs) (sym (rows_cons files front e es below.0.1)) (place_text e.0 below.0.0, entry_texts files (front ++ e ∷ []) es below.1)

naming_bare : (entry : Option ℕ) (content : Option Content) → bare_kind (naming entry content) ≡ File 0
naming_bare None None = refl
naming_bare entry content = refl

kind_bare : (files : Files) (front : Names) (standing : Node) → bare_kind (kind_of files front standing) ≡ bare standing
kind_bare files front (File number) = naming_bare (entry_naming number front) (content_at files number)
kind_bare files front other = refl

pub rows_bare : (files : Files) (front es : Names) → AllByRecursion IsBelowRoot es → map bare_entry (rows_after files front es) ≡ bared es
rows_bare files front [] below = refl
rows_bare files front (e ∷ es) below = ap (map bare_entry) (rows_cons files front e es below.0.1)
    ∙ (λ i. (components-absolute e.0 below.0.0.0 i, kind_bare files front e.1 i) ∷ rows_bare files (front ++ e ∷ []) es below.1 i)

-- ---- a further name is of an entry that is a first one

naming_false : (names : Bool) (behind : Option ℕ) → names ≡ false → (if names then Some 0 else option_map suc behind) ≡ option_map suc behind
naming_false true behind is = absurd cc
naming_false false behind is = refl

first_kind : (files : Files) (front : Names) (standing : Node) (number : ℕ) → names_file number standing ≡ true → entry_naming number front ≡ None → IsTrue (is_first (kind_of files front standing))
first_kind files front (File n) number names none =
    let same : n ≡ number = eqb-true n number names in
    by (entry_naming n front) (content_at files n) (ap (λ m. entry_naming m front) same ∙ none)
  where
    by : (entry : Option ℕ) (content : Option Content) → entry ≡ None → IsTrue (is_first (naming entry content))
    by (Some entry) content none = absurd cc
    by None (Some content) none = refl
    by None None none = refl
first_kind files front other number names none = absurd cc

none_push : (number : ℕ) (front : Names) (e : Place × Node) → entry_naming number front ≡ None → names_file number e.1 ≡ false → entry_naming number (front ++ e ∷ []) ≡ None
none_push number [] e none other = naming_false (names_file number e.1) None other
none_push number (x ∷ front) e none other = by (names_file number x.1) (entry_naming number front) (entry_naming number (front ++ e ∷ [])) none (λ rest. none_push number front e rest other)
  where
    by : (names : Bool) (behind more : Option ℕ) → (if names then Some 0 else option_map suc behind) ≡ None → (behind ≡ None → more ≡ None) → (if names then Some 0 else option_map suc more) ≡ None
    by false None more none rest = ap (option_map suc) (rest refl)
    by names behind more none rest = absurd cc

first_there : (files : Files) (front : Names) (e : Place × Node) (es : Names) (number m : ℕ) (names : Bool) (behind : Option ℕ) → names_file number e.1 ≡ names → entry_naming number es ≡ behind
    → entry_naming number front ≡ None → (if names then Some 0 else option_map suc behind) ≡ Some m
    → ((k : ℕ) → entry_naming number (front ++ e ∷ []) ≡ None → entry_naming number es ≡ Some k → IsTrue (is_first_row (slice_get (rows_after files (front ++ e ∷ []) es) k)))
    → IsTrue (is_first_row (slice_get (row_of files front e ∷ rows_after files (front ++ e ∷ []) es) m))
first_there files front e es number zero true behind names-is behind-is none is more = first_kind files front e.1 number names-is none
first_there files front e es number zero false (Some k) names-is behind-is none is more = absurd (let e : suc k ≡ 0 = cc in omega arith)
first_there files front e es number (suc m) false (Some k) names-is behind-is none is more =
    let same : k ≡ m = (let s : suc k ≡ suc m = cc in omega arith) in
    more m (none_push number front e none names-is) (behind-is ∙ ap (λ n. Some n) same)
first_there files front e es number m names behind names-is behind-is none is more = absurd cc

pub named_is_first : (files : Files) (front es : Names) (number m : ℕ) → AllByRecursion IsBelowRoot es → entry_naming number front ≡ None → entry_naming number es ≡ Some m → IsTrue (is_first_row (slice_get (rows_after files front es) m))
named_is_first files front [] number m below none is = absurd cc
named_is_first files front (e ∷ es) number m below none is =
    subst (λ (rs : List Row). IsTrue (is_first_row (slice_get rs m))) (sym (rows_cons files front e es below.0.1))
    (first_there files front e es number m (names_file number e.1) (entry_naming number es) refl refl none is (λ k none-more found. named_is_first files (front ++ e ∷ []) es number k below.1 none-more found))

named_within : (number : ℕ) (es : Names) (m : ℕ) → entry_naming number es ≡ Some m → m < length es
named_within number [] m is = absurd cc
named_within number (e ∷ es) m is = by (names_file number e.1) (entry_naming number es) m is (named_within number es)
  where
    by : (names : Bool) (behind : Option ℕ) (m : ℕ) → (if names then Some 0 else option_map suc behind) ≡ Some m → ((k : ℕ) → behind ≡ Some k → k < length es) → m < suc (length es)
    by true behind m is more = let z : 0 ≡ m = cc in omega arith
    by false None m is more = absurd cc
    by false (Some k) m is more = let s : suc k ≡ m = cc in omega (arith, more k refl)

-- ---- each kind may be where it is

-- what tree files ask of files
abbrev pub IsFitContent : TreeLimits → Content → Type 0
IsFitContent bounds content = IsOwner content.owner × (length content.bytes ≤ bounds.file_bytes) × IsTrue (are_bytes content.bytes)

pub all_at : (P : Content → Type 0) (files : Files) (number : ℕ) (content : Content) → AllByRecursion (λ e. P e.1) files → content_at files number ≡ Some content → P content
all_at P files number content all is = each-get nat_cmp nat_cmp-IsAntisymmetric (λ e. P e.1) files number content all is

-- the rows of the entries after the root
abbrev pub rows_below : Files → Owner → Names → List Row
rows_below files root fs = rows_after files (only_root root) fs

naming_fits : (bounds : TreeLimits) → (files : Files) (root : Owner) (fs : Names) (number : ℕ) (entry : Option ℕ) (content : Option Content) → entry_naming number fs ≡ entry → content_at files number ≡ content
    → IsTrue (is_some (content_at files number)) → AllByRecursion (λ e. IsFitContent bounds e.1) files → AllByRecursion IsBelowRoot fs → length fs < 2 ^ 32
    → IsKind bounds (rows_below files root fs) (naming (option_map suc entry) content)
naming_fits bounds files root fs number (Some m) content entry-is content-is there fit below few =
    (omega (arith, named_within number fs m entry-is), named_is_first files (only_root root) fs number m below refl entry-is)
naming_fits bounds files root fs number None (Some content) entry-is content-is there fit below few = all_at (IsFitContent bounds) files number content fit content-is
naming_fits bounds files root fs number None None entry-is content-is there fit below few = absurd (let f : false ≡ true = sym (ap is_some content-is) ∙ there in cc)

kind_fits : (bounds : TreeLimits) → (files : Files) (root : Owner) (fs : Names) (standing : Node) → IsFitNode standing → IsNode files standing → AllByRecursion (λ e. IsFitContent bounds e.1) files → AllByRecursion IsBelowRoot fs → length fs < 2 ^ 32
    → IsKind bounds (rows_below files root fs) (kind_of files (only_root root ++ fs) standing)
kind_fits bounds files root fs (Dir owner) fits there fit below few = fits
kind_fits bounds files root fs (File number) fits there fit below few = naming_fits bounds files root fs number (entry_naming number fs) (content_at files number) refl refl there fit below few
kind_fits bounds files root fs (Link target) fits there fit below few = (fits.1, fits.0)

pub kinds_fit : (bounds : TreeLimits) → (files : Files) (root : Owner) (fs es : Names) → AllByRecursion (λ e. IsFitNode e.1) es → AllByRecursion (λ e. IsNode files e.1) es → AllByRecursion (λ e. IsFitContent bounds e.1) files
    → AllByRecursion IsBelowRoot fs → AllByRecursion IsBelowRoot es → length fs + length es < 2 ^ 32 → AreKinds bounds (rows_below files root fs) (rows_after files (only_root root ++ fs) es)
kinds_fit bounds files root fs [] fits there fit front below few = tt
kinds_fit bounds files root fs (e ∷ es) fits there fit front below few =
    let more : rows_below files root (fs ++ e ∷ []) ≡ rows_below files root fs ++ row_of files (only_root root ++ fs) e ∷ [] =
    rows_push files (only_root root) fs e ∙ ap (λ (rs : List Row). rows_below files root fs ++ rs) (one_row files (only_root root ++ fs) e below.0.1) in
    let rest = kinds_fit bounds files root (fs ++ e ∷ []) es fits.1 there.1 fit (all_both IsBelowRoot fs (e ∷ []) front (below.0, tt)) below.1 (omega (arith, length-append fs (e ∷ []))) in
    subst (AreKinds bounds (rows_below files root fs)) (sym (rows_cons files (only_root root ++ fs) e es below.0.1))
    (kind_fits bounds files root fs e.1 fits.0 there.0 fit front (omega arith), subst (λ (rs : List Row). AreKinds bounds rs (rows_after files (only_root root ++ (fs ++ e ∷ [])) es)) more rest)
