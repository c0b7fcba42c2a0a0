-- The files of the rows so far, as the code keeps them: each with the count of its names.
use Rattle.sftp_tree.proofs.Imports.{◌≡◌, ℕ, suc, ◌+◌, ◌-◌, ◌<◌, ◌≤◌, ◌==◌, List, [], ◌∷◌, ◌++◌, length, take, Option}
use Rattle.sftp_tree.proofs.Imports.{Some, None, refl, sym, ap, subst, ◌∙◌, append_assoc, arith, ◌⊎◌, inl, inr}
use Rattle.sftp_tree.proofs.Imports.{IsTrue, is_some, AllByRecursion, eqb-true, leb-true, le-leb, eq-eqb, ne_eqb}
use Rattle.sftp_tree.proofs.Imports.{cases_lt, cond-true, cond-false, and_parts, and_from, append-nil, Place}
use Rattle.sftp_tree.proofs.Imports.{components-absolute, Owner, Kind, Row, TreeLimits, IsKind, AreRows, Content}
use Rattle.sftp_tree.proofs.Imports.{Node, File, Names, Files, IsNode, content_at, entry_naming, naming, kind_of}
use Rattle.sftp_tree.proofs.Imports.{rows_after, is_given_or_next, given_with, is_numbered, content_of, contents_of}
use Rattle.sftp_tree.proofs.Imports.{node_of, names_of, ◌≢◌, zero, ◌^◌, Bool, true, false, cond, if◌then◌else◌}
use Rattle.sftp_tree.proofs.Imports.{option_and_then, not, slice_index, filter, IsStrictlySortedBy, keys_of, nat_cmp}
use Rattle.sftp_tree.proofs.Imports.{Less, nat_cmp_total, nat_cmp_is, nat_cmp-IsAntisymmetric, same_Some}
use Rattle.sftp_tree.proofs.Imports.{length-append, length-map, filter-append, length-filter_both, keys_of-map_values}
use Rattle.sftp_tree.proofs.Imports.{place_cmp, InOrder, get, put, retain, place_cmp-total, with_values-put, TreeFile}
use Rattle.sftp_tree.proofs.Imports.{most_limits, place_of, IsNext, Stored, Dir, Link, with_node, names_file}
use Rattle.sftp_tree.proofs.Imports.{times_named, contents, seen, AreCounted, file_named, IsChanged}
use Rattle.sftp_tree.proofs.Imports.{IsChangedWhereNamed, with_a_name, only_root, numbered_from, numbers_from}
use Rattle.sftp_tree.proofs.Imports.{known_number, known_node, IsKnown, Stores, HaveRoom, AreWithEntry, IsGrown}
use Rattle.sftp_tree.proofs.Imports.{tree_of}
use Rattle.sftp_treefile.specs.declared.files.Kind.TheVariants as kinds
use Rattle.sftp_tree.specs.PictureParts.{entry_of, entries_after}
use Rattle.sftp_tree.proofs.TreeFiles.Numbers.{made_by, made_push, first_at, made_front, front_taken, first_of_number}
use Rattle.sftp_tree.proofs.TreeFiles.Numbers.{rows_join, names_push, all_below, none_named, first_is_named, made_few}
use Rattle.sftp_tree.proofs.TreeFiles.Numbers.{contents_split, FirstAt, length-entries, IsBelow, AreBelow}
use Rattle.sftp_tree.proofs.TreeFiles.Numbers.{AreContents, contents_behind, each_number, numbered_order}
use Rattle.sftp_tree.proofs.TreeFiles.Numbers.{row_of, rows_cons, IsBelowRoot}
use Rattle.std.specs.Option.{IfSome}
use Rattle.sftp_tree.proofs.PlaceTables.{each-get, each-put}
use Rattle.sftp_tree.proofs.FileCounts.{by-number, none_pinned}
use Rattle.sftp_tree.proofs.FileCounts.{at-number, at-entries, raised}
use Rattle.sftp_tree.proofs.PlaceTables.{all_both, all_from_map, insert_last}
use Rattle.sftp_tree.proofs.TreeFiles.{later_than_all, bare_names}
use Rattle.sftp_tree.proofs.TreeFiles.{bare, names_bare}
use Rattle.sftp_treefile.specs.TreeFile.{contents_length, content_length}
use Rattle.sftp_tree.specs.Tree.{total_of}

-- ==== Rows come back from their entries, and entries whose files are numbered in the order of their first names from
-- their rows.

-- ---- rows, from their entries

kind_again : (bounds : TreeLimits) → (root : Owner) (files : Files) (earlier : List Row) (kind : Kind) (more : List Content) → AreRows bounds [] earlier → IsKind bounds earlier kind → AreContents files (made_by earlier) (content_of kind ++ more)
    → kind_of files (names_of root earlier) (node_of earlier kind) ≡ kind
kind_again bounds root files earlier (kinds.First owner bytes) more front fits there =
    let none = none_named (made_by earlier) (names_of root earlier) (all_below bounds root earlier front) in
    λ i. naming (none i) (there.0 i)
kind_again bounds root files earlier (kinds.Further entry) more front fits there =
    let f = first_at earlier entry fits.1 in
    let found = ap (λ (rs : List Row). entry_naming (made_by rs) (names_of root earlier)) (front_taken earlier entry f) ∙ first_is_named bounds root earlier entry f front in
    ap (λ (n : Option ℕ). naming n (content_at files (made_by (take (entry - 1) earlier)))) found
kind_again bounds root files earlier other more front fits there = refl

pub rows_again : (bounds : TreeLimits) → (root : Owner) (files : Files) (earlier rows : List Row) → AreRows bounds [] earlier → AreRows bounds earlier rows → AreContents files (made_by earlier) (contents_of rows)
    → rows_after files (names_of root earlier) (entries_after earlier rows) ≡ rows
rows_again bounds root files earlier [] front fit there = refl
rows_again bounds root files earlier (row ∷ rows) front fit there =
    let more = earlier ++ row ∷ [] in
    let kind = kind_again bounds root files earlier row.kind (contents_of rows) front fit.0.kind there in
    let same : row_of files (names_of root earlier) (entry_of earlier row) ≡ row = (λ i. record { path = sym fit.0.path.one i; kind = kind i }) in
    let behind : AreContents files (made_by more) (contents_of rows) =
    subst (λ n. AreContents files n (contents_of rows)) (sym (made_push earlier row)) (contents_behind files (made_by earlier) (content_of row.kind) (contents_of rows) there) in
    let rest = rows_again bounds root files more rows (rows_join bounds [] earlier (row ∷ []) front (fit.0, tt)) fit.1 behind in
    rows_cons files (names_of root earlier) (entry_of earlier row) (entries_after more rows) fit.0.below_root
    ∙ (λ i. same i ∷ rows_after files (sym (names_push root earlier row) i) (entries_after more rows))
    ∙ ap (λ (rs : List Row). row ∷ rs) rest

-- ---- rows number their files in the order of their first names

next_given : (bounds : TreeLimits) → (earlier : List Row) (kind : Kind) → IsKind bounds earlier kind → IsTrue (is_given_or_next (node_of earlier kind) (made_by earlier))
next_given bounds earlier (kinds.First owner bytes) fits = le-leb (made_by earlier) (made_by earlier) (omega arith)
next_given bounds earlier (kinds.Further entry) fits =
    let f = first_at earlier entry fits.1 in
    le-leb (made_by (take (entry - 1) earlier)) (made_by earlier) (omega (arith, made_front earlier entry f, ap made_by (front_taken earlier entry f)))
next_given bounds earlier other fits = refl

given_is : (bounds : TreeLimits) → (earlier : List Row) (kind : Kind) → IsKind bounds earlier kind → given_with (node_of earlier kind) (made_by earlier) ≡ made_by earlier + length (content_of kind)
given_is bounds earlier (kinds.First owner bytes) fits =
    cond-true (made_by earlier == made_by earlier) (suc (made_by earlier)) (made_by earlier) (eq-eqb (made_by earlier) (made_by earlier) refl) ∙ omega arith
given_is bounds earlier (kinds.Further entry) fits =
    let f = first_at earlier entry fits.1 in
    let number = made_by (take (entry - 1) earlier) in
    let other : number ≡ made_by earlier → ⊥ = (λ same. omega (arith, made_front earlier entry f, ap made_by (front_taken earlier entry f))) in
    cond-false (number == made_by earlier) (suc (made_by earlier)) (made_by earlier) (ne_eqb number (made_by earlier) other) ∙ omega arith
given_is bounds earlier other fits = omega arith

pub rows_numbered : (bounds : TreeLimits) → (earlier rows : List Row) → AreRows bounds earlier rows → IsTrue (is_numbered (made_by earlier) (entries_after earlier rows) (made_by (earlier ++ rows)))
rows_numbered bounds earlier [] fit = eq-eqb (made_by earlier) (made_by (earlier ++ [])) (ap made_by (sym (append-nil earlier)))
rows_numbered bounds earlier (row ∷ rows) fit =
    let more = earlier ++ row ∷ [] in
    let entries = entries_after more rows in
    let made = made_by (earlier ++ row ∷ rows) in
    let given = given_with (node_of earlier row.kind) (made_by earlier) in
    let same : made_by more ≡ given = made_push earlier row ∙ sym (given_is bounds earlier row.kind fit.0.kind) in
    let rest : IsTrue (is_numbered (made_by more) entries made) = subst (λ (rs : List Row). IsTrue (is_numbered (made_by more) entries (made_by rs))) (append_assoc earlier (row ∷ []) rows) (rows_numbered bounds more rows fit.1) in
    and_from (is_given_or_next (node_of earlier row.kind) (made_by earlier)) (is_numbered given entries made) (next_given bounds earlier row.kind fit.0.kind) (subst (λ n. IsTrue (is_numbered n entries made)) same rest)

-- ---- entries, from their rows

-- what the row of an entry after rows says
pub record Comes (root : Owner) (files : Files) (rows : List Row) (standing : Node) (kind : Kind) : Type 0 where
  pub again : node_of rows kind ≡ standing
  pub given : given_with standing (made_by rows) ≡ made_by rows + length (content_of kind)
  pub contents : AreContents files (made_by rows) (content_of kind)

comes_further : (bounds : TreeLimits) → (root : Owner) (files : Files) (rows : List Row) (number : ℕ) → AreRows bounds [] rows → number < made_by rows → Comes root files rows (File number) (kind_of files (names_of root rows) (File number))
comes_further bounds root files rows number fit below =
    let f = first_of_number rows number below in
    let found : entry_naming number (names_of root rows) ≡ Some f.entry = ap (λ n. entry_naming n (names_of root rows)) (sym f.number_is) ∙ first_is_named bounds root rows f.entry f.at fit in
    let kind : kinds.Further f.entry ≡ kind_of files (names_of root rows) (File number) = sym (ap (λ (n : Option ℕ). naming n (content_at files number)) found) in
    let other : number ≡ made_by rows → ⊥ = omega arith in
    subst (Comes root files rows (File number)) kind (record {
      again = ap (λ n. File n) (ap made_by (front_taken rows f.entry f.at) ∙ f.number_is);
      given = cond-false (number == made_by rows) (suc (made_by rows)) (made_by rows) (ne_eqb number (made_by rows) other) ∙ omega arith;
      contents = tt;
    })

comes_first : (bounds : TreeLimits) → (root : Owner) (files : Files) (rows : List Row) (number : ℕ) (content : Option Content) → AreRows bounds [] rows → number ≡ made_by rows → content_at files number ≡ content → IsTrue (is_some content)
    → Comes root files rows (File number) (kind_of files (names_of root rows) (File number))
comes_first bounds root files rows number None fit same content-is there = absurd cc
comes_first bounds root files rows number (Some content) fit same content-is there =
    let none : entry_naming number (names_of root rows) ≡ None = ap (λ n. entry_naming n (names_of root rows)) same ∙ none_named (made_by rows) (names_of root rows) (all_below bounds root rows fit) in
    let kind : kinds.First content.owner content.bytes ≡ kind_of files (names_of root rows) (File number) = sym (λ i. naming (none i) (content-is i)) in
    subst (Comes root files rows (File number)) kind (record {
      again = ap (λ n. File n) (sym same);
      given = cond-true (number == made_by rows) (suc (made_by rows)) (made_by rows) (eq-eqb number (made_by rows) same) ∙ omega arith;
      contents = (ap (content_at files) (sym same) ∙ content-is, tt);
    })

comes_file : (bounds : TreeLimits) → (root : Owner) (files : Files) (rows : List Row) (number : ℕ) → AreRows bounds [] rows → number ≤ made_by rows → IsTrue (is_some (content_at files number))
    → (number < made_by rows) ⊎ (made_by rows ≤ number) → Comes root files rows (File number) (kind_of files (names_of root rows) (File number))
comes_file bounds root files rows number fit upto there (inl below) = comes_further bounds root files rows number fit below
comes_file bounds root files rows number fit upto there (inr above) = comes_first bounds root files rows number (content_at files number) fit (omega arith) refl there

comes : (bounds : TreeLimits) → (root : Owner) (files : Files) (rows : List Row) (standing : Node) → AreRows bounds [] rows → IsNode files standing → IsTrue (is_given_or_next standing (made_by rows)) → Comes root files rows standing (kind_of files (names_of root rows) standing)
comes bounds root files rows (File number) fit there next = comes_file bounds root files rows number fit (leb-true number (made_by rows) next) there (cases_lt number (made_by rows))
comes bounds root files rows other fit there next = record { again = refl; given = omega arith; contents = tt }

contents_join : (files : Files) (number : ℕ) (xs ys : List Content) → AreContents files number xs → AreContents files (number + length xs) ys → AreContents files number (xs ++ ys)
contents_join files number [] ys a b = let same : number + 0 ≡ number = omega arith in subst (λ n. AreContents files n ys) same b
contents_join files number (x ∷ xs) ys a b =
    let same : number + length (x ∷ xs) ≡ suc number + length xs = omega arith in
    (a.0, contents_join files (suc number) xs ys a.1 (subst (λ n. AreContents files n ys) same b))

-- entries after rows, whose own rows come after them
pub record Again (files : Files) (earlier rows : List Row) (entries : Names) (made : ℕ) : Type 0 where
  pub entries_are : entries_after earlier rows ≡ entries
  pub made_is : made_by (earlier ++ rows) ≡ made
  pub contents : AreContents files (made_by earlier) (contents_of rows)

again_behind : (root : Owner) (files : Files) (earlier : List Row) (e : Place × Node) (row : Row) (rows : List Row) (es : Names) (made : ℕ) → entry_of earlier row ≡ e → AreContents files (made_by earlier) (content_of row.kind)
    → Again files (earlier ++ row ∷ []) rows es made → Again files earlier (row ∷ rows) (e ∷ es) made
again_behind root files earlier e row rows es made same there more = record {
  entries_are = λ i. same i ∷ more.entries_are i;
  made_is = ap made_by (sym (append_assoc earlier (row ∷ []) rows)) ∙ more.made_is;
  contents = contents_join files (made_by earlier) (content_of row.kind) (contents_of rows) there (subst (λ n. AreContents files n (contents_of rows)) (made_push earlier row) more.contents);
}

pub entries_again : (bounds : TreeLimits) → (root : Owner) (files : Files) (earlier : List Row) (front es : Names) (made : ℕ) → names_of root earlier ≡ front → AreRows bounds [] earlier → AreRows bounds earlier (rows_after files front es)
    → AllByRecursion IsBelowRoot es → AllByRecursion (λ e. IsNode files e.1) es → IsTrue (is_numbered (made_by earlier) es made) → Again files earlier (rows_after files front es) es made
entries_again bounds root files earlier front [] made same before fit below there numbered =
    record { entries_are = refl; made_is = ap made_by (append-nil earlier) ∙ eqb-true (made_by earlier) made numbered; contents = tt }
entries_again bounds root files earlier front (e ∷ es) made same before fit below there numbered =
    let row = row_of files front e in
    let rows = rows_after files (front ++ e ∷ []) es in
    let rows-are = rows_cons files front e es below.0.1 in
    let fits : AreRows bounds earlier (row ∷ rows) = subst (AreRows bounds earlier) rows-are fit in
    let n = and_parts (is_given_or_next e.1 (made_by earlier)) (is_numbered (given_with e.1 (made_by earlier)) es made) numbered in
    let c : Comes root files earlier e.1 row.kind = subst (λ (ns : Names). Comes root files earlier e.1 (kind_of files ns e.1)) same (comes bounds root files earlier e.1 before there.0 n.0) in
    let entry : entry_of earlier row ≡ e = (λ i. (components-absolute e.0 below.0.0.0 i, c.again i)) in
    let more = earlier ++ row ∷ [] in
    let names : names_of root more ≡ front ++ e ∷ [] = names_push root earlier row ∙ (λ i. same i ++ entry i ∷ []) in
    let made-is : given_with e.1 (made_by earlier) ≡ made_by more = c.given ∙ sym (made_push earlier row) in
    let rest = entries_again bounds root files more (front ++ e ∷ []) es made names (rows_join bounds [] earlier (row ∷ []) before (fits.0, tt)) fits.1 below.1 there.1 (subst (λ n. IsTrue (is_numbered n es made)) made-is n.1) in
    subst (λ (rs : List Row). Again files earlier rs (e ∷ es) made) (sym rows-are) (again_behind root files earlier e row rows es made entry c.contents rest)

-- ---- room for a name more

pub room_at : (stores : Stores) (number : ℕ) → HaveRoom stores → IfSome (get nat_cmp stores number) (λ s. s.names + 1 < 2 ^ 32)
room_at stores number room = by (get nat_cmp stores number) refl
  where
    by : (found : Option Stored) → get nat_cmp stores number ≡ found → IfSome found (λ s. s.names + 1 < 2 ^ 32)
    by None is = tt
    by (Some s) is = each-get nat_cmp nat_cmp-IsAntisymmetric (λ e. e.1.names + 1 < 2 ^ 32) stores number s room is

counted_room : (names : Names) (stores : Stores) → AreCounted names stores → length names + 1 < 2 ^ 32 → HaveRoom stores
unfolding retain
counted_room names [] counted few = tt
counted_room names (e ∷ stores) counted few =
    (omega (arith, counted.0, length-filter_both (λ (q : Place × Node). names_file e.0 q.1) (λ (q : Place × Node). not (names_file e.0 q.1)) (λ q. refl) names), counted_room names stores counted.1 few)

-- ---- the numbers of the entries before

pub length-numbers : (number : ℕ) (rows : List Row) → length (numbers_from number rows) ≡ length rows
length-numbers number [] = refl
length-numbers number (row ∷ rows) = ap suc (length-numbers (number + length (content_of row.kind)) rows)

number_at : (number : ℕ) (rows : List Row) (i : ℕ) → i < length rows → slice_index (numbers_from number rows) i ≡ number + made_by (take i rows)
number_at number [] i below = absurd (omega arith)
number_at number (row ∷ rows) zero below = omega arith
number_at number (row ∷ rows) (suc i) below =
    number_at (number + length (content_of row.kind)) rows i (omega arith) ∙ omega (arith, length-append (content_of row.kind) (contents_of (take i rows)))

pub numbers_push : (number : ℕ) (rows : List Row) (row : Row) → numbers_from number (rows ++ row ∷ []) ≡ numbers_from number rows ++ (number + made_by rows) ∷ []
numbers_push number [] row = let same : number ≡ number + 0 = omega arith in ap (λ n. n ∷ []) same
numbers_push number (r ∷ rows) row =
    let same : number + length (content_of r.kind) + made_by rows ≡ number + made_by (r ∷ rows) = omega (arith, length-append (content_of r.kind) (contents_of rows)) in
    ap (λ (ns : List ℕ). number ∷ ns) (numbers_push (number + length (content_of r.kind)) rows row ∙ ap (λ n. numbers_from (number + length (content_of r.kind)) rows ++ n ∷ []) same)

within : (rows : List Row) (entry : ℕ) → FirstAt rows entry → (1 ≤ entry) × (entry ≤ length rows)
within rows entry f = (omega (arith, f.entry_is), omega (arith, f.entry_is, ap length f.rows_are, length-append f.front (f.row ∷ f.rest)))

pub kind_known : (bounds : TreeLimits) → (rows : List Row) (kind : Kind) → IsKind bounds rows kind → IsKnown (numbers_from 0 rows) kind
kind_known bounds rows (kinds.Further entry) fits =
    let w = within rows entry (first_at rows entry fits.1) in
    (w.0, omega (arith, w.1, length-numbers 0 rows))
kind_known bounds rows other fits = tt

number_known : (rows : List Row) (entry : ℕ) → FirstAt rows entry → known_number (numbers_from 0 rows) entry ≡ made_by (take (entry - 1) rows)
number_known rows entry f =
    let w = within rows entry f in
    number_at 0 rows (entry - 1) (omega (arith, w.0, w.1)) ∙ omega arith

pub node_known : (bounds : TreeLimits) → (rows : List Row) (kind : Kind) → IsKind bounds rows kind → known_node (numbers_from 0 rows) (made_by rows) kind ≡ node_of rows kind
node_known bounds rows (kinds.Further entry) fits = ap (λ n. File n) (number_known rows entry (first_at rows entry fits.1))
node_known bounds rows other fits = refl

-- ---- counts

one_if : Bool → ℕ
one_if b = if b then 1 else 0

times_push : (names : Names) (e : Place × Node) (number : ℕ) (b : Bool) → names_file number e.1 ≡ b → times_named (names ++ e ∷ []) number ≡ times_named names number + one_if b
unfolding retain one_if
times_push names e number b is =
    let test = λ (q : Place × Node). names_file number q.1 in
    let last : length (filter test (e ∷ [])) ≡ one_if b = ap (λ x. length (cond x (e ∷ []) [])) is ∙ by b in
    omega (arith, ap length (filter-append test names (e ∷ [])), length-append (filter test names) (filter test (e ∷ [])), last)
  where
    by : (x : Bool) → length (cond x (e ∷ []) []) ≡ (if x then 1 else 0)
    by true = refl
    by false = refl

times_same : (names : Names) (e : Place × Node) (number : ℕ) → names_file number e.1 ≡ false → times_named (names ++ e ∷ []) number ≡ times_named names number
unfolding one_if
times_same names e number is = omega (arith, times_push names e number false is)

times_more : (names : Names) (e : Place × Node) (number : ℕ) → names_file number e.1 ≡ true → times_named (names ++ e ∷ []) number ≡ times_named names number + 1
unfolding one_if
times_more names e number is = times_push names e number true is

none_of : (number : ℕ) (names : Names) → AreBelow number names → times_named names number ≡ 0
unfolding retain
none_of number [] below = refl
none_of number (e ∷ es) below = by e.1 below.0 (none_of number es below.1)
  where
    by : (standing : Node) → IsBelow number standing → length (filter (λ q. names_file number q.1) es) ≡ 0 → length (cond (names_file number standing) (e ∷ filter (λ q. names_file number q.1) es) (filter (λ q. names_file number q.1) es)) ≡ 0
    by (File n) below is = let other : n ≢ number = omega arith in rw (ne_eqb n number other) is
    by other below is = is

-- the entry is no name of a file of these
counted_same : (names : Names) (e : Place × Node) (stores : Stores) → AllByRecursion (λ s. names_file s.0 e.1 ≡ false) stores → AreCounted names stores → AreCounted (names ++ e ∷ []) stores
counted_same names e [] other counted = tt
counted_same names e (s ∷ stores) other counted = (counted.0 ∙ sym (times_same names e s.0 other.0), counted_same names e stores other.1 counted.1)

-- ---- the tables

keys_below : (stores : Stores) (cs : List Content) → contents stores ≡ numbered_from 0 cs → AllByRecursion (λ s. s.0 < length cs) stores
keys_below stores cs same =
    all_from_map (λ (s : ℕ × Stored). (s.0, s.1.content)) (λ (e : ℕ × Content). e.0 < length cs) stores
    (subst (λ (files : Files). AllByRecursion (λ e. e.0 < length cs) files) (sym same) (each_number (λ n. n < length cs) 0 cs (λ n above below. omega arith)))

stores_order : (stores : Stores) (cs : List Content) → contents stores ≡ numbered_from 0 cs → InOrder nat_cmp stores
stores_order stores cs same =
    subst (IsStrictlySortedBy nat_cmp) (ap keys_of (sym same) ∙ keys_of-map_values (λ (s : Stored). s.content) stores) (numbered_order 0 cs)

below_less : {X : Type 0} (n : ℕ) (es : List (ℕ × X)) → AllByRecursion (λ e. e.0 < n) es → AllByRecursion (λ q. nat_cmp q n ≡ Less) (keys_of es)
below_less n [] below = tt
below_less n (e ∷ es) below = (sym (nat_cmp_is e.0 n Less below.0), below_less n es below.1)

numbered_push : (s : ℕ) (cs : List Content) (c : Content) → numbered_from s (cs ++ c ∷ []) ≡ numbered_from s cs ++ (s + length cs, c) ∷ []
numbered_push s [] c = let same : s ≡ s + 0 = omega arith in ap (λ n. (n, c) ∷ []) same
numbered_push s (x ∷ cs) c =
    let same : suc s + length cs ≡ s + length (x ∷ cs) = omega arith in
    ap (λ (fs : Files). (s, x) ∷ fs) (numbered_push (suc s) cs c ∙ ap (λ n. numbered_from (suc s) cs ++ (n, c) ∷ []) same)

-- ---- a new file

first_put : (stores : Stores) (cs : List Content) (s : Stored) → contents stores ≡ numbered_from 0 cs → put nat_cmp stores (length cs) s ≡ stores ++ (length cs, s) ∷ []
unfolding put
first_put stores cs s same = insert_last nat_cmp_total stores (length cs) s (below_less (length cs) stores (keys_below stores cs same))

last_number : (cs : List Content) (c : Content) → put nat_cmp (numbered_from 0 cs) (length cs) c ≡ numbered_from 0 (cs ++ c ∷ [])
unfolding put
last_number cs c =
    let below = each_number (λ n. n < length cs) 0 cs (λ n above below. omega arith) in
    let zero_more : length cs ≡ 0 + length cs = omega arith in
    insert_last nat_cmp_total (numbered_from 0 cs) (length cs) c (below_less (length cs) (numbered_from 0 cs) below)
    ∙ ap (λ n. numbered_from 0 cs ++ (n, c) ∷ []) zero_more ∙ sym (numbered_push 0 cs c)

first_contents : (stores : Stores) (cs : List Content) (s : Stored) → contents stores ≡ numbered_from 0 cs → contents (put nat_cmp stores (length cs) s) ≡ numbered_from 0 (cs ++ s.content ∷ [])
first_contents stores cs s same = with_values-put nat_cmp (λ (x : Stored). x.content) stores (length cs) s
    ∙ ap (λ (fs : Files). put nat_cmp fs (length cs) s.content) same ∙ last_number cs s.content

not_last : (n : ℕ) (stores : Stores) → AllByRecursion (λ s. s.0 < n) stores → AllByRecursion (λ s. names_file s.0 (File n) ≡ false) stores
not_last n [] below = tt
not_last n (s ∷ stores) below = let other : n ≢ s.0 = omega (arith, below.0) in (ne_eqb n s.0 other, not_last n stores below.1)

first_counted : (names : Names) (place : Place) (stores : Stores) (cs : List Content) (s : Stored) → contents stores ≡ numbered_from 0 cs → s.names ≡ 1 → AreBelow (length cs) names → AreCounted names stores
    → AreCounted (names ++ (place, File (length cs)) ∷ []) (put nat_cmp stores (length cs) s)
first_counted names place stores cs s same one below counted =
    let e : Place × Node = (place, File (length cs)) in
    let more = names ++ e ∷ [] in
    let old = counted_same names e stores (not_last (length cs) stores (keys_below stores cs same)) counted in
    let new : s.names ≡ times_named more (length cs) = one ∙ omega (arith, times_more names e (length cs) (eq-eqb (length cs) (length cs) refl), none_of (length cs) names below) in
    subst (AreCounted more) (sym (first_put stores cs s same)) (all_both (λ (q : ℕ × Stored). q.1.names ≡ times_named more q.0) stores ((length cs, s) ∷ []) old (new, tt))

-- ---- an entry more

-- the files with an entry more, at whatever place it is
pub record Pushed (root : Owner) (rows : List Row) (place : Place) (kind : Kind) (stores : Stores) : Type 0 where
  pub contents_are : contents stores ≡ numbered_from 0 (contents_of rows ++ content_of kind)
  pub counted : AreCounted (names_of root rows ++ (place, node_of rows kind) ∷ []) stores

-- with an entry that comes with no file
counted_push : (root : Owner) (rows : List Row) (place : Place) (standing : Node) (stores after : Stores) → contents stores ≡ numbered_from 0 (contents_of rows) → AreCounted (names_of root rows) stores
    → IsChangedWhereNamed with_a_name (file_named (Some standing)) stores after → (contents after ≡ contents stores) × AreCounted (names_of root rows ++ (place, standing) ∷ []) after
unfolding one_if
counted_push root rows place standing stores after same counted changed =
    let names = names_of root rows in
    raised names (names ++ (place, standing) ∷ []) stores standing (λ n. times_push names (place, standing) n (names_file n standing) refl) after (stores_order stores (contents_of rows) same) counted changed

pushed_none : (root : Owner) (rows : List Row) (place : Place) (standing : Node) (stores after : Stores) → contents stores ≡ numbered_from 0 (contents_of rows) → AreCounted (names_of root rows) stores
    → IsChangedWhereNamed with_a_name (file_named (Some standing)) stores after → (contents after ≡ numbered_from 0 (contents_of rows ++ [])) × AreCounted (names_of root rows ++ (place, standing) ∷ []) after
pushed_none root rows place standing stores after same counted changed =
    let p = counted_push root rows place standing stores after same counted changed in
    (p.0 ∙ same ∙ ap (numbered_from 0) (sym (append-nil (contents_of rows))), p.1)

pushed : (bounds : TreeLimits) → (root : Owner) (rows : List Row) (place : Place) (kind : Kind) (stores after : Stores) → AreRows bounds [] rows → IsKind bounds rows kind → contents stores ≡ numbered_from 0 (contents_of rows) → AreCounted (names_of root rows) stores
    → AreWithEntry (numbers_from 0 rows) (made_by rows) kind stores after → Pushed root rows place kind after
pushed bounds root rows place (kinds.Dir owner) stores after fit fits same counted is =
    let p = pushed_none root rows place (Dir owner) stores after same counted is in
    record { contents_are = p.0; counted = p.1 }
pushed bounds root rows place (kinds.First owner bytes) stores after fit fits same counted is =
    let s : Stored = record { content = record { owner = owner; bytes = bytes }; names = 1; pins = 0 } in
    record {
      contents_are = ap contents is ∙ first_contents stores (contents_of rows) s same;
      counted = subst (AreCounted (names_of root rows ++ (place, File (made_by rows)) ∷ [])) (sym is) (first_counted (names_of root rows) place stores (contents_of rows) s same refl (all_below bounds root rows fit) counted);
    }
pushed bounds root rows place (kinds.Further entry) stores after fit fits same counted changed =
    let p = pushed_none root rows place (File (known_number (numbers_from 0 rows) entry)) stores after same counted changed in
    record {
      contents_are = p.0;
      counted = subst (λ n. AreCounted (names_of root rows ++ (place, File n) ∷ []) after) (number_known rows entry (first_at rows entry fits.1)) p.1;
    }
pushed bounds root rows place (kinds.Link target) stores after fit fits same counted is =
    let p = pushed_none root rows place (Link target) stores after same counted is in
    record { contents_are = p.0; counted = p.1 }

-- with a further name of a file none is pinned still
named_unpinned : (number : ℕ) (stores after : Stores) → AllByRecursion (λ (e : ℕ × Stored). e.1.pins ≡ 0) stores
    → IsChanged with_a_name number stores after → AllByRecursion (λ (e : ℕ × Stored). e.1.pins ≡ 0) after
named_unpinned number stores after none changed =
    at-entries (λ other (s : Stored). s.pins ≡ 0) after changed.ordered (λ other s there. by-number number other
    (λ is. by (get nat_cmp stores number) refl (sym changed.here ∙ ap (get nat_cmp after) (sym is) ∙ there))
    (λ differ. at-number (λ other (s : Stored). s.pins ≡ 0) stores none other s (sym (changed.others other differ) ∙ there)))
  where
    by : {s : Stored} (o : Option Stored) → get nat_cmp stores number ≡ o → option_and_then with_a_name o ≡ Some s → s.pins ≡ 0
    by None there is = absurd cc
    by (Some before) there is =
        sym (ap (λ (s : Stored). s.pins) (same_Some _ _ is)) ∙ at-number (λ other (s : Stored). s.pins ≡ 0) stores none number before there

pushed_unpinned : (numbers : List ℕ) (next : ℕ) (kind : Kind) (stores after : Stores) → InOrder nat_cmp stores
    → AllByRecursion (λ (e : ℕ × Stored). e.1.pins ≡ 0) stores → AreWithEntry numbers next kind stores after
    → AllByRecursion (λ (e : ℕ × Stored). e.1.pins ≡ 0) after
pushed_unpinned numbers next (kinds.First owner bytes) stores after order none is =
    let s : Stored = record { content = record { owner = owner; bytes = bytes }; names = 1; pins = 0 } in
    subst (AllByRecursion (λ (e : ℕ × Stored). e.1.pins ≡ 0)) (sym is)
    (each-put nat_cmp nat_cmp-IsAntisymmetric nat_cmp_total (λ e. e.1.pins ≡ 0) stores next s order refl none)
pushed_unpinned numbers next (kinds.Further entry) stores after order none changed =
    named_unpinned (known_number numbers entry) stores after none changed
pushed_unpinned numbers next other stores after order none is =
    subst (AllByRecursion (λ (e : ℕ × Stored). e.1.pins ≡ 0)) (sym is) none

pub keys_before : (bounds : TreeLimits) → (root : Owner) (rows : List Row) (row : Row) → IsNext bounds rows row → AllByRecursion (λ q. place_cmp q (place_of row.path) ≡ Less) (keys_of (names_of root rows))
keys_before bounds root rows row next =
    let keys : keys_of (bare_names root rows) ≡ keys_of (names_of root rows) = ap keys_of (sym (names_bare root rows)) ∙ keys_of-map_values bare (names_of root rows) in
    subst (λ (ks : List Place). AllByRecursion (λ q. place_cmp q (place_of row.path) ≡ Less) ks) keys (later_than_all bounds root rows row next)

entry_put : (bounds : TreeLimits) → (root : Owner) (rows : List Row) (row : Row) (names new : Names) (place : Place) (standing : Node) → IsNext bounds rows row → names ≡ names_of root rows
    → place ≡ place_of row.path → standing ≡ node_of rows row.kind → new ≡ with_node names place standing → new ≡ names_of root (rows ++ row ∷ [])
unfolding put
entry_put bounds root rows row names new place standing next names-are place-is node-is put-is =
    put-is ∙ (λ i. with_node (names-are i) (place-is i) (node-is i))
    ∙ insert_last place_cmp-total (names_of root rows) (place_of row.path) (node_of rows row.kind) (keys_before bounds root rows row next)
    ∙ sym (names_push root rows row)

pub grown_push : (bounds : TreeLimits) → (root : Owner) (rows : List Row) (row : Row) (names new-names : Names) (stores new-stores : Stores) (numbers : List ℕ) (next : ℕ) (place : Place) (standing : Node)
    → AreRows bounds [] rows → IsNext bounds rows row → IsGrown root rows names stores → numbers ≡ numbers_from 0 rows → next ≡ made_by rows
    → place ≡ place_of row.path → standing ≡ known_node numbers next row.kind → new-names ≡ with_node names place standing → AreWithEntry numbers next row.kind stores new-stores
    → IsGrown root (rows ++ row ∷ []) new-names new-stores
grown_push bounds root rows row names new-names stores new-stores numbers next place standing fit is-next grown numbers-are next-is place-is node-is names-put stores-put =
    let node : standing ≡ node_of rows row.kind = node-is ∙ (λ i. known_node (numbers-are i) (next-is i) row.kind) ∙ node_known bounds rows row.kind is-next.kind in
    let put = entry_put bounds root rows row names new-names place standing is-next grown.names_are place-is node names-put in
    let with_entry = subst (λ n. AreWithEntry (numbers_from 0 rows) n row.kind stores new-stores) next-is (subst (λ (ns : List ℕ). AreWithEntry ns next row.kind stores new-stores) numbers-are stores-put) in
    let p = pushed bounds root rows (place_of row.path) row.kind stores new-stores fit is-next.kind grown.contents_are (subst (λ (ns : Names). AreCounted ns stores) grown.names_are grown.counted) with_entry in
    record {
      names_are = put;
      contents_are = p.contents_are ∙ ap (numbered_from 0) (sym (contents_more rows row));
      counted = subst (λ (ns : Names). AreCounted ns new-stores) (sym (put ∙ names_push root rows row)) p.counted;
      unpinned = pushed_unpinned (numbers_from 0 rows) (made_by rows) row.kind stores new-stores (stores_order stores (contents_of rows) grown.contents_are) grown.unpinned with_entry;
    }
  where
    contents_more : (rows : List Row) (row : Row) → contents_of (rows ++ row ∷ []) ≡ contents_of rows ++ content_of row.kind
    contents_more rows row = contents_split rows (row ∷ []) ∙ ap (λ (cs : List Content). contents_of rows ++ cs) (append-nil (content_of row.kind))

-- how many files there are
pub many_files : (root : Owner) (rows : List Row) (names : Names) (stores : Stores) → IsGrown root rows names stores → length stores ≡ made_by rows
many_files root rows names stores grown =
    sym (length-map stores (λ (s : ℕ × Stored). (s.0, s.1.content))) ∙ ap length grown.contents_are ∙ length-numbered 0 (contents_of rows)
  where
    length-numbered : (s : ℕ) (cs : List Content) → length (numbered_from s cs) ≡ length cs
    length-numbered s [] = refl
    length-numbered s (c ∷ cs) = ap suc (length-numbered (suc s) cs)

pub grown_room : (root : Owner) (rows : List Row) (names : Names) (stores : Stores) → IsGrown root rows names stores → length rows ≤ most_limits.entries → HaveRoom stores
grown_room root rows names stores grown few =
    counted_room names stores grown.counted (omega (arith, ap length grown.names_are, length-entries [] rows))

-- ---- how many bytes the files have

pub contents_append : (xs ys : List Row) → contents_length (xs ++ ys) ≡ contents_length xs + contents_length ys
contents_append [] ys = omega arith
contents_append (x ∷ xs) ys = omega (arith, contents_append xs ys)

pub numbered_total : (number : ℕ) (rows : List Row) → total_of (numbered_from number (contents_of rows)) ≡ contents_length rows
numbered_total number [] = refl
numbered_total number (row ∷ rows) = by row.kind (numbered_total number rows) (numbered_total (suc number) rows)
  where
    by : (kind : Kind) → total_of (numbered_from number (contents_of rows)) ≡ contents_length rows
        → total_of (numbered_from (suc number) (contents_of rows)) ≡ contents_length rows
        → total_of (numbered_from number (content_of kind ++ contents_of rows)) ≡ content_length kind + contents_length rows
    by (kinds.Dir owner) same next = omega (arith, same)
    by (kinds.First owner bytes) same next = omega (arith, next)
    by (kinds.Further entry) same next = omega (arith, same)
    by (kinds.Link target) same next = omega (arith, same)

pub grown_total : (root : Owner) (rows : List Row) (names : Names) (stores : Stores) → IsGrown root rows names stores → total_of (contents stores) ≡ contents_length rows
grown_total root rows names stores grown = ap total_of grown.contents_are ∙ numbered_total 0 rows

-- nothing but the root
pub grown_root : (root : Owner) (names : Names) (stores : Stores) → names ≡ only_root root → stores ≡ [] → IsGrown root [] names stores
grown_root root names stores alone none = record {
  names_are = alone;
  contents_are = ap contents none;
  counted = subst (AreCounted names) (sym none) tt;
  unpinned = subst (AllByRecursion (λ (e : ℕ × Stored). e.1.pins ≡ 0)) (sym none) tt;
}

-- the number of the next file fits its field
pub next_fits : (root : Owner) (rows rest : List Row) (names : Names) (stores : Stores) → IsGrown root rows names stores → length (rows ++ rest) ≤ most_limits.entries → length stores ≤ most_limits.entries
next_fits root rows rest names stores grown few =
    omega (arith, many_files root rows names stores grown, made_few rows, length-append rows rest)

pub numbers_grow : (rows : List Row) (row : Row) (numbers new : List ℕ) (next : ℕ) → new ≡ numbers ++ next ∷ [] → numbers ≡ numbers_from 0 rows → next ≡ made_by rows → new ≡ numbers_from 0 (rows ++ row ∷ [])
numbers_grow rows row numbers new next put are is =
    let zero_more : next ≡ 0 + made_by rows = omega (arith, is) in
    put ∙ (λ i. are i ++ zero_more i ∷ []) ∙ sym (numbers_push 0 rows row)

-- ---- the tree

pub tree_grown : (file : TreeFile) (rows : List Row) (names : Names) (stores : Stores) (made : ℕ) (home : Place) → rows ≡ file.rows → IsGrown file.root rows names stores → made ≡ length stores → home ≡ place_of file.home
    → seen names stores made file.limits home file.uid file.gid ≡ tree_of file
tree_grown file rows names stores made home rows-are grown made-is home-is =
    let g : IsGrown file.root file.rows names stores = subst (λ (rs : List Row). IsGrown file.root rs names stores) rows-are grown in
    let many = made-is ∙ many_files file.root file.rows names stores g in
    let unpinned = none_pinned stores g.unpinned in
    λ i. record { names = g.names_are i; files = g.contents_are i; made = many i; pins = unpinned i; limits = file.limits; home = home-is i; uid = file.uid; gid = file.gid }
