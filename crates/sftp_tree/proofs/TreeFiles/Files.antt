-- What a tree's file says is a tree file, whose tree is that tree with its files numbered anew; and what a tree file says is what
-- its tree's says.
use Rattle.sftp_tree.proofs.Imports.{◌≡◌, ℕ, ◌+◌, ◌-◌, ◌<◌, ◌≤◌, ◌^◌, ◌||◌, cond, List, [], ◌∷◌, ◌++◌, length, Some}
use Rattle.sftp_tree.proofs.Imports.{refl, sym, ap, subst, ◌∙◌, arith, IsTrue, is_some, AllByRecursion, filter}
use Rattle.sftp_tree.proofs.Imports.{leb-true, ltb-true, le-leb, lt-ltb, or_left, length-append, filter-append, Place}
use Rattle.sftp_tree.proofs.Imports.{are_names, retain, components-absolute, Owner, Kind, Row, TreeFile, TreeLimits}
use Rattle.sftp_tree.proofs.Imports.{most_limits, IsOwner, IsKind, AreRows, IsTreeFile, spelled, IsSpelled}
use Rattle.sftp_tree.proofs.Imports.{usual_are, one_file, Content, Node, Dir, File, Link, Names, Files, Tree}
use Rattle.sftp_tree.proofs.Imports.{WellFormed, IsKept, IsNode, IsContent, limits, node_at, content_at, names_file}
use Rattle.sftp_tree.proofs.Imports.{times_named, is_named, is_pinned, fits, depths_fit, depth_fits, home_fits}
use Rattle.sftp_tree.proofs.Imports.{links_fit, link_fits, files_fit, content_fits, rows_after, root_owner}
use Rattle.sftp_tree.proofs.Imports.{is_numbered, file_of, picture, IsStart, blank, content_of, contents_of, node_of}
use Rattle.sftp_tree.proofs.Imports.{only_root, names_of, numbered_from, tree_of, suc, ◌==◌, Bool, true, false}
use Rattle.sftp_tree.proofs.Imports.{if◌then◌else◌, Option, None, flat_map, nat_cmp, is_eq, nat_cmp_total}
use Rattle.sftp_tree.proofs.Imports.{eqb-true, eq-eqb, absolute, get, get-put, head_bytes, path_length}
use Rattle.sftp_tree.proofs.Imports.{target_length, entry_naming, naming, kind_of}
use Rattle.sftp_tree.proofs.Imports.{Firsts, firsts_with, known_kind}
use Rattle.sftp_treefile.specs.declared.files.Kind.TheVariants as kinds
use Rattle.sftp_tree.specs.PictureParts.{entry_of, entries_after, head_of, with_first, IsShort}
use Rattle.sftp_tree.proofs.PlaceTables.{all_both, all_together, all_right}
use Rattle.sftp_tree.proofs.TreeFiles.{IsPlace, IsFitNode, IsTable, bare_names, text_place, root_table}
use Rattle.sftp_tree.proofs.TreeFiles.{table_of_rows, rows_of_table, root_first, root_at, entries_below}
use Rattle.sftp_tree.proofs.TreeFiles.{table_bare, table_from_bare, names_bare}
use Rattle.sftp_tree.proofs.TreeFiles.Numbers.{made_by, made_few, first_of_number, names_split, length-entries}
use Rattle.sftp_tree.proofs.TreeFiles.Numbers.{IsBelow, AreBelow, all_below, first_names}
use Rattle.sftp_tree.proofs.TreeFiles.Numbers.{numbered_contents, numbered_there, each_number, each_content}
use Rattle.sftp_tree.proofs.TreeFiles.Numbers.{numbered_order, numbered_again, number_is}
use Rattle.sftp_tree.proofs.TreeFiles.Numbers.{IsBelowRoot, IsFitContent, length-rows, place_text, entry_texts}
use Rattle.sftp_tree.proofs.TreeFiles.Numbers.{rows_bare, kinds_fit}
use Rattle.sftp_tree.proofs.TreeFiles.Stores.{rows_again, rows_numbered, entries_again, numbered_total}
use Rattle.sftp_tree.proofs.PlaceTables.{each-all, all-each, each-weaker}
use Rattle.sftp_tree.proofs.Limits.{Stands, fits-parts, fits-from, stands-of}
use Rattle.std.specs.Option.{option_map}
use Rattle.sftp_tree.proofs.Imports.{not, nat_cmp-IsAntisymmetric, Equal-is, lookup, is_at, usual_limits, raised_are}
use Rattle.sftp_treefile.specs.declared.times.Times.{Times}
use Rattle.sftp_treefile.specs.TreeFile.{contents_length, content_length, AreFileTimes, opening_with, entry_text}
use Rattle.sftp_treefile.specs.TreeFile.{any_times, times_of_root}
use Rattle.sftp_treefile.proofs.Texts.Files.{spelled_parts, entries_of}
use Rattle.sftp_tree.specs.PictureParts.{timed_entries}
use Rattle.sftp_tree.specs.Tree.{total_of}
use Rattle.sftp_tree.specs.Changes.{length_of}
use Rattle.sftp_tree.specs.Picture.{timed_file_of}
use Rattle.sftp_tree.proofs.Totals.{total-retain}
use Rattle.std.proofs.Math.Dec.{eqb-suc-zero}

-- ---- the limits, entry by entry

pub record Limits (t : Tree) : Type 0 where
  pub entries : length t.names ≤ t.limits.entries + 1
  pub depths : IsTrue (depths_fit t)
  pub home : IsTrue (home_fits t)
  pub links : IsTrue (links_fit t)
  pub files : IsTrue (files_fit t)
  pub total : total_of t.files ≤ t.limits.total_bytes
  pub numbers : t.made < 2 ^ 32

pub limits_from : (t : Tree) → IsTrue (fits t) → Limits t
limits_from t h =
    let parts = fits-parts t h in
    record { entries = omega (arith, leb-true (length t.names - 1) t.limits.entries parts.entries); depths = parts.depths; home = parts.home; links = parts.links; files = parts.files; total = leb-true (total_of t.files) t.limits.total_bytes parts.total; numbers = ltb-true t.made (2 ^ 32) parts.numbers }

pub limits_fit : (t : Tree) → Limits t → IsTrue (fits t)
limits_fit t l =
    fits-from t (record { entries = le-leb (length t.names - 1) t.limits.entries (omega (arith, l.entries)); depths = l.depths; home = l.home; links = l.links; files = l.files; total = le-leb (total_of t.files) t.limits.total_bytes l.total; numbers = lt-ltb t.made (2 ^ 32) l.numbers })

pub most-entries : (t : Tree) → Stands t → t.limits.entries ≤ most_limits.entries
most-entries t kept = kept.well_formed.limits.entries.1

-- ---- what the files of rows keep

fit_contents : (bounds : TreeLimits) → (earlier : List Row) (kind : Kind) → IsKind bounds earlier kind → AllByRecursion (IsFitContent bounds) (content_of kind)
fit_contents bounds earlier (kinds.First owner bytes) fits = (fits, tt)
fit_contents bounds earlier other fits = tt

rows_contents : (bounds : TreeLimits) → (earlier rows : List Row) → AreRows bounds earlier rows → AllByRecursion (IsFitContent bounds) (contents_of rows)
rows_contents bounds earlier [] fit = tt
rows_contents bounds earlier (row ∷ rows) fit =
    all_both (IsFitContent bounds) (content_of row.kind) (contents_of rows) (fit_contents bounds earlier row.kind fit.0.kind) (rows_contents bounds (earlier ++ row ∷ []) rows fit.1)

node_kept : (files : Files) (made : ℕ) → ((n : ℕ) → n < made → IsTrue (is_some (content_at files n))) → (standing : Node) → IsFitNode standing → IsBelow made standing → IsNode files standing
node_kept files made there (Dir owner) fits below = fits
node_kept files made there (File number) fits below = there number below
node_kept files made there (Link target) fits below = fits.0

nodes_kept : (files : Files) (made : ℕ) → ((n : ℕ) → n < made → IsTrue (is_some (content_at files n))) → (names : Names) → AllByRecursion (λ e. IsFitNode e.1) names → AreBelow made names → AllByRecursion (λ e. IsNode files e.1) names
nodes_kept files made there [] fits below = tt
nodes_kept files made there (e ∷ es) fits below = (node_kept files made there e.1 fits.0 below.0, nodes_kept files made there es fits.1 below.1)

fit_link : (standing : Node) → IsFitNode standing → IsTrue (link_fits standing)
fit_link (Link target) fits = fits.1
fit_link other fits = refl

-- each file that rows come with has a name

named_between : (number : ℕ) (xs : Names) (e : Place × Node) (ys : Names) → IsTrue (names_file number e.1) → 0 < times_named (xs ++ e ∷ ys) number
unfolding retain
named_between number xs e ys is =
    let test = λ (q : Place × Node). names_file number q.1 in
    let here : filter test (e ∷ ys) ≡ e ∷ filter test ys = ap (λ b. cond b (e ∷ filter test ys) (filter test ys)) is in
    omega (arith, ap length (filter-append test xs (e ∷ ys)), length-append (filter test xs) (filter test (e ∷ ys)), ap length here)

names_each : (root : Owner) (rows : List Row) (number : ℕ) → number < made_by rows → IsTrue (is_named (names_of root rows) number)
names_each root rows number below =
    let f = first_of_number rows number below in
    let here : IsTrue (names_file number (node_of f.at.front f.at.row.kind)) = subst (λ n. IsTrue (names_file n (node_of f.at.front f.at.row.kind))) f.number_is (first_names f.at.front f.at.row.kind f.at.first) in
    let many = named_between number (names_of root f.at.front) (entry_of f.at.front f.at.row) (entries_after (f.at.front ++ f.at.row ∷ []) f.at.rest) here in
    subst (λ (names : Names). IsTrue (is_named names number)) (sym (ap (names_of root) f.at.rows_are ∙ names_split root f.at.front (f.at.row ∷ f.at.rest))) (lt-ltb 0 (times_named (names_of root f.at.front ++ entries_after f.at.front (f.at.row ∷ f.at.rest)) number) many)

-- ---- the bytes of the files that rows come with

-- an entry more
abbrev pub then_naming : Option ℕ → Bool → ℕ → Option ℕ
then_naming (Some first) names entry = Some first
then_naming None true entry = Some entry
then_naming None false entry = None

naming_push : (number : ℕ) (front : Names) (e : Place × Node) → entry_naming number (front ++ e ∷ []) ≡ then_naming (entry_naming number front) (names_file number e.1) (length front)
naming_push number [] e = by (names_file number e.1)
  where
    by : (b : Bool) → (if b then Some 0 else option_map suc None) ≡ then_naming None b 0
    by true = refl
    by false = refl
naming_push number (x ∷ front) e =
    ap (λ (o : Option ℕ). if names_file number x.1 then Some 0 else option_map suc o) (naming_push number front e) ∙ by (names_file number x.1) (entry_naming number front) (names_file number e.1)
  where
    by : (b : Bool) (o : Option ℕ) (names : Bool) → (if b then Some 0 else option_map suc (then_naming o names (length front))) ≡ then_naming (if b then Some 0 else option_map suc o) names (suc (length front))
    by true o names = refl
    by false None true = refl
    by false o names = refl

-- whether no entry so far is a name of the file
abbrev unmet : Names → ℕ × Content → Bool
unmet earlier f = not (is_some (entry_naming f.0 earlier))

still-unmet : (earlier : Names) (e : Place × Node) (f : ℕ × Content) → unmet (earlier ++ e ∷ []) f ≡ true → unmet earlier f ≡ true
still-unmet earlier e f later = by (entry_naming f.0 earlier) (names_file f.0 e.1)
    (ap (λ (o : Option ℕ). not (is_some o)) (sym (naming_push f.0 earlier e)) ∙ later)
  where
    by : (o : Option ℕ) (b : Bool) → not (is_some (then_naming o b (length earlier))) ≡ true → not (is_some o) ≡ true
    by None b h = refl
    by (Some first) b h = h

-- fewer files have no more bytes
fewer-total : (p q : ℕ × Content → Bool) (files : Files) → ((f : ℕ × Content) → p f ≡ true → q f ≡ true) → total_of (retain files p) ≤ total_of (retain files q)
unfolding retain
fewer-total p q [] less = omega arith
fewer-total p q (f ∷ files) less = by (p f) (q f) (less f) (fewer-total p q files less)
  where
    by : (a b : Bool) → (a ≡ true → b ≡ true) → total_of (filter p files) ≤ total_of (filter q files)
        → total_of (cond a (f ∷ filter p files) (filter p files)) ≤ total_of (cond b (f ∷ filter q files) (filter q files))
    by true true less rest = omega (arith, rest)
    by true false less rest = absurd (let h : false ≡ true = less refl in cc)
    by false true less rest = omega (arith, rest)
    by false false less rest = rest

-- and without one that is among the others they have its bytes less
one-fewer : (p q : ℕ × Content → Bool) (files : Files) (number : ℕ) → ((f : ℕ × Content) → p f ≡ true → q f ≡ true)
    → ((content : Content) → p (number, content) ≡ false) → ((content : Content) → q (number, content) ≡ true)
    → total_of (retain files p) + length_of (content_at files number) ≤ total_of (retain files q)
unfolding retain get
one-fewer p q [] number less out was = omega arith
one-fewer p q (f ∷ files) number less out was =
    by (is_eq (nat_cmp number f.0)) refl (p f) refl (q f) refl (one-fewer p q files number less out was)
  where
    by : (here : Bool) → is_eq (nat_cmp number f.0) ≡ here → (a : Bool) → p f ≡ a → (b : Bool) → q f ≡ b
        → total_of (filter p files) + length_of (lookup (is_at (nat_cmp number)) files) ≤ total_of (filter q files)
        → total_of (cond a (f ∷ filter p files) (filter p files))
        + length_of (cond here (Some f.1) (lookup (is_at (nat_cmp number)) files))
        ≤ total_of (cond b (f ∷ filter q files) (filter q files))
    by true at a p-is b q-is rest =
        let same : number ≡ f.0 = nat_cmp-IsAntisymmetric number f.0 ((Equal-is (nat_cmp number f.0)).0 at) in
        let gone : a ≡ false = sym p-is ∙ ap (λ k. p (k, f.1)) (sym same) ∙ out f.1 in
        let there : b ≡ true = sym q-is ∙ ap (λ k. q (k, f.1)) (sym same) ∙ was f.1 in
        let few : total_of (filter p files) ≤ total_of (filter q files) = fewer-total p q files less in
        let front : total_of (cond a (f ∷ filter p files) (filter p files)) ≡ total_of (filter p files) =
        ap (λ c. total_of (cond c (f ∷ filter p files) (filter p files))) gone in
        let back : total_of (cond b (f ∷ filter q files) (filter q files)) ≡ length f.1.bytes + total_of (filter q files) =
        ap (λ c. total_of (cond c (f ∷ filter q files) (filter q files))) there in
        omega (arith, front, back, few)
    by false at true p-is true q-is rest = omega (arith, rest)
    by false at true p-is false q-is rest = absurd (let h : false ≡ true = sym q-is ∙ less f p-is in cc)
    by false at false p-is true q-is rest = omega (arith, rest)
    by false at false p-is false q-is rest = rest

-- the first name of a file comes with its bytes
named-length : (o : Option Content) → content_length (naming None o) ≡ length_of o
named-length None = refl
named-length (Some content) = refl

kind-length : (files : Files) (earlier : Names) (place : Place) (standing : Node)
    → content_length (kind_of files earlier standing) + total_of (retain files (unmet (earlier ++ (place, standing) ∷ [])))
    ≤ total_of (retain files (unmet earlier))
kind-length files earlier place (File number) = by (entry_naming number earlier) refl
  where
    few : total_of (retain files (unmet (earlier ++ (place, File number) ∷ []))) ≤ total_of (retain files (unmet earlier))
    few = fewer-total (unmet (earlier ++ (place, File number) ∷ [])) (unmet earlier) files (still-unmet earlier (place, File number))

    by : (o : Option ℕ) → entry_naming number earlier ≡ o
        → content_length (naming o (content_at files number)) + total_of (retain files (unmet (earlier ++ (place, File number) ∷ [])))
        ≤ total_of (retain files (unmet earlier))
    by (Some first) is = omega (arith, few)
    by None is =
        let met : entry_naming number (earlier ++ (place, File number) ∷ []) ≡ Some (length earlier) =
        naming_push number earlier (place, File number) ∙ (λ i. then_naming (is i) (eq-eqb number number refl i) (length earlier)) in
        let less = one-fewer (unmet (earlier ++ (place, File number) ∷ [])) (unmet earlier) files number
        (still-unmet earlier (place, File number)) (λ content. ap (λ (o : Option ℕ). not (is_some o)) met)
        (λ content. ap (λ (o : Option ℕ). not (is_some o)) is) in
        omega (arith, less, named-length (content_at files number))
kind-length files earlier place (Dir owner) =
    omega (arith, fewer-total (unmet (earlier ++ (place, Dir owner) ∷ [])) (unmet earlier) files (still-unmet earlier (place, Dir owner)))
kind-length files earlier place (Link target) =
    omega (arith, fewer-total (unmet (earlier ++ (place, Link target) ∷ [])) (unmet earlier) files (still-unmet earlier (place, Link target)))

met-total : (files : Files) (earlier names : Names) → contents_length (rows_after files earlier names) ≤ total_of (retain files (unmet earlier))
met-total files earlier [] = omega arith
met-total files earlier (([], standing) ∷ es) = omega (
  arith,
  fewer-total (unmet (earlier ++ ([], standing) ∷ [])) (unmet earlier) files (still-unmet earlier ([], standing)),
  met-total files (earlier ++ ([], standing) ∷ []) es,
)
met-total files earlier ((n ∷ ns, standing) ∷ es) =
    omega (arith, kind-length files earlier (n ∷ ns) standing, met-total files (earlier ++ (n ∷ ns, standing) ∷ []) es)

-- the rows of a tree come with no more bytes than its files have
rows-total : (files : Files) (names : Names) → contents_length (rows_after files [] names) ≤ total_of files
rows-total files names = omega (arith, met-total files [] names, total-retain files (unmet []))

-- ---- from a tree file to its tree

pub table_of_file : (bounds : TreeLimits) → (root : Owner) (rows : List Row) → IsOwner root → AreRows bounds [] rows → IsTable root (names_of root rows)
table_of_file bounds root rows fits fit = table_from_bare root (names_of root rows) (subst (IsTable root) (sym (names_bare root rows)) (table_of_rows bounds root rows fits fit))

pub kept_of_file : (file : TreeFile) → IsTreeFile file → IsKept (tree_of file)
kept_of_file file is =
    let names = names_of file.root file.rows in
    let contents = contents_of file.rows in
    let files = numbered_from 0 contents in
    let made = length contents in
    let rows = is.rows in
    let t = table_of_file file.limits file.root file.rows is.root rows in
    let fit = rows_contents file.limits [] file.rows rows in
    let home = text_place file.home is.home in
    let many : length names ≡ length file.rows + 1 = omega (arith, length-entries [] file.rows) in
    let there = λ (n : ℕ) (below : n < made). numbered_there 0 contents n (omega arith) (omega arith) in
    record {
      well_formed = record {
        ordered = t.ordered;
        named = each-weaker (λ (e : Place × Node). IsPlace e.0) (λ (e : Place × Node). IsTrue (are_names e.0)) (λ e p. p.0) names t.places;
        nodes = nodes_kept files made there names t.nodes (all_below file.limits file.root file.rows rows);
        root = rw t.root_is refl;
        parents = t.parents;
        numbered = numbered_order 0 contents;
        contents = each_content IsContent 0 contents (each-weaker (IsFitContent file.limits) IsContent (λ c f. (f.0, f.2)) contents fit);
        given = each_number (λ n. n < made) 0 contents (λ n above below. omega arith);
        pins = numbered_order 0 [];
        pinned = tt;
        limits = is.limits;
        home = home.0;
        uid = is.uid;
        gid = is.gid;
      };
      within_limits = limits_fit (tree_of file) (record {
        entries = omega (arith, many, is.count);
        depths = all-each (λ (e : Place × Node). depth_fits e.0) names (each-weaker (λ (e : Place × Node). IsPlace e.0) (λ (e : Place × Node). IsTrue (depth_fits e.0)) (λ e p. p.1) names t.places);
        home = home.1;
        links = all-each (λ (e : Place × Node). link_fits e.1) names (each-weaker (λ (e : Place × Node). IsFitNode e.1) (λ (e : Place × Node). IsTrue (link_fits e.1)) (λ e p. fit_link e.1 p) names t.nodes);
        files = all-each (λ (e : ℕ × Content). content_fits (limits (tree_of file)) e.1) files (each_content (λ c. IsTrue (content_fits (limits (tree_of file)) c)) 0 contents (each-weaker (IsFitContent file.limits) (λ c. IsTrue (content_fits (limits (tree_of file)) c)) (λ c f. le-leb (length c.bytes) file.limits.file_bytes f.1) contents fit));
        total = omega (arith, is.total, numbered_total 0 file.rows);
        numbers = omega (arith, made_few file.rows, is.count, is.limits.entries.1);
      });
      trimmed = each_number (λ n. IsTrue (is_named names n || is_pinned [] n)) 0 contents (λ n above below. or_left (is_named names n) (is_pinned [] n) (names_each file.root file.rows n (omega arith)));
    }

pub numbered_of_file : (file : TreeFile) → IsTreeFile file → IsTrue (is_numbered 0 (tree_of file).names (tree_of file).made)
numbered_of_file file is = rows_numbered file.limits [] file.rows is.rows

pub file_again : (file : TreeFile) → IsTreeFile file → timed_file_of (tree_of file) file.times ≡ file
file_again file is =
    let root : root_owner (node_at (names_of file.root file.rows) []) ≡ file.root = ap root_owner (root_at file.root (entries_after [] file.rows)) in
    let rows : rows_after (numbered_from 0 (contents_of file.rows)) (only_root file.root) (entries_after [] file.rows) ≡ file.rows =
    rows_again file.limits file.root (numbered_from 0 (contents_of file.rows)) [] file.rows tt is.rows (numbered_contents (contents_of file.rows)) in
    λ i. record { limits = file.limits; home = sym is.home.one i; uid = file.uid; gid = file.gid; root = root i; rows = rows i; times = file.times }

-- ---- from a tree to its file

-- the root and what is below it
pub record Split (t : Tree) : Type 0 where
  pub root : Owner
  pub entries : Names
  pub names_are : t.names ≡ only_root root ++ entries
  pub table : IsTable root (only_root root ++ entries)
  pub below : AllByRecursion IsBelowRoot entries
  pub nodes : AllByRecursion (λ e. IsNode t.files e.1) entries
  pub few : length entries ≤ t.limits.entries

split_by : (t : Tree) → Stands t → (root : Owner) (entries : Names) → t.names ≡ only_root root ++ entries → IsTable root (only_root root ++ entries) → Split t
split_by t kept root entries names_are table = record {
  root = root;
  entries = entries;
  names_are = names_are;
  table = table;
  below = all_together (λ (e : Place × Node). IsPlace e.0) (λ (e : Place × Node). 0 < length e.0) entries (all_right (λ (e : Place × Node). IsPlace e.0) (only_root root) entries table.places) (entries_below root entries table.ordered);
  nodes = all_right (λ (e : Place × Node). IsNode t.files e.1) (only_root root) entries (subst (λ (names : Names). AllByRecursion (λ e. IsNode t.files e.1) names) names_are kept.well_formed.nodes);
  few = omega (arith, ap length names_are, (limits_from t kept.within_limits).entries);
}

node_fits : (files : Files) (standing : Node) → IsNode files standing → IsTrue (link_fits standing) → IsFitNode standing
node_fits files (Dir owner) is fits = is
node_fits files (File number) is fits = tt
node_fits files (Link target) is fits = (is, fits)

nodes_fit : (files : Files) (names : Names) → AllByRecursion (λ e. IsNode files e.1) names → AllByRecursion (λ e. IsTrue (link_fits e.1)) names → AllByRecursion (λ e. IsFitNode e.1) names
nodes_fit files [] are fit = tt
nodes_fit files (e ∷ es) are fit = (node_fits files e.1 are.0 fit.0, nodes_fit files es are.1 fit.1)

table_of_tree : (t : Tree) → Stands t → (root : Owner) → node_at t.names [] ≡ Some (Dir root) → IsTable root t.names
table_of_tree t kept root root_is =
    let w = kept.well_formed in
    let l = limits_from t kept.within_limits in
    record {
      ordered = w.ordered;
      places = all_together (λ (e : Place × Node). IsTrue (are_names e.0)) (λ (e : Place × Node). IsTrue (depth_fits e.0)) t.names w.named (each-all (λ (e : Place × Node). depth_fits e.0) t.names l.depths);
      nodes = nodes_fit t.files t.names w.nodes (each-all (λ (e : Place × Node). link_fits e.1) t.names l.links);
      root_is = root_is;
      parents = w.parents;
    }

pub split_tree : (t : Tree) → Stands t → Split t
split_tree t kept =
    let f = root_first t.names kept.well_formed.ordered kept.well_formed.root in
    let table = table_of_tree t kept f.0 (ap (λ (n : Names). node_at n []) f.2 ∙ root_at f.0 f.1) in
    split_by t kept f.0 f.1 f.2 (subst (IsTable f.0) f.2 table)

pub root_of_split : (t : Tree) (s : Split t) → root_owner (node_at t.names []) ≡ s.root
root_of_split t s = ap (λ (n : Names). root_owner (node_at n [])) s.names_are ∙ ap root_owner s.table.root_is

content_fit : (bounds : TreeLimits) → (files : Files) → AllByRecursion (λ e. IsContent e.1) files → AllByRecursion (λ e. IsTrue (content_fits bounds e.1)) files → AllByRecursion (λ e. IsFitContent bounds e.1) files
content_fit bounds [] are fit = tt
content_fit bounds (e ∷ files) are fit = ((are.0.0, leb-true (length e.1.bytes) bounds.file_bytes fit.0, are.0.1), content_fit bounds files are.1 fit.1)

pub fit_files : (t : Tree) → Stands t → AllByRecursion (λ e. IsFitContent t.limits e.1) t.files
fit_files t kept =
    let fit = each-all (λ (e : ℕ × Content). content_fits (limits t) e.1) t.files (limits_from t kept.within_limits).files in
    content_fit t.limits t.files kept.well_formed.contents fit

rows_of_split : (t : Tree) → Stands t → (s : Split t) → AreRows t.limits [] (rows_after t.files (only_root s.root) s.entries)
rows_of_split t kept s =
    let rows = rows_after t.files (only_root s.root) s.entries in
    let table : IsTable s.root (bare_names s.root rows) =
    subst (IsTable s.root) (ap (λ (es : Names). only_root s.root ++ es) (sym (rows_bare t.files (only_root s.root) s.entries s.below))) (table_bare s.root (only_root s.root ++ s.entries) s.table) in
    let fit = all_right (λ (e : Place × Node). IsFitNode e.1) (only_root s.root) s.entries s.table.nodes in
    rows_of_table t.limits s.root [] rows table (entry_texts t.files (only_root s.root) s.entries s.below)
    (kinds_fit t.limits t.files s.root [] s.entries fit s.nodes (fit_files t kept) tt s.below (omega (arith, s.few, most-entries t kept)))

pub timed_file_of_tree : (t : Tree) → Stands t → (times : List Times) → AreFileTimes (file_of t).rows times → IsTreeFile (timed_file_of t times)
timed_file_of_tree t kept times are =
    let s = split_tree t kept in
    let l = limits_from t kept.within_limits in
    let rows : rows_after t.files [] t.names ≡ rows_after t.files (only_root s.root) s.entries = ap (rows_after t.files []) s.names_are in
    record {
      limits = kept.well_formed.limits;
      home = place_text t.home (kept.well_formed.home, l.home);
      uid = kept.well_formed.uid;
      gid = kept.well_formed.gid;
      count = omega (arith, ap length rows, length-rows t.files (only_root s.root) s.entries s.below, s.few);
      root = subst IsOwner (sym (root_of_split t s)) s.table.nodes.0;
      rows = subst (AreRows t.limits []) (sym rows) (rows_of_split t kept s);
      total = omega (arith, l.total, rows-total t.files t.names);
      times = are;
    }

pub file_of_tree : (t : Tree) → Stands t → IsTreeFile (file_of t)
file_of_tree t kept = timed_file_of_tree t kept [] tt

pub tree_again : (t : Tree) → Stands t → t.pins ≡ [] → IsTrue (is_numbered 0 t.names t.made) → tree_of (file_of t) ≡ t
tree_again t kept unpinned numbered =
    let s = split_tree t kept in
    let fit = rows_of_split t kept s in
    let rows : rows_after t.files [] t.names ≡ rows_after t.files (only_root s.root) s.entries = ap (rows_after t.files []) s.names_are in
    let a = entries_again t.limits s.root t.files [] (only_root s.root) s.entries t.made refl tt fit s.below s.nodes (subst (λ (names : Names). IsTrue (is_numbered 0 names t.made)) s.names_are numbered) in
    let names : names_of (root_owner (node_at t.names [])) (rows_after t.files [] t.names) ≡ t.names =
    (λ i. names_of (root_of_split t s i) (rows i)) ∙ ap (λ (es : Names). only_root s.root ++ es) a.entries_are ∙ sym s.names_are in
    let made : made_by (rows_after t.files [] t.names) ≡ t.made = ap made_by rows ∙ a.made_is in
    let files : numbered_from 0 (contents_of (rows_after t.files [] t.names)) ≡ t.files =
    ap (λ (rs : List Row). numbered_from 0 (contents_of rs)) rows
    ∙ numbered_again t.files (contents_of (rows_after t.files (only_root s.root) s.entries)) kept.well_formed.numbered (subst (λ n. AllByRecursion (λ e. e.0 < n) t.files) (sym a.made_is) kept.well_formed.given) a.contents in
    λ i. record { names = names i; files = files i; made = made i; pins = sym unpinned i; limits = t.limits; home = components-absolute t.home kept.well_formed.home i; uid = t.uid; gid = t.gid }

-- ---- the blank tree

pub blank_kept : IsKept blank
blank_kept =
    let t = root_table (record { uid = 0; gid = 0; permissions = 0o755 }) (omega arith, omega arith, omega arith) in
    record {
      well_formed = record {
        ordered = t.ordered;
        named = (refl, tt);
        nodes = (t.nodes.0, tt);
        root = rw t.root_is refl;
        parents = t.parents;
        numbered = numbered_order 0 [];
        contents = tt;
        given = tt;
        pins = numbered_order 0 [];
        pinned = tt;
        limits = raised_are usual_limits usual_are;
        home = refl;
        uid = omega arith;
        gid = omega arith;
      };
      within_limits = limits_fit blank (record { entries = omega arith; depths = refl; home = refl; links = refl; files = refl; total = omega arith; numbers = omega arith });
      trimmed = tt;
    }

-- ---- starts

pub stands_of_start : (t : Tree) (bytes : List ℕ) → IsStart t bytes → Stands t
stands_of_start t bytes start = record { well_formed = start.well_formed; within_limits = start.within_limits }

pub spelled_of_start : (t : Tree) (bytes : List ℕ) (start : IsStart t bytes) → IsSpelled (timed_file_of t start.picture_is.times) bytes
spelled_of_start t bytes start = record {
  may_be = timed_file_of_tree t (stands_of_start t bytes start) start.picture_is.times start.picture_is.are;
  bytes_are = start.picture_is.bytes_are;
}

-- without times they are the picture
pub plain_of_start : (t : Tree) (bytes : List ℕ) (start : IsStart t bytes) → start.picture_is.times ≡ [] → bytes ≡ picture t
unfolding picture
plain_of_start t bytes start none =
    start.picture_is.bytes_are ∙ ap (λ (times : List Times). spelled (timed_file_of t times)) none

pub start_of_spelled : (file : TreeFile) (bytes : List ℕ) → IsSpelled file bytes → IsStart (tree_of file) bytes
start_of_spelled file bytes is =
    let kept = kept_of_file file is.may_be in
    let again = file_again file is.may_be in
    record {
      well_formed = kept.well_formed;
      within_limits = kept.within_limits;
      trimmed = kept.trimmed;
      unpinned = refl;
      numbered = numbered_of_file file is.may_be;
      picture_is = record {
        times = file.times;
        are = subst (λ (rows : List Row). AreFileTimes rows file.times) (sym (ap (λ (f : TreeFile). f.rows) again)) is.may_be.times;
        bytes_are = is.bytes_are ∙ ap spelled (sym again);
      };
    }

-- the tree file of a tree is that of the tree whose files are numbered anew
pub start_of_picture : (t : Tree) → WellFormed t → IsTrue (fits t) → IsStart (tree_of (file_of t)) (picture t)
unfolding picture
start_of_picture t well within =
    start_of_spelled (file_of t) (picture t) (record { may_be = file_of_tree t (record { well_formed = well; within_limits = within }); bytes_are = refl })

-- bytes are the tree file of one tree
pub one_start : (t u : Tree) (bytes : List ℕ) → IsStart t bytes → IsStart u bytes → t ≡ u
one_start t u bytes t-start u-start =
    sym (tree_again t (stands_of_start t bytes t-start) t-start.unpinned t-start.numbered)
    ∙ ap tree_of (one_file (timed_file_of t t-start.picture_is.times) (timed_file_of u u-start.picture_is.times) bytes (spelled_of_start t bytes t-start) (spelled_of_start u bytes u-start))
    ∙ tree_again u (stands_of_start u bytes u-start) u-start.unpinned u-start.numbered

-- ==== A tree file is written entry by entry.

-- ---- lengths

pub path_short : (place : Place) → IsPlace place → length (absolute place) < 2 ^ 32
path_short place is = path_length (absolute place) (place_text place is)

pub node_short : (t : Tree) → IsKept t → (standing : Node) → IsFitNode standing → IsShort t.files standing
node_short t kept (Dir owner) fits = tt
node_short t kept (File number) fits = tt
node_short t kept (Link target) fits = target_length target (fits.1, fits.0)

-- ---- one entry more

-- what is known of an entry below the root
pub record Entry (t : Tree) (i : ℕ) (e : Place × Node) : Type 0 where
  pub below : IsBelowRoot e
  pub node : IsFitNode e.1
  pub within : i < length t.names
  pub few : length t.names ≤ most_limits.entries + 1

-- ---- the first names that were met

abbrev pub AreFirsts : Firsts → Names → Type 0
AreFirsts firsts names = (number : ℕ) → get nat_cmp firsts number ≡ entry_naming number names

then_same : (o : Option ℕ) (b : Bool) (entry : ℕ) → b ≡ false → o ≡ then_naming o b entry
then_same None true entry is = absurd cc
then_same o b entry is = refl

first_met : (firsts : Firsts) (entry number k : ℕ) (o : Option ℕ) → get nat_cmp firsts number ≡ o → get nat_cmp (with_first firsts entry number o) k ≡ then_naming (get nat_cmp firsts k) (number == k) entry
first_met firsts entry number k (Some first) is = by (number == k) refl
  where
    by : (b : Bool) → (number == k) ≡ b → get nat_cmp firsts k ≡ then_naming (get nat_cmp firsts k) b entry
    by false other = then_same (get nat_cmp firsts k) false entry refl
    by true same =
        let found : get nat_cmp firsts k ≡ Some first = ap (get nat_cmp firsts) (sym (eqb-true number k same)) ∙ is in
        found ∙ ap (λ (o : Option ℕ). then_naming o true entry) (sym found)
first_met firsts entry number k None is = get-put nat_cmp nat_cmp_total firsts number entry k ∙ by (k == number) (number == k) (number_is k number) refl refl
  where
    by : (a b : Bool) → is_eq (nat_cmp k number) ≡ a → (k == number) ≡ a → (number == k) ≡ b → cond (is_eq (nat_cmp k number)) (Some entry) (get nat_cmp firsts k) ≡ then_naming (get nat_cmp firsts k) b entry
    by true true at same again =
        let none : get nat_cmp firsts k ≡ None = ap (get nat_cmp firsts) (eqb-true k number same) ∙ is in
        (λ i. cond (at i) (Some entry) (get nat_cmp firsts k)) ∙ ap (λ (o : Option ℕ). then_naming o true entry) (sym none)
    by false false at same again = (λ i. cond (at i) (Some entry) (get nat_cmp firsts k)) ∙ then_same (get nat_cmp firsts k) false entry refl
    by true false at same again = absurd (let t : true ≡ false = sym (eq-eqb number k (sym (eqb-true k number same))) ∙ again in cc)
    by false true at same again = absurd (let t : true ≡ false = sym (eq-eqb k number (sym (eqb-true number k again))) ∙ same in cc)

node_met : (firsts : Firsts) (entry : ℕ) (standing : Node) (k : ℕ) → get nat_cmp (firsts_with firsts entry standing) k ≡ then_naming (get nat_cmp firsts k) (names_file k standing) entry
node_met firsts entry (File number) k = first_met firsts entry number k (get nat_cmp firsts number) refl
node_met firsts entry other k = then_same (get nat_cmp firsts k) false entry refl

pub firsts_push : (firsts : Firsts) (front : Names) (e : Place × Node) → AreFirsts firsts front → AreFirsts (firsts_with firsts (length front) e.1) (front ++ e ∷ [])
firsts_push firsts front e are = λ k. node_met firsts (length front) e.1 k ∙ ap (λ (o : Option ℕ). then_naming o (names_file k e.1) (length front)) (are k) ∙ sym (naming_push k front e)

pub known : (files : Files) (firsts : Firsts) (front : Names) (standing : Node) → AreFirsts firsts front → known_kind files firsts standing ≡ kind_of files front standing
known files firsts front (File number) are = ap (λ (o : Option ℕ). naming o (content_at files number)) (are number)
known files firsts front other are = refl

-- ---- the head

-- the root is one of the places
pub names_count : (t : Tree) → IsKept t → (1 ≤ length t.names) × (length t.names ≤ most_limits.entries + 1)
names_count t kept =
    let s = split_tree t (stands-of t kept) in
    (omega (arith, ap length s.names_are), omega (arith, ap length s.names_are, s.few, most-entries t (stands-of t kept)))

pub home_short : (t : Tree) → IsKept t → length (absolute t.home) < 2 ^ 32
home_short t kept = path_short t.home (kept.well_formed.home, (limits_from t kept.within_limits).home)

pub picture_written : (t : Tree) → IsKept t → (times : List Times)
    → spelled (timed_file_of t times) ≡ head_bytes (head_of t times) ++ flat_map entry_text (timed_entries t times)
unfolding entries_of
picture_written t kept times =
    let s = split_tree t (stands-of t kept) in
    let count : length (rows_after t.files [] t.names) ≡ length t.names - 1 =
    omega (arith, ap length (ap (rows_after t.files []) s.names_are), length-rows t.files (only_root s.root) s.entries s.below, ap length s.names_are) in
    spelled_parts (timed_file_of t times)
    ∙ ap (λ n. head_bytes (record { opening = opening_with (any_times times) t.limits; limits = t.limits; home = absolute t.home; uid = t.uid; gid = t.gid; count = n; root = root_owner (node_at t.names []); root_times = times_of_root times }) ++ flat_map entry_text (timed_entries t times)) count

-- a file that has times says so at once
pub some_times : (rows : List Row) (times : List Times) → AreFileTimes rows times → any_times times ≡ not (length times == 0)
some_times rows [] are = refl
some_times rows (t ∷ times) are = are.2 ∙ sym (ap not (eqb-suc-zero (length times)))
