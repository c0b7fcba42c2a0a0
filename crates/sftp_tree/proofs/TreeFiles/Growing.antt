-- The entries of a tree file come in order, so that each has its place in a directory that is open.
use Rattle.sftp_tree.proofs.Imports.{◌≡◌, ℕ, ◌+◌, ◌-◌, ◌<◌, Bool, true, false, if◌then◌else◌, List, [], ◌∷◌, ◌++◌}
use Rattle.sftp_tree.proofs.Imports.{length, take, drop, refl, sym, ap, subst, ◌∙◌, append_assoc, arith, inl, inr}
use Rattle.sftp_tree.proofs.Imports.{◌≤◌, length-take-le, IsTrue, AllByRecursion, keys_of, Less, and_parts, cases_lt}
use Rattle.sftp_tree.proofs.Imports.{false≢true, take-append-add, Name, Place, place_cmp, parent, begins, is_name}
use Rattle.sftp_tree.proofs.Imports.{are_names, InOrder, put, place_cmp-total, begins-front, begins-append, Kind}
use Rattle.sftp_tree.proofs.Imports.{Owner, Row, TreeLimits, place_of, is_dir, IsOwner, IsNext, AreRows, IsLast, Node}
use Rattle.sftp_tree.proofs.Imports.{Names, with_node, open_after, names_of, known_node, codes, hex, components}
use Rattle.sftp_tree.proofs.Imports.{parts, is_good_path, get, TreeFile, usual_limits, blank_bytes, raised_bytes}
use Rattle.sftp_tree.proofs.Imports.{has_dir, spelled, IsPlaceText, IsTreeFile, IsSpelled, usual_are, IsKept, raised}
use Rattle.sftp_tree.proofs.Imports.{IsStart, picture, blank, user_owner, linked, two_names, two_names_bytes}
use Rattle.sftp_treefile.specs.declared.files.Kind.TheVariants as kinds
use Rattle.sftp_treefile.proofs.Order.{no_last, last_more, begins_last, begun_whole}
use Rattle.sftp_treefile.proofs.Texts.Heads.{follows_next}
use Rattle.sftp_tree.proofs.Nesting.{front_open}
use Rattle.sftp_tree.proofs.PlaceTables.{insert_last}
use Rattle.sftp_tree.proofs.TreeFiles.Files.{table_of_file, blank_kept, kept_of_file, start_of_spelled}
use Rattle.sftp_tree.proofs.TreeFiles.Stores.{keys_before}
use Rattle.sftp_treefile.specs.TreeFile.{are_own, are_far, spelled_after}
use Rattle.sftp_tree.proofs.Imports.{raised_are}
use Rattle.sftp_tree.proofs.KeptTrees.Counts.{raised-start}

-- ---- the entries are put after all others

pub entries_order : (bounds : TreeLimits) → (root : Owner) (rows : List Row) (names : Names) → IsOwner root → AreRows bounds [] rows
    → names ≡ names_of root rows → InOrder place_cmp names
entries_order bounds root rows names fits fit names-are =
    subst (InOrder place_cmp) (sym names-are) (table_of_file bounds root rows fits fit).ordered

pub entry_later : (bounds : TreeLimits) → (root : Owner) (rows : List Row) (row : Row) (names : Names) (place : Place)
    → IsNext bounds rows row → names ≡ names_of root rows → place ≡ place_of row.path
    → AllByRecursion (λ other. place_cmp other place ≡ Less) (keys_of names)
entry_later bounds root rows row names place next names-are place-is =
    subst (λ (p : Place). AllByRecursion (λ other. place_cmp other p ≡ Less) (keys_of names)) (sym place-is)
    (subst (λ (ns : Names). AllByRecursion (λ other. place_cmp other (place_of row.path) ≡ Less) (keys_of ns))
    (sym names-are) (keys_before bounds root rows row next))

-- which is what putting them is
pub put_last : (names new : Names) (place : Place) (node : Node)
    → AllByRecursion (λ other. place_cmp other place ≡ Less) (keys_of names)
    → new ≡ names ++ (place, node) ∷ [] → new ≡ with_node names place node
unfolding put
put_last names new place node later is = is ∙ sym (insert_last place_cmp-total names place node later)

-- ---- the directory that is open

-- the last entry, or where it is
pub record IsOpen (rows : List Row) (place : Place) : Type 0 where
  pub last : Place
  pub last_is : Bool
  pub fits : IsLast rows last last_is
  pub place_is : place ≡ (if last_is then last else parent last)

pub open_root : (place : Place) → place ≡ [] → IsOpen [] place
open_root place is = record { last = []; last_is = true; fits = no_last; place_is = is }

behind_known : (numbers : List ℕ) (next : ℕ) (kind : Kind) (place : Place)
    → open_after place (known_node numbers next kind) ≡ (if is_dir kind then place else parent place)
behind_known numbers next (kinds.Dir owner) place = refl
behind_known numbers next (kinds.First owner bytes) place = refl
behind_known numbers next (kinds.Further number) place = refl
behind_known numbers next (kinds.Link target) place = refl

pub open_more : (bounds : TreeLimits) → (rows : List Row) (row : Row) (numbers : List ℕ) (next : ℕ) (place old new : Place) (node : Node)
    → IsOpen rows old → IsNext bounds rows row → place ≡ place_of row.path
    → node ≡ known_node numbers next row.kind → new ≡ open_after place node → IsOpen (rows ++ row ∷ []) new
open_more bounds rows row numbers next place old new node was is-next place-is node-is new-is = record {
  last = place_of row.path;
  last_is = is_dir row.kind;
  fits = last_more rows was.last was.last_is row was.fits (follows_next bounds rows row is-next);
  place_is = new-is ∙ (λ i. open_after (place-is i) (node-is i))
      ∙ behind_known numbers next row.kind (place_of row.path);
}

-- what begins a place, and is not the whole of it, begins its parent
begins_parent : (top last : Place) → begins top last ≡ true → length top < length last → begins top (parent last) ≡ true
begins_parent top last begun shorter =
    let rest = drop (length top) last in
    let whole : last ≡ top ++ rest = begins-front top last begun in
    let more = length last - 1 - length top in
    let count : length last - 1 ≡ length top + more = omega (arith, shorter) in
    let front : parent last ≡ top ++ take more rest = (λ i. take (count i) (whole i)) ∙ take-append-add top rest more in
    ap (begins top) front ∙ begins-append top (take more rest)

begins_by : (bounds : TreeLimits) → (rows : List Row) (last : Place) (last_is : Bool) (fits : IsLast rows last last_is) (row : Row)
    → IsNext bounds rows row → begins (parent (place_of row.path)) (if last_is then last else parent last) ≡ true
begins_by bounds rows last true fits row next =
    begins_last rows last true fits (place_of row.path) next.below_root next.later next.parent
begins_by bounds rows last false fits row next =
    let place = place_of row.path in
    let begun = begins_last rows last false fits place next.below_root next.later next.parent in
    elim (cases_lt (length (parent place)) (length last)) [
      | inl shorter ↦ begins_parent (parent place) last begun shorter
      | inr longer ↦
          let none = begun_whole rows last false fits place next.below_root next.later begun (omega (arith, longer)) in
          absurd (false≢true (sym none ∙ next.parent))
    ]

pub open_begins : (bounds : TreeLimits) → (root : Owner) (rows : List Row) (row : Row) (place above : Place) → IsOpen rows above
    → IsNext bounds rows row → place ≡ place_of row.path → IsTrue (begins (parent place) above)
open_begins bounds root rows row place above is next place-is =
    (λ i. begins (parent (place-is i)) (is.place_is i)) ∙ begins_by bounds rows is.last is.last_is is.fits row next

-- ---- the last name of a text

-- so many names before the last one, one name more
pub names_step : (n : ℕ) (whole : Place) (last name : Name) (left : Place) → take n whole ++ last ∷ name ∷ left ≡ whole
    → n + 1 + length (name ∷ left) ≡ length whole → take (n + 1) whole ++ name ∷ left ≡ whole
names_step n whole last name left is count =
    let front = take n whole in
    let many : length front ≡ n = length-take-le n whole (omega (arith, count)) in
    let more : n + 1 ≡ length front + 1 = omega (arith, many) in
    let first : take (n + 1) whole ≡ front ++ last ∷ [] =
    (λ i. take (more i) (sym is i)) ∙ take-append-add front (last ∷ name ∷ left) 1 in
    ap (λ (ns : Place). ns ++ name ∷ left) first ∙ append_assoc front (last ∷ []) (name ∷ left) ∙ is

pub last_named : (front : Place) (name : Name) (whole : Place) → front ++ name ∷ [] ≡ whole → IsTrue (are_names whole)
    → IsTrue (is_name name)
last_named front name whole is named = by front (subst (λ (p : Place). IsTrue (are_names p)) (sym is) named)
  where
    by : (ns : Place) → IsTrue (are_names (ns ++ name ∷ [])) → IsTrue (is_name name)
    by [] h = (and_parts (is_name name) true h).0
    by (n ∷ ns) h = by ns (and_parts (is_name n) (are_names (ns ++ name ∷ [])) h).1

-- the directory of the next entry is open
pub record HasRoom (open-place place : Place) (depth : ℕ) (name : Name) : Type 0 where
  pub depth_fits : depth ≤ length open-place
  pub place_is : take depth open-place ++ name ∷ [] ≡ place

pub room_for : (bounds : TreeLimits) → (root : Owner) (rows : List Row) (row : Row) (above : Place) (depth : ℕ) (name : Name) (text : List ℕ)
    → IsOpen rows above → IsNext bounds rows row → text ≡ row.path
    → take depth (place_of text) ++ name ∷ [] ≡ place_of text → depth + 1 ≡ length (place_of text)
    → HasRoom above (place_of row.path) depth name
room_for bounds root rows row above depth name text is next text-is whole count =
    let place = place_of row.path in
    let front = take depth place in
    let here : front ++ name ∷ [] ≡ place =
    subst (λ (t : List ℕ). take depth (place_of t) ++ name ∷ [] ≡ place_of t) text-is whole in
    let many : length front ≡ depth =
    length-take-le depth place (omega (arith, count, ap length (ap place_of text-is))) in
    let f = front_open place front above name (sym here) (open_begins bounds root rows row place above is next refl) in
    let same : take depth above ≡ front = ap (λ n. take n above) (sym many) ∙ f.1 in
    record {
      depth_fits = omega (arith, many, f.0);
      place_is = ap (λ (p : Place). p ++ name ∷ []) same ∙ here;
    }

-- ==== Worked trees are such that the program may have.

-- ---- the root alone

pub blank_picture : picture blank ≡ blank_bytes
unfolding picture spelled spelled_after are_own are_far get hex
blank_picture = refl

pub blank_start : IsStart blank blank_bytes
unfolding spelled picture
blank_start = record {
  well_formed = blank_kept.well_formed;
  within_limits = blank_kept.within_limits;
  trimmed = blank_kept.trimmed;
  unpinned = refl;
  numbered = refl;
  picture_is = record { times = []; are = tt; bytes_are = sym blank_picture };
}

pub raised_length : length raised_bytes ≡ 53
unfolding hex
raised_length = refl

pub raised_picture : picture (raised blank) ≡ raised_bytes
unfolding picture spelled spelled_after are_own are_far get hex
raised_picture = refl

pub raised_blank : IsStart (raised blank) raised_bytes
raised_blank = subst (IsStart (raised blank)) raised_picture (raised-start blank blank_bytes blank_start)

-- ---- a directory and a link

linked_file : TreeFile
linked_file = record {
  limits = usual_limits;
  home = codes "/d";
  uid = 1000;
  gid = 100;
  root = record { uid = 0; gid = 5; permissions = 0o755 };
  rows = record { path = codes "/d"; kind = kinds.Dir user_owner } ∷ record { path = codes "/l"; kind = kinds.Link (codes "d") } ∷ [];
  times = [];
}

text_d : IsPlaceText (codes "/d")
unfolding components parts
text_d = record { names = refl; depth = omega arith; one = refl }

text_l : IsPlaceText (codes "/l")
unfolding components parts
text_l = record { names = refl; depth = omega arith; one = refl }

may_be : IsTreeFile linked_file
unfolding linked_file components parts has_dir is_good_path
may_be = record {
  limits = raised_are usual_limits usual_are;
  home = text_d;
  uid = omega arith;
  gid = omega arith;
  count = omega arith;
  root = (omega arith, omega arith, omega arith);
  rows = (
    record { path = text_d; below_root = omega arith; later = tt; parent = refl; kind = (omega arith, omega arith, omega arith) },
    (record { path = text_l; below_root = omega arith; later = (refl, tt); parent = refl; kind = (refl, refl) }, tt),
  );
  total = omega arith;
  times = tt;
}

pub linked_kept : IsKept linked
unfolding linked_file components parts
linked_kept = kept_of_file linked_file may_be

-- ---- a file of two names

two_names_file : TreeFile
two_names_file = record {
  limits = usual_limits;
  home = codes "/";
  uid = 0;
  gid = 0;
  root = record { uid = 0; gid = 0; permissions = 0o755 };
  rows = record { path = codes "/f"; kind = kinds.First (record { uid = 0; gid = 0; permissions = 0o644 }) (codes "abc") } ∷ record { path = codes "/g"; kind = kinds.Further 1 } ∷ [];
  times = [];
}

text_root : IsPlaceText (codes "/")
unfolding components parts
text_root = record { names = refl; depth = omega arith; one = refl }

text_f : IsPlaceText (codes "/f")
unfolding components parts
text_f = record { names = refl; depth = omega arith; one = refl }

text_g : IsPlaceText (codes "/g")
unfolding components parts
text_g = record { names = refl; depth = omega arith; one = refl }

two_names_may_be : IsTreeFile two_names_file
unfolding two_names_file components parts has_dir
two_names_may_be = record {
  limits = raised_are usual_limits usual_are;
  home = text_root;
  uid = omega arith;
  gid = omega arith;
  count = omega arith;
  root = (omega arith, omega arith, omega arith);
  rows = (
    record { path = text_f; below_root = omega arith; later = tt; parent = refl; kind = ((omega arith, omega arith, omega arith), omega arith, refl) },
    (record { path = text_g; below_root = omega arith; later = (refl, tt); parent = refl; kind = (omega arith, refl) }, tt),
  );
  total = omega arith;
  times = tt;
}

two_names_spelled : IsSpelled two_names_file two_names_bytes
unfolding two_names_file spelled spelled_after are_own are_far hex
two_names_spelled = record { may_be = two_names_may_be; bytes_are = refl }

pub two_names_start : IsStart two_names two_names_bytes
unfolding two_names_file components parts
two_names_start = start_of_spelled two_names_file two_names_bytes two_names_spelled
