-- The entries of directories are written branch by branch.
use Rattle.sftp_tree.proofs.Imports.{◌≡◌, ℕ, suc, ◌+◌, ◌<◌, ◌≤◌, ◌^◌, List, [], ◌∷◌, ◌++◌, length, take, drop, Some}
use Rattle.std.specs.Prelude.{Option}
use Rattle.std.specs.Io.KnownBytes.{Appends}
use Rattle.std.proofs.KnownBytes.{Appends-nil}
use Rattle.sftp_streams.specs.Streams.{AppendsPart}
use Rattle.sftp_streams.proofs.Buffers.{Appends-then, AppendsPart-first, AppendsPart-then}
use Rattle.sftp_tree.proofs.Imports.{refl, sym, ap, subst, ◌∙◌, append_assoc, append-nil, arith, flat_map-append}
use Rattle.sftp_tree.proofs.Imports.{length-append, take-append_seam, flat_map, AllByRecursion, nat_cmp, IsTrue, Name}
use Rattle.sftp_tree.proofs.Imports.{Place, place_cmp, absolute, InOrder, get, get-empty, Owner, Row, Child, Node, zero}
use Rattle.sftp_treefile.specs.declared.times.Times.{Times}
use Rattle.sftp_treefile.specs.TreeFile.{entry_text, times_at, times_of_root, times_of_rows}
use Rattle.sftp_treefile.specs.TreeFileParts.{paired}
use Rattle.sftp_tree.specs.PictureParts.{entries_from, timed_entries}
use Rattle.sftp_tree.proofs.Imports.{Dir, Names, Files, Tree, IsKept, node_at, is_directory, Children, branch, placed}
use Rattle.sftp_tree.proofs.Imports.{flat, IsBranch, AreBranches, rows_after, only_root, Firsts, firsts_with}
use Rattle.sftp_tree.proofs.Imports.{known_kind, text_of, rows_from, firsts_from, AreWritable}
use Rattle.sftp_treefile.specs.declared.files.Kind.{Kind}
use Rattle.sftp_treefile.specs.declared.files.Kind.TheVariants as kinds
use Rattle.sftp_tree.specs.declared.entries.directories.Child.TheVariants as children
use Rattle.sftp_tree.specs.declared.pictures.progress.Progress.{Progress}
use Rattle.sftp_tree.proofs.Limits.{stands-of}
use Rattle.sftp_tree.proofs.PlaceTables.{all_left, all_right}
use Rattle.sftp_tree.proofs.TreeFiles.Files.{split_tree}
use Rattle.sftp_tree.proofs.TreeFiles.Numbers.{rows_cons, IsBelowRoot}
use Rattle.sftp_tree.proofs.TreeFiles.{IsFitNode, root_first, root_at}
use Rattle.sftp_tree.proofs.TreeFiles.Files.{AreFirsts, firsts_push, known, path_short, node_short, names_count}

-- ---- one table after another

-- the entry of this number, with its times
abbrev entry_here : Files → List Times → Firsts → ℕ → List ℕ → Node → Row × Times
entry_here files times firsts next path standing =
    (record { path = path; kind = known_kind files firsts standing }, times_at times next)

pub entries_both : (files : Files) (times : List Times) (firsts : Firsts) (next : ℕ) (text : List ℕ) (xs ys : Names)
    → entries_from files times firsts next text (xs ++ ys)
    ≡ entries_from files times firsts next text xs
    ++ entries_from files times (firsts_from firsts next xs) (next + length xs) text ys
entries_both files times firsts next text [] ys =
    let same : next ≡ next + 0 = omega arith in ap (λ n. entries_from files times firsts n text ys) same
entries_both files times firsts next text (e ∷ xs) ys =
    let entry : Row × Times = entry_here files times firsts next (text ++ text_of e.0) e.1 in
    let more = firsts_with firsts next e.1 in
    let front = entries_from files times more (suc next) text xs in
    let count : suc next + length xs ≡ next + length (e ∷ xs) = omega arith in
    ap (λ (es : List (Row × Times)). entry ∷ es) (entries_both files times more (suc next) text xs ys
    ∙ ap (λ n. front ++ entries_from files times (firsts_from more (suc next) xs) n text ys) count)

pub firsts_both : (firsts : Firsts) (next : ℕ) (xs ys : Names)
    → firsts_from firsts next (xs ++ ys) ≡ firsts_from (firsts_from firsts next xs) (next + length xs) ys
firsts_both firsts next [] ys = let same : next ≡ next + 0 = omega arith in ap (λ n. firsts_from firsts n ys) same
firsts_both firsts next (e ∷ xs) ys =
    let more = firsts_with firsts next e.1 in
    let count : suc next + length xs ≡ next + length (e ∷ xs) = omega arith in
    firsts_both more (suc next) xs ys ∙ ap (λ n. firsts_from (firsts_from more (suc next) xs) n ys) count

-- ---- one name further down

pub length-placed : (name : Name) (es : Names) → length (placed name es) ≡ length es
length-placed name [] = refl
length-placed name (e ∷ es) = ap suc (length-placed name es)

pub further : (text : List ℕ) (name : Name) (place : Place)
    → text ++ text_of (name ∷ place) ≡ (text ++ 47 ∷ name) ++ text_of place
further text name place = sym (append_assoc text (47 ∷ name) (text_of place))

pub entries_placed : (files : Files) (times : List Times) (firsts : Firsts) (next : ℕ) (text : List ℕ) (name : Name)
    (es : Names)
    → entries_from files times firsts next text (placed name es)
    ≡ entries_from files times firsts next (text ++ 47 ∷ name) es
entries_placed files times firsts next text name [] = refl
entries_placed files times firsts next text name (e ∷ es) =
    let rest = entries_placed files times (firsts_with firsts next e.1) (suc next) text name es in
    λ i. entry_here files times firsts next (further text name e.0 i) e.1 ∷ rest i

pub firsts_placed : (firsts : Firsts) (next : ℕ) (name : Name) (es : Names)
    → firsts_from firsts next (placed name es) ≡ firsts_from firsts next es
firsts_placed firsts next name [] = refl
firsts_placed firsts next name (e ∷ es) = firsts_placed (firsts_with firsts next e.1) (suc next) name es

pub writable_placed : (files : Files) (text : List ℕ) (name : Name) (es : Names)
    → AreWritable files text (placed name es) → AreWritable files (text ++ 47 ∷ name) es
writable_placed files text name [] fit = tt
writable_placed files text name (e ∷ es) fit =
    let short = subst (λ (path : List ℕ). length path < 2 ^ 32) (further text name e.0) fit.0.0 in
    ((short, fit.0.1), writable_placed files text name es fit.1)

-- ---- a branch that is written

-- where the writing stands
pub record At : Type 0 where
  pub text : List ℕ
  pub next : ℕ
  pub firsts : Firsts
  pub out : Option (List ℕ)

abbrev pub state_of : Progress → Option (List ℕ) → At
state_of at out = record { text = at.path.items; next = at.next; firsts = at.firsts.entries; out = out }

-- the bytes of these entries, which are written from there on, by places that start at the place of the text
abbrev pub entries_text : Files → List Times → At → Names → List ℕ
entries_text files times at es = flat_map entry_text (entries_from files times at.firsts at.next at.text es)

-- these entries were written
pub record IsWritten (files : Files) (times : List Times) (es : Names) (before after : At) : Type 0 where
  pub out : Appends before.out after.out (entries_text files times before es)
  pub path : after.text ≡ before.text
  pub next : after.next ≡ before.next + length es
  pub firsts : after.firsts ≡ firsts_from before.firsts before.next es

-- of a whole, these entries are left
pub record IsLeft (files : Files) (times : List Times) (whole : Names) (start at : At) (rest : Names) : Type 0 where
  pub done : List ℕ
  pub out : Appends start.out at.out done
  pub bytes : entries_text files times start whole ≡ done ++ entries_text files times at rest
  pub path : at.text ≡ start.text
  pub next : at.next + length rest ≡ start.next + length whole
  pub firsts : firsts_from at.firsts at.next rest ≡ firsts_from start.firsts start.next whole
  pub writable : AreWritable files at.text rest

-- at first all are left
pub none_written : (files : Files) (times : List Times) (whole : Names) (at : At) (rest : Names) → rest ≡ whole
    → AreWritable files at.text whole → IsLeft files times whole at at rest
none_written files times whole at rest all fit = record {
  done = [];
  out = Appends-nil at.out;
  bytes = ap (entries_text files times at) (sym all);
  path = refl;
  next = ap (λ (ns : Names). at.next + length ns) all;
  firsts = ap (firsts_from at.firsts at.next) all;
  writable = subst (AreWritable files at.text) (sym all) fit;
}

-- one name further down the same is written
written_placed : (files : Files) (times : List Times) (es : Names) (name : Name) (at inside after : At)
    → inside ≡ record at { text = at.text ++ 47 ∷ name } → IsWritten files times es inside after
    → IsWritten files times (placed name es) at (record after { text = take (length at.text) after.text })
written_placed files times es name at inside after entered written =
    let w = subst (λ (s : At). IsWritten files times es s after) entered written in
    let rows = sym (entries_placed files times at.firsts at.next at.text name es) in
    record {
      out = subst (Appends at.out after.out) (ap (flat_map entry_text) rows) w.out;
      path = ap (take (length at.text)) w.path ∙ take-append_seam at.text (47 ∷ name);
      next = omega (arith, w.next, length-placed name es);
      firsts = w.firsts ∙ sym (firsts_placed at.firsts at.next name es);
    }

-- and of what is left the first entries
left_both : (files : Files) (times : List Times) (whole : Names) (start at after : At) (es rest : Names)
    → IsLeft files times whole start at (es ++ rest) → IsWritten files times es at after → IsLeft files times whole start after rest
left_both files times whole start at after es rest left w =
    let firsts = firsts_from at.firsts at.next es in
    let next = at.next + length es in
    let here = entries_from files times at.firsts at.next at.text es in
    let behind = entries_from files times firsts next at.text rest in
    let bytes : flat_map entry_text (entries_from files times at.firsts at.next at.text (es ++ rest))
    ≡ flat_map entry_text here ++ flat_map entry_text behind =
    ap (flat_map entry_text) (entries_both files times at.firsts at.next at.text es rest) ∙ flat_map-append entry_text here behind in
    record {
      done = left.done ++ flat_map entry_text here;
      out = Appends-then start.out at.out after.out left.done (flat_map entry_text here) left.out w.out;
      bytes = left.bytes ∙ ap (λ (bs : List ℕ). left.done ++ bs) bytes
          ∙ sym (append_assoc left.done (flat_map entry_text here) (flat_map entry_text behind))
          ∙ (λ i. (left.done ++ flat_map entry_text here) ++ flat_map entry_text
          (entries_from files times (sym w.firsts i) (sym w.next i) (sym w.path i) rest));
      path = w.path ∙ left.path;
      next = omega (arith, w.next, left.next, length-append es rest);
      firsts = (λ i. firsts_from (w.firsts i) (w.next i) rest) ∙ sym (firsts_both at.firsts at.next es rest)
          ∙ left.firsts;
      writable = subst (λ (t : List ℕ). AreWritable files t rest) (sym w.path) (all_right _ es rest left.writable);
    }

-- the next child is written, at the text that its name makes, which is then cut back
pub child_step : (files : Files) (times : List Times) (whole : Names) (start at inside after : At) (name : Name) (es rest : Names)
    (end : ℕ) (cut : List ℕ)
    → IsLeft files times whole start at (placed name es ++ rest) → inside ≡ record at { text = at.text ++ 47 ∷ name }
    → IsWritten files times es inside after → end ≡ length at.text → cut ≡ take end after.text
    → IsLeft files times whole start (record after { text = cut }) rest × (end ≡ length cut)
child_step files times whole start at inside after name es rest end cut left entered written end-is cut-is =
    let back : take (length at.text) after.text ≡ cut = ap (λ n. take n after.text) (sym end-is) ∙ sym cut-is in
    let trimmed : At = record after { text = take (length at.text) after.text } in
    let l = left_both files times whole start at trimmed (placed name es) rest left
    (written_placed files times es name at inside after entered written) in (
      subst (λ (t : List ℕ). IsLeft files times whole start (record after { text = t }) rest) back l,
      end-is ∙ ap length (left.path ∙ sym l.path ∙ back),
    )

-- it can be written, and its entries have numbers
pub child_writable : (files : Files) (times : List Times) (whole : Names) (start at : At) (name : Name) (es rest : Names) (text : List ℕ)
    → IsLeft files times whole start at (placed name es ++ rest) → text ≡ at.text ++ 47 ∷ name → AreWritable files text es
child_writable files times whole start at name es rest text left entered =
    subst (λ (t : List ℕ). AreWritable files t es) (sym entered)
    (writable_placed files at.text name es (all_left _ (placed name es) rest left.writable))

pub child_few : (files : Files) (times : List Times) (whole : Names) (start at : At) (name : Name) (es rest : Names)
    → IsLeft files times whole start at (placed name es ++ rest) → start.next + length whole < 2 ^ 32
    → at.next + length es < 2 ^ 32
child_few files times whole start at name es rest left few =
    omega (arith, few, left.next, length-append (placed name es) rest, length-placed name es)

-- ---- the rows of a tree

-- an absolute text is the text of its names
pub text_absolute : (place : Place) → 0 < length place → text_of place ≡ absolute place
text_absolute [] below = absurd (omega arith)
text_absolute (n ∷ ns) below = refl

rows_are : (files : Files) (firsts : Firsts) (front es : Names) → AreFirsts firsts front → AllByRecursion IsBelowRoot es
    → rows_from files firsts (length front) [] es ≡ rows_after files front es
rows_are files firsts front [] are below = refl
rows_are files firsts front (e ∷ es) are below =
    let more = firsts_push firsts front e are in
    let count : suc (length front) ≡ length (front ++ e ∷ []) = omega (arith, length-append front (e ∷ [])) in
    let rest = ap (λ n. rows_from files (firsts_with firsts (length front) e.1) n [] es) count
    ∙ rows_are files (firsts_with firsts (length front) e.1) (front ++ e ∷ []) es more below.1 in
    (λ i. record { path = text_absolute e.0 below.0.1 i; kind = known files firsts front e.1 are i } ∷ rest i)
    ∙ sym (rows_cons files front e es below.0.1)

entries_writable : (t : Tree) → IsKept t → (es : Names) → AllByRecursion IsBelowRoot es
    → AllByRecursion (λ e. IsFitNode e.1) es → AreWritable t.files [] es
entries_writable t kept [] below fit = tt
entries_writable t kept (e ∷ es) below fit =
    let short =
    subst (λ (path : List ℕ). length path < 2 ^ 32) (sym (text_absolute e.0 below.0.1)) (path_short e.0 below.0.0) in
    ((short, node_short t kept e.1 fit.0), entries_writable t kept es below.1 fit.1)

-- all entries but the root's can be written
pub tree_writable : (t : Tree) → IsKept t → AreWritable t.files [] (drop 1 t.names)
tree_writable t kept =
    let s = split_tree t (stands-of t kept) in
    subst (AreWritable t.files []) (sym (ap (drop 1) s.names_are))
    (entries_writable t kept s.entries s.below s.table.nodes.1)

pub tree_few : (t : Tree) → IsKept t → 1 + length (drop 1 t.names) < 2 ^ 32
tree_few t kept =
    let s = split_tree t (stands-of t kept) in
    omega (arith, ap length (ap (drop 1) s.names_are), ap length s.names_are, (names_count t kept).1)

-- and they are written after the root, which has none
tree_rows : (t : Tree) → IsKept t → (firsts : Firsts) → firsts ≡ []
    → rows_from t.files firsts 1 [] (drop 1 t.names) ≡ rows_after t.files [] t.names
tree_rows t kept firsts none =
    let s = split_tree t (stands-of t kept) in
    let are : AreFirsts firsts (only_root s.root) =
    λ number. ap (λ (f : Firsts). get nat_cmp f number) none ∙ get-empty nat_cmp number in
    ap (rows_from t.files firsts 1 []) (ap (drop 1) s.names_are)
    ∙ rows_are t.files firsts (only_root s.root) s.entries are s.below ∙ ap (rows_after t.files []) (sym s.names_are)

-- each with the times of its number

drop_more : (times : List Times) (n : ℕ) → times_of_rows (drop n times) ≡ drop (suc n) times
drop_more [] zero = refl
drop_more [] (suc n) = refl
drop_more (t ∷ times) zero = refl
drop_more (t ∷ times) (suc n) = drop_more times n

drop_here : (times : List Times) (n : ℕ) → times_of_root (drop n times) ≡ times_at times n
drop_here [] zero = refl
drop_here [] (suc n) = refl
drop_here (t ∷ times) zero = refl
drop_here (t ∷ times) (suc n) = drop_here times n

paired_first : (row : Row) (rows : List Row) (times : List Times)
    → paired (row ∷ rows) times ≡ (row, times_of_root times) ∷ paired rows (times_of_rows times)
paired_first row rows [] = refl
paired_first row rows (t ∷ times) = refl

pairs_from : (files : Files) (times : List Times) (firsts : Firsts) (next : ℕ) (text : List ℕ) (es : Names)
    → entries_from files times firsts next text es ≡ paired (rows_from files firsts next text es) (drop next times)
pairs_from files times firsts next text [] = refl
pairs_from files times firsts next text (e ∷ es) =
    let row : Row = record { path = text ++ text_of e.0; kind = known_kind files firsts e.1 } in
    let more = firsts_with firsts next e.1 in
    let rows = rows_from files more (suc next) text es in
    let rest = pairs_from files times more (suc next) text es
    ∙ ap (paired rows) (sym (drop_more times next)) in
    (λ i. (row, sym (drop_here times next) i) ∷ rest i) ∙ sym (paired_first row rows (drop next times))

first_dropped : (times : List Times) → drop 1 times ≡ times_of_rows times
first_dropped [] = refl
first_dropped (t ∷ times) = refl

pub tree_written : (t : Tree) → IsKept t → (times : List Times) (firsts : Firsts) → firsts ≡ []
    → entries_from t.files times firsts 1 [] (drop 1 t.names) ≡ timed_entries t times
tree_written t kept times firsts none =
    pairs_from t.files times firsts 1 [] (drop 1 t.names)
    ∙ (λ i. paired (tree_rows t kept firsts none i) (first_dropped times i))

-- ---- a directory, and then what is below it

-- a directory's own entry comes first
pub own_entry : (names : Names) (owner : Owner) → InOrder place_cmp names → node_at names [] ≡ Some (Dir owner)
    → names ≡ only_root owner ++ drop 1 names
own_entry names owner sorted there =
    let first = root_first names sorted (ap is_directory there) in
    let same : Some (Dir first.0) ≡ Some (Dir owner) =
    sym (root_at first.0 first.1) ∙ ap (λ (ns : Names). node_at ns []) (sym first.2) ∙ there in
    let owners : first.0 ≡ owner = cc in
    first.2 ∙ (λ i. only_root (owners i) ++ ap (drop 1) (sym first.2) i)

pub own_path : (files : Files) (text : List ℕ) (names : Names) (owner : Owner) → InOrder place_cmp names
    → node_at names [] ≡ Some (Dir owner) → AreWritable files text names → length text < 2 ^ 32
own_path files text names owner sorted there fit =
    let f = subst (AreWritable files text) (own_entry names owner sorted there) fit in
    omega (arith, length-append text [], f.0.0)

pub own_writable : (files : Files) (text : List ℕ) (names : Names) (owner : Owner) → InOrder place_cmp names
    → node_at names [] ≡ Some (Dir owner) → AreWritable files text names → AreWritable files text (drop 1 names)
own_writable files text names owner sorted there fit =
    (subst (AreWritable files text) (own_entry names owner sorted there) fit).1

pub own_count : (names : Names) (owner : Owner) → InOrder place_cmp names → node_at names [] ≡ Some (Dir owner)
    → length names ≡ length (drop 1 names) + 1
own_count names owner sorted there = omega (arith, ap length (own_entry names owner sorted there))

dir_text : (files : Files) (times : List Times) (names : Names) (owner : Owner) (at : At) → InOrder place_cmp names
    → node_at names [] ≡ Some (Dir owner)
    → entry_text (record { path = at.text; kind = kinds.Dir owner }, times_at times at.next)
    ++ entries_text files times (record at { next = at.next + 1 }) (drop 1 names) ≡ entries_text files times at names
dir_text files times names owner at sorted there =
    let rest = drop 1 names in
    let count : at.next + 1 ≡ suc at.next = omega arith in
    (λ i. entry_text (record { path = sym (append-nil at.text) i; kind = kinds.Dir owner }, times_at times at.next)
    ++ flat_map entry_text (entries_from files times at.firsts (count i) at.text rest))
    ∙ ap (λ (ns : Names). flat_map entry_text (entries_from files times at.firsts at.next at.text ns))
    (sym (own_entry names owner sorted there))

pub dir_written : (files : Files) (times : List Times) (names : Names) (owner : Owner) (at after : At) (own-out : Option (List ℕ))
    → InOrder place_cmp names → node_at names [] ≡ Some (Dir owner)
    → Appends at.out own-out (entry_text (record { path = at.text; kind = kinds.Dir owner }, times_at times at.next))
    → IsWritten files times (drop 1 names) (record at { next = at.next + 1; out = own-out }) after
    → IsWritten files times names at after
dir_written files times names owner at after own-out sorted there own below =
    let whole = own_entry names owner sorted there in
    let rest = drop 1 names in
    let count : at.next + 1 ≡ suc at.next = omega arith in
    let row = entry_text (record { path = at.text; kind = kinds.Dir owner }, times_at times at.next) in
    let bytes = entries_text files times (record at { next = at.next + 1 }) rest in
    record {
      out = subst (Appends at.out after.out) (dir_text files times names owner at sorted there)
          (Appends-then at.out own-out after.out row bytes own below.out);
      path = below.path;
      next = omega (arith, below.next, own_count names owner sorted there);
      firsts = below.firsts ∙ ap (λ n. firsts_from at.firsts n rest) count
          ∙ ap (firsts_from at.firsts at.next) (sym whole);
    }

-- the writing failed in its own entry, or below it
pub dir_unwritten : (files : Files) (times : List Times) (names : Names) (owner : Owner) (at : At) (out : Option (List ℕ))
    → InOrder place_cmp names → node_at names [] ≡ Some (Dir owner)
    → AppendsPart at.out out (entry_text (record { path = at.text; kind = kinds.Dir owner }, times_at times at.next))
    → AppendsPart at.out out (entries_text files times at names)
dir_unwritten files times names owner at out sorted there part =
    let row = entry_text (record { path = at.text; kind = kinds.Dir owner }, times_at times at.next) in
    let bytes = entries_text files times (record at { next = at.next + 1 }) (drop 1 names) in
    subst (AppendsPart at.out out) (dir_text files times names owner at sorted there)
    (AppendsPart-first at.out out row bytes part)

pub below_unwritten : (files : Files) (times : List Times) (names : Names) (owner : Owner) (at : At) (own-out out : Option (List ℕ))
    → InOrder place_cmp names → node_at names [] ≡ Some (Dir owner)
    → Appends at.out own-out (entry_text (record { path = at.text; kind = kinds.Dir owner }, times_at times at.next))
    → AppendsPart own-out out (entries_text files times (record at { next = at.next + 1 }) (drop 1 names))
    → AppendsPart at.out out (entries_text files times at names)
below_unwritten files times names owner at own-out out sorted there own part =
    let row = entry_text (record { path = at.text; kind = kinds.Dir owner }, times_at times at.next) in
    let bytes = entries_text files times (record at { next = at.next + 1 }) (drop 1 names) in
    subst (AppendsPart at.out out) (dir_text files times names owner at sorted there)
    (AppendsPart-then at.out own-out out row bytes own part)

-- ---- an entry alone

entry_alone : (path : List ℕ) (kind : Kind) (time : Times) → entry_text (record { path = path; kind = kind }, time)
    ≡ flat_map entry_text ((record { path = path ++ []; kind = kind }, time) ∷ [])
entry_alone path kind time =
    ap (λ (p : List ℕ). entry_text (record { path = p; kind = kind }, time)) (sym (append-nil path))
    ∙ sym (append-nil (entry_text (record { path = path ++ []; kind = kind }, time)))

pub alone_written : (old new : Option (List ℕ)) (path : List ℕ) (kind : Kind) (time : Times)
    → Appends old new (entry_text (record { path = path; kind = kind }, time))
    → Appends old new (flat_map entry_text ((record { path = path ++ []; kind = kind }, time) ∷ []))
alone_written old new path kind time done = subst (Appends old new) (entry_alone path kind time) done

pub alone_unwritten : (old new : Option (List ℕ)) (path : List ℕ) (kind : Kind) (time : Times)
    → AppendsPart old new (entry_text (record { path = path; kind = kind }, time))
    → AppendsPart old new (flat_map entry_text ((record { path = path ++ []; kind = kind }, time) ∷ []))
alone_unwritten old new path kind time part = subst (AppendsPart old new) (entry_alone path kind time) part

-- ---- a failure among children

-- before a child
pub left_unwritten : (files : Files) (times : List Times) (whole : Names) (start at : At) (rest : Names)
    → IsLeft files times whole start at rest → AppendsPart start.out at.out (entries_text files times start whole)
left_unwritten files times whole start at rest left = record {
  part = left.done;
  rest = entries_text files times at rest;
  parts = left.bytes;
  appended = left.out;
}

-- in a child, at the text that its name makes
pub child_unwritten : (files : Files) (times : List Times) (whole : Names) (start at inside : At) (out : Option (List ℕ)) (name : Name)
    (es rest : Names) → IsLeft files times whole start at (placed name es ++ rest)
    → inside ≡ record at { text = at.text ++ 47 ∷ name } → AppendsPart at.out out (entries_text files times inside es)
    → AppendsPart start.out out (entries_text files times start whole)
child_unwritten files times whole start at inside out name es rest left entered part =
    let here = entries_from files times at.firsts at.next at.text (placed name es) in
    let behind =
    entries_from files times (firsts_from at.firsts at.next (placed name es)) (at.next + length (placed name es)) at.text rest in
    let text : entries_text files times inside es ≡ flat_map entry_text here =
    ap (λ (s : At). entries_text files times s es) entered
    ∙ ap (flat_map entry_text) (sym (entries_placed files times at.firsts at.next at.text name es)) in
    let bytes : flat_map entry_text here ++ flat_map entry_text behind ≡ entries_text files times at (placed name es ++ rest) =
    sym (flat_map-append entry_text here behind)
    ∙ ap (flat_map entry_text) (sym (entries_both files times at.firsts at.next at.text (placed name es) rest)) in
    subst (AppendsPart start.out out) (ap (λ (bs : List ℕ). left.done ++ bs) bytes ∙ sym left.bytes)
    (AppendsPart-then start.out at.out out left.done (flat_map entry_text here ++ flat_map entry_text behind) left.out
    (AppendsPart-first at.out out (flat_map entry_text here) (flat_map entry_text behind)
    (subst (AppendsPart at.out out) text part)))

-- a child has an entry of its own, and so fewer than its directory
nonempty : (names : Names) → IsTrue (is_directory (node_at names [])) → 0 < length names
unfolding get
nonempty [] there = absurd cc
nonempty (e ∷ es) there = omega arith

branch_nonempty : (child : Child) → IsBranch child → 0 < length (branch child)
branch_nonempty (children.Dir names) is = nonempty names is.1
branch_nonempty (children.File number) is = omega arith
branch_nonempty (children.Link target) is = omega arith

child_smaller : (names : Names) (name : Name) (child : Child) (rest : Names) → IsBranch child
    → length (placed name (branch child) ++ rest) ≤ length (drop 1 names) → length (branch child) < length names
child_smaller [] name child rest is few = absurd (omega (
  arith,
  few,
  branch_nonempty child is,
  length-append (placed name (branch child)) rest,
  length-placed name (branch child),
))
child_smaller (e ∷ es) name child rest is few =
    omega (arith, few, length-append (placed name (branch child)) rest, length-placed name (branch child))

pub next_smaller : (names : Names) (cs : Children) (name : Name) (child : Child) (rest : Children)
    → cs ≡ (name, child) ∷ rest
    → AreBranches cs → length (flat cs) ≤ length (drop 1 names) → length (branch child) < length names
next_smaller names cs name child rest steps are few =
    child_smaller names name child (flat rest) (subst AreBranches steps are).0
    (omega (arith, few, ap length (ap flat steps)))
