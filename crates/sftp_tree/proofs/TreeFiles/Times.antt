-- Times are asked of what keeps them branch by branch, and they are those of a tree file.
use Rattle.sftp_tree.proofs.Imports.{◌≡◌, ℕ, suc, ◌+◌, ◌<◌, ◌^◌, List, [], ◌∷◌, ◌++◌, length, take, drop, Some, None}
use Rattle.sftp_tree.proofs.Imports.{Option, Bool, true, false, refl, sym, ap, subst, ◌∙◌, append_assoc, append-nil, arith}
use Rattle.sftp_tree.proofs.Imports.{length-append, take-append_seam, AllByRecursion, nat_cmp, Name, get, get-empty}
use Rattle.sftp_tree.proofs.Imports.{Place, absolute, Owner, Row, Node, Dir, File, Link, Names, Files}
use Rattle.sftp_tree.proofs.Imports.{Tree, IsKept, Content, content_at, placed, IsBranch, rows_after, only_root}
use Rattle.sftp_tree.proofs.Imports.{Firsts, firsts_with, text_of, firsts_from, naming, kind_of, entry_naming}
use Rattle.sftp_treefile.specs.declared.times.Times.{Times}
use Rattle.sftp_treefile.specs.TreeFile.{any_times, AreTimes, AreTimesOf, AreFileTimes, MayHaveTimes}
use Rattle.sftp_treefile.specs.TreeFileParts.{kept, kept_by}
use Rattle.sftp_tree.specs.declared.pictures.progress.Progress.{Progress}
use Rattle.sftp_tree.specs.Picture.{AreOfName, AreTold, AreToldAfter, AreToldTimes, file_of}
use Rattle.sftp_tree.specs.PictureParts.{AreKnown, AreKnownFrom, AddsTimes}
use Rattle.sftp_tree.proofs.Limits.{stands-of}
use Rattle.sftp_tree.proofs.PlaceTables.{all_both}
use Rattle.sftp_tree.proofs.TreeFiles.Files.{split_tree, AreFirsts, firsts_push}
use Rattle.sftp_tree.proofs.TreeFiles.Numbers.{rows_cons, IsBelowRoot}
use Rattle.sftp_tree.proofs.TreeFiles.Branches.{further, text_absolute, length-placed, firsts_both, firsts_placed}
use Rattle.sftp_tree.proofs.TreeFiles.{root_first}
use Rattle.sftp_tree.specs.declared.entries.directories.Child.TheVariants as children

-- what is said of files and of directories
abbrev pub OfFiles : Type 1
OfFiles = ℕ → Times → Type 0

abbrev pub OfDirectories : Type 1
OfDirectories = List ℕ → Times → Type 0

-- ---- one table after another, and one name further down

known_both : (F : OfFiles) (D : OfDirectories) (firsts : Firsts) (next : ℕ) (text : List ℕ) (xs ys : Names)
    (ts us : List Times) → AreKnownFrom F D firsts next text xs ts
    → AreKnownFrom F D (firsts_from firsts next xs) (next + length xs) text ys us
    → AreKnownFrom F D firsts next text (xs ++ ys) (ts ++ us)
known_both F D firsts next text [] ys [] us front back =
    let same : next + 0 ≡ next = omega arith in
    subst (λ n. AreKnownFrom F D firsts n text ys us) same back
known_both F D firsts next text [] ys (t ∷ ts) us front back = absurd front
known_both F D firsts next text (e ∷ xs) ys [] us front back = absurd front
known_both F D firsts next text (e ∷ xs) ys (t ∷ ts) us front back =
    let more = firsts_with firsts next e.1 in
    let count : next + length (e ∷ xs) ≡ suc next + length xs = omega arith in (
      front.0,
      known_both F D more (suc next) text xs ys ts us front.1
          (subst (λ n. AreKnownFrom F D (firsts_from more (suc next) xs) n text ys us) count back),
    )

known_placed : (F : OfFiles) (D : OfDirectories) (firsts : Firsts) (next : ℕ) (text : List ℕ) (name : Name) (es : Names)
    (ts : List Times) → AreKnownFrom F D firsts next (text ++ 47 ∷ name) es ts
    → AreKnownFrom F D firsts next text (placed name es) ts
known_placed F D firsts next text name [] [] known = tt
known_placed F D firsts next text name [] (t ∷ ts) known = absurd known
known_placed F D firsts next text name (e ∷ es) [] known = absurd known
known_placed F D firsts next text name (e ∷ es) (t ∷ ts) known = (
  subst (λ (path : List ℕ). AreKnown F D firsts path e.1 t) (sym (further text name e.0)) known.0,
  known_placed F D (firsts_with firsts next e.1) (suc next) text name es ts known.1,
)

-- ---- a branch that is asked for

-- where the asking stands
pub record Here : Type 0 where
  pub text : List ℕ
  pub next : ℕ
  pub firsts : Firsts
  pub times : List Times

abbrev pub here_of : Progress → List Times → Here
here_of at times = record { text = at.path.items; next = at.next; firsts = at.firsts.entries; times = times }

-- these entries were asked for
pub record IsAsked (F : OfFiles) (D : OfDirectories) (es : Names) (before after : Here) : Type 0 where
  pub times : AddsTimes F D before.firsts before.next before.text es before.times after.times
  pub path : after.text ≡ before.text
  pub next : after.next ≡ before.next + length es
  pub firsts : after.firsts ≡ firsts_from before.firsts before.next es

-- of a whole, these entries are left
pub record IsLeftToAsk (F : OfFiles) (D : OfDirectories) (whole : Names) (start at : Here) (rest : Names) : Type 0 where
  pub front : Names
  pub parts : whole ≡ front ++ rest
  pub asked : IsAsked F D front start at

-- at first all are left
pub none_asked : (F : OfFiles) (D : OfDirectories) (whole : Names) (at : Here) (rest : Names) → rest ≡ whole
    → IsLeftToAsk F D whole at at rest
none_asked F D whole at rest all = record {
  front = [];
  parts = sym all;
  asked = record {
    times = record { more = []; appended = sym (append-nil at.times); known = tt; numbers = tt };
    path = refl;
    next = omega arith;
    firsts = refl;
  };
}

-- an entry alone
pub alone_asked : (F : OfFiles) (D : OfDirectories) (node : Node) (firsts : Firsts) (next : ℕ) (text : List ℕ)
    (old new : List Times) (t : Times) → new ≡ old ++ t ∷ [] → AreKnown F D firsts text node t → AreTimes t
    → AddsTimes F D firsts next text (([], node) ∷ []) old new
alone_asked F D node firsts next text old new t pushed known small = record {
  more = t ∷ [];
  appended = pushed;
  known = (subst (λ (path : List ℕ). AreKnown F D firsts path node t) (sym (append-nil text)) known, tt);
  numbers = (small, tt);
}

-- a directory has itself first
own_first : (names : Names) → IsBranch (children.Dir names) → (owner : Owner) × (names ≡ only_root owner ++ drop 1 names)
own_first names is =
    let first = root_first names is.0 is.1 in
    (first.0, first.2 ∙ ap (λ (ns : Names). only_root first.0 ++ ns) (ap (drop 1) (sym first.2)))

pub own_length : (names : Names) → IsBranch (children.Dir names) → length names ≡ length (drop 1 names) + 1
own_length names is = omega (arith, ap length (own_first names is).1)

-- a directory's own times, and then those below it
pub dir_asked : (F : OfFiles) (D : OfDirectories) (names : Names) (firsts : Firsts) (next : ℕ)
    (text : List ℕ) (old middle new : List Times) (t : Times) → IsBranch (children.Dir names)
    → middle ≡ old ++ t ∷ [] → D text t → AreTimes t
    → AddsTimes F D firsts (next + 1) text (drop 1 names) middle new → AddsTimes F D firsts next text names old new
dir_asked F D names firsts next text old middle new t is pushed told small below =
    let count : next + 1 ≡ suc next = omega arith in
    let own : D (text ++ []) t = subst (λ (path : List ℕ). D path t) (sym (append-nil text)) told in
    let rest = subst (λ n. AreKnownFrom F D firsts n text (drop 1 names) below.more) count below.known in
    subst (λ (ns : Names). AddsTimes F D firsts next text ns old new) (sym (own_first names is).1)
    (record {
      more = t ∷ below.more;
      appended = below.appended ∙ ap (λ (ts : List Times). ts ++ below.more) pushed
          ∙ append_assoc old (t ∷ []) below.more;
      known = (own, rest);
      numbers = (small, below.numbers);
    })

pub dir_firsts : (names : Names) (firsts : Firsts) (next : ℕ) → IsBranch (children.Dir names)
    → firsts_from firsts (next + 1) (drop 1 names) ≡ firsts_from firsts next names
dir_firsts names firsts next is =
    let count : next + 1 ≡ suc next = omega arith in
    ap (λ n. firsts_from firsts n (drop 1 names)) count ∙ ap (firsts_from firsts next) (sym (own_first names is).1)

-- the next child is asked for, at the text that its name makes, which is then cut back
pub child_asked : (F : OfFiles) (D : OfDirectories) (whole : Names) (start at inside after : Here) (name : Name)
    (es rest : Names) (end : ℕ) (cut : List ℕ)
    → IsLeftToAsk F D whole start at (placed name es ++ rest) → inside ≡ record at { text = at.text ++ 47 ∷ name }
    → IsAsked F D es inside after → end ≡ length at.text → cut ≡ take end after.text
    → IsLeftToAsk F D whole start (record after { text = cut }) rest × (end ≡ length cut)
child_asked F D whole start at inside after name es rest end cut left entered asked end-is cut-is =
    let a = subst (λ (h : Here). IsAsked F D es h after) entered asked in
    let l = left.asked in
    let front = left.front in
    let back : cut ≡ at.text =
    cut-is ∙ (λ i. take (end-is i) (a.path i)) ∙ take-append_seam at.text (47 ∷ name) in
    let more = l.times.more in
    let news = a.times.more in
    let here = known_placed F D at.firsts at.next at.text name es news a.times.known in
    let moved : AreKnownFrom F D (firsts_from start.firsts start.next front) (start.next + length front) start.text
    (placed name es) news =
    subst (λ firsts. AreKnownFrom F D firsts (start.next + length front) start.text (placed name es) news) l.firsts
    (subst (λ n. AreKnownFrom F D at.firsts n start.text (placed name es) news) l.next
    (subst (λ (text : List ℕ). AreKnownFrom F D at.firsts at.next text (placed name es) news) l.path here)) in (
      record {
        front = front ++ placed name es;
        parts = left.parts ∙ sym (append_assoc front (placed name es) rest);
        asked = record {
          times = record {
            more = more ++ news;
            appended = a.times.appended ∙ ap (λ (ts : List Times). ts ++ news) l.times.appended
                ∙ append_assoc start.times more news;
            known = known_both F D start.firsts start.next start.text front (placed name es) more news l.times.known
                moved;
            numbers = all_both AreTimes more news l.times.numbers a.times.numbers;
          };
          path = back ∙ l.path;
          next = omega (arith, a.next, l.next, length-append front (placed name es), length-placed name es);
          firsts = a.firsts ∙ sym (firsts_placed at.firsts at.next name es)
              ∙ (λ i. firsts_from (l.firsts i) (l.next i) (placed name es))
              ∙ sym (firsts_both start.firsts start.next front (placed name es));
        };
      },
      end-is ∙ ap length (sym back),
    )

-- its entries have numbers
pub child_numbers : (F : OfFiles) (D : OfDirectories) (whole : Names) (start at : Here) (name : Name) (es rest : Names)
    → IsLeftToAsk F D whole start at (placed name es ++ rest) → start.next + length whole < 2 ^ 32
    → at.next + length es < 2 ^ 32
child_numbers F D whole start at name es rest left few = omega (
  arith,
  few,
  left.asked.next,
  ap length left.parts,
  length-append left.front (placed name es ++ rest),
  length-append (placed name es) rest,
  length-placed name es,
)

-- when none are left, the whole was asked for
pub all_asked : (F : OfFiles) (D : OfDirectories) (whole : Names) (start at : Here)
    → IsLeftToAsk F D whole start at [] → IsAsked F D whole start at
all_asked F D whole start at left =
    subst (λ (ns : Names). IsAsked F D ns start at) (sym (left.parts ∙ append-nil left.front)) left.asked

-- ---- all of a tree

told_entry : (F : OfFiles) (D : OfDirectories) (firsts : Firsts) (front : Names) (place : Place) (node : Node) (t : Times)
    → AreFirsts firsts front → 0 < length place → AreKnown F D firsts (text_of place) node t
    → AreTold F D front (place, node) t
told_entry F D firsts front place (Dir owner) t are below known =
    subst (λ (path : List ℕ). D path t) (text_absolute place below) known
told_entry F D firsts front place (File number) t are below known =
    subst (λ (o : Option ℕ). AreOfName o (F number) t) (are number) known
told_entry F D firsts front place (Link target) t are below known = known

told_after : (F : OfFiles) (D : OfDirectories) (firsts : Firsts) (front es : Names) (ts : List Times)
    → AreFirsts firsts front → AllByRecursion IsBelowRoot es → AreKnownFrom F D firsts (length front) [] es ts
    → AreToldAfter F D front es ts
told_after F D firsts front [] [] are below known = tt
told_after F D firsts front [] (t ∷ ts) are below known = absurd known
told_after F D firsts front (e ∷ es) [] are below known = absurd known
told_after F D firsts front ((place, node) ∷ es) (t ∷ ts) are below known =
    let more = firsts_with firsts (length front) node in
    let front-more = front ++ (place, node) ∷ [] in
    let count : suc (length front) ≡ length front-more = omega (arith, length-append front ((place, node) ∷ [])) in (
      told_entry F D firsts front place node t are below.0.1 known.0,
      told_after F D more front-more es ts (firsts_push firsts front (place, node) are) below.1
          (subst (λ n. AreKnownFrom F D more n [] es ts) count known.1),
    )

-- a further name and a link have none
may_have : (F : OfFiles) (D : OfDirectories) (files : Files) (front : Names) (place : Place) (node : Node) (t : Times)
    → AreTold F D front (place, node) t → AreTimes t → MayHaveTimes (kind_of files front node) t
may_have F D files front place (Dir owner) t told small = small
may_have F D files front place (File number) t told small =
    by (entry_naming number front) (content_at files number) told
  where
    by : (o : Option ℕ) (content : Option Content) → AreOfName o (F number) t → MayHaveTimes (naming o content) t
    by (Some entry) content none = none
    by None (Some content) own = small
    by None None own = small
may_have F D files front place (Link target) t told small = told

rows_told : (F : OfFiles) (D : OfDirectories) (files : Files) (front es : Names) (ts : List Times)
    → AllByRecursion IsBelowRoot es → AreToldAfter F D front es ts → AllByRecursion AreTimes ts
    → AreTimesOf (rows_after files front es) ts
rows_told F D files front [] [] below told small = tt
rows_told F D files front [] (t ∷ ts) below told small = absurd told
rows_told F D files front (e ∷ es) [] below told small = absurd told
rows_told F D files front ((place, node) ∷ es) (t ∷ ts) below told small =
    let front-more = front ++ (place, node) ∷ [] in
    subst (λ (rows : List Row). AreTimesOf rows (t ∷ ts)) (sym (rows_cons files front (place, node) es below.0.1)) (
      may_have F D files front place node t told.0 small.0,
      rows_told F D files front-more es ts below.1 told.1 small.1,
    )

-- none are kept if all are 0
kept_told : (rows : List Row) (t : Times) (ts : List Times) (any : Bool) → any_times (t ∷ ts) ≡ any → AreTimes t
    → AreTimesOf rows ts → AreFileTimes rows (kept_by any (t ∷ ts))
kept_told rows t ts false is small are = tt
kept_told rows t ts true is small are = (small, are, is)

-- the times of the root and of what was asked for below it are those of the tree
pub tree_told : (F : OfFiles) (D : OfDirectories) (t : Tree) → IsKept t → (firsts : Firsts) (next : ℕ)
    (text : List ℕ) (root : Times) (old new times : List Times) → firsts ≡ [] → next ≡ 1 → text ≡ [] → old ≡ root ∷ []
    → D (absolute []) root → AreTimes root → AddsTimes F D firsts next text (drop 1 t.names) old new
    → times ≡ kept new → AreToldTimes F D t times
tree_told F D t is firsts next text root old new times none one empty front told small adds times-are =
    let s = split_tree t (stands-of t is) in
    let names : t.names ≡ only_root s.root ++ s.entries = s.names_are in
    let are : AreFirsts firsts (only_root s.root) =
    λ number. ap (λ (f : Firsts). get nat_cmp f number) none ∙ get-empty nat_cmp number in
    let known : AreKnownFrom F D firsts 1 [] s.entries adds.more =
    subst (λ (ns : Names). AreKnownFrom F D firsts 1 [] (drop 1 ns) adds.more) names
    (subst (λ n. AreKnownFrom F D firsts n [] (drop 1 t.names) adds.more) one
    (subst (λ (path : List ℕ). AreKnownFrom F D firsts next path (drop 1 t.names) adds.more) empty adds.known)) in
    let after : AreToldAfter F D (only_root s.root) s.entries adds.more =
    told_after F D firsts (only_root s.root) s.entries adds.more are s.below known in
    let all : new ≡ root ∷ adds.more = adds.appended ∙ ap (λ (ts : List Times). ts ++ adds.more) front in
    let rows : AreTimesOf (rows_after t.files [] t.names) adds.more =
    subst (λ (ns : Names). AreTimesOf (rows_after t.files [] ns) adds.more) (sym names)
    (rows_told F D t.files (only_root s.root) s.entries adds.more s.below after adds.numbers) in
    record {
      told = root ∷ adds.more;
      are_told = subst (λ (ns : Names). AreToldAfter F D [] ns (root ∷ adds.more)) (sym names) (told, after);
      times_are = times-are ∙ ap kept all;
      of_file = subst (AreFileTimes (file_of t).rows) (sym (times-are ∙ ap kept all))
          (kept_told (rows_after t.files [] t.names) root adds.more (any_times (root ∷ adds.more)) refl small rows);
    }
