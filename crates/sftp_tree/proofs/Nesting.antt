-- Nested directories and the tables of places that they are seen as.
use Rattle.sftp_tree.proofs.Imports.{◌≡◌, ◌==◌, Bool, true, false, not, cond, [], ◌∷◌, ◌++◌, length, Option, Some}
use Rattle.sftp_tree.proofs.Imports.{None, IsTrue, IfSome, option_copied, Bor, refl, sym, ap, ◌∙◌, arith, is_eq}
use Rattle.sftp_tree.proofs.Imports.{ordering_then, Ordering, Less, Equal, Greater, Equal-is, nat_list_cmp_total}
use Rattle.sftp_tree.proofs.Imports.{AllByRecursion, list_any, IsStrictlySortedBy, keys_of, lookup, is_at}
use Rattle.sftp_tree.proofs.Imports.{tied_itself, sorted_head, sorted_tail, Name, Place, name_cmp, place_cmp}
use Rattle.sftp_tree.proofs.Imports.{is_below, InOrder, get, bytes_cmp-same, get-below, Owner, Node, Child, Names}
use Rattle.sftp_tree.proofs.Imports.{node_at, has_entries, is_directory, Children, branch, branch_of, placed, flat}
use Rattle.sftp_tree.proofs.Imports.{flat_of, IsBranch, AreBranches, AreChildren, ◌≤◌, List, take, drop, subst}
use Rattle.sftp_tree.proofs.Imports.{append_assoc, append-nil, insert_entry, take-append_seam, length-append}
use Rattle.sftp_tree.proofs.Imports.{map-append, parent, begins, begins-front, parent-entered, Opened, names_from}
use Rattle.sftp_tree.proofs.Imports.{place_from, only_root}
use Rattle.sftp_tree.specs.declared.nodes.Node.TheVariants as nodes
use Rattle.sftp_tree.specs.declared.entries.directories.Child.TheVariants.{Dir, File, Link}
use Rattle.sftp_tree.proofs.PlaceTables.{lookup_holds}
use Rattle.sftp_tree.specs.declared.entries.directories.Child.TheVariants as children
use Rattle.sftp_tree.proofs.PlaceTables.{all_both, insert_last, keys_append, sorted_push, sorted_right}
use Rattle.sftp_tree.proofs.PlaceTables.{sorted_before}
use Rattle.sftp_tree.proofs.TreeFiles.{root_first}
pub mod Changes
pub mod NodesBelow
pub mod Entries
pub mod Reach

-- ==== The table of a directory: what it has at a place, that its places rise, and when anything is below it.

-- ---- look-ups

then-equal : (o p : Ordering) → is_eq o ≡ true → is_eq (ordering_then o p) ≡ is_eq p
then-equal Less p e = cc
then-equal Equal p e = refl
then-equal Greater p e = cc

then-apart : (o p : Ordering) → is_eq o ≡ false → is_eq (ordering_then o p) ≡ false
then-apart Less p e = refl
then-apart Equal p e = cc
then-apart Greater p e = refl

-- below another name nothing is found
lookup-miss : (n m : Name) (ns : Place) (names rest : Names) → is_eq (name_cmp n m) ≡ false
    → lookup (is_at (place_cmp (n ∷ ns))) (placed m names ++ rest) ≡ lookup (is_at (place_cmp (n ∷ ns))) rest
lookup-miss n m ns [] rest apart = refl
lookup-miss n m ns (e ∷ es) rest apart =
    ap (λ b. cond b (Some e.1) (lookup (is_at (place_cmp (n ∷ ns))) (placed m es ++ rest)))
    (then-apart (name_cmp n m) (place_cmp ns e.0) apart) ∙ lookup-miss n m ns es rest apart

lookup-hit : (n m : Name) (ns : Place) (names rest : Names) → is_eq (name_cmp n m) ≡ true
    → lookup (is_at (place_cmp (n ∷ ns))) rest ≡ None
    → lookup (is_at (place_cmp (n ∷ ns))) (placed m names ++ rest) ≡ lookup (is_at (place_cmp ns)) names
lookup-hit n m ns [] rest same none = none
lookup-hit n m ns (e ∷ es) rest same none =
    ap (λ b. cond b (Some e.1) (lookup (is_at (place_cmp (n ∷ ns))) (placed m es ++ rest)))
    (then-equal (name_cmp n m) (place_cmp ns e.0) same)
    ∙ ap (cond (is_eq (place_cmp ns e.0)) (Some e.1)) (lookup-hit n m ns es rest same none)

lookup-below : (cs : Children) (n : Name) → AllByRecursion (λ k. name_cmp n k ≡ Less) (keys_of cs)
    → lookup (is_at (name_cmp n)) cs ≡ None
unfolding get
lookup-below cs n less = get-below name_cmp n cs less

lookup-flat : (cs : Children) (n : Name) (ns : Place) → InOrder name_cmp cs
    → lookup (is_at (place_cmp (n ∷ ns))) (flat cs)
    ≡ lookup (is_at (place_cmp ns)) (branch_of (lookup (is_at (name_cmp n)) cs))
lookup-flat [] n ns ordered = refl
lookup-flat (c ∷ cs) n ns ordered =
    by (is_eq (name_cmp n c.0)) refl (lookup-flat cs n ns (sorted_tail name_cmp c.0 (keys_of cs) ordered))
  where
    none : is_eq (name_cmp n c.0) ≡ true → lookup (is_at (name_cmp n)) cs ≡ None
    none same = ap (λ m. lookup (is_at (name_cmp m)) cs) (bytes_cmp-same n c.0 ((Equal-is (name_cmp n c.0)).0 same))
        ∙ lookup-below cs c.0 (sorted_head name_cmp c.0 (keys_of cs) ordered)

    by : (b : Bool) → is_eq (name_cmp n c.0) ≡ b → lookup (is_at (place_cmp (n ∷ ns))) (flat cs)
        ≡ lookup (is_at (place_cmp ns)) (branch_of (lookup (is_at (name_cmp n)) cs))
        → lookup (is_at (place_cmp (n ∷ ns))) (placed c.0 (branch c.1) ++ flat cs)
        ≡ lookup (is_at (place_cmp ns)) (branch_of (cond b (Some c.1) (lookup (is_at (name_cmp n)) cs)))
    by true same rest = lookup-hit n c.0 ns (branch c.1) (flat cs) same
        (rest ∙ ap (λ o. lookup (is_at (place_cmp ns)) (branch_of o)) (none same))
    by false apart rest = lookup-miss n c.0 ns (branch c.1) (flat cs) apart ∙ rest

-- what a directory has at a place is what the child of its first name has at the others
pub get-flat : (owner : Owner) (cs : Children) (n : Name) (ns : Place) → InOrder name_cmp cs
    → node_at (flat_of owner cs) (n ∷ ns) ≡ node_at (branch_of (get name_cmp cs n)) ns
unfolding get
get-flat owner = lookup-flat

-- at no names a directory has itself
pub get-root : (owner : Owner) (cs : Children) → node_at (flat_of owner cs) [] ≡ Some (nodes.Dir owner)
unfolding get
get-root owner cs = refl

pub alone-none : (node : Node) (names : Place) → false ≡ (length names == 0) → node_at (([], node) ∷ []) names ≡ None
unfolding get
alone-none node [] full = cc
alone-none node (n ∷ ns) full = refl

-- below a child that is no directory there is nothing
pub get-below_alone : (names : Names) (n : Name) (rest : Place) (found : Option (Bor Child)) (child : Bor Child)
    (node : Node) → ((below : Place) → node_at names (n ∷ below) ≡ node_at (branch_of (option_copied found)) below)
    → found ≡ Some child → branch child.now ≡ ([], node) ∷ [] → false ≡ (length rest == 0)
    → node_at names (n ∷ rest) ≡ None
get-below_alone names n rest found child node below is alone full =
    below rest ∙ ap (λ o. node_at (branch_of (option_copied o)) rest) is ∙ ap (λ t. node_at t rest) alone
    ∙ alone-none node rest full

-- ---- the order

all-keys : (P : Place → Type 0) (xs ys : Names) → AllByRecursion P (keys_of xs) → AllByRecursion P (keys_of ys)
    → AllByRecursion P (keys_of (xs ++ ys))
all-keys P [] ys g h = h
all-keys P (x ∷ xs) ys g h = (g.0, all-keys P xs ys g.1 h)

sorted-both : (xs ys : Names) → InOrder place_cmp xs → InOrder place_cmp ys
    → AllByRecursion (λ k. AllByRecursion (λ l. place_cmp k l ≡ Less) (keys_of ys)) (keys_of xs)
    → InOrder place_cmp (xs ++ ys)
unfolding IsStrictlySortedBy
sorted-both [] ys g h less = h
sorted-both (x ∷ xs) ys g h less =
    (all-keys (λ l. place_cmp x.0 l ≡ Less) xs ys g.0 less.0, sorted-both xs ys g.1 h less.1)

all-placed : (P Q : Place → Type 0) (m : Name) (names : Names) → ((k : Place) → P k → Q (m ∷ k))
    → AllByRecursion P (keys_of names) → AllByRecursion Q (keys_of (placed m names))
all-placed P Q m [] so h = tt
all-placed P Q m (e ∷ es) so h = (so e.0 h.0, all-placed P Q m es so h.1)

each-placed : (Q : Place → Type 0) (m : Name) (names : Names) → ((k : Place) → Q (m ∷ k))
    → AllByRecursion Q (keys_of (placed m names))
each-placed Q m [] holds = tt
each-placed Q m (e ∷ es) holds = (holds e.0, each-placed Q m es holds)

one-further : (m : Name) (k l : Place) → place_cmp k l ≡ Less → place_cmp (m ∷ k) (m ∷ l) ≡ Less
one-further m k l less = ap (λ o. ordering_then o (place_cmp k l)) (tied_itself nat_list_cmp_total m) ∙ less

sorted-placed : (m : Name) (names : Names) → InOrder place_cmp names → InOrder place_cmp (placed m names)
unfolding IsStrictlySortedBy
sorted-placed m [] ordered = tt
sorted-placed m (e ∷ es) ordered = (
  all-placed (λ k. place_cmp e.0 k ≡ Less) (λ k. place_cmp (m ∷ e.0) k ≡ Less) m es (one-further m e.0) ordered.0,
  sorted-placed m es ordered.1,
)

flat-above : (m : Name) (k : Place) (cs : Children) → AllByRecursion (λ n. name_cmp m n ≡ Less) (keys_of cs)
    → AllByRecursion (λ l. place_cmp (m ∷ k) l ≡ Less) (keys_of (flat cs))
flat-above m k [] less = tt
flat-above m k (c ∷ cs) less = all-keys (λ l. place_cmp (m ∷ k) l ≡ Less) (placed c.0 (branch c.1)) (flat cs)
    (each-placed (λ l. place_cmp (m ∷ k) l ≡ Less) c.0 (branch c.1)
    (λ l. ap (λ o. ordering_then o (place_cmp k l)) less.0)) (flat-above m k cs less.1)

sorted-branch : (child : Child) → IsBranch child → InOrder place_cmp (branch child)
unfolding IsStrictlySortedBy
sorted-branch (Dir names) h = h.0
sorted-branch (File number) h = (tt, tt)
sorted-branch (Link target) h = (tt, tt)

sorted-flat : (cs : Children) → InOrder name_cmp cs → AreBranches cs → InOrder place_cmp (flat cs)
unfolding IsStrictlySortedBy
sorted-flat [] ordered branches = tt
sorted-flat (c ∷ cs) ordered branches =
    sorted-both (placed c.0 (branch c.1)) (flat cs) (sorted-placed c.0 (branch c.1) (sorted-branch c.1 branches.0))
    (sorted-flat cs ordered.1 branches.1)
    (each-placed (λ k. AllByRecursion (λ l. place_cmp k l ≡ Less) (keys_of (flat cs))) c.0 (branch c.1)
    (λ k. flat-above c.0 k cs ordered.0))

flat-below_root : (cs : Children) → AllByRecursion (λ k. place_cmp [] k ≡ Less) (keys_of (flat cs))
flat-below_root [] = tt
flat-below_root (c ∷ cs) = all-keys (λ k. place_cmp [] k ≡ Less) (placed c.0 (branch c.1)) (flat cs)
    (each-placed (λ k. place_cmp [] k ≡ Less) c.0 (branch c.1) (λ k. refl)) (flat-below_root cs)

-- the places of a directory rise
pub sorted-flat_of : (owner : Owner) (cs : Children) → AreChildren cs → InOrder place_cmp (flat_of owner cs)
unfolding IsStrictlySortedBy
sorted-flat_of owner cs h = (flat-below_root cs, sorted-flat cs h.0 h.1)

-- ---- what is below a directory

below-placed : (m : Name) (names rest : Names) → IsTrue (is_directory (node_at names []))
    → list_any (λ e. is_below [] e.0) (placed m names ++ rest) ≡ true
unfolding get
below-placed m [] rest root = cc
below-placed m (e ∷ es) rest root = refl

below-branch : (m : Name) (child : Child) (rest : Names) → IsBranch child
    → list_any (λ e. is_below [] e.0) (placed m (branch child) ++ rest) ≡ true
below-branch m (Dir names) rest h = below-placed m names rest h.1
below-branch m (File number) rest h = refl
below-branch m (Link target) rest h = refl

-- a directory has entries below it exactly if it has children
pub has_entries-children : (owner : Owner) (cs : Children) (empty : Bool) → AreChildren cs
    → (IsTrue empty → length cs ≡ 0) → (length cs ≡ 0 → IsTrue empty) → not empty ≡ has_entries (flat_of owner cs) []
unfolding has_entries
has_entries-children owner [] true h to from = refl
has_entries-children owner [] false h to from = let it = from refl in cc
has_entries-children owner (c ∷ cs) true h to from = absurd (let it = to refl in omega arith)
has_entries-children owner (c ∷ cs) false h to from = sym (below-branch c.0 c.1 (flat cs) h.1.0)

-- ---- the children

-- a child that is found is one of them
pub branch-found : (cs : Children) (test : Name → Bool) (found : Option (Bor Child)) → AreBranches cs
    → option_copied found ≡ lookup test cs → IfSome found (λ child. IsBranch child.now)
branch-found cs test None branches is = tt
branch-found cs test (Some child) branches is = lookup_holds IsBranch test cs child.now branches (sym is)

-- ==== Directories that grow at their end.

-- ---- a child after all others

-- a child has an entry of its own, which comes first
pub record Starts (names : Names) : Type 0 where
  pub owner : Owner
  pub rest : Names
  pub names_are : names ≡ only_root owner ++ rest

pub starts : (names : Names) → IsBranch (children.Dir names) → Starts names
starts names is =
    let first = root_first names is.0 is.1 in
    record { owner = first.0; rest = first.1; names_are = first.2 }

-- at the first place below its directory
pub first_less : (o : Ordering) → ordering_then o Equal ≡ Less → o ≡ Less
first_less Less h = refl
first_less other h = absurd cc

own_less : (c : Name) (child : Child) (name : Name) → IsBranch child
    → AllByRecursion (λ place. place_cmp place (name ∷ []) ≡ Less) (keys_of (placed c (branch child)))
    → name_cmp c name ≡ Less
own_less c (children.Dir names) name is less =
    let s = starts names is in
    let all =
    subst (λ (ns : Names). AllByRecursion (λ place. place_cmp place (name ∷ []) ≡ Less) (keys_of (placed c ns)))
    s.names_are less in
    first_less (name_cmp c name) all.0
own_less c (children.File number) name is less = first_less (name_cmp c name) less.0
own_less c (children.Link target) name is less = first_less (name_cmp c name) less.0

keys_front : (P : Place → Type 0) (xs ys : Names) → AllByRecursion P (keys_of (xs ++ ys))
    → AllByRecursion P (keys_of xs)
keys_front P [] ys h = tt
keys_front P (x ∷ xs) ys h = (h.0, keys_front P xs ys h.1)

keys_back : (P : Place → Type 0) (xs ys : Names) → AllByRecursion P (keys_of (xs ++ ys)) → AllByRecursion P (keys_of ys)
keys_back P [] ys h = h
keys_back P (x ∷ xs) ys h = keys_back P xs ys h.1

names_less : (cs : Children) (name : Name) → AreBranches cs
    → AllByRecursion (λ place. place_cmp place (name ∷ []) ≡ Less) (keys_of (flat cs))
    → AllByRecursion (λ c. name_cmp c name ≡ Less) (keys_of cs)
names_less [] name are less = tt
names_less (c ∷ cs) name are less =
    let here = placed c.0 (branch c.1) in
    let P = λ (place : Place). place_cmp place (name ∷ []) ≡ Less in (
      own_less c.0 c.1 name are.0 (keys_front P here (flat cs) less),
      names_less cs name are.1 (keys_back P here (flat cs) less),
    )

flat_push : (cs : Children) (name : Name) (child : Child)
    → flat (cs ++ (name, child) ∷ []) ≡ flat cs ++ placed name (branch child)
flat_push [] name child = append-nil (placed name (branch child))
flat_push (c ∷ cs) name child = ap (λ (ns : Names). placed c.0 (branch c.1) ++ ns) (flat_push cs name child)
    ∙ sym (append_assoc (placed c.0 (branch c.1)) (flat cs) (placed name (branch child)))

-- a child that is put at the end of its directory's map comes at the end of its table
pub record IsPushed (owner : Owner) (cs : Children) (name : Name) (child : Child) : Type 0 where
  pub are : AreChildren (insert_entry name_cmp cs name child)
  pub flat_is : flat_of owner (insert_entry name_cmp cs name child) ≡ flat_of owner cs ++ placed name (branch child)

pub pushed : (owner : Owner) (cs : Children) (name : Name) (child : Child) → AreChildren cs → IsBranch child
    → AllByRecursion (λ place. place_cmp place (name ∷ []) ≡ Less) (keys_of (flat_of owner cs))
    → IsPushed owner cs name child
pushed owner cs name child are is less =
    let names = names_less cs name are.1 less.1 in
    let last : insert_entry name_cmp cs name child ≡ cs ++ (name, child) ∷ [] =
    insert_last nat_list_cmp_total cs name child names in
    record {
      are = subst AreChildren (sym last) (
        subst (IsStrictlySortedBy name_cmp) (sym (keys_append cs ((name, child) ∷ [])))
            (sorted_push name_cmp (keys_of cs) name are.0 names),
        all_both (λ (c : Name × Child). IsBranch c.1) cs ((name, child) ∷ []) are.1 (is, tt),
      );
      flat_is = ap (flat_of owner) last ∙ ap (λ (ns : Names). only_root owner ++ ns) (flat_push cs name child);
    }

-- ---- directories that are open

-- the last one is the last child of the one above it
pub names_push : (os : List Opened) (o : Opened) (top : Names)
    → names_from (os ++ o ∷ []) top ≡ names_from os (o.dir ++ placed o.name top)
names_push [] o top = refl
names_push (x ∷ os) o top = ap (λ (ns : Names). x.dir ++ placed x.name ns) (names_push os o top)

-- an entry at the end of the last one
pub names_more : (os : List Opened) (top : Names) (place : Place) (node : Node)
    → names_from os (top ++ (place, node) ∷ []) ≡ names_from os top ++ (place_from os ++ place, node) ∷ []
names_more [] top place node = refl
names_more (o ∷ os) top place node =
    let rest = names_from os top in
    let e : Place × Node = (place_from os ++ place, node) in
    ap (λ (ns : Names). o.dir ++ placed o.name ns) (names_more os top place node)
    ∙ ap (λ (ns : Names). o.dir ++ ns) (map-append (λ (q : Place × Node). (o.name ∷ q.0, q.1)) rest (e ∷ []))
    ∙ sym (append_assoc o.dir (placed o.name rest) ((o.name ∷ e.0, node) ∷ []))

-- ---- their order

one_less : (name : Name) (k l : Place) → place_cmp (name ∷ k) (name ∷ l) ≡ Less → place_cmp k l ≡ Less
one_less name k l less = sym (ap (λ o. ordering_then o (place_cmp k l)) (tied_itself nat_list_cmp_total name)) ∙ less

all_less : (P Q : Place → Type 0) (name : Name) (names : Names) → ((k : Place) → P (name ∷ k) → Q k)
    → AllByRecursion P (keys_of (placed name names)) → AllByRecursion Q (keys_of names)
all_less P Q name [] so h = tt
all_less P Q name (e ∷ es) so h = (so e.0 h.0, all_less P Q name es so h.1)

sorted_inner : (name : Name) (names : Names) → InOrder place_cmp (placed name names) → InOrder place_cmp names
unfolding IsStrictlySortedBy
sorted_inner name [] ordered = tt
sorted_inner name (e ∷ es) ordered = (
  all_less (λ k. place_cmp (name ∷ e.0) k ≡ Less) (λ k. place_cmp e.0 k ≡ Less) name es (one_less name e.0) ordered.0,
  sorted_inner name es ordered.1,
)

-- the last one is in order
pub sorted_top : (os : List Opened) (top : Names) → InOrder place_cmp (names_from os top) → InOrder place_cmp top
sorted_top [] top ordered = ordered
sorted_top (o ∷ os) top ordered =
    let inner = placed o.name (names_from os top) in
    let keys = subst (IsStrictlySortedBy place_cmp) (keys_append o.dir inner) ordered in
    sorted_top os top (sorted_inner o.name (names_from os top)
    (sorted_right place_cmp (keys_of o.dir) (keys_of inner) keys))

-- what comes after all entries comes after those of the last one
pub last_in_top : (os : List Opened) (top : Names) (place : Place)
    → AllByRecursion (λ other. place_cmp other (place_from os ++ place) ≡ Less) (keys_of (names_from os top))
    → AllByRecursion (λ other. place_cmp other place ≡ Less) (keys_of top)
last_in_top [] top place less = less
last_in_top (o ∷ os) top place less =
    let whole = place_from os ++ place in
    let P = λ (other : Place). place_cmp other (o.name ∷ whole) ≡ Less in
    let inner = keys_back P o.dir (placed o.name (names_from os top)) less in
    last_in_top os top place (all_less P (λ (other : Place). place_cmp other whole ≡ Less) o.name (names_from os top)
    (λ k. one_less o.name k whole) inner)

-- the last one comes after all children of the one above it
pub last_child : (os : List Opened) (o : Opened) (top : Names) → InOrder place_cmp (names_from (os ++ o ∷ []) top)
    → IsBranch (children.Dir top) → AllByRecursion (λ place. place_cmp place (o.name ∷ []) ≡ Less) (keys_of o.dir)
last_child os o top ordered is =
    let s = starts top is in
    let both = sorted_top os (o.dir ++ placed o.name top) (subst (InOrder place_cmp) (names_push os o top) ordered) in
    let whole = subst (λ (ns : Names). InOrder place_cmp (o.dir ++ placed o.name ns)) s.names_are both in
    let keys =
    subst (IsStrictlySortedBy place_cmp) (keys_append o.dir (placed o.name (only_root s.owner ++ s.rest))) whole in
    sorted_before place_cmp (keys_of o.dir) (o.name ∷ []) (keys_of (placed o.name s.rest)) keys

-- ---- the place of the last one

-- ---- a directory as a child

pub dir_branch : (owner : Owner) (cs : Children) → AreChildren cs → IsBranch (children.Dir (flat_of owner cs))
unfolding get
dir_branch owner cs are = (sorted-flat_of owner cs are, refl)

-- ---- an entry after all others

-- a place whose parent an open one begins with
pub front_open : (place front above : Place) (name : Name) → place ≡ front ++ name ∷ []
    → IsTrue (begins (parent place) above) → (length front ≤ length above) × (take (length front) above ≡ front)
front_open place front above name is begun =
    let own : parent place ≡ front = ap parent is ∙ parent-entered front name in
    let whole : above ≡ front ++ drop (length front) above =
    begins-front front above (subst (λ (p : Place). begins p above ≡ true) own begun) in (
      omega (arith, ap length whole, length-append front (drop (length front) above)),
      ap (take (length front)) whole ∙ take-append_seam front (drop (length front) above),
    )
