-- What a change of one child, or below one child, makes of the table of its directory.
use Rattle.sftp_tree.proofs.Imports.{◌≡◌, ◌&&◌, Bool, true, false, cond, [], ◌∷◌, ◌++◌, length, Option, Some, None}
use Rattle.sftp_tree.proofs.Imports.{is_some, IsTrue, IfSome, refl, sym, ap, subst, ◌∙◌, arith, is_eq, Result, Ok}
use Rattle.sftp_tree.proofs.Imports.{Err, OnErr, BTreeMap, IsOrdered, UpdatesBy, WritesThrough, get_by, is_at}
use Rattle.sftp_tree.proofs.Imports.{bytes_decides, texts_ties, nat_list_cmp_total, nat_list_eq_equiv, lookup}
use Rattle.sftp_tree.proofs.Imports.{set_value, tied_itself, append_assoc, set_value_same, Name, Place, name_cmp}
use Rattle.sftp_tree.proofs.Imports.{place_cmp, same_bytes, begins, InOrder, get, bytes_cmp-same, Owner, same_place}
use Rattle.sftp_tree.proofs.Imports.{Node, Child, Names, node_at, is_directory, is_taken, Children, branch, branch_of}
use Rattle.sftp_tree.proofs.Imports.{flat_of, IsBranch, AreBranches, AreChildren, IsGrafted, IsSet, ◌==◌}
use Rattle.sftp_tree.proofs.Imports.{option_copied, Bor, IsStrictlySortedBy, append-nil, nat_tests, IsFilled, IsMoved}
use Rattle.sftp_tree.specs.declared.nodes.Node.TheVariants as nodes
use Rattle.sftp_tree.specs.declared.entries.directories.Child.TheVariants.{Dir, File, Link}
use Rattle.sftp_tree.proofs.PlaceTables.{each-get, get-each, lookup_holds}
use Rattle.sftp_tree.proofs.Nesting.{get-flat, get-root, sorted-flat_of}

abbrev Map : Type 0
Map = BTreeMap Name Child

pub on-err : {T E P : Type 0} (r : Result T E) → P → OnErr r P
on-err (Ok x) p = tt
on-err (Err e) p = p

pub no-names : (place : Place) → length place ≡ 0 → place ≡ []
no-names [] none = refl
no-names (n ∷ ns) none = absurd (omega arith)

-- ---- one child

-- the children with this at a name, or with nothing
abbrev pub IsChanged : Name → Option Child → Children → Children → Type 0
IsChanged m o cs cs' = (q : Name) → get name_cmp cs' q ≡ cond (is_eq (name_cmp m q)) o (get name_cmp cs q)

pub children-changed : (m : Name) (o : Option Child) (cs cs' : Children) → AreChildren cs → IsChanged m o cs cs'
    → InOrder name_cmp cs' → IfSome o IsBranch → AreChildren cs'
children-changed m o cs cs' h changed ordered whole =
    (ordered, get-each name_cmp bytes_cmp-same nat_list_cmp_total (λ c. IsBranch c.1) cs' ordered found)
  where
    by : (b : Bool) (q : Name) (child : Child) → cond b o (get name_cmp cs q) ≡ Some child → IsBranch child
    by true q child is = subst (λ x. IfSome x IsBranch) is whole
    by false q child is = each-get name_cmp bytes_cmp-same (λ c. IsBranch c.1) cs q child h.1 is

    found : (q : Name) (child : Child) → get name_cmp cs' q ≡ Some child → IsBranch child
    found q child there = by (is_eq (name_cmp m q)) q child (sym (changed q) ∙ there)

first-false : (b : Bool) → (b && true) ≡ false → b ≡ false
first-false true e = cc
first-false false e = refl

pub grafted-child : (owner : Owner) (m : Name) (o : Option Child) (cs cs' : Children) → AreChildren cs
    → AreChildren cs' → IsChanged m o cs cs' → IsGrafted (m ∷ []) (flat_of owner cs) (flat_of owner cs') (branch_of o)
grafted-child owner m o cs cs' h h' changed =
    record { there = there; elsewhere = elsewhere; ordered = sorted-flat_of owner cs' h' }
  where
    there : (rest : Place) → node_at (flat_of owner cs') (m ∷ rest) ≡ node_at (branch_of o) rest
    there rest = get-flat owner cs' m rest h'.0 ∙ ap (λ x. node_at (branch_of x) rest)
        (changed m ∙ ap (λ q. cond (is_eq q) o (get name_cmp cs m)) (tied_itself nat_list_cmp_total m))

    elsewhere : (other : Place) → begins (m ∷ []) other ≡ false
        → node_at (flat_of owner cs') other ≡ node_at (flat_of owner cs) other
    elsewhere [] apart = get-root owner cs' ∙ sym (get-root owner cs)
    elsewhere (n ∷ ns) apart = get-flat owner cs' n ns h'.0 ∙ ap (λ x. node_at (branch_of x) ns)
        (changed n ∙ ap (λ q. cond q o (get name_cmp cs n)) (sym (texts_ties m n) ∙ first-false (same_bytes m n) apart))
        ∙ sym (get-flat owner cs n ns h.0)

-- ---- below one child

pub grafted-below : (m : Name) (place : Place) (before after names names' grafted : Names)
    → IsGrafted (m ∷ []) before after names' → ((rest : Place) → node_at before (m ∷ rest) ≡ node_at names rest)
    → IsGrafted place names names' grafted → IsGrafted (m ∷ place) before after grafted
grafted-below m place before after names names' grafted outer found inner = record {
  there = λ rest. outer.there (place ++ rest) ∙ inner.there rest;
  elsewhere = elsewhere;
  ordered = outer.ordered;
}
  where
    by : (b : Bool) (n : Name) (ns : Place) → same_bytes m n ≡ b → (b && begins place ns) ≡ false
        → node_at after (n ∷ ns) ≡ node_at before (n ∷ ns)
    by true n ns same apart =
        let is : m ≡ n = (bytes_decides m n).0 same in
        subst (λ (k : Name). node_at after (k ∷ ns) ≡ node_at before (k ∷ ns)) is
        (outer.there ns ∙ inner.elsewhere ns apart ∙ sym (found ns))
    by false n ns differ apart = outer.elsewhere (n ∷ ns) (ap (λ b. b && true) differ)

    elsewhere : (other : Place) → begins (m ∷ place) other ≡ false → node_at after other ≡ node_at before other
    elsewhere [] apart = outer.elsewhere [] refl
    elsewhere (n ∷ ns) apart = by (same_bytes m n) n ns refl apart

-- ---- what is found on the way

-- what a directory has at a place is what the child on the way has at the rest of it
pub found-below : (self : Names) (owner : Owner) (cs : Children) (place : Place) (m : Name) (ms : Place)
    (o : Option Child) → flat_of owner cs ≡ self → AreChildren cs → place ≡ m ∷ ms → o ≡ lookup (is_at (name_cmp m)) cs
    → node_at self place ≡ node_at (branch_of o) ms
unfolding get
found-below self owner cs place m ms o view h split found =
    ap (λ (x : Names). node_at x place) (sym view) ∙ ap (node_at (flat_of owner cs)) split ∙ get-flat owner cs m ms h.0
    ∙ ap (λ x. node_at (branch_of x) ms) (sym found)

pub found-branch : (cs : Children) (test : Name → Bool) (o : Option Child) → AreBranches cs → o ≡ lookup test cs
    → IfSome o IsBranch
found-branch cs test None h found = tt
found-branch cs test (Some child) h found = lookup_holds IsBranch test cs child h (sym found)

pub found-child : (cs : Children) (test : Name → Bool) (child : Child) → AreBranches cs → lookup test cs ≡ Some child
    → IsBranch child
found-child cs test child h found = lookup_holds IsBranch test cs child h found

-- a place without a child has nothing below it, nor has one below a child that is no directory
pub nothing-absent : (ms : Place) → node_at (branch_of None) ms ≡ None
unfolding get
nothing-absent ms = refl

pub nothing-below : (node : Node) (ms : Place) (name : Name) (rest : Place)
    → node_at (([], node) ∷ []) (ms ++ name ∷ rest) ≡ None
unfolding get
nothing-below node [] name rest = refl
nothing-below node (m ∷ ms) name rest = refl

no-directory : (found : Option Node) → found ≡ None → IsTrue (is_directory found) → ⊥
no-directory found is directory = let it : is_directory found ≡ false = ap is_directory is in cc

pub not-taken : (found : Option Node) → found ≡ None → IsTrue (is_taken found) → ⊥
not-taken found is taken = let it : is_taken found ≡ false = ap is_taken is in cc

pub directory-absent : (ms : Place) (found : Option Node) → found ≡ node_at (branch_of None) ms
    → IsTrue (is_directory found) → ⊥
directory-absent ms found is = no-directory found (is ∙ nothing-absent ms)

leaf : (node : Node) (ms : Place) → is_directory (Some node) ≡ false
    → is_directory (node_at (([], node) ∷ []) ms) ≡ false
unfolding get
leaf node [] none = none
leaf node (n ∷ ns) none = refl

pub directory-below : (ms : Place) (node : Node) (found : Option Node) → is_directory (Some node) ≡ false
    → found ≡ node_at (([], node) ∷ []) ms → IsTrue (is_directory found) → ⊥
directory-below ms node found none is directory =
    let it : is_directory found ≡ false = ap is_directory is ∙ leaf node ms none in
    cc

-- ---- through a child that is a directory

entered : (name : Name) (ms : Place) → begins (ms ++ name ∷ []) [] ≡ false
entered name [] = refl
entered name (m ∷ ms) = refl

-- it stays one whatever changes below it
pub still-branch : (names names' grafted : Names) (ms : Place) (name : Name) → IsBranch (Dir names)
    → IsGrafted (ms ++ name ∷ []) names names' grafted → IsBranch (Dir names')
still-branch names names' grafted ms name h g =
    (g.ordered, subst (λ found. IsTrue (is_directory found)) (sym (g.elsewhere [] (entered name ms))) h.1)

written-changed : (b b' : Map) (m : Name) (child child' : Child) → get_by (name_cmp m) b ≡ Some child
    → WritesThrough name_cmp (name_cmp m) b child' b' → IsChanged m (Some child') b.entries b'.entries
unfolding get
written-changed b b' m child child' there through = (through.3 (ap is_some there)).0

pub written-children : (b b' : Map) (m : Name) (child child' : Child) → AreChildren b.entries
    → get_by (name_cmp m) b ≡ Some child → IsBranch child' → WritesThrough name_cmp (name_cmp m) b child' b'
    → AreChildren b'.entries
written-children b b' m child child' h there whole through =
    children-changed m (Some child') b.entries b'.entries h (written-changed b b' m child child' there through) through.4
    whole

pub entries-back : (b b' : Map) (m : Name) (child child' : Child) → get_by (name_cmp m) b ≡ Some child → child' ≡ child
    → WritesThrough name_cmp (name_cmp m) b child' b' → b'.entries ≡ b.entries
entries-back b b' m child child' there same through = through.0 ∙ ap (set_value (is_at (name_cmp m)) b.entries) same
    ∙ set_value_same (is_at (name_cmp m)) b.entries child there

-- the old child written back
pub written-back : (self : Names) (owner : Owner) (b b' : Map) (m : Name) (child child' : Child)
    → flat_of owner b.entries ≡ self → get_by (name_cmp m) b ≡ Some child → child' ≡ child
    → WritesThrough name_cmp (name_cmp m) b child' b' → flat_of owner b'.entries ≡ self
written-back self owner b b' m child child' view there same through =
    ap (flat_of owner) (entries-back b b' m child child' there same through) ∙ view

pub written-here : (self : Names) (owner : Owner) (b b' : Map) (place : Place) (m : Name) (child child' given : Child)
    → flat_of owner b.entries ≡ self → AreChildren b.entries → get_by (name_cmp m) b ≡ Some child → IsBranch child'
    → WritesThrough name_cmp (name_cmp m) b child' b' → place ≡ m ∷ [] → child' ≡ given
    → IsGrafted place self (flat_of owner b'.entries) (branch given)
written-here self owner b b' place m child child' given view h there whole through is same =
    let h' = written-children b b' m child child' h there whole through in
    let changed = written-changed b b' m child child' there through in
    subst (λ (x : Names). IsGrafted place x (flat_of owner b'.entries) (branch given)) view
    (subst (λ (x : Place). IsGrafted x (flat_of owner b.entries) (flat_of owner b'.entries) (branch given)) (sym is) (subst (λ x. IsGrafted (m ∷ []) (flat_of owner b.entries) (flat_of owner b'.entries) (branch x)) same (grafted-child owner m (Some child') b.entries b'.entries h h' changed)))

-- nothing where nothing was
pub grafted-nothing : (self after : Names) (owner : Owner) (cs : Children) (place : Place)
    → flat_of owner cs ≡ self → AreChildren cs → after ≡ self
    → ((rest : Place) → node_at self (place ++ rest) ≡ None) → IsGrafted place self after []
grafted-nothing self after owner cs place view h same none = subst (λ (x : Names). IsGrafted place self x []) (sym same)
    (record {
      there = λ rest. none rest ∙ sym (nothing-absent rest);
      elsewhere = λ other apart. refl;
      ordered = subst (λ (x : Names). InOrder place_cmp x) view (sorted-flat_of owner cs h);
    })

-- the same where what is taken is nothing
pub taken-nothing : (self : Names) (owner : Owner) (b b' : Map) (parent : Place) (name : Name)
    → flat_of owner b.entries ≡ self → AreChildren b.entries → b'.entries ≡ b.entries
    → ((rest : Place) → node_at self (parent ++ name ∷ rest) ≡ node_at (branch_of None) rest)
    → IsGrafted (parent ++ name ∷ []) self (flat_of owner b'.entries) []
taken-nothing self owner b b' parent name view h same none =
    grafted-nothing self (flat_of owner b'.entries) owner b.entries (parent ++ name ∷ []) view h
    (ap (flat_of owner) same ∙ view)
    (λ rest. ap (node_at self) (append_assoc parent (name ∷ []) rest) ∙ none rest ∙ nothing-absent rest)

pub written-grafted : (self : Names) (owner : Owner) (b b' : Map) (place : Place) (m : Name) (ms : Place)
    (names names' grafted : Names) → flat_of owner b.entries ≡ self → AreChildren b.entries
    → get_by (name_cmp m) b ≡ Some (Dir names) → IsBranch (Dir names')
    → WritesThrough name_cmp (name_cmp m) b (Dir names') b' → place ≡ m ∷ ms
    → IsGrafted ms names names' grafted → IsGrafted place self (flat_of owner b'.entries) grafted
unfolding get
written-grafted self owner b b' place m ms names names' grafted view h there whole through split inner =
    let changed = written-changed b b' m (Dir names) (Dir names') there through in
    let h' = written-children b b' m (Dir names) (Dir names') h there whole through in
    let outer = grafted-child owner m (Some (Dir names')) b.entries b'.entries h h' changed in
    let found : (rest : Place) → node_at (flat_of owner b.entries) (m ∷ rest) ≡ node_at names rest =
    λ rest. get-flat owner b.entries m rest h.0 ∙ ap (λ x. node_at (branch_of x) rest) there in
    let whole = grafted-below m ms (flat_of owner b.entries) (flat_of owner b'.entries) names names' grafted outer found inner in
    subst (λ (x : Names). IsGrafted place x (flat_of owner b'.entries) grafted) view
    (subst (λ (x : Place). IsGrafted x (flat_of owner b.entries) (flat_of owner b'.entries) grafted) (sym split) whole)

-- ---- in the directory itself

pub updated-children : (b b' : Map) (m : Name) (o : Option Child) → AreChildren b.entries
    → UpdatesBy name_cmp (name_cmp m) b b' o → IsOrdered name_cmp b' → IfSome o IsBranch → AreChildren b'.entries
unfolding get
updated-children b b' m o h updates ordered whole = children-changed m o b.entries b'.entries h updates.0 ordered whole

pub updated-grafted : (self : Names) (owner : Owner) (b b' : Map) (place : Place) (m : Name) (o : Option Child)
    → flat_of owner b.entries ≡ self → AreChildren b.entries → AreChildren b'.entries
    → UpdatesBy name_cmp (name_cmp m) b b' o → place ≡ m ∷ []
    → IsGrafted place self (flat_of owner b'.entries) (branch_of o)
unfolding get
updated-grafted self owner b b' place m o view h h' updates is =
    subst (λ (x : Names). IsGrafted place x (flat_of owner b'.entries) (branch_of o)) view
    (subst (λ (x : Place). IsGrafted x (flat_of owner b.entries) (flat_of owner b'.entries) (branch_of o)) (sym is) (grafted-child owner m o b.entries b'.entries h h' updates.0))

-- ---- another owner

pub set-here : (self : Names) (owner owner' : Owner) (cs : Children) (place : Place) → flat_of owner cs ≡ self
    → AreChildren cs → place ≡ [] → IsSet place self (flat_of owner' cs) (nodes.Dir owner')
set-here self owner owner' cs place view h is =
    subst (λ (x : Names). IsSet place x (flat_of owner' cs) (nodes.Dir owner')) view
    (subst (λ (x : Place). IsSet x (flat_of owner cs) (flat_of owner' cs) (nodes.Dir owner')) (sym is)
    (record { here = get-root owner' cs; elsewhere = elsewhere; ordered = sorted-flat_of owner' cs h }))
  where
    elsewhere : (other : Place) → same_place other [] ≡ false
        → node_at (flat_of owner' cs) other ≡ node_at (flat_of owner cs) other
    elsewhere [] apart = cc
    elsewhere (n ∷ ns) apart = get-flat owner' cs n ns h.0 ∙ sym (get-flat owner cs n ns h.0)

set-below : (m : Name) (ms : Place) (before after names names' : Names) (node : Node)
    → IsGrafted (m ∷ []) before after names' → ((rest : Place) → node_at before (m ∷ rest) ≡ node_at names rest)
    → IsSet ms names names' node → IsSet (m ∷ ms) before after node
set-below m ms before after names names' node outer found inner =
    record { here = outer.there ms ∙ inner.here; elsewhere = elsewhere; ordered = outer.ordered }
  where
    by : (b : Bool) (n : Name) (ns : Place) → same_bytes n m ≡ b → (b && same_place ns ms) ≡ false
        → node_at after (n ∷ ns) ≡ node_at before (n ∷ ns)
    by true n ns same apart =
        let is : m ≡ n = sym ((bytes_decides n m).0 same) in
        subst (λ (k : Name). node_at after (k ∷ ns) ≡ node_at before (k ∷ ns)) is
        (outer.there ns ∙ inner.elsewhere ns apart ∙ sym (found ns))
    by false n ns differ apart = outer.elsewhere (n ∷ ns) (ap (λ b. b && true) (nat_list_eq_equiv.symm m n ∙ differ))

    elsewhere : (other : Place) → same_place other (m ∷ ms) ≡ false → node_at after other ≡ node_at before other
    elsewhere [] apart = outer.elsewhere [] refl
    elsewhere (n ∷ ns) apart = by (same_bytes n m) n ns refl apart

still-directory : (names names' : Names) (ms : Place) (owner : Owner) → IsBranch (Dir names)
    → IsSet ms names names' (nodes.Dir owner) → IsTrue (is_directory (node_at names' []))
still-directory names names' [] owner h set = subst (λ o. IsTrue (is_directory o)) (sym set.here) refl
still-directory names names' (m ∷ ms) owner h set =
    subst (λ o. IsTrue (is_directory o)) (sym (set.elsewhere [] refl)) h.1

pub set-branch : (names names' : Names) (ms : Place) (owner : Owner) → IsBranch (Dir names)
    → IsSet ms names names' (nodes.Dir owner) → IsBranch (Dir names')
set-branch names names' ms owner h set = (set.ordered, still-directory names names' ms owner h set)

pub written-set : (self : Names) (owner : Owner) (b b' : Map) (place : Place) (m : Name) (ms : Place)
    (names names' : Names) (node : Node) → flat_of owner b.entries ≡ self → AreChildren b.entries
    → get_by (name_cmp m) b ≡ Some (Dir names) → IsBranch (Dir names')
    → WritesThrough name_cmp (name_cmp m) b (Dir names') b' → place ≡ m ∷ ms
    → IsSet ms names names' node → IsSet place self (flat_of owner b'.entries) node
unfolding get
written-set self owner b b' place m ms names names' node view h there whole through split inner =
    let changed = written-changed b b' m (Dir names) (Dir names') there through in
    let h' = written-children b b' m (Dir names) (Dir names') h there whole through in
    let outer = grafted-child owner m (Some (Dir names')) b.entries b'.entries h h' changed in
    let found : (rest : Place) → node_at (flat_of owner b.entries) (m ∷ rest) ≡ node_at names rest =
    λ rest. get-flat owner b.entries m rest h.0 ∙ ap (λ x. node_at (branch_of x) rest) there in
    let whole = set-below m ms (flat_of owner b.entries) (flat_of owner b'.entries) names names' node outer found inner in
    subst (λ (x : Names). IsSet place x (flat_of owner b'.entries) node) view
    (subst (λ (x : Place). IsSet x (flat_of owner b.entries) (flat_of owner b'.entries) node) (sym split) whole)

-- ==== What a directory has once a child moved to another place.

-- ---- an empty directory

pub root-branch : (names : Names) (owner : Owner) → names ≡ ([], nodes.Dir owner) ∷ [] → IsBranch (Dir names)
unfolding IsStrictlySortedBy get
root-branch names owner is = subst (λ (x : Names). IsBranch (Dir x)) (sym is) ((tt, tt), refl)

root-taken : (names : Names) (owner : Owner) → names ≡ ([], nodes.Dir owner) ∷ [] → is_taken (node_at names []) ≡ true
unfolding get
root-taken names owner is = ap (λ (x : Names). is_taken (node_at x [])) is

-- ---- places that do not begin one another

pub beside : (a b rest : Place) → begins a b ≡ false → begins b a ≡ false → begins a (b ++ rest) ≡ false
beside [] b rest one other = cc
beside (m ∷ ms) [] rest one other = cc
beside (m ∷ ms) (n ∷ ns) rest one other =
    by (same_bytes m n) (beside ms ns rest) one (ap (λ b. b && begins ns ms) (nat_list_eq_equiv.symm m n) ∙ other)
  where
    by : (b : Bool) → (begins ms ns ≡ false → begins ns ms ≡ false → begins ms (ns ++ rest) ≡ false)
        → (b && begins ms ns) ≡ false → (b && begins ns ms) ≡ false → (b && begins ms (ns ++ rest)) ≡ false
    by true behind one other = behind one other
    by false behind one other = refl

-- ---- look-ups

step : (dir : Names) (left : Place) (n : Name) (rest : Place) (found : Option (Bor Child)) → left ≡ n ∷ rest
    → ((below : Place) → node_at dir (n ∷ below) ≡ node_at (branch_of (option_copied found)) below)
    → (more : Place) → node_at dir (left ++ more) ≡ node_at (branch_of (option_copied found)) (rest ++ more)
step dir left n rest found is below more = ap (λ (place : Place). node_at dir (place ++ more)) is ∙ below (rest ++ more)

alone-more : (node : Node) (rest more : Place) → false ≡ (length rest == 0)
    → node_at (([], node) ∷ []) (rest ++ more) ≡ None
unfolding get
alone-more node [] more full = cc
alone-more node (n ∷ ns) more full = refl

pub nothing : (place : Place) → node_at [] place ≡ None
unfolding get
nothing place = refl

-- below a child that is no directory
pub step-alone : (dir : Names) (left : Place) (n : Name) (rest : Place) (found : Option (Bor Child)) (child : Bor Child)
    (node : Node) → left ≡ n ∷ rest
    → ((below : Place) → node_at dir (n ∷ below) ≡ node_at (branch_of (option_copied found)) below)
    → found ≡ Some child → branch child.now ≡ ([], node) ∷ [] → false ≡ (length rest == 0)
    → (more : Place) → node_at dir (left ++ more) ≡ None
step-alone dir left n rest found child node split below is alone full more = step dir left n rest found split below more
    ∙ ap (λ o. node_at (branch_of (option_copied o)) (rest ++ more)) is ∙ ap (λ t. node_at t (rest ++ more)) alone
    ∙ alone-more node rest more full

-- at a child that is no directory
pub step-here : (dir : Names) (left : Place) (n : Name) (rest : Place) (found : Option (Bor Child)) (child : Bor Child)
    (node : Node) → left ≡ n ∷ rest
    → ((below : Place) → node_at dir (n ∷ below) ≡ node_at (branch_of (option_copied found)) below)
    → found ≡ Some child → branch child.now ≡ ([], node) ∷ [] → true ≡ (length rest == 0)
    → (more : Place) → node_at dir (left ++ more) ≡ node_at (([], node) ∷ []) more
step-here dir left n [] found child node split below is alone empty more = step dir left n [] found split below more
    ∙ ap (λ o. node_at (branch_of (option_copied o)) more) is ∙ ap (λ t. node_at t more) alone
step-here dir left n (m ∷ ms) found child node split below is alone empty more = absurd (grind (arith, nat_tests))

pub step-none : (dir : Names) (left : Place) (n : Name) (rest : Place) (found : Option (Bor Child)) → left ≡ n ∷ rest
    → ((below : Place) → node_at dir (n ∷ below) ≡ node_at (branch_of (option_copied found)) below)
    → found ≡ None → (more : Place) → node_at dir (left ++ more) ≡ None
step-none dir left n rest found split below is more = step dir left n rest found split below more
    ∙ ap (λ o. node_at (branch_of (option_copied o)) (rest ++ more)) is ∙ nothing (rest ++ more)

pub step-in : (dir : Names) (left : Place) (n : Name) (rest : Place) (found : Option (Bor Child)) (child : Bor Child)
    (inner : Names) → left ≡ n ∷ rest
    → ((below : Place) → node_at dir (n ∷ below) ≡ node_at (branch_of (option_copied found)) below)
    → found ≡ Some child → child.now ≡ Dir inner
    → (more : Place) → node_at inner (rest ++ more) ≡ node_at dir (left ++ more)
step-in dir left n rest found child inner split below is dirs more = sym (step dir left n rest found split below more
    ∙ ap (λ o. node_at (branch_of (option_copied o)) (rest ++ more)) is
    ∙ ap (λ c. node_at (branch c) (rest ++ more)) dirs)

directory-taken : (o : Option Node) → IsTrue (is_directory o) → is_taken o ≡ true
directory-taken None h = cc
directory-taken (Some node) h = refl

pub branch-taken : (child : Child) → IsBranch child → is_taken (node_at (branch child) []) ≡ true
unfolding get
branch-taken (Dir names) h = directory-taken (node_at names []) h.1
branch-taken (File number) h = refl
branch-taken (Link target) h = refl

-- a directory has a child of a name if the place is taken
pub child-taken : (found : Option (Bor Child)) → IfSome found (λ child. IsBranch child.now)
    → is_some found ≡ is_taken (node_at (branch_of (option_copied found)) [])
child-taken None h = sym (ap is_taken (nothing []))
child-taken (Some child) h = sym (branch-taken child.now h)

-- ---- a place that is filled

pub filled : (place : Place) (before after new : Names) (owner : Owner) (was : Bool) → new ≡ ([], nodes.Dir owner) ∷ []
    → IsGrafted place before after new → was ≡ is_taken (node_at before place) → was ≡ false
    → IsFilled place before after false
filled place before after new owner was is g taken free = record {
  taken = ap (λ x. is_taken (node_at after x)) (sym (append-nil place)) ∙ ap is_taken (g.there [])
      ∙ root-taken new owner is;
  was = sym free ∙ taken;
  same = λ never. cc;
  elsewhere = g.elsewhere;
}

-- ---- a child that moved

pub moved : (old new : Place) (before filled first second after held empty : Names) (was : Bool)
    → begins old new ≡ false → begins new old ≡ false → IsFilled new before filled was
    → IsGrafted old filled first empty → ((rest : Place) → node_at held rest ≡ node_at filled (old ++ rest))
    → IsGrafted new first second held → IsGrafted old second after [] → IsMoved old new before after
moved old new before filled first second after held empty was apart alone f g2 moving g3 g4 = record {
  there = λ rest. g4.elsewhere (new ++ rest) (beside old new rest apart alone) ∙ g3.there rest ∙ moving rest
      ∙ f.elsewhere (old ++ rest) (beside new old rest alone apart);
  left = λ rest. g4.there rest ∙ nothing rest;
  elsewhere = λ other not_old not_new.
      g4.elsewhere other not_old ∙ g3.elsewhere other not_new ∙ g2.elsewhere other not_old
      ∙ f.elsewhere other not_new;
  ordered = g4.ordered;
}

-- what was at the new place
pub gone-free : (new : Place) (before filled : Names) → IsFilled new before filled false → None ≡ node_at before new
gone-free new before filled f = by (node_at before new) (sym f.was)
  where
    by : (o : Option Node) → is_taken o ≡ false → None ≡ o
    by None free = refl
    by (Some node) free = cc

-- the same, where the places are given by their parents and last names
pub moved-at : (old new o n : Place) (before filled first second after held empty : Names) (was : Bool) → old ≡ o
    → new ≡ n → begins old new ≡ false → begins new old ≡ false → IsFilled n before filled was
    → IsGrafted o filled first empty → ((rest : Place) → node_at held rest ≡ node_at filled (o ++ rest))
    → IsGrafted n first second held → IsGrafted o second after [] → IsMoved old new before after
moved-at old new o n before filled first second after held empty was oldis newis apart alone f g2 moving g3 g4 =
    subst (λ (x : Place). IsMoved x new before after) (sym oldis)
    (subst (λ (y : Place). IsMoved o y before after) (sym newis)
    (moved o n before filled first second after held empty was ((λ i. begins (sym oldis i) (sym newis i)) ∙ apart)
    ((λ i. begins (sym newis i) (sym oldis i)) ∙ alone) f g2 moving g3 g4))
