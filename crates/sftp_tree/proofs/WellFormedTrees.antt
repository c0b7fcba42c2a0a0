-- Well-formed trees: the nodes at places, above and below one another, and under their names.
use Rattle.sftp_tree.proofs.Imports.{◌≡◌, Bool, true, false, [], ◌∷◌, nat_eq, refl, sym, ap, Option, Some, None}
use Rattle.sftp_tree.proofs.Imports.{IsTrue, Ordering, is_at, AllByRecursion, list_all, pointwise, same_text, Place}
use Rattle.sftp_tree.proofs.Imports.{place_cmp, Table, get, same_place, Node, Names, Tree, IsKept, IsNode, node_at}
use Rattle.sftp_tree.proofs.Imports.{is_taken, ℕ, zero, suc, ◌+◌, ◌-◌, ◌<◌, ◌≤◌, ◌&&◌, ◌++◌, length, take, drop}
use Rattle.sftp_tree.proofs.Imports.{subst, ◌∙◌, arith, nat_lt, inl, inr, nat_list_eq_equiv, take-append_seam}
use Rattle.sftp_tree.proofs.Imports.{take-take, length-take-le, take_all, and_parts, and_from, ltb-true, ltb-false}
use Rattle.sftp_tree.proofs.Imports.{false_from_ne_true, both_ways, cases_lt, cases_Bool, Name, parent, begins}
use Rattle.sftp_tree.proofs.Imports.{is_below, same_bytes, InOrder, begins-is, begins-front, below-begins}
use Rattle.sftp_tree.proofs.Imports.{place_cmp-total, place_cmp-same, is_directory, has_entries, goes_inside, ◌≢◌}
use Rattle.sftp_tree.proofs.Imports.{cond, is_eq, Equal, Equal-is, are_names, get-put, get-put_elsewhere, get-without}
use Rattle.sftp_tree.proofs.Imports.{InOrder-put, InOrder-without, IsOwner, is_root, Owner, Dir, Files, WellFormed}
use Rattle.sftp_tree.proofs.Imports.{with_node, without_node, rules, List, replicate, unwrap_or, lt-ltb}
use Rattle.sftp_tree.proofs.Imports.{list_all-append, Attrs, AreBytes, are_bytes, Content, IsAttrs, IsContent}
use Rattle.sftp_tree.proofs.Imports.{directory_owner, file_owner, changed_owner, resized, changed_content}
use Rattle.std.specs.Cmp.{first_so, second_so}
use Rattle.sftp_tree.proofs.PlaceTables.{each-all, lookup_holds, get-each, each-get, each-put}
use Rattle.sftp_tree.proofs.PlaceTables.{has_entries-below, has_entries-none, has_entries-child}
use Rattle.sftp_path.proofs.Table.Laws.{get-without_elsewhere}
use Rattle.sftp_tree.proofs.PlaceTables.{each-without}
use Rattle.std.specs.Option.{option_map}

-- ==== The nodes at the places that paths lead to, as the calls for requests find them.

pub absent-of : (found : Option Node) → is_taken found ≡ false → found ≡ None
absent-of None e = refl
absent-of (Some it) e = cc

pub taken-of : (found : Option Node) (it : Node) → found ≡ Some it → is_taken found ≡ true
taken-of found it e = ap is_taken e

same-names : (p q : Place) → pointwise (pointwise nat_eq) p q ≡ true → p ≡ q
same-names [] [] e = refl
same-names [] (n ∷ ns) e = cc
same-names (m ∷ ms) [] e = cc
same-names (m ∷ ms) (n ∷ ns) e =
    λ i. same_text m n (sym (first_so (pointwise nat_eq m n) (pointwise (pointwise nat_eq) ms ns) e)) i ∷ same-names ms ns (second_so (pointwise nat_eq m n) (pointwise (pointwise nat_eq) ms ns) e) i

-- a taken place and a free one are not the same
pub apart-of : (names : Names) (old new : Place) → is_taken (node_at names old) ≡ true → node_at names new ≡ None → same_place old new ≡ false
apart-of names old new there free = by (same_place old new) refl
  where
    by : (b : Bool) → same_place old new ≡ b → b ≡ false
    by false e = refl
    by true e =
        let one : is_taken (node_at names old) ≡ is_taken (node_at names new) = ap (λ place. is_taken (node_at names place)) (same-names old new e) in
        let none : is_taken (node_at names new) ≡ false = ap is_taken free in
        cc

-- ---- what is found in a table keeps what each entry keeps

pub found-keeps : {K X : Type 0} (cmp : K → K → Ordering) (P : X → Type 0) (key : K) (value : X) (es : Table K X) → AllByRecursion (λ e. P e.1) es → get cmp es key ≡ Some value → P value
unfolding get
found-keeps cmp P key value es all there = lookup_holds P (is_at (cmp key)) es value all there

pub found-passes : {K X : Type 0} (cmp : K → K → Ordering) (passes : X → Bool) (key : K) (value : X) (es : Table K X) → list_all (λ e. passes e.1) es ≡ true → get cmp es key ≡ Some value → passes value ≡ true
found-passes cmp passes key value es all there = found-keeps cmp (λ x. IsTrue (passes x)) key value es (each-all (λ e. passes e.1) es all) there

-- the node at a place of a tree is a node of one
pub node-kept : (t : Tree) (place : Place) (it : Node) → IsKept t → node_at t.names place ≡ Some it → IsNode t.files it
node-kept t place it kept there = found-keeps place_cmp (IsNode t.files) place it t.names kept.well_formed.nodes there

-- ==== Places of a tree, above and below one another: each place above a taken one is a directory.

-- each taken place has a directory for its parent
abbrev pub HaveParents : Names → Type 0
HaveParents names = (place : Place) → IsTrue (is_taken (node_at names place)) → IsTrue (is_directory (node_at names (parent place)))

pub directory-taken : (o : Option Node) → IsTrue (is_directory o) → IsTrue (is_taken o)
directory-taken None h = absurd cc
directory-taken (Some it) h = refl

-- ---- lists of names

pub below-further : (p : Place) (n : Name) (ns : Place) → is_below p (p ++ n ∷ ns) ≡ true
below-further [] n ns = refl
below-further (m ∷ ms) n ns = ap (λ b. b && is_below ms (ms ++ n ∷ ns)) (nat_list_eq_equiv.refl m) ∙ below-further ms n ns

-- a place is in front of what is below it
pub take-below : (p q : Place) → is_below p q ≡ true → (take (length p) q ≡ p) × (length p < length q)
take-below p q below =
    let parts = and_parts (begins p q) (nat_lt (length p) (length q)) (sym (below-begins p q) ∙ below) in
    (ap (take (length p)) (begins-front p q parts.0) ∙ take-append_seam p (drop (length p) q), ltb-true (length p) (length q) parts.1)

-- what begins a parent begins the place
begins-parent : (p q : Place) (k : ℕ) → begins p (take k q) ≡ true → begins p q ≡ true
begins-parent [] q k h = refl
begins-parent (m ∷ ms) [] (suc k) h = absurd cc
begins-parent (m ∷ ms) (n ∷ ns) (suc k) h =
    let parts = and_parts (same_bytes m n) (begins ms (take k ns)) h in
    and_from (same_bytes m n) (begins ms ns) parts.0 (begins-parent ms ns k parts.1)
begins-parent (m ∷ ms) q k h = absurd cc

-- what does not begin a place does not begin its parent
pub apart-parent : (p q : Place) → begins p q ≡ false → begins p (parent q) ≡ false
apart-parent p q apart =
    false_from_ne_true (begins p (parent q)) (λ h. both_ways (begins p q) apart (begins-parent p q (length q - 1) h))

-- ---- in a tree

climb : (names : Names) → HaveParents names → (more : ℕ) (q : Place) (n : ℕ) → length q ≡ n + 1 + more → IsTrue (is_taken (node_at names q)) → IsTrue (is_directory (node_at names (take n q)))
climb names parents zero q n is taken =
    let one : length q - 1 ≡ n = omega arith in
    subst (λ k. IsTrue (is_directory (node_at names (take k q)))) one (parents q taken)
climb names parents (suc more) q n is taken =
    let shorter : length (parent q) ≡ length q - 1 = length-take-le (length q - 1) q (omega arith) in
    let less : n ≤ length q - 1 = omega arith in
    subst (λ p. IsTrue (is_directory (node_at names p))) (take-take n (length q - 1) q less)
    (climb names parents more (parent q) n (omega arith) (directory-taken (node_at names (parent q)) (parents q taken)))

-- each place above a taken one is a directory
pub above-directory : (names : Names) (p q : Place) → HaveParents names → is_below p q ≡ true → IsTrue (is_taken (node_at names q)) → IsTrue (is_directory (node_at names p))
above-directory names p q parents below taken =
    let front = take-below p q below in
    subst (λ x. IsTrue (is_directory (node_at names x))) front.0
    (climb names parents (length q - (length p + 1)) q (length p) (omega (arith, front.1)) taken)

-- a directory's parents are directories
pub front-directory : (names : Names) (q : Place) (n : ℕ) → HaveParents names → n ≤ length q → IsTrue (is_directory (node_at names q)) → IsTrue (is_directory (node_at names (take n q)))
front-directory names q n parents within directory =
    elim (cases_lt n (length q)) [
      | inl less ↦ climb names parents (length q - (n + 1)) q n (omega arith) (directory-taken (node_at names q) directory)
      | inr whole ↦ subst (λ p. IsTrue (is_directory (node_at names p))) (sym (take_all n q whole)) directory
    ]

-- where a test and what it is tested with do not both hold
pub second-false : (a b : Bool) → a ≡ true → (a && b) ≡ false → b ≡ false
second-false true b first h = h
second-false false b first h = absurd cc

-- what begins a place is that place, or the place is below it
pub begins-or-same : (p q : Place) → begins p q ≡ true → is_below p q ≡ false → same_place p q ≡ true
begins-or-same p q begun apart =
    let none = second-false (begins p q) (nat_lt (length p) (length q)) begun (sym (below-begins p q) ∙ apart) in
    ap (same_place p) (sym (take_all (length p) q (ltb-false (length p) (length q) none))) ∙ begins-is p q ∙ begun

-- a place whose parent is a directory is below no other but a directory
pub apart-from : (names : Names) (old new : Place) → HaveParents names → goes_inside names old new ≡ false → same_place old new ≡ false → IsTrue (is_directory (node_at names (parent new))) → begins old new ≡ false
apart-from names old new parents outside differ above = false_from_ne_true (begins old new) begun
  where
    inside : is_below old new ≡ true → ⊥
    inside below =
        let front = take-below old new below in
        let shorter : length (parent new) ≡ length new - 1 = length-take-le (length new - 1) new (omega arith) in
        let within : length old ≤ length new - 1 = omega (arith, front.1) in
        let is : take (length old) (parent new) ≡ old = take-take (length old) (length new - 1) new within ∙ front.0 in
        let directory = subst (λ p. IsTrue (is_directory (node_at names p))) is (front-directory names (parent new) (length old) parents (omega arith) above) in
        both_ways (goes_inside names old new) outside (and_from (is_directory (node_at names old)) (is_below old new) directory below)

    begun : begins old new ≡ true → ⊥
    begun h =
        elim (cases_Bool (is_below old new)) [
          | inl below ↦ inside below
          | inr apart ↦ both_ways (same_place old new) differ (begins-or-same old new h apart)
        ]

pub nothing-below : (names : Names) (place : Place) → InOrder place_cmp names → HaveParents names → is_directory (node_at names place) ≡ false → has_entries names place ≡ false
nothing-below names place order parents none = has_entries-none place names
    (get-each place_cmp place_cmp-same place_cmp-total (λ e. is_below place e.0 ≡ false) names order
    (λ q it there. false_from_ne_true (is_below place q) (λ below. both_ways (is_directory (node_at names place)) none (above-directory names place q parents below (taken-of (node_at names q) it there)))))

pub alone-there : (names : Names) (place : Place) → has_entries names place ≡ false → (n : Name) (ns : Place) → node_at names (place ++ n ∷ ns) ≡ None
alone-there names place empty n ns = absent-of (node_at names (place ++ n ∷ ns))
    (false_from_ne_true (is_taken (node_at names (place ++ n ∷ ns))) (λ taken. both_ways (has_entries names place) empty (has_entries-below place (place ++ n ∷ ns) names (below-further place n ns) taken)))

-- ==== What makes a table of names that of a tree with some files, and that each change of one name keeps it.

pub record NamesFit (files : Files) (names : Names) : Type 0 where
  pub ordered : InOrder place_cmp names
  pub named : AllByRecursion (λ e. IsTrue (are_names e.0)) names
  pub nodes : AllByRecursion (λ e. IsNode files e.1) names
  pub root : IsTrue (is_directory (node_at names []))
  pub parents : HaveParents names

pub names-of : (t : Tree) → WellFormed t → NamesFit t.files t.names
names-of t well = record { ordered = well.ordered; named = well.named; nodes = well.nodes; root = well.root; parents = well.parents }

-- a tree with other names is one, where they are names of its files
pub well-formed-names : (t : Tree) (names : Names) → WellFormed t → NamesFit t.files names → WellFormed (record t { names = names })
well-formed-names t names well fit = record {
  ordered = fit.ordered;
  named = fit.named;
  nodes = fit.nodes;
  root = fit.root;
  parents = fit.parents;
  numbered = well.numbered;
  contents = well.contents;
  given = well.given;
  pins = well.pins;
  pinned = well.pinned;
  limits = well.limits;
  home = well.home;
  uid = well.uid;
  gid = well.gid;
}

-- ---- one entry more

absent-directory : (found : Option Node) → found ≡ None → is_directory found ≡ true → ⊥
absent-directory None absent directory = cc
absent-directory (Some it) absent directory = cc

-- a directory stays where another place is new
pub stays-put : (names : Names) (place : Place) (it : Node) (q : Place) → node_at names place ≡ None → IsTrue (is_directory (node_at names q)) → IsTrue (is_directory (node_at (with_node names place it) q))
stays-put names place it q absent directory =
    let differ : place_cmp q place ≢ Equal = λ e. absent-directory (node_at names q) (ap (node_at names) (place_cmp-same q place e) ∙ absent) directory in
    ap is_directory (get-put_elsewhere place_cmp place_cmp-total names place q it differ) ∙ directory

parents-put : (names : Names) (place : Place) (it : Node) → node_at names place ≡ None → IsTrue (is_directory (node_at names (parent place))) → HaveParents names → HaveParents (with_node names place it)
parents-put names place it absent above parents q taken =
    by (is_eq (place_cmp q place)) refl (ap is_taken (sym (get-put place_cmp place_cmp-total names place it q)) ∙ taken)
  where
    by : (b : Bool) → is_eq (place_cmp q place) ≡ b → is_taken (cond b (Some it) (node_at names q)) ≡ true → IsTrue (is_directory (node_at (with_node names place it) (parent q)))
    by true same here =
        let one : q ≡ place = place_cmp-same q place ((Equal-is (place_cmp q place)).0 same) in
        stays-put names place it (parent q) absent (subst (λ p. IsTrue (is_directory (node_at names (parent p)))) (sym one) above)
    by false apart there = stays-put names place it (parent q) absent (parents q there)

-- with an entry at a new place, whose parent is a directory
pub names-put : (files : Files) (names : Names) (place : Place) (it : Node) → NamesFit files names → IsTrue (are_names place) → node_at names place ≡ None → IsTrue (is_directory (node_at names (parent place))) → IsNode files it → NamesFit files (with_node names place it)
names-put files names place it fit named absent above is_node = record {
  ordered = InOrder-put place_cmp place_cmp-total names place it fit.ordered;
  named = each-put place_cmp place_cmp-same place_cmp-total (λ e. IsTrue (are_names e.0)) names place it fit.ordered named fit.named;
  nodes = each-put place_cmp place_cmp-same place_cmp-total (λ e. IsNode files e.1) names place it fit.ordered is_node fit.nodes;
  root = stays-put names place it [] absent fit.root;
  parents = parents-put names place it absent above fit.parents;
}

-- ---- another owner of a directory

-- a directory for another, or not: whatever does not tell one directory from another says the same of each place
same-put : (tells : Option Node → Bool) (names : Names) (place : Place) (before owner : Owner) (q : Place) → node_at names place ≡ Some (Dir before) → tells (Some (Dir owner)) ≡ tells (Some (Dir before)) → tells (node_at (with_node names place (Dir owner)) q) ≡ tells (node_at names q)
same-put tells names place before owner q there alike =
    ap tells (get-put place_cmp place_cmp-total names place (Dir owner) q) ∙ by (is_eq (place_cmp q place)) refl
  where
    by : (b : Bool) → is_eq (place_cmp q place) ≡ b → tells (cond b (Some (Dir owner)) (node_at names q)) ≡ tells (node_at names q)
    by true same =
        let one : q ≡ place = place_cmp-same q place ((Equal-is (place_cmp q place)).0 same) in
        alike ∙ ap tells (sym there ∙ ap (node_at names) (sym one))
    by false apart = refl

pub names-owner : (files : Files) (names : Names) (place : Place) (before owner : Owner) → NamesFit files names → node_at names place ≡ Some (Dir before) → IsOwner owner → NamesFit files (with_node names place (Dir owner))
names-owner files names place before owner fit there is_owner = record {
  ordered = InOrder-put place_cmp place_cmp-total names place (Dir owner) fit.ordered;
  named =
      each-put place_cmp place_cmp-same place_cmp-total (λ e. IsTrue (are_names e.0)) names place (Dir owner) fit.ordered
      (each-get place_cmp place_cmp-same (λ e. IsTrue (are_names e.0)) names place (Dir before) fit.named there) fit.named;
  nodes = each-put place_cmp place_cmp-same place_cmp-total (λ e. IsNode files e.1) names place (Dir owner) fit.ordered is_owner fit.nodes;
  root = same-put is_directory names place before owner [] there refl ∙ fit.root;
  parents = λ q taken. same-put is_directory names place before owner (parent q) there refl
      ∙ fit.parents q (sym (same-put is_taken names place before owner q there refl) ∙ taken);
}

-- ---- one entry less

-- a directory stays where another place goes
pub stays-without : (names : Names) (place q : Place) → InOrder place_cmp names → place_cmp place q ≢ Equal → IsTrue (is_directory (node_at names q)) → IsTrue (is_directory (node_at (without_node names place) q))
stays-without names place q order differ directory =
    ap is_directory (get-without_elsewhere place_cmp place_cmp-total names place q order differ) ∙ directory

root-apart : (place : Place) → is_root place ≡ false → place ≡ [] → ⊥
root-apart [] apart is = cc
root-apart (n ∷ ns) apart is = cc

-- no place that is taken has a directory without entries for its parent
parent-apart : (names : Names) (place q : Place) → is_root place ≡ false → has_entries names place ≡ false → IsTrue (is_taken (node_at names q)) → place ≡ parent q → ⊥
parent-apart names place [] apart empty taken is = root-apart place apart is
parent-apart names place (n ∷ ns) apart empty taken is =
    let has = has_entries-child (n ∷ ns) names (omega arith) taken in
    let has_not = ap (has_entries names) (sym is) ∙ empty in
    cc

parents-without : (names : Names) (place : Place) → InOrder place_cmp names → is_root place ≡ false → has_entries names place ≡ false → HaveParents names → HaveParents (without_node names place)
parents-without names place order apart empty parents q taken =
    by (is_eq (place_cmp place q)) (ap is_taken (sym (get-without place_cmp place_cmp-total names place q order)) ∙ taken)
  where
    by : (b : Bool) → is_taken (cond b None (node_at names q)) ≡ true → IsTrue (is_directory (node_at (without_node names place) (parent q)))
    by true gone = absurd cc
    by false there =
        stays-without names place (parent q) order (λ e. parent-apart names place q apart empty there (place_cmp-same place (parent q) e)) (parents q there)

-- without a place that is not the root and has nothing below it
pub names-without : (files : Files) (names : Names) (place : Place) → NamesFit files names → is_root place ≡ false → has_entries names place ≡ false → NamesFit files (without_node names place)
names-without files names place fit apart empty = record {
  ordered = InOrder-without place_cmp names place fit.ordered;
  named = each-without (λ e. IsTrue (are_names e.0)) place names fit.named;
  nodes = each-without (λ e. IsNode files e.1) place names fit.nodes;
  root = stays-without names place [] fit.ordered (λ e. root-apart place apart (place_cmp-same place [] e)) fit.root;
  parents = parents-without names place fit.ordered apart empty fit.parents;
}

-- ==== Fields that fit their places on the wire, as parts of a tree: paths, owners and contents.

pub bytes-fit : (bytes : List ℕ) → AreBytes bytes → IsTrue (are_bytes bytes)
bytes-fit [] fits = refl
bytes-fit (b ∷ bytes) fits = λ i. lt-ltb b 256 fits.0 i && bytes-fit bytes fits.1 i

-- ---- owners

-- of a new directory
pub owner-fits : (t : Tree) (attrs : Attrs) → WellFormed t → IsAttrs attrs → IsOwner (directory_owner t attrs)
owner-fits t attrs well fits = search rules

-- of a new file
pub file-owner-fits : (t : Tree) (attrs : Attrs) → WellFormed t → IsAttrs attrs → IsOwner (file_owner t attrs)
file-owner-fits t attrs well fits = search rules

-- of what is there already
pub changed-owner-fits : (attrs : Attrs) (owner : Owner) → IsAttrs attrs → IsOwner owner → IsOwner (changed_owner attrs owner)
changed-owner-fits attrs owner fits before = search rules

-- ---- contents

bytes-taken : (n : ℕ) (bytes : List ℕ) → IsTrue (are_bytes bytes) → IsTrue (are_bytes (take n bytes))
bytes-taken (suc n) (b ∷ bytes) h =
    let parts = and_parts (nat_lt b 256) (are_bytes bytes) h in
    and_from (nat_lt b 256) (are_bytes (take n bytes)) parts.0 (bytes-taken n bytes parts.1)
bytes-taken n bytes h = refl

pub bytes-dropped : (n : ℕ) (bytes : List ℕ) → IsTrue (are_bytes bytes) → IsTrue (are_bytes (drop n bytes))
bytes-dropped zero bytes h = h
bytes-dropped (suc n) [] h = refl
bytes-dropped (suc n) (b ∷ bytes) h = bytes-dropped n bytes (and_parts (nat_lt b 256) (are_bytes bytes) h).1

zeros : (n : ℕ) → IsTrue (are_bytes (replicate n 0))
zeros zero = refl
zeros (suc n) = zeros n

pub resized-bytes : (size : ℕ) (bytes : List ℕ) → IsTrue (are_bytes bytes) → IsTrue (are_bytes (resized size bytes))
resized-bytes size bytes h = list_all-append (λ b. nat_lt b 256) (take size bytes) (replicate (size - length bytes) 0)
    ∙ and_from (are_bytes (take size bytes)) (are_bytes (replicate (size - length bytes) 0)) (bytes-taken size bytes h) (zeros (size - length bytes))

-- of a file that gets a size, or keeps its own
pub sized-bytes : (given : Option ℕ) (bytes : List ℕ) → IsTrue (are_bytes bytes) → IsTrue (are_bytes (unwrap_or (option_map (λ size. resized size bytes) given) bytes))
sized-bytes None bytes h = h
sized-bytes (Some size) bytes h = resized-bytes size bytes h

pub changed-content-fits : (attrs : Attrs) (content : Content) → IsAttrs attrs → IsContent content → IsContent (changed_content attrs content)
changed-content-fits attrs content fits before =
    (changed-owner-fits attrs content.owner fits before.0, sized-bytes attrs.size content.bytes before.1)
