-- Requests: what is planned for them, and the trees that they leave.
use Rattle.sftp_tree.proofs.Imports.{◌≡◌, List, [], ◌∷◌, ◌++◌, map, filter_map, option_map, sym, ◌∙◌, ap, Option}
use Rattle.sftp_tree.proofs.Imports.{Some, None, cons_option, AllByRecursion, append_assoc, map-append, Attrs, Name}
use Rattle.sftp_tree.proofs.Imports.{Place, Table, Node, Names, Files, Tree, IsNode, Item, entry_of, name_below}
use Rattle.sftp_tree.proofs.Imports.{child_below, children, listing, shown_child, Bool, true, false, cond}
use Rattle.sftp_tree.proofs.Imports.{if◌then◌else◌, refl, is_some, ordering_then, is_eq, Ordering, Less, Equal}
use Rattle.sftp_tree.proofs.Imports.{Greater, Equal-is, bytes_decides, texts_ties, is_at, IsStrictlySortedBy, keys_of}
use Rattle.sftp_tree.proofs.Imports.{lookup, same_Some, name_cmp, place_cmp, same_bytes, InOrder, get, Content, Dir}
use Rattle.sftp_tree.proofs.Imports.{File, Link, WellFormed, node_at, content_at, ℕ, subst, IsTrue, Ok, both_ways}
use Rattle.sftp_tree.proofs.Imports.{nat_cmp, nat_cmp-IsAntisymmetric, IsAttrs, parent, are_names, are_bytes, is_root}
use Rattle.sftp_tree.proofs.Imports.{IsContent, with_node, without_node, is_directory, has_entries, reached}
use Rattle.sftp_tree.proofs.Imports.{changed_content, with_changed_file, Plan, carried, no_change, put_node}
use Rattle.sftp_tree.proofs.Imports.{remove_node, move_node, own_directory, set_file, make_file, empty_file, CanDo}
use Rattle.sftp_tree.proofs.Imports.{IsPlaceOf, rules, ◌&&◌, not, suc, ◌<◌, get_or, Result, Err, IfOk, not-false}
use Rattle.sftp_tree.proofs.Imports.{or_parts, lt-ltb, and-true, IsOwner, Cause, NoEntry, NotDir, NotEmpty, Root}
use Rattle.sftp_tree.proofs.Imports.{Exists, IsDir, fits, is_taken, is_link, file_owner, truncates, excludes}
use Rattle.sftp_tree.proofs.Imports.{no_causes, when, removing_causes, unlinking_causes, are_one, leaving_causes}
use Rattle.sftp_tree.proofs.Imports.{giving_causes, exchanging_causes, opening_causes, put_in_its_stead, plan_to_set}
use Rattle.sftp_tree.proofs.Imports.{plan_to_open, plan_to_name, with_entry, CanPut, CanTake, CanMove, OwnsBy}
use Rattle.sftp_tree.proofs.Imports.{place_cmp-same}
use Rattle.sftp_tree.specs.Attributes.{shown, shown_content}
use Rattle.sftp_tree.specs.Requests.{shown_at, number_at}
use Rattle.sftp_tree.proofs.Nesting.{first_less}
use Rattle.std.specs.Option.{IfSome}
use Rattle.sftp_tree.proofs.PlaceTables.{each-get}
use Rattle.sftp_tree.proofs.WellFormedTrees.{changed-content-fits}
use Rattle.sftp_tree.proofs.WellFormedTrees.{apart-from, nothing-below}
use Rattle.sftp_tree.proofs.WellFormedTrees.{names-of, names-put, names-owner, names-without, well-formed-names}
use Rattle.sftp_tree.proofs.KeptTrees.{well-formed-content}
use Rattle.sftp_tree.proofs.KeptTrees.NewFiles.{well-formed-new, no_bytes, no-bytes-fit, emptied-is}
use Rattle.sftp_tree.proofs.KeptTrees.{well-formed-in-stead}
use Rattle.sftp_tree.specs.declared.nodes.Node.TheVariants as nodes
use Rattle.sftp_tree.proofs.CauseLaws.{MayLeave, MayReplace, name-place, may-leave, may-replace, given-below}
use Rattle.sftp_tree.proofs.WellFormedTrees.{absent-of}
pub mod Rows
pub mod Shown

-- ==== Listings: that what is right below a place is shown.

-- ---- each node right below a place is a node of the tree

pub children-kept : (files : Files) (names : Names) (place : Place) → AllByRecursion (λ e. IsNode files e.1) names
    → AllByRecursion (λ e. IsNode files e.1) (children names place)
unfolding children
children-kept files [] place nodes = tt
children-kept files (e ∷ es) place nodes = by (children-kept files es place nodes.1) (name_below place e.0)
  where
    by : AllByRecursion (λ e. IsNode files e.1) (filter_map (child_below place) es) → (o : Option Name)
        → AllByRecursion (λ e. IsNode files e.1)
        (cons_option (option_map (λ name. (name, e.1)) o) (filter_map (child_below place) es))
    by rest None = rest
    by rest (Some name) = (nodes.0, rest)

-- ---- the items, one by one

-- the listing by the names of the tree
pub listing-of : (t : Tree) (place : Place) (entries : Names) (found : Table Name Node) → entries ≡ t.names
    → found ≡ children entries place → filter_map (shown_child t) found ≡ listing t place
unfolding listing
listing-of t place entries found names is = ap (filter_map (shown_child t)) (is ∙ ap (λ ns. children ns place) names)

-- one more item
pub listed-on : (t : Tree) (items after : List Item) (it : Item) (e : Name × Node) (rest : Table Name Node)
    (whole : Table Name Attrs) → after ≡ items ++ it ∷ [] → shown_child t e ≡ Some (entry_of it)
    → map entry_of items ++ filter_map (shown_child t) (e ∷ rest) ≡ whole
    → map entry_of after ++ filter_map (shown_child t) rest ≡ whole
listed-on t items after it e rest whole is shows so_far =
    ap (λ xs. map entry_of xs ++ filter_map (shown_child t) rest) is
    ∙ ap (λ xs. xs ++ filter_map (shown_child t) rest) (map-append entry_of items (it ∷ []))
    ∙ append_assoc (map entry_of items) (entry_of it ∷ []) (filter_map (shown_child t) rest)
    ∙ ap (λ o. map entry_of items ++ cons_option o (filter_map (shown_child t) rest)) (sym shows) ∙ so_far

-- ==== Listings are tables: their names rise, and a name has what is shown of the node at its place.

-- ---- the names rise

same-first : (p x y : Name) → same_bytes p x ≡ true → same_bytes p y ≡ true → name_cmp x y ≡ Equal
same-first p x y is_x is_y =
    let same : same_bytes x y ≡ true = ap (λ k. same_bytes k y) (sym ((bytes_decides p x).0 is_x)) ∙ is_y in
    (Equal-is (name_cmp x y)).0 (sym (texts_ties x y) ∙ same)

names-rise : (place a b : Place) (m n : Name) → name_below place a ≡ Some m → name_below place b ≡ Some n
    → place_cmp a b ≡ Less → name_cmp m n ≡ Less
names-rise [] [] b m n is_a is_b less = cc
names-rise [] (x ∷ k ∷ ks) b m n is_a is_b less = cc
names-rise [] (x ∷ []) [] m n is_a is_b less = cc
names-rise [] (x ∷ []) (y ∷ k ∷ ks) m n is_a is_b less = cc
names-rise [] (x ∷ []) (y ∷ []) m n is_a is_b less =
    (λ i. name_cmp (sym (same_Some x m is_a) i) (sym (same_Some y n is_b) i)) ∙ first_less (name_cmp x y) less
names-rise (p ∷ ps) [] b m n is_a is_b less = cc
names-rise (p ∷ ps) (x ∷ xs) [] m n is_a is_b less = cc
names-rise (p ∷ ps) (x ∷ xs) (y ∷ ys) m n is_a is_b less =
    by (names-rise ps xs ys m n) (same_bytes p x) (same_bytes p y) refl refl is_a is_b
  where
    by : (name_below ps xs ≡ Some m → name_below ps ys ≡ Some n → place_cmp xs ys ≡ Less → name_cmp m n ≡ Less)
        → (b d : Bool) → same_bytes p x ≡ b → same_bytes p y ≡ d → (if b then name_below ps xs else None) ≡ Some m
        → (if d then name_below ps ys else None) ≡ Some n → name_cmp m n ≡ Less
    by rest true true is_x is_y one other =
        rest one other (ap (λ o. ordering_then o (place_cmp xs ys)) (sym (same-first p x y is_x is_y)) ∙ less)
    by rest true false is_x is_y one other = cc
    by rest false d is_x is_y one other = cc

each-rises : (place a : Place) (n : Name) (es : Names) → name_below place a ≡ Some n
    → AllByRecursion (λ k. place_cmp a k ≡ Less) (keys_of es)
    → AllByRecursion (λ k. name_cmp n k ≡ Less) (keys_of (filter_map (child_below place) es))
each-rises place a n [] is further = tt
each-rises place a n (e ∷ es) is further = by (each-rises place a n es is further.1) (name_below place e.0) refl
  where
    by : AllByRecursion (λ k. name_cmp n k ≡ Less) (keys_of (filter_map (child_below place) es)) → (o : Option Name)
        → name_below place e.0 ≡ o → AllByRecursion (λ k. name_cmp n k ≡ Less)
        (keys_of (cons_option (option_map (λ name. (name, e.1)) o) (filter_map (child_below place) es)))
    by rest None there = rest
    by rest (Some m) there = (names-rise place a e.0 n m is there further.0, rest)

pub children-rise : (names : Names) (place : Place) → InOrder place_cmp names → InOrder name_cmp (children names place)
unfolding children IsStrictlySortedBy
children-rise [] place order = tt
children-rise (e ∷ es) place order = by (children-rise es place order.1) (name_below place e.0) refl
  where
    by : InOrder name_cmp (filter_map (child_below place) es) → (o : Option Name) → name_below place e.0 ≡ o
        → InOrder name_cmp (cons_option (option_map (λ name. (name, e.1)) o) (filter_map (child_below place) es))
    by rest None there = rest
    by rest (Some n) there = (each-rises place e.0 n es there order.0, rest)

each-shown : (P : Name → Type 0) (t : Tree) (found : Table Name Node) → AllByRecursion P (keys_of found)
    → AllByRecursion P (keys_of (filter_map (shown_child t) found))
each-shown P t [] each = tt
each-shown P t (e ∷ es) each = by (each-shown P t es each.1) (shown t e.1)
  where
    by : AllByRecursion P (keys_of (filter_map (shown_child t) es)) → (o : Option Attrs) → AllByRecursion P
        (keys_of (cons_option (option_map (λ attrs. (e.0, attrs)) o) (filter_map (shown_child t) es)))
    by rest None = rest
    by rest (Some attrs) = (each.0, rest)

shown-rise : (t : Tree) (found : Table Name Node) → InOrder name_cmp found
    → InOrder name_cmp (filter_map (shown_child t) found)
unfolding IsStrictlySortedBy
shown-rise t [] order = tt
shown-rise t (e ∷ es) order = by (shown-rise t es order.1) (shown t e.1)
  where
    by : InOrder name_cmp (filter_map (shown_child t) es) → (o : Option Attrs)
        → InOrder name_cmp (cons_option (option_map (λ attrs. (e.0, attrs)) o) (filter_map (shown_child t) es))
    by rest None = rest
    by rest (Some attrs) = (each-shown (λ k. name_cmp e.0 k ≡ Less) t es order.0, rest)

pub listing-rises : (t : Tree) (place : Place) → InOrder place_cmp t.names → InOrder name_cmp (listing t place)
unfolding listing
listing-rises t place order = shown-rise t (children t.names place) (children-rise t.names place order)

-- ---- what each name has

-- whether the last name of a place right below another is this one
is_child : Name → Option Name → Bool
is_child name None = false
is_child name (Some n) = is_eq (name_cmp name n)

then-equal : (o : Ordering) → is_eq (ordering_then o Equal) ≡ is_eq o
then-equal Less = refl
then-equal Equal = refl
then-equal Greater = refl

then-shorter : (o : Ordering) → is_eq (ordering_then o Less) ≡ false
then-shorter Less = refl
then-shorter Equal = refl
then-shorter Greater = refl

then-both : (o q : Ordering) → is_eq (ordering_then o q) ≡ (if is_eq o then is_eq q else false)
then-both Less q = refl
then-both Equal q = refl
then-both Greater q = refl

-- it is at the name's place just then
at-child : (place k : Place) (name : Name)
    → is_eq (place_cmp (place ++ name ∷ []) k) ≡ is_child name (name_below place k)
unfolding is_child
at-child [] [] name = refl
at-child [] (n ∷ []) name = then-equal (name_cmp name n)
at-child [] (n ∷ m ∷ ms) name = then-shorter (name_cmp name n)
at-child (p ∷ ps) [] name = refl
at-child (p ∷ ps) (x ∷ xs) name = then-both (name_cmp p x) (place_cmp (ps ++ name ∷ []) xs)
    ∙ ap (λ b. if b then is_eq (place_cmp (ps ++ name ∷ []) xs) else false) (sym (texts_ties p x))
    ∙ by (at-child ps xs name) (same_bytes p x)
  where
    by : is_eq (place_cmp (ps ++ name ∷ []) xs) ≡ is_child name (name_below ps xs) → (b : Bool)
        → (if b then is_eq (place_cmp (ps ++ name ∷ []) xs) else false) ≡ is_child name
        (if b then name_below ps xs else None)
    by rest true = rest
    by rest false = refl

pub child-at : (names : Names) (place : Place) (name : Name)
    → get name_cmp (children names place) name ≡ node_at names (place ++ name ∷ [])
unfolding children get is_child
child-at [] place name = refl
child-at (e ∷ es) place name = by (child-at es place name) (name_below place e.0)
    ∙ ap (λ b. cond b (Some e.1) (lookup (is_at (place_cmp (place ++ name ∷ []))) es)) (sym (at-child place e.0 name))
  where
    by : lookup (is_at (name_cmp name)) (filter_map (child_below place) es) ≡ lookup
        (is_at (place_cmp (place ++ name ∷ []))) es → (o : Option Name) → lookup (is_at (name_cmp name))
        (cons_option (option_map (λ n. (n, e.1)) o) (filter_map (child_below place) es))
        ≡ cond (is_child name o) (Some e.1) (lookup (is_at (place_cmp (place ++ name ∷ []))) es)
    by rest None = rest
    by rest (Some n) = ap (λ found. cond (is_eq (name_cmp name n)) (Some e.1) found) rest

-- each node of a tree is shown
is-shown : (t : Tree) (it : Node) → IsNode t.files it → is_some (shown t it) ≡ true
is-shown t (Dir owner) is = refl
is-shown t (File number) is = by (content_at t.files number) is
  where
    by : (o : Option Content) → is_some o ≡ true → is_some (option_map shown_content o) ≡ true
    by None there = cc
    by (Some content) there = refl
is-shown t (Link target) is = refl

shown-get : (t : Tree) (found : Table Name Node) (name : Name) → AllByRecursion (λ e. IsNode t.files e.1) found
    → get name_cmp (filter_map (shown_child t) found) name ≡ shown_at t (get name_cmp found name)
unfolding get
shown-get t [] name nodes = refl
shown-get t (e ∷ es) name nodes =
    by (shown-get t es name nodes.1) (shown t e.1) (is-shown t e.1 nodes.0) refl (is_eq (name_cmp name e.0)) refl
  where
    by : lookup (is_at (name_cmp name)) (filter_map (shown_child t) es) ≡ shown_at t (lookup (is_at (name_cmp name)) es)
        → (o : Option Attrs) → is_some o ≡ true → shown t e.1 ≡ o → (b : Bool) → is_eq (name_cmp name e.0) ≡ b
        → lookup (is_at (name_cmp name))
        (cons_option (option_map (λ attrs. (e.0, attrs)) o) (filter_map (shown_child t) es))
        ≡ shown_at t (cond (is_eq (name_cmp name e.0)) (Some e.1) (lookup (is_at (name_cmp name)) es))
    by rest None there is b same = cc
    by rest (Some attrs) there is true same =
        ap (λ b. cond b (Some attrs) (lookup (is_at (name_cmp name)) (filter_map (shown_child t) es))) same
        ∙ sym is ∙ ap (λ b. shown_at t (cond b (Some e.1) (lookup (is_at (name_cmp name)) es))) (sym same)
    by rest (Some attrs) there is false apart =
        ap (λ b. cond b (Some attrs) (lookup (is_at (name_cmp name)) (filter_map (shown_child t) es))) apart
        ∙ rest ∙ ap (λ b. shown_at t (cond b (Some e.1) (lookup (is_at (name_cmp name)) es))) (sym apart)

pub listed-at : (t : Tree) (place : Place) (name : Name) → WellFormed t
    → get name_cmp (listing t place) name ≡ shown_at t (node_at t.names (place ++ name ∷ []))
unfolding listing
listed-at t place name well = shown-get t (children t.names place) name (children-kept t.files t.names place well.nodes)
    ∙ ap (shown_at t) (child-at t.names place name)

-- ==== Plans leave a tree.

-- ---- where the paths of a request lead

-- a place to which a path leads is a list of names, and has a directory for its parent
pub record Led (t : Tree) (place : Place) : Type 0 where
  pub named : IsTrue (are_names place)
  pub above : IsTrue (is_directory (node_at t.names (parent place)))

pub led-of : (t : Tree) (place : Place) → IsPlaceOf t place → Led t place
led-of t place is = record { named = is.named; above = is.above }

abbrev pub LeadsWell : Tree → Type 0
LeadsWell t = (follow : Bool) (path : List ℕ) (place : Place) → IsTrue (are_bytes path) → reached t follow path ≡ Ok place → Led t place

pub led-well : (t : Tree) (follow : Bool) (path : Option (List ℕ)) (place : Place) → LeadsWell t → IfSome path (λ bytes. IsTrue (are_bytes bytes)) → option_map (reached t follow) path ≡ Some (Ok place) → Led t place
led-well t follow None place well bytes is = absurd cc
led-well t follow (Some path) place well bytes is =
    let one : reached t follow path ≡ Ok place = cc in
    well follow path place bytes one

-- ---- the node at a place

-- what is no directory is not the root
pub not-root : (t : Tree) (place : Place) → WellFormed t → is_directory (node_at t.names place) ≡ false → is_root place ≡ false
not-root t [] well none = absurd (both_ways (is_directory (node_at t.names [])) none well.root)
not-root t (n ∷ ns) well none = refl

pub empty-there : (t : Tree) (place : Place) → WellFormed t → is_directory (node_at t.names place) ≡ false → has_entries t.names place ≡ false
empty-there t place well = nothing-below t.names place well.ordered well.parents

-- ---- with a plan carried out

well-file : (t : Tree) (attrs : Attrs) (number : ℕ) (o : Option Content) → content_at t.files number ≡ o → WellFormed t → IsAttrs attrs → WellFormed (with_changed_file t attrs number o)
well-file t attrs number None is well fits = well
well-file t attrs number (Some content) is well fits =
    let before = each-get nat_cmp nat_cmp-IsAntisymmetric (λ e. IsContent e.1) t.files number content well.contents is in
    well-formed-content t number content (changed_content attrs content) well is (changed-content-fits attrs content fits before)

pub well-plan : (t : Tree) (plan : Plan) → WellFormed t → CanDo IsAttrs t plan → WellFormed (carried t plan)
well-plan t no_change well can = well
well-plan t (put_node place it) well can =
    well-formed-names t (with_node t.names place it) well
    (names-put t.files t.names place it (names-of t well) can.named can.absent can.above can.is_node)
well-plan t (remove_node place) well can =
    well-formed-names t (without_node t.names place) well
    (names-without t.files t.names place (names-of t well) can.below_root can.empty)
well-plan t (move_node old new) well can =
    let apart = apart-from t.names old new well.parents can.outside can.elsewhere can.above in
    well-formed-in-stead t old new well can.named can.old_below_root can.new_below_root apart can.above can.alone
well-plan t (own_directory place owner) well can = by (node_at t.names place) refl can.directory
  where
    by : (o : Option Node) → node_at t.names place ≡ o → IsTrue (is_directory o)
        → WellFormed (record t { names = with_node t.names place (Dir owner) })
    by (Some (Dir before)) is directory = well-formed-names t (with_node t.names place (Dir owner)) well
        (names-owner t.files t.names place before owner (names-of t well) is can.is_owner)
    by other is directory = absurd cc
well-plan t (set_file number attrs) well can = well-file t attrs number (content_at t.files number) refl well can.0
well-plan t (make_file place content) well can =
    well-formed-new t place content well can.named can.absent can.above can.is_content
well-plan t (empty_file number) well can = subst WellFormed (sym (emptied-is t number (content_at t.files number)))
    (well-file t no_bytes number (content_at t.files number) refl well no-bytes-fit)

-- ==== Plans that can be carried out. `P` holds of the attributes that a request gives.

-- ---- what is to be removed

directory-of : (found : Option Node) (entries : Bool) → not (is_taken found) ≡ false → (is_taken found && not (is_directory found)) ≡ false → (is_directory found && entries) ≡ false → entries ≡ false
directory-of (Some (nodes.Dir owner)) entries there directory empty = empty
directory-of other entries there directory empty = absurd cc

pub can-remove-directory : (t : Tree) (place : Place) → ((c : Cause) → removing_causes t.names place c ≡ false) → CanTake t place
unfolding when no_causes
can-remove-directory t place none =
    let found = node_at t.names place in
    let there = (or_parts (not (is_taken found)) false (none NoEntry)).0 in
    record {
      taken = not-false (is_taken found) there;
      below_root = (or_parts (is_root place) false (none Root)).0;
      empty = directory-of found (has_entries t.names place) there (or_parts (is_taken found && not (is_directory found)) false (none NotDir)).0 (or_parts (is_directory found && has_entries t.names place) false (none NotEmpty)).0;
    }

pub can-remove-name : (t : Tree) (place : Place) → WellFormed t → ((c : Cause) → unlinking_causes (node_at t.names place) c ≡ false) → CanTake t place
unfolding when no_causes
can-remove-name t place well none =
    let found = node_at t.names place in
    let other = name-place found none in
    record {
      taken = not-false (is_taken found) (or_parts (not (is_taken found)) false (none NoEntry)).0;
      below_root = not-root t place well other;
      empty = empty-there t place well other;
    }

-- ---- with one place

pub can-put : (t : Tree) (place : Place) (it : Node) → Led t place → node_at t.names place ≡ None → IsNode t.files it
    → IsTrue (fits (with_entry t place it)) → CanPut t place it
can-put t place it leads free is_node room = search rules

pub can-set : (P : Attrs → Type 0) (t : Tree) (attrs : Attrs) (place : Place) (found : Option Node)
    → node_at t.names place ≡ found → IsTrue (fits (carried t (plan_to_set attrs place found))) → P attrs
    → OwnsBy attrs found → CanDo P t (plan_to_set attrs place found)
can-set P t attrs place (Some (nodes.Dir owner)) there room gives owns =
    record { directory = ap is_directory there; is_owner = owns }
can-set P t attrs place (Some (nodes.File number)) there room gives owns = (gives, room)
can-set P t attrs place other there room gives owns = tt

can-empty : (P : Attrs → Type 0) (t : Tree) (number : ℕ) (empties : Bool)
    → IsTrue (fits (carried t (if empties then empty_file number else no_change)))
    → CanDo P t (if empties then empty_file number else no_change)
can-empty P t number true room = room
can-empty P t number false room = tt

pub can-open : (P : Attrs → Type 0) (t : Tree) (flags : ℕ) (attrs : Attrs) (place : Place) (found : Option Node)
    → node_at t.names place ≡ found → Led t place → IsOwner (file_owner t attrs)
    → IsTrue (fits (carried t (plan_to_open t flags attrs place found)))
    → CanDo P t (plan_to_open t flags attrs place found)
can-open P t flags attrs place None there leads owner room = record {
  absent = there;
  named = leads.named;
  above = leads.above;
  is_content = (owner, refl);
  room = room;
}
can-open P t flags attrs place (Some (nodes.File number)) there leads owner room =
    can-empty P t number (truncates flags) room
can-open P t flags attrs place (Some other) there leads owner room = tt

-- ---- with two places

-- a node can move to a place where it may replace what is there
pub can-move : (t : Tree) (old new : Place) → Led t new → MayLeave t old → is_root new ≡ false → MayReplace t old new
    → IsTrue (fits (put_in_its_stead t old new)) → CanMove t old new
can-move t old new leads leave below may room = search rules

pub can-exchange : (P : Attrs → Type 0) (t : Tree) (old new : Place) (one : Bool) → are_one t.names old new ≡ one
    → WellFormed t → Led t new → ((c : Cause) → leaving_causes t.names old c ≡ false)
    → ((c : Cause) → giving_causes new c ≡ false) → ((c : Cause) → exchanging_causes t.names old new c ≡ false)
    → IsTrue (fits (carried t (if one then no_change else move_node old new)))
    → CanDo P t (if one then no_change else move_node old new)
can-exchange P t old new true apart well leads here there both room = tt
can-exchange P t old new false apart well leads here there both room =
    let leave = may-leave t old here in
    can-move t old new leads leave (given-below new there) (may-replace t old new well leave both apart) room

pub can-name : (P : Attrs → Type 0) (t : Tree) (old new : Place) (found : Option Node) → node_at t.names old ≡ found
    → WellFormed t → Led t new → node_at t.names new ≡ None → IsTrue (fits (carried t (plan_to_name found new)))
    → CanDo P t (plan_to_name found new)
can-name P t old new None there well leads free room = tt
can-name P t old new (Some it) there well leads free room =
    can-put t new it leads free
    (each-get place_cmp place_cmp-same (λ e. IsNode t.files e.1) t.names old it well.nodes there) room

-- ---- what is returned

pub if-ok-both : {X E : Type 0} (r : Result X E) (P Q R : X → Type 0) → ((x : X) → P x → Q x → R x) → IfOk r P → IfOk r Q → IfOk r R
if-ok-both (Ok x) P Q R then_so is and = then_so x is and
if-ok-both (Err e) P Q R then_so is and = is

pub bytes-are : (bytes : List ℕ) → ((i : ℕ) → get_or bytes i 0 < 256) → IsTrue (are_bytes bytes)
bytes-are [] h = refl
bytes-are (b ∷ bytes) h = λ i. lt-ltb b 256 (h 0) i && bytes-are bytes (λ k. h (suc k)) i

-- ---- what is opened

-- neither a directory nor a link is there
file-or-none : (t : Tree) (found : Option Node) → is_directory found ≡ false → is_link found ≡ false
    → is_some (number_at t found) ≡ true
file-or-none t (Some (nodes.Dir owner)) directory link = absurd cc
file-or-none t (Some (nodes.Link goal)) directory link = absurd cc
file-or-none t other directory link = refl

pub opened-by : (t : Tree) (flags : ℕ) (found : Option Node) (new : Bool) → excludes flags ≡ new
    → ((c : Cause) → opening_causes flags found c ≡ false) → (new ≡ false → is_link found ≡ false)
    → is_some (number_at t found) ≡ true
unfolding when no_causes
opened-by t flags found true is none link =
    let taken = (or_parts (is_taken found && excludes flags) _ (none Exists)).0 in
    ap (λ o. is_some (number_at t o)) (absent-of found (sym (and-true (is_taken found)) ∙ ap (λ b. is_taken found && b) (sym is) ∙ taken))
opened-by t flags found false is none link =
    let directory = (or_parts (is_directory found && not (excludes flags)) _ (none IsDir)).0 in
    file-or-none t found (sym (and-true (is_directory found)) ∙ ap (λ b. is_directory found && not b) (sym is) ∙ directory) (link refl)
