-- The children of a directory are the nodes right below it.
use Rattle.sftp_tree.proofs.Imports.{◌≡◌, Bool, true, false, cond, [], ◌∷◌, ◌++◌, filter_map, option_map, Option, Some}
use Rattle.sftp_tree.proofs.Imports.{None, is_some, refl, sym, ap, ◌∙◌, List, map, IfSome, append-nil, Attrs, Item}
use Rattle.sftp_tree.proofs.Imports.{entry_of, is_eq, Less, nat_list_cmp_total, cons_option, AllByRecursion}
use Rattle.sftp_tree.proofs.Imports.{IsStrictlySortedBy, keys_of, lookup, is_at, Name, Place, name_cmp, place_cmp}
use Rattle.sftp_tree.proofs.Imports.{Table, InOrder, get, bytes_cmp-same, same_table, Owner, Node, Child, Names, Files}
use Rattle.sftp_tree.proofs.Imports.{Tree, IsNode, node_at, is_directory, children, shown_child, IsAt, Children, branch}
use Rattle.sftp_tree.proofs.Imports.{branch_of, flat_of, IsBranch, AreBranches, AreChildren, nodes_of}
use Rattle.sftp_tree.specs.declared.entries.directories.Child.TheVariants.{Dir, File, Link}
use Rattle.sftp_tree.proofs.Nesting.{get-flat, sorted-flat_of}
use Rattle.sftp_tree.proofs.Requests.{listed-on}
use Rattle.sftp_tree.proofs.Requests.{children-rise, child-at}

-- ---- each child has a node of its own

directory-there : (found : Option Node) → is_directory found ≡ true → is_some found ≡ true
directory-there None is = cc
directory-there (Some node) is = refl

own-node : (child : Child) → IsBranch child → is_some (node_at (branch child) []) ≡ true
unfolding get
own-node (Dir names) whole = directory-there (node_at names []) whole.1
own-node (File number) whole = refl
own-node (Link target) whole = refl

-- ---- their names rise

each-name : (P : Name → Type 0) (cs : Children) → AllByRecursion P (keys_of cs)
    → AllByRecursion P (keys_of (nodes_of cs))
each-name P [] each = tt
each-name P (c ∷ cs) each = by (each-name P cs each.1) (node_at (branch c.1) [])
  where
    by : AllByRecursion P (keys_of (nodes_of cs)) → (o : Option Node)
        → AllByRecursion P (keys_of (cons_option (option_map (λ node. (c.0, node)) o) (nodes_of cs)))
    by rest None = rest
    by rest (Some node) = (each.0, rest)

names-rise : (cs : Children) → InOrder name_cmp cs → InOrder name_cmp (nodes_of cs)
unfolding IsStrictlySortedBy
names-rise [] order = tt
names-rise (c ∷ cs) order = by (names-rise cs order.1) (node_at (branch c.1) [])
  where
    by : InOrder name_cmp (nodes_of cs) → (o : Option Node)
        → InOrder name_cmp (cons_option (option_map (λ node. (c.0, node)) o) (nodes_of cs))
    by rest None = rest
    by rest (Some node) = (each-name (λ k. name_cmp c.0 k ≡ Less) cs order.0, rest)

-- ---- what each name has

node-named : (cs : Children) (name : Name) → AreBranches cs
    → get name_cmp (nodes_of cs) name ≡ node_at (branch_of (get name_cmp cs name)) []
unfolding get
node-named [] name whole = refl
node-named (c ∷ cs) name whole = by (node-named cs name whole.1) (node_at (branch c.1) []) refl (own-node c.1 whole.0)
    (is_eq (name_cmp name c.0)) refl
  where
    by : lookup (is_at (name_cmp name)) (nodes_of cs) ≡ node_at (branch_of (lookup (is_at (name_cmp name)) cs)) []
        → (o : Option Node) → node_at (branch c.1) [] ≡ o → is_some o ≡ true
        → (b : Bool) → is_eq (name_cmp name c.0) ≡ b
        → lookup (is_at (name_cmp name)) (cons_option (option_map (λ node. (c.0, node)) o) (nodes_of cs)) ≡ node_at
        (branch_of (cond (is_eq (name_cmp name c.0)) (Some c.1) (lookup (is_at (name_cmp name)) cs))) []
    by rest None is there b same = cc
    by rest (Some node) is there true same =
        ap (λ b. cond b (Some node) (lookup (is_at (name_cmp name)) (nodes_of cs))) same ∙ sym is
        ∙ ap (λ b. node_at (branch_of (cond b (Some c.1) (lookup (is_at (name_cmp name)) cs))) []) (sym same)
    by rest (Some node) is there false apart =
        ap (λ b. cond b (Some node) (lookup (is_at (name_cmp name)) (nodes_of cs))) apart ∙ rest
        ∙ ap (λ b. node_at (branch_of (cond b (Some c.1) (lookup (is_at (name_cmp name)) cs))) []) (sym apart)

pub nodes-children : (owner : Owner) (cs : Children) → AreChildren cs → nodes_of cs ≡ children (flat_of owner cs) []
nodes-children owner cs h =
    same_table name_cmp nat_list_cmp_total bytes_cmp-same (nodes_of cs) (children (flat_of owner cs) [])
    (names-rise cs h.0) (children-rise (flat_of owner cs) [] (sorted-flat_of owner cs h))
    (λ name. node-named cs name h.1 ∙ sym (get-flat owner cs name [] h.0) ∙ sym (child-at (flat_of owner cs) [] name))

-- ---- a directory that stands at a place has the children of that place

pub children-alike : (names inner : Names) (place : Place) → InOrder place_cmp names → InOrder place_cmp inner
    → IsAt names place inner → children inner [] ≡ children names place
children-alike names inner place order inner_order at =
    same_table name_cmp nat_list_cmp_total bytes_cmp-same (children inner []) (children names place)
    (children-rise inner [] inner_order) (children-rise names place order)
    (λ name. child-at inner [] name ∙ at (name ∷ []) ∙ sym (child-at names place name))

-- ---- listed one by one

pub own-kept : (files : Files) (c : Name × Child) (cs : Children)
    → AllByRecursion (λ e. IsNode files e.1) (nodes_of (c ∷ cs))
    → IfSome (node_at (branch c.1) []) (IsNode files) × AllByRecursion (λ e. IsNode files e.1) (nodes_of cs)
own-kept files c cs kept = by (node_at (branch c.1) []) kept
  where
    by : (o : Option Node)
        → AllByRecursion (λ e. IsNode files e.1) (cons_option (option_map (λ node. (c.0, node)) o) (nodes_of cs))
        → IfSome o (IsNode files) × AllByRecursion (λ e. IsNode files e.1) (nodes_of cs)
    by None kept = (tt, kept)
    by (Some node) kept = kept

pub listed-child : (t : Tree) (items after : List Item) (it : Item) (c : Name × Child) (cs : Children)
    (whole : Table Name Attrs) → IsBranch c.1 → after ≡ items ++ it ∷ []
    → IfSome (node_at (branch c.1) []) (λ node. shown_child t (c.0, node) ≡ Some (entry_of it))
    → map entry_of items ++ filter_map (shown_child t) (nodes_of (c ∷ cs)) ≡ whole
    → map entry_of after ++ filter_map (shown_child t) (nodes_of cs) ≡ whole
listed-child t items after it c cs whole is_branch is = by (node_at (branch c.1) []) (own-node c.1 is_branch)
  where
    by : (o : Option Node) → is_some o ≡ true → IfSome o (λ node. shown_child t (c.0, node) ≡ Some (entry_of it))
        → map entry_of items
        ++ filter_map (shown_child t) (cons_option (option_map (λ node. (c.0, node)) o) (nodes_of cs)) ≡ whole
        → map entry_of after ++ filter_map (shown_child t) (nodes_of cs) ≡ whole
    by None there shows so_far = cc
    by (Some node) there shows so_far = listed-on t items after it (c.0, node) (nodes_of cs) whole is shows so_far

pub listed-none : (t : Tree) (items : List Item) (cs : Children) (whole : Table Name Attrs) → cs ≡ []
    → map entry_of items ++ filter_map (shown_child t) (nodes_of cs) ≡ whole → map entry_of items ≡ whole
listed-none t items cs whole none so_far = sym (append-nil (map entry_of items))
    ∙ ap (λ (x : Children). map entry_of items ++ filter_map (shown_child t) (nodes_of x)) (sym none) ∙ so_far
