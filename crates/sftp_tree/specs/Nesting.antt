-- Nested directories, and the table of places that each of them is seen as: the directory itself at the place with no
-- names, and each child at its name, with all that is below it.
use Rattle.std.specs.Prelude.{◌≡◌, ℕ, nat_le, length, Bool, false, Option, Some, None, [], ◌∷◌, ◌++◌, map, IsTrue, ⊤}
use Rattle.std.specs.Prelude.{filter_map, List, IfSome}
use Rattle.std.specs.List.{AllByRecursion, list_all}
use Rattle.sftp_path.specs.Place.{Name, Place, place_cmp, name_cmp, begins}
use Rattle.sftp_path.specs.Table.{Table, InOrder}
use Rattle.sftp_treefile.specs.declared.files.Owner.{Owner}
use Rattle.sftp_treefile.specs.TreeFile.{same_place}
use Rattle.sftp_tree.specs.declared.nodes.Node.{Node}
use Rattle.sftp_tree.specs.declared.nodes.Node.TheVariants as nodes
use Rattle.sftp_tree.specs.declared.entries.directories.Child.{Child}
use Rattle.sftp_tree.specs.declared.entries.directories.Child.TheVariants.{Dir, File, Link}
use Rattle.sftp_tree.specs.Tree.{Names, node_at, is_directory, is_taken}
use Rattle.std.specs.Option.{option_map}
use Rattle.sftp_tree.specs.declared.entries.seen.Seen.{Seen}
use Rattle.sftp_tree.specs.declared.entries.seen.Seen.TheVariants.{Dir, File, Link}
use Rattle.std.specs.Borrow.{Bor}

-- the children of a directory by their names
abbrev pub Children : Type 0
Children = Table Name Child

-- a child and what is below it, by places that start at the child
abbrev pub branch : Child → Names
branch (Dir names) = names
branch (File number) = ([], nodes.File number) ∷ []
branch (Link target) = ([], nodes.Link target) ∷ []

-- the same of a child that may be absent
abbrev pub branch_of : Option Child → Names
branch_of None = []
branch_of (Some child) = branch child

-- what is at these places, one name further down
abbrev pub placed : Name → Names → Names
placed name table = map (λ e. (name ∷ e.0, e.1)) table

-- the children and what is below them, by places that start at their directory
abbrev pub flat : Children → Names
flat [] = []
flat (c ∷ cs) = placed c.0 (branch c.1) ++ flat cs

-- a directory and what is below it, by places that start at the directory
abbrev pub flat_of : Owner → Children → Names
flat_of owner children = ([], nodes.Dir owner) ∷ flat children

-- a child's table is in order, and starts at a directory where the child is one
abbrev pub IsBranch : Child → Type 0
IsBranch (Dir names) = InOrder place_cmp names × IsTrue (is_directory (node_at names []))
IsBranch (File number) = ⊤
IsBranch (Link target) = ⊤

abbrev pub AreBranches : Children → Type 0
AreBranches children = AllByRecursion (λ c. IsBranch c.1) children

-- what makes them the children of a directory: their names rise, and each has a table of its own
abbrev pub AreChildren : Children → Type 0
AreChildren children = InOrder name_cmp children × AreBranches children

-- after a change the directory has these entries at a place and below it, and at all other places what it had
pub record IsGrafted (place : Place) (before after grafted : Names) : Type 0 where
  pub there : (rest : Place) → node_at after (place ++ rest) ≡ node_at grafted rest
  pub elsewhere : (other : Place) → begins place other ≡ false → node_at after other ≡ node_at before other
  pub ordered : InOrder place_cmp after

-- after a change the directory has this node at a place, and at all other places what it had
pub record IsSet (place : Place) (before after : Names) (node : Node) : Type 0 where
  pub here : node_at after place ≡ Some node
  pub elsewhere : (other : Place) → same_place other place ≡ false → node_at after other ≡ node_at before other
  pub ordered : InOrder place_cmp after

-- after a change the directory has what was at the old place, with all below it, at the new one, and nothing at the old
-- place or below it
pub record IsMoved (old new : Place) (before after : Names) : Type 0 where
  pub there : (rest : Place) → node_at after (new ++ rest) ≡ node_at before (old ++ rest)
  pub left : (rest : Place) → node_at after (old ++ rest) ≡ None
  pub elsewhere : (other : Place) → begins old other ≡ false → begins new other ≡ false
      → node_at after other ≡ node_at before other
  pub ordered : InOrder place_cmp after

-- after a change the place is taken, and all other places have what they had, also the place if it was taken before
pub record IsFilled (place : Place) (before after : Names) (was_taken : Bool) : Type 0 where
  pub taken : IsTrue (is_taken (node_at after place))
  pub was : was_taken ≡ is_taken (node_at before place)
  pub same : IsTrue was_taken → after ≡ before
  pub elsewhere : (other : Place) → begins place other ≡ false → node_at after other ≡ node_at before other

-- whether each place has at most `room` names
unfoldable pub have_at_most : ℕ → Names → Bool
have_at_most room names = list_all (λ e. nat_le (length e.0) room) names

-- ==== The children of a directory as nodes.

-- a child's own node, with its name
abbrev pub named_node : Name × Child → Option (Name × Node)
named_node c = option_map (λ node. (c.0, node)) (node_at (branch c.1) [])

abbrev pub nodes_of : Children → Table Name Node
nodes_of children = filter_map named_node children

-- ==== What stands at a place, as it is lent.

-- the node that is lent
abbrev pub node_seen : Seen → Node
node_seen (Dir owner dir) = nodes.Dir owner
node_seen (File number) = nodes.File number
node_seen (Link target) = nodes.Link target.now

-- what is lent and what is below it, by places that start there
abbrev pub branch_seen : Option Seen → Names
branch_seen None = []
branch_seen (Some (Dir owner dir)) = dir.now
branch_seen (Some (File number)) = ([], nodes.File number) ∷ []
branch_seen (Some (Link target)) = ([], nodes.Link target.now) ∷ []

-- ==== The directories from the root to where a walk stands.

-- the entries that a walk goes through, and where it stands
pub record Standing : Type 0 where
  pub names : Names
  pub at : Place

-- the second table has at each place what the first has below this one
abbrev pub IsAt : Names → Place → Names → Type 0
IsAt names place inner = (rest : Place) → node_at inner rest ≡ node_at names (place ++ rest)

-- the root of a walk: the first of the directories above the one where it stands, or this one
abbrev pub root_of : List (Bor Names) → Bor Names → Bor Names
root_of [] here = here
root_of (dir ∷ above) here = dir

-- by the names of the place each directory above is the parent of the next, and the last the parent of the one where
-- the walk stands
abbrev pub AreAlong : List (Bor Names) → Place → Bor Names → Type 0
AreAlong [] [] here = ⊤
AreAlong [] (name ∷ names) here = ⊥
AreAlong (dir ∷ above) [] here = ⊥
AreAlong (dir ∷ above) (name ∷ names) here =
    IsAt dir.now (name ∷ []) (root_of above here).now × AreAlong above names here

-- by the names of the place one goes from the root through the directories between to the one where the walk stands
abbrev pub DescendTo : Bor Names → List (Bor Names) → Place → Bor Names → Type 0
DescendTo root between [] here = (between ≡ []) × (here ≡ root)
DescendTo root between (name ∷ names) here = AreAlong (root ∷ between) (name ∷ names) here

-- a directory that is lent is the one at this place
abbrev pub IsDirAt : Names → Place → Seen → Type 0
IsDirAt names place (Dir owner dir) = IsAt names place dir.now
IsDirAt names place (File number) = ⊤
IsDirAt names place (Link target) = ⊤

-- what is lent is what stands at this place
pub record IsLentAt (names : Names) (place : Place) (lent : Option Seen) : Type 0 where
  pub node : option_map node_seen lent ≡ node_at names place
  pub below : IfSome lent (IsDirAt names place)
