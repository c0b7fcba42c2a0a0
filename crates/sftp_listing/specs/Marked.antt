-- What a listing keeps: items in rising order of their names, and of each a mark that says whether its name is struck
-- out. Words of private contracts.
use Rattle.std.specs.Prelude.{◌≡◌, ℕ, zero, suc, Bool, false, List, [], ◌∷◌, length, map, Option, Some, None, cond}
use Rattle.std.specs.Prelude.{take}
use Rattle.std.specs.declared.cmp.Ordering.TheVariants.{Less, Greater}
use Rattle.sftp_packets.specs.declared.attributes.Attrs.{Attrs}
use Rattle.sftp_path.specs.Place.{Name, name_cmp}
use Rattle.sftp_path.specs.Table.{Table, InOrder}
use Rattle.sftp_tree.specs.declared.listings.Item.{Item}
use Rattle.sftp_tree.specs.Items.{entry_of}
use Rattle.sftp_packets.specs.declared.names.NameItem.{NameItem}
use Rattle.sftp_listing.specs.Left.{Left}

-- the entries of the items that have no mark
abbrev pub unmarked : List Item → List Bool → Table Name Attrs
unmarked [] marks = []
unmarked (item ∷ items) [] = entry_of item ∷ unmarked items []
unmarked (item ∷ items) (mark ∷ marks) = cond mark (unmarked items marks) (entry_of item ∷ unmarked items marks)

-- the entry of the item at a place, if that has no mark
abbrev pub unmarked_at : List Item → List Bool → ℕ → Option (Name × Attrs)
unmarked_at [] marks place = None
unmarked_at (item ∷ items) [] place = None
unmarked_at (item ∷ items) (mark ∷ marks) zero = cond mark None (Some (entry_of item))
unmarked_at (item ∷ items) (mark ∷ marks) (suc place) = unmarked_at items marks place

abbrev pub is_struck_first : List Bool → Bool
is_struck_first [] = false
is_struck_first (mark ∷ marks) = mark

-- the items with these attributes at a place
abbrev pub with_attrs_at : List Item → ℕ → Attrs → List Item
with_attrs_at [] place attrs = []
with_attrs_at (item ∷ items) zero attrs = record item { attrs = attrs } ∷ items
with_attrs_at (item ∷ items) (suc place) attrs = item ∷ with_attrs_at items place attrs

-- each item has a mark, and the names of the items rise
pub record ArePaired (items : List Item) (marks : List Bool) : Type 0 where
  pub same : length marks ≡ length items
  pub ordered : InOrder name_cmp (map entry_of items)

-- and `left` items have no mark
pub record IsMarked (items : List Item) (marks : List Bool) (left : ℕ) : Type 0 where
  pub paired : ArePaired items marks
  pub counted : left ≡ length (unmarked items marks)

-- the item at a place has this name
abbrev pub IsNamed : List Item → Name → ℕ → Type 0
IsNamed [] name place = ⊥
IsNamed (item ∷ items) name zero = item.name ≡ name
IsNamed (item ∷ items) name (suc place) = IsNamed items name place

-- no item has this name, and those before a place are those with lower names
abbrev pub IsGap : List Item → Name → ℕ → Type 0
IsGap [] name zero = Unit {0}
IsGap [] name (suc place) = ⊥
IsGap (item ∷ items) name zero = name_cmp item.name name ≡ Greater
IsGap (item ∷ items) name (suc place) = (name_cmp item.name name ≡ Less) × IsGap items name place

-- ==== The first names of a listing, as a reply to READDIR gives them.

abbrev pub name_of : Name × Attrs → Name
name_of e = e.0

-- the first `most` names of a listing, or all if there are fewer
abbrev pub first_names : ℕ → Left → List Name
first_names most left = map name_of (take most left)

-- an item with the attributes of a name, which is its long name too
abbrev pub item_of : Name × Attrs → NameItem
item_of e = record { filename = e.0; longname = e.0; attrs = e.1 }

-- the first `most` names of a listing, as items, or all if there are fewer
abbrev pub first_items : ℕ → Left → List NameItem
first_items most left = map item_of (take most left)
