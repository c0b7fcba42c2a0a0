-- What is left of the listing of a directory, and what a reply to READDIR may give of it
-- (draft-ietf-secsh-filexfer-02, section 6.7). Which fields of a reply are free is this profile's own.
use Rattle.std.specs.Prelude.{◌==◌, ◌&&◌, not, nat_lt, ℕ, Bool, true, false, List, [], ◌∷◌, length, map, Option, Some}
use Rattle.std.specs.Prelude.{None, is_some, IsTrue}
use Rattle.std.specs.List.{AllByRecursion, list_any, list_all}
use Rattle.sftp_packets.specs.declared.attributes.Attrs.{Attrs}
use Rattle.sftp_packets.specs.declared.names.NameItem.{NameItem}
use Rattle.sftp_packets.specs.Spelling.{FitsAttrs}
use Rattle.sftp_path.specs.Place.{Name, name_cmp, is_name, same_bytes}
use Rattle.sftp_path.specs.Table.{Table, InOrder, get, retain}

-- the remaining entries of a listing, with their attributes
abbrev pub Left : Type 0
Left = Table Name Attrs

-- ---- what a listing may have

-- size, owner and permissions, and nothing else
abbrev pub is_plain : Attrs → Bool
is_plain a =
    is_some a.size && (is_some a.owner && (is_some a.permissions
    && (not (is_some a.times) && not (is_some a.extended))))

-- a name of a directory, with attributes that can be encoded
abbrev pub IsItem : Name × Attrs → Type 0
IsItem e = IsTrue (is_name e.0) × FitsAttrs e.1 × IsTrue (is_plain e.1)

-- the names of a listing are in order, and each comes once
pub record IsLeft (left : Left) : Type 0 where
  pub ordered : InOrder name_cmp left
  pub items : AllByRecursion IsItem left

-- ---- attributes

abbrev pub same_number : Option ℕ → Option ℕ → Bool
same_number (Some a) (Some b) = a == b
same_number _ _ = false

abbrev pub same_numbers : Option (ℕ × ℕ) → Option (ℕ × ℕ) → Bool
same_numbers (Some a) (Some b) = a.0 == b.0 && a.1 == b.1
same_numbers _ _ = false

-- whether both attributes have the size, the owner and the permissions, and the same ones; times and extended pairs are
-- free
abbrev pub same_attributes : Attrs → Attrs → Bool
same_attributes a b =
    same_number a.size b.size && (same_numbers a.owner b.owner && same_number a.permissions b.permissions)

-- ---- names

abbrev pub is_among : Name → List Name → Bool
is_among name names = list_any (same_bytes name) names

-- no name comes twice
abbrev pub are_distinct : List Name → Bool
are_distinct [] = true
are_distinct (name ∷ names) = not (is_among name names) && are_distinct names

abbrev pub has_attributes : Option Attrs → Attrs → Bool
has_attributes None attrs = false
has_attributes (Some left) attrs = same_attributes left attrs

-- a remaining entry of the listing, with its attributes
abbrev pub is_left : Left → NameItem → Bool
is_left left item = has_attributes (get name_cmp left item.filename) item.attrs

abbrev pub names_in : List NameItem → List Name
names_in items = map (λ item. item.filename) items

-- one or more of the remaining entries of the listing, each once, in any order
abbrev pub are_some_left : Left → List NameItem → Bool
are_some_left left items = nat_lt 0 (length items) && (list_all (is_left left) items && are_distinct (names_in items))

-- what is left without these names
abbrev pub struck : Left → List Name → Left
struck left names = retain left (λ e. not (is_among e.0 names))
