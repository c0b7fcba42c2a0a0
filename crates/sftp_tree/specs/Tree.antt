-- The tree: the node at each place, the files that have names there or are pinned, where relative paths start, who owns
-- what is made with no owner given, and how much the tree may hold. The limits are this profile's own.
use Rattle.std.specs.Prelude.{◌&&◌, ◌||◌, ◌==◌, nat_lt, nat_le, if◌then◌else◌, ℕ, ◌+◌, ◌-◌, ◌<◌, ◌^◌}
use Rattle.std.specs.Prelude.{◌∷◌, List, min, Bool, true, false, [], length, Option, Some, None, is_some, unwrap_or}
use Rattle.std.specs.Prelude.{IsTrue}
use Rattle.std.specs.Ordering.{nat_cmp}
use Rattle.std.specs.List.{list_any, list_all, AllByRecursion}
use Rattle.sftp_path.specs.Place.{Place, place_cmp, parent, is_below, are_names, depth_limit}
use Rattle.sftp_path.specs.Table.{Table, InOrder, get, put, without, retain, count}
use Rattle.sftp_treefile.specs.declared.limits.TreeLimits.{TreeLimits}
use Rattle.sftp_treefile.specs.TreeFile.{raised_limits, AreLimits}
use Rattle.sftp_treefile.specs.TreeFile.{IsOwner, is_target, are_bytes}
use Rattle.sftp_tree.specs.declared.file_contents.Content.{Content}
use Rattle.sftp_tree.specs.declared.nodes.Node.{Node}
use Rattle.sftp_tree.specs.declared.nodes.Node.TheVariants.{Dir, File, Link}

-- ---- entries

abbrev pub Names : Type 0
Names = Table Place Node

-- the node at a place
abbrev pub node_at : Names → Place → Option Node
node_at names place = get place_cmp names place

-- with the node at the place
abbrev pub with_node : Names → Place → Node → Names
with_node names place node = put place_cmp names place node

-- with the place free
abbrev pub without_node : Names → Place → Names
without_node names place = without place_cmp names place

abbrev pub is_taken : Option Node → Bool
is_taken None = false
is_taken (Some node) = true

abbrev pub is_directory : Option Node → Bool
is_directory None = false
is_directory (Some (Dir owner)) = true
is_directory (Some (File number)) = false
is_directory (Some (Link target)) = false

abbrev pub is_file : Option Node → Bool
is_file None = false
is_file (Some (Dir owner)) = false
is_file (Some (File number)) = true
is_file (Some (Link target)) = false

abbrev pub is_link : Option Node → Bool
is_link None = false
is_link (Some (Dir owner)) = false
is_link (Some (File number)) = false
is_link (Some (Link target)) = true

-- whether a place has entries below it
unfoldable pub has_entries : Names → Place → Bool
has_entries names place = list_any (λ e. is_below place e.0) names

-- ---- files

-- files by their numbers
abbrev pub Files : Type 0
Files = Table ℕ Content

-- the file of a number
abbrev pub content_at : Files → ℕ → Option Content
content_at files number = get nat_cmp files number

-- with this content for the file of a number
abbrev pub with_content : Files → ℕ → Content → Files
with_content files number content = put nat_cmp files number content

-- whether it is a name of the file
abbrev pub names_file : ℕ → Node → Bool
names_file number (Dir owner) = false
names_file number (File n) = n == number
names_file number (Link target) = false

-- how many names a file has
abbrev pub times_named : Names → ℕ → ℕ
times_named names number = count names (names_file number)

abbrev pub is_named : Names → ℕ → Bool
is_named names number = nat_lt 0 (times_named names number)

-- ---- pins

-- how often each file is pinned by something that holds it open
abbrev pub Pins : Type 0
Pins = Table ℕ ℕ

-- how often a file is pinned
abbrev pub times_pinned : Pins → ℕ → ℕ
times_pinned pins number = unwrap_or (get nat_cmp pins number) 0

abbrev pub is_pinned : Pins → ℕ → Bool
is_pinned pins number = nat_lt 0 (times_pinned pins number)

-- with the file pinned so often; a file that is not pinned has no entry
abbrev pub with_pins : Pins → ℕ → ℕ → Pins
with_pins pins number often = if nat_lt 0 often then put nat_cmp pins number often else without nat_cmp pins number

-- with one more pin of the file
abbrev pub with_pin : Pins → ℕ → Pins
with_pin pins number = with_pins pins number (times_pinned pins number + 1)

-- with one less
abbrev pub without_pin : Pins → ℕ → Pins
without_pin pins number = with_pins pins number (times_pinned pins number - 1)

-- ---- a tree

pub record Tree : Type 0 where
  -- the node at each place; the root is one of them
  pub names : Names
  -- the files
  pub files : Files
  -- how many numbers were given to files; no number is given twice
  pub made : ℕ
  -- how often each file is pinned: the counts of who holds it open, which say only that it stays, and are no part of
  -- what a tree means to a path or a tree file. The bytes of a file that stays so count for the limit on all
  pub pins : Pins
  -- how much the tree may hold
  pub limits : TreeLimits
  -- where relative paths start; it need not exist
  pub home : Place
  -- who owns what is made with no owner given
  pub uid : ℕ
  pub gid : ℕ

-- a file stays while it has a name or is pinned
abbrev pub is_held : Tree → ℕ → Bool
is_held t number = is_named t.names number || is_pinned t.pins number

-- the tree without the files that have no name and that nothing else holds
abbrev pub trimmed : (ℕ → Bool) → Tree → Tree
trimmed holds t = record t { files = retain t.files (λ e. is_named t.names e.0 || holds e.0) }

-- the tree without the files that have no name and are not pinned
abbrev pub trim : Tree → Tree
trim t = trimmed (is_pinned t.pins) t

-- a directory has an owner and twelve bits of permissions, a name of a file the number of one, a link any bytes
abbrev pub IsNode : Files → Node → Type 0
IsNode files (Dir owner) = IsOwner owner
IsNode files (File number) = IsTrue (is_some (content_at files number))
IsNode files (Link target) = IsTrue (are_bytes target)

-- there is a file of the number
abbrev pub HasFile : Files → ℕ → Type 0
HasFile files number = IsTrue (is_some (content_at files number))

-- a file that is pinned exists, and its count is not 0
abbrev pub IsPin : Files → ℕ × ℕ → Type 0
IsPin files e = (0 < e.1) × HasFile files e.0

abbrev pub IsContent : Content → Type 0
IsContent content = IsOwner content.owner × IsTrue (are_bytes content.bytes)

-- What makes it a tree: its places are lists of names, in order and each once, the root is a directory, each other
-- place's parent is one, names of files are names of files that exist, files that are pinned exist, the numbers of
-- files were given, each number fits its field, and each limit is in its range.
pub record WellFormed (t : Tree) : Type 0 where
  pub ordered : InOrder place_cmp t.names
  pub named : AllByRecursion (λ e. IsTrue (are_names e.0)) t.names
  pub nodes : AllByRecursion (λ e. IsNode t.files e.1) t.names
  pub root : IsTrue (is_directory (node_at t.names []))
  pub parents : (place : Place) → IsTrue (is_taken (node_at t.names place))
      → IsTrue (is_directory (node_at t.names (parent place)))
  pub numbered : InOrder nat_cmp t.files
  pub contents : AllByRecursion (λ e. IsContent e.1) t.files
  pub given : AllByRecursion (λ e. e.0 < t.made) t.files
  pub pins : InOrder nat_cmp t.pins
  pub pinned : AllByRecursion (λ e. IsPin t.files e) t.pins
  pub limits : AreLimits t.limits
  pub home : IsTrue (are_names t.home)
  pub uid : t.uid < 2 ^ 32
  pub gid : t.gid < 2 ^ 32

-- each file has a name or is pinned
abbrev pub IsTrimmed : Tree → Type 0
IsTrimmed t = AllByRecursion (λ e. IsTrue (is_held t e.0)) t.files

-- ---- limits

abbrev pub limits : Tree → TreeLimits
limits t = t.limits

-- the four that a client may ask for, in the order of a tree file; a number of bytes that has no 32 bits is the highest
-- that has
abbrev pub told_limits : TreeLimits → List ℕ
told_limits limits =
    limits.entries ∷ min limits.file_bytes 4294967295 ∷ limits.read_bytes ∷ limits.open_handles ∷ []

-- the same tree with its limits raised to the highest after the second opening, where they are not higher
abbrev pub raised : Tree → Tree
raised t = record t { limits = raised_limits t.limits }

-- how many entries are below the root, which is one of the places
abbrev pub entry_count : Tree → ℕ
entry_count t = length t.names - 1

abbrev pub entries_fit : Tree → Bool
entries_fit t = nat_le (entry_count t) (limits t).entries

abbrev pub depth_fits : Place → Bool
depth_fits place = nat_le (length place) depth_limit

abbrev pub depths_fit : Tree → Bool
depths_fit t = list_all (λ e. depth_fits e.0) t.names

abbrev pub home_fits : Tree → Bool
home_fits t = depth_fits t.home

-- the target of a link is a good path, and not empty
abbrev pub link_fits : Node → Bool
link_fits (Dir owner) = true
link_fits (File number) = true
link_fits (Link target) = is_target target

abbrev pub links_fit : Tree → Bool
links_fit t = list_all (λ e. link_fits e.1) t.names

abbrev pub content_fits : TreeLimits → Content → Bool
content_fits bounds content = nat_le (length content.bytes) bounds.file_bytes

abbrev pub files_fit : Tree → Bool
files_fit t = list_all (λ e. content_fits (limits t) e.1) t.files

-- how many bytes the files have together, those among them that have no name any more and are only held open
abbrev pub total_of : Files → ℕ
total_of [] = 0
total_of (e ∷ files) = length e.1.bytes + total_of files

abbrev pub total_fits : Tree → Bool
total_fits t = nat_le (total_of t.files) (limits t).total_bytes

-- the count of the numbers that were given to files has 32 bits
abbrev pub numbers_fit : Tree → Bool
numbers_fit t = nat_lt t.made (2 ^ 32)

-- a tree within the limits
unfoldable pub fits : Tree → Bool
fits t =
    entries_fit t
    && (depths_fit t && (home_fits t && (links_fit t && (files_fit t && (total_fits t && numbers_fit t)))))

-- what every tree of the program keeps
pub record IsKept (t : Tree) : Type 0 where
  pub well_formed : WellFormed t
  pub within_limits : IsTrue (fits t)
  pub trimmed : IsTrimmed t
