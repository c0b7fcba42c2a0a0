-- What requests need of a tree: room within its limits, in numbers, and owners. Words of private contracts; the laws of
-- limits use some.
use Rattle.std.specs.Prelude.{◌+◌, ◌-◌, ◌^◌, ◌&&◌, ◌||◌, not, nat_lt, nat_le, Bool, true, length, ℕ, Option, Some}
use Rattle.std.specs.Prelude.{None}
use Rattle.std.specs.List.{list_all}
use Rattle.sftp_path.specs.Place.{Place, begins, depth_limit}
use Rattle.sftp_treefile.specs.TreeFile.{IsOwner}
use Rattle.sftp_packets.specs.declared.attributes.Attrs.{Attrs}
use Rattle.sftp_tree.specs.declared.nodes.Node.{Node}
use Rattle.sftp_tree.specs.declared.nodes.Node.TheVariants.{Dir, File, Link}
use Rattle.sftp_tree.specs.Tree.{Tree, Names, limits, depth_fits}
use Rattle.sftp_tree.specs.Attributes.{changed_owner}
use Rattle.sftp_tree.specs.Changes.{total_fits_with}

-- whether one more entry, at a new place, keeps to the limits; the root is a place, but does not count as an entry
abbrev pub has_room : Tree → Place → Bool
has_room t place = nat_le (length t.names) (limits t).entries && depth_fits place

-- whether the file of a number may have the size that is given, if one is: for itself, and with all others
abbrev pub size_fits : Tree → ℕ → Option ℕ → Bool
size_fits t number None = true
size_fits t number (Some size) = nat_le size (limits t).file_bytes && total_fits_with t number size

-- the same, if the node is a name of a file
abbrev pub size_fits_at : Tree → Option ℕ → Option Node → Bool
size_fits_at t size None = true
size_fits_at t size (Some (Dir owner)) = true
size_fits_at t size (Some (File number)) = size_fits t number size
size_fits_at t size (Some (Link target)) = true

-- whether one more file, at a new place, keeps to the limits: it needs a number too
abbrev pub has_room_for_file : Tree → Place → Bool
has_room_for_file t place = has_room t place && nat_lt (t.made + 1) (2 ^ 32)

-- the same, if there is no node
abbrev pub has_room_to_open : Tree → Place → Option Node → Bool
has_room_to_open t place None = has_room_for_file t place
has_room_to_open t place (Some standing) = true

-- whether each place that begins with `top` has at most `room` names after it
abbrev pub reaches_at_most : Names → Place → ℕ → Bool
reaches_at_most names top room = list_all (λ e. not (begins top e.0) || nat_le (length e.0 - length top) room) names

-- whether the node at the old place, with all below it, keeps to the limit of names in a place at the new one
abbrev pub move_fits : Names → Place → Place → Bool
move_fits names old new = nat_le (length new) depth_limit && reaches_at_most names old (depth_limit - length new)

-- a directory whose attributes are set gets an owner
abbrev pub OwnsBy : Attrs → Option Node → Type 0
OwnsBy attrs (Some (Dir owner)) = IsOwner (changed_owner attrs owner)
OwnsBy attrs other = Unit {0}
