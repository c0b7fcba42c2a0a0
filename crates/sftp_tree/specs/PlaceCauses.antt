-- The causes that hold at the places which the paths of a request lead to (draft-ietf-secsh-filexfer-02, sections 6.3
-- to 6.11; OpenSSH's PROTOCOL, sections 4.3 and 4.5). They are this profile's own.
use Rattle.std.specs.Prelude.{◌==◌, ◌&&◌, ◌||◌, not, ℕ, Bool, false, List, [], ◌∷◌, if◌then◌else◌, Option, Some}
use Rattle.std.specs.Prelude.{is_some}
use Rattle.std.specs.List.{list_any}
use Rattle.sftp_tree.specs.declared.causes.Cause.{Cause}
use Rattle.sftp_tree.specs.declared.causes.Cause.TheVariants.{BadFlags, BadPath, NoEntry, NotDir, Loop, Exists, IsDir}
use Rattle.sftp_tree.specs.declared.causes.Cause.TheVariants.{NotLink, NotFile, NotEmpty, Root, Inside, BadHandle}
use Rattle.sftp_tree.specs.declared.causes.Cause.TheVariants.{WrongKind, NotOpenFor, NoRoom, Unknown}
use Rattle.sftp_packets.specs.declared.attributes.Attrs.{Attrs}
use Rattle.sftp_path.specs.Place.{Place, is_below}
use Rattle.sftp_treefile.specs.TreeFile.{is_root, is_target, same_place}
use Rattle.sftp_tree.specs.declared.nodes.Node.{Node}
use Rattle.sftp_tree.specs.declared.nodes.Node.TheVariants.{File}
use Rattle.sftp_tree.specs.Tree.{Names, node_at, is_directory, is_file, is_link, is_taken, has_entries}
use Rattle.sftp_tree.specs.Attributes.{creates, excludes, are_good}

-- ==== The causes of refusals as sets, and the status codes that each cause allows (draft-ietf-secsh-filexfer-02,
-- section 7). The causes and their codes are this profile's own.

abbrev pub CauseSet : Type 0
CauseSet = Cause → Bool

-- the number of a cause's row in the status table
abbrev pub row : Cause → ℕ
row BadFlags = 0
row BadPath = 1
row NoEntry = 2
row NotDir = 3
row Loop = 4
row Exists = 5
row IsDir = 6
row NotLink = 7
row NotFile = 8
row NotEmpty = 9
row Root = 10
row Inside = 11
row BadHandle = 12
row WrongKind = 13
row NotOpenFor = 14
row NoRoom = 15
row Unknown = 16

-- the rows
abbrev pub every_cause : List Cause
every_cause =
    BadFlags ∷ BadPath ∷ NoEntry ∷ NotDir ∷ Loop ∷ Exists ∷ IsDir ∷ NotLink ∷ NotFile ∷ NotEmpty ∷ Root ∷ Inside
    ∷ BadHandle ∷ WrongKind ∷ NotOpenFor ∷ NoRoom ∷ Unknown ∷ []

-- the status codes that a cause allows (draft, section 7): 2 says that there is no such file, 3 that permission is
-- denied, 4 that the request failed, 5 that the message is bad, 8 that the request is not supported
abbrev pub allows : Cause → ℕ → Bool
allows BadFlags code = code == 4 || code == 5
allows BadPath code = code == 4 || code == 5
allows NoEntry code = code == 2
allows NotDir code = code == 2 || code == 4
allows Loop code = code == 2 || code == 4
allows NotOpenFor code = code == 3 || code == 4
allows Unknown code = code == 8
allows _ code = code == 4

-- the set of one cause
abbrev pub only : Cause → CauseSet
only one cause = row one == row cause

unfoldable pub no_causes : CauseSet
no_causes cause = false

-- the set with this cause too, if it holds
unfoldable pub when : CauseSet → Cause → Bool → CauseSet
when set one holds cause = only one cause && holds || set cause

-- the causes that are in either set
unfoldable pub joined : CauseSet → CauseSet → CauseSet
joined one other cause = one cause || other cause

-- no cause is in the set
abbrev pub is_none : CauseSet → Bool
is_none causes = not (list_any causes every_cause)

-- whether one of the causes allows the code
abbrev pub allow : CauseSet → ℕ → Bool
allow causes code = list_any (λ cause. causes cause && allows cause code) every_cause

-- ---- the causes at the place that a path leads to

-- of a node that is to be made
abbrev pub making_causes : Option Node → CauseSet
making_causes standing = when no_causes Exists (is_taken standing)

-- of a node that must exist
abbrev pub needing_causes : Option Node → CauseSet
needing_causes standing = when no_causes NoEntry (not (is_taken standing))

-- of a node that must be a link
abbrev pub link_causes : Option Node → CauseSet
link_causes standing = when (needing_causes standing) NotLink (is_taken standing && not (is_link standing))

-- of a node that must be a name of a file
abbrev pub file_causes : Option Node → CauseSet
file_causes standing = when (needing_causes standing) NotFile (is_taken standing && not (is_file standing))

-- of a node that is to get these attributes: only a file has a size that can be set
abbrev pub setting_causes : Attrs → Option Node → CauseSet
setting_causes attrs standing =
    when (needing_causes standing) NotFile (is_some attrs.size && (is_taken standing && not (is_file standing)))

-- of a directory that is to be removed
abbrev pub removing_causes : Names → Place → CauseSet
removing_causes names place =
    when (when (when (needing_causes (node_at names place))
    NotDir (is_taken (node_at names place) && not (is_directory (node_at names place))))
    NotEmpty (is_directory (node_at names place) && has_entries names place))
    Root (is_root place)

-- of a name that is to be removed, and must not be a directory
abbrev pub unlinking_causes : Option Node → CauseSet
unlinking_causes standing = when (needing_causes standing) IsDir (is_directory standing)

-- of a node that is to move to another place
abbrev pub leaving_causes : Names → Place → CauseSet
leaving_causes names place = when (needing_causes (node_at names place)) Root (is_root place)

-- of a place that is to get another node
abbrev pub giving_causes : Place → CauseSet
giving_causes place = when no_causes Root (is_root place)

-- of a node that is to be opened as a file
abbrev pub opening_causes : ℕ → Option Node → CauseSet
opening_causes flags standing =
    when (when (when no_causes
    NoEntry (not (is_taken standing) && not (creates flags)))
    Exists (is_taken standing && excludes flags))
    IsDir (is_directory standing && not (excludes flags))

-- of a node that must be a directory
abbrev pub directory_causes : Option Node → CauseSet
directory_causes standing = when (needing_causes standing) NotDir (is_taken standing && not (is_directory standing))

-- of flags with which nothing can be opened
abbrev pub flags_causes : ℕ → CauseSet
flags_causes flags = when no_causes BadFlags (not (are_good flags))

-- of a target that no link may have
abbrev pub target_bytes_causes : List ℕ → CauseSet
target_bytes_causes target = when no_causes BadPath (not (is_target target))

-- ---- the causes of two places

-- whether a directory would be moved into itself
abbrev pub goes_inside : Names → Place → Place → Bool
goes_inside names old new = is_directory (node_at names old) && is_below old new

-- whether both are names of one file
abbrev pub are_one_file : Option Node → Option Node → Bool
are_one_file (Some (File m)) (Some (File n)) = m == n
are_one_file _ _ = false

-- whether both are one place, or names of one file
abbrev pub are_one : Names → Place → Place → Bool
are_one names old new = same_place old new || are_one_file (node_at names old) (node_at names new)

-- of a move to a free place
abbrev pub moving_causes : Names → Place → Place → CauseSet
moving_causes names old new = when no_causes Inside (goes_inside names old new)

-- of a node that is to replace another: a directory replaces an empty directory, and any other node one that is not a
-- directory
abbrev pub clashing_causes : Option Node → Option Node → Bool → CauseSet
clashing_causes goes stays entries =
    when (when (when no_causes
    NotDir (is_directory goes && (is_taken stays && not (is_directory stays))))
    IsDir ((is_taken goes && not (is_directory goes)) && is_directory stays))
    NotEmpty (is_directory goes && (is_directory stays && entries))

-- of a move that replaces the node at the new place, if there is one
abbrev pub replacing_causes : Names → Place → Place → CauseSet
replacing_causes names old new =
    when (clashing_causes (node_at names old) (node_at names new) (has_entries names new))
    Inside (goes_inside names old new)

-- nothing moves if both are the same place, or names of one file
abbrev pub exchanging_causes : Names → Place → Place → CauseSet
exchanging_causes names old new = if are_one names old new then no_causes else replacing_causes names old new
