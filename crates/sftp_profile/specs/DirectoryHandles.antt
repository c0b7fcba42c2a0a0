-- Requests on directories that are open: through the handle of OPEN, and through that of OPENDIR (POSIX, open and
-- readdir).
use Rattle.std.specs.Prelude.{◌==◌, ◌&&◌, ◌||◌, not, ℕ, Bool, true, false, if◌then◌else◌, List, length, Option, Some}
use Rattle.std.specs.Prelude.{None, is_some, nat_lt, [], ◌∷◌, ◌++◌}
use Rattle.std.specs.Option.{option_map}
use Rattle.sftp_packets.specs.declared.requests.Ask.{Ask}
use Rattle.sftp_packets.specs.declared.requests.Ask.TheVariants as asks
use Rattle.sftp_packets.specs.declared.replies.Answer.{Answer}
use Rattle.sftp_packets.specs.declared.replies.Answer.TheVariants as replies
use Rattle.sftp_packets.specs.Requests.{asked_handle}
use Rattle.sftp_path.specs.Place.{absolute, Name, Place, name_cmp, is_name}
use Rattle.sftp_tree.specs.Attributes.{truncates}
use Rattle.sftp_handles.specs.Replies.{has_code, same_attributes, has_attributes, are_distinct, names_in}
use Rattle.sftp_profile.specs.declared.profiles.Profile.{Profile}
use Rattle.sftp_profile.specs.declared.directories.Directory.{Directory}
use Rattle.sftp_profile.specs.Profiles.{directory_at}
use Rattle.sftp_profile.specs.BytesRead.{mended_flags}
use Rattle.sftp_profile.specs.BytesRead.{is_refusal, is_handle}
use Rattle.sftp_profile.specs.StrictAnswers.{is_directory, mended}
use Rattle.std.specs.List.{list_all, flat_map}
use Rattle.sftp_packets.specs.declared.attributes.Attrs.{Attrs}
use Rattle.sftp_packets.specs.declared.names.NameItem.{NameItem}
use Rattle.sftp_path.specs.Table.{get}
use Rattle.sftp_tree.specs.Tree.{Tree}
use Rattle.sftp_handles.specs.State.{State}
use Rattle.sftp_handles.specs.State.{Left, open_at}
use Rattle.sftp_handles.specs.Slots.{listing_in}
use Rattle.sftp_profile.specs.Shown.{shown_at}

-- ---- which directory

abbrev pub directory_in : List Directory → Option (List ℕ) → Option Directory
directory_in directories (Some handle) = directory_at directories handle
directory_in directories None = None

-- the directory that is open under the handle of a request
abbrev pub directory_of : List Directory → Ask → Option Directory
directory_of directories ask = directory_in directories (asked_handle ask)

-- it has been removed
abbrev pub is_removed : Option Directory → Bool
is_removed (Some directory) = not (is_some directory.place)
is_removed None = false

-- OPENDIR gave the handle, or OPEN
abbrev pub is_listing : Option Directory → Bool
is_listing (Some directory) = directory.is_listed
is_listing None = false

-- the text of its place
abbrev pub text_of : Option Directory → Option (List ℕ)
text_of (Some directory) = option_map absolute directory.place
text_of None = None

-- ---- through the handle of OPEN

-- READDIR through the handle of OPEN
abbrev pub is_barred : Option Directory → Ask → Bool
is_barred found (asks.Readdir handle) = is_some found && not (is_listing found)
is_barred found other = false

-- an answer to that
abbrev pub refuses_kind : Profile → Answer → Bool
refuses_kind profile answer = has_code 4 answer || profile.codes && is_refusal answer

-- flags that ask to read and nothing else, as the profile takes them
abbrev pub only_reads : Profile → ℕ → Bool
only_reads profile pflags = not (truncates pflags) && (if profile.flags then mended_flags pflags else pflags) == 1

abbrev pub are_attributes : Answer → Bool
are_attributes (replies.Attrs attrs) = true
are_attributes other = false

-- the attributes of a directory
abbrev pub are_directory : Answer → Bool
are_directory (replies.Attrs attrs) = is_directory attrs.permissions
are_directory other = false

-- OPEN of a directory is an OPENDIR, and FSTAT and FSETSTAT of one are STAT and SETSTAT, if they are not refused
abbrev pub stands_for : Profile → Option Directory → Ask → Answer → Option Ask
stands_for profile found (asks.Open path pflags attrs) answer =
    if is_handle answer && only_reads profile pflags then Some (asks.Opendir path) else None
stands_for profile found (asks.Fstat handle) answer =
    if are_attributes answer then option_map asks.Stat (text_of found) else None
stands_for profile found (asks.Fsetstat handle attrs) answer =
    if has_code 0 answer then option_map (λ text. asks.Setstat text attrs) (text_of found) else None
stands_for profile found other answer = None

-- fsync of a directory is done; of one that is removed, FSTAT shows any directory's attributes, and FSETSTAT changes
-- nothing, and no size
abbrev pub passes_open_dir : Option Directory → Ask → Answer → Bool
passes_open_dir found (asks.Fsync handle) answer = is_some found && has_code 0 answer
passes_open_dir found (asks.Fstat handle) answer = is_removed found && are_directory answer
passes_open_dir found (asks.Fsetstat handle attrs) answer =
    is_removed found && (has_code 0 answer && not (is_some attrs.size))
passes_open_dir found other answer = false

-- ---- listings

-- no name is left that was there all the time
abbrev pub has_no_must : Option Directory → Bool
has_no_must (Some directory) = length directory.must == 0
has_no_must None = false

-- the end was reached, or the directory was removed and is refused
abbrev pub ends : Option Directory → Answer → Bool
ends found answer =
    has_no_must found && has_code 1 answer || is_removed found && (has_code 2 answer || has_code 4 answer)

-- READDIR says so
abbrev pub passes_listing : Option Directory → Ask → Answer → Bool
passes_listing found (asks.Readdir handle) answer = is_listing found && ends found answer
passes_listing found other answer = false

-- ---- both

-- an answer passes after which the session is as before
abbrev pub passes_directory : Profile → Option Directory → Ask → Answer → Bool
passes_directory profile found ask answer =
    profile.open_dir && passes_open_dir found ask answer || profile.listing && passes_listing found ask answer

-- ==== Names that a listing of a directory gives while names come and go (POSIX, readdir).

-- the attributes that LSTAT shows now of a name in the directory
abbrev pub shown_now : Tree → Option Place → Name → Option Attrs
shown_now t (Some place) name = shown_at t (asks.Lstat (absolute (place ++ name ∷ [])))
shown_now t None name = None

-- attributes are those, but for what the profile leaves free
abbrev pub are_shown : Profile → Option Attrs → Attrs → Bool
are_shown profile (Some shown) attrs = same_attributes shown (mended profile (Some shown) attrs)
are_shown profile None attrs = false

-- a name was not given since it was last there anew
abbrev pub is_due : Directory → Left → Name → Bool
is_due directory left name = is_some (get name_cmp left name) || is_some (get name_cmp directory.fresh name)

-- a name of the time of OPENDIR, with its attributes of then, or a name of now that is due, with those of now
abbrev pub may_name_be_given : Profile → Tree → Directory → Left → Name → Attrs → Bool
may_name_be_given profile t directory left name attrs =
    has_attributes (get name_cmp left name) attrs
    || is_due directory left name && are_shown profile (shown_now t directory.place name) attrs

abbrev pub may_be_given : Profile → Tree → Directory → Left → NameItem → Bool
may_be_given profile t directory left item =
    is_name item.filename && may_name_be_given profile t directory left item.filename item.attrs

-- names, each once, that may be given
abbrev pub may_be_listed : Profile → Tree → Directory → Left → List NameItem → Bool
may_be_listed profile t directory left items =
    nat_lt 0 (length items)
    && (are_distinct (names_in items) && list_all (may_be_given profile t directory left) items)

-- a name with the attributes that are shown of it, if any are
abbrev pub shown_item : Name → Option Attrs → List NameItem
shown_item name (Some attrs) = record { filename = name; longname = []; attrs = attrs } ∷ []
shown_item name None = []

-- a name of the time of OPENDIR, with its attributes of then
abbrev pub left_item : Left → Name → List NameItem
left_item left name = if is_name name then shown_item name (get name_cmp left name) else []

abbrev pub left_items : Left → List NameItem → List NameItem
left_items left items = flat_map (λ item. left_item left item.filename) items

-- the names that were left, of those that a listing gives, if all may be given
abbrev pub due_left : Profile → Tree → Directory → List NameItem → Option Left → Option (List NameItem)
due_left profile t directory items (Some left) =
    if may_be_listed profile t directory left items then Some (left_items left items) else None
due_left profile t directory items None = None

abbrev pub items_of : Answer → Option (List NameItem)
items_of (replies.Name items) = Some items
items_of other = None

abbrev pub due_of : Profile → State → Option Directory → List ℕ → Option (List NameItem) → Option (List NameItem)
due_of profile s (Some directory) handle (Some items) =
    due_left profile s.tree directory items (listing_in (open_at s.handles handle))
due_of profile s (Some directory) handle None = None
due_of profile s None handle items = None

-- the same of the names that an answer to READDIR gives
unfoldable pub due_items : Profile → State → Option Directory → Ask → Answer → Option (List NameItem)
due_items profile s found (asks.Readdir handle) answer = due_of profile s found handle (items_of answer)
due_items profile s found other answer = None
