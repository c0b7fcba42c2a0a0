-- What a judge notes of the directories that are open, request by request.
use Rattle.std.specs.Prelude.{◌&&◌, not, ℕ, Bool, true, false, if◌then◌else◌, List, [], ◌∷◌, ◌++◌, map}
use Rattle.std.specs.Prelude.{Option, Some, None, is_some, unwrap_or, Result, Ok, Err}
use Rattle.sftp_packets.specs.declared.requests.Ask.{Ask}
use Rattle.sftp_packets.specs.declared.requests.Ask.TheVariants as asks
use Rattle.sftp_packets.specs.declared.replies.Answer.{Answer}
use Rattle.sftp_packets.specs.declared.replies.Answer.TheVariants as replies
use Rattle.sftp_path.specs.Place.{Place, name_cmp, begins}
use Rattle.sftp_path.specs.Table.{put}
use Rattle.sftp_handles.specs.State.{Left}
use Rattle.sftp_tree.specs.declared.causes.Cause.{Cause}
use Rattle.sftp_tree.specs.Tree.{Tree}
use Rattle.sftp_tree.specs.Walk.{reached}
use Rattle.sftp_tree.specs.Attributes.{excludes}
use Rattle.sftp_tree.specs.PlaceCauses.{is_none}
use Rattle.sftp_tree.specs.Told.{stat_ask}
use Rattle.sftp_tree.specs.Requests.{causes}
use Rattle.sftp_tree.specs.Told.{listing_to}
use Rattle.sftp_handles.specs.Replies.{has_code, names_given}
use Rattle.sftp_profile.specs.declared.directories.Directory.{Directory}
use Rattle.sftp_profile.specs.declared.directories.Shift.{Shift}
use Rattle.sftp_profile.specs.declared.notes.Note.{Note}
use Rattle.sftp_profile.specs.declared.notes.Note.TheVariants as notes
use Rattle.sftp_profile.specs.Profiles.{without_handle, given_by, shifted}

-- ---- which names a request takes away and which it brings

-- where a path leads, if it leads anywhere
abbrev pub place_of : Result Place Cause → Option Place
place_of (Ok place) = Some place
place_of (Err cause) = None

-- where a path leads; a last link is followed or not
abbrev pub led_to : Tree → Bool → List ℕ → Option Place
led_to t follow path = place_of (reached t follow path)

-- the place that a path of OPEN leads to, if there is nothing
abbrev pub made_at : Tree → Bool → List ℕ → Option Place
made_at t follow path = if is_none (causes t (stat_ask follow path)) then None else led_to t follow path

abbrev pub is_same : Option Place → Option Place → Bool
is_same (Some a) (Some b) = begins a b && begins b a
is_same None b = false
is_same (Some a) None = false

-- what is moved from a place to itself stays
abbrev pub moved : Option Place → Option Place → Shift
moved gone come =
    if is_same gone come then record { gone = None; come = None } else record { gone = gone; come = come }

-- what is gone, and what is new, after a request that is done
unfoldable pub shift_of : Tree → Ask → Shift
shift_of t (asks.Mkdir path attrs) = record { gone = None; come = led_to t false path }
shift_of t (asks.Symlink targetpath linkpath) = record { gone = None; come = led_to t false linkpath }
shift_of t (asks.Hardlink oldpath newpath) = record { gone = None; come = led_to t false newpath }
shift_of t (asks.Rmdir path) = record { gone = led_to t false path; come = None }
shift_of t (asks.Remove path) = record { gone = led_to t false path; come = None }
shift_of t (asks.Rename oldpath newpath) = moved (led_to t false oldpath) (led_to t false newpath)
shift_of t (asks.PosixRename oldpath newpath) = moved (led_to t false oldpath) (led_to t false newpath)
shift_of t (asks.Open path pflags attrs) = record { gone = None; come = made_at t (not (excludes pflags)) path }
shift_of t other = record { gone = None; come = None }

-- nothing is gone, and nothing is new
abbrev pub is_still : Shift → Bool
is_still shift = not (is_some shift.gone) && not (is_some shift.come)

abbrev pub shift_note : Shift → Note
shift_note shift = if is_still shift then notes.Nothing else notes.Shifts shift

-- ---- what is opened

-- the table with these entries, one after the other
unfoldable pub all_put : Left → Left → Left
all_put table [] = table
all_put table (e ∷ es) = all_put (put name_cmp table e.0 e.1) es

-- the directory at a place, newly open: all its names have to be given, if it is listed
abbrev pub directory_by : Tree → List ℕ → Bool → List ℕ → Directory
directory_by t path is_listed handle = record {
  handle = handle;
  place = led_to t true path;
  is_listed = is_listed;
  must = all_put [] (unwrap_or (listing_to t (asks.Opendir path)) []);
  fresh = [];
}

-- a path leads to a directory
abbrev pub leads_to_directory : Tree → List ℕ → Bool
leads_to_directory t path = is_none (causes t (asks.Opendir path))

abbrev pub opened_or : Tree → List ℕ → Bool → List ℕ → Note → Note
opened_or t path is_listed handle otherwise =
    if leads_to_directory t path then notes.Opens (directory_by t path is_listed handle) else otherwise

-- a handle of a directory is noted, and another one otherwise
abbrev pub opened : Tree → List ℕ → Bool → Answer → Note → Note
opened t path is_listed (replies.Handle handle) otherwise = opened_or t path is_listed handle otherwise
opened t path is_listed other otherwise = notes.Nothing

-- ---- notes

abbrev pub when_done : Answer → Note → Note
when_done answer note = if has_code 0 answer then note else notes.Nothing

-- what is noted of a request that got this answer
unfoldable pub note_of : Tree → Ask → Answer → Note
note_of t (asks.Opendir path) answer = opened t path true answer notes.Nothing
note_of t (asks.Open path pflags attrs) answer =
    opened t path false answer (shift_note (shift_of t (asks.Open path pflags attrs)))
note_of t (asks.Readdir handle) answer = notes.Gives handle
note_of t (asks.Close handle) answer = when_done answer (notes.Closes handle)
note_of t other answer = when_done answer (shift_note (shift_of t other))

-- the directories after it
unfoldable pub noted : List Directory → Note → Answer → List Directory
noted directories notes.Nothing answer = directories
noted directories (notes.Opens directory) answer = directories ++ directory ∷ []
noted directories (notes.Closes handle) answer = without_handle directories handle
noted directories (notes.Gives handle) answer = map (given_by handle (names_given answer)) directories
noted directories (notes.Shifts shift) answer = map (shifted shift) directories
