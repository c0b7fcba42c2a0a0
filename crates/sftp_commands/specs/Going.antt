-- Which requests an audit that goes on leaves out, with their wrong replies: those that changed nothing of the tree.
use Rattle.std.specs.Prelude.{◌==◌, ℕ, suc, if◌then◌else◌, List, [], ◌∷◌, ◌&&◌, not, Bool, true, false}
use Rattle.sftp_packets.specs.declared.requests.Ask.{Ask}
use Rattle.sftp_packets.specs.declared.requests.Ask.TheVariants as asks
use Rattle.sftp_packets.specs.declared.replies.Answer.{Answer}
use Rattle.sftp_packets.specs.declared.replies.Answer.TheVariants as answers
use Rattle.sftp_tree.specs.Attributes.{creates, truncates}
use Rattle.sftp_commands.specs.declared.bearings.Bearing.{Bearing}
use Rattle.sftp_commands.specs.declared.bearings.Bearing.TheVariants.{Looks, Lists, Closes, Opens, Changes}
use Rattle.sftp_commands.specs.declared.bearings.Outcome.{Outcome}
use Rattle.sftp_commands.specs.declared.bearings.Outcome.TheVariants.{Refused, Done, Opened, Told}

-- ==== Texts in quotes, of which `show --full` shows the first bytes.

-- how many escapes characters have
abbrev pub escapes_in : List ℕ → ℕ
escapes_in [] = 0
escapes_in (c ∷ text) = if c == 92 then suc (escapes_in text) else escapes_in text

-- an OPEN with these flags neither makes nor empties a file
abbrev pub only_opens : ℕ → Bool
only_opens flags = not (creates flags) && not (truncates flags)

abbrev pub opening : ℕ → Bearing
opening flags = if only_opens flags then Opens else Changes

-- what a request may change where it is done
abbrev pub bearing_of : Ask → Bearing
bearing_of (asks.Stat path) = Looks
bearing_of (asks.Lstat path) = Looks
bearing_of (asks.Fstat handle) = Looks
bearing_of (asks.Read handle offset len) = Looks
bearing_of (asks.Realpath path) = Looks
bearing_of (asks.Readlink path) = Looks
bearing_of (asks.Fsync handle) = Looks
bearing_of asks.Limits = Looks
bearing_of (asks.Readdir handle) = Lists
bearing_of (asks.Close handle) = Closes
bearing_of (asks.Opendir path) = Opens
bearing_of (asks.Open path pflags attrs) = opening pflags
bearing_of other = Changes

abbrev pub status_outcome : ℕ → Outcome
status_outcome code = if code == 0 then Done else Refused

-- what a reply says
abbrev pub outcome_of : Answer → Outcome
outcome_of (answers.Status code message language) = status_outcome code
outcome_of (answers.Handle handle) = Opened
outcome_of other = Told

abbrev pub is_refused : Outcome → Bool
is_refused Refused = true
is_refused other = false

abbrev pub is_refused_or_done : Outcome → Bool
is_refused_or_done Refused = true
is_refused_or_done Done = true
is_refused_or_done other = false

abbrev pub is_refused_or_opened : Outcome → Bool
is_refused_or_opened Refused = true
is_refused_or_opened Opened = true
is_refused_or_opened other = false

-- A request with a wrong reply left the tree as it was, and all that is open but for its own handle: it changes nothing
-- whatever its reply says, or its reply says that it was refused, or it only opened or closed. What a session does
-- behind a request that is not followed is not known.
abbrev pub is_harmless : Bearing → Outcome → Bool → Bool
is_harmless Looks outcome follows = true
is_harmless Lists outcome follows = true
is_harmless Closes outcome follows = follows && is_refused_or_done outcome
is_harmless Opens outcome follows = follows && is_refused_or_opened outcome
is_harmless Changes outcome follows = follows && is_refused outcome
