-- Requests that a server did although the tree cannot hold what they ask for: it has no room left, or no such target of
-- a link. Which trees have room is this project's own.
use Rattle.std.specs.Prelude.{◌&&◌, ◌||◌, not, Bool, true, false, Option, Some, None}
use Rattle.std.specs.List.{list_any, list_all}
use Rattle.sftp_packets.specs.declared.requests.Ask.{Ask}
use Rattle.sftp_packets.specs.declared.requests.Ask.TheVariants as asks
use Rattle.sftp_packets.specs.declared.replies.Answer.{Answer}
use Rattle.sftp_path.specs.Place.{is_good_path}
use Rattle.sftp_treefile.specs.TreeFile.{is_target}
use Rattle.sftp_tree.specs.declared.causes.Cause.{Cause}
use Rattle.sftp_tree.specs.declared.causes.Cause.TheVariants.{NoRoom, BadPath}
use Rattle.sftp_tree.specs.PlaceCauses.{CauseSet, every_cause}
use Rattle.sftp_handles.specs.State.{State}
use Rattle.sftp_handles.specs.Allowed.{causes}
use Rattle.sftp_handles.specs.Replies.{has_code}
use Rattle.sftp_profile.specs.declared.profiles.Profile.{Profile}
use Rattle.sftp_profile.specs.BytesRead.{is_handle}
use Rattle.sftp_profile.specs.Interpretations.{asked}

-- ---- what the answer says

-- a request that changes something is done: what opens something has a handle for answer, and all else OK
abbrev pub is_done : Ask → Answer → Bool
is_done (asks.Open path pflags attrs) answer = is_handle answer
is_done (asks.Opendir path) answer = is_handle answer
is_done other answer = has_code 0 answer

-- ---- what refuses the request

-- of the paths of a SYMLINK it is the target that is bad
abbrev pub has_bad_target : Ask → Bool
has_bad_target (asks.Symlink target link) = is_good_path link && not (is_target target)
has_bad_target other = false

-- a cause says no more than that the tree cannot hold what is asked for
abbrev pub is_of_room : Ask → Cause → Bool
is_of_room ask NoRoom = true
is_of_room ask BadPath = has_bad_target ask
is_of_room ask other = false

-- each cause that holds says no more than that
abbrev pub are_of_room : CauseSet → Ask → Bool
are_of_room set ask = list_all (λ cause. not (set cause) || is_of_room ask cause) every_cause

-- and some cause holds
abbrev pub lacks_room : CauseSet → Ask → Bool
lacks_room set ask = list_any set every_cause && are_of_room set ask

-- ---- both

-- the request was done, and nothing but the room in the tree refuses it
abbrev pub outgrows : State → Ask → Answer → Bool
outgrows s ask answer = is_done ask answer && lacks_room (causes s ask) ask

-- the same of the request that this one is taken for, if it is taken for one
abbrev pub outgrows_as : State → Option Ask → Answer → Bool
outgrows_as s (Some ask) answer = outgrows s ask answer
outgrows_as s None answer = false

-- the same of the request as it stands, or of the one that the profile takes it for
unfoldable pub is_outgrown : Profile → State → Ask → Answer → Bool
is_outgrown profile s ask answer = outgrows s ask answer || outgrows_as s (asked profile s ask) answer
