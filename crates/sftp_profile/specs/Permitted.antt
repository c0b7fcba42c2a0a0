-- Which replies a profile permits, and the state after each.
use Rattle.std.specs.Prelude.{◌≡◌, ◌==◌, ◌&&◌, not, Bool, true, false, if◌then◌else◌, List, [], length, Option, Some}
use Rattle.std.specs.Prelude.{None, unwrap_or}
use Rattle.std.specs.Option.{option_map}
use Rattle.sftp_packets.specs.declared.names.NameItem.{NameItem}
use Rattle.sftp_packets.specs.declared.requests.Ask.{Ask}
use Rattle.sftp_packets.specs.declared.replies.Answer.{Answer}
use Rattle.sftp_packets.specs.declared.replies.Answer.TheVariants as replies
use Rattle.sftp_packets.specs.declared.packets.Request.{Request}
use Rattle.sftp_packets.specs.declared.packets.Reply.{Reply}
use Rattle.sftp_handles.specs.State as sessions
use Rattle.sftp_handles.specs.Allowed as strictly
use Rattle.sftp_profile.specs.declared.profiles.Profile.{Profile}
use Rattle.sftp_profile.specs.State.{State}
use Rattle.sftp_profile.specs.Departures.{is_forgiven, is_modelled}
use Rattle.sftp_profile.specs.BytesRead.{is_handle}
use Rattle.sftp_profile.specs.Room.{is_outgrown}
use Rattle.sftp_profile.specs.Replaced.{put}
use Rattle.sftp_profile.specs.Interpretations.{asked, followed}
use Rattle.sftp_profile.specs.StrictAnswers.{told}
use Rattle.sftp_profile.specs.declared.directories.Directory.{Directory}
use Rattle.sftp_profile.specs.declared.notes.Note.{Note}
use Rattle.sftp_profile.specs.Profiles.{is_stateless}
use Rattle.sftp_profile.specs.Notes.{note_of, noted}
use Rattle.sftp_profile.specs.DirectoryHandles.{directory_of, is_barred, refuses_kind, stands_for, passes_directory}
use Rattle.sftp_profile.specs.DirectoryHandles.{due_items}

abbrev pub forgiven_by : sessions.State → Bool → Option sessions.State
forgiven_by s true = Some s
forgiven_by s false = None

abbrev pub first_of : Option sessions.State → Option sessions.State → Option sessions.State
first_of (Some end) other = Some end
first_of None other = other

-- OK
abbrev pub done_status : Answer
done_status = replies.Status 0 [] []

-- the session after the answer as it would be strictly, if the profile leaves a part of it free
abbrev pub retold : sessions.State → Ask → Option Answer → Option sessions.State
retold s ask (Some answer) = strictly.step s ask answer
retold s ask None = None

-- the session after this answer to this request, or else after the answer as it would be strictly
abbrev pub read_as : Profile → sessions.State → Ask → Answer → Option sessions.State
read_as profile s ask answer = first_of (strictly.step s ask answer) (retold s ask (told profile s ask answer))

-- the session after a SETSTAT that comes with an OPEN, if the OPEN gave a handle and nothing refuses it
abbrev pub set_after : sessions.State → Ask → Bool → Option sessions.State
set_after s ask true = first_of (strictly.step s ask done_status) (Some s)
set_after s ask false = Some s

-- the same, if one comes with it
abbrev pub with_followed : Option Ask → Answer → sessions.State → Option sessions.State
with_followed (Some ask) answer s = set_after s ask (is_handle answer)
with_followed None answer s = Some s

-- the session after the answer to the request that this one is taken for, if it is taken for one
abbrev pub taken : Profile → sessions.State → Option Ask → Answer → Option sessions.State
taken profile s (Some ask) answer = read_as profile s ask answer
taken profile s None answer = None

-- the same with the SETSTAT
abbrev pub taken_for : Profile → sessions.State → Ask → Answer → Option sessions.State
taken_for profile s ask answer =
    strictly.and_then (taken profile s (asked profile s ask) answer) (with_followed (followed profile ask) answer)

-- the session after an answer that the profile forgives: it passes, or it is allowed but for what is free, or it is so
-- for the request that this one is taken for
unfoldable pub forgiven : Profile → sessions.State → Ask → Answer → Option sessions.State
forgiven profile s ask answer =
    first_of (forgiven_by s (is_forgiven profile s ask answer))
    (first_of (retold s ask (told profile s ask answer)) (taken_for profile s ask answer))

-- the session after an answer that is allowed strictly, or else forgiven
unfoldable pub permitted : Profile → sessions.State → Ask → Answer → Option sessions.State
permitted profile s ask answer = first_of (strictly.step s ask answer) (forgiven profile s ask answer)

-- ---- with the directories that are open

-- the request that stands for one on a directory, as it is judged
abbrev pub standing_for : Profile → sessions.State → Option Directory → Ask → Answer → Option Ask
standing_for profile s found ask answer = option_map (put profile s) (stands_for profile found ask answer)

-- the session after the answer to this request, if there is one
abbrev pub taken_as : Profile → sessions.State → Option Ask → Answer → Option sessions.State
taken_as profile s (Some ask) answer = permitted profile s ask answer
taken_as profile s None answer = None

-- the session after a READDIR that gives names, by those of them that were left
abbrev pub with_given : sessions.State → Ask → Option (List NameItem) → Option sessions.State
with_given s ask (Some items) = if length items == 0 then Some s else strictly.step s ask (replies.Name items)
with_given s ask None = None

-- what the profile leaves free of the answer to a READDIR is as it would be strictly
abbrev pub listed_as : Profile → sessions.State → Option Directory → Ask → Answer → Option sessions.State
listed_as profile s found ask answer =
    with_given s ask (due_items profile s found ask (unwrap_or (told profile s ask answer) answer))

-- the session after an answer that the profile forgives since it is that of a directory
unfoldable pub by_directory : Profile → sessions.State → Option Directory → Ask → Answer → Option sessions.State
by_directory profile s found ask answer =
    first_of (forgiven_by s (passes_directory profile found ask answer))
    (first_of (if profile.open_dir then taken_as profile s (standing_for profile s found ask answer) answer else None)
    (if profile.listing then listed_as profile s found ask answer else None))

-- the session after an answer to a request on a directory that is open, or on anything else
unfoldable pub met : Profile → sessions.State → Option Directory → Ask → Answer → Option sessions.State
met profile s found ask answer =
    if is_barred found ask then forgiven_by s (refuses_kind profile answer)
    else first_of (permitted profile s ask answer) (by_directory profile s found ask answer)

-- ---- the state

abbrev pub under : State → Option sessions.State → Option State
under s (Some session) = Some (record s { session = session })
under s None = None

abbrev pub with_note : State → Note → Answer → Option sessions.State → Option State
with_note s note answer (Some session) =
    Some (record s { session = session; directories = noted s.directories note answer })
with_note s note answer None = None

-- the state after an answer to a request as it stands, if it is permitted; the profile stays
unfoldable pub judged : State → Ask → Answer → Option State
judged s ask answer =
    if is_stateless s.profile then under s (permitted s.profile s.session ask answer)
    else with_note s (note_of s.session.tree ask answer) answer
    (met s.profile s.session (directory_of s.directories ask) ask answer)

-- the state after an answer to the request that stands for this one, if it is permitted
unfoldable pub step : State → Ask → Answer → Option State
step s ask answer = judged s (put s.profile s.session ask) answer

-- the reply has the id of the request, and its answer is permitted
pub record Permitted (s : State) (request : Request) (reply : Reply) (end : State) : Type 0 where
  pub same_id : reply.id ≡ request.id
  pub step : step s request.ask reply.answer ≡ Some end

-- ---- what is not followed

-- whether the judge follows a request with this answer; if not, it may have changed anything, or what the tree cannot
-- hold
abbrev pub follows_in : State → Ask → Answer → Bool
follows_in s ask answer =
    is_modelled s.profile ask answer
    && not (s.profile.limits && is_outgrown s.profile s.session (put s.profile s.session ask) answer)

-- ==== A state, a request and its reply fix the state after them. The lemma stands here since the judge's instance of
-- `Judges`, in this crate, can cite definitions alone.

pub same_end : {A : Type 0} → (o : Option A) (a b : A) → o ≡ Some a → o ≡ Some b → a ≡ b
same_end o a b is_a is_b = cc

pub permitted-one_end : (s : State) (request : Request) (reply : Reply) (a b : State) → Permitted s request reply a
    → Permitted s request reply b → a ≡ b
permitted-one_end s request reply a b to_a to_b = same_end (step s request.ask reply.answer) a b to_a.step to_b.step

-- ==== What the code finds out about an answer. Words of private contracts.

-- `ok` says whether a state was found, and `end` is this state; without one it is as before
pub record Outcome (found : Option State) (s : State) (ok : Bool) (end : State) : Type 0 where
  pub is : found ≡ (if ok then Some end else None)
  pub kept : ok ≡ false → end ≡ s

-- whether the answer is allowed strictly, and the state then
abbrev pub IsStrict : State → Ask → Answer → Bool → State → Type 0
IsStrict s ask answer = Outcome (under s (strictly.step s.session ask answer)) s

-- the same of the answer as it would be strictly
abbrev pub IsRetold : State → Ask → Answer → Bool → State → Type 0
IsRetold s ask answer = Outcome (under s (retold s.session ask (told s.profile s.session ask answer))) s

-- of one or the other
abbrev pub IsRead : State → Ask → Answer → Bool → State → Type 0
IsRead s ask answer = Outcome (under s (read_as s.profile s.session ask answer)) s

-- of the request that the profile takes this one for
abbrev pub IsTaken : State → Ask → Answer → Bool → State → Type 0
IsTaken s ask answer = Outcome (under s (taken s.profile s.session (asked s.profile s.session ask) answer)) s

-- the state after a SETSTAT that comes with an OPEN of this answer
abbrev pub IsSet : State → Ask → Answer → State → Type 0
IsSet s ask answer end = under s (set_after s.session ask (is_handle answer)) ≡ Some end

-- the state after what comes with a request
abbrev pub IsFollowed : State → Ask → Answer → State → Type 0
IsFollowed s ask answer end = under s (with_followed (followed s.profile ask) answer s.session) ≡ Some end

-- of the request that the profile takes this one for with the SETSTAT that comes with it
abbrev pub IsTakenFor : State → Ask → Answer → Bool → State → Type 0
IsTakenFor s ask answer = Outcome (under s (taken_for s.profile s.session ask answer)) s

-- of an answer that is forgiven
abbrev pub IsForgiven : State → Ask → Answer → Bool → State → Type 0
IsForgiven s ask answer = Outcome (under s (forgiven s.profile s.session ask answer)) s

-- of an answer that is permitted
abbrev pub IsPermitted : State → Ask → Answer → Bool → State → Type 0
IsPermitted s ask answer = Outcome (under s (permitted s.profile s.session ask answer)) s

-- of the answer to the request that stands for this one
abbrev pub IsStep : State → Ask → Answer → Bool → State → Type 0
IsStep s ask answer = Outcome (step s ask answer) s

-- of the answer to a request as it stands, with what is noted of directories
abbrev pub IsJudged : State → Ask → Answer → Bool → State → Type 0
IsJudged s ask answer = Outcome (judged s ask answer) s

-- of an answer to a request on a directory that is open, or on anything else
abbrev pub IsMet : State → Ask → Answer → Bool → State → Type 0
IsMet s ask answer = Outcome (under s (met s.profile s.session (directory_of s.directories ask) ask answer)) s

-- of an answer that is forgiven since it is that of a directory
abbrev pub IsByDirectory : State → Ask → Answer → Bool → State → Type 0
IsByDirectory s ask answer =
    Outcome (under s (by_directory s.profile s.session (directory_of s.directories ask) ask answer)) s

-- of the reply to the request that stands for one on a directory
abbrev pub IsStanding : State → Ask → Answer → Bool → State → Type 0
IsStanding s ask answer =
    Outcome (under s (if s.profile.open_dir
    then taken_as s.profile s.session
    (standing_for s.profile s.session (directory_of s.directories ask) ask answer) answer
    else None)) s

-- of the names that a READDIR gives
abbrev pub IsListed : State → Ask → Answer → Bool → State → Type 0
IsListed s ask answer =
    Outcome (under s (if s.profile.listing
    then listed_as s.profile s.session (directory_of s.directories ask) ask answer else None)) s

-- of an answer to a request on anything, which is noted so
abbrev pub IsNoted : State → Ask → Answer → Note → Bool → State → Type 0
IsNoted s ask answer note =
    Outcome (with_note s note answer (met s.profile s.session (directory_of s.directories ask) ask answer)) s

-- of a READDIR that gives names, by these that were left
abbrev pub IsGiven : State → Ask → List NameItem → Bool → State → Type 0
IsGiven s ask items = Outcome (under s (with_given s.session ask (Some items))) s
