-- Which replies a session allows, and the state after each (draft-ietf-secsh-filexfer-02, sections 6 and 7).
use Rattle.std.specs.Prelude.{ℕ, Bool, List, Option, Some, None, ◌≡◌, ◌&&◌, true, false, [], ◌∷◌, IsTrue, ◌⊎◌}
use Rattle.std.specs.Option.{option_map}
use Rattle.sftp_packets.specs.declared.requests.Ask.{Ask}
use Rattle.sftp_packets.specs.declared.requests.Ask.TheVariants as asks
use Rattle.sftp_packets.specs.declared.replies.Answer.{Answer}
use Rattle.sftp_packets.specs.declared.replies.Answer.TheVariants as replies
use Rattle.sftp_packets.specs.Requests.{asked_handle}
use Rattle.sftp_tree.specs.Tree.{Tree, limits, with_content}
use Rattle.sftp_tree.specs.PlaceCauses.{CauseSet, is_none}
use Rattle.sftp_tree.specs.Requests as paths
use Rattle.sftp_tree.specs.Requests.{Told, done, file, listed, led, led_to, told_at}
use Rattle.sftp_handles.specs.declared.opens.Open.{Open}
use Rattle.sftp_handles.specs.declared.opens.Open.TheVariants.{File, Listing}
use Rattle.sftp_handles.specs.State.{Handles, with_open, without_open, kept_flags}
use Rattle.sftp_handles.specs.State.{State, settled}
use Rattle.sftp_handles.specs.State.{Seen, seen}
use Rattle.sftp_handles.specs.Replies.{Said, says, refuses}
use Rattle.sftp_handles.specs.RequestRows.{row_of, causes_of, said_of, Change, nothing, rewrites, leaves, closes}
use Rattle.sftp_handles.specs.RequestRows.{change_of}
use Rattle.sftp_packets.specs.declared.packets.Request.{Request}
use Rattle.sftp_packets.specs.declared.packets.Reply.{Reply}

-- ==== All requests of a session: the causes that hold, what the reply says, and the state after it
-- (draft-ietf-secsh-filexfer-02, section 6; OpenSSH's PROTOCOL, section 4).

-- what a request sees of the handle that it names
abbrev pub seen_by : State → Ask → List ℕ → Seen
seen_by s ask handle = seen s (row_of ask).needed handle

-- ---- the causes

-- of a request that names no handle
abbrev pub path_causes : State → Ask → CauseSet
path_causes s ask = (row_of ask).causes s (paths.causes s.tree ask)

abbrev pub causes_by : State → Ask → Option (List ℕ) → CauseSet
causes_by s ask (Some handle) = causes_of s.tree (row_of ask) (seen_by s ask handle)
causes_by s ask None = path_causes s ask

-- the causes that hold
unfoldable pub causes : State → Ask → CauseSet
causes s ask = causes_by s ask (asked_handle ask)

-- ---- what the reply says

-- what the reply to a request on paths tells
unfoldable pub told_to : Tree → Ask → Told
told_to t ask = led_to done (led t ask) (told_at t ask)

-- of a request that names no handle
abbrev pub path_said : State → Ask → Said
path_said s ask = (row_of ask).said s (told_to s.tree ask)

abbrev pub said_to : State → Ask → Option (List ℕ) → Said
said_to s ask (Some handle) = said_of (limits s.tree) (row_of ask) (seen_by s ask handle)
said_to s ask None = path_said s ask

-- the answer of a request that no cause refuses
unfoldable pub answers : State → Ask → Answer → Bool
answers s ask answer = says (said_to s ask (asked_handle ask)) answer

-- ---- the state after a request that no cause refuses

-- the flags of OPEN
abbrev pub flags_of : Ask → ℕ
flags_of (asks.Open path pflags attrs) = pflags
flags_of other = 0

-- what a request opens
abbrev pub opened_by : ℕ → Told → Option Open
opened_by pflags (file number) = option_map (λ n. File n (kept_flags pflags)) number
opened_by pflags (listed left) = Some (Listing left)
opened_by pflags other = None

-- what is opened is open under the handle that the reply gives
abbrev pub with_new : Handles → Option Open → Answer → Handles
with_new handles (Some it) (replies.Handle handle) = with_open handles handle it
with_new handles _ _ = handles

abbrev pub changed : State → List ℕ → Change → State
changed s handle nothing = settled s.tree s.handles
changed s handle (rewrites number next) =
    settled (record s.tree { files = with_content s.tree.files number next }) s.handles
changed s handle (leaves left) = settled s.tree (with_open s.handles handle (Listing left))
changed s handle closes = settled s.tree (without_open s.handles handle)

abbrev pub after_by : State → Ask → Answer → Option (List ℕ) → State
after_by s ask answer (Some handle) = changed s handle (change_of (row_of ask) (seen_by s ask handle) answer)
after_by s ask answer None =
    settled (paths.outcome s.tree ask) (with_new s.handles (opened_by (flags_of ask) (told_to s.tree ask)) answer)

-- the state after it; the reply says which handle is new, and which names a listing gave
unfoldable pub after : State → Ask → Answer → State
after s ask answer = after_by s ask answer (asked_handle ask)

-- one of the causes that hold allows the answer, and nothing changes
pub record Refuses (s : State) (ask : Ask) (answer : Answer) (end : State) : Type 0 where
  pub cause : IsTrue (refuses (causes s ask) answer)
  pub unchanged : end ≡ s

-- no cause holds, the answer is the request's, and the state changes as both say
pub record Does (s : State) (ask : Ask) (answer : Answer) (end : State) : Type 0 where
  pub free : IsTrue (is_none (causes s ask))
  pub answered : IsTrue (answers s ask answer)
  pub changed : end ≡ after s ask answer

-- the reply has the id of the request, and is a refusal or the answer
pub record Allowed (s : State) (request : Request) (reply : Reply) (end : State) : Type 0 where
  pub same_id : reply.id ≡ request.id
  pub step : Refuses s request.ask reply.answer end ⊎ Does s request.ask reply.answer end

-- ---- as a function

abbrev pub stepped : State → Ask → Answer → Bool → Bool → Option State
stepped s ask answer true answered = Some s
stepped s ask answer false true = Some (after s ask answer)
stepped s ask answer false false = None

-- the state after an answer, if it is allowed
unfoldable pub step : State → Ask → Answer → Option State
step s ask answer =
    stepped s ask answer (refuses (causes s ask) answer) (is_none (causes s ask) && answers s ask answer)

abbrev pub and_then : Option State → (State → Option State) → Option State
and_then None next = None
and_then (Some s) next = next s

-- the state after these requests and answers, one after the other, if each answer is allowed
unfoldable pub steps : State → List (Ask × Answer) → Option State
steps s [] = Some s
steps s (e ∷ es) = and_then (step s e.0 e.1) (λ next. steps next es)
