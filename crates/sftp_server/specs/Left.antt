-- The tree that a session leaves if it ends because a stream fails or memory runs out: that of the requests that were
-- done, one at a time in the order asked (draft-ietf-secsh-filexfer-02, section 6.1). Own to this profile.
use Rattle.std.specs.Prelude.{◌≡◌, ◌⊎◌, ℕ, List, [], ◌∷◌, ◌++◌, drop, map, Option, Some, None}
use Rattle.sftp_packets.specs.declared.packets.Packet.{Packet}
use Rattle.sftp_packets.specs.declared.packets.Request.{Request}
use Rattle.sftp_packets.specs.declared.packets.Reply.{Reply}
use Rattle.sftp_packets.specs.declared.packets.Side.TheVariants.{Client, Server}
use Rattle.sftp_transcript.specs.declared.events.Event.{Event}
use Rattle.sftp_transcript.specs.Transcript.{packet_of}
use Rattle.sftp_transcript.specs.Explained.{StepOf, Run, exchanges_of}
use Rattle.sftp_tree.specs.Tree.{Tree}
use Rattle.sftp_handles.specs.State.{State, started, closed_tree}
use Rattle.sftp_handles.specs.Allowed.{Allowed}
use Rattle.sftp_server.specs.declared.ends.Ended.{Ended}
use Rattle.sftp_server.specs.declared.ends.Ended.TheVariants as ends
use Rattle.sftp_server.specs.Served.{Setup, usual, sent_by, IsListed, IsBeginning, IsCutInLast, StreamBytes, Passed}

-- The requests that were done, with their replies, out of all requests in the order asked: each whose reply was sent,
-- with that reply, and some of the others, each with a reply.
unfoldable pub AreDone : List (Request × Option Reply) → List (Request × Reply) → Type 0
AreDone [] done = done ≡ []
AreDone ((request, Some reply) ∷ others) done =
    (later : List (Request × Reply)) × (done ≡ (request, reply) ∷ later) × AreDone others later
AreDone ((request, None) ∷ others) done =
    AreDone others done
    ⊎ ((reply : Reply) × (later : List (Request × Reply)) × (done ≡ (request, reply) ∷ later) × AreDone others later)

-- the requests of the events that were done, one at a time in the order asked, lead from this state to the last
pub record LeadsTo {S : Type 0} (step : StepOf S) (start : S) (events : List Event) (last : S) : Type 0 where
  pub done : List (Request × Reply)
  pub are_done : AreDone (exchanges_of events) done
  pub run : Run step start done last

-- they lead from the starting tree to this one, once nothing is open
pub record IsAfterDone (start : Tree) (events : List Event) (end : Tree) : Type 0 where
  pub last : State
  pub leads : LeadsTo Allowed (started start) events last
  pub end_is : end ≡ closed_tree last

-- The tree that a session with these packets leaves: none if it was not opened, and otherwise that of the requests
-- done. Behind INIT comes VERSION, if it was sent, and then the events.
abbrev pub IsLeftAfter : Tree → List Packet → Option Tree → Type 0
IsLeftAfter start [] left = left ≡ None
IsLeftAfter start (init ∷ packets) None = ⊥
IsLeftAfter start (init ∷ packets) (Some end) =
    (events : List Event) × (drop 1 packets ≡ map packet_of events) × IsAfterDone start events end

-- What a session read, wrote and logged, and the tree that it left. The packets are all that were read, written or
-- logged; a beginning of the last may be all that was written or logged of it.
pub record IsLeft (start : Setup) (input output log : List ℕ) (left : Option Tree) : Type 0 where
  pub packets : List Packet
  pub rest : List ℕ
  pub listed : IsListed start packets
  pub read : input ≡ sent_by Client packets ++ rest
  pub written : IsBeginning output (sent_by Server packets)
  pub logged : IsCutInLast packets log
  pub tree : IsLeftAfter start.tree packets left

-- ---- what is promised of a call of `serve_keeping_tree`, beside what `Serves` says

-- what was read, written and logged between two moments is that of a session that started so and left this tree, if any
pub record Leaves (start : Setup) (past now : StreamBytes) (left : Option Tree) : Type 0 where
  pub input : List ℕ
  pub output : List ℕ
  pub log : List ℕ
  pub passed : Passed past now input output log
  pub is_left : IsLeft start input output log left

-- The tree that a session left, beside its end: none if the end has a tree.
abbrev pub LeavesFrom : Setup → StreamBytes → StreamBytes → Ended → Option Tree → Type 0
LeavesFrom start past now (ends.Finished end) left = left ≡ None
LeavesFrom start past now (ends.Fault end fault) left = left ≡ None
LeavesFrom start past now (ends.Io stream) left = Leaves start past now left
LeavesFrom start past now ends.NoMemory left = Leaves start past now left

-- the same, with the VERSION of this server
abbrev pub LeavesAt : Tree → StreamBytes → StreamBytes → Ended → Option Tree → Type 0
LeavesAt start past now ended left = LeavesFrom (usual start) past now ended left
