-- How an open session goes on after a batch of requests, and how it ends.
use Rattle.std.specs.Prelude.{◌≡◌, ◌≢◌, ◌<◌, ℕ, List, [], length, Option, Some, None, Result, Ok, Err, MatchResult}
use Rattle.std.specs.Prelude.{◌≤◌, ◌+◌, ◌*◌, ◌++◌}
use Rattle.sftp_handles.specs.State.{State, closed_tree, Good, started}
use Rattle.sftp_server.specs.declared.ends.Stop.{Stop}
use Rattle.sftp_server.specs.declared.ends.Stop.TheVariants.{NoMemory}
use Rattle.sftp_server.specs.declared.ends.SessionFault.{SessionFault}
use Rattle.sftp_server.specs.declared.ends.SessionFault.TheVariants.{IdInUse}
use Rattle.sftp_server.specs.declared.queue.Entry.{Entry}
use Rattle.sftp_server.specs.declared.refusals.Refuse.{Refuse}
use Rattle.sftp_server.specs.declared.refusals.Refuse.TheVariants as refusals
use Rattle.sftp_server.specs.declared.taking.Front.{Front}
use Rattle.sftp_server.specs.declared.taking.Front.TheVariants.{Taken, Full, Waiting, Fault}
use Rattle.sftp_server.specs.Machine.{Machine, at_start, IsAct, Delivers}
use Rattle.sftp_server.specs.Served.{Setup, StreamBytes, stream_bytes, IsUnopenedBy}
use Rattle.sftp_server.specs.Sessions.{Ahead, IsRunning, Stops, tree_left, input_limit, IsEnding, SendsOn}
use Rattle.sftp_server.specs.Sessions.{IsUnopenedYet, BeginsWithGreeting}
use Rattle.sftp_server.specs.declared.ends.Ended.{Ended}
use Rattle.sftp_server.specs.declared.ends.Ended.TheVariants as ends
use Rattle.sftp_server.specs.declared.serving.Next.{Next}
use Rattle.sftp_server.specs.declared.serving.Next.TheVariants.{Batch, End}
use Rattle.sftp_packets.specs.declared.packets.Packet.{Packet}
use Rattle.sftp_packets.specs.declared.packets.Side.TheVariants.{Client}
use Rattle.sftp_wire.specs.Fronts.{front_of}
use Rattle.sftp_transcript.specs.Transcript.{IsInit}
use Rattle.sftp_transcript.specs.Explained.{window}
use Rattle.sftp_server.specs.declared.ends.SessionFault.TheVariants as faults
use Rattle.sftp_server.specs.declared.opening.First.{First}
use Rattle.sftp_server.specs.declared.opening.First.TheVariants.{Init, Fault}
use Rattle.sftp_handles.specs.Allowed.{Allowed}
use Rattle.sftp_transcript.specs.declared.events.Event.{Event}
use Rattle.sftp_server.specs.declared.acts.Act.{Act}
use Rattle.sftp_server.specs.Machine.{server_clash, IsValue}

-- ==== What a server finds in front of the bytes that it read.

abbrev pub fault_of : Front → Option SessionFault
fault_of Taken = None
fault_of Full = None
fault_of Waiting = None
fault_of (Fault fault) = Some fault

-- bytes are taken if a request is, and otherwise none; if the core has no room, it has some request
abbrev pub FallsIfTaken : Front → Ahead → Ahead → List Entry → Type 0
FallsIfTaken Taken old new queue = length new.held < length old.held
FallsIfTaken Full old new queue = (new ≡ old) × (queue ≢ [])
FallsIfTaken Waiting old new queue = new ≡ old
FallsIfTaken (Fault fault) old new queue = new ≡ old

-- what a call finds in front where a request of this id is refused
abbrev pub found_refused : ℕ → Refuse → Result Front Stop
found_refused id refusals.Full = Ok Full
found_refused id refusals.IdInUse = Ok (Fault (IdInUse id))
found_refused id refusals.NoMemory = Err NoMemory

-- From a running session, whatever was written, a call that takes requests leads to a running session with the fault
-- that it found, if any, or stops it.
abbrev pub TakesOn : Ahead → Ahead → Machine State → Machine State → Option (List ℕ) → Option (List ℕ)
    → Result Front Stop → Type 0
TakesOn ahead0 ahead1 core0 core1 logged0 logged1 result =
    (start : Setup) (past : StreamBytes) (left written : Option (List ℕ))
    → IsRunning start past (stream_bytes left written logged0) ahead0 core0 None
    → MatchResult result
    (λ front. IsRunning start past (stream_bytes left written logged1) ahead1 core1 (fault_of front))
    (λ stop. Stops start past (stream_bytes left written logged1) stop (tree_left core1))

-- how a session ended, by its last state and its fault, if it has one
abbrev pub closed_end : State → Option SessionFault → Ended
closed_end last None = ends.Finished (closed_tree last)
closed_end last (Some fault) = ends.Fault (closed_tree last) fault

-- the session goes on, or it comes to its end
abbrev pub IsNext : Setup → StreamBytes → StreamBytes → Ahead → Machine State → Next → Type 0
IsNext start past now ahead core Batch = IsRunning start past now ahead core None
IsNext start past now ahead core (End fault) = IsEnding start past now core fault

-- From a session with no request unanswered and no fault in front, a call leads on, or to the end, or stops it.
abbrev pub ReadsOn : StreamBytes → StreamBytes → Ahead → Ahead → Result Next Stop → Type 0
ReadsOn then now ahead0 ahead1 result =
    (start : Setup) (past : StreamBytes) (core : Machine State) → IsRunning start past then ahead0 core None
    → core.queue ≡ []
    → MatchResult result (λ next. IsNext start past now ahead1 core next)
    (λ stop. Stops start past now stop (tree_left core))

-- the same, with what was found in front
abbrev pub EndsOn : StreamBytes → StreamBytes → Ahead → Ahead → Front → Result Next Stop → Type 0
EndsOn then now ahead0 ahead1 front result =
    (start : Setup) (past : StreamBytes) (core : Machine State)
    → IsRunning start past then ahead0 core (fault_of front) → core.queue ≡ []
    → MatchResult result (λ next. IsNext start past now ahead1 core next)
    (λ stop. Stops start past now stop (tree_left core))

-- From an open session, a call leads to the end, or stops it.
abbrev pub RunsOut : StreamBytes → StreamBytes → Ahead → Machine State → Machine State
    → Result (Option SessionFault) Stop → Type 0
RunsOut then now ahead core0 core1 result =
    (start : Setup) (past : StreamBytes) → IsRunning start past then ahead core0 None
    → MatchResult result (λ fault. IsEnding start past now core1 fault)
    (λ stop. Stops start past now stop (tree_left core1))

-- how a batch goes on: the bytes in front stay, or the reader gives more, of which there are then not too many
abbrev pub GoesOn : Front → Ahead → Ahead → ℕ → ℕ → Type 0
GoesOn Taken old new reads0 reads1 = ⊥
GoesOn Full old new reads0 reads1 = (new ≡ old) × (reads1 ≡ reads0)
GoesOn Waiting old new reads0 reads1 = (reads1 < reads0) × (length new.held ≤ input_limit)
GoesOn (Fault fault) old new reads0 reads1 = ⊥

-- ==== How an open session follows a script. Words of private contracts: no public one reaches this file.

-- A call that sends packets, as `SendsOn` says, and gives a value.
abbrev pub RepliesOn : {A : Type 0} → Machine State → Machine State → Option (List ℕ) → Option (List ℕ)
    → Option (List ℕ) → Option (List ℕ) → Result A Stop → Type 0
RepliesOn core0 core1 written0 written1 logged0 logged1 result =
    (start : Setup) (past : StreamBytes) (left : Option (List ℕ)) (ahead : Ahead) (fault : Option SessionFault)
    → IsRunning start past (stream_bytes left written0 logged0) ahead core0 fault
    → MatchResult result (λ _. IsRunning start past (stream_bytes left written1 logged1) ahead core1 fault)
    (λ stop. Stops start past (stream_bytes left written1 logged1) stop (tree_left core1))

-- A call that sends nothing, whatever was written and logged.
abbrev pub Works : Machine State → Machine State → Result (Unit {0}) Stop → Type 0
Works core0 core1 result =
    (written logged : Option (List ℕ)) → SendsOn core0 core1 written written logged logged result

-- From a running session with no fault in front, a call leads to another one, or stops it.
abbrev pub FollowsOn : {A : Type 0} → StreamBytes → StreamBytes → Ahead → Ahead → Machine State → Machine State
    → Result A Stop → Type 0
FollowsOn then now ahead0 ahead1 core0 core1 result =
    (start : Setup) (past : StreamBytes) → IsRunning start past then ahead0 core0 None
    → MatchResult result (λ _. IsRunning start past now ahead1 core1 None)
    (λ stop. Stops start past now stop (tree_left core1))

-- how much is left to take: reads that give bytes, each of at most as many as there is room for, and what is held
abbrev pub bytes_ahead : ℕ → Ahead → ℕ
bytes_ahead reads ahead = reads * (input_limit + 1) + length ahead.held

-- ==== How a session is opened.

-- what the bytes begin with; `over`: no more will come
abbrev pub IsFirst : List ℕ → Type 0 → First → Type 0
IsFirst bytes over (Init count) = BeginsWithGreeting bytes count
IsFirst bytes over (Fault fault) = IsUnopenedBy bytes over fault

-- the same of bytes after which more may come: nothing is known while neither a packet nor a fault is in front
abbrev pub IsInFront : List ℕ → Option First → Type 0
IsInFront bytes None = front_of Client bytes ≡ Ok None
IsInFront bytes (Some first) = IsFirst bytes ⊥ first

-- what a first packet of `count` bytes is
abbrev pub IsGreetingOf : Packet → ℕ → First → Type 0
IsGreetingOf packet count (Init taken) = IsInit packet × (taken ≡ count)
IsGreetingOf packet count (Fault faults.BadInit) = IsInit packet → ⊥
IsGreetingOf packet count (Fault other) = ⊥

-- From a session that was not opened yet, whatever was written and logged before it, a call that reads leads to one
-- that was not opened yet, or stops it.
abbrev pub ReadsFirst : Option (List ℕ) → Option (List ℕ) → Ahead → Ahead → Result First Stop → Type 0
ReadsFirst left0 left1 ahead0 ahead1 result =
    (start : Setup) (past : StreamBytes) (written logged : Option (List ℕ))
    → IsUnopenedYet past (stream_bytes left0 written logged) ahead0
    → MatchResult result (λ _. IsUnopenedYet past (stream_bytes left1 written logged) ahead1)
    (λ stop. Stops start past (stream_bytes left1 written logged) stop None)

-- From a session that was not opened yet, whatever the reader has left, a call opens it with this VERSION, or stops it.
abbrev pub OpensOn : Packet → Ahead → Ahead → Option (List ℕ) → Option (List ℕ) → Option (List ℕ) → Option (List ℕ)
    → Result (Unit {0}) Stop → Type 0
OpensOn version ahead0 ahead1 written0 written1 logged0 logged1 result =
    (start : Setup) (past : StreamBytes) (left : Option (List ℕ)) → start.version ≡ version → Good (started start.tree)
    → IsUnopenedYet past (stream_bytes left written0 logged0) ahead0
    → MatchResult result
    (λ _. IsRunning start past (stream_bytes left written1 logged1) ahead1 (at_start (started start.tree) window) None)
    (λ stop. Stops start past (stream_bytes left written1 logged1) stop
    (tree_left (at_start (started start.tree) window)))

-- ==== Acts that are done one after the other.

-- the act was done, and its events were appended to those before
pub record IsPerformed (act : Act) (before after : Machine State) (old new : List Event) : Type 0 where
  pub value : Delivers IsValue act
  pub events : List Event
  pub appended : new ≡ old ++ events
  pub acted : IsAct Allowed server_clash before act events after
