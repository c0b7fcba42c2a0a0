-- What several clients do whom one server serves on one tree, and when they leave. This profile's own.
use Rattle.std.specs.Prelude.{◌≡◌, ◌==◌, ℕ, false, List, [], ◌∷◌, Option, Some, None, IsTrue}
use Rattle.std.specs.Prelude.{◌⊎◌, ◌<◌, ◌^◌, ◌≢◌}
use Rattle.sftp_packets.specs.declared.replies.Answer.TheVariants as answers
use Rattle.sftp_packets.specs.Layouts.{IsAsk}
use Rattle.sftp_packets.specs.declared.packets.Request.{Request}
use Rattle.sftp_packets.specs.declared.packets.Reply.{Reply}
use Rattle.sftp_transcript.specs.declared.events.Event.{Event}
use Rattle.sftp_transcript.specs.declared.events.Event.TheVariants.{Asked, Replied}
use Rattle.sftp_transcript.specs.Explained.{Matching, in_window, next_reply, StepOf}
use Rattle.sftp_joint.specs.Joint.{Moment, of_client, joint_request, joint_reply}

-- ---- what happens

pub data Happening : Type 0 where
  -- a client asked, or was replied
  did : ℕ → Event → Happening
  -- a client's session ended
  left : ℕ → Happening

-- without the ends of sessions
unfoldable pub moments_of : List Happening → List Moment
moments_of [] = []
moments_of (did client event ∷ happenings) = (client, event) ∷ moments_of happenings
moments_of (left client ∷ happenings) = moments_of happenings

-- the events of one client
abbrev pub events_of : ℕ → List Happening → List Event
events_of client happenings = of_client client (moments_of happenings)

-- nothing happens to the client
unfoldable pub IsAbsent : ℕ → List Happening → Type 0
IsAbsent client [] = Unit {0}
IsAbsent client (did other event ∷ happenings) = ((other == client) ≡ false) × IsAbsent client happenings
IsAbsent client (left other ∷ happenings) = ((other == client) ≡ false) × IsAbsent client happenings

-- a session that ended is over: its client's number is not used again
unfoldable pub AreOver : List Happening → Type 0
AreOver [] = Unit {0}
AreOver (did client event ∷ happenings) = AreOver happenings
AreOver (left client ∷ happenings) = IsAbsent client happenings × AreOver happenings

-- a history in which no session ends
abbrev pub happenings_of : List Moment → List Happening
happenings_of [] = []
happenings_of ((client, event) ∷ moments) = did client event ∷ happenings_of moments

-- ---- what is done

pub data Deed : Type 0 where
  -- a client's request is done with this reply; both as the client has them
  answered : ℕ → Request → Reply → Deed
  -- what the client has open is closed, since its session ended
  departed : ℕ → Deed

-- a request with its reply, if it has one, before other deeds
abbrev pub deed_before : ℕ → Request → Option Reply → List Deed → List Deed
deed_before client request None deeds = []
deed_before client request (Some reply) deeds = answered client request reply ∷ deeds

-- Each request in the order asked, with the next reply of its id that its own client was given, up to the first that
-- has none; and the ends of sessions.
unfoldable pub deeds_of : List Happening → List Deed
deeds_of [] = []
deeds_of (did client (Asked request) ∷ happenings) =
    deed_before client request (next_reply request.id (events_of client happenings)) (deeds_of happenings)
deeds_of (did client (Replied reply) ∷ happenings) = deeds_of happenings
deeds_of (left client ∷ happenings) = departed client ∷ deeds_of happenings

-- the state once a client has left
abbrev pub LeaveOf : Type 0 → Type 0
LeaveOf S = ℕ → S → S

-- the deeds one after the other, with these replies
abbrev pub RunTogether : {S : Type 0} → StepOf S → LeaveOf S → S → List Deed → S → Type 0
RunTogether step leave s [] end = end ≡ s
RunTogether {S} step leave s (answered client request reply ∷ deeds) end =
    (mid : S) × step s (joint_request client request) (joint_reply client reply) mid
    × RunTogether step leave mid deeds end
RunTogether step leave s (departed client ∷ deeds) end = RunTogether step leave (leave client s) deeds end

-- What it means that a server served several clients on one tree: each session for itself takes turns and keeps the
-- window, a session that ended is over, and the requests of all, carried out singly and in the order in which the
-- server took them, allow these replies.
pub record AreServed {S : Type 0} (step : StepOf S) (leave : LeaveOf S) (start : S) (happenings : List Happening)
    (end : S) : Type 0 where
  pub matching : (client : ℕ) → Matching (events_of client happenings)
  pub within_window : (client : ℕ) → IsTrue (in_window (events_of client happenings))
  pub over : AreOver happenings
  pub run : RunTogether step leave start (deeds_of happenings) end

-- ---- whose handles

-- the client was given this handle
unfoldable pub WasGiven : ℕ → List ℕ → List Deed → Type 0
WasGiven client handle [] = ⊥
WasGiven client handle (answered other request reply ∷ deeds) =
    ((other ≡ client) × (reply.answer ≡ answers.Handle handle)) ⊎ WasGiven client handle deeds
WasGiven client handle (departed other ∷ deeds) = WasGiven client handle deeds

-- each client has a number of 32 bits, and each request is a value of the code
unfoldable pub AreAsked : List Deed → Type 0
AreAsked [] = Unit {0}
AreAsked (answered client request reply ∷ deeds) =
    (client < 2 ^ 32) × IsAsk (joint_request client request).ask × AreAsked deeds
AreAsked (departed client ∷ deeds) = (client < 2 ^ 32) × AreAsked deeds

-- the client does nothing, and does not leave
abbrev pub IsQuiet : ℕ → List Deed → Type 0
IsQuiet client [] = Unit {0}
IsQuiet client (answered other request reply ∷ deeds) = (other ≢ client) × IsQuiet client deeds
IsQuiet client (departed other ∷ deeds) = (other ≢ client) × IsQuiet client deeds
