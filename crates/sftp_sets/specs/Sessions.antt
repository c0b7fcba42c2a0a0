-- The sessions of a set as files: the transcript of each, and the times of its records. This profile's own.
use Rattle.std.specs.Prelude.{◌≡◌, ◌+◌, ◌-◌, ◌≤◌, ◌<◌, min, ℕ, List, [], ◌∷◌, length, map, get_or}
use Rattle.std.specs.List.{AllByRecursion}
use Rattle.sftp_streams.specs.Streams.{one_more, largest_count}
use Rattle.sftp_transcript.specs.declared.events.Event.{Event}
use Rattle.sftp_transcript.specs.Explained.{StepOf}
use Rattle.sftp_transcript.specs.Sound.{first_number, number_after_events}
use Rattle.sftp_transcript.specs.Transcript.{IsRecord}
use Rattle.sftp_together.specs.declared.exchanges.TimedExchange.{TimedExchange}
use Rattle.sftp_together.specs.Sets.{TimedEvent, IsWhole, timed_exchanges}
use Rattle.sftp_audit.specs.Audit.{IsNoJudgement}
use Rattle.sftp_audit.specs.Trees.{IsFirstFaultFrom}
use Rattle.sftp_sets.specs.declared.errors.SessionError.{SessionError}
use Rattle.sftp_sets.specs.declared.errors.SessionError.TheVariants.{Events, Untimed, Spare}

-- ---- times

-- The time of a record on the clock of the set: the entry with its number, counted from the start. It is capped at
-- 2^64 - 1.
abbrev pub time_of : ℕ → List ℕ → ℕ → ℕ
time_of start entries number = min (start + get_or entries (number - 1) 0) largest_count

-- events, each with the time of its record; the first one's record has this number
unfoldable pub timed_in : ℕ → List ℕ → ℕ → List Event → List TimedEvent
timed_in start entries number [] = []
timed_in start entries number (event ∷ events) =
    (event, time_of start entries number) ∷ timed_in start entries (one_more number) events

-- those of a session
abbrev pub timed : ℕ → List ℕ → List Event → List TimedEvent
timed start entries events = timed_in start entries first_number events

-- there is an entry for each record: INIT, VERSION and these events
abbrev pub HasTimes : List ℕ → List Event → Type 0
HasTimes entries events = length entries + 1 ≡ number_after_events events

-- ---- sessions

-- The transcript records a session, which takes turns up to its end and keeps the window, and each record has its time.
pub record IsSession (transcript : List ℕ) (start : ℕ) (entries : List ℕ) (session : List TimedEvent) : Type 0 where
  pub events : List Event
  pub recorded : IsRecord events transcript
  pub times : HasTimes entries events
  pub session_is : session ≡ timed start entries events
  pub whole : IsWhole session

-- every reply is right: what is then left of a session is its turns and its window
abbrev pub any : StepOf (Unit {0})
any state request reply end = Unit {0}

-- The first fault of a session: in its transcript, event by event, and then in its times. A record has no entry, or an
-- entry no record.
abbrev pub IsFirstFault : List ℕ → List ℕ → SessionError → Type 0
IsFirstFault transcript entries (Events error) = IsFirstFaultFrom any tt transcript error
IsFirstFault transcript entries (Untimed number) =
    (events : List Event) × IsRecord events transcript × (number ≡ length entries + 1)
    × (length entries + 1 < number_after_events events)
IsFirstFault transcript entries (Spare number) =
    (events : List Event) × IsRecord events transcript × (number ≡ number_after_events events)
    × (number_after_events events ≤ length entries)

-- memory ran out, or the source failed: nothing is said of the session
abbrev pub IsUnread : SessionError → Type 0
IsUnread (Events error) = IsNoJudgement error
IsUnread other = ⊥

-- ---- sets

-- sessions that are whole, of which a set has the exchanges
abbrev pub AreRead : List (List TimedEvent) → List (List TimedExchange) → Type 0
AreRead sessions set = AllByRecursion IsWhole sessions × (set ≡ map timed_exchanges sessions)
