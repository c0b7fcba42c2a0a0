-- When the events so far are in order for a tree, although some requests may still wait for their replies: no event
-- came out of turn or too late, and the requests before the first unanswered one, carried out singly and in sequence,
-- allow their replies (draft-ietf-secsh-filexfer-02, section 6.1). The window is this profile's own.
use Rattle.std.specs.Prelude.{◌≡◌, ◌≢◌, ℕ, List, IsTrue, ◌⊎◌, ◌+◌, min, [], ◌∷◌, ◌++◌, length, Option, Some, None}
use Rattle.sftp_transcript.specs.declared.events.Event.{Event}
use Rattle.sftp_transcript.specs.Explained.{closed, waiting, broken, turn_after, in_window, exchanges_of}
use Rattle.sftp_transcript.specs.Explained.{leading_pairs, StepOf, Run}
use Rattle.sftp_transcript.specs.declared.errors.TranscriptError.{TranscriptError}
use Rattle.sftp_transcript.specs.declared.errors.TranscriptError.TheVariants.{Magic, NoMemory}
use Rattle.sftp_transcript.specs.declared.stage.Stage.{Stage}
use Rattle.sftp_transcript.specs.declared.stage.Stage.TheVariants as stages
use Rattle.sftp_transcript.specs.Transcript.{BeginsInit}
use Rattle.sftp_transcript.specs.Recorded.{Reading}
use Rattle.sftp_transcript.specs.Transcript.{InitFault, VersionFault, EventFault}
use Rattle.sftp_streams.specs.Streams.{HasAhead}
use Rattle.sftp_transcript.specs.Recorded.{IsExcuse}
use Rattle.sftp_streams.specs.Streams.{largest_count}
use Rattle.sftp_transcript.specs.Transcript.{transcript_opening, BeginsRecord}

-- each reply answers a request of its id that waits, and no request has the id of one that waits
abbrev pub InTurn : List Event → Type 0
InTurn events = (id : ℕ) → turn_after id closed events ≢ broken

-- a request of this id waits for its reply
abbrev pub IsWaiting : List Event → ℕ → Type 0
IsWaiting events id = turn_after id closed events ≡ waiting

-- the end is the state after the requests before the first one that waits
pub record Sound {S : Type 0} (step : StepOf S) (start : S) (events : List Event) (end : S) : Type 0 where
  pub in_turn : InTurn events
  pub within_window : IsTrue (in_window events)
  pub run : Run step start (leading_pairs (exchanges_of events)) end

-- ==== A transcript file that is read in part: the events read so far, the bytes after them, and the first fault in
-- these. This profile's own.

-- the number of the first event's record: INIT and VERSION have the numbers 1 and 2
abbrev pub first_number : ℕ
first_number = 3

-- the number of the record after these events, capped at 2^64 - 1
abbrev pub number_after_events : List Event → ℕ
number_after_events events = min (first_number + length events) largest_count

-- the opening and the client's INIT come first, and then these bytes
pub record BeginsWithInit (bytes rest : List ℕ) : Type 0 where
  pub opened : List ℕ
  pub opening : bytes ≡ transcript_opening ++ opened
  pub init : BeginsInit opened rest

-- what is read of the bytes: the events, up to what comes next in the bytes ahead
abbrev pub ReadUpTo : Stage → List ℕ → List Event → List ℕ → Type 0
ReadUpTo stages.Opening bytes events ahead = (events ≡ []) × (bytes ≡ ahead)
ReadUpTo stages.Init bytes events ahead = (events ≡ []) × (bytes ≡ transcript_opening ++ ahead)
ReadUpTo stages.Version bytes events ahead = (events ≡ []) × BeginsWithInit bytes ahead
ReadUpTo stages.Events bytes events ahead = BeginsRecord events bytes ahead

-- a reader that has given these events of the bytes, and these bytes are ahead of it
pub record HasGiven (bytes : List ℕ) (events : List Event) (ahead : List ℕ) (s : Reading) : Type 0 where
  pub ahead_are : HasAhead s.ahead ahead
  pub read : ReadUpTo s.stage bytes events ahead
  pub number : s.number ≡ number_after_events events
  pub faultless : s.fault ≡ None

-- why the bytes are not a transcript file, where this comes next in the bytes ahead, a record of this number
abbrev pub FaultAhead : Stage → ℕ → List ℕ → TranscriptError → Type 0
FaultAhead stages.Opening number ahead error =
    (error ≡ Magic 0) × ((rest : List ℕ) → ahead ≡ transcript_opening ++ rest → ⊥)
FaultAhead stages.Init number ahead error = InitFault ahead error
FaultAhead stages.Version number ahead error = VersionFault ahead error
FaultAhead stages.Events number ahead error = (ahead ≢ []) × EventFault number ahead error

-- the first fault of the bytes comes after these events
pub record FaultAfter (bytes : List ℕ) (events : List Event) (error : TranscriptError) : Type 0 where
  pub stage : Stage
  pub ahead : List ℕ
  pub read : ReadUpTo stage bytes events ahead
  pub fault : FaultAhead stage (number_after_events events) ahead error

-- the reader has given these events of the bytes
abbrev pub HasGivenOf : List ℕ → List Event → Reading → Type 0
HasGivenOf bytes events s = (ahead : List ℕ) × HasGiven bytes events ahead s

-- the first fault of the bytes comes after these events, unless memory ran out or the source failed
abbrev pub FaultOf : List ℕ → List Event → TranscriptError → Type 0
FaultOf bytes events error = IsExcuse error ⊎ FaultAfter bytes events error

-- the events with one that is given, if any
abbrev pub with_given : List Event → Option Event → List Event
with_given events None = events
with_given events (Some event) = events ++ event ∷ []

-- the reader gave the event, or none and nothing is ahead
abbrev pub GaveFrom : List ℕ → List Event → Option Event → Reading → Type 0
GaveFrom bytes events (Some event) new = HasGivenOf bytes (events ++ event ∷ []) new
GaveFrom bytes events None new = HasGiven bytes events [] new × (new.stage ≡ stages.Events)

-- the same, without the fault that was reported
abbrev pub unreported : Reading → Reading
unreported s = record { ahead = s.ahead; stage = s.stage; number = s.number; fault = None }

-- with this error the reader has given the events of before, and no more: it may go on after `NoMemory` alone
abbrev pub HasStillGiven : List ℕ → List Event → TranscriptError → Reading → Type 0
HasStillGiven bytes events NoMemory new = HasGivenOf bytes events new
HasStillGiven bytes events error new = HasGivenOf bytes events (unreported new)
