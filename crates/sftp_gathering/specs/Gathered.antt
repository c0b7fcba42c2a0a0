-- What is gathered of the files of a set, session by session. This profile's own.
use Rattle.std.specs.Prelude.{◌≡◌, ℕ, List, [], ◌∷◌, ◌++◌, map, ⊤, Ok, Err, Option, Some, None}
use Rattle.sftp_times.specs.declared.entries.Beginning.{Beginning}
use Rattle.sftp_times.specs.declared.errors.TimesError.{TimesError}
use Rattle.sftp_times.specs.declared.errors.TimesError.TheVariants as times_errors
use Rattle.sftp_times.specs.Times.{times_at}
use Rattle.sftp_orders.specs.declared.errors.OrderError.{OrderError}
use Rattle.sftp_orders.specs.declared.errors.OrderError.TheVariants as order_errors
use Rattle.sftp_orders.specs.Orders.{order_at}
use Rattle.sftp_together.specs.declared.exchanges.TimedExchange.{TimedExchange}
use Rattle.sftp_together.specs.Sets.{TimedEvent, timed_exchanges}
use Rattle.sftp_sets.specs.Sessions.{IsUnread, IsFirstFault}
use Rattle.sftp_gathering.specs.declared.clock.SetClock.{SetClock}
use Rattle.sftp_gathering.specs.declared.errors.MemberError.{MemberError}
use Rattle.sftp_gathering.specs.declared.errors.MemberError.TheVariants.{Times, OtherClock, Session}
use Rattle.sftp_gathering.specs.declared.errors.PlacesError.{PlacesError}
use Rattle.sftp_gathering.specs.declared.errors.PlacesError.TheVariants.{Order, OtherSessions}
use Rattle.sftp_gathering.specs.declared.clocks.TimesOnClock.{TimesOnClock}
use Rattle.sftp_gathering.specs.Files.{SessionFiles, AreSessionsOf, clock_of, start_of, HasPlaces}

-- the clock of the sessions so far, if there are any, and the exchanges of each
pub record Gathered : Type 0 where
  pub clock : Option SetClock
  pub each : List (List TimedExchange)

-- the sessions of these files, on this clock; there is none exactly where there are no files
abbrev pub AreOn : Option SetClock → List SessionFiles → List (List TimedEvent) → Type 0
AreOn None each sessions = (each ≡ []) × (sessions ≡ [])
AreOn (Some clock) [] sessions = ⊥
AreOn (Some clock) (files ∷ each) sessions = AreSessionsOf clock (files ∷ each) sessions

-- this is gathered of these files
pub record IsGathered (each : List SessionFiles) (gathered : Gathered) : Type 0 where
  pub sessions : List (List TimedEvent)
  pub sessions_are : AreOn gathered.clock each sessions
  pub exchanges_are : gathered.each ≡ map timed_exchanges sessions

-- a set that has these files, and then that one, and then any others, has no sessions
abbrev pub IsNoMember : List SessionFiles → SessionFiles → Type 0
IsNoMember each files =
    (others : List SessionFiles) (clock : SetClock) (sessions : List (List TimedEvent))
    → AreSessionsOf clock (each ++ files ∷ others) sessions → ⊥

-- ---- times on a clock

-- a clock is that of the sessions so far, if there are any
abbrev pub IsOnClock : Option SetClock → SetClock → Type 0
IsOnClock None clock = ⊤
IsOnClock (Some so_far) clock = so_far ≡ clock

-- what is read of a file of times
pub record IsReadOn (so_far : Option SetClock) (bytes : List ℕ) (read : TimesOnClock) : Type 0 where
  pub beginning : Beginning
  pub times_are : times_at bytes ≡ Ok (beginning, read.times.entries.items)
  pub clock_is : clock_of beginning.boot ≡ read.clock
  pub start_is : read.times.start ≡ start_of beginning
  pub is_on : IsOnClock so_far read.clock

-- a file of times of which this is the first fault
abbrev pub HasTimesFault : List ℕ → TimesError → Type 0
HasTimesFault bytes times_errors.NoMemory = ⊤
HasTimesFault bytes error = times_at bytes ≡ Err error

-- times that are on another clock than the sessions so far
pub record IsOnOtherClock (so_far : Option SetClock) (bytes : List ℕ) : Type 0 where
  pub beginning : Beginning
  pub entries : List ℕ
  pub times_are : times_at bytes ≡ Ok (beginning, entries)
  pub other : IsOnClock so_far (clock_of beginning.boot) → ⊥

-- times with which this is the first fault of a transcript
pub record HasSessionFault (transcript bytes : List ℕ) (Fault : List ℕ → List ℕ → Type 0) : Type 0 where
  pub beginning : Beginning
  pub entries : List ℕ
  pub times_are : times_at bytes ≡ Ok (beginning, entries)
  pub fault : Fault transcript entries

-- why a file of times is not read
abbrev pub IsTimesFault : Option SetClock → List ℕ → MemberError → Type 0
IsTimesFault so_far bytes (Times error) = HasTimesFault bytes error
IsTimesFault so_far bytes OtherClock = IsOnOtherClock so_far bytes
IsTimesFault so_far bytes (Session error) = ⊥

-- the first fault of the files of a session, of which the times are read first
abbrev pub IsMemberFault : Option SetClock → SessionFiles → MemberError → Type 0
IsMemberFault so_far files (Times error) = HasTimesFault files.times error
IsMemberFault so_far files OtherClock = IsOnOtherClock so_far files.times
IsMemberFault so_far files (Session error) =
    HasSessionFault files.transcript files.times (λ transcript entries. IsFirstFault transcript entries error)

-- memory ran out, or a source failed: nothing is said of the session
abbrev pub IsUnreadMember : MemberError → Type 0
IsUnreadMember (Times times_errors.NoMemory) = ⊤
IsUnreadMember (Times error) = ⊥
IsUnreadMember OtherClock = ⊥
IsUnreadMember (Session error) = IsUnread error

-- ---- places

-- why a file is no order of sessions of these names
abbrev pub IsPlacesFault : List ℕ → List (List ℕ) → PlacesError → Type 0
IsPlacesFault bytes names (Order order_errors.NoMemory) = ⊤
IsPlacesFault bytes names (Order error) = order_at bytes ≡ Err error
IsPlacesFault bytes names OtherSessions = (places : List ℕ) → HasPlaces bytes names places → ⊥
