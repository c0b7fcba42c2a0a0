-- What a set of sessions is as files, and when such files are explained. This profile's own.
use Rattle.std.specs.Prelude.{◌≡◌, ℕ, List, [], ◌∷◌, ◌++◌, map, ⊤, Ok, Err, Option, Some, None}
use Rattle.sftp_times.specs.declared.entries.Boot.{Boot}
use Rattle.sftp_times.specs.declared.entries.Beginning.{Beginning}
use Rattle.sftp_times.specs.Times.{times_at}
use Rattle.sftp_orders.specs.Orders.{order_at}
use Rattle.sftp_tree.specs.Tree.{Tree}
use Rattle.sftp_tree.specs.Picture.{IsStart}
use Rattle.sftp_transcript.specs.Explained.{StepOf}
use Rattle.sftp_together.specs.Sets.{TimedEvent, timed_exchanges, AreExplained}
use Rattle.sftp_together.specs.Checks.{ExplainsBy}
use Rattle.sftp_sets.specs.Sessions.{IsSession}
use Rattle.sftp_gathering.specs.declared.clock.SetClock.{SetClock}
use Rattle.sftp_gathering.specs.declared.clock.SetClock.TheVariants.{Dates, SinceBoot}

-- ---- clocks

-- the clock that times are on: that of a boot, or dates where the file names none
abbrev pub clock_of : Option Boot → SetClock
clock_of None = Dates
clock_of (Some boot) = SinceBoot boot.high boot.low

-- when the session started, on that clock
abbrev pub start_by : ℕ → Option Boot → ℕ
start_by date None = date
start_by date (Some boot) = boot.zero

abbrev pub start_of : Beginning → ℕ
start_of beginning = start_by beginning.date beginning.boot

-- ---- sessions

-- the files of a session: its name, and the bytes of its transcript and of its times
pub record SessionFiles : Type 0 where
  pub name : List ℕ
  pub transcript : List ℕ
  pub times : List ℕ

-- The transcript records this session, the times are those of its records, and they are on this clock.
pub record IsSessionOf (clock : SetClock) (files : SessionFiles) (session : List TimedEvent) : Type 0 where
  pub beginning : Beginning
  pub entries : List ℕ
  pub times_are : times_at files.times ≡ Ok (beginning, entries)
  pub clock_is : clock_of beginning.boot ≡ clock
  pub session_is : IsSession files.transcript (start_of beginning) entries session

-- each of the files is that of the session with its number; all of their times are on this clock
abbrev pub AreSessionsOf : SetClock → List SessionFiles → List (List TimedEvent) → Type 0
AreSessionsOf clock [] [] = ⊤
AreSessionsOf clock [] (session ∷ sessions) = ⊥
AreSessionsOf clock (files ∷ each) [] = ⊥
AreSessionsOf clock (files ∷ each) (session ∷ sessions) =
    IsSessionOf clock files session × AreSessionsOf clock each sessions

-- ---- sets

-- The files of a set: the tree from which the sessions began, those of each session, and an order of all requests.
pub record SetFiles : Type 0 where
  pub tree : List ℕ
  pub each : List SessionFiles
  pub order : List ℕ

abbrev pub name_of : SessionFiles → List ℕ
name_of files = files.name

-- What it means that a tree file and the files of sessions are explained: the times of all sessions are on one clock,
-- and the sessions are explained from the tree, with this tree at the end. A step judges replies, a session begins in
-- a state of its tree, and `close` is the tree of a state once nothing is open.
pub record IsSetExplained {S : Type 0} (step : StepOf S) (begin : Tree → S) (close : S → Tree) (tolerance : ℕ)
    (tree : List ℕ) (each : List SessionFiles) (end : Tree) : Type 0 where
  pub start : Tree
  pub start_is : IsStart start tree
  pub clock : SetClock
  pub sessions : List (List TimedEvent)
  pub sessions_are : AreSessionsOf clock each sessions
  pub last : S
  pub explained : AreExplained step (begin start) tolerance sessions last
  pub end_is : end ≡ close last

-- The same by one order, which has the numbers of the sessions place by place.
pub record IsSetExplainedBy {S : Type 0} (step : StepOf S) (begin : Tree → S) (tolerance : ℕ) (tree : List ℕ)
    (each : List SessionFiles) (places : List ℕ) : Type 0 where
  pub start : Tree
  pub start_is : IsStart start tree
  pub clock : SetClock
  pub sessions : List (List TimedEvent)
  pub sessions_are : AreSessionsOf clock each sessions
  pub last : S
  pub explains : ExplainsBy step (begin start) tolerance (map timed_exchanges sessions) places last

-- the file of an order has these places, for sessions of these names
abbrev pub HasPlaces : List ℕ → List (List ℕ) → List ℕ → Type 0
HasPlaces order names places = order_at order ≡ Ok (names, places)

-- The order of a set explains it: it is one of sessions with these names, and explains their files.
pub record IsExplainedByOrder {S : Type 0} (step : StepOf S) (begin : Tree → S) (tolerance : ℕ) (files : SetFiles)
    : Type 0 where
  pub places : List ℕ
  pub order_is : HasPlaces files.order (map name_of files.each) places
  pub explained : IsSetExplainedBy step begin tolerance files.tree files.each places
