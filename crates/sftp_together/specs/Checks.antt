-- How far an order of several sessions is right, and why it goes no further. This profile's own.
use Rattle.std.specs.Prelude.{◌≡◌, ◌==◌, ◌⊎◌, ◌+◌, ⊤, nat_lt, ℕ, Bool, true, false, List, [], ◌∷◌, ◌++◌, map}
use Rattle.std.specs.Prelude.{length, max, Option, Some, None}
use Rattle.sftp_transcript.specs.Explained.{StepOf, Run}
use Rattle.sftp_together.specs.declared.exchanges.TimedExchange.{TimedExchange}
use Rattle.sftp_together.specs.declared.errors.OrderFault.{OrderFault}
use Rattle.sftp_together.specs.declared.errors.OrderFault.TheVariants as faults
use Rattle.sftp_together.specs.Sets.{Sessions, session_at, is_alone, Placed, session_of, part_of, comes_before}
use Rattle.sftp_together.specs.Sets.{MayComeAfter, KeepsClock, Explains, pair_in, pairs_in}

-- ---- the next request of a session

-- the next request of a session is taken; the others stay as they are
pub record IsTaken (number : ℕ) (old : Sessions) (exchange : TimedExchange) (new : Sessions) : Type 0 where
  pub behind : List TimedExchange
  pub first : session_at number old ≡ exchange ∷ behind
  pub rest : session_at number new ≡ behind
  pub others : (other : ℕ) → (other == number) ≡ false → session_at other new ≡ session_at other old
  pub as_many : length new ≡ length old

-- it is taken if there is one, and else nothing changes
abbrev pub Takes : ℕ → Sessions → Option TimedExchange → Sessions → Type 0
Takes number old None new = (session_at number old ≡ []) × (new ≡ old)
Takes number old (Some exchange) new = IsTaken number old exchange new

-- ---- how far an order is right

-- these requests have their places, at each place the next one of the session that the numbers name; the sessions have
-- the others left; and the run leads to this state
pub record IsPlaced {S : Type 0} (step : StepOf S) (start : S) (tolerance : ℕ) (sessions : Sessions)
    (numbers : List ℕ) (placed : List Placed) (left : Sessions) (mid : S) : Type 0 where
  pub named : map session_of placed ≡ numbers
  pub each : (number : ℕ) → session_at number sessions ≡ part_of number placed ++ session_at number left
  pub as_many : length left ≡ length sessions
  pub clock : KeepsClock tolerance placed
  pub run : Run step start (pairs_in (is_alone sessions) placed) mid

-- when the last of them was asked
unfoldable pub latest_asked : List Placed → ℕ
latest_asked [] = 0
latest_asked (placed ∷ order) = max placed.1.asked.time (latest_asked order)

-- ---- why it goes no further

-- the order is right up to a place, and the session that it names there has these requests left
pub record Stops {S : Type 0} (step : StepOf S) (start : S) (tolerance : ℕ) (sessions : Sessions) (numbers : List ℕ)
    (place number : ℕ) (next : List TimedExchange) : Type 0 where
  pub before : List ℕ
  pub behind : List ℕ
  pub numbers_are : numbers ≡ before ++ number ∷ behind
  pub place_is : place ≡ length before
  pub placed : List Placed
  pub left : Sessions
  pub mid : S
  pub right : IsPlaced step start tolerance sessions before placed left mid
  pub next_is : session_at number left ≡ next

-- a request that has its place was asked more than the tolerance after this one had its reply
unfoldable pub MissesClock : ℕ → TimedExchange → List Placed → Type 0
MissesClock tolerance exchange [] = ⊥
MissesClock tolerance exchange (placed ∷ order) =
    (comes_before tolerance exchange placed.1 ≡ true) ⊎ MissesClock tolerance exchange order

-- the next request of a session has to come before one that has its place
pub record StopsAtClock {S : Type 0} (step : StepOf S) (start : S) (tolerance : ℕ) (sessions : Sessions)
    (numbers : List ℕ) (place number : ℕ) (stamp : ℕ) : Type 0 where
  pub exchange : TimedExchange
  pub others : List TimedExchange
  pub stops : Stops step start tolerance sessions numbers place number (exchange ∷ others)
  pub missed : MissesClock tolerance exchange stops.placed
  pub record_is : stamp ≡ exchange.asked.number

-- its reply is not allowed there
pub record StopsAtReply {S : Type 0} (step : StepOf S) (start : S) (tolerance : ℕ) (sessions : Sessions)
    (numbers : List ℕ) (place number : ℕ) (stamp : ℕ) : Type 0 where
  pub exchange : TimedExchange
  pub others : List TimedExchange
  pub stops : Stops step start tolerance sessions numbers place number (exchange ∷ others)
  pub in_time : MayComeAfter tolerance exchange stops.placed
  pub wrong : (end : S) → step stops.mid (pair_in (is_alone sessions) (number, exchange)).0
      (pair_in (is_alone sessions) (number, exchange)).1 end → ⊥
  pub record_is : stamp ≡ exchange.replied.number

-- the whole order is right, but a session has a request left
pub record LeavesOne {S : Type 0} (step : StepOf S) (start : S) (tolerance : ℕ) (sessions : Sessions)
    (numbers : List ℕ) (number : ℕ) (stamp : ℕ) : Type 0 where
  pub placed : List Placed
  pub left : Sessions
  pub mid : S
  pub right : IsPlaced step start tolerance sessions numbers placed left mid
  pub exchange : TimedExchange
  pub others : List TimedExchange
  pub next_is : session_at number left ≡ exchange ∷ others
  pub record_is : stamp ≡ exchange.asked.number

-- the first place at which the order is none; nothing where a session could not be read or memory ran out
abbrev pub IsFirstFault : {S : Type 0} → StepOf S → S → ℕ → Sessions → List ℕ → OrderFault → Type 0
IsFirstFault step start tolerance sessions numbers (faults.NothingLeft place session) =
    Stops step start tolerance sessions numbers place session []
IsFirstFault step start tolerance sessions numbers (faults.Clock place session stamp) =
    StopsAtClock step start tolerance sessions numbers place session stamp
IsFirstFault step start tolerance sessions numbers (faults.Reply place session stamp) =
    StopsAtReply step start tolerance sessions numbers place session stamp
IsFirstFault step start tolerance sessions numbers (faults.LeftOut session stamp) =
    LeavesOne step start tolerance sessions numbers session stamp
IsFirstFault step start tolerance sessions numbers (faults.Unread session) = ⊤
IsFirstFault step start tolerance sessions numbers faults.NoMemory = ⊤

-- it says nothing of the order
abbrev pub IsNoJudgement : OrderFault → Type 0
IsNoJudgement (faults.Unread session) = ⊤
IsNoJudgement faults.NoMemory = ⊤
IsNoJudgement other = ⊥

-- what an order explains, where the numbers of its sessions are these
pub record ExplainsBy {S : Type 0} (step : StepOf S) (start : S) (tolerance : ℕ) (sessions : Sessions)
    (numbers : List ℕ) (end : S) : Type 0 where
  pub order : List Placed
  pub named : map session_of order ≡ numbers
  pub explains : Explains step start tolerance sessions order end

-- ---- parts of the check

-- what a check knows of the requests that have their places: the state after them, whether one session is the whole
-- set, the tolerance, and when the last of them was asked
pub record Judging (S : Type 0) : Type 0 where
  pub state : S
  pub alone : Bool
  pub tolerance : ℕ
  pub latest : ℕ

-- why the next request of a session does not get this place
abbrev pub IsMisplaced : {S : Type 0} → StepOf S → Judging S → ℕ → ℕ → TimedExchange → OrderFault → Type 0
IsMisplaced step old place number exchange (faults.Clock at session stamp) =
    (at ≡ place) × (session ≡ number) × (stamp ≡ exchange.asked.number)
    × (nat_lt (exchange.replied.time + old.tolerance) old.latest ≡ true)
IsMisplaced {S} step old place number exchange (faults.Reply at session stamp) =
    (at ≡ place) × (session ≡ number) × (stamp ≡ exchange.replied.number)
    × (nat_lt (exchange.replied.time + old.tolerance) old.latest ≡ false)
    × ((end : S) → step old.state (pair_in old.alone (number, exchange)).0 (pair_in old.alone (number, exchange)).1 end
    → ⊥)
IsMisplaced step old place number exchange faults.NoMemory = ⊤
IsMisplaced step old place number exchange other = ⊥

-- a session has this request left, or could not be read
abbrev pub FirstLeft : Sessions → OrderFault → Type 0
FirstLeft left (faults.LeftOut number stamp) =
    (exchange : TimedExchange) × (others : List TimedExchange) × (session_at number left ≡ exchange ∷ others)
    × (stamp ≡ exchange.asked.number)
FirstLeft left (faults.Unread number) = ⊤
FirstLeft left other = ⊥

-- the reply of a session's next request is allowed, and leads to the new state, or is not
abbrev pub IsJudged : {S : Type 0} → StepOf S → Judging S → ℕ → TimedExchange → Judging S → Bool → Type 0
IsJudged step old number exchange new true =
    step old.state (pair_in old.alone (number, exchange)).0 (pair_in old.alone (number, exchange)).1 new.state
IsJudged {S} step old number exchange new false =
    (end : S) → step old.state (pair_in old.alone (number, exchange)).0 (pair_in old.alone (number, exchange)).1 end → ⊥
