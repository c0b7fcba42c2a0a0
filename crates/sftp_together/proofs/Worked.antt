-- Two sessions by what is computed of them: their order, its clock, and where its run ends.
use Rattle.std.proofs.Common.{◌≡◌, ◌==◌, inl, inr, ℕ, zero, suc, Bool, true, false, List, [], ◌∷◌, ◌++◌, refl, sym, ap, ◌∙◌}
use Rattle.std.proofs.Common.{cond, map, set, Option, Some, None, eqb-true, codes, length, arith}
use Rattle.sftp_packets.specs.declared.requests.Ask.TheVariants.{Open, Read, Close}
use Rattle.sftp_packets.specs.declared.replies.Answer.TheVariants.{Handle, Data, Status}
use Rattle.sftp_packets.specs.Spelling.{no_attributes}
use Rattle.sftp_packets.specs.declared.packets.Request.{Request}
use Rattle.sftp_packets.specs.declared.packets.Reply.{Reply}
use Rattle.sftp_path.specs.Table.{get, put, retain, without}
use Rattle.sftp_path.specs.Place.{is_good_path, components, parts}
use Rattle.sftp_tree.specs.Tree.{fits, has_entries}
use Rattle.sftp_tree.specs.Picture.{blank}
use Rattle.sftp_tree.specs.Requests.{causes as path_causes, plain_causes, led, outcome}
use Rattle.sftp_tree.specs.PlaceCauses.{no_causes, when, joined}
use Rattle.sftp_tree.specs.Walk.{reached, walk, walk_parts, meets}
use Rattle.sftp_handles.specs.State.{State, pins_of, seen, started}
use Rattle.sftp_handles.specs.RequestRows.{limits_data}
use Rattle.sftp_handles.specs.Allowed.{Allowed, step, and_then, causes, answers, after, told_to}
use Rattle.sftp_handles.specs.Examples.{with_text}
use Rattle.sftp_handles.proofs.Judged.{step-is_allowed, allowed-step}
use Rattle.std.specs.List.{AllByRecursion}
use Rattle.sftp_transcript.specs.Explained.{Run}
use Rattle.sftp_together.specs.declared.exchanges.TimedExchange.{TimedExchange}
use Rattle.sftp_together.specs.declared.errors.OrderFault.TheVariants.{NothingLeft, Clock, Reply as reply_fault, LeftOut}
use Rattle.sftp_together.specs.Sets.{Sessions, session_at, is_alone, Placed, session_of, part_of, KeepsClock, pair_in}
use Rattle.sftp_together.specs.Sets.{pairs_in, next_timed, timed_from, comes_before}
use Rattle.sftp_together.specs.Checks.{IsPlaced, ExplainsBy, IsFirstFault, MissesClock}
use Rattle.sftp_together.specs.Examples.{writer_and_reader, by_turns, writer_first}
use Rattle.sftp_together.proofs.Orders.{all-placed}
use Rattle.sftp_together.proofs.Refuting.{part-away}
use Rattle.std.proofs.lemmas.Bool.{ne_eqb}

-- ==== A run is computed.

-- where a request and a reply lead, if the reply is allowed
abbrev step_end : State → Request → Reply → Option State
step_end s request reply = cond (reply.id == request.id) (step s request.ask reply.answer) None

-- where a run leads, if each of its replies is allowed
abbrev run_end : State → List (Request × Reply) → Option State
run_end s [] = Some s
run_end s (pair ∷ pairs) = and_then (step_end s pair.0 pair.1) (λ mid. run_end mid pairs)

allowed-of_end : (s : State) (request : Request) (reply : Reply) (end : State)
    → step_end s request reply ≡ Some end → Allowed s request reply end
allowed-of_end s request reply end is = by (reply.id == request.id) refl is
  where
    by : (b : Bool) → (reply.id == request.id) ≡ b
        → cond b (step s request.ask reply.answer) None ≡ Some end → Allowed s request reply end
    by true same f = step-is_allowed s request reply end (eqb-true reply.id request.id same) f
    by false other f = absurd cc

some_is : (a b : State) → (let x : Option State = Some a in x) ≡ Some b → b ≡ a
some_is a b e = cc

run-of_end : (s : State) (pairs : List (Request × Reply)) (end : State) → run_end s pairs ≡ Some end
    → Run Allowed s pairs end
run-of_end s [] end is = some_is s end is
run-of_end s (pair ∷ pairs) end is = by (λ mid. run-of_end mid pairs end) (step_end s pair.0 pair.1) refl is
  where
    by : ((mid : State) → run_end mid pairs ≡ Some end → Run Allowed mid pairs end) → (o : Option State)
        → step_end s pair.0 pair.1 ≡ o → and_then o (λ mid. run_end mid pairs) ≡ Some end
        → Run Allowed s (pair ∷ pairs) end
    by rest None at f = absurd cc
    by rest (Some mid) at f = (mid, allowed-of_end s pair.0 pair.1 mid at, rest mid f)

not-allowed : (s : State) (request : Request) (reply : Reply) (end : State) → step s request.ask reply.answer ≡ None
    → Allowed s request reply end → ⊥
not-allowed s request reply end is allowed =
    absurd (let some : None ≡ Some end = sym is ∙ allowed-step s request reply end allowed in cc)

-- ==== An order is computed.

behind_first : List TimedExchange → List TimedExchange
behind_first [] = []
behind_first (exchange ∷ exchanges) = exchanges

with_first : ℕ → List TimedExchange → List Placed → List Placed
with_first number [] order = order
with_first number (exchange ∷ exchanges) order = (number, exchange) ∷ order

-- the requests that have the places of these numbers
placed_by : List ℕ → Sessions → List Placed
placed_by [] sessions = []
placed_by (number ∷ numbers) sessions =
    with_first number (session_at number sessions)
    (placed_by numbers (set sessions number (behind_first (session_at number sessions))))

-- what the sessions then have left
left_by : List ℕ → Sessions → Sessions
left_by [] sessions = sessions
left_by (number ∷ numbers) sessions =
    left_by numbers (set sessions number (behind_first (session_at number sessions)))

-- whether none of them has to come before this one
none_late : ℕ → TimedExchange → List Placed → Bool
none_late tolerance exchange [] = true
none_late tolerance exchange (later ∷ order) =
    cond (comes_before tolerance later.1 exchange) false (none_late tolerance exchange order)

keeps_clock : ℕ → List Placed → Bool
keeps_clock tolerance [] = true
keeps_clock tolerance (placed ∷ order) = cond (none_late tolerance placed.1 order) (keeps_clock tolerance order) false

none-late : (tolerance : ℕ) (exchange : TimedExchange) (order : List Placed) → none_late tolerance exchange order ≡ true
    → AllByRecursion (λ later. comes_before tolerance later.1 exchange ≡ false) order
unfolding none_late
none-late tolerance exchange [] is = tt
none-late tolerance exchange (later ∷ order) is =
    by (comes_before tolerance later.1 exchange) refl is (none-late tolerance exchange order)
  where
    by : (b : Bool) → comes_before tolerance later.1 exchange ≡ b
        → cond b false (none_late tolerance exchange order) ≡ true
        → (none_late tolerance exchange order ≡ true
        → AllByRecursion (λ later. comes_before tolerance later.1 exchange ≡ false) order)
        → (comes_before tolerance later.1 exchange ≡ false)
        × AllByRecursion (λ later. comes_before tolerance later.1 exchange ≡ false) order
    by true late is rest = absurd cc
    by false early is rest = (early, rest is)

keeps-clock : (tolerance : ℕ) (order : List Placed) → keeps_clock tolerance order ≡ true → KeepsClock tolerance order
unfolding keeps_clock KeepsClock
keeps-clock tolerance [] is = tt
keeps-clock tolerance (placed ∷ order) is =
    by (none_late tolerance placed.1 order) refl is (keeps-clock tolerance order)
  where
    by : (b : Bool) → none_late tolerance placed.1 order ≡ b → cond b (keeps_clock tolerance order) false ≡ true
        → (keeps_clock tolerance order ≡ true → KeepsClock tolerance order)
        → AllByRecursion (λ later. comes_before tolerance later.1 placed.1 ≡ false) order × KeepsClock tolerance order
    by true early is rest = (none-late tolerance placed.1 order early, rest is)
    by false late is rest = absurd cc

-- whether they are of the first two sessions
are_of_two : List Placed → Bool
are_of_two [] = true
are_of_two ((zero, exchange) ∷ order) = are_of_two order
are_of_two ((suc zero, exchange) ∷ order) = are_of_two order
are_of_two ((suc (suc number), exchange) ∷ order) = false

no-part : (number : ℕ) (order : List Placed) → are_of_two order ≡ true → part_of (suc (suc number)) order ≡ []
unfolding are_of_two part_of
no-part number [] is = refl
no-part number ((zero, exchange) ∷ order) is =
    part-away (suc (suc number)) 0 exchange order (ne_eqb 0 (suc (suc number)) (λ e. omega (arith, e)))
    ∙ no-part number order is
no-part number ((suc zero, exchange) ∷ order) is =
    part-away (suc (suc number)) 1 exchange order (ne_eqb 1 (suc (suc number)) (λ e. omega (arith, e)))
    ∙ no-part number order is
no-part number ((suc (suc other), exchange) ∷ order) is = absurd cc

-- ==== The worked examples.

unfoldable pub computed : Unit {0}
unfolding
    are_of_two placed_by left_by with_first behind_first keeps_clock none_late part_of next_timed timed_from step causes answers after
    told_to pins_of path_causes plain_causes no_causes when joined led outcome reached walk walk_parts meets is_good_path
    components parts get put fits retain seen without limits_data has_entries
computed = tt

abbrev letters : Sessions
letters = writer_and_reader (codes "abc")

-- these many requests are right, up to a state
right : (tolerance : ℕ) (sessions : Sessions) (numbers : List ℕ) (mid : State)
    → map session_of (placed_by numbers sessions) ≡ numbers
    → ((number : ℕ)
    → session_at number sessions
    ≡ part_of number (placed_by numbers sessions) ++ session_at number (left_by numbers sessions))
    → length (left_by numbers sessions) ≡ length sessions → keeps_clock tolerance (placed_by numbers sessions) ≡ true
    → run_end (started blank) (pairs_in (is_alone sessions) (placed_by numbers sessions)) ≡ Some mid
    → IsPlaced Allowed (started blank) tolerance sessions numbers (placed_by numbers sessions) (left_by numbers sessions) mid
right tolerance sessions numbers mid named each as_many clock run = record {
  named = named;
  each = each;
  as_many = as_many;
  clock = keeps-clock tolerance (placed_by numbers sessions) clock;
  run = run-of_end (started blank) (pairs_in (is_alone sessions) (placed_by numbers sessions)) mid run;
}

nothing_left : (numbers : List ℕ) → (sessions : Sessions) → left_by numbers sessions ≡ [] ∷ [] ∷ [] → (number : ℕ)
    → session_at number (left_by numbers sessions) ≡ []
nothing_left numbers sessions none number = ap (session_at number) none ∙ by number
  where
    by : (number : ℕ) → session_at number ([] ∷ [] ∷ []) ≡ []
    by zero = refl
    by (suc zero) = refl
    by (suc (suc number)) = refl

pub taken-by_turns : ExplainsBy Allowed (started blank) 0 letters by_turns (started (with_text (codes "abc")))
unfolding computed
taken-by_turns =
    all-placed Allowed (started blank) 0 letters by_turns (placed_by by_turns letters) (left_by by_turns letters)
    (started (with_text (codes "abc")))
    (right 0 letters by_turns (started (with_text (codes "abc"))) refl each refl refl refl)
    (nothing_left by_turns letters refl)
  where
    each : (number : ℕ)
        → session_at number letters
        ≡ part_of number (placed_by by_turns letters) ++ session_at number (left_by by_turns letters)
    each zero = refl
    each (suc zero) = refl
    each (suc (suc number)) =
        sym (ap (λ (es : List TimedExchange). es ++ session_at (suc (suc number)) (left_by by_turns letters))
        (no-part number (placed_by by_turns letters) refl))

-- ---- orders that stop

-- the state after these numbers
abbrev state_in : Option State → State
state_in None = started blank
state_in (Some s) = s

abbrev state_after : Sessions → List ℕ → State
state_after sessions numbers =
    state_in (run_end (started blank) (pairs_in (is_alone sessions) (placed_by numbers sessions)))

-- the requests of the reader
abbrev reader_open : TimedExchange
reader_open = record {
  request = record { id = 1; ask = Open (codes "f") 1 no_attributes };
  asked = record { number = 3; time = 25 };
  reply = record { id = 1; answer = Handle (codes "h") };
  replied = record { number = 4; time = 35 };
}

abbrev reader_read : List ℕ → TimedExchange
reader_read bytes = record {
  request = record { id = 2; ask = Read (codes "h") 0 10 };
  asked = record { number = 5; time = 45 };
  reply = record { id = 2; answer = Data bytes };
  replied = record { number = 6; time = 55 };
}

abbrev reader_close : TimedExchange
reader_close = record {
  request = record { id = 3; ask = Close (codes "h") };
  asked = record { number = 7; time = 65 };
  reply = record { id = 3; answer = Status 0 [] [] };
  replied = record { number = 8; time = 70 };
}

-- the writer's requests are right before any of the reader's
abbrev writers : List ℕ
writers = 0 ∷ 0 ∷ 0 ∷ []

writer-right : (tolerance : ℕ) → keeps_clock tolerance (placed_by writers letters) ≡ true
    → IsPlaced Allowed (started blank) tolerance letters writers (placed_by writers letters) (left_by writers letters)
    (state_after letters writers)
unfolding computed
writer-right tolerance clock = right tolerance letters writers (state_after letters writers) refl each refl clock refl
  where
    each : (number : ℕ)
        → session_at number letters
        ≡ part_of number (placed_by writers letters) ++ session_at number (left_by writers letters)
    each zero = refl
    each (suc zero) = refl
    each (suc (suc number)) =
        sym (ap (λ (es : List TimedExchange). es ++ session_at (suc (suc number)) (left_by writers letters))
        (no-part number (placed_by writers letters) refl))

late : (tolerance : ℕ) → keeps_clock tolerance (placed_by writers letters) ≡ true
    → MissesClock tolerance reader_open (placed_by writers letters)
    → IsFirstFault Allowed (started blank) tolerance letters writer_first (Clock 3 1 3)
unfolding computed
late tolerance clock missed = record {
  exchange = reader_open;
  others = reader_read (codes "abc") ∷ reader_close ∷ [];
  stops = record {
    before = writers;
    behind = 1 ∷ 1 ∷ [];
    numbers_are = refl;
    place_is = refl;
    placed = placed_by writers letters;
    left = left_by writers letters;
    mid = state_after letters writers;
    right = writer-right tolerance clock;
    next_is = refl;
  };
  missed = missed;
  record_is = refl;
}

pub late-exactly : IsFirstFault Allowed (started blank) 0 letters writer_first (Clock 3 1 3)
unfolding computed MissesClock
late-exactly = late 0 refl (inr (inr (inl refl)))

pub late-nearly : IsFirstFault Allowed (started blank) 14 letters writer_first (Clock 3 1 3)
unfolding computed MissesClock
late-nearly = late 14 refl (inr (inr (inl refl)))

pub tolerated : ExplainsBy Allowed (started blank) 15 letters writer_first (started (with_text (codes "abc")))
unfolding computed
tolerated =
    all-placed Allowed (started blank) 15 letters writer_first (placed_by writer_first letters)
    (left_by writer_first letters) (started (with_text (codes "abc")))
    (right 15 letters writer_first (started (with_text (codes "abc"))) refl each refl refl refl)
    (nothing_left writer_first letters refl)
  where
    each : (number : ℕ)
        → session_at number letters
        ≡ part_of number (placed_by writer_first letters) ++ session_at number (left_by writer_first letters)
    each zero = refl
    each (suc zero) = refl
    each (suc (suc number)) =
        sym (ap (λ (es : List TimedExchange). es ++ session_at (suc (suc number)) (left_by writer_first letters))
        (no-part number (placed_by writer_first letters) refl))

abbrev wrong_letters : Sessions
wrong_letters = writer_and_reader (codes "abd")

abbrev before_read : List ℕ
before_read = 0 ∷ 1 ∷ 0 ∷ []

pub wrong-byte : IsFirstFault Allowed (started blank) 0 wrong_letters by_turns (reply_fault 3 1 6)
unfolding computed
wrong-byte = record {
  exchange = reader_read (codes "abd");
  others = reader_close ∷ [];
  stops = record {
    before = before_read;
    behind = 0 ∷ 1 ∷ [];
    numbers_are = refl;
    place_is = refl;
    placed = placed_by before_read wrong_letters;
    left = left_by before_read wrong_letters;
    mid = state_after wrong_letters before_read;
    right = right 0 wrong_letters before_read (state_after wrong_letters before_read) refl each refl refl refl;
    next_is = refl;
  };
  in_time = (refl, (refl, (refl, tt)));
  wrong = λ end allowed.
      not-allowed (state_after wrong_letters before_read) (pair_in false (1, reader_read (codes "abd"))).0
      (pair_in false (1, reader_read (codes "abd"))).1 end refl allowed;
  record_is = refl;
}
  where
    each : (number : ℕ)
        → session_at number wrong_letters
        ≡ part_of number (placed_by before_read wrong_letters) ++ session_at number (left_by before_read wrong_letters)
    each zero = refl
    each (suc zero) = refl
    each (suc (suc number)) =
        sym (ap (λ (es : List TimedExchange). es ++ session_at (suc (suc number)) (left_by before_read wrong_letters))
        (no-part number (placed_by before_read wrong_letters) refl))

-- all but the reader's last request
abbrev but_one : List ℕ
but_one = 0 ∷ 1 ∷ 0 ∷ 1 ∷ 0 ∷ []

but-one : IsPlaced Allowed (started blank) 0 letters but_one (placed_by but_one letters) (left_by but_one letters)
    (state_after letters but_one)
unfolding computed
but-one = right 0 letters but_one (state_after letters but_one) refl each refl refl refl
  where
    each : (number : ℕ)
        → session_at number letters
        ≡ part_of number (placed_by but_one letters) ++ session_at number (left_by but_one letters)
    each zero = refl
    each (suc zero) = refl
    each (suc (suc number)) =
        sym (ap (λ (es : List TimedExchange). es ++ session_at (suc (suc number)) (left_by but_one letters))
        (no-part number (placed_by but_one letters) refl))

pub one-left-out : IsFirstFault Allowed (started blank) 0 letters but_one (LeftOut 1 7)
unfolding computed
one-left-out = record {
  placed = placed_by but_one letters;
  left = left_by but_one letters;
  mid = state_after letters but_one;
  right = but-one;
  exchange = reader_close;
  others = [];
  next_is = refl;
  record_is = refl;
}

pub one-too-many : IsFirstFault Allowed (started blank) 0 letters (0 ∷ 1 ∷ 0 ∷ 1 ∷ 0 ∷ 0 ∷ 1 ∷ []) (NothingLeft 5 0)
unfolding computed
one-too-many = record {
  before = but_one;
  behind = 1 ∷ [];
  numbers_are = refl;
  place_is = refl;
  placed = placed_by but_one letters;
  left = left_by but_one letters;
  mid = state_after letters but_one;
  right = but-one;
  next_is = refl;
}
