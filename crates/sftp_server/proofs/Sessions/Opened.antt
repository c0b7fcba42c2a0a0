-- A session is opened.
use Rattle.sftp_server.proofs.Imports.{◌≡◌, ◌⊎◌, ℕ, ◌<◌, ◌≤◌, List, [], ◌∷◌, ◌++◌, length, take, drop, Option, Some}
use Rattle.sftp_server.proofs.Imports.{None, Result, Ok, Err, OnOk, IfErr, IfSome, refl, sym, ap, subst, ◌∙◌, inl, inr}
use Rattle.sftp_server.proofs.Imports.{append-nil, arith, take_at, length-append, Appends, Consumes, Keeps}
use Rattle.sftp_server.proofs.Imports.{Appends-trans, Packet, Init, Side, Client, Server, spelling, side_of, front_of}
use Rattle.sftp_server.proofs.Imports.{StandsInFront, place_after, none-leaves_room, AppendsPart, Log, opened_text}
use Rattle.sftp_server.proofs.Imports.{record_text, transcript_opening, BeginsFrom, turn_after, in_window, exchanges_of}
use Rattle.sftp_server.proofs.Imports.{leading_pairs, window, Tree, State, Good, settled, Allowed, Stop, at_start}
use Rattle.sftp_server.proofs.Imports.{started, sent_by, spelled_if, recorded, IsGreeting, IsNoGreeting}
use Rattle.sftp_server.proofs.Imports.{IsListed, IsCutInLast, StreamBytes, stream_bytes, Passed, AreDone, Stops}
use Rattle.sftp_server.proofs.Imports.{tree_left, IsLogging, Ahead, IsRunning, IsUnopenedYet, FailsToSend, MatchResult}
use Rattle.sftp_server.proofs.Imports.{drop_at, input_limit, ahead_without, BeginsWithGreeting, First, Keeps-refl}
use Rattle.sftp_server.proofs.Imports.{IsLeftAfter}
use Rattle.sftp_packets.specs.declared.packets.Packet.TheVariants.{Version, Request, Reply}
use Rattle.sftp_server.specs.Ending.{IsFirst, IsInFront, IsGreetingOf}
use Rattle.std.specs.Result.{IsErrAnd}
use Rattle.sftp_transcript.specs.Transcript.{IsInit, IsVersion}
use Rattle.sftp_server.specs.declared.ends.SessionFault.TheVariants as faults
use Rattle.sftp_server.specs.declared.ends.Stop.TheVariants as stops
use Rattle.sftp_server.specs.declared.ends.Stream.TheVariants as streams
use Rattle.sftp_server.specs.declared.opening.First.TheVariants as firsts
use Rattle.sftp_server.proofs.Machines.Laws.{reached-start}
use Rattle.sftp_server.proofs.Sessions.{sent-one, recorded-more}
use Rattle.sftp_server.proofs.Sessions.{cut-whole, is-beginning, client-silent, server-sent, stopped-sending}
use Rattle.sftp_server.proofs.Sessions.{passed-kept, stops-by, leaves-by}
use Rattle.sftp_server.specs.Served.{IsWrittenSoFar}
use Rattle.sftp_server.specs.Sessions.{ended_by}
use Rattle.sftp_server.specs.Served.{Setup}

-- ---- before the first packet is complete

pub unopened-kept : {past : StreamBytes} {left0 left1 written logged : Option (List ℕ)} {ahead : Ahead}
    → IsUnopenedYet past (stream_bytes left0 written logged) ahead → Keeps left0 left1
    → IsUnopenedYet past (stream_bytes left1 written logged) ahead
unopened-kept {written = written} {logged = logged} unopened kept =
    (passed-kept unopened.0 kept (Keeps-refl written) (Keeps-refl logged), unopened.1)

-- Between two moments bytes were read and none was taken, whatever was written and logged; and no read failed.
pub record OnlyReads (left0 left1 : Option (List ℕ)) (ahead0 ahead1 : Ahead) (failures0 failures1 : ℕ) : Type 0 where
  pub unopened : (past : StreamBytes) (written logged : Option (List ℕ))
      → IsUnopenedYet past (stream_bytes left0 written logged) ahead0
      → IsUnopenedYet past (stream_bytes left1 written logged) ahead1
  pub failures : failures1 ≡ failures0

-- a session that stops before it is opened
pub unopened-stopped : {start : Setup} {past now : StreamBytes} {ahead : Ahead} {stop : Stop}
    → IsUnopenedYet past now ahead → (stop ≡ stops.NoMemory) ⊎ (stop ≡ stops.Io streams.Reader)
    → Stops start past now stop None
unfolding sent_by
unopened-stopped {start} {past} {now} {ahead} unopened why = elim why [
  | inl memory ↦ subst (λ (s : Stop). Stops start past now s None) (sym memory) (by (refl, inl (refl, refl)))
  | inr reader ↦ subst (λ (s : Stop). Stops start past now s None) (sym reader) (by (refl, refl))
]
  where
    by : {stop : Stop} → IsWrittenSoFar start [] [] [] (ended_by stop) → Stops start past now stop None
    by so_far =
        stops-by unopened.0 [] ahead.held tt refl so_far
        (leaves-by unopened.0 [] ahead.held tt refl ([], refl) (inl (refl, refl)) refl)

-- where no packet is in front yet there is room for more bytes
pub waits-room : (bytes : List ℕ) (found : Option First) → IsInFront bytes found → found ≡ None
    → length bytes < input_limit
waits-room bytes found waits is = omega (arith, none-leaves_room Client bytes (subst (IsInFront bytes) is waits))

-- a call returns the stop of the call that it made
pub stopped-so : {A : Type 0} (result : Result A Stop) (P : A → Type 0) (Q : Stop → Type 0) (stop : Stop)
    → IsErrAnd result (λ y. y ≡ stop) → Q stop → MatchResult result P Q
stopped-so (Ok value) P Q stop is holds = absurd is
stopped-so (Err error) P Q stop is holds = subst Q (sym is) holds

-- ---- the first packet

-- what a packet in front is
pub first-greeting : (bytes : List ℕ) (packet : Packet) (count : ℕ) (first : First)
    → front_of Client bytes ≡ Ok (Some (packet, count)) → StandsInFront Client bytes packet count
    → IsGreetingOf packet count first → IsFirst bytes ⊥ first
first-greeting bytes packet count (firsts.Init taken) found stands is = record {
  init = packet;
  greeting = (is.0, stands.has_spelling);
  rest = drop count bytes;
  bytes_are = stands.is_spelled;
  count_is = is.1 ∙ stands.is_whole;
}
first-greeting bytes packet count (firsts.Fault faults.BadInit) found stands is =
    inr (subst IsNoGreeting (sym found) is)
first-greeting bytes packet count other found stands is = absurd is

-- the same, as a call finds it
pub first-found : (bytes held : List ℕ) (front : Option (Packet × ℕ)) (packet : Packet) (count : ℕ) (first : First)
    → held ≡ bytes → front_of Client held ≡ Ok front → IfSome front (λ f. StandsInFront Client held f.0 f.1)
    → front ≡ Some (packet, count) → IsGreetingOf packet count first → IsFirst bytes ⊥ first
first-found bytes held front packet count first is found stands front_is greets =
    let whole : IfSome {T = Packet × ℕ} (Some (packet, count)) (λ f. StandsInFront Client held f.0 f.1) =
    subst (λ (f : Option (Packet × ℕ)). IfSome f (λ f. StandsInFront Client held f.0 f.1)) front_is stands in
    subst (λ (bytes : List ℕ). IsFirst bytes ⊥ first) is
    (first-greeting held packet count first (found ∙ ap Ok front_is) whole greets)

-- ---- INIT is logged

pub init-client : (packet : Packet) → IsInit packet → side_of packet ≡ Client
init-client (Init version extensions) is = refl
init-client (Version version extensions) is = absurd is
init-client (Request request) is = absurd is
init-client (Reply reply) is = absurd is

pub init-sent : (init : Packet) → IsInit init → sent_by Client (init ∷ []) ≡ spelling init
init-sent init is =
    sent-one Client init ∙ ap (λ (side : Side). spelled_if Client side (spelling init)) (init-client init is)

pub init-silent : (init : Packet) → IsInit init → sent_by Server (init ∷ []) ≡ []
init-silent init is =
    sent-one Server init ∙ ap (λ (side : Side). spelled_if Server side (spelling init)) (init-client init is)

pub init-recorded : (init : Packet) → recorded (init ∷ []) ≡ opened_text 0 (record_text init)
init-recorded init = ap (λ (text : List ℕ). transcript_opening ++ text) (append-nil (record_text init))

-- the bytes of INIT, and those after it
pub init-taken : (bytes : List ℕ) (count : ℕ) → (greets : BeginsWithGreeting bytes count)
    → (take count bytes ≡ spelling greets.init) × (drop count bytes ≡ greets.rest) × (count ≤ length bytes)
init-taken bytes count greets =
    let len : length (spelling greets.init) ≡ count = sym greets.count_is in (
      ap (take count) greets.bytes_are ∙ take_at (spelling greets.init) greets.rest count len,
      ap (drop count) greets.bytes_are ∙ drop_at (spelling greets.init) greets.rest count len,
      omega (arith, ap length greets.bytes_are, length-append (spelling greets.init) greets.rest),
    )

-- INIT is logged and taken, and nothing was written
pub record IsInitLogged (init : Packet) (past now : StreamBytes) (ahead : Ahead) : Type 0 where
  pub greeting : IsGreeting init
  pub passed : Passed past now (sent_by Client (init ∷ []) ++ ahead.held) (sent_by Server (init ∷ []))
      (recorded (init ∷ []))
  pub place : ahead.place ≡ place_after 0 (length (sent_by Client (init ∷ [])))

init-read : (bytes : List ℕ) (count : ℕ) → (greets : BeginsWithGreeting bytes count)
    → bytes ≡ sent_by Client (greets.init ∷ []) ++ drop count bytes
init-read bytes count greets =
    greets.bytes_are ∙ ap (λ (rest : List ℕ). spelling greets.init ++ rest) (sym (init-taken bytes count greets).1)
    ∙ ap (λ (front : List ℕ). front ++ drop count bytes) (sym (init-sent greets.init greets.greeting.0))

pub init-logged : {past : StreamBytes} {left written logged0 logged1 : Option (List ℕ)} {ahead : Ahead} {count : ℕ}
    → (greets : BeginsWithGreeting ahead.held count) → IsUnopenedYet past (stream_bytes left written logged0) ahead
    → Appends logged0 logged1 (opened_text 0 (record_text greets.init))
    → IsInitLogged greets.init past (stream_bytes left written logged1) (ahead_without count ahead)
init-logged {past} {left} {written} {logged0} {logged1} {ahead} {count} greets unopened logged =
    let init = greets.init in
    let is = greets.greeting.0 in
    record {
      greeting = greets.greeting;
      passed = record {
        read = subst (Consumes past.left left) (init-read ahead.held count greets) unopened.0.read;
        written = subst (Appends past.written written) (sym (init-silent init is)) unopened.0.written;
        logged = subst (Appends past.logged logged1) (sym (init-recorded init))
            (Appends-trans past.logged logged0 logged1 [] _ unopened.0.logged logged);
      };
      place = ap (λ (place : ℕ). place_after place count) unopened.1
          ∙ ap (place_after 0) (greets.count_is ∙ ap length (sym (init-sent init is)));
    }

-- the tree of a session in which no request was done
abbrev pub first_left : Setup → Option Tree
first_left start = tree_left (at_start (started start.tree) window)

nothing-done : (start : Setup) (init : Packet) → IsLeftAfter start.tree (init ∷ []) (first_left start)
unfolding AreDone exchanges_of
nothing-done start init = (
  [],
  refl,
  record { last = started start.tree; leads = record { done = []; are_done = refl; run = refl }; end_is = refl },
)

-- the log fails in its record
pub init-unlogged : {start : Setup} {past : StreamBytes} {left written logged0 logged1 : Option (List ℕ)}
    {ahead : Ahead} {count : ℕ} → (greets : BeginsWithGreeting ahead.held count)
    → IsUnopenedYet past (stream_bytes left written logged0) ahead
    → AppendsPart logged0 logged1 (opened_text 0 (record_text greets.init))
    → Stops start past (stream_bytes left written logged1) (stops.Io streams.Log) (first_left start)
init-unlogged {start} {past} {left} {written} {logged0} {logged1} {ahead} {count} greets unopened logged =
    let init = greets.init in
    let passed : Passed past (stream_bytes left written logged1) ahead.held [] logged.part =
    record {
      read = unopened.0.read;
      written = unopened.0.written;
      logged = Appends-trans past.logged logged0 logged1 [] logged.part unopened.0.logged logged.appended;
    } in
    let cut : IsCutInLast (init ∷ []) logged.part =
    inr ([], init, logged.part, refl, (logged.rest, logged.parts), refl) in
    let silent = init-silent init greets.greeting.0 in
    let read = init-read ahead.held count greets in
    let rest = drop count ahead.held in
    stops-by passed (init ∷ []) rest greets.greeting read (sym silent, cut)
    (leaves-by passed (init ∷ []) rest greets.greeting read ([], silent) cut (nothing-done start init))

-- memory runs out after it
pub init-no_memory : {start : Setup} {init : Packet} {past now : StreamBytes} {ahead : Ahead}
    → IsInitLogged init past now ahead → Stops start past now stops.NoMemory (first_left start)
init-no_memory {start} {init} {ahead = ahead} logged =
    stops-by logged.passed (init ∷ []) ahead.held logged.greeting refl (refl, cut-whole (init ∷ []))
    (leaves-by logged.passed (init ∷ []) ahead.held logged.greeting refl (is-beginning (sent_by Server (init ∷ [])))
    (cut-whole (init ∷ [])) (nothing-done start init))

-- ---- VERSION

pub version-server : (packet : Packet) → IsVersion packet → side_of packet ≡ Server
version-server (Init version extensions) is = absurd is
version-server (Version version extensions) is = refl
version-server (Request request) is = absurd is
version-server (Reply reply) is = absurd is

-- no events begin an explained session
pub none-begin : (start : State) → BeginsFrom Allowed start []
unfolding turn_after in_window exchanges_of leading_pairs
none-begin start = record {
  more = [];
  end = start;
  recordable = tt;
  explained = record { matching = λ id. refl; within_window = refl; run = refl };
}

pub version-listed : (start : Setup) (init : Packet) → IsGreeting init → IsListed start (init ∷ start.version ∷ [])
version-listed start init greeting = (greeting, refl, [], refl, tt, none-begin (settled start.tree []))

-- VERSION was sent
version-sent : {start : Setup} {init : Packet} {past : StreamBytes}
    {left written0 written1 logged0 logged1 : Option (List ℕ)} {ahead : Ahead} → side_of start.version ≡ Server
    → Good (started start.tree) → IsInitLogged init past (stream_bytes left written0 logged0) ahead
    → Appends written0 written1 (spelling start.version) → Appends logged0 logged1 (record_text start.version)
    → IsRunning start past (stream_bytes left written1 logged1) ahead (at_start (started start.tree) window) None
version-sent {start} {init} {past} {left} {written0} {written1} {logged0} {logged1} {ahead} server good logged written
    recorded_too =
    let silent = sym (client-silent (init ∷ []) start.version server) in
    record {
      init = init;
      events = [];
      good = good;
      greeting = logged.greeting;
      spelled = tt;
      reached = reached-start (started start.tree) window;
      passed = record {
        read = subst (λ (input : List ℕ). Consumes past.left left (input ++ ahead.held)) silent logged.passed.read;
        written = subst (Appends past.written written1) (sym (server-sent (init ∷ []) start.version server))
            (Appends-trans past.written written0 written1 _ _ logged.passed.written written);
        logged = subst (Appends past.logged logged1) (sym (recorded-more init [] start.version))
            (Appends-trans past.logged logged0 logged1 _ _ logged.passed.logged recorded_too);
      };
      place = logged.place ∙ ap (λ (sent : List ℕ). place_after 0 (length sent)) silent;
      found = tt;
    }

-- VERSION was sent, or could not be
pub version-done : {init : Packet} {past : StreamBytes} {left written0 : Option (List ℕ)} {log0 : Log} {ahead : Ahead}
    {packet : Packet} (start : Setup) (written1 : Option (List ℕ)) (log1 : Log) (result : Result (Unit {0}) Stop)
    → side_of start.version ≡ Server → Good (started start.tree) → packet ≡ start.version → IsLogging log0
    → IsInitLogged init past (stream_bytes left written0 log0.bytes) ahead
    → OnOk result (Appends written0 written1 (spelling packet))
    → OnOk result (Appends log0.bytes log1.bytes (record_text packet))
    → IfErr result (λ stop. FailsToSend packet written0 written1 log0 log1 stop)
    → MatchResult result
    (λ _. IsRunning start past (stream_bytes left written1 log1.bytes) ahead (at_start (started start.tree) window)
    None)
    (λ stop. Stops start past (stream_bytes left written1 log1.bytes) stop (first_left start))
version-done {written0 = written0} {log0 = log0} start written1 log1 (Ok done) server good is logging logged written
    recorded_too fails =
    version-sent server good logged (subst (λ (p : Packet). Appends written0 written1 (spelling p)) is written)
    (subst (λ (p : Packet). Appends log0.bytes log1.bytes (record_text p)) is recorded_too)
version-done {init} {past} {left} {written0} {log0} {ahead} start written1 log1 (Err stop) server good is logging logged
    written recorded_too fails =
    stopped-sending start past left written0 written1 log0 log1 init [] start.version ahead.held (first_left start)
    logging logged.greeting (version-listed start init logged.greeting) server logged.passed
    (nothing-done start init) (nothing-done start init) stop
    (subst (λ (p : Packet). FailsToSend p written0 written1 log0 log1 stop) is fails)
