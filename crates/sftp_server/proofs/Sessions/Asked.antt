-- A request is taken in a running session, or a fault is found in front.
use Rattle.sftp_server.proofs.Imports.{◌≡◌, ◌<◌, ◌≤◌, ◌⊎◌, ℕ, ◌+◌, List, [], ◌∷◌, ◌++◌, length, take, drop, Option}
use Rattle.sftp_server.proofs.Imports.{Some, None, Result, Ok, Err, IfOk, IfErr, OnOk, OnErr, IsTrue, inl, inr, refl}
use Rattle.sftp_server.proofs.Imports.{sym, ap, ◌∙◌, subst, subst₂, arith, append_assoc, Appends, Consumes}
use Rattle.sftp_server.proofs.Imports.{AllByRecursion, Appends-trans, length-append, take_at, Packet, request_packet}
use Rattle.sftp_server.proofs.Imports.{Request, Client, Server, spelling, HasSpelling, place_after, StandsInFront}
use Rattle.sftp_server.proofs.Imports.{length-spelling, TranscriptError, Io, Event, Asked, AppendsPart, Log, IsAppended}
use Rattle.sftp_server.proofs.Imports.{FailsToRecord, record_text, IsEvent, window, State, SessionFault, Stop}
use Rattle.sftp_server.proofs.Imports.{Front, Refuse, Machine, taken, can_take, is_unsent, started, IsValue, IsReached}
use Rattle.sftp_server.proofs.Imports.{fault_of, found_refused, TakesOn, session_packets, sent_by, recorded, IsListed}
use Rattle.sftp_server.proofs.Imports.{IsBeginning, IsCutInLast, StreamBytes, stream_bytes, Passed, Stops, tree_left}
use Rattle.sftp_server.proofs.Imports.{IsLogging, Ahead, IsRunning, IsFaultAhead, all_more, ahead_without}
use Rattle.sftp_packets.proofs.PacketLaws.{encoded-ask}
use Rattle.sftp_handles.proofs.TotalSteps.PathReplies.{spelled-askable}
use Rattle.sftp_server.specs.declared.ends.SessionFault.TheVariants as faults
use Rattle.sftp_server.specs.declared.ends.Stop.TheVariants as stops
use Rattle.sftp_server.specs.declared.ends.Stream.TheVariants as streams
use Rattle.sftp_server.specs.declared.taking.Front.TheVariants.{Taken, Fault}
use Rattle.sftp_server.specs.declared.refusals.Refuse.TheVariants as refusals
use Rattle.sftp_server.proofs.Machines.Laws.{reached-taken}
use Rattle.sftp_server.proofs.Sessions.{asked-session, session-more}
use Rattle.sftp_server.proofs.Sessions.{no-opening, reached-begins, reached-leaves, is-beginning}
use Rattle.sftp_server.proofs.Sessions.{stopped-no-memory, running-on, stops-by, leaves-by}
use Rattle.sftp_server.specs.Served.{Setup}

-- what holds of a request that can be encoded
pub request-value : (request : Request) → HasSpelling (request_packet request) → IsValue request
request-value request spelled = record {
  askable = spelled-askable request spelled;
  ask = encoded-ask request.ask spelled.fields.1;
}

-- two steps are one
place-more : (first second : ℕ) → place_after (place_after 0 first) second ≡ place_after 0 (first + second)
place-more first second = omega arith

-- ---- the log

-- where the log fails for the first time, a beginning of the record was appended
pub breaks : (log0 log1 : Log) (text : List ℕ) (error : TranscriptError) → IsLogging log0
    → FailsToRecord log0 text error log1 → AppendsPart log0.bytes log1.bytes text
breaks log0 log1 text (Io place) logging (inl broken) = absurd cc
breaks log0 log1 text (Io place) logging (inr fails) =
    subst (AppendsPart log0.bytes log1.bytes) (no-opening log0.records text logging.begun) fails.1.bytes
breaks log0 log1 text other logging fails = absurd fails

-- the record was appended, with no opening
appended : (log0 log1 : Log) (text : List ℕ) → IsLogging log0 → IsAppended log0 text log1
    → Appends log0.bytes log1.bytes text
appended log0 log1 text logging is =
    subst (Appends log0.bytes log1.bytes) (no-opening log0.records text logging.begun) is.bytes

-- ---- a request

module _ (start : Setup) (past : StreamBytes) (left written : Option (List ℕ)) (log0 log1 : Log) (ahead : Ahead)
    (core : Machine State) (request : Request) (count : ℕ)
    (running : IsRunning start past (stream_bytes left written log0.bytes) ahead core None)
    (front : StandsInFront Client ahead.held (request_packet request) count) (can : IsTrue (can_take core request))
    (logging : IsLogging log0) where
  abbrev events : List Event
  events = running.events ++ Asked request ∷ []

  abbrev before : List Packet
  before = session_packets start running.init running.events

  abbrev after : List Packet
  after = session_packets start running.init events

  spelled-more : AllByRecursion IsEvent events
  spelled-more = all_more running.events (Asked request) running.spelled front.has_spelling

  reached-more : IsReached (started start.tree) window events (taken core request)
  reached-more =
      reached-taken (started start.tree) window running.events core request running.reached
      (request-value request front.has_spelling) can

  -- the packets of the client and the rest are the same bytes as before
  read-more : sent_by Client before ++ ahead.held ≡ sent_by Client after ++ drop count ahead.held
  read-more =
      let spelled : List ℕ = spelling (request_packet request) in
      let rest : List ℕ = drop count ahead.held in
      ap (λ (l : List ℕ). sent_by Client before ++ l) front.is_spelled
      ∙ sym (append_assoc (sent_by Client before) spelled rest)
      ∙ ap (λ (l : List ℕ). l ++ rest) (sym (asked-session start running.init running.events request).client)

  -- a request was taken
  pub asked : IsAppended log0 (record_text (request_packet request)) log1
      → IsRunning start past (stream_bytes left written log1.bytes) (ahead_without count ahead) (taken core request)
      None
  asked logged =
      let session = asked-session start running.init running.events request in
      record {
        init = running.init;
        events = events;
        good = running.good;
        greeting = running.greeting;
        spelled = spelled-more;
        reached = reached-more;
        passed = record {
          read = subst (Consumes past.left left) read-more running.passed.read;
          written = subst (Appends past.written written) (sym session.server) running.passed.written;
          logged =
              subst (Appends past.logged log1.bytes) (sym session.log)
              (Appends-trans past.logged log0.bytes log1.bytes _ _ running.passed.logged
              (appended log0 log1 (record_text (request_packet request)) logging logged));
        };
        place =
            ap (λ (n : ℕ). place_after n count) running.place
            ∙ place-more (length (sent_by Client before)) count
            ∙ ap (place_after 0)
            (ap (λ (n : ℕ). length (sent_by Client before) + n) front.is_whole
            ∙ sym (length-append (sent_by Client before) (spelling (request_packet request)))
            ∙ ap length (sym session.client));
        found = tt;
      }

  -- memory ran out once the request was logged
  pub asked-no-memory : IsAppended log0 (record_text (request_packet request)) log1
      → Stops start past (stream_bytes left written log1.bytes) stops.NoMemory (tree_left core)
  asked-no-memory logged = stopped-no-memory (asked logged)

  -- the log failed in the record of the request
  pub asked-in-part : AppendsPart log0.bytes log1.bytes (record_text (request_packet request))
      → Stops start past (stream_bytes left written log1.bytes) (stops.Io streams.Log) (tree_left core)
  asked-in-part fails =
      let session = asked-session start running.init running.events request in
      let passed : Passed past (stream_bytes left written log1.bytes) (sent_by Client before ++ ahead.held)
      (sent_by Server before) (recorded before ++ fails.part) =
      record {
        read = running.passed.read;
        written = running.passed.written;
        logged =
            Appends-trans past.logged log0.bytes log1.bytes (recorded before) fails.part running.passed.logged
            fails.appended;
      } in
      let listed : IsListed start after = (
        running.greeting,
        refl,
        events,
        refl,
        spelled-more,
        reached-begins start events (taken core request) running.good reached-more,
      ) in
      let cut : IsCutInLast after (recorded before ++ fails.part) =
      inr (
        before,
        request_packet request,
        fails.part,
        session-more start running.init running.events (Asked request ∷ []),
        (fails.rest, fails.parts),
        refl,
      ) in
      stops-by passed after (drop count ahead.held) listed read-more (sym session.server, cut)
      (leaves-by passed after (drop count ahead.held) listed read-more
      (subst (IsBeginning (sent_by Server before)) (sym session.server) (is-beginning (sent_by Server before))) cut
      (reached-leaves start running.init events (taken core request) running.good reached-more))

-- ---- the bytes of a packet in front

module _ (bytes : List ℕ) (packet : Packet) (count : ℕ) (front : StandsInFront Client bytes packet count) where
  whole-length : length bytes ≡ count + length (drop count bytes)
  whole-length =
      ap length front.is_spelled
      ∙ length-append (spelling packet) (drop count bytes)
      ∙ ap (λ (n : ℕ). n + length (drop count bytes)) (sym front.is_whole)

  -- some bytes are taken
  pub bytes-fall : length (drop count bytes) < length bytes
  bytes-fall = omega (arith, whole-length, front.is_whole, length-spelling packet)

  pub bytes-in-front : take count bytes ≡ spelling packet
  bytes-in-front =
      ap (take count) front.is_spelled ∙ take_at (spelling packet) (drop count bytes) count (sym front.is_whole)

-- ---- what calls that take requests do

-- memory ran out before anything was done
pub takes-no-memory : (ahead : Ahead) (core : Machine State) (logged : Option (List ℕ))
    → TakesOn ahead ahead core core logged logged (Err stops.NoMemory)
takes-no-memory ahead core logged = λ start past left written running. stopped-no-memory running

-- a fault was found
pub takes-fault : (ahead : Ahead) (core : Machine State) (logged : Option (List ℕ)) (fault : SessionFault)
    → ((events : List Event) → IsFaultAhead events core.queue ahead.held ahead.place (Some fault))
    → TakesOn ahead ahead core core logged logged (Ok (Fault fault))
takes-fault ahead core logged fault found =
    λ start past left written running. running-on running running.passed refl (found running.events)

-- the core refuses the request
pub takes-refused : (ahead : Ahead) (core : Machine State) (logged : Option (List ℕ)) (request : Request) (count : ℕ)
    (refuse : Refuse) → StandsInFront Client ahead.held (request_packet request) count
    → (Some refuse ≡ Some refusals.IdInUse → IsTrue (is_unsent request.id core.queue))
    → TakesOn ahead ahead core core logged logged (found_refused request.id refuse)
takes-refused ahead core logged request count refusals.Full front unsent =
    λ start past left written running. running
takes-refused ahead core logged request count refusals.IdInUse front unsent =
    takes-fault ahead core logged (faults.IdInUse request.id) (λ events. (
      record {
        request = request;
        rest = drop count ahead.held;
        spelled = front.has_spelling;
        bytes_are = front.is_spelled;
        same_id = refl;
      },
      inl (unsent refl),
    ))
takes-refused ahead core logged request count refusals.NoMemory front unsent = takes-no-memory ahead core logged

-- the request was logged, and then delivered, or memory ran out
pub takes-delivered : (ahead0 ahead1 : Ahead) (core0 core1 : Machine State) (log0 log1 : Log) (request : Request)
    (count : ℕ) (result : Result Front Stop) → StandsInFront Client ahead0.held (request_packet request) count
    → IsTrue (can_take core0 request) → IsLogging log0 → IsAppended log0 (record_text (request_packet request)) log1
    → IfOk result (λ front. front ≡ Taken) → OnOk result (core1 ≡ taken core0 request)
    → OnOk result (ahead1 ≡ ahead_without count ahead0) → IfErr result (λ stop. stop ≡ stops.NoMemory)
    → OnErr result (core1 ≡ core0) → TakesOn ahead0 ahead1 core0 core1 log0.bytes log1.bytes result
takes-delivered ahead0 ahead1 core0 core1 log0 log1 request count (Ok found) front can logging logged ok took moved
    err kept =
    λ start past left written running.
    let now : StreamBytes = stream_bytes left written log1.bytes in
    subst (λ (f : Front). IsRunning start past now ahead1 core1 (fault_of f)) (sym ok)
    (subst₂ (λ (a : Ahead) (m : Machine State). IsRunning start past now a m None) (sym moved) (sym took)
    (asked start past left written log0 log1 ahead0 core0 request count running front can logging logged))
takes-delivered ahead0 ahead1 core0 core1 log0 log1 request count (Err stop) front can logging logged ok took moved
    err kept =
    λ start past left written running.
    subst₂ (λ (s : Stop) (m : Machine State). Stops start past (stream_bytes left written log1.bytes) s (tree_left m))
    (sym err) (sym kept)
    (asked-no-memory start past left written log0 log1 ahead0 core0 request count running front can logging logged)

-- a request that was delivered takes bytes
pub delivered-falls : (ahead0 ahead1 : Ahead) (packet : Packet) (count : ℕ) (result : Result Front Stop)
    → StandsInFront Client ahead0.held packet count → OnOk result (ahead1 ≡ ahead_without count ahead0)
    → OnOk result (length ahead1.held < length ahead0.held)
delivered-falls ahead0 ahead1 packet count (Ok found) front moved =
    subst (λ (a : Ahead). length a.held < length ahead0.held) (sym moved)
    (bytes-fall ahead0.held packet count front)
delivered-falls ahead0 ahead1 packet count (Err stop) front moved = tt

-- the log failed
pub takes-unlogged : (ahead : Ahead) (core : Machine State) (log0 log1 : Log) (request : Request) (count : ℕ)
    (error : TranscriptError) → StandsInFront Client ahead.held (request_packet request) count
    → IsTrue (can_take core request) → IsLogging log0
    → FailsToRecord log0 (record_text (request_packet request)) error log1
    → TakesOn ahead ahead core core log0.bytes log1.bytes (Err (stops.Io streams.Log))
takes-unlogged ahead core log0 log1 request count error front can logging fails =
    λ start past left written running.
    asked-in-part start past left written log0 log1 ahead core request count running front can logging
    (breaks log0 log1 (record_text (request_packet request)) error logging fails)

-- ---- calls one after the other

-- What holds after some calls that each took a request: the log did not fail, and the core changed only if bytes were
-- taken.
pub record HasTaken (ahead0 ahead1 : Ahead) (core0 core1 : Machine State) (log0 log1 : Log) : Type 0 where
  pub running : TakesOn ahead0 ahead1 core0 core1 log0.bytes log1.bytes (Ok Taken)
  pub logging : IsLogging log1
  pub failures : log1.failures ≡ log0.failures
  pub never_rises : length ahead1.held ≤ length ahead0.held
  pub falls : (length ahead1.held < length ahead0.held) ⊎ (core1 ≡ core0)
