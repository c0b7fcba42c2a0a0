-- A session reads on, or comes to its end.
use Rattle.sftp_server.proofs.Imports.{◌≡◌, ◌≢◌, ◌==◌, ◌+◌, ◌*◌, ℕ, Bool, true, false, List, [], ◌∷◌, ◌++◌, length}
use Rattle.sftp_server.proofs.Imports.{Option, Some, None, Ok, refl, sym, ap, ◌∙◌, subst, subst₂, append_assoc}
use Rattle.sftp_server.proofs.Imports.{append-nil, inl, inr, true≢false, arith, eqb-true, Consumes, IsAtEnd, Keeps}
use Rattle.sftp_server.proofs.Imports.{Consumes-trans, Unreadable, Client, Server, front_of, Event, window, Tree}
use Rattle.sftp_server.proofs.Imports.{State, SessionFault, Stop, Entry, Machine, is_unsent, started, session_packets}
use Rattle.sftp_server.proofs.Imports.{sent_by, recorded, EndsSession, IsUnopenedBy, IsOpened, IsServed, closed_tree}
use Rattle.sftp_server.proofs.Imports.{StreamBytes, stream_bytes, Passed, Leaves, Ahead, IsRunning}
use Rattle.sftp_server.proofs.Imports.{IsFaultAhead, IsUnopenedYet, Stops, tree_left, Keeps-refl, input_limit, ◌≤◌}
use Rattle.sftp_server.proofs.Imports.{map, flat_map, Packet, Init, HasSpelling}
use Rattle.sftp_server.proofs.Imports.{packet_of, record_text, IsGreeting, ◌<◌, Err, SendsOn}
use Rattle.sftp_packets.specs.declared.packets.Packet.TheVariants.{Version}
use Rattle.sftp_server.specs.Ending.{closed_end}
use Rattle.std.proofs.KnownBytes.{Consumes-nil, Appends-nil}
use Rattle.sftp_server.specs.Sessions.{IsEnding, ended_by, IsSessionEnd}
use Rattle.sftp_server.specs.declared.ends.Ended.TheVariants as ends
use Rattle.sftp_server.specs.declared.ends.Ended.{Ended}
use Rattle.sftp_server.specs.declared.ends.SessionEnd.{SessionEnd}
use Rattle.sftp_server.specs.declared.ends.SessionFault.TheVariants as faults
use Rattle.sftp_server.specs.declared.ends.Stream.TheVariants as streams
use Rattle.sftp_server.specs.declared.ends.Stop.TheVariants as stops
use Rattle.sftp_server.proofs.Machines.Laws.{explained}
use Rattle.sftp_server.proofs.Sessions.{stays-good, each-answered, running-on, running-kept, stopped-reader}
use Rattle.sftp_server.proofs.Sessions.{stopped-writer, stopped-log}
use Rattle.sftp_server.proofs.Sessions.Opened.{unopened-stopped}
use Rattle.sftp_server.specs.Served.{Setup, ServedFrom, ServesFrom}
use Rattle.sftp_server.specs.Left.{LeavesFrom}
use Rattle.sftp_transcript.specs.Transcript.{event_record, IsRecord, IsVersion}
use Rattle.sftp_server.specs.Ending.{Works, bytes_ahead}
use Rattle.sftp_server.proofs.Sessions.Replied.{sends-nothing}

-- ---- what streams passed

pub passed-nothing : (now : StreamBytes) → Passed now now [] [] []
passed-nothing now = record {
  read = Consumes-nil now.left;
  written = Appends-nil now.written;
  logged = Appends-nil now.logged;
}

-- ---- a session that runs on

abbrev ahead_of : List ℕ → ℕ → Ahead
ahead_of held place = record { held = held; place = place }

-- more was read
pub running-read : {start : Setup} {past : StreamBytes} {left0 left1 written logged : Option (List ℕ)} {ahead : Ahead}
    {core : Machine State} (more : List ℕ) → IsRunning start past (stream_bytes left0 written logged) ahead core None
    → Consumes left0 left1 more
    → IsRunning start past (stream_bytes left1 written logged) (ahead_of (ahead.held ++ more) ahead.place) core None
running-read {start} {past} {left0} {left1} {written} {logged} {ahead} more running read =
    let sent = sent_by Client (session_packets start running.init running.events) in
    running-on running (record {
      read = subst (Consumes past.left left1) (append_assoc sent ahead.held more)
          (Consumes-trans past.left left0 left1 (sent ++ ahead.held) more running.passed.read read);
      written = running.passed.written;
      logged = running.passed.logged;
    }) refl tt

-- so many bytes were read
abbrev pub HasRead : Option (List ℕ) → Option (List ℕ) → Ahead → Ahead → ℕ → Type 0
HasRead left0 left1 ahead0 ahead1 count =
    (more : List ℕ) × (length more ≡ count) × (ahead1 ≡ ahead_of (ahead0.held ++ more) ahead0.place)
    × Consumes left0 left1 more

no-bytes : (bytes : List ℕ) → length bytes ≡ 0 → bytes ≡ []
no-bytes [] none = refl
no-bytes (first ∷ bytes) none = absurd cc

pub nothing-read : (left0 left1 : Option (List ℕ)) {ahead0 ahead1 : Ahead} {count : ℕ}
    → HasRead left0 left1 ahead0 ahead1 count → count ≡ 0 → ahead1 ≡ ahead0
nothing-read left0 left1 {ahead0} read none =
    read.2 ∙ ap (λ (more : List ℕ). ahead_of (ahead0.held ++ more) ahead0.place) (no-bytes read.0 (read.1 ∙ none))
    ∙ ap (λ (held : List ℕ). ahead_of held ahead0.place) (append-nil ahead0.held)

-- a stream kept its bytes, and did not fail, or did
module _ {start : Setup} {past : StreamBytes} {left written logged : Option (List ℕ)} {ahead : Ahead}
    {core : Machine State} {fault : Option SessionFault}
    (running : IsRunning start past (stream_bytes left written logged) ahead core fault) where
  pub running-written : {later : Option (List ℕ)} → Keeps written later
      → IsRunning start past (stream_bytes left later logged) ahead core fault
  running-written kept = running-kept running (Keeps-refl left) kept (Keeps-refl logged)

  pub running-logged : {later : Option (List ℕ)} → Keeps logged later
      → IsRunning start past (stream_bytes left written later) ahead core fault
  running-logged kept = running-kept running (Keeps-refl left) (Keeps-refl written) kept

  pub reader-stops : {later : Option (List ℕ)} {stop : Stop} → Keeps left later → stop ≡ stops.Io streams.Reader
      → Stops start past (stream_bytes later written logged) stop (tree_left core)
  reader-stops {later} kept is =
      subst (λ (s : Stop). Stops start past (stream_bytes later written logged) s (tree_left core)) (sym is)
      (stopped-reader (running-kept running kept (Keeps-refl written) (Keeps-refl logged)))

  pub writer-stops : {later : Option (List ℕ)} {stop : Stop} → Keeps written later → stop ≡ stops.Io streams.Writer
      → Stops start past (stream_bytes left later logged) stop (tree_left core)
  writer-stops {later} kept is =
      subst (λ (s : Stop). Stops start past (stream_bytes left later logged) s (tree_left core)) (sym is)
      (stopped-writer (running-written kept))

  pub log-stops : {later : Option (List ℕ)} {stop : Stop} → Keeps logged later → stop ≡ stops.Io streams.Log
      → Stops start past (stream_bytes left written later) stop (tree_left core)
  log-stops {later} kept is =
      subst (λ (s : Stop). Stops start past (stream_bytes left written later) s (tree_left core)) (sym is)
      (stopped-log (running-logged kept))

-- what was written was passed on, and then bytes were read
pub running-more : {start : Setup} {past : StreamBytes} {left0 left1 written0 written1 logged : Option (List ℕ)}
    {ahead0 ahead1 : Ahead} {core : Machine State} {count : ℕ}
    → IsRunning start past (stream_bytes left0 written0 logged) ahead0 core None → Keeps written0 written1
    → HasRead left0 left1 ahead0 ahead1 count
    → IsRunning start past (stream_bytes left1 written1 logged) ahead1 core None
running-more {start} {past} {left0} {left1} {written0} {written1} {logged} {core = core} running kept read =
    subst (λ (a : Ahead). IsRunning start past (stream_bytes left1 written1 logged) a core None) (sym read.2)
    (running-read read.0 (running-written running kept) read.3)

-- ---- the end of a session

-- the fault in front ends the session, since nothing is unanswered
pub fault-ends : (events : List Event) (rest : List ℕ) (place : ℕ) (over : Type 0) (fault : SessionFault)
    → IsFaultAhead events [] rest place (Some fault) → EndsSession events rest place over fault
unfolding is_unsent
fault-ends events rest place over (faults.Wire (Unreadable fault at)) found = found
fault-ends events rest place over (faults.IdInUse id) found =
    (found.0, elim found.1 [ inl unsent ↦ absurd (true≢false (sym unsent)) | inr answered ↦ answered ])
fault-ends events rest place over faults.BadInit found = found
fault-ends events rest place over other found = absurd found

module _ {start : Setup} {past now : StreamBytes} {ahead : Ahead} {core : Machine State} where
  -- the session that found this fault ends, once each request is answered
  pub ending-fault : {fault : SessionFault} → IsRunning start past now ahead core (Some fault) → core.queue ≡ []
      → IsEnding start past now core (Some fault)
  ending-fault {fault} running answered =
      let found : IsFaultAhead running.events [] ahead.held ahead.place (Some fault) =
      subst (λ (queue : List Entry). IsFaultAhead running.events queue ahead.held ahead.place (Some fault)) answered
      running.found in
      record {
        ahead = ahead;
        running = running-on running running.passed refl tt;
        answered = answered;
        why = fault-ends running.events ahead.held ahead.place (IsAtEnd now.left) fault found;
      }

  -- the input ended after a whole packet
  pub ending-whole : IsRunning start past now ahead core None → core.queue ≡ [] → IsAtEnd now.left → ahead.held ≡ []
      → IsEnding start past now core None
  ending-whole running answered over none =
      record { ahead = ahead; running = running; answered = answered; why = (over, none) }

  -- the input ended inside a packet
  pub ending-cut : {at : ℕ} → IsRunning start past now ahead core None → core.queue ≡ [] → IsAtEnd now.left
      → ahead.held ≢ [] → front_of Client ahead.held ≡ Ok None → at ≡ ahead.place
      → IsEnding start past now core (Some (faults.Cut at))
  ending-cut running answered over some waits is =
      record { ahead = ahead; running = running; answered = answered; why = (over, some, waits, is) }

-- whether bytes are held
pub held-none : (held got : List ℕ) (empty : Bool) → got ≡ held → empty ≡ (length got == 0) → empty ≡ true → held ≡ []
held-none held got empty same is true_is = sym same ∙ no-bytes got (eqb-true (length got) 0 (sym is ∙ true_is))

pub held-some : (held got : List ℕ) (empty : Bool) → got ≡ held → empty ≡ (length got == 0) → empty ≡ false → held ≢ []
held-some held got empty same is false_is none =
    true≢false (sym (ap (λ (bytes : List ℕ). length bytes == 0) (same ∙ none)) ∙ sym is ∙ false_is)

-- ---- a session that has ended

module _ {start : Setup} {past now : StreamBytes} {core : Machine State} where
  served-by : {fault : Option SessionFault} (ending : IsEnding start past now core fault)
      → IsServed start.tree ending.running.events (closed_tree core.state)
  served-by ending =
      let running = ending.running in
      record {
        last = core.state;
        explained =
            explained stays-good each-answered (started start.tree) window running.events core running.good
            (omega arith) running.reached ending.answered;
        end_is = refl;
      }

  opened-by : {ahead : Ahead} {fault : Option SessionFault} (running : IsRunning start past now ahead core fault)
      → IsOpened start (sent_by Client (session_packets start running.init running.events) ++ ahead.held)
      (sent_by Server (session_packets start running.init running.events))
      (recorded (session_packets start running.init running.events)) running.init running.events ahead.held
  opened-by running = record {
    greeting = running.greeting;
    spelled = running.spelled;
    read = refl;
    written = refl;
    logged = refl;
  }

  served-closed : (fault : Option SessionFault) (ending : IsEnding start past now core fault)
      → let packets = session_packets start ending.running.init ending.running.events in
      ServedFrom start (sent_by Client packets ++ ending.ahead.held) (IsAtEnd now.left) (sent_by Server packets)
      (recorded packets) (closed_end core.state fault)
  served-closed None ending =
      let running = ending.running in
      let packets = session_packets start running.init running.events in
      record {
        init = running.init;
        events = running.events;
        opened = subst (IsOpened start (sent_by Client packets ++ ending.ahead.held) (sent_by Server packets)
            (recorded packets) running.init running.events) ending.why.1 (opened-by running);
        served = served-by ending;
        ended = ending.why.0;
      }
  served-closed (Some fault) ending =
      let running = ending.running in
      inr record {
        init = running.init;
        events = running.events;
        rest = ending.ahead.held;
        opened = opened-by running;
        served = served-by ending;
        broken = subst (λ (place : ℕ). EndsSession running.events ending.ahead.held place (IsAtEnd now.left) fault)
            running.place ending.why;
      }

  pub closed : {fault : Option SessionFault} → IsEnding start past now core fault
      → ServesFrom start past now (closed_end core.state fault)
  closed {fault} ending =
      let packets = session_packets start ending.running.init ending.running.events in
      record {
        input = sent_by Client packets ++ ending.ahead.held;
        output = sent_by Server packets;
        log = recorded packets;
        passed = ending.running.passed;
        served = served-closed fault ending;
      }

-- ---- a session that was not opened

pub unopened : (start : Setup) (past now : StreamBytes) (ahead : Ahead) (fault : SessionFault)
    → IsUnopenedYet past now ahead → IsUnopenedBy ahead.held (IsAtEnd now.left) fault
    → ServesFrom start past now (ends.Fault start.tree fault)
unopened start past now ahead fault yet by = record {
  input = ahead.held;
  output = [];
  log = [];
  passed = yet.0;
  served = inl record { by = by; nothing_written = refl; nothing_logged = refl; end_is = refl };
}

-- memory ran out before the first packet was logged
pub unopened-stops : {start : Setup} {past now : StreamBytes} {ahead : Ahead} {stop : Stop}
    → IsUnopenedYet past now ahead → stop ≡ stops.NoMemory → Stops start past now stop None
unopened-stops yet is = unopened-stopped yet (inl is)

-- ---- what a session leaves

leaves-at : {start : Setup} {past now : StreamBytes} {left : Option Tree} (stop : Stop) → Leaves start past now left
    → LeavesFrom start past now (ended_by stop) left
leaves-at (stops.Io stream) leaves = leaves
leaves-at stops.NoMemory leaves = leaves

-- the session was stopped
pub stopped-end : {start : Setup} {past now : StreamBytes} {stop : Stop} {left : Option Tree} {end : SessionEnd}
    → end.ended ≡ ended_by stop → end.left ≡ left → Stops start past now stop left → IsSessionEnd start past now end
stopped-end {start} {past} {now} {stop} ended is stopped = (
  subst (ServesFrom start past now) (sym ended) stopped.served,
  subst₂ (LeavesFrom start past now) (sym ended) (sym is) (leaves-at stop stopped.leaves),
)

closed-leaves : (start : Setup) (past now : StreamBytes) (last : State) (fault : Option SessionFault)
    → LeavesFrom start past now (closed_end last fault) None
closed-leaves start past now last None = refl
closed-leaves start past now last (Some fault) = refl

-- the session ended by itself
pub closed-session : {start : Setup} {past now : StreamBytes} {core : Machine State} {fault : Option SessionFault}
    {ended : Ended} → ended ≡ closed_end core.state fault → IsEnding start past now core fault
    → IsSessionEnd start past now (record { ended = ended; left = None })
closed-session {start} {past} {now} {core} {fault} is ending = (
  subst (ServesFrom start past now) (sym is) (closed ending),
  subst (λ (e : Ended). LeavesFrom start past now e None) (sym is) (closed-leaves start past now core.state fault),
)

-- nothing was read yet
pub unopened-at_start : (now : StreamBytes) → IsUnopenedYet now now (record { held = []; place = 0 })
unopened-at_start now = (passed-nothing now, refl)

-- ---- a batch takes bytes, or the next read gives some

-- how much is left to take: reads that give bytes, each of at most as many as there is room for, and what is held
abbrev pub bytes_left : ℕ → ℕ → ℕ
bytes_left reads held = reads * (input_limit + 1) + held

-- ==== The log of a session is a transcript.

records-are : (events : List Event) → flat_map record_text (map packet_of events) ≡ flat_map event_record events
records-are [] = refl
records-are (event ∷ events) = ap (λ (bytes : List ℕ). record_text (packet_of event) ++ bytes) (records-are events)

-- a greeting by its parts
record GreetingParts (init : Packet) : Type 0 where
  version : ℕ
  extensions : List (List ℕ × List ℕ)
  high_enough : 3 ≤ version
  init_is : init ≡ Init version extensions

greeting-parts : (init : Packet) → IsGreeting init → GreetingParts init
greeting-parts (Init version extensions) greeting =
    record { version = version; extensions = extensions; high_enough = greeting.0; init_is = refl }
greeting-parts other greeting = absurd greeting.0

-- a VERSION 3 by its part
record VersionParts (version : Packet) : Type 0 where
  extensions : List (List ℕ × List ℕ)
  version_is : version ≡ Version 3 extensions

version-parts : (version : Packet) → IsVersion version → VersionParts version
version-parts (Version number extensions) is =
    record {
      extensions = extensions;
      version_is = ap (λ (n : ℕ). Version n extensions) (eqb-true number 3 is);
    }
version-parts other is = absurd is

pub log-is-transcript : (start : Setup) (input output log : List ℕ) (init : Packet) (events : List Event)
    (rest : List ℕ) → IsVersion start.version → HasSpelling start.version
    → IsOpened start input output log init events rest → IsRecord events log
log-is-transcript start input output log init events rest is spelled opened =
    let parts = greeting-parts init opened.greeting in
    let announced = version-parts start.version is in
    let packets = start.version ∷ map packet_of events in
    let more = flat_map record_text (map packet_of events) in
    record {
      opened = flat_map record_text (init ∷ packets);
      records = flat_map event_record events;
      opening = opened.logged;
      handshake = record {
        version = parts.version;
        asked = parts.extensions;
        told = announced.extensions;
        high_enough = parts.high_enough;
        init = subst HasSpelling parts.init_is opened.greeting.1;
        answer = subst HasSpelling announced.version_is spelled;
        bytes_are = ap (λ (p : Packet). record_text p ++ (record_text start.version ++ more)) parts.init_is
            ∙ ap (λ (p : Packet). record_text (Init parts.version parts.extensions) ++ (record_text p ++ more))
            announced.version_is
            ∙ ap (λ (bytes : List ℕ). record_text (Init parts.version parts.extensions)
            ++ (record_text (Version 3 announced.extensions) ++ bytes)) (records-are events);
      };
      spelled = opened.spelled;
      records_are = sym (append-nil (flat_map event_record events));
    }

-- ==== What a session does that follows a script.

-- memory ran out, and nothing changed
pub works-nothing : (core0 core1 : Machine State) → core1 ≡ core0 → Works core0 core1 (Err stops.NoMemory)
works-nothing core0 core1 same written logged =
    subst (λ (m : Machine State). SendsOn core0 m written written logged logged (Err stops.NoMemory)) (sym same)
    (sends-nothing core0 written logged)

-- the session goes on whatever fault was found in front
pub running-sound : {start : Setup} {past now : StreamBytes} {ahead : Ahead} {core : Machine State}
    {fault : Option SessionFault} → IsRunning start past now ahead core fault
    → IsRunning start past now ahead core None
running-sound running = running-on running running.passed refl tt

-- a read that gave bytes leaves less to take
pub ahead-falls : (reads0 reads1 : ℕ) (old new : Ahead) → reads1 < reads0 → length new.held ≤ input_limit
    → bytes_ahead reads1 new ≤ bytes_ahead reads0 old
ahead-falls reads0 reads1 old new fewer fits = omega (arith, fewer, fits)
