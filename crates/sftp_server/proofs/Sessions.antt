use Rattle.sftp_server.proofs.Imports.{◌≡◌, ℕ, List, [], ◌∷◌, ◌++◌, map, refl, sym, ap, ◌∙◌, append_assoc, append-nil}
use Rattle.sftp_server.proofs.Imports.{map-append, flat_map_more, Packet, request_packet, reply_packet, Request}
use Rattle.sftp_server.proofs.Imports.{Reply, Side, Client, Server, spelling, side_of, Event}
use Rattle.sftp_server.proofs.Imports.{Asked as asked_event, Replied as replied_event}
use Rattle.sftp_server.proofs.Imports.{packet_of, record_text, transcript_opening, session_packets, spelled_if}
use Rattle.sftp_server.proofs.Imports.{sent_by, recorded, ◌≢◌, Bool, if◌then◌else◌, Option, inl, inr}
use Rattle.sftp_server.proofs.Imports.{arith, ne_eqb, Keeps, Appends-trans, BeginsFrom, window, Log, opened_text}
use Rattle.sftp_server.proofs.Imports.{Tree, State, Good, settled, Allowed, SessionFault, Stop, Machine, started}
use Rattle.sftp_server.proofs.Imports.{IsReached, opened_record, IsListed, IsBeginning, IsCutInLast, closed_tree}
use Rattle.sftp_server.proofs.Imports.{StreamBytes, stream_bytes, Passed, IsAfterDone, IsLeftAfter, Leaves, IsLogging}
use Rattle.sftp_server.proofs.Imports.{Ahead, IsRunning, FailsToSend, Stops, tree_left, PathsLeadWell, Appends-kept}
use Rattle.sftp_server.proofs.Imports.{Consumes-kept, Keeps-refl, IsAtEnd, IsFaultAhead}
use Rattle.sftp_tree.proofs.Walks.{path-found}
use Rattle.sftp_handles.proofs.Good.GoodPaths.{allowed-good}
use Rattle.sftp_listing.proofs.FirstNames.{listing-fits}
use Rattle.sftp_handles.proofs.TotalSteps.PathReplies.{some-allowed}
use Rattle.sftp_server.specs.declared.ends.Stop.TheVariants as stops
use Rattle.sftp_server.specs.declared.ends.Stream.TheVariants as streams
use Rattle.sftp_server.proofs.Machines.Laws as core_laws
use Rattle.sftp_server.specs.Served.{Setup, IsStopped, IsWrittenSoFar, ServedFrom}
use Rattle.sftp_server.specs.Sessions.{ended_by}
pub mod Asked
pub mod Replied
pub mod Opened
pub mod Closed

-- ==== What the packets of a session and their records are with one event more.

-- ---- packets

pub sent-append : (side : Side) (a b : List Packet) → sent_by side (a ++ b) ≡ sent_by side a ++ sent_by side b
unfolding sent_by
sent-append side [] b = refl
sent-append side (packet ∷ a) b =
    let here = spelled_if side (side_of packet) (spelling packet) in
    ap (λ (l : List ℕ). here ++ l) (sent-append side a b) ∙ sym (append_assoc here (sent_by side a) (sent_by side b))

pub sent-one : (side : Side) (packet : Packet)
    → sent_by side (packet ∷ []) ≡ spelled_if side (side_of packet) (spelling packet)
unfolding sent_by
sent-one side packet = append-nil (spelled_if side (side_of packet) (spelling packet))

-- packets, and one more
pub sent-more : (side : Side) (packets : List Packet) (packet : Packet)
    → sent_by side (packets ++ packet ∷ []) ≡ sent_by side packets ++ spelled_if side (side_of packet) (spelling packet)
sent-more side packets packet =
    sent-append side packets (packet ∷ []) ∙ ap (λ (l : List ℕ). sent_by side packets ++ l) (sent-one side packet)

pub recorded-more : (first : Packet) (packets : List Packet) (packet : Packet)
    → recorded ((first ∷ packets) ++ packet ∷ []) ≡ recorded (first ∷ packets) ++ record_text packet
recorded-more first packets packet = sym (flat_map_more record_text transcript_opening (first ∷ packets) packet)

-- ---- a session

pub session-more : (start : Setup) (init : Packet) (events more : List Event)
    → session_packets start init (events ++ more) ≡ session_packets start init events ++ map packet_of more
session-more start init events more =
    ap (λ (l : List Packet). init ∷ start.version ∷ l) (map-append packet_of events more)

pub sent-session : (start : Setup) (side : Side) (init : Packet) (events : List Event) (event : Event)
    → sent_by side (session_packets start init (events ++ event ∷ []))
    ≡ sent_by side (session_packets start init events)
    ++ spelled_if side (side_of (packet_of event)) (spelling (packet_of event))
sent-session start side init events event =
    ap (sent_by side) (session-more start init events (event ∷ []))
    ∙ sent-more side (session_packets start init events) (packet_of event)

pub recorded-session : (start : Setup) (init : Packet) (events : List Event) (event : Event)
    → recorded (session_packets start init (events ++ event ∷ []))
    ≡ recorded (session_packets start init events) ++ record_text (packet_of event)
recorded-session start init events event =
    ap recorded (session-more start init events (event ∷ []))
    ∙ recorded-more init (start.version ∷ map packet_of events) (packet_of event)

-- what the client sent, what the server sent, and the record, with a request more
pub record AskedSession (start : Setup) (init : Packet) (events : List Event) (request : Request) : Type 0 where
  pub client : sent_by Client (session_packets start init (events ++ asked_event request ∷ []))
      ≡ sent_by Client (session_packets start init events) ++ spelling (request_packet request)
  pub server : sent_by Server (session_packets start init (events ++ asked_event request ∷ []))
      ≡ sent_by Server (session_packets start init events)
  pub log : recorded (session_packets start init (events ++ asked_event request ∷ []))
      ≡ recorded (session_packets start init events) ++ record_text (request_packet request)

pub asked-session : (start : Setup) (init : Packet) (events : List Event) (request : Request)
    → AskedSession start init events request
asked-session start init events request = record {
  client = sent-session start Client init events (asked_event request);
  server =
      sent-session start Server init events (asked_event request)
      ∙ append-nil (sent_by Server (session_packets start init events));
  log = recorded-session start init events (asked_event request);
}

-- the same with a reply more
pub record RepliedSession (start : Setup) (init : Packet) (events : List Event) (reply : Reply) : Type 0 where
  pub client : sent_by Client (session_packets start init (events ++ replied_event reply ∷ []))
      ≡ sent_by Client (session_packets start init events)
  pub server : sent_by Server (session_packets start init (events ++ replied_event reply ∷ []))
      ≡ sent_by Server (session_packets start init events) ++ spelling (reply_packet reply)
  pub log : recorded (session_packets start init (events ++ replied_event reply ∷ []))
      ≡ recorded (session_packets start init events) ++ record_text (reply_packet reply)

pub replied-session : (start : Setup) (init : Packet) (events : List Event) (reply : Reply)
    → RepliedSession start init events reply
replied-session start init events reply = record {
  client =
      sent-session start Client init events (replied_event reply)
      ∙ append-nil (sent_by Client (session_packets start init events));
  server = sent-session start Server init events (replied_event reply);
  log = recorded-session start init events (replied_event reply);
}

-- ==== A session that stops where a stream fails or memory runs out.

-- ---- a session that runs on as it is

-- the same core, at other streams, with other bytes ahead or another fault
abbrev pub running-on : {start : Setup} {past mid now : StreamBytes} {ahead0 ahead1 : Ahead} {core : Machine State}
    {fault0 fault1 : Option SessionFault} → (running : IsRunning start past mid ahead0 core fault0)
    → Passed past now (sent_by Client (session_packets start running.init running.events) ++ ahead1.held)
    (sent_by Server (session_packets start running.init running.events))
    (recorded (session_packets start running.init running.events)) → ahead1.place ≡ ahead0.place
    → IsFaultAhead running.events core.queue ahead1.held ahead1.place fault1
    → IsRunning start past now ahead1 core fault1
running-on running passed place found = record {
  init = running.init;
  events = running.events;
  good = running.good;
  greeting = running.greeting;
  spelled = running.spelled;
  reached = running.reached;
  passed = passed;
  place = place ∙ running.place;
  found = found;
}

-- streams that kept their bytes since
pub passed-kept : {past mid now : StreamBytes} {input output log : List ℕ} → Passed past mid input output log
    → Keeps mid.left now.left → Keeps mid.written now.written → Keeps mid.logged now.logged
    → Passed past now input output log
passed-kept {past} {mid} {now} {input} {output} {log} passed left written logged = record {
  read = Consumes-kept past.left mid.left now.left input passed.read left;
  written = Appends-kept past.written mid.written now.written output passed.written written;
  logged = Appends-kept past.logged mid.logged now.logged log passed.logged logged;
}

pub running-kept : {start : Setup} {past mid now : StreamBytes} {ahead : Ahead} {core : Machine State}
    {fault : Option SessionFault} → IsRunning start past mid ahead core fault → Keeps mid.left now.left
    → Keeps mid.written now.written → Keeps mid.logged now.logged → IsRunning start past now ahead core fault
running-kept running left written logged =
    running-on running (passed-kept running.passed left written logged) refl running.found

-- ---- what is reached begins an explained session

paths-lead : PathsLeadWell
paths-lead t kept follow path place bytes is =
    let found = path-found t follow path place kept bytes is in
    record { named = found.names; above = found.parent_stands }

-- a good state stays good
pub stays-good : core_laws.StaysGood
stays-good s request reply end good fit =
    allowed-good paths-lead s request reply end (listing-fits s.tree good.tree) good fit

-- each request has a reply
pub each-answered : core_laws.IsTotal
each-answered = some-allowed paths-lead

pub reached-begins : (start : Setup) (events : List Event) (core : Machine State) → Good (started start.tree)
    → IsReached (started start.tree) window events core → BeginsFrom Allowed (settled start.tree []) events
reached-begins start events core good reached =
    core_laws.begun stays-good each-answered (started start.tree) window events core good (omega arith) reached

pub begun : {start : Setup} {past now : StreamBytes} {ahead : Ahead} {core : Machine State}
    {fault : Option SessionFault} → (running : IsRunning start past now ahead core fault)
    → BeginsFrom Allowed (settled start.tree []) running.events
begun {start = start} {core = core} running = reached-begins start running.events core running.good running.reached

pub running-listed : {start : Setup} {past now : StreamBytes} {ahead : Ahead} {core : Machine State}
    {fault : Option SessionFault} → (running : IsRunning start past now ahead core fault)
    → IsListed start (session_packets start running.init running.events)
running-listed running =
    (running.greeting, refl, running.events, refl, running.spelled, begun running)

-- ---- whole records

-- the last of some packets
split-last : (first : Packet) (packets : List Packet)
    → (front : List Packet) × (last : Packet) × ((first ∷ packets) ≡ front ++ last ∷ [])
split-last first [] = ([], first, refl)
split-last first (second ∷ packets) =
    let rest = split-last second packets in
    (first ∷ rest.0, rest.1, ap (λ (ps : List Packet). first ∷ ps) rest.2)

pub recorded-behind : (front : List Packet) (last : Packet)
    → recorded (front ++ last ∷ []) ≡ recorded front ++ opened_record front last
recorded-behind [] last = ap (λ (text : List ℕ). transcript_opening ++ text) (append-nil (record_text last))
recorded-behind (first ∷ others) last = recorded-more first others last

-- records that are whole are cut nowhere
pub cut-whole : (packets : List Packet) → IsCutInLast packets (recorded packets)
cut-whole [] = inl (refl, refl)
cut-whole (first ∷ packets) =
    let split = split-last first packets in
    let last : List ℕ = opened_record split.0 split.1 in
    inr (
      split.0,
      split.1,
      last,
      split.2,
      ([], sym (append-nil last)),
      ap recorded split.2 ∙ recorded-behind split.0 split.1,
    )

-- ---- the tree of the requests done

pub after-done : (start : Setup) (events : List Event) (core : Machine State) → Good (started start.tree)
    → IsReached (started start.tree) window events core → IsAfterDone start.tree events (closed_tree core.state)
after-done start events core good reached =
    record {
      last = core.state;
      leads =
          core_laws.leads-to stays-good each-answered (started start.tree) window events core good (omega arith)
          reached;
      end_is = refl;
    }

-- a core that was reached leaves this tree
pub reached-leaves : (start : Setup) (init : Packet) (events : List Event) (core : Machine State)
    → Good (started start.tree) → IsReached (started start.tree) window events core
    → IsLeftAfter start.tree (session_packets start init events) (tree_left core)
reached-leaves start init events core good reached = (events, refl, after-done start events core good reached)

-- ---- a session that stops, by the packets that it read, wrote and logged

-- a whole is its own beginning
pub is-beginning : (whole : List ℕ) → IsBeginning whole whole
is-beginning whole = ([], sym (append-nil whole))

served-stopped : (start : Setup) (input output log : List ℕ) (over : Type 0) (stop : Stop)
    → IsStopped start input output log (ended_by stop) → ServedFrom start input over output log (ended_by stop)
served-stopped start input output log over (stops.Io stream) is = is
served-stopped start input output log over stops.NoMemory is = is

module _ {start : Setup} {past now : StreamBytes} {input output log : List ℕ}
    (passed : Passed past now input output log) where
  pub leaves-by : {left : Option Tree} (packets : List Packet) (rest : List ℕ) → IsListed start packets
      → input ≡ sent_by Client packets ++ rest → IsBeginning output (sent_by Server packets)
      → IsCutInLast packets log → IsLeftAfter start.tree packets left → Leaves start past now left
  leaves-by packets rest listed read written logged tree = record {
    input = input;
    output = output;
    log = log;
    passed = passed;
    is_left = record {
      packets = packets;
      rest = rest;
      listed = listed;
      read = read;
      written = written;
      logged = logged;
      tree = tree;
    };
  }

  pub stops-by : {stop : Stop} {left : Option Tree} (packets : List Packet) (rest : List ℕ) → IsListed start packets
      → input ≡ sent_by Client packets ++ rest → IsWrittenSoFar start packets output log (ended_by stop)
      → Leaves start past now left → Stops start past now stop left
  stops-by {stop} packets rest listed read so_far leaves = record {
    served = record {
      input = input;
      output = output;
      log = log;
      passed = passed;
      served = served-stopped start input output log (IsAtEnd now.left) stop
          (record { packets = packets; rest = rest; listed = listed; read = read; left = so_far });
    };
    leaves = leaves;
  }

-- ---- a session that stops between packets

module _ {start : Setup} {past now : StreamBytes} {ahead : Ahead} {core : Machine State} {fault : Option SessionFault}
    (running : IsRunning start past now ahead core fault) where
  abbrev packets : List Packet
  packets = session_packets start running.init running.events

  stopped : {stop : Stop}
      → IsWrittenSoFar start packets (sent_by Server packets) (recorded packets) (ended_by stop)
      → Stops start past now stop (tree_left core)
  stopped so_far =
      stops-by running.passed packets ahead.held (running-listed running) refl so_far
      (leaves-by running.passed packets ahead.held (running-listed running) refl (is-beginning (sent_by Server packets))
      (cut-whole packets) (reached-leaves start running.init running.events core running.good running.reached))

  pub stopped-no-memory : Stops start past now stops.NoMemory (tree_left core)
  stopped-no-memory = stopped (refl, cut-whole packets)

  pub stopped-reader : Stops start past now (stops.Io streams.Reader) (tree_left core)
  stopped-reader = stopped (refl, refl)

  pub stopped-writer : Stops start past now (stops.Io streams.Writer) (tree_left core)
  stopped-writer = stopped (refl, inl refl)

  pub stopped-log : Stops start past now (stops.Io streams.Log) (tree_left core)
  stopped-log = stopped (refl, cut-whole packets)

-- ---- a session that stops in a packet of the server

pub server-sent : (packets : List Packet) (packet : Packet) → side_of packet ≡ Server
    → sent_by Server (packets ++ packet ∷ []) ≡ sent_by Server packets ++ spelling packet
server-sent packets packet side =
    sent-more Server packets packet
    ∙ ap (λ (s : Side). sent_by Server packets ++ spelled_if Server s (spelling packet)) side

pub client-silent : (packets : List Packet) (packet : Packet) → side_of packet ≡ Server
    → sent_by Client (packets ++ packet ∷ []) ≡ sent_by Client packets
client-silent packets packet side =
    sent-more Client packets packet
    ∙ ap (λ (s : Side). sent_by Client packets ++ spelled_if Client s (spelling packet)) side
    ∙ append-nil (sent_by Client packets)

-- a record that is not the first has no opening before it
pub no-opening : (records : ℕ) (text : List ℕ) → records ≢ 0 → opened_text records text ≡ text
no-opening records text some =
    ap (λ (first : Bool). (if first then transcript_opening else []) ++ text) (ne_eqb records 0 some)

-- a beginning of the next packet was written
pub part-written : (packets : List Packet) (packet : Packet) (part : List ℕ) → side_of packet ≡ Server
    → IsBeginning part (spelling packet)
    → IsBeginning (sent_by Server packets ++ part) (sent_by Server (packets ++ packet ∷ []))
part-written packets packet part side begins = (
  begins.0,
  server-sent packets packet side ∙ ap (λ (bytes : List ℕ). sent_by Server packets ++ bytes) begins.1
      ∙ sym (append_assoc (sent_by Server packets) part begins.0),
)

-- some packets were written and logged, and the next could not be; the tree left is that after each of them
module _ (start : Setup) (past : StreamBytes) (left written0 written1 : Option (List ℕ)) (log0 log1 : Log)
    (first : Packet) (others : List Packet) (packet : Packet) (rest : List ℕ) (tree : Option Tree)
    (logging : IsLogging log0) (listed : IsListed start (first ∷ others))
    (more : IsListed start ((first ∷ others) ++ packet ∷ [])) (side : side_of packet ≡ Server)
    (passed : Passed past (stream_bytes left written0 log0.bytes) (sent_by Client (first ∷ others) ++ rest)
    (sent_by Server (first ∷ others)) (recorded (first ∷ others)))
    (leaves : IsLeftAfter start.tree (first ∷ others) tree)
    (leaves_more : IsLeftAfter start.tree ((first ∷ others) ++ packet ∷ []) tree) where
  abbrev so_far : List Packet
  so_far = first ∷ others

  abbrev now : StreamBytes
  now = stream_bytes left written1 log1.bytes

  read-more : sent_by Client so_far ++ rest ≡ sent_by Client (so_far ++ packet ∷ []) ++ rest
  read-more = ap (λ (l : List ℕ). l ++ rest) (sym (client-silent so_far packet side))

  pub stopped-sending : (stop : Stop) → FailsToSend packet written0 written1 log0 log1 stop
      → Stops start past now stop tree
  stopped-sending (stops.Io streams.Reader) fails = absurd fails
  stopped-sending (stops.Io streams.Writer) fails =
      let part = fails.0.part in
      let begun : IsBeginning part (spelling packet) = (fails.0.rest, fails.0.parts) in
      let all : Passed past now (sent_by Client so_far ++ rest) (sent_by Server so_far ++ part) (recorded so_far) =
      record {
        read = passed.read;
        written = Appends-trans past.written written0 written1 _ part passed.written fails.0.appended;
        logged = Appends-kept past.logged log0.bytes log1.bytes _ passed.logged fails.1;
      } in
      stops-by all so_far rest listed refl (refl, inr (packet, part, side, more, begun, refl))
      (leaves-by all (so_far ++ packet ∷ []) rest more read-more (part-written so_far packet part side begun)
      (inr (so_far, packet, [], refl, (opened_record so_far packet, refl), sym (append-nil (recorded so_far))))
      leaves_more)
  stopped-sending (stops.Io streams.Log) fails =
      let part = fails.1.part in
      let text = no-opening log0.records (record_text packet) logging.begun in
      let cut : IsCutInLast (so_far ++ packet ∷ []) (recorded so_far ++ part) =
      inr (so_far, packet, part, refl, (fails.1.rest, sym text ∙ fails.1.parts), refl) in
      let all : Passed past now (sent_by Client so_far ++ rest) (sent_by Server so_far ++ spelling packet)
      (recorded so_far ++ part) =
      record {
        read = passed.read;
        written = Appends-trans past.written written0 written1 _ (spelling packet) passed.written fails.0;
        logged = Appends-trans past.logged log0.bytes log1.bytes _ part passed.logged fails.1.appended;
      } in
      stops-by all (so_far ++ packet ∷ []) rest more read-more (sym (server-sent so_far packet side), cut)
      (leaves-by all (so_far ++ packet ∷ []) rest more read-more
      (part-written so_far packet (spelling packet) side (is-beginning (spelling packet))) cut leaves_more)
  stopped-sending stops.NoMemory fails =
      let all : Passed past now (sent_by Client so_far ++ rest) (sent_by Server so_far) (recorded so_far) =
      passed-kept passed (Keeps-refl left) fails.0 fails.1 in
      stops-by all so_far rest listed refl (refl, cut-whole so_far)
      (leaves-by all so_far rest listed refl (is-beginning (sent_by Server so_far)) (cut-whole so_far) leaves)
