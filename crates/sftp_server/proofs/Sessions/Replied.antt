-- A request is done, or a reply is sent, in a running session.
use Rattle.sftp_server.proofs.Imports.{◌≡◌, ◌⊎◌, ◌==◌, ◌&&◌, ◌||◌, not, ℕ, Bool, true, false, List, [], ◌∷◌, ◌++◌}
use Rattle.sftp_server.proofs.Imports.{length, map, Option, Some, None, Result, Ok, Err, OnOk, OnErr, IfErr, IsTrue}
use Rattle.sftp_server.proofs.Imports.{inl, inr, refl, sym, ap, subst, subst₂, ◌∙◌, arith, Appends, Consumes}
use Rattle.sftp_server.proofs.Imports.{Appends-trans, or_left, or_right, or_cases, AllByRecursion, Unreadable, Packet}
use Rattle.sftp_server.proofs.Imports.{reply_packet, Request, Reply, place_after, spelling, HasSpelling, Event, Asked}
use Rattle.sftp_server.proofs.Imports.{Replied, Log, packet_of, record_text, IsEvent, window, State, Allowed}
use Rattle.sftp_server.proofs.Imports.{SessionFault, Stop, Entry, Pending, Done, Sent, Machine, is_sent, is_unsent}
use Rattle.sftp_server.proofs.Imports.{is_ready, reply_at, IsWorked, IsSent, server_clash, started, IsReached}
use Rattle.sftp_server.proofs.Imports.{session_packets, answered_last, IsListed, StreamBytes, stream_bytes}
use Rattle.sftp_server.proofs.Imports.{IsLeftAfter, IsLogging, Ahead, IsRunning, IsFaultAhead, FailsToSend, SendsOn}
use Rattle.sftp_server.proofs.Imports.{tree_left, all_more}
use Rattle.sftp_server.specs.declared.ends.SessionFault.TheVariants as faults
use Rattle.sftp_server.specs.declared.ends.Stop.TheVariants as stops
use Rattle.sftp_server.proofs.Queues.{is_unsent-front}
use Rattle.sftp_server.proofs.Machines.Laws.{reply-for}
use Rattle.sftp_server.proofs.Machines.Laws.{reached-worked, reached-sent}
use Rattle.sftp_server.proofs.Sessions.{session-more, replied-session}
use Rattle.sftp_server.proofs.Sessions.{stays-good, each-answered, reached-begins, running-listed, reached-leaves}
use Rattle.sftp_server.proofs.Sessions.{stopped-no-memory, stopped-sending}
use Rattle.sftp_server.specs.Served.{Setup}

-- ---- the unsent requests

-- a request that is done is not sent yet
unsent-worked : (id : ℕ) (front : List Entry) (request : Request) (reply : Reply) (back : List Entry)
    → is_unsent id (front ++ record { request = request; progress = Done reply } ∷ back)
    ≡ is_unsent id (front ++ record { request = request; progress = Pending } ∷ back)
unfolding is_unsent
unsent-worked id [] request reply back = refl
unsent-worked id (entry ∷ front) request reply back =
    ap (λ (later : Bool). (not (is_sent entry.progress) && entry.request.id == id) || later)
    (unsent-worked id front request reply back)

-- once a reply is sent, an id that was unsent is still unsent, or is that of its request
unsent-sent : (id : ℕ) (front : List Entry) (request : Request) (reply : Reply) (back : List Entry)
    → is_unsent id (front ++ record { request = request; progress = Done reply } ∷ back) ≡ true
    → (is_unsent id (front ++ record { request = request; progress = Sent } ∷ back) ≡ true)
    ⊎ (request.id == id ≡ true)
unfolding is_unsent
unsent-sent id [] request reply back unsent =
    elim (or_cases (request.id == id) (is_unsent id back) unsent) [ inl here ↦ inr here | inr later ↦ inl later ]
unsent-sent id (entry ∷ front) request reply back unsent =
    let here : Bool = not (is_sent entry.progress) && entry.request.id == id in
    let old : Bool = is_unsent id (front ++ record { request = request; progress = Done reply } ∷ back) in
    let new : Bool = is_unsent id (front ++ record { request = request; progress = Sent } ∷ back) in
    elim (or_cases here old unsent) [
      | inl first ↦ inl (or_left here new first)
      | inr later ↦ elim (unsent-sent id front request reply back later) [
        | inl still ↦ inl (or_right here new still)
        | inr same ↦ inr same
      ]
    ]

-- ---- the ids answered last

answered-more : (id : ℕ) (since : Bool) (events : List Event) (reply : Reply)
    → answered_last id since (events ++ Replied reply ∷ []) ≡ answered_last id since events || reply.id == id
unfolding answered_last
answered-more id since [] reply = refl
answered-more id since (Asked request ∷ events) reply = answered-more id false events reply
answered-more id since (Replied first ∷ events) reply = answered-more id (since || first.id == id) events reply

-- ---- the fault in front

-- an unsent request has the id, or it was answered last
abbrev IsUsed : ℕ → List Event → List Entry → Type 0
IsUsed id events queue = IsTrue (is_unsent id queue) ⊎ IsTrue (answered_last id false events)

fault-kept : (events0 events1 : List Event) (queue0 queue1 : List Entry) (rest : List ℕ) (place : ℕ)
    (fault : Option SessionFault) → ((id : ℕ) → IsUsed id events0 queue0 → IsUsed id events1 queue1)
    → IsFaultAhead events0 queue0 rest place fault → IsFaultAhead events1 queue1 rest place fault
fault-kept events0 events1 queue0 queue1 rest place None used found = tt
fault-kept events0 events1 queue0 queue1 rest place (Some (faults.Wire (Unreadable fault at))) used found = found
fault-kept events0 events1 queue0 queue1 rest place (Some (faults.Wire other)) used found = absurd found
fault-kept events0 events1 queue0 queue1 rest place (Some (faults.IdInUse id)) used found =
    (found.0, used id found.1)
fault-kept events0 events1 queue0 queue1 rest place (Some faults.BadInit) used found = found
fault-kept events0 events1 queue0 queue1 rest place (Some (faults.Cut at)) used found = absurd found

used-worked : {core0 core1 : Machine State} {k : ℕ} (worked : IsWorked Allowed core0 k core1) (events : List Event)
    (id : ℕ) → IsUsed id events core0.queue → IsUsed id events core1.queue
used-worked {core0} {core1} {k} worked events id (inl unsent) =
    inl (ap (is_unsent id) worked.marked
    ∙ unsent-worked id worked.front worked.request worked.reply worked.back
    ∙ ap (is_unsent id) (sym worked.queue_is) ∙ unsent)
used-worked {core0} {core1} {k} worked events id (inr answered) = inr answered

used-sent : {core0 core1 : Machine State} {k : ℕ} {reply : Reply} (sent : IsSent core0 k reply core1)
    (events : List Event) → reply.id ≡ sent.request.id → (id : ℕ) → IsUsed id events core0.queue
    → IsUsed id (events ++ Replied reply ∷ []) core1.queue
used-sent {core0} {core1} {k} {reply} sent events same id (inl unsent) =
    elim (unsent-sent id sent.front sent.request reply sent.back (ap (is_unsent id) (sym sent.queue_is) ∙ unsent)) [
      | inl still ↦ inl (ap (λ (m : Machine State). is_unsent id m.queue) sent.marked
          ∙ is_unsent-front id (sent.front ++ record { request = sent.request; progress = Sent } ∷ sent.back) ∙ still)
      | inr here ↦ inr (answered-more id false events reply
          ∙ or_right (answered_last id false events) (reply.id == id) (ap (λ (n : ℕ). n == id) same ∙ here))
    ]
used-sent {core0} {core1} {k} {reply} sent events same id (inr answered) =
    inr (answered-more id false events reply ∙ or_left (answered_last id false events) (reply.id == id) answered)

-- ---- a request is done

running-worked : {start : Setup} {past now : StreamBytes} {ahead : Ahead} {core0 core1 : Machine State} {k : ℕ}
    {fault : Option SessionFault} → IsRunning start past now ahead core0 fault → is_ready server_clash core0 k ≡ true
    → IsWorked Allowed core0 k core1 → IsRunning start past now ahead core1 fault
running-worked {start} {ahead = ahead} {core0} {core1} {k} {fault} running ready worked = record {
  init = running.init;
  events = running.events;
  good = running.good;
  greeting = running.greeting;
  spelled = running.spelled;
  reached = reached-worked (started start.tree) window running.events core0 core1 k running.reached ready worked;
  passed = running.passed;
  place = running.place;
  found = fault-kept running.events running.events core0.queue core1.queue ahead.held ahead.place fault
      (used-worked worked running.events) running.found;
}

pub sends-worked : (core0 core1 : Machine State) (k : ℕ) (written logged : Option (List ℕ))
    → is_ready server_clash core0 k ≡ true → IsWorked Allowed core0 k core1
    → SendsOn core0 core1 written written logged logged (Ok tt)
sends-worked core0 core1 k written logged ready worked start past left ahead fault running =
    running-worked running ready worked

-- memory ran out, and nothing changed
pub sends-nothing : (core : Machine State) (written logged : Option (List ℕ))
    → SendsOn core core written written logged logged (Err stops.NoMemory)
sends-nothing core written logged start past left ahead fault running = stopped-no-memory running

-- ---- a reply is sent

-- what is reached once a reply is sent, and that the reply can be encoded
module _ {start : Setup} {past now : StreamBytes} {ahead : Ahead} {core0 core1 : Machine State}
    {fault : Option SessionFault} {k : ℕ} {reply : Reply} (running : IsRunning start past now ahead core0 fault)
    (at : reply_at core0.queue k ≡ Some reply) (sent : IsSent core0 k reply core1) where
  for-request : (reply.id ≡ sent.request.id) × HasSpelling (reply_packet reply)
  for-request =
      reply-for stays-good each-answered (started start.tree) window running.events core0 k reply core1 running.good
      (omega arith) running.reached sent

  abbrev events : List Event
  events = running.events ++ Replied reply ∷ []

  reached : IsReached (started start.tree) window events core1
  reached = reached-sent (started start.tree) window running.events core0 core1 k reply running.reached at sent

  spelled : AllByRecursion IsEvent events
  spelled = all_more running.events (Replied reply) running.spelled for-request.1

  -- the tree that the core leaves is that after the packets so far, and after the reply
  leaves : IsLeftAfter start.tree (session_packets start running.init running.events) (tree_left core1)
  leaves =
      subst
      (λ (m : Machine State). IsLeftAfter start.tree (session_packets start running.init running.events) (tree_left m))
      (sym sent.marked)
      (reached-leaves start running.init running.events core0 running.good running.reached)

  leaves-replied : IsLeftAfter start.tree (session_packets start running.init running.events ++ reply_packet reply ∷ [])
      (tree_left core1)
  leaves-replied =
      subst (λ (packets : List Packet). IsLeftAfter start.tree packets (tree_left core1))
      (session-more start running.init running.events (Replied reply ∷ []))
      (reached-leaves start running.init events core1 running.good reached)

  -- the packets so far and the reply
  listed-replied : IsListed start (session_packets start running.init running.events ++ reply_packet reply ∷ [])
  listed-replied =
      subst (IsListed start) (session-more start running.init running.events (Replied reply ∷ []))
      (running.greeting, refl, events, refl, spelled, reached-begins start events core1 running.good reached)

running-replied : {start : Setup} {past : StreamBytes} {left written0 written1 logged0 logged1 : Option (List ℕ)}
    {ahead : Ahead} {core0 core1 : Machine State} {k : ℕ} {reply : Reply} {fault : Option SessionFault}
    → IsRunning start past (stream_bytes left written0 logged0) ahead core0 fault
    → reply_at core0.queue k ≡ Some reply → IsSent core0 k reply core1
    → Appends written0 written1 (spelling (reply_packet reply))
    → Appends logged0 logged1 (record_text (reply_packet reply))
    → IsRunning start past (stream_bytes left written1 logged1) ahead core1 fault
running-replied {start} {past} {left} {written0} {written1} {logged0} {logged1} {ahead} {core0} {core1} {k} {reply}
    {fault} running at sent written logged =
    let more = replied-session start running.init running.events reply in
    record {
      init = running.init;
      events = running.events ++ Replied reply ∷ [];
      good = running.good;
      greeting = running.greeting;
      spelled = spelled running at sent;
      reached = reached running at sent;
      passed = record {
        read = subst (λ (bytes : List ℕ). Consumes past.left left (bytes ++ ahead.held)) (sym more.client)
            running.passed.read;
        written = subst (Appends past.written written1) (sym more.server)
            (Appends-trans past.written written0 written1 _ _ running.passed.written written);
        logged = subst (Appends past.logged logged1) (sym more.log)
            (Appends-trans past.logged logged0 logged1 _ _ running.passed.logged logged);
      };
      place = running.place ∙ ap (λ (bytes : List ℕ). place_after 0 (length bytes)) (sym more.client);
      found = fault-kept running.events (running.events ++ Replied reply ∷ []) core0.queue core1.queue ahead.held
          ahead.place fault (used-sent sent running.events (for-request running at sent).0) running.found;
    }

pub replied : (core0 core1 : Machine State) (k : ℕ) (reply : Reply) (written0 written1 : Option (List ℕ))
    (log0 log1 : Log) (result : Result (Unit {0}) Stop) → reply_at core0.queue k ≡ Some reply
    → IsSent core0 k reply core1 → IsLogging log0
    → OnOk result (Appends written0 written1 (spelling (reply_packet reply)))
    → OnOk result (Appends log0.bytes log1.bytes (record_text (reply_packet reply)))
    → IfErr result (λ stop. FailsToSend (reply_packet reply) written0 written1 log0 log1 stop)
    → SendsOn core0 core1 written0 written1 log0.bytes log1.bytes result
replied core0 core1 k reply written0 written1 log0 log1 (Ok done) at sent logging written logged fails start past left
    ahead fault running =
    running-replied running at sent written logged
replied core0 core1 k reply written0 written1 log0 log1 (Err stop) at sent logging written logged fails start past left
    ahead fault running =
    stopped-sending start past left written0 written1 log0 log1 running.init
    (start.version ∷ map packet_of running.events) (reply_packet reply) ahead.held (tree_left core1) logging
    (running-listed running) (listed-replied running at sent) refl running.passed (leaves running at sent)
    (leaves-replied running at sent) stop fails

-- ---- what one call does

-- a request was done, or memory ran out
pub worked-on : (core0 core1 : Machine State) (k : ℕ) (written logged : Option (List ℕ))
    (result : Result (Unit {0}) Stop) → is_ready server_clash core0 k ≡ true
    → OnOk result (IsWorked Allowed core0 k core1) → IfErr result (λ stop. stop ≡ stops.NoMemory)
    → OnErr result (core1 ≡ core0) → SendsOn core0 core1 written written logged logged result
worked-on core0 core1 k written logged (Ok done) ready worked stopped same =
    sends-worked core0 core1 k written logged ready worked
worked-on core0 core1 k written logged (Err stop) ready worked stopped same =
    subst₂ (λ (s : Stop) (m : Machine State). SendsOn core0 m written written logged logged (Err s)) (sym stopped)
    (sym same) (sends-nothing core0 written logged)
