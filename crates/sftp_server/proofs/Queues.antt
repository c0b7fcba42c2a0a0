-- How each change of a queue goes over its requests.
use Rattle.sftp_server.proofs.Imports.{◌≡◌, ◌==◌, ◌&&◌, ◌||◌, not, nat_eq, ℕ, zero, suc, ◌≤◌, Bool, true, false, cond}
use Rattle.sftp_server.proofs.Imports.{List, [], ◌∷◌, ◌++◌, Option, Some, None, is_some, length, set, drop, slice_get}
use Rattle.sftp_server.proofs.Imports.{if◌then◌else◌, refl, sym, ap, ◌∙◌, arith, lookup, or_parts, ne_eqb, eqb-true}
use Rattle.sftp_server.proofs.Imports.{eqb-false, eq-eqb, true≢false, none-some, same_Some, or-false, or_assoc}
use Rattle.sftp_server.proofs.Imports.{or_comm, or-true, and-false, Request, Reply, Entry, Progress, Pending, Done}
use Rattle.sftp_server.proofs.Imports.{Sent, is_pending, is_sent, is_unsent, is_pending_at, from_unsent, reply_of}
use Rattle.sftp_server.proofs.Imports.{pending_at, with_progress, HasReply, sent_in, AreUnsentApart, IsQueue, ◌<◌}
use Rattle.sftp_server.proofs.Imports.{subst, length-append, AllByRecursion, IfSome, reply_packet, HasSpelling, State}
use Rattle.sftp_server.proofs.Imports.{Allowed, Machine, reply_at, IsSent, IsWorked, request_in, HasGoodReply}
use Rattle.sftp_server.proofs.Imports.{IsSendable, IsCore, all_both}
use Rattle.std.specs.Option.{IfNone}
use Rattle.sftp_server.proofs.Machines.Acts.{all-parts}

-- ---- the front

pub from_unsent-short : (queue : List Entry) → length (from_unsent queue) ≤ length queue
unfolding from_unsent
from_unsent-short [] = omega arith
from_unsent-short (entry ∷ queue) = by (from_unsent-short queue) (is_sent entry.progress) refl
  where
    by : length (from_unsent queue) ≤ length queue → (b : Bool) → is_sent entry.progress ≡ b
        → length (from_unsent (entry ∷ queue)) ≤ suc (length queue)
    by rest true is = rw is (omega (arith, rest))
    by rest false is = rw is (omega arith)

pub sent-first : (queue : List Entry) → sent_in (slice_get queue 0) ≡ true
    → (from_unsent (drop 1 queue) ≡ from_unsent queue) × (suc (length (drop 1 queue)) ≡ length queue)
unfolding from_unsent
sent-first [] sent = absurd (true≢false (sym sent))
sent-first (entry ∷ queue) sent = (rw sent refl, refl)

pub unsent-first : (queue : List Entry) → sent_in (slice_get queue 0) ≡ false → from_unsent queue ≡ queue
unfolding from_unsent
unsent-first [] sent = refl
unsent-first (entry ∷ queue) sent = rw sent refl

pub queue-new : IsQueue [] []
unfolding from_unsent is_unsent AreUnsentApart
queue-new = record { front = refl; indexed = λ id. refl; apart = tt }

-- ---- one request more

pub from_unsent-pushed : (queue : List Entry) (request : Request) → from_unsent queue ≡ queue
    → from_unsent (queue ++ record { request = request; progress = Pending } ∷ [])
    ≡ queue ++ record { request = request; progress = Pending } ∷ []
unfolding from_unsent
from_unsent-pushed [] request front = refl
from_unsent-pushed (entry ∷ queue) request front = by (is_sent entry.progress) refl
  where
    by : (b : Bool) → is_sent entry.progress ≡ b
        → from_unsent (entry ∷ (queue ++ record { request = request; progress = Pending } ∷ []))
        ≡ entry ∷ (queue ++ record { request = request; progress = Pending } ∷ [])
    by false is = rw is refl
    by true is =
        absurd (let shorter = from_unsent-short queue in
        let same : from_unsent queue ≡ entry ∷ queue = rw is at front in
        let size = ap length same in
        omega (arith, shorter, size))

is_unsent-pushed : (id : ℕ) (queue : List Entry) (request : Request)
    → is_unsent id (queue ++ record { request = request; progress = Pending } ∷ [])
    ≡ (is_unsent id queue || request.id == id)
unfolding is_unsent
is_unsent-pushed id [] request = or-false (request.id == id)
is_unsent-pushed id (entry ∷ queue) request =
    rw (is_unsent-pushed id queue request)
    (sym (or_assoc (not (is_sent entry.progress) && entry.request.id == id) (is_unsent id queue) (request.id == id)))

apart-pushed : (queue : List Entry) (request : Request) → AreUnsentApart queue → is_unsent request.id queue ≡ false
    → AreUnsentApart (queue ++ record { request = request; progress = Pending } ∷ [])
unfolding AreUnsentApart is_unsent
apart-pushed [] request apart free = (λ _. refl, tt)
apart-pushed (entry ∷ queue) request apart free =
    let parts = or_parts (not (is_sent entry.progress) && entry.request.id == request.id)
    (is_unsent request.id queue) free in (
      λ unsent. rw (is_unsent-pushed entry.request.id queue request, apart.0 unsent)
          (other unsent parts.0),
      apart-pushed queue request apart.1 parts.1,
    )
  where
    other : is_sent entry.progress ≡ false → (not (is_sent entry.progress) && entry.request.id == request.id) ≡ false
        → (request.id == entry.request.id) ≡ false
    other unsent e = ne_eqb request.id entry.request.id (λ same. eqb-false entry.request.id request.id (let f :
        (entry.request.id == request.id) ≡ false = rw unsent at e in f) (sym same))

pub some_or : (b : Bool) (found : Option (Unit {0})) → is_some (cond b (Some tt) found) ≡ (b || is_some found)
some_or true found = refl
some_or false found = refl

pub struck_or : (b : Bool) (found : Option (Unit {0})) → is_some (cond b None found) ≡ (not b && is_some found)
struck_or true found = refl
struck_or false found = refl

-- a request that has a new id is pushed, and its id is noted
pub queue-pushed : (queue : List Entry) (ids after : List (ℕ × Unit {0})) (request : Request)
    → IsQueue queue ids → is_unsent request.id queue ≡ false
    → ((id : ℕ) → is_some (lookup (nat_eq id) after) ≡ (nat_eq request.id id || is_some (lookup (nat_eq id) ids)))
    → IsQueue (queue ++ record { request = request; progress = Pending } ∷ []) after
queue-pushed queue ids after request is free noted = record {
  front = from_unsent-pushed queue request is.front;
  indexed = λ id.
      rw (noted id, is.indexed id, is_unsent-pushed id queue request) (or_comm (nat_eq request.id id)
      (is_unsent id queue));
  apart = apart-pushed queue request is.apart free;
}

-- ---- progress

-- what a store at a position of the queue is
pub stored : (queue : List Entry) (k : ℕ) (entry : Entry) (progress : Progress) → slice_get queue k ≡ Some entry
    → set queue k (record { request = entry.request; progress = progress }) ≡ with_progress queue k progress
unfolding with_progress
stored [] k entry progress at = absurd (none-some entry at)
stored (first ∷ queue) zero entry progress at =
    ap (λ (e : Entry). record { request = e.request; progress = progress } ∷ queue) (sym (same_Some first entry at))
stored (first ∷ queue) (suc k) entry progress at = ap (λ q. first ∷ q) (stored queue k entry progress at)

pub length-progress : (queue : List Entry) (k : ℕ) (progress : Progress)
    → length (with_progress queue k progress) ≡ length queue
unfolding with_progress
length-progress [] k progress = refl
length-progress (entry ∷ queue) zero progress = refl
length-progress (entry ∷ queue) (suc k) progress = ap suc (length-progress queue k progress)

-- ---- a pending request is done

pub front-done : (queue : List Entry) (n : ℕ) (reply : Reply) → from_unsent queue ≡ queue
    → from_unsent (with_progress queue n (Done reply)) ≡ with_progress queue n (Done reply)
unfolding from_unsent with_progress
front-done [] n reply front = refl
front-done (entry ∷ queue) zero reply front = refl
front-done (entry ∷ queue) (suc n) reply front = by (is_sent entry.progress) refl
  where
    by : (b : Bool) → is_sent entry.progress ≡ b
        → from_unsent (entry ∷ with_progress queue n (Done reply)) ≡ entry ∷ with_progress queue n (Done reply)
    by false is = rw is refl
    by true is =
        absurd (let shorter = from_unsent-short queue in
        let same : from_unsent queue ≡ entry ∷ queue = rw is at front in
        let size = ap length same in
        omega (arith, shorter, size))

-- a pending request is unsent, as one that is done
is_sent-pending : (progress : Progress) → is_pending progress ≡ true → is_sent progress ≡ false
is_sent-pending Pending is = refl
is_sent-pending (Done reply) is = refl
is_sent-pending Sent is = sym is

is_unsent-done : (id : ℕ) (queue : List Entry) (k : ℕ) (reply : Reply) → is_pending_at queue k ≡ true
    → is_unsent id (with_progress queue k (Done reply)) ≡ is_unsent id queue
unfolding is_unsent with_progress
is_unsent-done id [] k reply pending = refl
is_unsent-done id (entry ∷ queue) zero reply pending = rw (is_sent-pending entry.progress pending) refl
is_unsent-done id (entry ∷ queue) (suc k) reply pending = rw (is_unsent-done id queue k reply pending) refl

apart-done : (queue : List Entry) (k : ℕ) (reply : Reply) → is_pending_at queue k ≡ true → AreUnsentApart queue
    → AreUnsentApart (with_progress queue k (Done reply))
unfolding AreUnsentApart with_progress
apart-done [] k reply pending apart = tt
apart-done (entry ∷ queue) zero reply pending apart =
    (λ _. apart.0 (is_sent-pending entry.progress pending), apart.1)
apart-done (entry ∷ queue) (suc k) reply pending apart = (
  λ unsent. is_unsent-done entry.request.id queue k reply pending
      ∙ apart.0 unsent,
  apart-done queue k reply pending apart.1,
)

pub queue-done : (queue : List Entry) (ids : List (ℕ × Unit {0})) (k : ℕ) (reply : Reply) → IsQueue queue ids
    → is_pending_at queue k ≡ true → IsQueue (with_progress queue k (Done reply)) ids
queue-done queue ids k reply is pending = record {
  front = front-done queue k reply is.front;
  indexed = λ id. is.indexed id ∙ sym (is_unsent-done id queue k reply pending);
  apart = apart-done queue k reply pending is.apart;
}

-- ---- which requests are pending

-- a request is found exactly if it is pending
pub found-pending : (queue : List Entry) (k : ℕ) → is_some (pending_at queue k) ≡ is_pending_at queue k
found-pending [] k = refl
found-pending (entry ∷ queue) zero = by (is_pending entry.progress)
  where
    by : (b : Bool) → is_some (if b then Some entry.request else None) ≡ b
    by true = refl
    by false = refl
found-pending (entry ∷ queue) (suc k) = found-pending queue k

pub is-pending : (queue : List Entry) (k : ℕ) (request : Request) → pending_at queue k ≡ Some request
    → is_pending_at queue k ≡ true
is-pending queue k request is = sym (found-pending queue k) ∙ ap is_some is

pub not-pending : (queue : List Entry) (k : ℕ) → pending_at queue k ≡ None → is_pending_at queue k ≡ false
not-pending queue k is = sym (found-pending queue k) ∙ ap is_some is

-- ---- a reply is sent

-- an entry with a reply is not sent
sent-done : (progress : Progress) (reply : Reply) → reply_of progress ≡ Some reply → is_sent progress ≡ false
sent-done Pending reply is = absurd (none-some reply is)
sent-done (Done given) reply is = refl
sent-done Sent reply is = absurd (none-some reply is)

unsent-there : (id : ℕ) (queue : List Entry) (k : ℕ) (reply : Reply) → HasReply queue k id reply
    → is_unsent id queue ≡ true
unfolding is_unsent
unsent-there id [] k reply has = absurd (none-some has.0 has.1)
unsent-there id (first ∷ queue) zero reply has =
    let same = same_Some first has.0 has.1 in
    rw (same, sent-done has.0.progress reply has.3, eq-eqb has.0.request.id id has.2) refl
unsent-there id (first ∷ queue) (suc k) reply has =
    rw (unsent-there id queue k reply has) (or-true (not (is_sent first.progress) && first.request.id == id))

is_unsent-sent : (id at : ℕ) (queue : List Entry) (k : ℕ) (reply : Reply) → AreUnsentApart queue
    → HasReply queue k at reply
    → is_unsent id (with_progress queue k Sent) ≡ (not (nat_eq at id) && is_unsent id queue)
unfolding is_unsent with_progress AreUnsentApart
is_unsent-sent id at [] k reply apart has = absurd (none-some has.0 has.1)
is_unsent-sent id at (first ∷ queue) zero reply apart has =
    let same = same_Some first has.0 has.1 in
    let unsent : is_sent first.progress ≡ false = rw same (sent-done has.0.progress reply has.3) in
    let named : first.request.id ≡ at = rw same has.2 in
    by unsent named (apart.0 unsent) (nat_eq at id) refl
  where
    by : is_sent first.progress ≡ false → first.request.id ≡ at → is_unsent first.request.id queue ≡ false → (b : Bool)
        → nat_eq at id ≡ b
        → is_unsent id queue ≡ (not (nat_eq at id) && ((not
        (is_sent first.progress) && first.request.id == id) || is_unsent id queue))
    by unsent named other true is = rw (is, ← eqb-true at id is, ← named) other
    by unsent named other false is = rw (unsent, named, is) refl
is_unsent-sent id at (first ∷ queue) (suc k) reply apart has =
    rw (is_unsent-sent id at queue k reply apart.1 has)
    (by apart.0 (unsent-there at queue k reply has) (nat_eq at id) refl (is_sent first.progress) refl)
  where
    by : (is_sent first.progress ≡ false → is_unsent first.request.id queue ≡ false) → is_unsent at queue ≡ true
        → (b : Bool) → nat_eq at id ≡ b → (c : Bool) → is_sent first.progress ≡ c
        → ((not (is_sent first.progress) && first.request.id == id) || (not (nat_eq at id) && is_unsent id queue))
        ≡ (not (nat_eq at id) && ((not (is_sent first.progress) && first.request.id == id) || is_unsent id queue))
    by alone there false is c sent = rw is refl
    by alone there true is true sent = rw (is, sent) refl
    by alone there true is false sent =
        rw (
          is,
          sent,
          ne_eqb first.request.id id (λ same. true≢false (sym there ∙ rw (eqb-true at id is, ← same)
              (alone sent))),
        ) refl

apart-sent : (queue : List Entry) (k at : ℕ) (reply : Reply) → AreUnsentApart queue → HasReply queue k at reply
    → AreUnsentApart (with_progress queue k Sent)
unfolding AreUnsentApart with_progress
apart-sent [] k at reply apart has = tt
apart-sent (first ∷ queue) zero at reply apart has = (λ e. absurd (true≢false e), apart.1)
apart-sent (first ∷ queue) (suc k) at reply apart has = (
  λ unsent. rw (is_unsent-sent first.request.id at queue k reply apart.1 has, apart.0 unsent) (and-false (not
      (nat_eq at first.request.id))),
  apart-sent queue k at reply apart.1 has,
)

-- ---- the front leaves

pub from_unsent-again : (queue : List Entry) → from_unsent (from_unsent queue) ≡ from_unsent queue
unfolding from_unsent
from_unsent-again [] = refl
from_unsent-again (entry ∷ queue) = by (from_unsent-again queue) (is_sent entry.progress) refl
  where
    by : from_unsent (from_unsent queue) ≡ from_unsent queue → (b : Bool) → is_sent entry.progress ≡ b
        → from_unsent (from_unsent (entry ∷ queue)) ≡ from_unsent (entry ∷ queue)
    by rest true is = rw is rest
    by rest false is = rw (is, is) refl

-- the requests that leave the queue were sent
pub is_unsent-front : (id : ℕ) (queue : List Entry) → is_unsent id (from_unsent queue) ≡ is_unsent id queue
unfolding from_unsent is_unsent
is_unsent-front id [] = refl
is_unsent-front id (entry ∷ queue) = by (is_unsent-front id queue) (is_sent entry.progress) refl
  where
    by : is_unsent id (from_unsent queue) ≡ is_unsent id queue → (b : Bool) → is_sent entry.progress ≡ b
        → is_unsent id (from_unsent (entry ∷ queue)) ≡ is_unsent id (entry ∷ queue)
    by rest true is = rw is rest
    by rest false is = rw is (rw is refl)

apart-front : (queue : List Entry) → AreUnsentApart queue → AreUnsentApart (from_unsent queue)
unfolding from_unsent AreUnsentApart
apart-front [] apart = tt
apart-front (entry ∷ queue) apart = by (apart-front queue apart.1) apart (is_sent entry.progress) refl
  where
    by : AreUnsentApart (from_unsent queue) → AreUnsentApart (entry ∷ queue) → (b : Bool) → is_sent entry.progress ≡ b
        → AreUnsentApart (from_unsent (entry ∷ queue))
    by rest all true is = rw is rest
    by rest all false is = rw is all

-- what is left of a queue after a reply was sent
pub queue-sent : (queue : List Entry) (ids fewer : List (ℕ × Unit {0})) (k at : ℕ) (reply : Reply)
    → IsQueue queue ids → HasReply queue k at reply
    → ((id : ℕ) → is_some (lookup (nat_eq id) fewer) ≡ (not (nat_eq at id) && is_some (lookup (nat_eq id) ids)))
    → IsQueue (from_unsent (with_progress queue k Sent)) fewer
queue-sent queue ids fewer k at reply is has struck = record {
  front = from_unsent-again (with_progress queue k Sent);
  indexed = λ id.
      rw (
        struck id,
        is.indexed id,
        is_unsent-front id
            (with_progress queue k Sent),
        is_unsent-sent id at queue k reply is.apart has,
      ) refl;
  apart = apart-front (with_progress queue k Sent) (apart-sent queue k at reply is.apart has);
}

-- ==== What the calls of the queue say of the core.

-- ---- what is ready

-- a request is found pending: so the entry is that request, pending
pending-parts : (entry : Entry) (request : Request) → request_in (Some entry) ≡ Some request
    → (entry.request ≡ request) × (entry.progress ≡ Pending)
pending-parts entry request is = by entry.progress refl
  where
    by : (progress : Progress) → entry.progress ≡ progress → (entry.request ≡ request) × (entry.progress ≡ Pending)
    by Pending at =
        let named : Some entry.request ≡ Some request = rw at at is in
        (same_Some entry.request request named, at)
    by (Done reply) at = absurd (none-some request (let f : None ≡ Some request = rw at at is in f))
    by Sent at = absurd (none-some request (let f : None ≡ Some request = rw at at is in f))

-- ---- a request at its position

-- the queue is cut at the request: what is before it, and what is after it
pub record IsAt (queue : List Entry) (k : ℕ) (request : Request) (progress : Progress) : Type 0 where
  pub front : List Entry
  pub back : List Entry
  pub queue_is : queue ≡ front ++ record { request = request; progress = progress } ∷ back
  pub position : length front ≡ k
  pub changed : (next : Progress)
      → with_progress queue k next ≡ front ++ record { request = request; progress = next } ∷ back

at-later : (entry : Entry) (queue : List Entry) (k : ℕ) (request : Request) (progress : Progress)
    → IsAt queue k request progress → IsAt (entry ∷ queue) (suc k) request progress
unfolding with_progress
at-later entry queue k request progress at = record {
  front = entry ∷ at.front;
  back = at.back;
  queue_is = ap (λ q. entry ∷ q) at.queue_is;
  position = ap suc at.position;
  changed = λ next. ap (λ q. entry ∷ q) (at.changed next);
}

entry-is : (entry : Entry) (request : Request) (progress : Progress) → entry.request ≡ request
    → entry.progress ≡ progress → entry ≡ record { request = request; progress = progress }
entry-is entry request progress same is = rw (← same, ← is) refl

at-front : (entry : Entry) (queue : List Entry) (request : Request) (progress : Progress) → entry.request ≡ request
    → entry.progress ≡ progress → IsAt (entry ∷ queue) 0 request progress
unfolding with_progress
at-front entry queue request progress same is = record {
  front = [];
  back = queue;
  queue_is = ap (λ (e : Entry). e ∷ queue) (entry-is entry request progress same is);
  position = refl;
  changed = λ next. rw same refl;
}

-- the pending request at the position
pub at-pending : (queue : List Entry) (k : ℕ) (request : Request) → pending_at queue k ≡ Some request
    → IsAt queue k request Pending
at-pending [] k request is = absurd (none-some request is)
at-pending (entry ∷ queue) zero request is =
    let parts = pending-parts entry request is in
    at-front entry queue request Pending parts.0 parts.1
at-pending (entry ∷ queue) (suc k) request is =
    at-later entry queue k request Pending (at-pending queue k request is)

replied-is : (progress : Progress) (reply : Reply) → reply_of progress ≡ Some reply → progress ≡ Done reply
replied-is Pending reply is = absurd (none-some reply is)
replied-is (Done given) reply is = ap (λ (r : Reply). Done r) (same_Some given reply is)
replied-is Sent reply is = absurd (none-some reply is)

-- the request whose reply is at the position
pub at-reply : (queue : List Entry) (k : ℕ) (reply : Reply) → reply_at queue k ≡ Some reply
    → (request : Request) × IsAt queue k request (Done reply)
at-reply [] k reply is = absurd (none-some reply is)
at-reply (entry ∷ queue) zero reply is =
    (entry.request, at-front entry queue entry.request (Done reply) refl (replied-is entry.progress reply is))
at-reply (entry ∷ queue) (suc k) reply is =
    let rest = at-reply queue k reply is in
    (rest.0, at-later entry queue k rest.0 (Done reply) rest.1)

-- ---- steps

pub sent-step : (machine after : Machine State) (k : ℕ) (reply : Reply) → reply_at machine.queue k ≡ Some reply
    → after ≡ record machine { queue = from_unsent (with_progress machine.queue k Sent) } → IsSent machine k reply after
sent-step machine after k reply is after_is =
    let found = at-reply machine.queue k reply is in
    record {
      front = found.1.front;
      request = found.0;
      back = found.1.back;
      queue_is = found.1.queue_is;
      position = found.1.position;
      marked = rw (← found.1.changed Sent) after_is;
    }

pub worked-step : (machine after : Machine State) (k : ℕ) (request : Request) (reply : Reply)
    → pending_at machine.queue k ≡ Some request
    → Allowed machine.state request reply after.state → HasSpelling (reply_packet reply)
    → after.window ≡ machine.window → after.queue ≡ with_progress machine.queue k (Done reply)
    → IsWorked Allowed machine k after
worked-step machine after k request reply pending allowed spelled window queue =
    let at = at-pending machine.queue k request pending in
    record {
      front = at.front;
      request = request;
      back = at.back;
      reply = reply;
      queue_is = at.queue_is;
      position = at.position;
      allowed = allowed;
      spelled = spelled;
      same_window = window;
      marked = queue ∙ at.changed (Done reply);
    }

-- ---- what the core keeps

pub core-taken : (window : ℕ) (queue : List Entry) (request : Request) → IsCore window queue
    → length queue < window → IsCore window (queue ++ record { request = request; progress = Pending } ∷ [])
core-taken window queue request is room = record {
  some = is.some;
  bounded = is.bounded;
  few = simp length-append (omega (arith, room));
  front = from_unsent-pushed queue request is.front;
  sendable = all_both IsSendable queue (record { request = request; progress = Pending } ∷ []) is.sendable (tt, tt);
}

sendable-worked : (queue : List Entry) (k : ℕ) (request : Request) (reply : Reply) → IsAt queue k request Pending
    → reply.id ≡ request.id → HasSpelling (reply_packet reply) → AllByRecursion IsSendable queue
    → AllByRecursion IsSendable (with_progress queue k (Done reply))
sendable-worked queue k request reply at same spelled all =
    let entry : Entry = record { request = request; progress = Pending } in
    let changed : Entry = record { request = request; progress = Done reply } in
    let parts = all-parts IsSendable at.front entry at.back (subst
    (λ q. AllByRecursion IsSendable q) at.queue_is all) in
    subst (λ q. AllByRecursion IsSendable q) (sym (at.changed (Done reply)))
    (all_both IsSendable at.front (changed ∷ at.back) parts.before ((same, spelled), parts.after))

pub core-worked : (window : ℕ) (queue : List Entry) (k : ℕ) (request : Request) (reply : Reply)
    → pending_at queue k ≡ Some request → reply.id ≡ request.id
    → HasSpelling (reply_packet reply) → IsCore window queue → IsCore window (with_progress queue k (Done reply))
core-worked window queue k request reply pending same spelled is = record {
  some = is.some;
  bounded = is.bounded;
  few = rw (length-progress queue k (Done reply)) is.few;
  front = front-done queue k reply is.front;
  sendable = sendable-worked queue k request reply (at-pending queue k request pending) same spelled is.sendable;
}

sendable-sent : (queue : List Entry) (k : ℕ) → AllByRecursion IsSendable queue
    → AllByRecursion IsSendable (with_progress queue k Sent)
unfolding with_progress
sendable-sent [] k all = tt
sendable-sent (entry ∷ queue) zero all = (tt, all.1)
sendable-sent (entry ∷ queue) (suc k) all = (all.0, sendable-sent queue k all.1)

sendable-front : (queue : List Entry) → AllByRecursion IsSendable queue
    → AllByRecursion IsSendable (from_unsent queue)
unfolding from_unsent
sendable-front [] all = tt
sendable-front (entry ∷ queue) all = by (sendable-front queue all.1) (is_sent entry.progress) refl
  where
    by : AllByRecursion IsSendable (from_unsent queue) → (b : Bool) → is_sent entry.progress ≡ b
        → AllByRecursion IsSendable (from_unsent (entry ∷ queue))
    by rest true is = rw is rest
    by rest false is = rw is all

pub core-sent : (window : ℕ) (queue after : List Entry) (k : ℕ) (found : Option Reply) → IsCore window queue
    → IfSome found (λ reply. after ≡ from_unsent (with_progress queue k Sent)) → IfNone found (after ≡ queue)
    → IsCore window after
core-sent window queue after k None is sent unchanged = rw unchanged is
core-sent window queue after k (Some reply) is sent unchanged =
    let shorter = from_unsent-short (with_progress queue k Sent) in
    let same = length-progress queue k Sent in
    rw sent record {
      some = is.some;
      bounded = is.bounded;
      few = omega (arith, shorter, same, is.few);
      front = from_unsent-again (with_progress queue k Sent);
      sendable = sendable-front (with_progress queue k Sent) (sendable-sent queue k is.sendable);
    }

sendable-done : (request : Request) (progress : Progress) (reply : Reply) → reply_of progress ≡ Some reply
    → HasGoodReply request.id progress → HasSpelling (reply_packet reply)
sendable-done request Pending reply is good = absurd (none-some reply is)
sendable-done request (Done given) reply is good =
    subst (λ (r : Reply). HasSpelling (reply_packet r)) (same_Some given reply is) good.1
sendable-done request Sent reply is good = absurd (none-some reply is)

-- a reply of the queue can be encoded
pub spelled-at : (queue : List Entry) (k : ℕ) (reply : Reply) → AllByRecursion IsSendable queue
    → reply_at queue k ≡ Some reply → HasSpelling (reply_packet reply)
spelled-at [] k reply all is = absurd (none-some reply is)
spelled-at (entry ∷ queue) zero reply all is = sendable-done entry.request entry.progress reply is all.0
spelled-at (entry ∷ queue) (suc k) reply all is = spelled-at queue k reply all.1 is
