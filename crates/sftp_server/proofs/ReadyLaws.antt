-- Which requests are ready, and what is possible.
use Rattle.sftp_server.proofs.Imports.{◌≡◌, ◌+◌, ◌<◌, ◌++◌, ◌&&◌, not, ℕ, zero, suc, Bool, true, false}
use Rattle.sftp_server.proofs.Imports.{List, [], ◌∷◌, Some, None, is_some, if◌then◌else◌, length, take}
use Rattle.sftp_server.proofs.Imports.{refl, sym, ap, ◌∙◌, arith}
use Rattle.sftp_server.proofs.Imports.{true≢false, and-false, Request, Entry, Progress, Pending, Done, Sent}
use Rattle.sftp_server.proofs.Imports.{Machine, ClashOf, is_pending, is_free_of, is_ready}
use Rattle.sftp_server.proofs.Imports.{is_pending_at, reply_at}
use Rattle.sftp_server.proofs.Imports.{Reply, StepOf}
use Rattle.sftp_server.proofs.Imports.{is_sent, from_unsent, IsWorked, IsSent, steps_left, owed}
use Rattle.sftp_server.proofs.Imports.{request_in, pending_at, clashes_in}
use Rattle.sftp_server.proofs.Queues.{from_unsent-short}

-- ---- freeness, position by position

-- an entry is in the way of a later request if its own is pending and clashes with that
way-of : {S : Type 0} (clash : ClashOf S) (s : S) (entry : Entry) (later : Request)
    → clashes_in clash s (request_in (Some entry)) later ≡ (is_pending entry.progress && clash s entry.request later)
way-of clash s entry later = by (is_pending entry.progress)
  where
    by : (b : Bool)
        → clashes_in clash s (if b then Some entry.request else None) later ≡ (b && clash s entry.request later)
    by true = refl
    by false = refl

pub free-clear : {S : Type 0} (clash : ClashOf S) (s : S) (queue : List Entry) (k : ℕ) (request : Request)
    → ((j : ℕ) → j < k → clashes_in clash s (pending_at queue j) request ≡ false)
    → is_free_of clash s (take k queue) request ≡ true
unfolding is_free_of
free-clear clash s queue zero request clear = refl
free-clear clash s [] (suc k) request clear = refl
free-clear clash s (entry ∷ queue) (suc k) request clear =
    let first : (is_pending entry.progress && clash s entry.request request) ≡ false =
    sym (way-of clash s entry request) ∙ clear 0 (omega arith) in
    rw (first, free-clear clash s queue k request (λ j before. clear (suc j) (omega (arith, before)))) refl

pub free-not : {S : Type 0} (clash : ClashOf S) (s : S) (queue : List Entry) (k j : ℕ) (request : Request) → j < k
    → clashes_in clash s (pending_at queue j) request ≡ true → is_free_of clash s (take k queue) request ≡ false
unfolding is_free_of
free-not clash s queue zero j request before blocks = absurd (omega (arith, before))
free-not clash s [] (suc k) j request before blocks = absurd (true≢false (sym blocks))
free-not clash s (entry ∷ queue) (suc k) zero request before blocks =
    rw (sym (way-of clash s entry request) ∙ blocks) refl
free-not clash s (entry ∷ queue) (suc k) (suc j) request before blocks =
    rw (free-not clash s queue k j request (omega (arith, before)) blocks)
    (and-false (not (is_pending entry.progress && clash s entry.request request)))

-- ==== What a machine may do next.

-- ---- acts bring a machine nearer to its end

owed-append : (front back : List Entry) → owed (front ++ back) ≡ owed front + owed back
unfolding owed
owed-append [] back = omega arith
owed-append (entry ∷ front) back = let rest = owed-append front back in omega (arith, rest)

pub worked-falls : {S : Type 0} (step : StepOf S) (before : Machine S) (k : ℕ) (after : Machine S)
    → IsWorked step before k after → owed after.queue < owed before.queue
unfolding owed
worked-falls step before k after worked =
    let old : Entry = record { request = worked.request; progress = Pending } in
    let new : Entry = record { request = worked.request; progress = Done worked.reply } in
    rw (
      worked.queue_is,
      worked.marked,
      owed-append worked.front (old ∷ worked.back),
      owed-append worked.front
          (new ∷ worked.back),
    )
    (omega arith)

owed-unsent : (queue : List Entry) → owed (from_unsent queue) ≡ owed queue
unfolding owed from_unsent
owed-unsent [] = refl
owed-unsent (entry ∷ queue) = by (owed-unsent queue) entry.progress refl
  where
    by : owed (from_unsent queue) ≡ owed queue → (progress : Progress) → entry.progress ≡ progress
        → owed (if is_sent entry.progress then from_unsent queue else entry ∷ queue)
        ≡ steps_left entry.progress + owed queue
    by rest Pending is = rw is refl
    by rest (Done reply) is = rw is refl
    by rest Sent is = rw is (omega (arith, rest))

pub sent-falls : {S : Type 0} (before : Machine S) (k : ℕ) (reply : Reply) (after : Machine S)
    → IsSent before k reply after → owed after.queue < owed before.queue
unfolding owed
sent-falls before k reply after sent =
    let old : Entry = record { request = sent.request; progress = Done reply } in
    let new : Entry = record { request = sent.request; progress = Sent } in
    rw (
      sent.marked,
      sent.queue_is,
      owed-unsent (sent.front ++ new ∷ sent.back),
      owed-append sent.front
          (old ∷ sent.back),
      owed-append sent.front (new ∷ sent.back),
    )
    (omega arith)

-- ---- the first act

unsent-front : (entry : Entry) (queue : List Entry) → from_unsent (entry ∷ queue) ≡ entry ∷ queue
    → is_sent entry.progress ≡ false
unfolding from_unsent
unsent-front entry queue front = by (is_sent entry.progress) refl
  where
    by : (b : Bool) → is_sent entry.progress ≡ b → is_sent entry.progress ≡ false
    by false is = is
    by true is =
        absurd (let shorter = from_unsent-short queue in
        let same : from_unsent queue ≡ entry ∷ queue = rw is at front in
        let size = ap length same in
        omega (arith, shorter, size))

-- a request in front is ready if it is pending: none is before it
pub front-ready : {S : Type 0} (clash : ClashOf S) (machine : Machine S)
    → is_pending_at machine.queue 0 ≡ true → is_ready clash machine 0 ≡ true
unfolding is_free_of
front-ready clash machine pending = by machine.queue refl
  where
    by : (queue : List Entry) → machine.queue ≡ queue → is_ready clash machine 0 ≡ true
    by [] is = absurd (true≢false (sym (rw is at pending)))
    by (entry ∷ queue) is = let now = rw is at pending in rw (is, now) refl

-- nothing is left if the front is neither pending nor done
pub nothing-in_front : (queue : List Entry) → from_unsent queue ≡ queue → is_pending_at queue 0 ≡ false
    → is_some (reply_at queue 0) ≡ false → queue ≡ []
nothing-in_front [] front idle silent = refl
nothing-in_front (entry ∷ queue) front idle silent = by entry.progress refl
  where
    by : (progress : Progress) → entry.progress ≡ progress → entry ∷ queue ≡ []
    by Pending at = absurd (true≢false (rw at at idle))
    by (Done reply) at = absurd (true≢false (rw at at silent))
    by Sent at = absurd (true≢false (rw at at (unsent-front entry queue front)))
