use Rattle.sftp_server.proofs.Imports.{◌≡◌, false, reply_packet, Request, Reply, HasSpelling, StepOf, ClashOf, ◌⊎◌}
use Rattle.sftp_server.proofs.Imports.{◌≤◌, List, [], ◌∷◌, ◌++◌, map, Option, Some, None, AllByRecursion, Event, Run}
use Rattle.sftp_server.proofs.Imports.{Exchange, StandsFor, Entry, Progress, Pending, Done, Sent, Machine, not, true}
use Rattle.sftp_server.proofs.Imports.{refl, sym, ap, subst, ◌∙◌, append_assoc, inl, inr, and_parts, and_from}
use Rattle.sftp_server.proofs.Imports.{not-true, not_from_false, is_free_of, ◌==◌, ◌||◌, ℕ, ◌<◌, length, arith}
use Rattle.sftp_server.proofs.Imports.{length-append, map-append, Asked, Replied, leading_pairs, window, keeps_window}
use Rattle.sftp_server.proofs.Imports.{is_unsent, from_unsent, length-map, is_open, IsAnswered}
use Rattle.sftp_transcript.specs.Explained as explained
use Rattle.sftp_transcript.proofs.pairing.{stands_asked, stands_replied, is_open-append, none_open}
use Rattle.sftp_transcript.proofs.pairing.{keeps_window-answered, keeps_window-few}
pub mod Acts
pub mod Laws

-- ==== What a machine has to keep so that its sessions are explained, in whatever order it does requests that do not
-- clash.

-- some reply to the request is allowed and can be encoded
pub record HasReply {S : Type 0} (step : StepOf S) (s : S) (request : Request) : Type 0 where
  pub reply : Reply
  pub end : S
  pub allowed : step s request reply end
  pub spelled : HasSpelling (reply_packet reply)

-- the laws of a step and a clash, in good states and for requests that are values
pub record Premises {S : Type 0} (step : StepOf S) (clash : ClashOf S) (good : S → Type 0)
    (value : Request → Type 0) : Type 0 where
  -- two requests that do not clash may change places: the replies and the end are the same
  pub exchange : (s mid end : S) (p q : Request) (a b : Reply) → good s → value p → value q → clash s p q ≡ false
      → step s q b mid → step mid p a end → (other : S) × step s p a other × step other q b end
  -- what does not clash with a request makes nothing else clash with it
  pub steady : (s end : S) (p o q : Request) (a : Reply) → good s → value p → value o → value q
      → clash s p q ≡ false → clash s o q ≡ false → step s p a end → clash end o q ≡ false
  -- a good state stays good
  pub stays_good : (s end : S) (p : Request) (a : Reply) → good s → value p → step s p a end → good end
  -- each request has a reply
  pub total : (s : S) (p : Request) → good s → value p → HasReply step s p
  -- a reply has the id of its request
  pub same_id : (s end : S) (p : Request) (a : Reply) → step s p a end → a.id ≡ p.id

-- ==== The requests of a machine with all that is known of their replies, and what a machine keeps of them.

-- how far a request came; unlike in a queue, a reply that was sent is remembered
pub data Fate : Type 0 where
  pending : Fate
  done : Reply → Fate
  sent : Reply → Fate

abbrev pub Item : Type 0
Item = Request × Fate

abbrev pub Pair : Type 0
Pair = Request × Reply

-- ---- the queue and the ledger of items

abbrev pub progress_of : Fate → Progress
progress_of pending = Pending
progress_of (done reply) = Done reply
progress_of (sent reply) = Sent

abbrev pub entry_of : Item → Entry
entry_of item = record { request = item.0; progress = progress_of item.1 }

abbrev pub entries_of : List Item → List Entry
entries_of items = map entry_of items

abbrev pub sent_reply : Fate → Option Reply
sent_reply pending = None
sent_reply (done reply) = None
sent_reply (sent reply) = Some reply

abbrev pub exchange_of : Item → Exchange
exchange_of item = (item.0, sent_reply item.1)

abbrev pub ledger_of : List Item → List Exchange
ledger_of items = map exchange_of items

abbrev pub answered : List Pair → List Exchange
answered [] = []
answered (pair ∷ pairs) = (pair.0, Some pair.1) ∷ answered pairs

-- ---- items whose replies were sent, at the front

abbrev pub sent_first : List Item → List Pair
sent_first [] = []
sent_first ((request, pending) ∷ items) = []
sent_first ((request, done reply) ∷ items) = []
sent_first ((request, sent reply) ∷ items) = (request, reply) ∷ sent_first items

abbrev pub unsent_on : List Item → List Item
unsent_on [] = []
unsent_on ((request, pending) ∷ items) = (request, pending) ∷ items
unsent_on ((request, done reply) ∷ items) = (request, done reply) ∷ items
unsent_on ((request, sent reply) ∷ items) = unsent_on items

-- ---- what a machine keeps

-- a reply that is not sent yet has the id of the request, and can be encoded
abbrev pub IsReplyFor : Request → Fate → Type 0
IsReplyFor request pending = Unit {0}
IsReplyFor request (done reply) = (reply.id ≡ request.id) × HasSpelling (reply_packet reply)
IsReplyFor request (sent reply) = Unit {0}

abbrev pub IsItem : (Request → Type 0) → Item → Type 0
IsItem value item = value item.0 × IsReplyFor item.0 item.1

-- Some of the pending requests, done one after the other from this state with any replies, lead to the end; the others
-- are left out. The pairs are the requests that are done then, with their replies.
abbrev pub Finishes : {S : Type 0} → StepOf S → S → List Item → List Pair → S → Type 0
Finishes step s [] pairs end = (pairs ≡ []) × (end ≡ s)
Finishes {S} step s ((request, pending) ∷ items) pairs end =
    Finishes step s items pairs end
    ⊎ ((reply : Reply) × (mid : S) × (others : List Pair) × step s request reply mid
    × Finishes step mid items others end × (pairs ≡ (request, reply) ∷ others))
Finishes step s ((request, done reply) ∷ items) pairs end =
    (others : List Pair) × Finishes step s items others end × (pairs ≡ (request, reply) ∷ others)
Finishes step s ((request, sent reply) ∷ items) pairs end =
    (others : List Pair) × Finishes step s items others end × (pairs ≡ (request, reply) ∷ others)

-- whichever of the pending requests are done, and however, the requests done are a run from the start
abbrev pub RunsOn : {S : Type 0} → StepOf S → S → List Pair → S → List Item → Type 0
RunsOn {S} step start past s items =
    (pairs : List Pair) (end : S) → Finishes step s items pairs end → Run step start (past ++ pairs) end

-- The requests that left the queue have replies, and those in the queue have items; both in the order asked.
pub record Follows {S : Type 0} (step : StepOf S) (good : S → Type 0) (value : Request → Type 0) (start : S)
    (machine : Machine S) (seen : List Event) : Type 0 where
  pub past : List Pair
  pub items : List Item
  pub queue_is : machine.queue ≡ entries_of items
  pub bounded : machine.window ≤ explained.window
  pub good_state : good machine.state
  pub all : AllByRecursion (IsItem value) items
  pub runs : RunsOn step start past machine.state items
  pub stands : StandsFor (answered past ++ ledger_of items) seen

-- ==== How the run of all requests goes on with each act.

-- ---- runs

pub run-append : {S : Type 0} (step : StepOf S) (start mid end : S) (pairs : List Pair) (request : Request)
    (reply : Reply) → Run step start pairs mid → step mid request reply end
    → Run step start (pairs ++ (request, reply) ∷ []) end
run-append step start mid end [] request reply run last =
    (end, subst (λ s. step s request reply end) run last, refl)
run-append step start mid end (pair ∷ pairs) request reply run last =
    (run.0, run.1, run-append step run.0 mid end pairs request reply run.2 last)

-- ---- a request more

-- it is done last
pub record DoneLast {S : Type 0} (step : StepOf S) (s : S) (items : List Item) (request : Request)
    (pairs : List Pair) (end : S) : Type 0 where
  pub others : List Pair
  pub mid : S
  pub reply : Reply
  pub before : Finishes step s items others mid
  pub last : step mid request reply end
  pub pairs_are : pairs ≡ others ++ (request, reply) ∷ []

-- so it is behind items that are done before
last-behind : {S : Type 0} {step : StepOf S} {s start end : S} {items all : List Item} {request : Request}
    {pairs more : List Pair} (rest : DoneLast step s items request pairs end) (others : List Pair)
    → Finishes step start all others rest.mid → more ≡ others ++ (request, rest.reply) ∷ []
    → DoneLast step start all request more end
last-behind rest others before pairs_are = record {
  others = others;
  mid = rest.mid;
  reply = rest.reply;
  before = before;
  last = rest.last;
  pairs_are = pairs_are;
}

-- the request is left out, or it is done last
finishes-asked : {S : Type 0} (step : StepOf S) (s end : S) (items : List Item) (request : Request) (pairs : List Pair)
    → Finishes step s (items ++ (request, pending) ∷ []) pairs end
    → Finishes step s items pairs end ⊎ DoneLast step s items request pairs end
finishes-asked step s end [] request pairs (inl f) = inl f
finishes-asked step s end [] request pairs (inr f) = inr record {
  others = [];
  mid = s;
  reply = f.0;
  before = (refl, refl);
  last = subst (λ m. step s request f.0 m) (sym f.4.1) f.3;
  pairs_are = f.5 ∙ ap (λ (ps : List Pair). (request, f.0) ∷ ps) f.4.0;
}
finishes-asked step s end ((first, pending) ∷ items) request pairs (inl f) =
    elim (finishes-asked step s end items request pairs f) [
      | inl out ↦ inl (inl out)
      | inr rest ↦ inr (last-behind rest rest.others (inl rest.before) rest.pairs_are)
    ]
finishes-asked step s end ((first, pending) ∷ items) request pairs (inr f) =
    elim (finishes-asked step f.1 end items request f.2 f.4) [
      | inl out ↦ inl (inr (f.0, f.1, f.2, f.3, out, f.5))
      | inr rest ↦ inr (last-behind rest ((first, f.0) ∷ rest.others)
          (inr (f.0, f.1, rest.others, f.3, rest.before, refl))
          (f.5 ∙ ap (λ (ps : List Pair). (first, f.0) ∷ ps) rest.pairs_are))
    ]
finishes-asked step s end ((first, done reply) ∷ items) request pairs f =
    elim (finishes-asked step s end items request f.0 f.1) [
      | inl out ↦ inl (f.0, out, f.2)
      | inr rest ↦ inr (last-behind rest ((first, reply) ∷ rest.others) (rest.others, rest.before, refl)
          (f.2 ∙ ap (λ (ps : List Pair). (first, reply) ∷ ps) rest.pairs_are))
    ]
finishes-asked step s end ((first, sent reply) ∷ items) request pairs f =
    elim (finishes-asked step s end items request f.0 f.1) [
      | inl out ↦ inl (f.0, out, f.2)
      | inr rest ↦ inr (last-behind rest ((first, reply) ∷ rest.others) (rest.others, rest.before, refl)
          (f.2 ∙ ap (λ (ps : List Pair). (first, reply) ∷ ps) rest.pairs_are))
    ]

-- a run that ends with this request
run-last : {S : Type 0} (step : StepOf S) (start s end : S) (past : List Pair) (items : List Item) (request : Request)
    (pairs : List Pair) → RunsOn step start past s items → DoneLast step s items request pairs end
    → Run step start (past ++ pairs) end
run-last step start s end past items request pairs runs d =
    rw (d.pairs_are, ← append_assoc past d.others ((request, d.reply) ∷ []))
    (run-append step start d.mid end (past ++ d.others) request d.reply (runs d.others d.mid d.before) d.last)

pub runs-asked : {S : Type 0} (step : StepOf S) (start s : S) (past : List Pair) (items : List Item) (request : Request)
    → RunsOn step start past s items → RunsOn step start past s (items ++ (request, pending) ∷ [])
runs-asked step start s past items request runs pairs end f =
    elim (finishes-asked step s end items request pairs f) [
      | inl out ↦ runs pairs end out
      | inr d ↦ run-last step start s end past items request pairs runs d
    ]

-- ---- a request done

module _ {S : Type 0} (step : StepOf S) (clash : ClashOf S) (good : S → Type 0) (value : Request → Type 0)
    (laws : Premises step clash good value) where
  -- what is free of the pending requests stays so when one of them is done
  free-kept : (items : List Item) (s end : S) (p q : Request) (a : Reply) → good s → value p → value q
      → AllByRecursion (IsItem value) items → clash s p q ≡ false → step s p a end
      → is_free_of clash s (entries_of items) q ≡ true → is_free_of clash end (entries_of items) q ≡ true
  unfolding is_free_of
  free-kept [] s end p q a fine is_p is_q all apart does free = refl
  free-kept ((o, pending) ∷ items) s end p q a fine is_p is_q all apart does free =
      let parts = and_parts (not (clash s o q)) (is_free_of clash s (entries_of items) q) free in
      let later : clash end o q ≡ false =
      laws.steady s end p o q a fine is_p all.0.0 is_q apart (not-true (clash s o q) parts.0) does in
      and_from (not (clash end o q)) (is_free_of clash end (entries_of items) q) (not_from_false (clash end o q) later)
      (free-kept items s end p q a fine is_p is_q all.1 apart does parts.1)
  free-kept ((o, done reply) ∷ items) s end p q a fine is_p is_q all apart does free =
      free-kept items s end p q a fine is_p is_q all.1 apart does free
  free-kept ((o, sent reply) ∷ items) s end p q a fine is_p is_q all apart does free =
      free-kept items s end p q a fine is_p is_q all.1 apart does free

  -- a request that was done before pending ones of which it is free could as well be done after those that are done
  finishes-worked : (front : List Item) (s next end : S) (request : Request) (reply : Reply) (back : List Item)
      (pairs : List Pair) → good s → value request → AllByRecursion (IsItem value) front
      → is_free_of clash s (entries_of front) request ≡ true → step s request reply next
      → Finishes step next (front ++ (request, done reply) ∷ back) pairs end
      → Finishes step s (front ++ (request, pending) ∷ back) pairs end
  unfolding is_free_of
  finishes-worked [] s next end request reply back pairs fine is all free does f =
      inr (reply, next, f.0, does, f.1, f.2)
  finishes-worked ((p, pending) ∷ front) s next end request reply back pairs fine is all free does (inl f) =
      let parts = and_parts (not (clash s p request)) (is_free_of clash s (entries_of front) request) free in
      inl (finishes-worked front s next end request reply back pairs fine is all.1 parts.1 does f)
  finishes-worked ((p, pending) ∷ front) s next end request reply back pairs fine is all free does (inr f) =
      let parts = and_parts (not (clash s p request)) (is_free_of clash s (entries_of front) request) free in
      let apart = not-true (clash s p request) parts.0 in
      let swapped = laws.exchange s next f.1 p request f.0 reply fine all.0.0 is apart does f.3 in
      let still = laws.stays_good s swapped.0 p f.0 fine all.0.0 swapped.1 in
      let later = free-kept front s swapped.0 p request f.0 fine all.0.0 is all.1 apart swapped.1 parts.1 in
      let rest = finishes-worked front swapped.0 f.1 end request reply back f.2 still is all.1 later swapped.2 f.4 in
      inr (f.0, swapped.0, f.2, swapped.1, rest, f.5)
  finishes-worked ((p, done given) ∷ front) s next end request reply back pairs fine is all free does f =
      (f.0, finishes-worked front s next end request reply back f.0 fine is all.1 free does f.1, f.2)
  finishes-worked ((p, sent given) ∷ front) s next end request reply back pairs fine is all free does f =
      (f.0, finishes-worked front s next end request reply back f.0 fine is all.1 free does f.1, f.2)

  pub runs-worked : (start s next : S) (past : List Pair) (front : List Item) (request : Request) (reply : Reply)
      (back : List Item) → good s → value request → AllByRecursion (IsItem value) front
      → is_free_of clash s (entries_of front) request ≡ true → step s request reply next
      → RunsOn step start past s (front ++ (request, pending) ∷ back)
      → RunsOn step start past next (front ++ (request, done reply) ∷ back)
  runs-worked start s next past front request reply back fine is all free does runs pairs end f =
      runs pairs end (finishes-worked front s next end request reply back pairs fine is all free does f)

-- ---- a reply sent

finishes-sent : {S : Type 0} (step : StepOf S) (s end : S) (front : List Item) (request : Request) (reply : Reply)
    (back : List Item) (pairs : List Pair) → Finishes step s (front ++ (request, sent reply) ∷ back) pairs end
    → Finishes step s (front ++ (request, done reply) ∷ back) pairs end
finishes-sent step s end [] request reply back pairs f = f
finishes-sent step s end ((p, pending) ∷ front) request reply back pairs (inl f) =
    inl (finishes-sent step s end front request reply back pairs f)
finishes-sent step s end ((p, pending) ∷ front) request reply back pairs (inr f) =
    inr (f.0, f.1, f.2, f.3, finishes-sent step f.1 end front request reply back f.2 f.4, f.5)
finishes-sent step s end ((p, done given) ∷ front) request reply back pairs f =
    (f.0, finishes-sent step s end front request reply back f.0 f.1, f.2)
finishes-sent step s end ((p, sent given) ∷ front) request reply back pairs f =
    (f.0, finishes-sent step s end front request reply back f.0 f.1, f.2)

-- what leaves the queue keeps its reply
finishes-left : {S : Type 0} (step : StepOf S) (s end : S) (items : List Item) (pairs : List Pair)
    → Finishes step s (unsent_on items) pairs end → Finishes step s items (sent_first items ++ pairs) end
finishes-left step s end [] pairs f = f
finishes-left step s end ((p, pending) ∷ items) pairs f = f
finishes-left step s end ((p, done given) ∷ items) pairs f = f
finishes-left step s end ((p, sent given) ∷ items) pairs f =
    (sent_first items ++ pairs, finishes-left step s end items pairs f, refl)

pub runs-left : {S : Type 0} (step : StepOf S) (start s : S) (past : List Pair) (items : List Item)
    → RunsOn step start past s items → RunsOn step start (past ++ sent_first items) s (unsent_on items)
runs-left step start s past items runs pairs end f =
    rw (append_assoc past (sent_first items) pairs)
    (runs (sent_first items ++ pairs) end (finishes-left step s end items pairs f))

pub runs-sent : {S : Type 0} (step : StepOf S) (start s : S) (past : List Pair) (front : List Item) (request : Request)
    (reply : Reply) (back : List Item) → RunsOn step start past s (front ++ (request, done reply) ∷ back)
    → RunsOn step start past s (front ++ (request, sent reply) ∷ back)
runs-sent step start s past front request reply back runs pairs end f =
    runs pairs end (finishes-sent step s end front request reply back pairs f)

-- ==== How the ledger of a machine goes on with each act.

-- ---- what was answered

pub all-answered : (pairs : List Pair) → AllByRecursion IsAnswered (answered pairs)
all-answered [] = tt
all-answered (pair ∷ pairs) = (tt, all-answered pairs)

pub answered-append : (xs ys : List Pair) → answered (xs ++ ys) ≡ answered xs ++ answered ys
answered-append [] ys = refl
answered-append (pair ∷ xs) ys =
    ap (λ (l : List Exchange). (pair.0, Some pair.1) ∷ l) (answered-append xs ys)

pub leading-answered : (pairs : List Pair) → leading_pairs (answered pairs) ≡ pairs
unfolding leading_pairs
leading-answered [] = refl
leading-answered (pair ∷ pairs) = ap (λ (ps : List Pair). pair ∷ ps) (leading-answered pairs)

-- ---- requests that wait

open-items : (id : ℕ) (items : List Item) → is_open id (ledger_of items) ≡ is_unsent id (entries_of items)
unfolding is_open is_unsent
open-items id [] = refl
open-items id ((request, pending) ∷ items) = ap (λ b. (request.id == id) || b) (open-items id items)
open-items id ((request, done reply) ∷ items) = ap (λ b. (request.id == id) || b) (open-items id items)
open-items id ((request, sent reply) ∷ items) = open-items id items

-- a request waits if an unsent one in the queue has its id
open-queue : (id : ℕ) (past : List Pair) (items : List Item)
    → is_open id (answered past ++ ledger_of items) ≡ is_unsent id (entries_of items)
open-queue id past items =
    is_open-append id (answered past) (ledger_of items)
    ∙ ap (λ b. b || is_open id (ledger_of items)) (none_open (answered past) id (all-answered past))
    ∙ open-items id items

-- ---- a request more

same_length : (items : List Item) → length (ledger_of items) ≡ length (entries_of items)
same_length items = length-map items exchange_of ∙ sym (length-map items entry_of)

pub stands-taken : (past : List Pair) (items : List Item) (seen : List Event) (request : Request)
    → StandsFor (answered past ++ ledger_of items) seen → is_unsent request.id (entries_of items) ≡ false
    → length (entries_of items) < window
    → StandsFor (answered past ++ ledger_of (items ++ (request, pending) ∷ [])) (seen ++ Asked request ∷ [])
stands-taken past items seen request stands free few =
    let few_exchanges : length (ledger_of items ++ (request, None) ∷ []) ≤ window =
    omega (arith, length-append (ledger_of items) ((request, None) ∷ []), same_length items) in
    let more : answered past ++ ledger_of (items ++ (request, pending) ∷ [])
    ≡ (answered past ++ ledger_of items) ++ (request, None) ∷ [] =
    ap (λ (l : List Exchange). answered past ++ l) (map-append exchange_of items ((request, pending) ∷ []))
    ∙ sym (append_assoc (answered past) (ledger_of items) ((request, None) ∷ [])) in
    let waiting : List Exchange = ledger_of items ++ (request, None) ∷ [] in
    let kept : keeps_window ((answered past ++ ledger_of items) ++ (request, None) ∷ []) [] ≡ true =
    ap (λ (l : List Exchange). keeps_window l [])
    (append_assoc (answered past) (ledger_of items) ((request, None) ∷ []))
    ∙ keeps_window-answered (answered past) waiting [] (all-answered past) ∙ keeps_window-few waiting few_exchanges in
    subst (λ (l : List Exchange). StandsFor l (seen ++ Asked request ∷ [])) (sym more)
    (stands_asked (answered past ++ ledger_of items) seen request stands (open-queue request.id past items ∙ free) kept)

-- ---- a request done

-- the ledger is as it was
pub ledger-worked : (front : List Item) (request : Request) (reply : Reply) (back : List Item)
    → ledger_of (front ++ (request, done reply) ∷ back) ≡ ledger_of (front ++ (request, pending) ∷ back)
ledger-worked [] request reply back = refl
ledger-worked (item ∷ front) request reply back =
    ap (λ (l : List Exchange). exchange_of item ∷ l) (ledger-worked front request reply back)

-- ---- a reply sent

pub stands-sent : (past : List Pair) (front : List Item) (request : Request) (reply : Reply) (back : List Item)
    (seen : List Event) → StandsFor (answered past ++ ledger_of (front ++ (request, done reply) ∷ back)) seen
    → reply.id ≡ request.id
    → StandsFor (answered past ++ ledger_of (front ++ (request, sent reply) ∷ back)) (seen ++ Replied reply ∷ [])
stands-sent past front request reply back seen stands same =
    let before : answered past ++ ledger_of (front ++ (request, done reply) ∷ back)
    ≡ (answered past ++ ledger_of front) ++ (request, None) ∷ ledger_of back =
    ap (λ (l : List Exchange). answered past ++ l) (map-append exchange_of front ((request, done reply) ∷ back))
    ∙ sym (append_assoc (answered past) (ledger_of front) ((request, None) ∷ ledger_of back)) in
    let after : answered past ++ ledger_of (front ++ (request, sent reply) ∷ back)
    ≡ (answered past ++ ledger_of front) ++ (request, Some reply) ∷ ledger_of back =
    ap (λ (l : List Exchange). answered past ++ l) (map-append exchange_of front ((request, sent reply) ∷ back))
    ∙ sym (append_assoc (answered past) (ledger_of front) ((request, Some reply) ∷ ledger_of back)) in
    let waits : StandsFor ((answered past ++ ledger_of front) ++ (request, None) ∷ ledger_of back) seen =
    subst (λ (l : List Exchange). StandsFor l seen) before stands in
    subst (λ (l : List Exchange). StandsFor l (seen ++ Replied reply ∷ [])) (sym after)
    (stands_replied (answered past ++ ledger_of front) request reply (ledger_of back) seen waits (sym same))

-- ---- what leaves the queue

pub queue-left : (items : List Item) → from_unsent (entries_of items) ≡ entries_of (unsent_on items)
unfolding from_unsent
queue-left [] = refl
queue-left ((request, pending) ∷ items) = refl
queue-left ((request, done reply) ∷ items) = refl
queue-left ((request, sent reply) ∷ items) = queue-left items

ledger-split : (items : List Item) → answered (sent_first items) ++ ledger_of (unsent_on items) ≡ ledger_of items
ledger-split [] = refl
ledger-split ((request, pending) ∷ items) = refl
ledger-split ((request, done reply) ∷ items) = refl
ledger-split ((request, sent reply) ∷ items) =
    ap (λ (l : List Exchange). (request, Some reply) ∷ l) (ledger-split items)

pub ledger-left : (past : List Pair) (items : List Item)
    → answered (past ++ sent_first items) ++ ledger_of (unsent_on items) ≡ answered past ++ ledger_of items
ledger-left past items =
    ap (λ (l : List Exchange). l ++ ledger_of (unsent_on items)) (answered-append past (sent_first items))
    ∙ append_assoc (answered past) (answered (sent_first items)) (ledger_of (unsent_on items))
    ∙ ap (λ (l : List Exchange). answered past ++ l) (ledger-split items)

pub all-left : (P : Item → Type 0) (items : List Item) → AllByRecursion P items → AllByRecursion P (unsent_on items)
all-left P [] all = all
all-left P ((request, pending) ∷ items) all = all
all-left P ((request, done reply) ∷ items) all = all
all-left P ((request, sent reply) ∷ items) all = all-left P items all.1
