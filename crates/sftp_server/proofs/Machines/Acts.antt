-- Each act keeps what a machine keeps.
use Rattle.sftp_server.proofs.Imports.{◌≡◌, true, List, [], ◌∷◌, ◌++◌, Some, None, refl, sym, ap, subst, ◌∙◌}
use Rattle.sftp_server.proofs.Imports.{append_assoc, append-nil, inr, AllByRecursion, and_from, Request, Reply, Event}
use Rattle.sftp_server.proofs.Imports.{Replied, IsEvent, StepOf, Run, Explained, BeginsFrom, leading_pairs}
use Rattle.sftp_server.proofs.Imports.{exchanges_of, in_window, Exchange, StandsFor, keeps_window, Machine, ClashOf}
use Rattle.sftp_server.proofs.Imports.{inl, next_reply, AreDone, LeadsTo, with_replies, not, nat_lt, ℕ, zero, suc}
use Rattle.sftp_server.proofs.Imports.{◌<◌, ◌≤◌, Bool, false, length, get_or, take, drop, slice_get, Option, ap₂}
use Rattle.sftp_server.proofs.Imports.{subst₂, arith, and_parts, ltb-true, not-true, map-append, take_at, Asked}
use Rattle.sftp_server.proofs.Imports.{window, Entry, Progress, Pending, Done, Sent, Act, Deliver, Work, Send}
use Rattle.sftp_server.proofs.Imports.{at_start, taken, can_take, is_unsent, is_free_of, ready_in, is_ready, reply_at}
use Rattle.sftp_server.proofs.Imports.{from_unsent, IsWorked, IsSent, IsIdle, IsDelivery, IsWork, IsSend, IsAct}
use Rattle.sftp_server.proofs.Imports.{AreActs, Delivers, all_both}
use Rattle.sftp_transcript.proofs.pairing.{stands_replied, complete, stands_from_start}
use Rattle.sftp_server.proofs.Machines.{Premises}
use Rattle.sftp_server.proofs.Machines.{Item, Pair, pending, done, sent, entries_of, ledger_of, answered}
use Rattle.sftp_server.proofs.Machines.{IsItem, Finishes, RunsOn, Follows, Fate, progress_of, entry_of}
use Rattle.sftp_server.proofs.Machines.{sent_first, unsent_on, IsReplyFor}
use Rattle.sftp_server.proofs.Machines.{all-answered, answered-append, leading-answered, stands-taken}
use Rattle.sftp_server.proofs.Machines.{ledger-worked, stands-sent, queue-left, ledger-left, all-left}
use Rattle.sftp_server.proofs.Machines.{runs-asked, runs-worked, runs-sent, runs-left}

-- ==== A machine can go on until each request is answered, and its session is then explained.

-- these events answer the requests that wait, and these pairs are the items then
abbrev Answers : List Item → List Pair → List Event → Type 0
Answers items pairs more =
    (front : List Exchange) (seen : List Event) → StandsFor (front ++ ledger_of items) seen
    → StandsFor (front ++ answered pairs) (seen ++ more)

record Ending {S : Type 0} (step : StepOf S) (s : S) (items : List Item) : Type 0 where
  pairs : List Pair
  end : S
  more : List Event
  finishes : Finishes step s items pairs end
  recordable : AllByRecursion IsEvent more
  answers : Answers items pairs more

-- nothing waits
answers-none : Answers [] [] []
answers-none front seen stands = subst (StandsFor (front ++ [])) (sym (append-nil seen)) stands

-- the first is answered already
answers-sent : (request : Request) (reply : Reply) (items : List Item) (pairs : List Pair) (more : List Event)
    → Answers items pairs more → Answers ((request, sent reply) ∷ items) ((request, reply) ∷ pairs) more
answers-sent request reply items pairs more rest front seen stands =
    let one : List Exchange = (request, Some reply) ∷ [] in
    let before : StandsFor ((front ++ one) ++ ledger_of items) seen =
    rw (append_assoc front one (ledger_of items)) stands in
    let after : StandsFor ((front ++ one) ++ answered pairs) (seen ++ more) = rest (front ++ one) seen before in
    subst (λ (l : List Exchange). StandsFor l (seen ++ more)) (append_assoc front one (answered pairs)) after

-- the first is answered next
answers-next : (request : Request) (reply : Reply) (items : List Item) (pairs : List Pair) (more : List Event)
    → reply.id ≡ request.id → Answers items pairs more
    → (front : List Exchange) (seen : List Event) → StandsFor (front ++ (request, None) ∷ ledger_of items) seen
    → StandsFor (front ++ (request, Some reply) ∷ answered pairs) (seen ++ Replied reply ∷ more)
answers-next request reply items pairs more same rest front seen stands =
    let next : StandsFor (front ++ (request, Some reply) ∷ ledger_of items) (seen ++ Replied reply ∷ []) =
    stands_replied front request reply (ledger_of items) seen stands (sym same) in
    let all : StandsFor (front ++ (request, Some reply) ∷ answered pairs) ((seen ++ Replied reply ∷ []) ++ more) =
    answers-sent request reply items pairs more rest front (seen ++ Replied reply ∷ []) next in
    subst (StandsFor (front ++ (request, Some reply) ∷ answered pairs)) (append_assoc seen (Replied reply ∷ []) more)
    all

module _ {S : Type 0} (step : StepOf S) (clash : ClashOf S) (good : S → Type 0) (value : Request → Type 0)
    (laws : Premises step clash good value) where
  -- the pending requests are done in the order asked, and then all unsent replies are sent in this order
  ending-of : (items : List Item) (s : S) → good s → AllByRecursion (IsItem value) items → Ending step s items
  ending-of [] s fine all = record {
    pairs = [];
    end = s;
    more = [];
    finishes = (refl, refl);
    recordable = tt;
    answers = answers-none;
  }
  ending-of ((request, pending) ∷ items) s fine all =
      let first = laws.total s request fine all.0.0 in
      let same = laws.same_id s first.end request first.reply first.allowed in
      let still = laws.stays_good s first.end request first.reply fine all.0.0 first.allowed in
      let rest = ending-of items first.end still all.1 in
      record {
        pairs = (request, first.reply) ∷ rest.pairs;
        end = rest.end;
        more = Replied first.reply ∷ rest.more;
        finishes = inr (first.reply, first.end, rest.pairs, first.allowed, rest.finishes, refl);
        recordable = (first.spelled, rest.recordable);
        answers = answers-next request first.reply items rest.pairs rest.more same rest.answers;
      }
  ending-of ((request, done reply) ∷ items) s fine all =
      let rest = ending-of items s fine all.1 in
      record {
        pairs = (request, reply) ∷ rest.pairs;
        end = rest.end;
        more = Replied reply ∷ rest.more;
        finishes = (rest.pairs, rest.finishes, refl);
        recordable = (all.0.1.1, rest.recordable);
        answers = answers-next request reply items rest.pairs rest.more all.0.1.0 rest.answers;
      }
  ending-of ((request, sent reply) ∷ items) s fine all =
      let rest = ending-of items s fine all.1 in
      record {
        pairs = (request, reply) ∷ rest.pairs;
        end = rest.end;
        more = rest.more;
        finishes = (rest.pairs, rest.finishes, refl);
        recordable = rest.recordable;
        answers = answers-sent request reply items rest.pairs rest.more rest.answers;
      }

  -- pairs that a ledger has, all of them answered, explain the events
  explained-by : (start end : S) (pairs : List Pair) (events : List Event) → StandsFor (answered pairs) events
      → Run step start pairs end → Explained step start events end
  explained-by start end pairs events stands run =
      let whole = complete (answered pairs) events stands (all-answered pairs) in
      let pairs_are : leading_pairs (exchanges_of events) ≡ pairs =
      ap leading_pairs whole.exchanges_are ∙ leading-answered pairs in
      record {
        matching = whole.matching;
        within_window = whole.within_window;
        run = subst (λ (ps : List Pair). Run step start ps end) (sym pairs_are) run;
      }

  pub begins : (start : S) (machine : Machine S) (seen : List Event) → Follows step good value start machine seen
      → BeginsFrom step start seen
  begins start machine seen f =
      let ending = ending-of f.items machine.state f.good_state f.all in
      let stands : StandsFor (answered (f.past ++ ending.pairs)) (seen ++ ending.more) =
      subst (λ (l : List Exchange). StandsFor l (seen ++ ending.more)) (sym (answered-append f.past ending.pairs))
      (ending.answers (answered f.past) seen f.stands) in
      record {
        more = ending.more;
        end = ending.end;
        recordable = ending.recordable;
        explained = explained-by start ending.end (f.past ++ ending.pairs) (seen ++ ending.more) stands
            (f.runs ending.pairs ending.end ending.finishes);
      }

  no-items : (items : List Item) → entries_of items ≡ [] → items ≡ []
  no-items [] e = refl
  no-items (item ∷ items) e = absurd cc

  pub explained : (start : S) (machine : Machine S) (seen : List Event) → Follows step good value start machine seen
      → machine.queue ≡ [] → Explained step start seen machine.state
  explained start machine seen f empty =
      let none : f.items ≡ [] = no-items f.items (sym f.queue_is ∙ empty) in
      let past : answered f.past ++ ledger_of f.items ≡ answered f.past =
      ap (λ (is : List Item). answered f.past ++ ledger_of is) none ∙ append-nil (answered f.past) in
      let stands : StandsFor (answered f.past) seen = subst (λ (l : List Exchange). StandsFor l seen) past f.stands in
      let runs : RunsOn step start f.past machine.state [] =
      subst (RunsOn step start f.past machine.state) none f.runs in
      let run : Run step start f.past machine.state =
      subst (λ (ps : List Pair). Run step start ps machine.state) (append-nil f.past)
      (runs [] machine.state (refl, refl)) in
      explained-by start machine.state f.past seen stands run

-- the window holds of the events so far
pub in-window : {S : Type 0} (step : StepOf S) (good : S → Type 0) (value : Request → Type 0) (start : S)
    (machine : Machine S) (seen : List Event) → Follows step good value start machine seen → in_window seen ≡ true
unfolding in_window
in-window step good value start machine seen f =
    ap in_window (sym (append-nil seen)) ∙ f.stands.window_is []
    ∙ and_from (keeps_window (answered f.past ++ ledger_of f.items) []) (in_window []) f.stands.in_time refl

-- ==== The requests that a machine has done, in the order asked, lead to its state.

-- the requests done, with their replies
abbrev done_of : List Item → List Pair
done_of [] = []
done_of ((request, pending) ∷ items) = done_of items
done_of ((request, done reply) ∷ items) = (request, reply) ∷ done_of items
done_of ((request, sent reply) ∷ items) = (request, reply) ∷ done_of items

-- each pending request is left out
all-left-out : {S : Type 0} (step : StepOf S) (s : S) (items : List Item) → Finishes step s items (done_of items) s
all-left-out step s [] = (refl, refl)
all-left-out step s ((request, pending) ∷ items) = inl (all-left-out step s items)
all-left-out step s ((request, done reply) ∷ items) = (done_of items, all-left-out step s items, refl)
all-left-out step s ((request, sent reply) ∷ items) = (done_of items, all-left-out step s items, refl)

items-done : (items : List Item) → AreDone (ledger_of items) (done_of items)
unfolding AreDone
items-done [] = refl
items-done ((request, pending) ∷ items) = inl (items-done items)
items-done ((request, done reply) ∷ items) = inr (reply, done_of items, refl, items-done items)
items-done ((request, sent reply) ∷ items) = (done_of items, refl, items-done items)

all-done : (past : List Pair) (items : List Item)
    → AreDone (answered past ++ ledger_of items) (past ++ done_of items)
unfolding AreDone
all-done [] items = items-done items
all-done (pair ∷ past) items = (past ++ done_of items, refl, all-done past items)

-- a ledger to which no reply comes
none-come : (ledger : List Exchange) → with_replies ledger [] ≡ ledger
unfolding with_replies next_reply
none-come [] = refl
none-come ((request, None) ∷ ledger) = ap (λ (l : List Exchange). (request, None) ∷ l) (none-come ledger)
none-come ((request, Some reply) ∷ ledger) = ap (λ (l : List Exchange). (request, Some reply) ∷ l) (none-come ledger)

-- the requests done lead from the start to the machine's state
pub leads-to : {S : Type 0} (step : StepOf S) (good : S → Type 0) (value : Request → Type 0) (start : S)
    (machine : Machine S) (seen : List Event) → Follows step good value start machine seen
    → LeadsTo step start seen machine.state
unfolding exchanges_of
leads-to step good value start machine seen f =
    let ledger : List Exchange = answered f.past ++ ledger_of f.items in
    let are : exchanges_of seen ≡ ledger =
    ap exchanges_of (sym (append-nil seen)) ∙ f.stands.exchanges_are []
    ∙ append-nil (with_replies ledger []) ∙ none-come ledger in
    record {
      done = f.past ++ done_of f.items;
      are_done = subst (λ (l : List Exchange). AreDone l (f.past ++ done_of f.items)) (sym are)
          (all-done f.past f.items);
      run = f.runs (done_of f.items) machine.state (all-left-out step machine.state f.items);
    }

-- ---- lists

pub record AllParts {X : Type 0} (P : X → Type 0) (xs : List X) (x : X) (ys : List X) : Type 0 where
  pub before : AllByRecursion P xs
  pub here : P x
  pub after : AllByRecursion P ys

pub all-parts : {X : Type 0} (P : X → Type 0) (xs : List X) (x : X) (ys : List X) → AllByRecursion P (xs ++ x ∷ ys)
    → AllParts P xs x ys
all-parts P [] x ys all = record { before = tt; here = all.0; after = all.1 }
all-parts P (first ∷ xs) x ys all =
    let rest = all-parts P xs x ys all.1 in
    record { before = (all.0, rest.before); here = rest.here; after = rest.after }

slice_get-middle : {X : Type 0} (xs : List X) (x : X) (ys : List X) → slice_get (xs ++ x ∷ ys) (length xs) ≡ Some x
slice_get-middle [] x ys = refl
slice_get-middle (first ∷ xs) x ys = slice_get-middle xs x ys

-- ---- the item at a place of the queue

-- items, of which this one is the entry at a place of the queue
record At (items : List Item) (front : List Entry) (request : Request) (fate : Fate) (back : List Entry) : Type 0 where
  front_items : List Item
  back_items : List Item
  items_are : items ≡ front_items ++ (request, fate) ∷ back_items
  front_is : entries_of front_items ≡ front
  back_is : entries_of back_items ≡ back

head-same : {X : Type 0} (x y : X) (xs ys : List X) → (x ∷ xs) ≡ (y ∷ ys) → (x ≡ y) × (xs ≡ ys)
head-same {X} x y xs ys e = (ap (λ (l : List X). get_or l zero x) e, ap (λ (l : List X). drop (suc zero) l) e)

given : Reply → Progress → Reply
given reply (Done known) = known
given reply Pending = reply
given reply Sent = reply

fate-pending : (fate : Fate) → progress_of fate ≡ Pending → fate ≡ pending
fate-pending pending e = refl
fate-pending (done reply) e = absurd cc
fate-pending (sent reply) e = absurd cc

fate-done : (fate : Fate) (reply : Reply) → progress_of fate ≡ Done reply → fate ≡ done reply
unfolding given
fate-done pending reply e = absurd cc
fate-done (done known) reply e = ap done (ap (given known) e)
fate-done (sent known) reply e = absurd cc

abbrev item_of : Request → Fate → Item
item_of request fate = (request, fate)

-- an entry that is pending or done shows the item
same-pending : (item : Item) (request : Request) → entry_of item ≡ entry_of (request, pending)
    → item ≡ (request, pending)
same-pending item request e =
    ap₂ item_of (ap (λ (x : Entry). x.request) e) (fate-pending item.1 (ap (λ (x : Entry). x.progress) e))

same-done : (item : Item) (request : Request) (reply : Reply) → entry_of item ≡ entry_of (request, done reply)
    → item ≡ (request, done reply)
same-done item request reply e =
    ap₂ item_of (ap (λ (x : Entry). x.request) e) (fate-done item.1 reply (ap (λ (x : Entry). x.progress) e))

at-place : (items : List Item) (front : List Entry) (request : Request) (fate : Fate) (back : List Entry)
    → ((item : Item) → entry_of item ≡ entry_of (request, fate) → item ≡ (request, fate))
    → entries_of items ≡ front ++ entry_of (request, fate) ∷ back → At items front request fate back
at-place [] [] request fate back same e = absurd cc
at-place [] (entry ∷ front) request fate back same e = absurd cc
at-place (item ∷ items) [] request fate back same e =
    let parts = head-same (entry_of item) (entry_of (request, fate)) (entries_of items) back e in
    record {
      front_items = [];
      back_items = items;
      items_are = ap (λ (i : Item). i ∷ items) (same item parts.0);
      front_is = refl;
      back_is = parts.1;
    }
at-place (item ∷ items) (entry ∷ front) request fate back same e =
    let parts = head-same (entry_of item) entry (entries_of items) (front ++ entry_of (request, fate) ∷ back) e in
    let rest = at-place items front request fate back same parts.1 in
    record {
      front_items = item ∷ rest.front_items;
      back_items = rest.back_items;
      items_are = ap (λ (is : List Item). item ∷ is) rest.items_are;
      front_is = ap₂ (λ (x : Entry) (xs : List Entry). x ∷ xs) parts.0 rest.front_is;
      back_is = rest.back_is;
    }

-- the queue of items, one of which is at a place
entries-split : (front : List Item) (item : Item) (back : List Item) (xs ys : List Entry) → entries_of front ≡ xs
    → entries_of back ≡ ys → entries_of (front ++ item ∷ back) ≡ xs ++ entry_of item ∷ ys
entries-split front item back xs ys front_is back_is =
    map-append entry_of front (item ∷ back)
    ∙ ap₂ (λ (x : List Entry) (y : List Entry). x ++ entry_of item ∷ y) front_is back_is

-- ---- readiness

ready-free : {S : Type 0} (clash : ClashOf S) (s : S) (queue front : List Entry) (request : Request) (back : List Entry)
    (k : ℕ) → queue ≡ front ++ entry_of (request, pending) ∷ back → length front ≡ k
    → ready_in clash s (take k queue) (slice_get queue k) ≡ true → is_free_of clash s front request ≡ true
ready-free clash s queue front request back k queue_is position ready =
    let entry : Entry = entry_of (request, pending) in
    let before : take k queue ≡ front = ap (take k) queue_is ∙ take_at front (entry ∷ back) k position in
    let here : slice_get queue k ≡ Some entry =
    ap₂ slice_get queue_is (sym position) ∙ slice_get-middle front entry back in
    subst₂ (λ (q : List Entry) (o : Option Entry). ready_in clash s q o ≡ true) before here ready

-- ---- acts

module _ {S : Type 0} (step : StepOf S) (clash : ClashOf S) (good : S → Type 0) (value : Request → Type 0)
    (laws : Premises step clash good value) (start : S) where
  abbrev FollowsTo : Machine S → List Event → Type 0
  FollowsTo machine seen = Follows step good value start machine seen

  -- nothing was asked yet
  pub follows-start : (window_of : ℕ) → good start → window_of ≤ window → FollowsTo (at_start start window_of) []
  follows-start window_of fine bound = record {
    past = [];
    items = [];
    queue_is = refl;
    bounded = bound;
    good_state = fine;
    all = tt;
    runs = λ pairs end f. subst (λ (ps : List Pair). Run step start ps end) (sym f.0) f.1;
    stands = stands_from_start;
  }

  follows-taken : (before : Machine S) (seen : List Event) (request : Request) → FollowsTo before seen → value request
      → can_take before request ≡ true → FollowsTo (taken before request) (seen ++ Asked request ∷ [])
  follows-taken before seen request f is can =
      let shut = is_unsent request.id before.queue in
      let parts = and_parts (nat_lt (length before.queue) before.window) (not shut) can in
      let free : is_unsent request.id (entries_of f.items) ≡ false =
      ap (is_unsent request.id) (sym f.queue_is) ∙ not-true shut parts.1 in
      let room : length before.queue < window = omega (arith, ltb-true _ _ parts.0, f.bounded) in
      let few : length (entries_of f.items) < window =
      subst (λ (q : List Entry). length q < window) f.queue_is room in
      record {
        past = f.past;
        items = f.items ++ (request, pending) ∷ [];
        queue_is = ap (λ (q : List Entry). q ++ entry_of (request, pending) ∷ []) f.queue_is
            ∙ sym (map-append entry_of f.items ((request, pending) ∷ []));
        bounded = f.bounded;
        good_state = f.good_state;
        all = all_both (IsItem value) f.items ((request, pending) ∷ []) f.all ((is, tt), tt);
        runs = runs-asked step start before.state f.past f.items request f.runs;
        stands = stands-taken f.past f.items seen request f.stands free few;
      }

  follows-worked : (before : Machine S) (seen : List Event) (k : ℕ) (after : Machine S) → FollowsTo before seen
      → is_ready clash before k ≡ true → IsWorked step before k after → FollowsTo after seen
  follows-worked before seen k after f ready w =
      let place = at-place f.items w.front w.request pending w.back (λ item e. same-pending item w.request e)
      (sym f.queue_is ∙ w.queue_is) in
      let parts = all-parts (IsItem value) place.front_items (w.request, pending) place.back_items
      (subst (AllByRecursion (IsItem value)) place.items_are f.all) in
      let same = laws.same_id before.state after.state w.request w.reply w.allowed in
      let free : is_free_of clash before.state (entries_of place.front_items) w.request ≡ true =
      subst (λ (q : List Entry). is_free_of clash before.state q w.request ≡ true) (sym place.front_is)
      (ready-free clash before.state before.queue w.front w.request w.back k w.queue_is w.position ready) in
      let item : Item = (w.request, done w.reply) in
      let items : List Item = place.front_items ++ item ∷ place.back_items in
      let same_ledger : ledger_of f.items ≡ ledger_of items =
      ap ledger_of place.items_are ∙ sym (ledger-worked place.front_items w.request w.reply place.back_items) in
      record {
        past = f.past;
        items = items;
        queue_is = w.marked
            ∙ sym (entries-split place.front_items item place.back_items w.front w.back place.front_is place.back_is);
        bounded = subst (λ (n : ℕ). n ≤ window) (sym w.same_window) f.bounded;
        good_state = laws.stays_good before.state after.state w.request w.reply f.good_state parts.here.0 w.allowed;
        all = all_both (IsItem value) place.front_items (item ∷ place.back_items) parts.before
            ((parts.here.0, (same, w.spelled)), parts.after);
        runs = runs-worked step clash good value laws start before.state after.state f.past place.front_items w.request
            w.reply place.back_items f.good_state parts.here.0 parts.before free w.allowed
            (subst (RunsOn step start f.past before.state) place.items_are f.runs);
        stands = subst (λ (l : List Exchange). StandsFor (answered f.past ++ l) seen) same_ledger f.stands;
      }

  follows-sent : (before : Machine S) (seen : List Event) (k : ℕ) (reply : Reply) (after : Machine S)
      → FollowsTo before seen → IsSent before k reply after → FollowsTo after (seen ++ Replied reply ∷ [])
  follows-sent before seen k reply after f w =
      let place = at-place f.items w.front w.request (done reply) w.back (λ item e. same-done item w.request reply e)
      (sym f.queue_is ∙ w.queue_is) in
      let parts = all-parts (IsItem value) place.front_items (w.request, done reply) place.back_items
      (subst (AllByRecursion (IsItem value)) place.items_are f.all) in
      let item : Item = (w.request, sent reply) in
      let items : List Item = place.front_items ++ item ∷ place.back_items in
      let all : AllByRecursion (IsItem value) items =
      all_both (IsItem value) place.front_items (item ∷ place.back_items) parts.before
      ((parts.here.0, tt), parts.after) in
      let runs : RunsOn step start f.past before.state items =
      runs-sent step start before.state f.past place.front_items w.request reply place.back_items
      (subst (RunsOn step start f.past before.state) place.items_are f.runs) in
      let stands : StandsFor (answered f.past ++ ledger_of items) (seen ++ Replied reply ∷ []) =
      stands-sent f.past place.front_items w.request reply place.back_items seen
      (subst (λ (is : List Item). StandsFor (answered f.past ++ ledger_of is) seen) place.items_are f.stands)
      parts.here.1.0 in
      let queue : w.front ++ record { request = w.request; progress = Sent } ∷ w.back ≡ entries_of items =
      sym (entries-split place.front_items item place.back_items w.front w.back place.front_is place.back_is) in
      subst (λ (m : Machine S). FollowsTo m (seen ++ Replied reply ∷ [])) (sym w.marked)
      (record {
        past = f.past ++ sent_first items;
        items = unsent_on items;
        queue_is = ap from_unsent queue ∙ queue-left items;
        bounded = f.bounded;
        good_state = f.good_state;
        all = all-left (IsItem value) items all;
        runs = runs-left step start before.state f.past items runs;
        stands = subst (λ (l : List Exchange). StandsFor l (seen ++ Replied reply ∷ []))
            (sym (ledger-left f.past items)) stands;
      })

  -- a reply that is sent has the id of its request, and can be encoded
  pub follows-reply : (before : Machine S) (seen : List Event) (k : ℕ) (reply : Reply) (after : Machine S)
      → FollowsTo before seen → (w : IsSent before k reply after) → IsReplyFor w.request (done reply)
  follows-reply before seen k reply after f w =
      let place = at-place f.items w.front w.request (done reply) w.back (λ item e. same-done item w.request reply e)
      (sym f.queue_is ∙ w.queue_is) in
      let parts = all-parts (IsItem value) place.front_items (w.request, done reply) place.back_items
      (subst (AllByRecursion (IsItem value)) place.items_are f.all) in
      parts.here.1

  follows-idle : (before : Machine S) (seen events : List Event) (after : Machine S) → FollowsTo before seen
      → IsIdle before events after → FollowsTo after (seen ++ events)
  follows-idle before seen events after f idle =
      let none : seen ++ events ≡ seen = ap (λ (es : List Event). seen ++ es) idle.silent ∙ append-nil seen in
      subst₂ FollowsTo (sym idle.unchanged) (sym none) f

  follows-delivery : (before : Machine S) (seen : List Event) (request : Request) (events : List Event)
      (after : Machine S) → FollowsTo before seen → value request → (can : Bool) → can_take before request ≡ can
      → IsDelivery can before request events after → FollowsTo after (seen ++ events)
  follows-delivery before seen request events after f is true can d =
      subst₂ (λ (m : Machine S) (es : List Event). FollowsTo m (seen ++ es)) (sym d.0) (sym d.1)
      (follows-taken before seen request f is can)
  follows-delivery before seen request events after f is false can d = follows-idle before seen events after f d

  follows-work : (before : Machine S) (seen : List Event) (k : ℕ) (events : List Event) (after : Machine S)
      → FollowsTo before seen → (ready : Bool) → is_ready clash before k ≡ ready
      → IsWork step ready before k events after → FollowsTo after (seen ++ events)
  follows-work before seen k events after f true ready w =
      let none : seen ++ events ≡ seen = ap (λ (es : List Event). seen ++ es) w.1 ∙ append-nil seen in
      subst (FollowsTo after) (sym none) (follows-worked before seen k after f ready w.0)
  follows-work before seen k events after f false ready w = follows-idle before seen events after f w

  follows-send : (before : Machine S) (seen : List Event) (k : ℕ) (events : List Event) (after : Machine S)
      → FollowsTo before seen → (reply : Option Reply) → IsSend reply before k events after
      → FollowsTo after (seen ++ events)
  follows-send before seen k events after f (Some reply) w =
      subst (λ (es : List Event). FollowsTo after (seen ++ es)) (sym w.1) (follows-sent before seen k reply after f w.0)
  follows-send before seen k events after f None w = follows-idle before seen events after f w

  pub follows-act : (before : Machine S) (seen : List Event) (act : Act) (events : List Event) (after : Machine S)
      → FollowsTo before seen → Delivers value act → IsAct step clash before act events after
      → FollowsTo after (seen ++ events)
  follows-act before seen (Deliver request) events after f is a =
      follows-delivery before seen request events after f is (can_take before request) refl a
  follows-act before seen (Work k) events after f is a =
      follows-work before seen k events after f (is_ready clash before k) refl a
  follows-act before seen (Send k) events after f is a =
      follows-send before seen k events after f (reply_at before.queue k) a

  pub follows-acts : (before : Machine S) (seen : List Event) (acts : List Act) (events : List Event)
      (after : Machine S) → FollowsTo before seen → AllByRecursion (Delivers value) acts
      → AreActs step clash before acts events after → FollowsTo after (seen ++ events)
  follows-acts before seen [] events after f all idle = follows-idle before seen events after f idle
  follows-acts before seen (act ∷ acts) events after f all run =
      let first = follows-act before seen act run.1 run.0 f all.0 run.3 in
      let rest = follows-acts run.0 (seen ++ run.1) acts run.2 after first all.1 run.4 in
      subst (FollowsTo after)
      (append_assoc seen run.1 run.2 ∙ ap (λ (es : List Event). seen ++ es) (sym run.5)) rest

-- one act more
pub acts-more : {S : Type 0} (step : StepOf S) (clash : ClashOf S) (before mid after : Machine S) (acts : List Act)
    (events : List Event) (act : Act) (more : List Event) → AreActs step clash before acts events mid
    → IsAct step clash mid act more after → AreActs step clash before (acts ++ act ∷ []) (events ++ more) after
acts-more {S} step clash before mid after [] events act more idle last =
    let acted : IsAct step clash before act more after =
    subst (λ (m : Machine S). IsAct step clash m act more after) idle.unchanged last in
    let all : events ++ more ≡ more ++ [] =
    ap (λ (es : List Event). es ++ more) idle.silent ∙ sym (append-nil more) in
    (after, more, [], acted, record { unchanged = refl; silent = refl }, all)
acts-more step clash before mid after (first ∷ acts) events act more run last =
    let rest = acts-more step clash run.0 mid after acts run.2 act more run.4 last in
    let all : events ++ more ≡ run.1 ++ (run.2 ++ more) =
    ap (λ (es : List Event). es ++ more) run.5 ∙ append_assoc run.1 run.2 more in
    (run.0, run.1, run.2 ++ more, run.3, rest, all)
