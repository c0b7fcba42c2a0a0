-- Where a request waits among those that are kept, and what a reply does there.
use Rattle.std.proofs.Common.{◌≡◌, ℕ, zero, suc, ◌+◌, ◌<◌, ◌≤◌, true, false, List, [], ◌∷◌, ◌++◌, length, drop, get_or, set, slice_get, refl, sym, ap, ◌∙◌, arith}
use Rattle.std.specs.Prelude.{Option, Some, None}
use Rattle.std.specs.Option.{option_map}
use Rattle.std.proofs.lemmas.Bool.{cases_Bool, or_parts}
use Rattle.std.proofs.lemmas.List.{drop-map, drop_more, map-set, length-map}
use Rattle.std.proofs.lemmas.Option.{slice_get-map}
use Rattle.sftp_audit.specs.declared.exchanges.Exchange.{Exchange}
use Rattle.sftp_audit.specs.declared.exchanges.RecordedReply.{RecordedReply}
unfoldable use Rattle.sftp_audit.specs.Exchanges.{is_awaited}
use Rattle.sftp_audit.specs.Exchanges.{waits_for, with_reply}
unfoldable use Rattle.sftp_audit.specs.Trees.{AreApart, place_of}
use Rattle.sftp_audit.proofs.auditing.{is_awaited-append, is_awaited-replied, flipped}
use Rattle.sftp_audit.proofs.auditing.Places.{stored, place_of-within}
use Rattle.sftp_sets.specs.declared.waiting.Stamped.{Stamped}
use Rattle.sftp_sets.specs.declared.waiting.Waiting.{Waiting}
use Rattle.sftp_sets.specs.Collecting.{exchange_of, exchanges_of, reply_of, IsTimely, AreWaitingTimely}

-- ---- the search

-- none of so many waits
abbrev pub IsPassed : ℕ → List Exchange → ℕ → Type 0
IsPassed id xs k = place_of id xs ≡ option_map (λ p. k + p) (place_of id (drop k xs))

none_yet : (o : Option ℕ) → o ≡ option_map (λ p. 0 + p) o
none_yet None = refl
none_yet (Some p) = ap Some (omega arith)

one_more : (k : ℕ) (o : Option ℕ) → option_map (λ p. k + p) (option_map (λ p. suc p) o) ≡ option_map (λ p. (k + 1) + p) o
one_more k None = refl
one_more k (Some p) = ap Some (omega arith)

pub passed_start : (id : ℕ) (xs : List Exchange) → IsPassed id xs 0
passed_start id xs = none_yet (place_of id xs)

ahead : (items : List Waiting) (k : ℕ) (w : Waiting) → k < length items → w ≡ get_or items k w
    → drop k (exchanges_of items) ≡ exchange_of w ∷ drop (k + 1) (exchanges_of items)
ahead items k w lt is =
    drop-map exchange_of k items ∙ ap exchanges_of (drop_more items k w lt)
    ∙ ap (λ (v : Waiting). exchange_of v ∷ exchanges_of (drop (k + 1) items)) (sym is)
    ∙ ap (λ (xs : List Exchange). exchange_of w ∷ xs) (sym (drop-map exchange_of (k + 1) items))

pub passed_here : (id : ℕ) (items : List Waiting) (k : ℕ) (w : Waiting) → IsPassed id (exchanges_of items) k
    → k < length items → w ≡ get_or items k w → waits_for id (exchange_of w) ≡ true
    → place_of id (exchanges_of items) ≡ Some k
unfolding place_of
passed_here id items k w passed lt is waits =
    passed ∙ rw (ahead items k w lt is, waits) (ap Some (omega arith))

pub passed_on : (id : ℕ) (items : List Waiting) (k : ℕ) (w : Waiting) → IsPassed id (exchanges_of items) k
    → k < length items → w ≡ get_or items k w → waits_for id (exchange_of w) ≡ false
    → IsPassed id (exchanges_of items) (k + 1)
unfolding place_of
passed_on id items k w passed lt is waits =
    passed ∙ rw (ahead items k w lt is, waits) (one_more k (place_of id (drop (k + 1) (exchanges_of items))))

drop_all : (xs : List Exchange) (k : ℕ) → length xs ≤ k → drop k xs ≡ []
drop_all [] zero le = refl
drop_all [] (suc k) le = refl
drop_all (x ∷ xs) zero le = absurd (omega (arith, le))
drop_all (x ∷ xs) (suc k) le = drop_all xs k (omega (arith, le))

pub passed_end : (id : ℕ) (items : List Waiting) (k : ℕ) → IsPassed id (exchanges_of items) k → length items ≤ k
    → place_of id (exchanges_of items) ≡ None
unfolding place_of
passed_end id items k passed le =
    passed ∙ rw (drop_all (exchanges_of items) k (omega (arith, le, length-map items exchange_of))) refl

-- ---- a request more

pub apart-asked : (xs : List Exchange) (x : Exchange) → AreApart xs → is_awaited x.request.id xs ≡ false
    → AreApart (xs ++ x ∷ [])
unfolding AreApart is_awaited
apart-asked [] x apart free = (λ waits. refl, tt)
apart-asked (y ∷ xs) x apart free = (
  λ waits. grind (arith, cases_Bool, or_parts, is_awaited-append, flipped, apart.0),
  apart-asked xs x apart.1 (or_parts _ _ free).1,
)

-- ---- a reply

pub apart-replied : (r : RecordedReply) (xs : List Exchange) → AreApart xs → AreApart (with_reply r xs)
unfolding AreApart
apart-replied r [] apart = tt
apart-replied r (x ∷ xs) apart =
    (λ waits. grind (arith, cases_Bool, is_awaited-replied, apart.0), apart-replied r xs apart.1)

-- what is behind others is apart, too
pub apart-behind : (xs ys : List Exchange) → AreApart (xs ++ ys) → AreApart ys
unfolding AreApart
apart-behind [] ys apart = apart
apart-behind (x ∷ xs) ys apart = apart-behind xs ys apart.1

-- the request at the place gets the reply
abbrev pub given : Waiting → Stamped → Waiting
given waiting stamped = record { request = waiting.request; asked = waiting.asked; replied = Some stamped }

pub given_there : (items : List Waiting) (place : ℕ) (w : Waiting) (stamped : Stamped)
    → AreApart (exchanges_of items) → place_of stamped.reply.id (exchanges_of items) ≡ Some place
    → slice_get items place ≡ Some w
    → exchanges_of (set items place (given w stamped)) ≡ with_reply (reply_of stamped) (exchanges_of items)
given_there items place w stamped apart at got =
    map-set exchange_of items place (given w stamped)
    ∙ stored (reply_of stamped) (exchanges_of items) place (exchange_of w) apart at
    (slice_get-map exchange_of items place ∙ ap (option_map exchange_of) got)

pub within_kept : (items : List Waiting) (place id : ℕ) → place_of id (exchanges_of items) ≡ Some place → place < length items
within_kept items place id at =
    omega (arith, place_of-within id (exchanges_of items) place at, length-map items exchange_of)

-- its time is that of its record
pub timely-given : (start : ℕ) (entries : List ℕ) (items : List Waiting) (place : ℕ) (w : Waiting) (stamped : Stamped)
    → IsTimely start entries stamped.stamp → slice_get items place ≡ Some w → AreWaitingTimely start entries items
    → AreWaitingTimely start entries (set items place (given w stamped))
timely-given start entries [] place w stamped timely got all = absurd cc
timely-given start entries (x ∷ items) zero w stamped timely got all =
    (grind (arith, got, all.0, timely), all.1)
timely-given start entries (x ∷ items) (suc place) w stamped timely got all =
    (all.0, timely-given start entries items place w stamped timely got all.1)
