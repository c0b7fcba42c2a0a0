-- How the index of the requests that wait follows the exchanges that are kept.
use Rattle.sftp_audit.proofs.Imports.{◌≡◌, ◌==◌, not, nat_eq, ℕ, suc, ◌+◌, ◌%◌, ◌^◌, ◌<◌, ◌≤◌, ◌⊎◌, Bool, true, false}
use Rattle.sftp_audit.proofs.Imports.{cond, List, [], ◌∷◌, ◌++◌, Option, Some, None, is_some, length, set, drop}
use Rattle.sftp_audit.proofs.Imports.{slice_get, refl, sym, ap, ◌∙◌, arith, inl, inr, option_map, eqb-true}
use Rattle.sftp_audit.proofs.Imports.{cases_Bool, true≢false, length-append, length-map, none-some, same_Some}
use Rattle.sftp_audit.proofs.Imports.{and_parts, Request, window, RecordedReply, Exchange, starts_answered}
use Rattle.sftp_audit.proofs.Imports.{ordinal_at, IsIndexed, AreApart, place_of, is_answered, waits_for, is_awaited}
use Rattle.sftp_audit.proofs.Imports.{append_assoc, append-nil, StepOf, FollowsOf, Run, leading_pairs, IsFirstWrong}
use Rattle.sftp_audit.proofs.Imports.{IsTold, AreAnswered, unsettled, ledger_of}
use Rattle.std.proofs.lemmas.Bool.{or_parts}
use Rattle.std.specs.Map.{lookup}
use Rattle.sftp_audit.specs.Exchanges.{answered_by, with_reply}
use Rattle.sftp_audit.proofs.auditing.{flipped, is_awaited-append, waits_for-replied, is_awaited-replied}
use Rattle.sftp_audit.proofs.auditing.{answered-append, unsettled-answered, leading_pairs-settled}
use Rattle.sftp_audit.proofs.auditing.{leading_pairs-unsettled}
use Rattle.sftp_audit.specs.declared.errors.Refusal.TheVariants as refusals
use Rattle.sftp_audit.proofs.auditing.Turns.{run-append}

-- ---- where a request waits

-- what a map gives, it gives of what is there
mapped : (f : ℕ → ℕ) (o : Option ℕ) (n : ℕ) → option_map f o ≡ Some n → (m : ℕ) × (o ≡ Some m) × (f m ≡ n)
mapped f None n is = absurd (none-some n is)
mapped f (Some m) n is = (m, refl, same_Some (f m) n is)

mapped-there : (f : ℕ → ℕ) (o : Option ℕ) → is_some (option_map f o) ≡ is_some o
mapped-there f None = refl
mapped-there f (Some m) = refl

pub place_of-open : (id : ℕ) (xs : List Exchange) → is_some (place_of id xs) ≡ is_awaited id xs
unfolding place_of is_awaited
place_of-open id [] = refl
place_of-open id (x ∷ xs) = grind (arith, cases_Bool, mapped-there, place_of-open id xs)

pub place_of-within : (id : ℕ) (xs : List Exchange) (place : ℕ) → place_of id xs ≡ Some place → place < length xs
unfolding place_of
place_of-within id [] place at = absurd cc
place_of-within id (x ∷ xs) place at = grind (arith, cases_Bool, mapped, place_of-within id xs)

-- ---- a request more

place_of-push : (id : ℕ) (xs : List Exchange) (x : Exchange) → waits_for id x ≡ false
    → place_of id (xs ++ x ∷ []) ≡ place_of id xs
unfolding place_of
place_of-push id [] x other = rw other refl
place_of-push id (y ∷ xs) x other = rw (place_of-push id xs x other) refl

place_of-pushed : (id : ℕ) (xs : List Exchange) (x : Exchange) → is_awaited id xs ≡ false → waits_for id x ≡ true
    → place_of id (xs ++ x ∷ []) ≡ Some (length xs)
unfolding place_of is_awaited
place_of-pushed id [] x shut own = simp own
place_of-pushed id (y ∷ xs) x shut own = grind (arith, or_parts, place_of-pushed id xs x)

apart-asked : (xs : List Exchange) (x : Exchange) → AreApart xs → is_awaited x.request.id xs ≡ false
    → AreApart (xs ++ x ∷ [])
unfolding AreApart is_awaited
apart-asked [] x apart free = (λ waits. refl, tt)
apart-asked (y ∷ xs) x apart free = (
  λ waits. grind (arith, cases_Bool, or_parts, is_awaited-append, flipped, apart.0),
  apart-asked xs x apart.1 (or_parts _ _ free).1,
)

-- ---- a reply

place_of-replied : (id : ℕ) (r : RecordedReply) (xs : List Exchange)
    → place_of id (with_reply r xs) ≡ cond (r.reply.id == id) None (place_of id xs)
unfolding place_of
place_of-replied id r [] = grind (arith, cases_Bool)
place_of-replied id r (x ∷ xs) = grind (arith, cases_Bool, waits_for-replied id r x, place_of-replied id r xs)

apart-replied : (r : RecordedReply) (xs : List Exchange) → AreApart xs → AreApart (with_reply r xs)
unfolding AreApart
apart-replied r [] apart = tt
apart-replied r (x ∷ xs) apart =
    (λ waits. grind (arith, cases_Bool, is_awaited-replied, apart.0), apart-replied r xs apart.1)

-- a reply of an id that does not wait changes nothing
with_reply-shut : (r : RecordedReply) (xs : List Exchange) → is_awaited r.reply.id xs ≡ false → with_reply r xs ≡ xs
unfolding is_awaited
with_reply-shut r [] shut = refl
with_reply-shut r (x ∷ xs) shut = grind (arith, or_parts, with_reply-shut r xs)

-- the one request of the id that waits gets the reply
pub stored : (r : RecordedReply) (xs : List Exchange) (place : ℕ) (x : Exchange) → AreApart xs
    → place_of r.reply.id xs ≡ Some place → slice_get xs place ≡ Some x
    → set xs place (record { request = x.request; number = x.number; reply = Some r }) ≡ with_reply r xs
unfolding place_of AreApart
stored r [] place x apart at got = absurd (none-some place at)
stored r (y ∷ xs) place x apart at got = elim (cases_Bool (waits_for r.reply.id y)) [
  | inl here ↦
      let first : 0 ≡ place = same_Some 0 place (rw here at at) in
      let is : y ≡ x = same_Some y x (rw (← first) at got) in
      let parts = and_parts (not (is_answered y)) (y.request.id == r.reply.id) here in
      let shut : is_awaited r.reply.id xs ≡ false =
      rw (← eqb-true y.request.id r.reply.id parts.1) (apart.0 (grind (arith, cases_Bool, parts.0))) in
      rw (← first, ← is, here, with_reply-shut r xs shut) refl
  | inr past ↦
      let later = mapped (λ p. suc p) (place_of r.reply.id xs) place (rw past at at) in
      rw (← later.2, past, stored r xs later.0 x apart.1 later.1 (rw (← later.2) at got)) refl
]

-- ---- what the index says

pub indexed-new : (first : ℕ) → IsIndexed [] [] first
unfolding AreApart place_of
indexed-new first = record { few = omega arith; apart = tt; found = λ id. refl }

pub in_use : (xs : List Exchange) (index : List (ℕ × ℕ)) (first id : ℕ) (used : Bool) → IsIndexed xs index first
    → is_some (lookup (nat_eq id) index) ≡ used → is_awaited id xs ≡ used
in_use xs index first id used indexed is =
    sym (ap is_some (indexed.found id) ∙ mapped-there (ordinal_at first) (place_of id xs) ∙ place_of-open id xs) ∙ is

-- the place of an ordinal that the index finds
pub held : (xs : List Exchange) (index : List (ℕ × ℕ)) (first id ordinal place : ℕ) → IsIndexed xs index first
    → lookup (nat_eq id) index ≡ Some ordinal
    → ((p : ℕ) → p ≤ window → ordinal ≡ ordinal_at first p → place ≡ p) → place_of id xs ≡ Some place
held xs index first id ordinal place indexed there placed =
    let at = mapped (ordinal_at first) (place_of id xs) ordinal (sym (indexed.found id) ∙ there) in
    let near = place_of-within id xs at.0 at.1 in
    at.1 ∙ ap Some (sym (placed at.0 (omega (arith, near, indexed.few)) (sym at.2)))

-- the exchange of a request that waits
abbrev pub asked : Request → ℕ → Exchange
asked request number = record { request = request; number = number; reply = None }

pub indexed-asked : (xs : List Exchange) (index after : List (ℕ × ℕ)) (first : ℕ) (request : Request) (number : ℕ)
    → IsIndexed xs index first → length xs < window → is_awaited request.id xs ≡ false
    → ((id : ℕ) → lookup (nat_eq id) after
    ≡ cond (nat_eq request.id id) (Some (ordinal_at first (length xs))) (lookup (nat_eq id) index))
    → IsIndexed (xs ++ asked request number ∷ []) after first
indexed-asked xs index after first request number indexed few free changed = record {
  few = omega (arith, few, length-append xs (asked request number ∷ []));
  apart = apart-asked xs (asked request number) indexed.apart free;
  found = λ id. changed id ∙ by id (cases_Bool (nat_eq request.id id));
}
  where
    by : (id : ℕ) → (nat_eq request.id id ≡ true) ⊎ (nat_eq request.id id ≡ false)
        → cond (nat_eq request.id id) (Some (ordinal_at first (length xs))) (lookup (nat_eq id) index)
        ≡ option_map (ordinal_at first) (place_of id (xs ++ asked request number ∷ []))
    by id (inl own) =
        let shut : is_awaited id xs ≡ false = rw (← eqb-true request.id id own) free in
        rw (own, place_of-pushed id xs (asked request number) shut own) refl
    by id (inr other) = rw (other, place_of-push id xs (asked request number) other) (indexed.found id)

pub indexed-replied : (xs : List Exchange) (index after : List (ℕ × ℕ)) (first : ℕ) (r : RecordedReply)
    → IsIndexed xs index first
    → ((id : ℕ) → lookup (nat_eq id) after ≡ cond (nat_eq r.reply.id id) None (lookup (nat_eq id) index))
    → IsIndexed (with_reply r xs) after first
indexed-replied xs index after first r indexed changed = record {
  few = omega (arith, indexed.few, length-map xs (answered_by r));
  apart = apart-replied r xs indexed.apart;
  found = λ id. changed id ∙ rw (indexed.found id, place_of-replied id r xs) (by (r.reply.id == id) (place_of id xs));
}
  where
    by : (b : Bool) (o : Option ℕ)
        → cond b None (option_map (ordinal_at first) o) ≡ option_map (ordinal_at first) (cond b None o)
    by true o = refl
    by false o = refl

-- the first one is settled
pub indexed-popped : (xs : List Exchange) (index : List (ℕ × ℕ)) (first : ℕ) → IsIndexed xs index first
    → starts_answered xs ≡ true → IsIndexed (drop 1 xs) index ((first + 1) % 2 ^ 64)
unfolding place_of AreApart
indexed-popped [] index first indexed answered = absurd (true≢false (sym answered))
indexed-popped (x ∷ xs) index first indexed answered = record {
  few = omega (arith, indexed.few);
  apart = indexed.apart.1;
  found = λ id. indexed.found id ∙ rw answered (by (place_of id xs));
}
  where
    by : (o : Option ℕ) → option_map (ordinal_at first) (option_map (λ place. suc place) o)
        ≡ option_map (ordinal_at ((first + 1) % 2 ^ 64)) o
    by None = refl
    by (Some place) = ap Some (next place)
      where
        next : (place : ℕ) → (first + suc place) % 2 ^ 64 ≡ ((first + 1) % 2 ^ 64 + place) % 2 ^ 64
        next place = omega arith

-- ==== How settling goes over the exchanges that are kept: each is done as soon as it and all before it have their
-- replies.

-- ---- those done so far

pub record IsDoneTo {S : Type 0} (step : StepOf S) (start : S) (old now : List Exchange) (mid : S) : Type 0 where
  pub before : List Exchange
  pub answered : AreAnswered before
  pub exchanges_are : old ≡ before ++ now
  pub run : Run step start (leading_pairs (ledger_of before)) mid

module _ {S : Type 0} (step : StepOf S) where
  pub done-start : (s : S) (xs : List Exchange) → IsDoneTo step s xs xs s
  unfolding leading_pairs
  done-start s xs = record { before = []; answered = tt; exchanges_are = refl; run = refl }

  -- the next exchange of what is left, whose reply is allowed, is done
  pub done-more : (start mid end : S) (old now : List Exchange) (x : Exchange) (r : RecordedReply)
      → IsDoneTo step start old now mid → Some x ≡ slice_get now 0 → x.reply ≡ Some r
      → step mid x.request r.reply end → IsDoneTo step start old (drop 1 now) end
  unfolding leading_pairs
  done-more start mid end old [] x r done at is allowed = absurd (none-some x (sym at))
  done-more start mid end old (y ∷ rest) x r done at is allowed =
      let same : y ≡ x = same_Some y x (sym at) in
      let answered : is_answered x ≡ true = ap is_some is in
      let run : Run step mid (leading_pairs (ledger_of (x ∷ []))) end = rw is (end, allowed, refl) in
      record {
        before = done.before ++ x ∷ [];
        answered = answered-append done.before (x ∷ []) done.answered (answered, tt);
        exchanges_are = done.exchanges_are
            ∙ ap (λ (z : Exchange). done.before ++ z ∷ rest) same
            ∙ sym (append_assoc done.before (x ∷ []) rest);
        run = rw (leading_pairs-settled done.before (x ∷ []) done.answered)
            (run-append step start (leading_pairs (ledger_of done.before)) mid (leading_pairs (ledger_of (x ∷ [])))
            end done.run run);
      }

  -- its reply is the first of all that is not allowed
  pub done-wrong : (start mid : S) (old now : List Exchange) (x : Exchange) (r : RecordedReply)
      → IsDoneTo step start old now mid → Some x ≡ slice_get now 0 → x.reply ≡ Some r
      → ((end : S) → step mid x.request r.reply end → ⊥) → IsFirstWrong step start old r.number
  done-wrong start mid old [] x r done at is wrong = absurd (none-some x (sym at))
  done-wrong start mid old (y ∷ rest) x r done at is wrong = record {
    before = done.before;
    request = x.request;
    asked_in = x.number;
    reply = r.reply;
    behind = rest;
    exchanges_are = done.exchanges_are ∙ ap (λ (z : Exchange). done.before ++ z ∷ rest) (same_Some y x (sym at))
        ∙ ap (λ (reply : Option RecordedReply). done.before
        ++ record { request = x.request; number = x.number; reply = reply } ∷ rest) is;
    answered = done.answered;
    mid = mid;
    run = done.run;
    wrong = wrong;
  }

  -- and it is not allowed in the state after those before it
  pub done-wrong_in : (start mid end : S) (old now : List Exchange) (x : Exchange) (r : RecordedReply)
      → IsDoneTo step start old now mid → Some x ≡ slice_get now 0 → x.reply ≡ Some r
      → ((end : S) → step mid x.request r.reply end → ⊥) → end ≡ mid
      → (wrong : IsFirstWrong step start old r.number) × (wrong.mid ≡ end)
  unfolding done-wrong
  done-wrong_in start mid end old [] x r done at is wrong same = absurd (none-some x (sym at))
  done-wrong_in start mid end old (y ∷ rest) x r done at is wrong same =
      (done-wrong start mid old (y ∷ rest) x r done at is wrong, sym same)

  -- the first reply that is not allowed is told by the state in which it is not
  pub done-told : (start mid end : S) (old now : List Exchange) (x : Exchange) (r : RecordedReply) (follows : FollowsOf S)
      (before after : Bool) → IsDoneTo step start old now mid → Some x ≡ slice_get now 0 → x.reply ≡ Some r
      → ((end : S) → step mid x.request r.reply end → ⊥) → end ≡ mid
      → after ≡ follows end x.request r.reply → IsTold step follows start old before after (refusals.NotAllowed r.number)
  unfolding done-wrong
  done-told start mid end old [] x r follows before after done at is wrong same told = absurd (none-some x (sym at))
  done-told start mid end old (y ∷ rest) x r follows before after done at is wrong same told = (
    done-wrong start mid old (y ∷ rest) x r done at is wrong,
    told ∙ ap (λ (s : S). follows s x.request r.reply) same,
  )

-- ---- the end: what is left begins with a request without a reply, or is nothing

pub unsettled-waits : (now : List Exchange) (x : Exchange) → Some x ≡ slice_get now 0 → x.reply ≡ None
    → unsettled now ≡ now
unfolding unsettled
unsettled-waits [] x at is = refl
unsettled-waits (y ∷ rest) x at is = rw (same_Some y x (sym at), is) refl

pub unsettled-none : (now : List Exchange) → None ≡ slice_get now 0 → unsettled now ≡ now
unfolding unsettled
unsettled-none [] at = refl
unsettled-none (y ∷ rest) at = absurd (none-some y at)

module _ {S : Type 0} (step : StepOf S) where
  pub done-kept : (start mid : S) (old now : List Exchange) → IsDoneTo step start old now mid → unsettled now ≡ now
      → now ≡ unsettled old
  done-kept start mid old now done is =
      sym is ∙ sym (unsettled-answered done.before now done.answered) ∙ ap unsettled (sym done.exchanges_are)

  pub done-ran : (start mid : S) (old now : List Exchange) → IsDoneTo step start old now mid → unsettled now ≡ now
      → Run step start (leading_pairs (ledger_of old)) mid
  done-ran start mid old now done is =
      let none : leading_pairs (ledger_of now) ≡ [] =
      ap (λ (xs : List Exchange). leading_pairs (ledger_of xs)) (sym is) ∙ leading_pairs-unsettled now in
      rw (
        done.exchanges_are,
        leading_pairs-settled done.before now done.answered,
        none,
        append-nil (leading_pairs (ledger_of done.before)),
      ) done.run
