-- What comes of an act of a script, and of the acts so far.
use Rattle.sftp_server.specs.Served.{usual}
use Rattle.sftp_server.proofs.Imports.{Ask, ◌≡◌, ◌≢◌, ◌<◌, ◌≤◌, ◌+◌, ◌^◌, ℕ, zero, suc, Bool, true, false, List, []}
use Rattle.sftp_server.proofs.Imports.{◌∷◌, ◌++◌, Result, Ok, Err, length, take, get_or, refl, sym, ap, subst, ◌∙◌}
use Rattle.sftp_server.proofs.Imports.{arith, append-nil, add-one, OnOk, le-ltb, Request, IsAsk, Tree, State, Good}
use Rattle.sftp_server.proofs.Imports.{Allowed, Event, Asked, Explained, BeginsFrom, window, Act, Deliver, Refuse}
use Rattle.sftp_server.proofs.Imports.{Machine, at_start, taken, can_take, IsDelivery, AreActs, Delivers, server_clash}
use Rattle.sftp_server.proofs.Imports.{started, IsRefusedFor, IsValue, AreDeliverable, all_both, path-bytes}
use Rattle.std.proofs.Math.Seq.{take-suc}
use Rattle.sftp_path.specs.declared.errors.NoMemory.{NoMemory}
use Rattle.sftp_server.specs.declared.refusals.Refuse.TheVariants as refuses
use Rattle.sftp_server.specs.Ending.{IsPerformed}
use Rattle.sftp_server.proofs.Machines.Acts.{acts-more}
use Rattle.sftp_server.proofs.Machines.Laws as core_laws
use Rattle.sftp_server.proofs.Sessions.{stays-good, each-answered, reached-begins}

-- ---- values

-- a request whose ask was copied
pub request-value : (request : Request) (copy : Ask) → request.id < 2 ^ 32 → (copy ≡ request.ask) × IsAsk copy
    → IsValue request
request-value request copy id copied =
    let ask : IsAsk request.ask = subst IsAsk copied.0 copied.1 in
    record { askable = record { id = id; path = path-bytes request.ask ask }; ask = ask }

-- ---- deliveries

pub performed-taken : (request copy : Request) (before after : Machine State) (old new : List Event)
    (outcome : Result (Unit {0}) NoMemory) → copy ≡ request → IsValue request → can_take before copy ≡ true
    → after ≡ taken before copy → OnOk outcome (new ≡ old ++ Asked request ∷ [])
    → OnOk outcome (IsPerformed (Deliver request) before after old new)
performed-taken request copy before after old new (Err e) same value can after_is appended = tt
performed-taken request copy before after old new (Ok it) same value can after_is appended = record {
  value = value;
  events = Asked request ∷ [];
  appended = appended;
  acted = subst (λ (r : Request). IsDelivery (can_take before r) before request (Asked request ∷ []) after) same
      (subst (λ (b : Bool). IsDelivery b before request (Asked request ∷ []) after) (sym can) (
        after_is ∙ ap (λ (r : Request). taken before r) same,
        refl,
      ));
}

-- a delivery that is refused, but not because memory ran out
cannot_take : (machine : Machine State) (request : Request) (refuse : Refuse) → IsRefusedFor machine request refuse
    → refuse ≢ refuses.NoMemory → can_take machine request ≡ false
cannot_take machine request refuses.Full why other =
    rw (le-ltb (length machine.queue) machine.window why) refl
cannot_take machine request refuses.IdInUse why other = rw (why.0, why.1) refl
cannot_take machine request refuses.NoMemory why other = absurd (other refl)

pub performed-refused : (request copy : Request) (refuse : Refuse) (before after : Machine State) (old new : List Event)
    (outcome : Result (Unit {0}) NoMemory) → copy ≡ request → IsValue request → IsRefusedFor before copy refuse
    → after ≡ before → new ≡ old → OnOk outcome (refuse ≢ refuses.NoMemory)
    → OnOk outcome (IsPerformed (Deliver request) before after old new)
performed-refused request copy refuse before after old new (Err e) same value why after_is kept other = tt
performed-refused request copy refuse before after old new (Ok it) same value why after_is kept other = record {
  value = value;
  events = [];
  appended = kept ∙ sym (append-nil old);
  acted = subst (λ (b : Bool). IsDelivery b before request [] after)
      (sym (cannot_take before request refuse
      (subst (λ (r : Request). IsRefusedFor before r refuse) same why) other))
      record { unchanged = after_is; silent = refl };
}

-- ---- the acts so far

pub acts-next : (start : State) (acts : List Act) (i next : ℕ) (act : Act) (mid after : Machine State)
    (old new : List Event) → i < length acts → act ≡ get_or acts i act → next ≡ i + 1
    → AreActs Allowed server_clash (at_start start window) (take i acts) old mid → AreDeliverable (take i acts)
    → IsPerformed act mid after old new
    → AreActs Allowed server_clash (at_start start window) (take next acts) new after × AreDeliverable (take next acts)
acts-next start acts i next act mid after old new some is next_is steps values performed =
    let one : take next acts ≡ take i acts ++ act ∷ [] =
    ap (λ (n : ℕ). take n acts) next_is ∙ (take-one ∙ ap (λ (a : Act). take i acts ++ a ∷ []) (sym is)) in
    let more = acts-more Allowed server_clash (at_start start window) mid after
    (take i acts) old act performed.events steps performed.acted in
    let all = all_both (Delivers IsValue) (take i acts) (act ∷ []) values (performed.value, tt) in (
      subst (λ (list : List Act). AreActs Allowed server_clash (at_start start window) list new after) (sym one) (subst
          (λ (es : List Event). AreActs Allowed server_clash (at_start start window) (take i acts ++ act ∷ []) es after)
          (sym performed.appended) more),
      subst AreDeliverable (sym one) all,
    )
  where
    take-one : take (i + 1) acts ≡ take i acts ++ get_or acts i act ∷ []
    take-one = rw add-one (take-suc acts i act some)

take-whole : (acts : List Act) (i : ℕ) → length acts ≤ i → take i acts ≡ acts
take-whole [] zero past = refl
take-whole [] (suc i) past = refl
take-whole (act ∷ acts) zero past = absurd (omega (arith, past))
take-whole (act ∷ acts) (suc i) past = ap (λ (list : List Act). act ∷ list) (take-whole acts i (omega (arith, past)))

-- all acts were done
pub acts-whole : (start : State) (acts : List Act) (i : ℕ) (events : List Event) (core : Machine State)
    → length acts ≤ i → AreActs Allowed server_clash (at_start start window) (take i acts) events core
    → AreActs Allowed server_clash (at_start start window) acts events core
acts-whole start acts i events core past steps =
    subst (λ (list : List Act). AreActs Allowed server_clash (at_start start window) list events core)
    (take-whole acts i past) steps

pub acts-begin : (start : Tree) (acts : List Act) (events : List Event) (core : Machine State) → Good (started start)
    → AreActs Allowed server_clash (at_start (started start) window) acts events core → AreDeliverable acts
    → BeginsFrom Allowed (started start) events
acts-begin start acts events core good steps values =
    reached-begins (usual start) events core good record { acts = acts; deliverable = values; steps = steps }

pub acts-explained : (start : Tree) (acts : List Act) (events : List Event) (core : Machine State)
    → Good (started start) → AreActs Allowed server_clash (at_start (started start) window) acts events core
    → AreDeliverable acts → core.queue ≡ [] → Explained Allowed (started start) events core.state
acts-explained start acts events core good steps values empty =
    core_laws.explained stays-good each-answered (started start) window events core good (omega arith)
    record { acts = acts; deliverable = values; steps = steps } empty
