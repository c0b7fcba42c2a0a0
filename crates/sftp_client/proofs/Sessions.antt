-- What every session keeps, and that what was sent is what was paired and what is open.
use Rattle.std.proofs.Common.{◌≡◌, ◌⊎◌, ℕ, zero, suc, ◌+◌, ◌-◌, ◌*◌, ◌^◌, ◌<◌, ◌≤◌, ◌%◌, ◌||◌, true, false, List, []}
use Rattle.std.proofs.Common.{◌∷◌, length, nat_eq, IsSome, refl, sym, ap, subst, ◌∙◌, arith, inl, inr, cond, ◌++◌}
use Rattle.std.proofs.Common.{Some, None, is_some, IsPermutation, map, nat_lt, Option, append_assoc}
use Rattle.std.specs.List.{AllByRecursion, IsDistinct, list_any}
use Rattle.std.proofs.Math.Nat.{mod-eq_of_lt}
use Rattle.std.proofs.lemmas.Bool.{cases_Bool, cases_lt, eqb-true}
use Rattle.std.proofs.lemmas.Cmp.{nat_eq_equiv}
use Rattle.std.proofs.lemmas.Map.Steps.{length-le_from_keys}
use Rattle.std.proofs.lemmas.Nat.{mod-mul-add, mod_below}
use Rattle.sftp_client.specs.Client.{OpenRequests, open_at, id_after, Client, new_client, session_with, open_limit}
use Rattle.sftp_client.specs.Client.{IsFirstFree, send_error_of, IsKept, IsStarted, IsSent, IsPaired}
use Rattle.std.specs.Map.{remove_entry, keys_of}
use Rattle.std.proofs.lemmas.List.{map_push, length-append, append-nil}
use Rattle.std.proofs.lemmas.List.Sorted.{IsPermutation-refl, IsPermutation-cons, IsPermutation-trans}
use Rattle.std.proofs.lemmas.List.Sorted.{IsPermutation-middle, IsPermutation-map, IsPermutation-append_left}
use Rattle.std.proofs.lemmas.Map.Keys.{IsDistinct-push}
use Rattle.std.proofs.lemmas.Map.Made.{is_some-lookup}
use Rattle.std.proofs.lemmas.Option.{none-some, same_Some}
use Rattle.sftp_packets.specs.declared.requests.Ask.{Ask}
use Rattle.sftp_packets.specs.declared.packets.Packet.{Packet}
use Rattle.sftp_packets.specs.declared.packets.Request.{Request}
use Rattle.sftp_packets.specs.declared.packets.Reply.{Reply}
use Rattle.sftp_client.specs.Announced.{Announced, may_be_sent}
use Rattle.sftp_client.specs.Runs.{Call, Started, Sent, Paired, Refused, Takes, Runs, sent, paired, unanswered}

-- ==== Ids that are skipped differ and are open, so there are no more of them than open requests.

-- the number of an id is the sum, or 2^32 less
either_way : (id places : ℕ) → id < 2 ^ 32 → places < 2 ^ 32
    → (id_after id places ≡ id + places) ⊎ (id_after id places + 2 ^ 32 ≡ id + places)
either_way id places small few = elim (cases_lt (id + places) (2 ^ 32)) [
  | inl below ↦ inl (mod-eq_of_lt below)
  | inr above ↦
      let rest : id + places - 2 ^ 32 < 2 ^ 32 = omega arith in
      let whole : id + places ≡ 1 * 2 ^ 32 + (id + places - 2 ^ 32) = omega arith in
      let behind : id_after id places ≡ id + places - 2 ^ 32 =
      ap (λ n. n % 2 ^ 32) whole ∙ mod-mul-add 1 (2 ^ 32) (id + places - 2 ^ 32) rest in
      inr (omega (arith, behind))
]

-- ids at different places differ
apart : (id near far : ℕ) → id < 2 ^ 32 → near < far → far < 2 ^ 32
    → nat_eq (id_after id far) (id_after id near) ≡ false
apart id near far small before few = elim (cases_Bool (nat_eq (id_after id far) (id_after id near))) [
  | inl hit ↦
      let same = eqb-true (id_after id far) (id_after id near) hit in
      elim (either_way id near small (omega arith)) [
        | inl a ↦ elim (either_way id far small few) [
          | inl b ↦ absurd (omega (arith, same, a, b))
          | inr b ↦ absurd (omega (arith, same, a, b))
        ]
        | inr a ↦ elim (either_way id far small few) [
          | inl b ↦ absurd (omega (arith, same, a, b))
          | inr b ↦ absurd (omega (arith, same, a, b))
        ]
      ]
  | inr miss ↦ miss
]

-- the ids at so many places, the last one first
abbrev ids : ℕ → ℕ → List ℕ
ids id zero = []
ids id (suc places) = id_after id places ∷ ids id places

length-ids : (id places : ℕ) → length (ids id places) ≡ places
length-ids id zero = refl
length-ids id (suc places) = omega (arith, length-ids id places)

not_among : (id far places : ℕ) → id < 2 ^ 32 → far < 2 ^ 32 → places ≤ far
    → AllByRecursion (λ other. nat_eq (id_after id far) other ≡ false) (ids id places)
not_among id far zero small few within = tt
not_among id far (suc places) small few within =
    (apart id places far small (omega arith) few, not_among id far places small few (omega arith))

ids_differ : (id places : ℕ) → id < 2 ^ 32 → places ≤ 2 ^ 32 → IsDistinct nat_eq (ids id places)
unfolding IsDistinct
ids_differ id zero small few = tt
ids_differ id (suc places) small few =
    (not_among id places places small (omega arith) (omega arith), ids_differ id places small (omega arith))

among_open : (requests : OpenRequests) (id places : ℕ)
    → ((place : ℕ) → place < places → IsSome (open_at requests (id_after id place)))
    → (other : ℕ) → list_any (nat_eq other) (ids id places) ≡ true → IsSome (open_at requests other)
among_open requests id zero taken other there = absurd (cc there)
among_open requests id (suc places) taken other there =
    elim (cases_Bool (nat_eq other (id_after id places))) [
      | inl hit ↦
          subst (λ n. IsSome (open_at requests n)) (sym (eqb-true other (id_after id places) hit))
          (taken places (omega arith))
      | inr miss ↦
          among_open requests id places (λ place within. taken place (omega arith)) other
          (ap (λ b. b || list_any (nat_eq other) (ids id places)) (sym miss) ∙ there)
    ]

-- no more ids are skipped than requests are open
pub skipped_are_few : (requests : OpenRequests) (id places : ℕ) → id < 2 ^ 32 → places ≤ 2 ^ 32
    → ((place : ℕ) → place < places → IsSome (open_at requests (id_after id place))) → places ≤ length requests
skipped_are_few requests id places small few taken =
    subst (λ n. n ≤ length requests) (length-ids id places)
    (length-le_from_keys nat_eq_equiv (ids id places) requests (ids_differ id places small few)
    (among_open requests id places taken))

-- where one more id is open, there are more open requests than ids before it
pub one_more_is_open : (requests : OpenRequests) (id places : ℕ) → id < 2 ^ 32 → places < 2 ^ 32
    → ((place : ℕ) → place < places → IsSome (open_at requests (id_after id place)))
    → IsSome (open_at requests (id_after id places)) → places < length requests
one_more_is_open requests id places small few before there =
    let taken : (place : ℕ) → place < suc places → IsSome (open_at requests (id_after id place)) =
    λ place within. elim (cases_lt place places) [
      | inl below ↦ before place below
      | inr not_below ↦
          let last : places ≡ place = omega arith in
          subst (λ n. IsSome (open_at requests (id_after id n))) last there
    ] in
    omega (arith, skipped_are_few requests id (suc places) small (omega arith) taken)

-- ==== The open requests after one is added or taken out.

-- ---- one more

pub still_apart_with : (requests : OpenRequests) (id : ℕ) (ask : Ask) → IsDistinct nat_eq (keys_of requests)
    → open_at requests id ≡ None → IsDistinct nat_eq (keys_of (requests ++ (id, ask) ∷ []))
still_apart_with requests id ask apart free =
    subst (IsDistinct nat_eq) (sym (map_push (λ e. e.0) requests (id, ask)))
    (IsDistinct-push nat_eq_equiv (keys_of requests) id apart
    (sym (is_some-lookup (nat_eq id) requests) ∙ ap is_some free))

-- ---- one less

pub fewer_without : (requests : OpenRequests) (id : ℕ) → length (remove_entry (nat_eq id) requests) ≤ length requests
fewer_without [] id = omega arith
fewer_without (e ∷ es) id = elim (cases_Bool (nat_eq id e.0)) [
  | inl hit ↦ rw hit (omega arith)
  | inr miss ↦ rw miss (omega (arith, fewer_without es id))
]

all_without : (P : ℕ → Type 0) (requests : OpenRequests) (id : ℕ) → AllByRecursion P (keys_of requests)
    → AllByRecursion P (keys_of (remove_entry (nat_eq id) requests))
all_without P [] id all = tt
all_without P (e ∷ es) id all = elim (cases_Bool (nat_eq id e.0)) [
  | inl hit ↦ rw hit all.1
  | inr miss ↦ rw miss (all.0, all_without P es id all.1)
]

pub still_apart_without : (requests : OpenRequests) (id : ℕ) → IsDistinct nat_eq (keys_of requests)
    → IsDistinct nat_eq (keys_of (remove_entry (nat_eq id) requests))
unfolding IsDistinct
still_apart_without [] id apart = tt
still_apart_without (e ∷ es) id apart = elim (cases_Bool (nat_eq id e.0)) [
  | inl hit ↦ rw hit apart.1
  | inr miss ↦
      rw miss (all_without (λ other. nat_eq e.0 other ≡ false) es id apart.0, still_apart_without es id apart.1)
]

-- the open requests are the one that is taken out and the others
pub taken_and_others : (requests : OpenRequests) (id : ℕ) (ask : Ask) → open_at requests id ≡ Some ask
    → IsPermutation requests ((id, ask) ∷ remove_entry (nat_eq id) requests)
taken_and_others [] id ask there = absurd (none-some ask there)
taken_and_others (e ∷ es) id ask there = elim (cases_Bool (nat_eq id e.0)) [
  | inl hit ↦
      let same : e.1 ≡ ask = same_Some e.1 ask (ap (λ b. cond b (Some e.1) (open_at es id)) (sym hit) ∙ there) in
      let is : e ≡ (id, ask) = λ i. (sym (eqb-true id e.0 hit) i, same i) in
      rw hit (subst (λ (x : ℕ × Ask). IsPermutation (e ∷ es) (x ∷ es)) is (IsPermutation-refl (e ∷ es)))
  | inr miss ↦
      let others = remove_entry (nat_eq id) es in
      let found : open_at es id ≡ Some ask =
      ap (λ b. cond b (Some e.1) (open_at es id)) (sym miss) ∙ there in
      rw miss (IsPermutation-trans (e ∷ es) (e ∷ (id, ask) ∷ others) ((id, ask) ∷ e ∷ others)
      (IsPermutation-cons e es ((id, ask) ∷ others) (taken_and_others es id ask found))
      (IsPermutation-middle (e ∷ []) (id, ask) others))
]

-- ---- what every session keeps

pub kept_new : IsKept new_client
unfolding IsDistinct
kept_new = record { few = omega arith; next_fits = omega arith; apart = tt }

pub room_to_send : (announced : Option Announced) (count : ℕ) (ask : Ask) → send_error_of announced count ask ≡ None
    → count < open_limit
room_to_send None count ask free = absurd (cc free)
room_to_send (Some announced) count ask free = elim (cases_Bool (nat_lt count open_limit)) [
  | inl few ↦ grind arith
  | inr many ↦ absurd (cc (free, many))
]

-- what is sent where there is room, with the first free id
pub sent_with_id : (announced : Announced) (next id : ℕ) (requests entries : OpenRequests) (ask : Ask)
    → length requests < open_limit → may_be_sent announced ask ≡ true → IsFirstFree requests next id
    → entries ≡ requests ++ (id, ask) ∷ []
    → IsSent (session_with (Some announced) next requests) (record { id = id; ask = ask })
    (session_with (Some announced) (id_after id 1) entries)
sent_with_id announced next id requests entries ask few may free added =
    let room : nat_lt (length requests) open_limit ≡ true = grind arith in
    record {
      free = rw (room, may) refl;
      id_is = free;
      new_is = ap (session_with (Some announced) (id_after id 1)) added;
    }

pub kept_started : (old : Client) (packet : Packet) (new : Client) → IsKept old → IsStarted old packet new → IsKept new
kept_started old packet new kept step =
    subst IsKept (sym step.new_is) (record { few = kept.few; next_fits = kept.next_fits; apart = kept.apart })

pub kept_sent : (old : Client) (request : Request) (new : Client) → IsKept old → IsSent old request new → IsKept new
kept_sent old request new kept step = subst IsKept (sym step.new_is) (record {
  few =
      omega (
        arith,
        length-append old.open_requests ((request.id, request.ask) ∷ []),
        room_to_send old.announced (length old.open_requests) request.ask step.free,
      );
  next_fits = mod_below (request.id + 1) (2 ^ 32) (omega arith);
  apart = still_apart_with old.open_requests request.id request.ask kept.apart step.id_is.free;
})

pub kept_paired : (old : Client) (request : Request) (reply : Reply) (new : Client) → IsKept old
    → IsPaired old request reply new → IsKept new
kept_paired old request reply new kept step = subst IsKept (sym step.new_is) (record {
  few = omega (arith, fewer_without old.open_requests reply.id, kept.few);
  next_fits = kept.next_fits;
  apart = still_apart_without old.open_requests reply.id kept.apart;
})

kept_call : (old : Client) (call : Call) (new : Client) → IsKept old → Takes old call new → IsKept new
kept_call old (Started packet) new kept step = kept_started old packet new kept step
kept_call old (Sent request) new kept step = kept_sent old request new kept step
kept_call old (Paired request reply) new kept step = kept_paired old request reply new kept step
kept_call old Refused new kept step = subst IsKept (sym step) kept

pub kept_run : (start : Client) (calls : List Call) (end : Client) → IsKept start → Runs start calls end → IsKept end
kept_run start [] end kept run = subst IsKept (sym run) kept
kept_run start (call ∷ calls) end kept run =
    kept_run run.0 calls end (kept_call start call run.0 kept run.1) run.2

-- ---- what was sent is what was paired and what is open

abbrev request_of : ℕ × Ask → Request
request_of entry = record { id = entry.0; ask = entry.1 }

-- the open requests before, and those sent since, are those paired since and the open requests in the end
abbrev Balances : Client → List Call → Client → Type 0
Balances start calls end = IsPermutation (unanswered start ++ sent calls) (paired calls ++ unanswered end)

same_open : (start mid : Client) (calls : List Call) (end : Client) → mid.open_requests ≡ start.open_requests
    → Balances mid calls end → Balances start calls end
same_open start mid calls end same later =
    subst (λ requests. IsPermutation (map request_of requests ++ sent calls) (paired calls ++ unanswered end)) same
    later

one_sent : (start : Client) (request : Request) (mid : Client) (calls : List Call) (end : Client)
    → IsSent start request mid → Balances mid calls end → Balances start (Sent request ∷ calls) end
one_sent start request mid calls end step later =
    let more : unanswered mid ≡ unanswered start ++ request ∷ [] =
    ap unanswered step.new_is ∙ map_push request_of start.open_requests (request.id, request.ask) in
    subst (λ list. IsPermutation list (paired calls ++ unanswered end))
    (ap (λ (list : List Request). list ++ sent calls) more
    ∙ append_assoc (unanswered start) (request ∷ []) (sent calls)) later

one_paired : (start : Client) (request : Request) (reply : Reply) (mid : Client) (calls : List Call) (end : Client)
    → IsPaired start request reply mid → Balances mid calls end → Balances start (Paired request reply ∷ calls) end
one_paired start request reply mid calls end step later =
    let others = remove_entry (nat_eq reply.id) start.open_requests in
    let is : request_of (reply.id, request.ask) ≡ request =
    λ i. record { id = sym step.same_id i; ask = request.ask } in
    let less : IsPermutation (unanswered start) (request ∷ unanswered mid) =
    rw step.new_is
    (subst (λ (r : Request). IsPermutation (unanswered start) (r ∷ map request_of others)) is
    (IsPermutation-map request_of start.open_requests ((reply.id, request.ask) ∷ others)
    (taken_and_others start.open_requests reply.id request.ask step.was_open))) in
    IsPermutation-trans (unanswered start ++ sent calls) (request ∷ (unanswered mid ++ sent calls))
    (request ∷ (paired calls ++ unanswered end))
    (IsPermutation-append_left (sent calls) (unanswered start) (request ∷ unanswered mid) less)
    (IsPermutation-cons request (unanswered mid ++ sent calls) (paired calls ++ unanswered end) later)

pub balanced : (start : Client) (calls : List Call) (end : Client) → Runs start calls end → Balances start calls end
balanced start [] end run =
    subst (λ (last : Client). IsPermutation (unanswered start ++ []) (unanswered last)) (sym run)
    (subst (λ (list : List Request). IsPermutation list (unanswered start)) (sym (append-nil (unanswered start)))
    (IsPermutation-refl (unanswered start)))
balanced start (Started packet ∷ calls) end run =
    same_open start run.0 calls end (ap (λ (c : Client). c.open_requests) run.1.new_is) (balanced run.0 calls end run.2)
balanced start (Sent request ∷ calls) end run =
    one_sent start request run.0 calls end run.1 (balanced run.0 calls end run.2)
balanced start (Paired request reply ∷ calls) end run =
    one_paired start request reply run.0 calls end run.1 (balanced run.0 calls end run.2)
balanced start (Refused ∷ calls) end run =
    same_open start run.0 calls end (ap (λ (c : Client). c.open_requests) run.1) (balanced run.0 calls end run.2)

pub ruleset kept_laws = (kept_new, kept_run)
