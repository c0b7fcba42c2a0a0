-- The joint session has the turns, the window and the exchanges of the clients' sessions.
use Rattle.std.proofs.Common.{◌≡◌, ◌==◌, ◌&&◌, inl, inr, ℕ, Bool, true, false, List, [], ◌∷◌, refl, sym, ap, ◌∙◌}
use Rattle.std.proofs.Common.{cond, arith, ◌^◌, ◌<◌, ◌≤◌, Some, nat_lt, eqb-true, eq-eqb}
use Rattle.std.proofs.lemmas.Bool.{cases_Bool, and_parts, and_from, ltb-true, ltb-false, lt-ltb, both_ways, ne_eqb}
use Rattle.std.specs.Option.{option_map}
use Rattle.std.specs.List.{AllByRecursion}
use Rattle.sftp_transcript.specs.declared.events.Event.{Event}
use Rattle.sftp_transcript.specs.declared.events.Event.TheVariants.{Asked, Replied}
use Rattle.sftp_transcript.specs.Explained.{Turn, closed, turn_after, after_event, Matching}
use Rattle.sftp_transcript.specs.Explained.{next_reply, exchanges_of, requests_before_reply, in_window, window}
use Rattle.sftp_transcript.specs.Explained.{StepOf, Explained}
use Rattle.sftp_transcript.proofs.pairing.{ids_of, Matching-from_ids}
use Rattle.sftp_joint.specs.Joint.{Moment, of_client, joint_id, joint_reply, joint_event, merged}
use Rattle.sftp_joint.specs.Joint.{exchanges_together, ExplainedTogether, id_of, HaveIds}

-- ==== Joint ids.

pub joint-injective : (c i d j : ℕ) → i < 2 ^ 32 → j < 2 ^ 32 → joint_id c i ≡ joint_id d j → (c ≡ d) × (i ≡ j)
joint-injective c i d j fits_i fits_j same =
    let clients : c ≡ d = omega (arith, same, fits_i, fits_j) in
    (clients, omega (arith, same, clients))

-- one joint id is another exactly if the clients and the ids are the same
pub joint-eqb : (c i d j : ℕ) → i < 2 ^ 32 → j < 2 ^ 32 → (joint_id c i == joint_id d j) ≡ (c == d && i == j)
joint-eqb c i d j fits_i fits_j = elim (cases_Bool (joint_id c i == joint_id d j)) [
  | inl same ↦
      let is = joint-injective c i d j fits_i fits_j (eqb-true _ _ same) in
      same ∙ sym (and_from (c == d) (i == j) (eq-eqb c d is.0) (eq-eqb i j is.1))
  | inr other ↦ elim (cases_Bool (c == d && i == j)) [
    | inl both ↦
        let parts = and_parts (c == d) (i == j) both in
        let same : joint_id c i ≡ joint_id d j = omega (arith, eqb-true c d parts.0, eqb-true i j parts.1) in
        absurd (both_ways (joint_id c i == joint_id d j) other (eq-eqb (joint_id c i) (joint_id d j) same))
    | inr none ↦ other ∙ sym none
  ]
]

-- ==== Turns.

-- an event of another client leaves the turn
event-joint : (c i d : ℕ) (event : Event) (turn : Turn) → i < 2 ^ 32 → id_of event < 2 ^ 32
    → after_event (joint_id c i) (joint_event d event) turn ≡ cond (d == c) (after_event i event turn) turn
event-joint c i d (Asked request) turn fits id = elim (cases_Bool (d == c)) [
  | inl same ↦ rw (joint-eqb d request.id c i id fits, same) refl
  | inr other ↦ rw (joint-eqb d request.id c i id fits, other) refl
]
event-joint c i d (Replied reply) turn fits id = elim (cases_Bool (d == c)) [
  | inl same ↦ rw (joint-eqb d reply.id c i id fits, same) refl
  | inr other ↦ rw (joint-eqb d reply.id c i id fits, other) refl
]

pub turn-moved : (i : ℕ) (event : Event) (turn : Turn) (events : List Event) (b : Bool)
    → turn_after i (cond b (after_event i event turn) turn) events ≡ turn_after i turn (cond b (event ∷ events) events)
unfolding turn_after
turn-moved i event turn events true = refl
turn-moved i event turn events false = refl

pub turn-joint : (c i : ℕ) (turn : Turn) (moments : List Moment) → i < 2 ^ 32 → HaveIds moments
    → turn_after (joint_id c i) turn (merged moments) ≡ turn_after i turn (of_client c moments)
unfolding turn_after merged of_client
turn-joint c i turn [] fits ids = refl
turn-joint c i turn ((d, event) ∷ moments) fits ids =
    ap (λ t. turn_after (joint_id c i) t (merged moments)) (event-joint c i d event turn fits ids.0)
    ∙ (turn-joint c i (cond (d == c) (after_event i event turn) turn) moments fits ids.1
    ∙ turn-moved i event turn (of_client c moments) (d == c))

-- an id of more than 32 bits has no turns
event-wide : (i : ℕ) (event : Event) (turn : Turn) → 2 ^ 32 ≤ i → id_of event < 2 ^ 32
    → after_event i event turn ≡ turn
event-wide i (Asked request) turn wide id =
    let apart : (request.id == i) ≡ false = ne_eqb request.id i (λ e. omega (arith, e, wide, id)) in rw apart refl
event-wide i (Replied reply) turn wide id =
    let apart : (reply.id == i) ≡ false = ne_eqb reply.id i (λ e. omega (arith, e, wide, id)) in rw apart refl

turn-wide : (c i : ℕ) (turn : Turn) (moments : List Moment) → 2 ^ 32 ≤ i → HaveIds moments
    → turn_after i turn (of_client c moments) ≡ turn
unfolding turn_after of_client
turn-wide c i turn [] wide ids = refl
turn-wide c i turn ((d, event) ∷ moments) wide ids =
    let same = event-wide i event turn wide ids.0 in
    sym (turn-moved i event turn (of_client c moments) (d == c))
    ∙ (turn-wide c i (cond (d == c) (after_event i event turn) turn) moments wide ids.1
    ∙ kept (d == c) same)
  where
    kept : (b : Bool) → after_event i event turn ≡ turn → cond b (after_event i event turn) turn ≡ turn
    kept true same = same
    kept false same = refl

-- what holds of each joint id holds of those that occur
of_joint : (P : ℕ → Type 0) → ((c i : ℕ) → i < 2 ^ 32 → P (joint_id c i)) → (moments : List Moment)
    → HaveIds moments → AllByRecursion P (ids_of (merged moments))
unfolding merged
of_joint P all [] ids = tt
of_joint P all ((d, Asked request) ∷ moments) ids = (all d request.id ids.0, of_joint P all moments ids.1)
of_joint P all ((d, Replied reply) ∷ moments) ids = (all d reply.id ids.0, of_joint P all moments ids.1)

pub matching-clients : (moments : List Moment) → HaveIds moments → Matching (merged moments)
    → (c : ℕ) → Matching (of_client c moments)
matching-clients moments ids matching c i = elim (cases_Bool (nat_lt i (2 ^ 32))) [
  | inl fits ↦ sym (turn-joint c i closed moments (ltb-true _ _ fits) ids) ∙ matching (joint_id c i)
  | inr wide ↦ turn-wide c i closed moments (ltb-false i (2 ^ 32) wide) ids
]

pub matching-joint : (moments : List Moment) → HaveIds moments → ((c : ℕ) → Matching (of_client c moments))
    → Matching (merged moments)
matching-joint moments ids matching =
    Matching-from_ids (merged moments)
    (of_joint (λ id. turn_after id closed (merged moments) ≡ closed)
    (λ c i fits. turn-joint c i closed moments fits ids ∙ matching c i) moments ids)

-- ==== The window.

before-joint : (c i : ℕ) (moments : List Moment) → i < 2 ^ 32 → HaveIds moments
    → requests_before_reply i (of_client c moments) ≤ requests_before_reply (joint_id c i) (merged moments)
unfolding requests_before_reply merged of_client
before-joint c i [] fits ids = omega arith
before-joint c i ((d, Asked request) ∷ moments) fits ids = elim (cases_Bool (d == c)) [
  | inl same ↦ rw same (omega (arith, before-joint c i moments fits ids.1))
  | inr other ↦ rw other (omega (arith, before-joint c i moments fits ids.1))
]
before-joint c i ((d, Replied reply) ∷ moments) fits ids =
    let later = before-joint c i moments fits ids.1 in
    elim (cases_Bool (d == c)) [
      | inl same ↦ elim (cases_Bool (reply.id == i)) [
        | inl this ↦ rw (joint-eqb d reply.id c i ids.0 fits, same) (rw this (omega arith))
        | inr next ↦ rw (joint-eqb d reply.id c i ids.0 fits, same) (rw next later)
      ]
      | inr other ↦ rw (joint-eqb d reply.id c i ids.0 fits, other) later
    ]

pub window-clients : (moments : List Moment) (c : ℕ) → HaveIds moments → in_window (merged moments) ≡ true
    → in_window (of_client c moments) ≡ true
unfolding in_window merged of_client
window-clients [] c ids inside = refl
window-clients ((d, Asked request) ∷ moments) c ids inside =
    let parts = and_parts (nat_lt (requests_before_reply (joint_id d request.id) (merged moments)) window)
    (in_window (merged moments)) inside in
    let later = window-clients moments c ids.1 parts.1 in
    elim (cases_Bool (d == c)) [
      | inl same ↦
          let is : d ≡ c = eqb-true d c same in
          let fewer = before-joint d request.id moments ids.0 ids.1 in
          let few : requests_before_reply request.id (of_client d moments) < window =
          omega (arith, fewer, ltb-true _ _ parts.0) in
          rw same
          (and_from (nat_lt (requests_before_reply request.id (of_client c moments)) window)
          (in_window (of_client c moments))
          (rw (← is) (lt-ltb _ _ few)) later)
      | inr other ↦ rw other later
    ]
window-clients ((d, Replied reply) ∷ moments) c ids inside =
    let later = window-clients moments c ids.1 inside in
    elim (cases_Bool (d == c)) [
      | inl same ↦ rw same later
      | inr other ↦ rw other later
    ]

-- ==== Exchanges.

pub next-joint : (c i : ℕ) (moments : List Moment) → i < 2 ^ 32 → HaveIds moments
    → next_reply (joint_id c i) (merged moments) ≡ option_map (joint_reply c) (next_reply i (of_client c moments))
unfolding next_reply merged of_client
next-joint c i [] fits ids = refl
next-joint c i ((d, Asked request) ∷ moments) fits ids = elim (cases_Bool (d == c)) [
  | inl same ↦ rw same (next-joint c i moments fits ids.1)
  | inr other ↦ rw other (next-joint c i moments fits ids.1)
]
next-joint c i ((d, Replied reply) ∷ moments) fits ids = elim (cases_Bool (d == c)) [
  | inl same ↦ elim (cases_Bool (reply.id == i)) [
    | inl this ↦
        rw (joint-eqb d reply.id c i ids.0 fits, same)
        (rw this (ap (λ (client : ℕ). Some (joint_reply client reply)) (eqb-true d c same)))
    | inr next ↦ rw (joint-eqb d reply.id c i ids.0 fits, same) (rw next (next-joint c i moments fits ids.1))
  ]
  | inr other ↦ rw (joint-eqb d reply.id c i ids.0 fits, other) (next-joint c i moments fits ids.1)
]

pub exchanges-joint : (moments : List Moment) → HaveIds moments → exchanges_of (merged moments) ≡ exchanges_together moments
unfolding exchanges_of merged exchanges_together
exchanges-joint [] ids = refl
exchanges-joint ((d, Asked request) ∷ moments) ids =
    rw (next-joint d request.id moments ids.0 ids.1, exchanges-joint moments ids.1) refl
exchanges-joint ((d, Replied reply) ∷ moments) ids = exchanges-joint moments ids.1

-- ==== Sessions that are explained.

module _ {S : Type 0} (step : StepOf S) (start : S) (moments : List Moment) (end : S) (ids : HaveIds moments) where
  pub together : Explained step start (merged moments) end → ExplainedTogether step start moments end
  together joint = record {
    matching = matching-clients moments ids joint.matching;
    within_window = λ c. window-clients moments c ids joint.within_window;
    run = rw (← exchanges-joint moments ids) joint.run;
  }

  pub apart : ExplainedTogether step start moments end → in_window (merged moments) ≡ true
      → Explained step start (merged moments) end
  apart sessions inside = record {
    matching = matching-joint moments ids sessions.matching;
    within_window = inside;
    run = rw (exchanges-joint moments ids) sessions.run;
  }
