-- The exchanges of one client, and runs of several clients.
use Rattle.std.proofs.Common.{◌≡◌, ◌==◌, inl, inr, ℕ, List, [], ◌∷◌, refl, sym, ap, ◌∙◌}
use Rattle.std.proofs.Common.{arith, ◌+◌, ◌^◌, ◌<◌, ◌≤◌, Option, Some, None, nat_lt, nat_le, eqb-true, subst}
use Rattle.std.proofs.lemmas.Bool.{cases_Bool, and_from, and_parts, lt-ltb, le-leb, eqb-false, leb-true, ltb-true}
use Rattle.std.specs.Option.{option_map}
use Rattle.sftp_packets.specs.declared.packets.Request.{Request}
use Rattle.sftp_packets.specs.declared.packets.Reply.{Reply}
use Rattle.sftp_transcript.specs.declared.events.Event.TheVariants.{Asked, Replied}
use Rattle.sftp_transcript.specs.Explained.{next_reply, exchanges_of, leading_pairs, StepOf, Run, Exchange}
use Rattle.sftp_joint.specs.Joint.{Moment, of_client, joint_id, joint_request, joint_reply, is_by, exchanges_by}
use Rattle.sftp_joint.specs.Joint.{exchanges_together, joint_exchanges, HaveIds}
use Rattle.sftp_joint.specs.Deeds.{happenings_of, moments_of, Deed, deed_before}
use Rattle.sftp_joint.specs.Deeds.{deeds_of, LeaveOf, RunTogether}

-- ==== The exchanges of one client.

by-joint : (c d i : ℕ) → i < 2 ^ 32 → is_by c (joint_id d i) ≡ (d == c)
by-joint c d i fits = elim (cases_Bool (d == c)) [
  | inl same ↦
      let is : d ≡ c = eqb-true d c same in
      let low : joint_id c 0 ≤ joint_id d i = omega (arith, is) in
      let high : joint_id d i < joint_id (c + 1) 0 = omega (arith, is, fits) in
      and_from (nat_le (joint_id c 0) (joint_id d i)) (nat_lt (joint_id d i) (joint_id (c + 1) 0)) (le-leb _ _ low)
      (lt-ltb _ _ high) ∙ sym same
  | inr other ↦ elim (cases_Bool (is_by c (joint_id d i))) [
    | inl both ↦
        let parts = and_parts (nat_le (joint_id c 0) (joint_id d i)) (nat_lt (joint_id d i) (joint_id (c + 1) 0)) both in
        let low = leb-true (joint_id c 0) (joint_id d i) parts.0 in
        let high = ltb-true (joint_id d i) (joint_id (c + 1) 0) parts.1 in
        let is : d ≡ c = omega (arith, low, high, fits) in
        absurd (eqb-false d c other is)
    | inr none ↦ none ∙ sym other
  ]
]

-- among the exchanges of all, those of a client are those of its own session
pub exchanges-own : (c : ℕ) (moments : List Moment) → HaveIds moments
    → exchanges_by c (exchanges_together moments) ≡ joint_exchanges c (exchanges_of (of_client c moments))
unfolding exchanges_by exchanges_together joint_exchanges exchanges_of of_client
exchanges-own c [] ids = refl
exchanges-own c ((d, Asked request) ∷ moments) ids = elim (cases_Bool (d == c)) [
  | inl same ↦
      rw (by-joint c d request.id ids.0, same)
      (rw (exchanges-own c moments ids.1)
      (ap (λ (client : ℕ). (
        joint_request client request,
        option_map (joint_reply client)
            (next_reply request.id (of_client client moments)),
      )
      ∷ joint_exchanges c (exchanges_of (of_client c moments))) (eqb-true d c same)))
  | inr other ↦ rw (by-joint c d request.id ids.0, other) (exchanges-own c moments ids.1)
]
exchanges-own c ((d, Replied reply) ∷ moments) ids = elim (cases_Bool (d == c)) [
  | inl same ↦ rw same (exchanges-own c moments ids.1)
  | inr other ↦ rw other (exchanges-own c moments ids.1)
]

-- ==== Runs of several clients.

pub moments-again : (moments : List Moment) → moments_of (happenings_of moments) ≡ moments
unfolding moments_of
moments-again [] = refl
moments-again ((client, event) ∷ moments) = ap (λ (later : List Moment). (client, event) ∷ later) (moments-again moments)

module _ {S : Type 0} (step : StepOf S) (leave : LeaveOf S) where
  one-more : (client : ℕ) (request : Request) (o : Option Reply) (deeds : List Deed) (exchanges : List Exchange)
      → ((s end : S) → RunTogether step leave s deeds end → Run step s (leading_pairs exchanges) end) → (s end : S)
      → RunTogether step leave s (deed_before client request o deeds) end
      → Run step s (leading_pairs ((joint_request client request, option_map (joint_reply client) o) ∷ exchanges)) end
  unfolding leading_pairs
  one-more client request None deeds exchanges later s end run = run
  one-more client request (Some reply) deeds exchanges later s end run = (run.0, run.1, later run.0 end run.2)

  -- where no session ends, a run of several clients is a run of the joint session
  pub run-joint : (moments : List Moment) (s end : S)
      → RunTogether step leave s (deeds_of (happenings_of moments)) end
      → Run step s (leading_pairs (exchanges_together moments)) end
  unfolding deeds_of exchanges_together moments_of leading_pairs
  run-joint [] s end run = run
  run-joint ((client, Asked request) ∷ moments) s end run =
      one-more client request (next_reply request.id (of_client client moments)) (deeds_of (happenings_of moments))
      (exchanges_together moments) (run-joint moments) s end
      (subst (λ (ms : List Moment). RunTogether step leave s (deed_before client request
      (next_reply request.id (of_client client ms)) (deeds_of (happenings_of moments))) end) (moments-again moments) run)
  run-joint ((client, Replied reply) ∷ moments) s end run = run-joint moments s end run
