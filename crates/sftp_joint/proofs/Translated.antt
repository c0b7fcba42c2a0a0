-- A history is what the session inside is, but for ids: what is proved of that session holds of the clients' sessions.
use Rattle.std.proofs.Common.{◌≡◌, ◌==◌, inl, inr, ℕ, Bool, true, false, List, [], ◌∷◌, refl, sym, ap, ◌∙◌, subst}
use Rattle.std.proofs.Common.{cond, map, Option, Some, None, eqb-true, eq-eqb}
use Rattle.std.proofs.lemmas.Bool.{cases_Bool, ne_eqb, eqb-false}
use Rattle.std.proofs.lemmas.Option.{same_Some}
use Rattle.std.specs.Option.{option_map}
use Rattle.std.specs.List.{AllByRecursion}
use Rattle.sftp_packets.specs.declared.requests.Ask.{Ask}
use Rattle.sftp_packets.specs.declared.replies.Answer.{Answer}
use Rattle.sftp_packets.specs.declared.packets.Request.{Request}
use Rattle.sftp_packets.specs.declared.packets.Reply.{Reply}
use Rattle.sftp_transcript.specs.declared.events.Event.{Event}
use Rattle.sftp_transcript.specs.declared.events.Event.TheVariants.{Asked, Replied}
use Rattle.sftp_transcript.specs.Explained.{next_reply, exchanges_of, leading_pairs, StepOf, Run, Exchange}
use Rattle.sftp_joint.specs.Joint.{Moment, of_client, joint_id, joint_ask, joint_answer, joint_request, joint_reply}
use Rattle.sftp_joint.specs.Joint.{exchanges_together}
use Rattle.sftp_joint.specs.Translated.{Inside, inner, outer, Table, with_id, without_id, AreTranslated, nothing_stands, without_ids}

-- ==== Tables.

-- no two ids inside stand for the same
abbrev pub Injective : Table → Type 0
Injective table = (a b : ℕ) (x : ℕ × ℕ) → table a ≡ Some x → table b ≡ Some x → a ≡ b

pub injective-with : (table : Table) (id : ℕ) (whose : ℕ × ℕ) → Injective table
    → ((other : ℕ) → table other ≡ Some whose → ⊥) → Injective (with_id id whose table)
injective-with table id whose injective new a b x is_a is_b = by (a == id) (b == id) refl refl is_a is_b
  where
    by : (p q : Bool) → (a == id) ≡ p → (b == id) ≡ q → cond p (Some whose) (table a) ≡ Some x
        → cond q (Some whose) (table b) ≡ Some x → a ≡ b
    by true true here_a here_b is_a is_b = eqb-true a id here_a ∙ sym (eqb-true b id here_b)
    by true false here_a here_b is_a is_b = absurd (new b (is_b ∙ sym is_a))
    by false true here_a here_b is_a is_b = absurd (new a (is_a ∙ sym is_b))
    by false false here_a here_b is_a is_b = injective a b x is_a is_b

pub injective-without : (table : Table) (id : ℕ) → Injective table → Injective (without_id id table)
injective-without table id injective a b x is_a is_b = by (a == id) (b == id) is_a is_b
  where
    by : (p q : Bool) → cond p None (table a) ≡ Some x → cond q None (table b) ≡ Some x → a ≡ b
    by true q is_a is_b = absurd cc
    by false true is_a is_b = absurd cc
    by false false is_a is_b = injective a b x is_a is_b

flipped : (a b : ℕ) → (a == b) ≡ false → (b == a) ≡ false
flipped a b other = ne_eqb b a (λ e. eqb-false a b other (sym e))

-- what an id stands for stays when another is given, or stands for nothing more
pub with-other : (table : Table) (id j : ℕ) (whose x : ℕ × ℕ) → table id ≡ None → table j ≡ Some x
    → with_id id whose table j ≡ Some x
with-other table id j whose x none there = elim (cases_Bool (j == id)) [
  | inl same ↦ absurd (let no : None ≡ Some x = sym none ∙ (ap table (sym (eqb-true j id same)) ∙ there) in cc)
  | inr other ↦ rw other there
]

pub with-here : (table : Table) (id : ℕ) (whose : ℕ × ℕ) → with_id id whose table id ≡ Some whose
with-here table id whose = rw (eq-eqb id id refl) refl

pub without-other : (table : Table) (id j : ℕ) (x : ℕ × ℕ) → (id == j) ≡ false → table j ≡ Some x
    → without_id id table j ≡ Some x
without-other table id j x apart there = rw (flipped id j apart) there

-- ==== Replies.

pub next-inner : (table end : Table) (insides : List Inside) (j c i : ℕ) → Injective table → table j ≡ Some (c, i)
    → AreTranslated table insides end
    → option_map (λ (p : Reply). p.answer) (next_reply j (inner insides))
    ≡ option_map (λ (p : Reply). joint_answer c p.answer) (next_reply i (of_client c (outer insides)))
unfolding next_reply inner outer of_client AreTranslated
next-inner table end [] j c i injective there are = refl
next-inner table end ((k, (d, Asked request)) ∷ insides) j c i injective there are =
    let later =
    next-inner (with_id k (d, request.id) table) end insides j c i (injective-with table k (d, request.id) injective are.1)
    (with-other table k j (d, request.id) (c, i) are.0 there) are.2 in
    elim (cases_Bool (d == c)) [
      | inl same ↦ rw same later
      | inr other ↦ rw other later
    ]
next-inner table end ((k, (d, Replied reply)) ∷ insides) j c i injective there are = elim (cases_Bool (k == j)) [
  | inl here ↦
      let whose : (d, reply.id) ≡ (c, i) =
      same_Some (d, reply.id) (c, i) (sym are.0 ∙ (ap table (eqb-true k j here) ∙ there)) in
      let client : d ≡ c = ap (λ (x : ℕ × ℕ). x.0) whose in
      let id : reply.id ≡ i = ap (λ (x : ℕ × ℕ). x.1) whose in
      rw (here, eq-eqb d c client)
      (rw (eq-eqb reply.id i id) (ap (λ (client : ℕ). Some (joint_answer client reply.answer)) client))
  | inr away ↦
      let later =
      next-inner (without_id k table) end insides j c i (injective-without table k injective)
      (without-other table k j (c, i) away there) are.1 in
      elim (cases_Bool (d == c)) [
        | inl same ↦ elim (cases_Bool (reply.id == i)) [
          | inl this ↦
              let whose : table k ≡ Some (c, i) =
              are.0 ∙ (λ n. Some (eqb-true d c same n, eqb-true reply.id i this n)) in
              absurd (eqb-false k j away (injective k j (c, i) whose there))
          | inr next ↦ rw (away, same) (rw next later)
        ]
        | inr other ↦ rw (away, other) later
      ]
]

-- ==== Exchanges.

fused : (d : ℕ) (o : Option Reply)
    → option_map (λ (p : Reply). joint_answer d p.answer) o
    ≡ option_map (λ (p : Reply). p.answer) (option_map (joint_reply d) o)
fused d None = refl
fused d (Some reply) = refl

-- the exchanges of the session inside are those of the clients, but for ids
pub exchanges-inner : (table end : Table) (insides : List Inside) → Injective table → AreTranslated table insides end
    → map without_ids (exchanges_of (inner insides)) ≡ map without_ids (exchanges_together (outer insides))
unfolding exchanges_of exchanges_together inner outer AreTranslated
exchanges-inner table end [] injective are = refl
exchanges-inner table end ((k, (d, Asked request)) ∷ insides) injective are =
    let still = injective-with table k (d, request.id) injective are.1 in
    let later = exchanges-inner (with_id k (d, request.id) table) end insides still are.2 in
    let answer =
    next-inner (with_id k (d, request.id) table) end insides k d request.id still (with-here table k (d, request.id)) are.2
    ∙ fused d (next_reply request.id (of_client d (outer insides))) in
    λ n. (joint_ask d request.ask, answer n) ∷ later n
exchanges-inner table end ((k, (d, Replied reply)) ∷ insides) injective are =
    exchanges-inner (without_id k table) end insides (injective-without table k injective) are.1

-- ==== Runs.

abbrev pub HasOwnId : Exchange → Type 0
HasOwnId (request, None) = Unit {0}
HasOwnId (request, Some reply) = reply.id ≡ request.id

next-id : (i : ℕ) (events : List Event) (P : Reply → Type 0) → ((p : Reply) → p.id ≡ i → P p) → (o : Option Reply)
    → next_reply i events ≡ o → (p : Reply) → o ≡ Some p → P p
unfolding next_reply
next-id i [] P so o is p there = absurd (let no : None ≡ Some p = is ∙ there in cc)
next-id i (Asked request ∷ events) P so o is p there = next-id i events P so o is p there
next-id i (Replied reply ∷ events) P so o is p there = by (reply.id == i) refl is (next-id i events P so o)
  where
    by : (b : Bool) → (reply.id == i) ≡ b → cond b (Some reply) (next_reply i events) ≡ o
        → (next_reply i events ≡ o → (p : Reply) → o ≡ Some p → P p) → P p
    by true here is rest =
        let same : reply ≡ p = same_Some reply p (is ∙ there) in
        subst P same (so reply (eqb-true reply.id i here))
    by false away is rest = rest is p there

own-joint : (d : ℕ) (request : Request) (o : Option Reply) → ((p : Reply) → o ≡ Some p → p.id ≡ request.id)
    → HasOwnId (joint_request d request, option_map (joint_reply d) o)
own-joint d request None so = tt
own-joint d request (Some p) so = ap (joint_id d) (so p refl)

pub own-ids : (moments : List Moment) → AllByRecursion HasOwnId (exchanges_together moments)
unfolding exchanges_together
own-ids [] = tt
own-ids ((d, Asked request) ∷ moments) = (
  own-joint d request (next_reply request.id (of_client d moments))
      (λ p there. next-id request.id (of_client d moments) (λ q. q.id ≡ request.id) (λ q same. same)
      (next_reply request.id (of_client d moments)) refl p there),
  own-ids moments,
)
own-ids ((d, Replied reply) ∷ moments) = own-ids moments

-- the step reads no id, but that the reply has that of its request
abbrev pub IgnoresIds : {S : Type 0} → StepOf S → Type 0
IgnoresIds {S} step =
    (s end : S) (request other : Request) (reply again : Reply) → request.ask ≡ other.ask → reply.answer ≡ again.answer
    → again.id ≡ other.id → step s request reply end → step s other again end

firsts : (x y : Ask × Option Answer) (xs ys : List (Ask × Option Answer)) → x ∷ xs ≡ y ∷ ys → x ≡ y
firsts x y xs ys same = cc

rests : (x y : Ask × Option Answer) (xs ys : List (Ask × Option Answer)) → x ∷ xs ≡ y ∷ ys → xs ≡ ys
rests x y xs ys same = cc

module _ {S : Type 0} (step : StepOf S) (ignores : IgnoresIds step) where
  -- a run goes over exchanges, whatever their ids
  pub run-without_ids : (xs ys : List Exchange) (s end : S) → map without_ids xs ≡ map without_ids ys → AllByRecursion HasOwnId ys
      → Run step s (leading_pairs xs) end → Run step s (leading_pairs ys) end
  unfolding leading_pairs
  run-without_ids [] [] s end same own run = run
  run-without_ids [] (y ∷ ys) s end same own run = absurd cc
  run-without_ids (x ∷ xs) [] s end same own run = absurd cc
  run-without_ids ((r, None) ∷ xs) ((q, None) ∷ ys) s end same own run = run
  run-without_ids ((r, None) ∷ xs) ((q, Some p) ∷ ys) s end same own run =
      absurd
      (let first = firsts (without_ids (r, None)) (without_ids (q, Some p)) (map without_ids xs) (map without_ids ys) same in
      let no : None ≡ Some p.answer = ap (λ (x : Ask × Option Answer). x.1) first in cc)
  run-without_ids ((r, Some a) ∷ xs) ((q, None) ∷ ys) s end same own run =
      absurd
      (let first = firsts (without_ids (r, Some a)) (without_ids (q, None)) (map without_ids xs) (map without_ids ys) same in
      let no : Some a.answer ≡ None = ap (λ (x : Ask × Option Answer). x.1) first in cc)
  run-without_ids ((r, Some a) ∷ xs) ((q, Some p) ∷ ys) s end same own run =
      let first = firsts (without_ids (r, Some a)) (without_ids (q, Some p)) (map without_ids xs) (map without_ids ys) same in
      let rest = rests (without_ids (r, Some a)) (without_ids (q, Some p)) (map without_ids xs) (map without_ids ys) same in
      let asks : r.ask ≡ q.ask = ap (λ (x : Ask × Option Answer). x.0) first in
      let answers : a.answer ≡ p.answer =
      same_Some a.answer p.answer (ap (λ (x : Ask × Option Answer). x.1) first) in
      (run.0, ignores s run.0 r q a p asks answers own.0 run.1, run-without_ids xs ys run.0 end rest own.1 run.2)

  -- the run of the session inside is the run of the clients' sessions
  pub run-inner : (end_table : Table) (insides : List Inside) (s end : S)
      → AreTranslated nothing_stands insides end_table
      → Run step s (leading_pairs (exchanges_of (inner insides))) end
      → Run step s (leading_pairs (exchanges_together (outer insides))) end
  run-inner end_table insides s end are run =
      run-without_ids (exchanges_of (inner insides)) (exchanges_together (outer insides)) s end
      (exchanges-inner nothing_stands end_table insides (λ a b x is_a is_b. absurd cc) are) (own-ids (outer insides)) run
