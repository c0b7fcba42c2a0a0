-- Each client's session takes turns, where the ids inside do what they are for.
use Rattle.std.proofs.Common.{◌≡◌, ◌==◌, ◌⊎◌, inl, inr, ℕ, Bool, true, false, List, [], ◌∷◌, refl, sym, ap, ◌∙◌, subst}
use Rattle.std.proofs.Common.{cond, Some, None, eqb-true}
use Rattle.std.proofs.lemmas.Bool.{cases_Bool, eqb-false}
use Rattle.std.proofs.lemmas.Option.{same_Some}
use Rattle.sftp_packets.specs.declared.packets.Request.{Request}
use Rattle.sftp_packets.specs.declared.packets.Reply.{Reply}
use Rattle.sftp_transcript.specs.declared.events.Event.TheVariants.{Asked, Replied}
use Rattle.sftp_transcript.specs.Explained.{Turn, closed, waiting, turn_after, after_event, after_request, after_reply}
use Rattle.sftp_transcript.specs.Explained.{Matching}
use Rattle.sftp_joint.specs.Joint.{of_client}
use Rattle.sftp_joint.specs.Translated.{Inside, outer, Table, with_id, without_id, AreTranslated, nothing_stands}
use Rattle.sftp_joint.proofs.Joint.{turn-moved}
use Rattle.sftp_joint.proofs.Translated.{Injective, injective-with, injective-without, with-other, with-here, without-other}

-- an id of a client waits just where an id inside stands for it
abbrev pub Stands : ℕ → ℕ → Table → Turn → Type 0
Stands c i table turn =
    ((turn ≡ waiting) × ((j : ℕ) × (table j ≡ Some (c, i))))
    ⊎ ((turn ≡ closed) × ((j : ℕ) → table j ≡ Some (c, i) → ⊥))

with-absent : (table : Table) (k j : ℕ) (whose x : ℕ × ℕ) → (whose ≡ x → ⊥) → (table j ≡ Some x → ⊥)
    → with_id k whose table j ≡ Some x → ⊥
with-absent table k j whose x apart none there = by (j == k) there
  where
    by : (b : Bool) → cond b (Some whose) (table j) ≡ Some x → ⊥
    by true is = apart (same_Some whose x is)
    by false is = none is

without-absent : (table : Table) (k j : ℕ) (x : ℕ × ℕ) → ((j == k) ≡ false → table j ≡ Some x → ⊥)
    → without_id k table j ≡ Some x → ⊥
without-absent table k j x none there = by (j == k) refl there
  where
    by : (b : Bool) → (j == k) ≡ b → cond b None (table j) ≡ Some x → ⊥
    by true same is = absurd cc
    by false other is = none other is

asked-other : (c i k : ℕ) (whose : ℕ × ℕ) (table : Table) (turn : Turn) → table k ≡ None → (whose ≡ (c, i) → ⊥)
    → Stands c i table turn → Stands c i (with_id k whose table) turn
asked-other c i k whose table turn none apart stands = elim stands [
  | inl waits ↦ inl (waits.0, (waits.1.0, with-other table k waits.1.0 whose (c, i) none waits.1.1))
  | inr rests ↦ inr (rests.0, λ j there. with-absent table k j whose (c, i) apart (rests.1 j) there)
]

asked-this : (c i k : ℕ) (table : Table) (turn : Turn) → ((other : ℕ) → table other ≡ Some (c, i) → ⊥)
    → Stands c i table turn → Stands c i (with_id k (c, i) table) (after_request turn)
asked-this c i k table turn new stands = elim stands [
  | inl waits ↦ absurd (new waits.1.0 waits.1.1)
  | inr rests ↦ inl (ap after_request rests.0, (k, with-here table k (c, i)))
]

turn-asked : (c i k d : ℕ) (request : Request) (table : Table) (turn : Turn) → table k ≡ None
    → ((other : ℕ) → table other ≡ Some (d, request.id) → ⊥) → Stands c i table turn
    → Stands c i (with_id k (d, request.id) table) (cond (d == c) (after_event i (Asked request) turn) turn)
turn-asked c i k d request table turn none new stands = by (d == c) (request.id == i) refl refl
  where
    by : (p q : Bool) → (d == c) ≡ p → (request.id == i) ≡ q
        → Stands c i (with_id k (d, request.id) table) (cond p (cond q (after_request turn) turn) turn)
    by true true same this =
        let whose : (c, i) ≡ (d, request.id) = λ n. (sym (eqb-true d c same) n, sym (eqb-true request.id i this) n) in
        subst (λ (x : ℕ × ℕ). Stands c i (with_id k x table) (after_request turn)) whose
        (asked-this c i k table turn
        (λ other there. new other (there ∙ ap (λ (x : ℕ × ℕ). Some x) whose)) stands)
    by true false same next =
        asked-other c i k (d, request.id) table turn none
        (λ e. eqb-false request.id i next (ap (λ (x : ℕ × ℕ). x.1) e)) stands
    by false q other this =
        asked-other c i k (d, request.id) table turn none (λ e. eqb-false d c other (ap (λ (x : ℕ × ℕ). x.0) e)) stands

replied-other : (c i k : ℕ) (whose : ℕ × ℕ) (table : Table) (turn : Turn) → table k ≡ Some whose
    → (whose ≡ (c, i) → ⊥) → Stands c i table turn → Stands c i (without_id k table) turn
replied-other c i k whose table turn there apart stands = elim stands [
  | inl waits ↦ inl (waits.0, (waits.1.0, by (k == waits.1.0) refl waits.1.0 refl waits.1.1))
  | inr rests ↦ inr (rests.0, λ j is. without-absent table k j (c, i) (λ away. rests.1 j) is)
]
  where
    by : (b : Bool) → b ≡ b → (j : ℕ) → j ≡ j → table j ≡ Some (c, i) → without_id k table j ≡ Some (c, i)
    by b same j again is = elim (cases_Bool (k == j)) [
      | inl here ↦
          absurd
          (apart (same_Some whose (c, i) (sym there ∙ (ap table (eqb-true k j here) ∙ is))))
      | inr away ↦ without-other table k j (c, i) away is
    ]

replied-this : (c i k : ℕ) (table : Table) (turn : Turn) → Injective table → table k ≡ Some (c, i)
    → Stands c i table turn → Stands c i (without_id k table) (after_reply turn)
replied-this c i k table turn injective there stands = elim stands [
  | inl waits ↦
      inr (
        ap after_reply waits.0,
        λ j is.
            without-absent table k j (c, i) (λ away now. eqb-false j k away (injective j k (c, i) now there)) is,
      )
  | inr rests ↦ absurd (rests.1 k there)
]

turn-replied : (c i k d : ℕ) (reply : Reply) (table : Table) (turn : Turn) → Injective table
    → table k ≡ Some (d, reply.id) → Stands c i table turn
    → Stands c i (without_id k table) (cond (d == c) (after_event i (Replied reply) turn) turn)
turn-replied c i k d reply table turn injective there stands = by (d == c) (reply.id == i) refl refl
  where
    by : (p q : Bool) → (d == c) ≡ p → (reply.id == i) ≡ q
        → Stands c i (without_id k table) (cond p (cond q (after_reply turn) turn) turn)
    by true true same this =
        replied-this c i k table turn injective
        (there ∙ (λ n. Some (eqb-true d c same n, eqb-true reply.id i this n))) stands
    by true false same next =
        replied-other c i k (d, reply.id) table turn there
        (λ e. eqb-false reply.id i next (ap (λ (x : ℕ × ℕ). x.1) e)) stands
    by false q other this =
        replied-other c i k (d, reply.id) table turn there (λ e. eqb-false d c other (ap (λ (x : ℕ × ℕ). x.0) e)) stands

pub turn-inner : (c i : ℕ) (table last : Table) (insides : List Inside) (turn : Turn) → Injective table
    → AreTranslated table insides last → Stands c i table turn
    → Stands c i last (turn_after i turn (of_client c (outer insides)))
unfolding turn_after of_client outer AreTranslated
turn-inner c i table last [] turn injective are stands =
    subst (λ (t : Table). Stands c i t turn) (λ n id. are id n) stands
turn-inner c i table last ((k, (d, Asked request)) ∷ insides) turn injective are stands =
    subst (λ (t : Turn). Stands c i last t) (turn-moved i (Asked request) turn (of_client c (outer insides)) (d == c))
    (turn-inner c i (with_id k (d, request.id) table) last insides
    (cond (d == c) (after_event i (Asked request) turn) turn)
    (injective-with table k (d, request.id) injective are.1) are.2
    (turn-asked c i k d request table turn are.0 are.1 stands))
turn-inner c i table last ((k, (d, Replied reply)) ∷ insides) turn injective are stands =
    subst (λ (t : Turn). Stands c i last t) (turn-moved i (Replied reply) turn (of_client c (outer insides)) (d == c))
    (turn-inner c i (without_id k table) last insides (cond (d == c) (after_event i (Replied reply) turn) turn)
    (injective-without table k injective) are.1
    (turn-replied c i k d reply table turn injective are.0 stands))

-- once nothing inside waits, each client's session takes turns up to its end
pub matching-inner : (insides : List Inside) → AreTranslated nothing_stands insides nothing_stands → (c : ℕ)
    → Matching (of_client c (outer insides))
matching-inner insides are c i =
    elim (turn-inner c i nothing_stands nothing_stands insides closed (λ a b x is_a is_b. absurd cc) are
    (inr (refl, λ j is. absurd cc))) [
      | inl waits ↦ absurd (let no = waits.1.1 in cc)
      | inr rests ↦ rests.0
    ]
