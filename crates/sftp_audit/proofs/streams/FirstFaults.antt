-- An audit meets one fault first.
use Rattle.sftp_audit.proofs.Imports.{◌≡◌, ◌≢◌, ◌⊎◌, inl, inr, ℕ, List, [], ◌∷◌, ◌++◌, length, refl, sym, ap, ◌∙◌}
use Rattle.sftp_audit.proofs.Imports.{subst, append_assoc, arith, length-append, Tree, IsStart, one_start, StepOf}
use Rattle.sftp_audit.proofs.Imports.{TranscriptError, Event, Sound, records_are_one_lem, AuditError, Refusal}
use Rattle.sftp_audit.proofs.Imports.{Exchange, Refuses, LacksReply, RefusedAt, RefusedAtEnd, FaultAt, IsFirstFaultBy}
use Rattle.sftp_audit.proofs.Imports.{IsTreeError, IsPlain, begins_each, faulty_records_none, Explained, AccountsBy}
use Rattle.sftp_audit.specs.Auditor.{IsOldestOpen}
use Rattle.sftp_transcript.specs.declared.errors.TranscriptError.TheVariants as transcript_errors
use Rattle.sftp_transcript.proofs.transcripts.{Extends, beginnings_compared, one_fault, first_before_fault}
use Rattle.sftp_audit.specs.declared.errors.AuditError.TheVariants as audit_errors
use Rattle.sftp_audit.specs.declared.errors.Refusal.TheVariants as refusals
use Rattle.sftp_audit.proofs.steps.{HasOneEnd, explained-one_end}
use Rattle.sftp_audit.proofs.auditing.{same_head, same_tail}
use Rattle.sftp_audit.proofs.auditing.Standing.{refuses_unsound}
use Rattle.sftp_audit.proofs.auditing.Refusals.{one_refusal}

-- ---- what an error is not, if it is plain

pub unlike_fault : (error : TranscriptError) → IsPlain (audit_errors.Transcript error) → error ≢ transcript_errors.NoMemory
unlike_fault transcript_errors.NoMemory plain same = plain
unlike_fault other plain same = absurd cc

pub unlike_refusal : (refusal : Refusal) → IsPlain (audit_errors.Refused refusal) → refusal ≢ refusals.NoMemory
unlike_refusal refusals.NoMemory plain same = plain
unlike_refusal other plain same = absurd cc

one_start_of : (tree : List ℕ) (t u : Tree) → IsStart t tree → IsStart u tree → u ≡ t
one_start_of tree t u of_t of_u = one_start u t tree of_u of_t

-- ---- two refusals of events

none_left : (ws more : List Event) (x : Event) → [] ≡ (ws ++ x ∷ []) ++ more → ⊥
none_left ws more x same =
    absurd (omega (arith, ap length same, length-append (ws ++ x ∷ []) more, length-append ws (x ∷ [])))

-- the last event of the longer list is that of the other one, or this one comes before it
record Before (xs : List Event) (x : Event) (ys : List Event) : Type 0 where
  between : List Event
  are : ys ≡ xs ++ x ∷ between

last_or_before : (xs ys more : List Event) (x y : Event) → ys ++ y ∷ [] ≡ (xs ++ x ∷ []) ++ more
    → ((xs ≡ ys) × (x ≡ y)) ⊎ Before xs x ys
last_or_before [] [] more x y same = inl (refl, sym (same_head y x [] more same))
last_or_before [] (z ∷ zs) more x y same =
    inr (record { between = zs; are = ap (λ (e : Event). e ∷ zs) (same_head z x (zs ++ y ∷ []) more same) })
last_or_before (w ∷ ws) [] more x y same = absurd (none_left ws more x (same_tail y w [] ((ws ++ x ∷ []) ++ more) same))
last_or_before (w ∷ ws) (z ∷ zs) more x y same =
    let head : z ≡ w = same_head z w (zs ++ y ∷ []) ((ws ++ x ∷ []) ++ more) same in
    elim (last_or_before ws zs more x y (same_tail z w (zs ++ y ∷ []) ((ws ++ x ∷ []) ++ more) same)) [
      | inl both ↦
          inl (ap (λ (l : List Event). w ∷ l) both.0 ∙ ap (λ (e : Event). e ∷ zs) (sym head), both.1)
      | inr before ↦ inr (record {
        between = before.between;
        are = ap (λ (e : Event). e ∷ zs) head ∙ ap (λ (l : List Event). w ∷ l) before.are;
      })
    ]

module _ {S : Type 0} (step : StepOf S) (one_end : HasOneEnd step) where
  -- a session that is sound goes past no event that is refused
  not_before : (start : S) (transcript : List ℕ) (refusal : Refusal) (events : List Event) (end : S)
      → refusal ≢ refusals.NoMemory → (at : RefusedAt step start transcript refusal)
      → Sound step start events end
      → Before at.events at.event events → ⊥
  not_before start transcript refusal events end apart at sound before =
      refuses_unsound step one_end start at.events at.event refusal at.end at.sound at.refuses apart before.between end
      (subst (λ (l : List Event). Sound step start l end) before.are sound)

  at_one : (start : S) (transcript : List ℕ) (a b : Refusal) → a ≢ refusals.NoMemory → b ≢ refusals.NoMemory
      → (one : RefusedAt step start transcript a) (other : RefusedAt step start transcript b)
      → Extends (one.events ++ one.event ∷ []) one.rest (other.events ++ other.event ∷ []) other.rest → a ≡ b
  at_one start transcript a b not_a not_b one other on =
      elim (last_or_before one.events other.events on.more one.event other.event on.others_are) [
        | inl both ↦
            let here : Refuses step start other.events one.event a =
            subst (λ (l : List Event). Refuses step start l one.event a) both.0 one.refuses in
            one_refusal step one_end start other.events other.event a b
            (subst (λ (e : Event). Refuses step start other.events e a) both.1 here)
            other.refuses not_a not_b
        | inr before ↦
            absurd (not_before start transcript a other.events other.end not_a one other.sound before)
      ]

  two_refused : (start : S) (transcript : List ℕ) (a b : Refusal) → a ≢ refusals.NoMemory → b ≢ refusals.NoMemory
      → RefusedAt step start transcript a → RefusedAt step start transcript b → a ≡ b
  two_refused start transcript a b not_a not_b one other =
      elim
      (beginnings_compared transcript (one.events ++ one.event ∷ []) (other.events ++ other.event ∷ []) one.rest
      other.rest one.begins other.begins) [
        | inl on ↦ at_one start transcript a b not_a not_b one other on
        | inr on ↦ sym (at_one start transcript b a not_b not_a other one on)
      ]

-- ---- an event is refused, or a request has no reply

one_lack_by : (events : List Event) (m n : ℕ) → IsOldestOpen events m → IsOldestOpen events n → m ≡ n
one_lack_by events m n one other =
    let same : one.0 ∷ one.1 ≡ other.0 ∷ other.1 = sym one.2 ∙ other.2 in
    one.3 ∙ ap (λ (x : Exchange). x.number) (same_head one.0 other.0 one.1 other.1 same) ∙ sym other.3

why_lacks : (events : List Event) (refusal : Refusal) → LacksReply events refusal
    → (number : ℕ) × (refusal ≡ refusals.Unanswered number) × IsOldestOpen events number
why_lacks events (refusals.Unanswered number) lacks = (number, refl, lacks)
why_lacks events other lacks = absurd lacks

one_lack : (events : List Event) (a b : Refusal) → LacksReply events a → LacksReply events b → a ≡ b
one_lack events a b for_a for_b =
    let one = why_lacks events a for_a in
    let other = why_lacks events b for_b in
    one.1 ∙ ap (λ (n : ℕ). refusals.Unanswered n) (one_lack_by events one.0 other.0 one.2 other.2) ∙ sym other.1

module _ {S : Type 0} (step : StepOf S) (one_end : HasOneEnd step) where
  two_ends : (start : S) (transcript : List ℕ) (a b : Refusal) → RefusedAtEnd step start transcript a
      → RefusedAtEnd step start transcript b → a ≡ b
  two_ends start transcript a b one other =
      let same : other.events ≡ one.events =
      records_are_one_lem other.events one.events transcript other.recorded one.recorded in
      one_lack one.events a b one.lacks (subst (λ (l : List Event). LacksReply l b) same other.lacks)

  refused_before_end : (start : S) (transcript : List ℕ) (a b : Refusal) → a ≢ refusals.NoMemory
      → RefusedAt step start transcript a → RefusedAtEnd step start transcript b → ⊥
  refused_before_end start transcript a b not_a at atend =
      let on = begins_each (at.events ++ at.event ∷ []) atend.events transcript at.rest at.begins atend.recorded in
      not_before step one_end start transcript a atend.events atend.end not_a at atend.sound (record {
        between = on.more;
        are = on.others_are ∙ append_assoc at.events (at.event ∷ []) on.more;
      })

  abbrev IsRefused : S → List ℕ → Refusal → Type 0
  IsRefused start transcript refusal =
      RefusedAt step start transcript refusal ⊎ RefusedAtEnd step start transcript refusal

  one_refused : (start : S) (transcript : List ℕ) (a b : Refusal) → a ≢ refusals.NoMemory → b ≢ refusals.NoMemory
      → IsRefused start transcript a → IsRefused start transcript b → a ≡ b
  one_refused start transcript a b not_a not_b (inl one) (inl other) =
      two_refused step one_end start transcript a b not_a not_b one other
  one_refused start transcript a b not_a not_b (inl one) (inr other) =
      absurd (refused_before_end start transcript a b not_a one other)
  one_refused start transcript a b not_a not_b (inr one) (inl other) =
      absurd (refused_before_end start transcript b a not_b other one)
  one_refused start transcript a b not_a not_b (inr one) (inr other) = two_ends start transcript a b one other

  -- ---- a record has a fault, or an event is refused

  fault_alone : (start : S) (transcript : List ℕ) (error : TranscriptError) (refusal : Refusal)
      → error ≢ transcript_errors.NoMemory → refusal ≢ refusals.NoMemory → FaultAt step start transcript error
      → IsRefused start transcript refusal → ⊥
  fault_alone start transcript error refusal apart not_memory at (inl refused) =
      let first = first_before_fault transcript at.events (refused.events ++ refused.event ∷ []) refused.rest error apart
      at.fault refused.begins in
      not_before step one_end start transcript refusal at.events at.end not_memory refused at.sound (record {
        between = first.more;
        are = first.events_are ∙ append_assoc refused.events (refused.event ∷ []) first.more;
      })
  fault_alone start transcript error refusal apart not_memory at (inr atend) =
      faulty_records_none transcript at.events atend.events error apart at.fault atend.recorded

  -- ---- the first fault

  pub one_first_fault : (begin : Tree → S) (tree transcript : List ℕ) (a b : AuditError) → IsFirstFaultBy step begin tree transcript a
      → IsFirstFaultBy step begin tree transcript b → IsPlain a → IsPlain b → a ≢ audit_errors.NoMemory
      → b ≢ audit_errors.NoMemory → (IsTreeError a × IsTreeError b) ⊎ (a ≡ b)
  one_first_fault begin tree transcript audit_errors.NoMemory b for_a for_b plain_a plain_b not_a not_b = absurd (not_a refl)
  one_first_fault begin tree transcript a audit_errors.NoMemory for_a for_b plain_a plain_b not_a not_b = absurd (not_b refl)
  one_first_fault begin tree transcript (audit_errors.Tree e) (audit_errors.Tree f) for_a for_b plain_a plain_b not_a not_b =
      inl (tt, tt)
  one_first_fault begin tree transcript (audit_errors.Tree e) other for_a for_b plain_a plain_b not_a not_b =
      absurd (for_a (for_b.0, for_b.1))
  one_first_fault begin tree transcript other (audit_errors.Tree f) for_a for_b plain_a plain_b not_a not_b =
      absurd (for_b (for_a.0, for_a.1))
  one_first_fault begin tree transcript (audit_errors.Transcript e) (audit_errors.Transcript f) for_a for_b plain_a plain_b not_a not_b =
      let same = one_fault transcript for_a.2.events for_b.2.events e f for_a.2.fault for_b.2.fault
      (unlike_fault e plain_a) (unlike_fault f plain_b) in
      inr (ap (λ (x : TranscriptError). audit_errors.Transcript x) same.1)
  one_first_fault begin tree transcript (audit_errors.Transcript e) (audit_errors.Refused f) for_a for_b plain_a plain_b not_a not_b =
      let start : for_b.0 ≡ for_a.0 = one_start_of tree for_a.0 for_b.0 for_a.1 for_b.1 in
      absurd
      (fault_alone (begin for_a.0) transcript e f (unlike_fault e plain_a) (unlike_refusal f plain_b) for_a.2
      (subst (λ (t : Tree). IsRefused (begin t) transcript f) start for_b.2))
  one_first_fault begin tree transcript (audit_errors.Refused e) (audit_errors.Transcript f) for_a for_b plain_a plain_b not_a not_b =
      let start : for_a.0 ≡ for_b.0 = one_start_of tree for_b.0 for_a.0 for_b.1 for_a.1 in
      absurd
      (fault_alone (begin for_b.0) transcript f e (unlike_fault f plain_b) (unlike_refusal e plain_a) for_b.2
      (subst (λ (t : Tree). IsRefused (begin t) transcript e) start for_a.2))
  one_first_fault begin tree transcript (audit_errors.Refused e) (audit_errors.Refused f) for_a for_b plain_a plain_b not_a not_b =
      let start : for_b.0 ≡ for_a.0 = one_start_of tree for_a.0 for_b.0 for_a.1 for_b.1 in
      inr (ap (λ (x : Refusal). audit_errors.Refused x)
      (one_refused (begin for_a.0) transcript e f (unlike_refusal e plain_a) (unlike_refusal f plain_b) for_a.2
      (subst (λ (t : Tree). IsRefused (begin t) transcript f) start for_b.2)))

-- ==== Bytes account for one run at most.

module _ {S : Type 0} (step : StepOf S) (one_end : HasOneEnd step) (begin : Tree → S) (close : S → Tree)
    (tree transcript : List ℕ) (s u : Tree) (events others : List Event) (a b : Tree)
  where
    pub same_start : AccountsBy step begin close tree transcript s events a → AccountsBy step begin close tree transcript u others b
        → s ≡ u
    same_start one other = one_start s u tree one.start_is other.start_is

    pub same_events : AccountsBy step begin close tree transcript s events a → AccountsBy step begin close tree transcript u others b
        → events ≡ others
    same_events one other =
        records_are_one_lem events others transcript one.events_are other.events_are

    -- the second run, with the first one's start and events
    moved : (one : AccountsBy step begin close tree transcript s events a) (other : AccountsBy step begin close tree transcript u others b)
        → Explained step (begin s) events other.last
    moved one other =
        subst (λ (t : Tree). Explained step (begin t) events other.last) (sym (same_start one other))
        (subst (λ (l : List Event). Explained step (begin u) l other.last) (sym (same_events one other))
        other.explained)

    pub same_end : AccountsBy step begin close tree transcript s events a → AccountsBy step begin close tree transcript u others b
        → a ≡ b
    same_end one other =
        let last : one.last ≡ other.last =
        explained-one_end step one_end (begin s) events one.last other.last one.explained
        (moved one other) in
        one.end_is ∙ ap close last ∙ sym other.end_is
