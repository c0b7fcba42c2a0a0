-- Worked examples: what an auditor keeps, and what it refuses.
use Rattle.sftp_audit.proofs.Imports.{◌≡◌, ℕ, List, [], ◌∷◌, codes, Some, None, refl, sym, ◌∙◌, inl, inr, arith}
use Rattle.sftp_audit.proofs.Imports.{Request, Reply, no_attributes, blank, Allowed, closed, waiting}
use Rattle.sftp_audit.proofs.Imports.{turn_after, leading_pairs, Run, Sound, Exchange, started, RefusedAt, StandsFor}
use Rattle.sftp_audit.proofs.Imports.{IsFirstWrong, Refuses, LacksReply, recorded_exchanges, unsettled, ledger_of}
use Rattle.sftp_transcript.specs.Examples.{mkdir, status}
use Rattle.sftp_audit.specs.Examples.{auditor_with, with_a, with_a_and_b, three_requests, backward_replies}
use Rattle.sftp_audit.specs.Examples.{two_backward_replies, removal_done_bytes, last_answered, id_used_again}
use Rattle.sftp_audit.specs.Examples.{first_answered, second_waits}
use Rattle.sftp_packets.specs.declared.requests.Ask.TheVariants.{Mkdir, Rmdir}
use Rattle.sftp_packets.specs.declared.replies.Answer.TheVariants.{Status}
use Rattle.sftp_handles.specs.State.{State}
use Rattle.sftp_handles.proofs.Judged.{allowed-one_end}
use Rattle.sftp_audit.specs.declared.errors.Refusal.TheVariants as refusals
use Rattle.sftp_audit.proofs.auditing.Refusals.{one_refusal}
use Rattle.sftp_audit.proofs.steps.{run-of_run_end, no_run-of_run_end}
use Rattle.sftp_audit.proofs.worked.{computed}
use Rattle.sftp_audit.proofs.worked.{removal_done_recorded}
use Rattle.sftp_audit.proofs.worked.{sound_by}

-- ---- the replies come backwards

two_replies_sound : Sound Allowed (started blank) (two_backward_replies 0) (started blank)
unfolding computed
two_replies_sound =
    sound_by blank (two_backward_replies 0) blank
    (inr refl, (inl refl, (inl refl, (inl refl, (inl refl, tt))))) refl refl

pub nothing_settled : StandsFor Allowed (started blank) (two_backward_replies 0)
    (auditor_with blank (recorded_exchanges (two_backward_replies 0)) 8)
unfolding computed
nothing_settled = record {
  sound = two_replies_sound;
  kept = refl;
  number = refl;
  unrefused = refl;
  followed = refl;
}

-- the removal, and the reply that says that it is done
abbrev removal : Request
removal = record { id = 3; ask = Rmdir (codes "/a") }

abbrev removal_done : Reply
removal_done = record { id = 3; answer = Status 0 [] [] }

-- a request for a directory in one record, and in another that it was made
abbrev made : ℕ → List ℕ → ℕ → ℕ → Exchange
made id path asked_in told_in = record {
  request = record { id = id; ask = Mkdir path no_attributes };
  number = asked_in;
  reply = Some (record { reply = record { id = id; answer = Status 0 [] [] }; number = told_in });
}

-- the requests before it, with the replies that came later
abbrev first_two_done : List Exchange
first_two_done =
    made 1 (codes "/a") 3 8 ∷ made 2 (codes "/a/b") 4 7 ∷ []

-- after the first two requests the directory is not empty
first_two_run : Run Allowed (started blank) (leading_pairs (ledger_of first_two_done)) (started with_a_and_b)
unfolding computed
first_two_run = run-of_run_end (started blank) (leading_pairs (ledger_of first_two_done)) (started with_a_and_b) refl

not_removed : (end : State) → Allowed (started with_a_and_b) removal removal_done end → ⊥
unfolding computed
not_removed end allowed =
    no_run-of_run_end (started with_a_and_b) ((removal, removal_done) ∷ []) refl end (end, allowed, refl)

removal_is_wrong : IsFirstWrong Allowed (started blank) (recorded_exchanges (backward_replies 0)) 6
unfolding computed
removal_is_wrong = record {
  before = first_two_done;
  request = removal;
  asked_in = 5;
  reply = removal_done;
  behind = [];
  exchanges_are = refl;
  answered = (refl, (refl, tt));
  mid = started with_a_and_b;
  run = first_two_run;
  wrong = not_removed;
}

pub refused : Refuses Allowed (started blank) (two_backward_replies 0) (status 1 0) (refusals.NotAllowed 6)
unfolding turn_after
refused = (refl, removal_is_wrong)

same_number : (n m : ℕ) → refusals.NotAllowed n ≡ refusals.NotAllowed m → n ≡ m
same_number n m e = cc

other_record : refusals.NotAllowed 6 ≡ refusals.NotAllowed 8 → ⊥
other_record e = absurd (omega (arith, same_number 6 8 e))

not_memory : (number : ℕ) → refusals.NotAllowed number ≡ refusals.NoMemory → ⊥
not_memory number e = cc

pub not_the_last : ¬ Refuses Allowed (started blank) (two_backward_replies 0) (status 1 0) (refusals.NotAllowed 8)
not_the_last other =
    other_record (one_refusal Allowed allowed-one_end (started blank) (two_backward_replies 0) (status 1 0)
    (refusals.NotAllowed 6) (refusals.NotAllowed 8) refused other (not_memory 6) (not_memory 8))

pub in_bytes : RefusedAt Allowed (started blank) removal_done_bytes (refusals.NotAllowed 6)
in_bytes = record {
  events = two_backward_replies 0;
  event = status 1 0;
  rest = [];
  begins = removal_done_recorded;
  end = started blank;
  sound = two_replies_sound;
  refuses = refused;
}

-- ---- ids

pub answered_twice : Refuses Allowed (started blank) last_answered (status 3 4) (refusals.UnknownReply 7)
unfolding turn_after
answered_twice = (refl, refl)

pub asked_twice : Refuses Allowed (started blank) three_requests (mkdir 1 (codes "/c")) (refusals.IdInUse 6)
unfolding turn_after
asked_twice = (refl, refl)

first_waits : turn_after 1 closed three_requests ≡ waiting
unfolding turn_after
first_waits = refl

pub not_late : ¬ Refuses Allowed (started blank) three_requests (mkdir 1 (codes "/c")) (refusals.Window 6)
not_late late = let e : waiting ≡ closed = sym first_waits ∙ late.1 in cc

id_used_again_sound : Sound Allowed (started blank) id_used_again (started blank)
unfolding computed
id_used_again_sound =
    sound_by blank id_used_again blank (inr refl, (inr refl, (inr refl, (inr refl, (inr refl, tt))))) refl refl

pub used_again : StandsFor Allowed (started blank) id_used_again (auditor_with blank (recorded_exchanges id_used_again) 8)
unfolding computed
used_again = record {
  sound = id_used_again_sound;
  kept = refl;
  number = refl;
  unrefused = refl;
  followed = refl;
}

-- ---- the oldest request that waits

first_answered_sound : Sound Allowed (started blank) first_answered (started with_a)
unfolding computed
first_answered_sound = sound_by blank first_answered with_a (inl refl, (inr refl, (inl refl, tt))) refl refl

pub settled : StandsFor Allowed (started blank) first_answered (auditor_with with_a second_waits 6)
unfolding computed
settled = record {
  sound = first_answered_sound;
  kept = refl;
  number = refl;
  unrefused = refl;
  followed = refl;
}

second_left : unsettled (recorded_exchanges first_answered) ≡ second_waits
unfolding computed
second_left = refl

pub unanswered : LacksReply first_answered (refusals.Unanswered 4)
unanswered =
    let waits : Request = record { id = 2; ask = Mkdir (codes "/a/b") no_attributes } in
    (record { request = waits; number = 4; reply = None }, [], second_left, refl)

pub not_the_first : ¬ LacksReply first_answered (refusals.Unanswered 3)
not_the_first first =
    let same : second_waits ≡ first.0 ∷ first.1 = sym second_left ∙ first.2 in
    absurd (let n : 4 ≡ first.0.number = cc in omega arith)
