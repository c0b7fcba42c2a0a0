use Rattle.sftp_audit.proofs.Imports.{◌≡◌, ◌==◌, Bool, true, false, List, [], ◌∷◌, Option, Some, None, if◌then◌else◌}
use Rattle.sftp_audit.proofs.Imports.{refl, sym, ap, Request, Reply, Allowed, step, and_then, Run, eqb-true, eq-eqb}
use Rattle.sftp_audit.proofs.Imports.{subst, ◌∙◌, Event, exchanges_of, leading_pairs, StepOf, Explained}
use Rattle.sftp_handles.proofs.Judged.{step-is_allowed, allowed-step}
use Rattle.sftp_handles.specs.State.{State}

-- ==== The end of a run is computed: the state and the pairs decide it.

-- where a request and a reply lead, if the reply is allowed
abbrev pub step_end : State → Request → Reply → Option State
step_end s request reply = if reply.id == request.id then step s request.ask reply.answer else None

-- where a run leads, if each of its replies is allowed
abbrev pub run_end : State → List (Request × Reply) → Option State
run_end s [] = Some s
run_end s (pair ∷ pairs) = and_then (step_end s pair.0 pair.1) (λ mid. run_end mid pairs)

-- ---- a step

-- a step that is allowed leads where the function says
pub step_end-of_allowed : (s : State) (request : Request) (reply : Reply) (after : State)
    → Allowed s request reply after → step_end s request reply ≡ Some after
step_end-of_allowed s request reply after a =
    rw (eq-eqb reply.id request.id a.same_id) (allowed-step s request reply after a)

-- and where it says that it leads, the step is allowed
pub allowed-of_step_end : (s : State) (request : Request) (reply : Reply) (after : State)
    → step_end s request reply ≡ Some after → Allowed s request reply after
allowed-of_step_end s request reply after e = by (reply.id == request.id) refl e
  where
    by : (b : Bool) → (reply.id == request.id) ≡ b
        → (if b then step s request.ask reply.answer else None) ≡ Some after → Allowed s request reply after
    by true same f = step-is_allowed s request reply after (eqb-true reply.id request.id same) f
    by false other f = absurd cc

-- ---- a run

some_is : (a b : State) → (let x : Option State = Some a in x) ≡ Some b → b ≡ a
some_is a b e = cc

-- a run that is allowed leads where the function says
pub run_end-of_run : (s : State) (pairs : List (Request × Reply)) (end : State) → Run Allowed s pairs end
    → run_end s pairs ≡ Some end
run_end-of_run s [] end run = ap (λ (x : State). Some x) (sym run)
run_end-of_run s (pair ∷ pairs) end run =
    rw (step_end-of_allowed s pair.0 pair.1 run.0 run.1) (run_end-of_run run.0 pairs end run.2)

-- and where it says that it leads, there is such a run
pub run-of_run_end : (s : State) (pairs : List (Request × Reply)) (end : State) → run_end s pairs ≡ Some end
    → Run Allowed s pairs end
run-of_run_end s [] end e = some_is s end e
run-of_run_end s (pair ∷ pairs) end e = by (λ mid. run-of_run_end mid pairs end) (step_end s pair.0 pair.1) refl e
  where
    by : ((mid : State) → run_end mid pairs ≡ Some end → Run Allowed mid pairs end) → (o : Option State)
        → step_end s pair.0 pair.1 ≡ o → and_then o (λ mid. run_end mid pairs) ≡ Some end
        → Run Allowed s (pair ∷ pairs) end
    by rest None is f = absurd cc
    by rest (Some mid) is f = (mid, allowed-of_step_end s pair.0 pair.1 mid is, rest mid f)

-- where it says that it leads nowhere, there is no run
pub no_run-of_run_end : (s : State) (pairs : List (Request × Reply)) → run_end s pairs ≡ None → (end : State)
    → ¬ Run Allowed s pairs end
no_run-of_run_end s pairs e end run = absurd (let f : run_end s pairs ≡ Some end = run_end-of_run s pairs end run in cc)

-- ==== Laws of runs: a start and the events fix the end, whatever the machine, if each step fixes the state after it.

-- a state, a request and its reply fix the state after them
abbrev pub HasOneEnd : {S : Type 0} → StepOf S → Type 0
HasOneEnd {S} step =
    (s : S) (request : Request) (reply : Reply) (a b : S) → step s request reply a → step s request reply b → a ≡ b

pub run-one_end : {S : Type 0} (step : StepOf S) → HasOneEnd step → (pairs : List (Request × Reply)) (start a b : S)
    → Run step start pairs a → Run step start pairs b → a ≡ b
run-one_end step one [] start a b to_a to_b = to_a ∙ sym to_b
run-one_end {S} step one (pair ∷ pairs) start a b to_a to_b =
    let mid : to_b.0 ≡ to_a.0 = one start pair.0 pair.1 to_b.0 to_a.0 to_b.1 to_a.1 in
    run-one_end step one pairs to_a.0 a b to_a.2 (subst (λ (m : S). Run step m pairs b) mid to_b.2)

pub explained-one_end : {S : Type 0} (step : StepOf S) → HasOneEnd step → (s : S) (events : List Event) (a b : S)
    → Explained step s events a → Explained step s events b → a ≡ b
explained-one_end step one s events a b to_a to_b =
    run-one_end step one (leading_pairs (exchanges_of events)) s a b to_a.run to_b.run
