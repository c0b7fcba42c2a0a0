-- Sessions strictly and under the strict profile, and under every profile that permits what is allowed strictly.
use Rattle.std.proofs.Common.{◌≡◌, ◌↔◌, ℕ, List, [], ◌∷◌, sym, ap, ◌∙◌, refl, subst, ◌⊎◌, inl, inr}
use Rattle.sftp_packets.specs.declared.packets.Request.{Request}
use Rattle.sftp_packets.specs.declared.packets.Reply.{Reply}
use Rattle.sftp_tree.specs.Tree.{Tree}
use Rattle.sftp_handles.specs.State as sessions
use Rattle.sftp_handles.specs.State.{started, closed_tree}
use Rattle.sftp_handles.specs.Allowed.{Allowed}
use Rattle.sftp_profile.specs.declared.profiles.Profile.{Profile}
use Rattle.sftp_profile.specs.Profiles.{strict}
use Rattle.sftp_profile.specs.State.{State, bare, begun}
use Rattle.sftp_profile.specs.Permitted.{Permitted}
use Rattle.sftp_profile.proofs.Permissions.{strict-both}
use Rattle.sftp_transcript.specs.declared.events.Event.{Event}
use Rattle.sftp_transcript.specs.Explained.{Run, Explained, StepOf}
unfoldable use Rattle.sftp_transcript.specs.Explained.{exchanges_of, leading_pairs}
use Rattle.sftp_transcript.specs.Sound.{Sound}
use Rattle.sftp_audit.specs.Audit.{Accounts, AccountsBy, RefusedAt, RefusedAtEnd, IsFirstFault, IsFirstFaultBy}
use Rattle.sftp_tests.specs.Audited.{AccountsUnder, IsFirstFaultUnder}
use Rattle.sftp_transcript.specs.declared.events.Event.TheVariants.{Replied}
use Rattle.sftp_audit.specs.declared.errors.AuditError.{AuditError}
use Rattle.sftp_audit.specs.declared.errors.AuditError.TheVariants as audit_errors
use Rattle.sftp_audit.specs.declared.errors.Refusal.{Refusal}
use Rattle.sftp_audit.specs.declared.errors.Refusal.TheVariants as refusals
use Rattle.sftp_audit.specs.declared.exchanges.Exchange.{Exchange}
use Rattle.sftp_audit.specs.Exchanges.{ledger_of}
use Rattle.sftp_audit.specs.Auditor.{IsFirstWrong, Refuses}

-- ---- a profile that permits what is allowed strictly

-- it does so, with the same state after it
abbrev pub PermitsAllowed : Profile → Type 0
PermitsAllowed profile =
    (s : sessions.State) (request : Request) (reply : Reply) (end : sessions.State) → Allowed s request reply end
    → Permitted (bare profile s) request reply (bare profile end)

-- the strict one
pub strict-permits : PermitsAllowed strict
strict-permits s request reply end allowed = (strict-both s request reply (bare strict end)).1 (refl, allowed)

pub run-permitted : (profile : Profile) → PermitsAllowed profile → (s : sessions.State)
    (pairs : List (Request × Reply)) (end : sessions.State)
    → Run Allowed s pairs end → Run Permitted (bare profile s) pairs (bare profile end)
run-permitted profile permits s [] end run = ap (bare profile) run
run-permitted profile permits s (pair ∷ pairs) end run = (
  bare profile run.0,
  permits s pair.0 pair.1 run.0 run.1,
  run-permitted profile permits run.0 pairs end run.2,
)

pub sound-permitted : (profile : Profile) → PermitsAllowed profile → (s : sessions.State)
    (events : List Event) (end : sessions.State)
    → Sound Allowed s events end → Sound Permitted (bare profile s) events (bare profile end)
sound-permitted profile permits s events end sound = record {
  in_turn = sound.in_turn;
  within_window = sound.within_window;
  run = run-permitted profile permits s (leading_pairs (exchanges_of events)) end sound.run;
}

pub explained-permitted : (profile : Profile) → PermitsAllowed profile → (s : sessions.State)
    (events : List Event) (end : sessions.State)
    → Explained Allowed s events end → Explained Permitted (bare profile s) events (bare profile end)
explained-permitted profile permits s events end explained = record {
  matching = explained.matching;
  within_window = explained.within_window;
  run = run-permitted profile permits s (leading_pairs (exchanges_of events)) end explained.run;
}

-- ---- the strict profile permits no more

-- a run under the strict profile stays under it, and is allowed strictly
pub run-strict : (s : sessions.State) (pairs : List (Request × Reply)) (end : State)
    → Run Permitted (bare strict s) pairs end → (end ≡ bare strict end.session) × Run Allowed s pairs end.session
run-strict s [] end run =
    (run ∙ ap (λ (e : State). bare strict e.session) (sym run), ap (λ (e : State). e.session) run)
run-strict s (pair ∷ pairs) end run =
    let first = (strict-both s pair.0 pair.1 run.0).0 run.1 in
    let rest = run-strict run.0.session pairs end
    (subst (λ (mid : State). Run Permitted mid pairs end) first.0 run.2) in
    (rest.0, (run.0.session, first.1, rest.1))

pub sound-strict : (s : sessions.State) (events : List Event) (end : State)
    → Sound Permitted (bare strict s) events end → Sound Allowed s events end.session
sound-strict s events end sound = record {
  in_turn = sound.in_turn;
  within_window = sound.within_window;
  run = (run-strict s (leading_pairs (exchanges_of events)) end sound.run).1;
}

pub explained-strict : (s : sessions.State) (events : List Event) (end : State)
    → Explained Permitted (bare strict s) events end → Explained Allowed s events end.session
explained-strict s events end explained = record {
  matching = explained.matching;
  within_window = explained.within_window;
  run = (run-strict s (leading_pairs (exchanges_of events)) end explained.run).1;
}

-- ---- what bytes account for

pub accounts-permitted : (profile : Profile) → PermitsAllowed profile → (tree transcript : List ℕ) (start : Tree)
    (events : List Event) (end : Tree) → Accounts tree transcript start events end
    → AccountsUnder profile tree transcript start events end
accounts-permitted profile permits tree transcript start events end told = record {
  start_is = told.start_is;
  events_are = told.events_are;
  last = bare profile told.last;
  explained = explained-permitted profile permits (started start) events told.last told.explained;
  end_is = told.end_is;
}

pub accounts-strict : (tree transcript : List ℕ) (start : Tree) (events : List Event) (end : Tree)
    → AccountsUnder strict tree transcript start events end → Accounts tree transcript start events end
accounts-strict tree transcript start events end told = record {
  start_is = told.start_is;
  events_are = told.events_are;
  last = told.last.session;
  explained = explained-strict (started start) events told.last told.explained;
  end_is = told.end_is;
}

-- ==== What an audit meets first strictly, and under the strict profile.

-- what is sound for one machine is so for another, and what it finds wrong first the other does too
record Carries {S T : Type 0} (step : StepOf S) (other : StepOf T) (start : S) (begin : T) : Type 0 where
  sound : (events : List Event) (end : S) → Sound step start events end → (last : T) × Sound other begin events last
  wrong : (exchanges : List Exchange) (number : ℕ) → IsFirstWrong step start exchanges number
      → IsFirstWrong other begin exchanges number

-- ---- of any two machines

refuses-carried : {S T : Type 0} (step : StepOf S) (other : StepOf T) (start : S) (begin : T)
    → Carries step other start begin → (events : List Event) (event : Event) (refusal : Refusal)
    → Refuses step start events event refusal → Refuses other begin events event refusal
refuses-carried step other start begin carries events (Replied reply) (refusals.NotAllowed number) why =
    (why.0, carries.wrong _ number why.1)
refuses-carried step other start begin carries events event refusal why = why

refused-carried : {S T : Type 0} (step : StepOf S) (other : StepOf T) (start : S) (begin : T)
    → Carries step other start begin → (transcript : List ℕ) (refusal : Refusal)
    → RefusedAt step start transcript refusal ⊎ RefusedAtEnd step start transcript refusal
    → RefusedAt other begin transcript refusal ⊎ RefusedAtEnd other begin transcript refusal
refused-carried step other start begin carries transcript refusal (inl at) =
    let sound = carries.sound at.events at.end at.sound in
    inl (record {
      events = at.events;
      event = at.event;
      rest = at.rest;
      begins = at.begins;
      end = sound.0;
      sound = sound.1;
      refuses = refuses-carried step other start begin carries at.events at.event refusal at.refuses;
    })
refused-carried step other start begin carries transcript refusal (inr at) =
    let sound = carries.sound at.events at.end at.sound in
    inr (record { events = at.events; recorded = at.recorded; end = sound.0; sound = sound.1; lacks = at.lacks })

fault-carried : {S T : Type 0} (step : StepOf S) (other : StepOf T) (from : Tree → S) (to : Tree → T)
    → ((start : Tree) → Carries step other (from start) (to start)) → (tree transcript : List ℕ) (error : AuditError)
    → IsFirstFaultBy step from tree transcript error → IsFirstFaultBy other to tree transcript error
fault-carried step other from to carries tree transcript (audit_errors.Tree error) first = first
fault-carried step other from to carries tree transcript (audit_errors.Transcript error) first =
    let sound = (carries first.0).sound first.2.events first.2.end first.2.sound in
    (first.0, first.1, record { events = first.2.events; end = sound.0; sound = sound.1; fault = first.2.fault })
fault-carried step other from to carries tree transcript (audit_errors.Refused refusal) first = (
  first.0,
  first.1,
  refused-carried step other (from first.0) (to first.0) (carries first.0) transcript refusal first.2,
)
fault-carried step other from to carries tree transcript audit_errors.NoMemory first = tt

-- ---- from what is allowed strictly to what the strict profile permits

wrong-permitted : (s : sessions.State) (exchanges : List Exchange) (number : ℕ)
    → IsFirstWrong Allowed s exchanges number → IsFirstWrong Permitted (bare strict s) exchanges number
wrong-permitted s exchanges number first = record {
  before = first.before;
  request = first.request;
  asked_in = first.asked_in;
  reply = first.reply;
  behind = first.behind;
  exchanges_are = first.exchanges_are;
  answered = first.answered;
  mid = bare strict first.mid;
  run = run-permitted strict strict-permits s (leading_pairs (ledger_of first.before)) first.mid first.run;
  wrong = λ end permitted.
      first.wrong end.session ((strict-both first.mid first.request first.reply end).0 permitted).1;
}

carries-permitted : (s : sessions.State) → Carries Allowed Permitted s (bare strict s)
carries-permitted s = record {
  sound = λ events end sound. (bare strict end, sound-permitted strict strict-permits s events end sound);
  wrong = wrong-permitted s;
}

pub fault-permitted : (tree transcript : List ℕ) (error : AuditError) → IsFirstFault tree transcript error
    → IsFirstFaultUnder strict tree transcript error
fault-permitted =
    fault-carried Allowed Permitted started (begun strict) (λ start. carries-permitted (started start))

-- ---- and back

wrong-strict : (s : sessions.State) (exchanges : List Exchange) (number : ℕ)
    → IsFirstWrong Permitted (bare strict s) exchanges number → IsFirstWrong Allowed s exchanges number
wrong-strict s exchanges number first =
    let run = run-strict s (leading_pairs (ledger_of first.before)) first.mid first.run in
    record {
      before = first.before;
      request = first.request;
      asked_in = first.asked_in;
      reply = first.reply;
      behind = first.behind;
      exchanges_are = first.exchanges_are;
      answered = first.answered;
      mid = first.mid.session;
      run = run.1;
      wrong = λ end allowed.
          first.wrong (bare strict end)
          (subst
          (λ (mid : State). Permitted mid first.request first.reply (bare strict end))
          (sym run.0) (strict-permits first.mid.session first.request first.reply end allowed));
    }

carries-strict : (s : sessions.State) → Carries Permitted Allowed (bare strict s) s
carries-strict s = record {
  sound = λ events end sound. (end.session, sound-strict s events end sound);
  wrong = wrong-strict s;
}

pub fault-strict : (tree transcript : List ℕ) (error : AuditError) → IsFirstFaultUnder strict tree transcript error
    → IsFirstFault tree transcript error
fault-strict = fault-carried Permitted Allowed (begun strict) started (λ start. carries-strict (started start))
