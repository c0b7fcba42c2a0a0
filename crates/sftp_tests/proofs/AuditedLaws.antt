-- What the server logs accounts for a run, so the auditor accepts it.
use Rattle.std.proofs.Common.{◌≡◌, Bool, true, false, Result, Ok, Err, refl, sym, subst, IsTrue, ◌≢◌, ◌⊎◌, ℕ, List}
use Rattle.std.proofs.Common.{[], ◌++◌, Option, Some, ap, inl, inr, ◌∙◌}
use Rattle.std.specs.Prelude.{IfOk, OnOk, IfErr}
use Rattle.sftp_packets.specs.declared.packets.Request.{Request}
use Rattle.sftp_packets.specs.declared.packets.Reply.{Reply}
use Rattle.sftp_path.specs.declared.errors.NoMemory.{NoMemory}
use Rattle.sftp_handles.specs.State.{State, started, closed_tree}
use Rattle.sftp_handles.specs.Allowed.{Allowed}
use Rattle.sftp_handles.proofs.Judged.{allowed-one_end}
use Rattle.std.specs.Io.KnownBytes.{Appends, IsAtEnd}
use Rattle.sftp_transcript.specs.declared.events.Event.{Event}
use Rattle.sftp_transcript.specs.Transcript.{IsRecord, IsVersion}
use Rattle.sftp_packets.specs.Packets.{HasSpelling}
use Rattle.sftp_packets.proofs.PacketLaws.{version_spelled}
use Rattle.sftp_transcript.specs.Explained.{Explained}
use Rattle.sftp_transcript.proofs.transcripts.{records_are_one_lem}
use Rattle.sftp_tree.specs.Tree.{Tree}
use Rattle.sftp_tree.specs.Picture.{IsStart, picture}
use Rattle.sftp_tree.proofs.TreeFiles.Files.{one_start}
use Rattle.sftp_server.specs.declared.ends.Ended.{Ended}
use Rattle.sftp_server.specs.declared.ends.Ended.TheVariants.{Finished, Fault}
use Rattle.sftp_server.specs.declared.ends.Ended.TheVariants as ends
use Rattle.sftp_server.specs.declared.ends.SessionFault.{SessionFault}
use Rattle.sftp_server.specs.Served.{IsFinished, IsFaulty, IsUnopened, IsOpened, IsServed, StreamBytes}
use Rattle.sftp_server.specs.Served.{Setup, usual, stream_bytes, Serves, ServesFrom}
use Rattle.sftp_server.proofs.Sessions.Closed.{log-is-transcript}
use Rattle.sftp_audit.specs.declared.audits.Accepted.{Accepted}
use Rattle.sftp_audit.specs.declared.errors.AuditError.{AuditError}
use Rattle.sftp_audit.specs.declared.errors.AuditError.TheVariants as errors
use Rattle.sftp_audit.specs.Audit.{Accounts, request_count}
use Rattle.sftp_audit.proofs.steps.{explained-one_end}
use Rattle.sftp_tests.specs.Audited.{IsLogged, AcceptsWith, Agrees}

-- ==== What a session answers, one in the same state accepts.

moved : (s theirs end : State) (request : Request) (reply : Reply) → theirs ≡ s → Allowed s request reply end
    → Allowed theirs request reply end
moved s theirs end request reply same = subst (λ (t : State). Allowed t request reply end) (sym same)

pub accepted : (s theirs end : State) (request : Request) (reply : Reply) (result : Result Bool NoMemory)
    → theirs ≡ s → Allowed s request reply end
    → IfOk result (λ ok. ok ≡ false → (e : State) → Allowed theirs request reply e → ⊥) → IfOk result IsTrue
accepted s theirs end request reply (Ok true) same allowed refused = refl
accepted s theirs end request reply (Ok false) same allowed refused =
    absurd (refused refl end (moved s theirs end request reply same allowed))
accepted s theirs end request reply (Err e) same allowed refused = tt

pub one-end : (s theirs end after : State) (request : Request) (reply : Reply) (result : Result Bool NoMemory)
    → theirs ≡ s → Allowed s request reply end → IfOk result (λ ok. IsTrue ok → Allowed theirs request reply after)
    → IfOk result IsTrue → OnOk result (after ≡ end)
one-end s theirs end after request reply (Ok ok) same allowed done is_true =
    allowed-one_end theirs request reply after end (done is_true) (moved s theirs end request reply same allowed)
one-end s theirs end after request reply (Err e) same allowed done is_true = tt

logged-of : (old new : Option (List ℕ)) (log appended : List ℕ) → old ≡ Some [] → new ≡ Some log
    → Appends old new appended → log ≡ appended
logged-of old new log appended before now appends =
    subst (λ (o : Option (List ℕ)). Appends (Some []) o appended) now
    (subst (λ (o : Option (List ℕ)). Appends o new appended) before appends)

accounts : (start : Setup) (end : Tree) (bytes log input output logged : List ℕ) (init : _) (events : List Event)
    (rest : List ℕ) → IsVersion start.version → HasSpelling start.version → IsStart start.tree bytes → log ≡ logged
    → IsOpened start input output logged init events rest → IsServed start.tree events end
    → Accounts bytes log start.tree events end
accounts start end bytes log input output logged init events rest version spelled is same opened served = record {
  start_is = is;
  events_are = subst (λ (l : List ℕ). IsRecord events l) (sym same)
      (log-is-transcript start input output logged init events rest version spelled opened);
  last = served.last;
  explained = served.explained;
  end_is = served.end_is;
}

-- ---- a session that announced any VERSION 3

pub announced-finished : (start : Setup) (end : Tree) (bytes log : List ℕ) (past now : StreamBytes)
    → IsVersion start.version → HasSpelling start.version → IsStart start.tree bytes → IsLogged past now log
    → ServesFrom start past now (Finished end) → (events : List Event) × Accounts bytes log start.tree events end
announced-finished start end bytes log past now version spelled is logged serves =
    let same =
    logged-of past.logged now.logged log serves.log logged.nothing_before logged.all_now serves.passed.logged in
    let of : IsFinished start serves.input (IsAtEnd now.left) serves.output serves.log end = serves.served in (
      of.events,
      accounts start end bytes log serves.input serves.output serves.log of.init of.events [] version spelled
          is same of.opened of.served,
    )

pub announced-faulty : (start : Setup) (end : Tree) (fault : SessionFault) (bytes log : List ℕ) (past now : StreamBytes)
    → IsVersion start.version → HasSpelling start.version → IsStart start.tree bytes → IsLogged past now log
    → ServesFrom start past now (Fault end fault)
    → ((log ≡ []) × (end ≡ start.tree)) ⊎ ((events : List Event) × Accounts bytes log start.tree events end)
announced-faulty start end fault bytes log past now version spelled is logged serves =
    let same =
    logged-of past.logged now.logged log serves.log logged.nothing_before logged.all_now serves.passed.logged in
    let of : IsUnopened start.tree serves.input (IsAtEnd now.left) serves.output serves.log end fault
    ⊎ IsFaulty start serves.input (IsAtEnd now.left) serves.output serves.log end fault = serves.served in
    elim of [
      | inl un ↦ inl (same ∙ un.nothing_logged, un.end_is)
      | inr is_faulty ↦ inr (
        is_faulty.events,
        accounts start end bytes log serves.input serves.output serves.log
            is_faulty.init is_faulty.events is_faulty.rest version spelled is same is_faulty.opened is_faulty.served,
      )
    ]

-- ---- the usual VERSION

pub finished : (start end : Tree) (bytes log : List ℕ) (past now : StreamBytes) → IsStart start bytes
    → IsLogged past now log → Serves start past now (Finished end)
    → (events : List Event) × Accounts bytes log start events end
finished start end bytes log past now is logged serves =
    announced-finished (usual start) end bytes log past now refl version_spelled is logged serves

pub faulty : (start end : Tree) (fault : SessionFault) (bytes log : List ℕ) (past now : StreamBytes)
    → IsStart start bytes → IsLogged past now log → Serves start past now (Fault end fault)
    → ((log ≡ []) × (end ≡ start)) ⊎ ((events : List Event) × Accounts bytes log start events end)
faulty start end fault bytes log past now is logged serves =
    announced-faulty (usual start) end fault bytes log past now refl version_spelled is logged serves

-- ---- the audit

-- what the contract of `audit` says of its result
abbrev pub AccountsIfOk : List ℕ → List ℕ → Result Accepted AuditError → Type 0
AccountsIfOk tree log audited =
    IfOk audited (λ accepted. (start : Tree) × (events : List Event) × (end : Tree) × Accounts tree log start events end
    × (accepted.tree.items ≡ picture end) × (accepted.requests ≡ request_count events))

abbrev pub NoneIfErr : List ℕ → List ℕ → Result Accepted AuditError → Type 0
NoneIfErr tree log audited =
    IfErr audited (λ e. e ≢ errors.NoMemory → (start : Tree) (events : List Event) (end : Tree)
    → Accounts tree log start events end → ⊥)

same-end : (tree log : List ℕ) (s u : Tree) (events others : List Event) (a b : Tree)
    → Accounts tree log s events a → Accounts tree log u others b → a ≡ b
same-end tree log s u events others a b one other =
    let start : s ≡ u = one_start s u tree one.start_is other.start_is in
    let list : events ≡ others = records_are_one_lem events others log one.events_are other.events_are in
    let last : one.last ≡ other.last =
    explained-one_end Allowed allowed-one_end (started s) events one.last other.last one.explained
    (subst (λ (t : Tree). Explained Allowed (started t) events other.last) (sym start)
    (subst (λ (l : List Event). Explained Allowed (started u) l other.last) (sym list) other.explained)) in
    one.end_is ∙ ap closed_tree last ∙ sym other.end_is

accepts : (tree log : List ℕ) (start end : Tree) (events : List Event) (audited : Result Accepted AuditError)
    → Accounts tree log start events end → AccountsIfOk tree log audited → NoneIfErr tree log audited
    → AcceptsWith end audited
accepts tree log start end events (Ok accepted) accounted ok err =
    ok.4 ∙ ap picture (same-end tree log ok.0 start ok.1 events ok.2 end ok.3 accounted)
accepts tree log start end events (Err errors.NoMemory) accounted ok err = refl
accepts tree log start end events (Err (errors.Tree e)) accounted ok err =
    absurd (err (λ same. cc) start events end accounted)
accepts tree log start end events (Err (errors.Transcript e)) accounted ok err =
    absurd (err (λ same. cc) start events end accounted)
accepts tree log start end events (Err (errors.Refused e)) accounted ok err =
    absurd (err (λ same. cc) start events end accounted)

pub agrees : (start : Tree) (tree log : List ℕ) (past now : StreamBytes) (ended : Ended)
    (audited : Result Accepted AuditError) → IsStart start tree → IsLogged past now log → Serves start past now ended
    → AccountsIfOk tree log audited → NoneIfErr tree log audited → Agrees start log ended audited
agrees start tree log past now (ends.Finished end) audited is logged serves ok err =
    let run = finished start end tree log past now is logged serves in
    accepts tree log start end run.0 audited run.1 ok err
agrees start tree log past now (ends.Fault end fault) audited is logged serves ok err =
    elim (faulty start end fault tree log past now is logged serves) [
      | inl unopened ↦ inl unopened
      | inr run ↦ inr (accepts tree log start end run.0 audited run.1 ok err)
    ]
agrees start tree log past now (ends.Io stream) audited is logged serves ok err = tt
agrees start tree log past now ends.NoMemory audited is logged serves ok err = tt

-- the same of a log that was empty before, of which the server's own contract speaks
pub agreement : (start : Tree) (tree log seen : List ℕ) (left written left_after written_after before after : Option (List ℕ))
    (ended : Ended) (audited : Result Accepted AuditError) → IsStart start tree → before ≡ Some [] → after ≡ Some log
    → seen ≡ log
    → Serves start (stream_bytes left written before) (stream_bytes left_after written_after after) ended
    → AccountsIfOk tree seen audited → NoneIfErr tree seen audited
    → (x : Tree) × IsStart x tree
    × Serves x (stream_bytes left written (Some [])) (stream_bytes left_after written_after (Some log)) ended
    × Agrees x log ended audited
agreement start tree log seen left written left_after written_after before after ended audited is nothing all same serves ok err =
    let past = stream_bytes left written (Some []) in
    let now = stream_bytes left_after written_after (Some log) in
    let served : Serves start past now ended =
    subst (λ (o : Option (List ℕ)). Serves start past (stream_bytes left_after written_after o) ended) all
    (subst (λ (o : Option (List ℕ)). Serves start (stream_bytes left written o)
    (stream_bytes left_after written_after after) ended) nothing serves) in
    let logged : IsLogged past now log = record { nothing_before = refl; all_now = refl } in (
      start,
      is,
      served,
      agrees start tree log past now ended audited is logged served
          (subst (λ (l : List ℕ). AccountsIfOk tree l audited) same ok)
          (subst (λ (l : List ℕ). NoneIfErr tree l audited) same err),
    )
