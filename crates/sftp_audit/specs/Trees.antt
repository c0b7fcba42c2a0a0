-- Audits that start from a tree, and those whose tree file is read from a source.
use Rattle.std.specs.Prelude.{◌≡◌, ℕ, suc, ◌+◌, ◌%◌, ◌^◌, ◌≤◌, Bool, true, false, if◌then◌else◌, List, [], ◌∷◌}
use Rattle.std.specs.Prelude.{length, slice_get, Option, Some, None, nat_eq, ⊤, ◌⊎◌, IsTrue}
use Rattle.std.specs.Map.{lookup}
use Rattle.std.specs.Option.{option_map, option_map_or}
use Rattle.sftp_transcript.specs.Explained.{window, StepOf, Explained}
use Rattle.sftp_audit.specs.declared.errors.Refusal.{Refusal}
use Rattle.sftp_audit.specs.declared.errors.Refusal.TheVariants as refusals
use Rattle.sftp_audit.specs.declared.exchanges.Exchange.{Exchange}
use Rattle.sftp_audit.specs.declared.exchanges.RecordedReply.{RecordedReply}
use Rattle.sftp_audit.specs.Exchanges.{is_answered, waits_for, is_awaited}
use Rattle.sftp_packets.specs.declared.packets.Request.{Request}
use Rattle.sftp_transcript.specs.declared.events.Event.{Event}
use Rattle.sftp_treefile.specs.declared.errors.TreeError.TheVariants as tree_errors
use Rattle.sftp_audit.specs.declared.errors.AuditError.{AuditError}
use Rattle.sftp_audit.specs.declared.errors.AuditError.TheVariants as audit_errors
use Rattle.sftp_tree.specs.Tree.{Tree}
use Rattle.sftp_transcript.specs.Transcript.{IsRecord}
use Rattle.sftp_transcript.specs.Sound.{Sound}
use Rattle.sftp_audit.specs.Auditor.{FollowsOf}
use Rattle.sftp_audit.specs.Audit.{RefusedAt, RefusedAtEnd, FaultAt, ToldAt, IsNoJudgement, IsExcusedBy, JudgesTree}

-- ==== The index of the exchanges that are kept: where the requests that wait are, by their ids.

-- there is a first exchange, and it has its reply
abbrev pub starts_answered : List Exchange → Bool
starts_answered exchanges = option_map_or is_answered (slice_get exchanges 0) false

-- no two requests of one id wait
unfoldable pub AreApart : List Exchange → Type 0
AreApart [] = Unit {0}
AreApart (exchange ∷ exchanges) =
    (is_answered exchange ≡ false → is_awaited exchange.request.id exchanges ≡ false) × AreApart exchanges

-- how many exchanges are before the first request of this id that waits
unfoldable pub place_of : ℕ → List Exchange → Option ℕ
place_of id [] = None
place_of id (exchange ∷ exchanges) =
    if waits_for id exchange then Some 0 else option_map (λ place. suc place) (place_of id exchanges)

-- the ordinal of the exchange at a place, where the first one has an ordinal; ordinals count modulo 2^64
abbrev pub ordinal_at : ℕ → ℕ → ℕ
ordinal_at first place = (first + place) % 2 ^ 64

-- the index has the ordinals of the requests that wait
pub record IsIndexed (exchanges : List Exchange) (index : List (ℕ × ℕ)) (first : ℕ) : Type 0 where
  pub few : length exchanges ≤ window
  pub apart : AreApart exchanges
  pub found : (id : ℕ) → lookup (nat_eq id) index ≡ option_map (ordinal_at first) (place_of id exchanges)

-- why a request is not taken, in the record of this number
abbrev pub RefusesRequest : List Exchange → Request → ℕ → Refusal → Type 0
RefusesRequest exchanges request number (refusals.IdInUse place) =
    (place ≡ number) × (is_awaited request.id exchanges ≡ true)
RefusesRequest exchanges request number (refusals.Window place) =
    (place ≡ number) × (is_awaited request.id exchanges ≡ false) × (window ≤ length exchanges)
RefusesRequest exchanges request number refusals.NoMemory = ⊤
RefusesRequest exchanges request number other = ⊥

-- why a reply is not taken
abbrev pub RefusesReply : List Exchange → RecordedReply → Refusal → Type 0
RefusesReply exchanges recorded (refusals.UnknownReply place) =
    (place ≡ recorded.number) × (is_awaited recorded.reply.id exchanges ≡ false)
RefusesReply exchanges recorded other = ⊥

-- ---- from the state in which a session begins on a tree

-- The transcript records the events, these are explained from the start to a last state, and the end is the tree of
-- that state once nothing is open. It is what `AccountsBy` says, but for the bytes of the tree file.
pub record AccountsFrom {S : Type 0} (step : StepOf S) (close : S → Tree) (start : S) (transcript : List ℕ)
    (events : List Event) (end : Tree) : Type 0
  where
    pub events_are : IsRecord events transcript
    pub last : S
    pub explained : Explained step start events last
    pub end_is : end ≡ close last

-- The events need only be sound from the start: it is what `AccountsCutBy` says, but for the bytes of the tree file.
pub record AccountsCutFrom {S : Type 0} (step : StepOf S) (close : S → Tree) (start : S) (transcript : List ℕ)
    (events : List Event) (end : Tree) : Type 0
  where
    pub events_are : IsRecord events transcript
    pub last : S
    pub sound : Sound step start events last
    pub end_is : end ≡ close last

-- What such an audit meets first: record by record, the fault of a record or the refusal of its event; or, at the end,
-- a request without a reply. There are no bytes that could be no tree.
abbrev pub IsFirstFaultFrom : {S : Type 0} → StepOf S → S → List ℕ → AuditError → Type 0
IsFirstFaultFrom step start transcript (audit_errors.Tree error) = ⊥
IsFirstFaultFrom step start transcript (audit_errors.Transcript error) = FaultAt step start transcript error
IsFirstFaultFrom step start transcript (audit_errors.Refused refusal) =
    RefusedAt step start transcript refusal ⊎ RefusedAtEnd step start transcript refusal
IsFirstFaultFrom step start transcript audit_errors.NoMemory = ⊤

-- a session that is refused since a reply is not allowed is told to be followed or not, and every other one is taken to
-- be
abbrev pub IsToldFrom : {S : Type 0} → StepOf S → FollowsOf S → S → List ℕ → Bool → AuditError → Type 0
IsToldFrom step follows start transcript told (audit_errors.Refused (refusals.NotAllowed number)) =
    ToldAt step follows start transcript told (refusals.NotAllowed number)
IsToldFrom step follows start transcript told other = told ≡ true

-- ---- where the tree file is read from a source, too

-- memory ran out, or a source failed: that of the tree file, or that of the transcript
abbrev pub IsUnjudged : AuditError → Type 0
IsUnjudged (audit_errors.Tree (tree_errors.Io entry)) = ⊤
IsUnjudged other = IsNoJudgement other

-- what an error says of the tree file; nothing if its source failed
abbrev pub JudgesTreeUnless : List ℕ → AuditError → Type 0
JudgesTreeUnless tree (audit_errors.Tree (tree_errors.Io entry)) = ⊤
JudgesTreeUnless tree other = JudgesTree tree other

-- a source failed only if it may fail, where the first one is that of the tree file
abbrev pub IsExcusedByBoth : Bool → Bool → AuditError → Type 0
IsExcusedByBoth tree_may_fail may_fail (audit_errors.Tree (tree_errors.Io entry)) = IsTrue tree_may_fail
IsExcusedByBoth tree_may_fail may_fail other = IsExcusedBy may_fail other
