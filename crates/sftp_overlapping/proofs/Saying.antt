-- From what is judged of a set to what is said of it.
use Rattle.std.proofs.Common.{◌≡◌, ◌≤◌, ℕ, true, false, List, [], ◌++◌, map, sym, ap, subst, ◌∙◌, arith}
use Rattle.std.proofs.Common.{Ok, Err, Result, Option, Some, None}
use Rattle.std.specs.Prelude.{IfSome}
use Rattle.std.specs.Result.{IfOk, IfErr}
use Rattle.sftp_files.specs.declared.messages.Ending.{Ending}
use Rattle.sftp_files.specs.declared.messages.Ending.TheVariants as endings
use Rattle.sftp_files.specs.declared.messages.Failure.{Failure}
use Rattle.sftp_files.specs.declared.messages.Failure.TheVariants as failures
use Rattle.sftp_files.specs.Failures.{IsUnread, IsUnwritten, ending_status, failure_status}
use Rattle.sftp_profile.specs.declared.profiles.Profile.{Profile}
use Rattle.sftp_tree.specs.Tree.{Tree}
use Rattle.sftp_audit.specs.Audit.{HasStart}
use Rattle.sftp_orders.specs.declared.errors.OrderError.{OrderError}
use Rattle.sftp_orders.specs.declared.errors.OrderError.TheVariants as order_errors
use Rattle.sftp_orders.specs.Orders.{order_at}
use Rattle.sftp_gathering.specs.declared.errors.PlacesError.{PlacesError}
use Rattle.sftp_gathering.specs.declared.errors.PlacesError.TheVariants.{Order, OtherSessions}
use Rattle.sftp_gathering.specs.Files.{SessionFiles, SetFiles, HasPlaces, name_of}
use Rattle.sftp_gathering.specs.Gathered.{IsPlacesFault}
use Rattle.sftp_verdicts.specs.Verdicts.{IsAuditStatus}
use Rattle.sftp_overlapping.specs.declared.rejections.Rejection.{Rejection}
use Rattle.sftp_overlapping.specs.declared.rejections.Rejection.TheVariants as rejections
use Rattle.sftp_overlapping.specs.Sets.{IsJudged, IsUnreadOrder, IsReportOf, AreNoSessions, EndOf, IsSaidAsked}
use Rattle.sftp_overlapping.specs.Sets.{IsExplainedAsked, IsExplainedByPlaces, IsOrderRight}

-- ---- an order that explains nothing

pub sessions-lost : (profile : Option Profile) (tolerance : ℕ) (tree : List ℕ) (each : List SessionFiles)
    (places : List ℕ) → AreNoSessions each → IsExplainedByPlaces profile tolerance tree each places → ⊥
sessions-lost None tolerance tree each places none told = none told.clock told.sessions told.sessions_are
sessions-lost (Some profile) tolerance tree each places none told = none told.clock told.sessions told.sessions_are

-- a tree file with a fault is that of no start
pub start-lost : (profile : Option Profile) (tolerance : ℕ) (tree : List ℕ) (each : List SessionFiles)
    (places : List ℕ) → (HasStart tree → ⊥) → IsExplainedByPlaces profile tolerance tree each places → ⊥
start-lost None tolerance tree each places none told = none (told.start, told.start_is)
start-lost (Some profile) tolerance tree each places none told = none (told.start, told.start_is)

pub order-lost : (profile : Option Profile) (tolerance : ℕ) (files : SetFiles)
    → ((places : List ℕ) → HasPlaces files.order (map name_of files.each) places → ⊥)
    → IsOrderRight profile tolerance files → ⊥
order-lost None tolerance files none right = none right.places right.order_is
order-lost (Some profile) tolerance files none right = none right.places right.order_is

-- an order of a file has one list of places
abbrev OrderRead : Type 0
OrderRead = List (List ℕ) × List ℕ

same_read : (p q : OrderRead) (read : Result OrderRead OrderError) → read ≡ Ok p → read ≡ Ok q → p ≡ q
same_read p q read is same = cc

same_places : (order : List ℕ) (names : List (List ℕ)) (places others : List ℕ) → HasPlaces order names places
    → HasPlaces order names others → others ≡ places
same_places order names places others is other =
    ap (λ (read : OrderRead). read.1) (same_read (names, others) (names, places) (order_at order) other is)

pub places-lost : (profile : Option Profile) (tolerance : ℕ) (files : SetFiles) (places : List ℕ)
    → HasPlaces files.order (map name_of files.each) places
    → (IsExplainedByPlaces profile tolerance files.tree files.each places → ⊥)
    → IsOrderRight profile tolerance files → ⊥
places-lost None tolerance files places is none right =
    none (subst (λ (xs : List ℕ). IsExplainedByPlaces None tolerance files.tree files.each xs)
    (same_places files.order (map name_of files.each) places right.places is right.order_is) right.explained)
places-lost (Some profile) tolerance files places is none right =
    none (subst (λ (xs : List ℕ). IsExplainedByPlaces (Some profile) tolerance files.tree files.each xs)
    (same_places files.order (map name_of files.each) places right.places is right.order_is) right.explained)

-- why an order is not read: it has no such places
pub places-refused : (bytes : List ℕ) (names : List (List ℕ)) (error : PlacesError) → IsPlacesFault bytes names error
    → (IsUnreadOrder error → ⊥) → (places : List ℕ) → HasPlaces bytes names places → ⊥
places-refused bytes names (Order order_errors.NoMemory) fault judged places has = judged tt
places-refused bytes names (Order error) fault judged places has = absurd cc
places-refused bytes names OtherSessions fault judged places has = fault places has

-- all bytes of a file are read
pub all-read : (left : Option (List ℕ)) (known old new : List ℕ) → left ≡ Some known → old ≡ []
    → IfSome left (λ bytes. new ≡ old ++ bytes) → new ≡ known
all-read left known old new is empty read =
    subst (λ (o : Option (List ℕ)). IfSome o (λ bytes. new ≡ old ++ bytes)) is read
    ∙ ap (λ (xs : List ℕ). xs ++ known) empty

-- ---- failures

-- a file that cannot be read is no verdict
pub unread_unjudged : (failure : Failure) → IsUnread failure → IsJudged (rejections.Failed failure) → ⊥
unread_unjudged (failures.Tree error) is judged = is
unread_unjudged (failures.Text text) is judged = is
unread_unjudged other is judged = judged

-- every failure has a status of its own, not one of verdicts
pub failed_status : (failure : Failure) → 2 ≤ failure_status failure
failed_status (failures.Unjudged count all true) = omega arith
failed_status (failures.Unjudged count all false) = omega arith
failed_status other = omega arith

-- the status of a verdict
pub accepted_status : (result : Result Ending Failure) → IfOk result (λ ending. ending ≡ endings.Done)
    → IsAuditStatus result
accepted_status (Ok ending) is = subst (λ (e : Ending). ending_status e ≤ 1) (sym is) (omega arith)
accepted_status (Err failure) is = failed_status failure

pub rejected_status : (rejection : Rejection) (result : Result Ending Failure) → IsReportOf rejection result
    → IsAuditStatus result
rejected_status (rejections.Refused cause) (Ok ending) is =
    subst (λ (e : Ending). ending_status e ≤ 1) (sym is) (omega arith)
rejected_status (rejections.Refused cause) (Err failure) is = failed_status failure
rejected_status (rejections.Failed failure) result is = subst IsAuditStatus (sym is) (failed_status failure)

-- ---- what is said

module _ (tolerance : ℕ) (OfEnd : EndOf) (files : SetFiles) where
  accepted : (profile : Option Profile) (ending : Ending) (end : Tree) → ending ≡ endings.Done → OfEnd end
      → IsExplainedAsked profile tolerance files.tree files.each end
      → IsSaidAsked profile tolerance OfEnd files (Ok ending)
  accepted None endings.Done end is of_end explained = (end, explained, of_end)
  accepted (Some profile) endings.Done end is of_end explained = (end, explained, of_end)
  accepted profile other end is of_end explained = absurd cc

  unwritten : (profile : Option Profile) (failure : Failure) → IsUnwritten failure
      → IsSaidAsked profile tolerance OfEnd files (Err failure)
  unwritten None (failures.Tree error) is = absurd is
  unwritten None (failures.Text text) is = absurd is
  unwritten None other is = tt
  unwritten (Some profile) (failures.Tree error) is = absurd is
  unwritten (Some profile) (failures.Text text) is = absurd is
  unwritten (Some profile) other is = tt

  refused : (profile : Option Profile) (ending : Ending) → ending ≡ endings.Refused
      → (IsOrderRight profile tolerance files → ⊥) → IsSaidAsked profile tolerance OfEnd files (Ok ending)
  refused None endings.Refused is none = none
  refused (Some profile) endings.Refused is none = none
  refused profile other is none = absurd cc

  -- a set that is explained is said to be accepted, where that can be written
  pub accepted-said : (profile : Option Profile) (end : Tree) (result : Result Ending Failure)
      → IfOk result (λ ending. (ending ≡ endings.Done) × OfEnd end) → IfErr result IsUnwritten
      → IsExplainedAsked profile tolerance files.tree files.each end
      → IsSaidAsked profile tolerance OfEnd files result
  accepted-said profile end (Ok ending) ok err explained = accepted profile ending end ok.0 ok.1 explained
  accepted-said profile end (Err failure) ok err explained = unwritten profile failure err

  -- a failure is a verdict only where a file is malformed
  failed : (profile : Option Profile) (failure : Failure)
      → (IsJudged (rejections.Failed failure) → IsOrderRight profile tolerance files → ⊥)
      → IsSaidAsked profile tolerance OfEnd files (Err failure)
  failed None (failures.Tree error) none = none tt
  failed None (failures.Text text) none = none tt
  failed None other none = tt
  failed (Some profile) (failures.Tree error) none = none tt
  failed (Some profile) (failures.Text text) none = none tt
  failed (Some profile) other none = tt

  -- a set is said to be refused, or a file malformed, where the order explains nothing
  pub rejected-said : (profile : Option Profile) (rejection : Rejection) (result : Result Ending Failure)
      → IsReportOf rejection result → (IsJudged rejection → IsOrderRight profile tolerance files → ⊥)
      → IsSaidAsked profile tolerance OfEnd files result
  rejected-said profile (rejections.Refused cause) (Ok ending) is none = refused profile ending is (none tt)
  rejected-said profile (rejections.Refused cause) (Err failure) is none = unwritten profile failure is
  rejected-said profile (rejections.Failed failure) result is none =
      subst (λ (r : Result Ending Failure). IsSaidAsked profile tolerance OfEnd files r) (sym is)
      (failed profile failure none)
