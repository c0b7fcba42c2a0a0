-- The names that the proofs of this crate take from below it and from its definitions, passed on from one place, so
-- that a proof has a line or two of imports in place of twenty. Declares nothing.
pub use Rattle.std.proofs.Common.{◌≡◌, ◌==◌, ◌&&◌, ◌||◌, not, ℕ, suc, ◌+◌, ◌≤◌, min, Bool, true, false, cond, List, []}
pub use Rattle.std.proofs.Common.{◌∷◌, ◌++◌, Option, Some, None, is_some, length, refl, sym, ap, ◌∙◌, ◌⊎◌, arith, inl}
pub use Rattle.std.proofs.Common.{inr, eqb-true, eq-eqb, ◌≢◌, if◌then◌else◌, subst, nat_eq, ◌%◌, ◌^◌, ◌<◌, set}
pub use Rattle.std.proofs.Common.{drop, slice_get, IsTrue, append_assoc, Ok, Err, Result, OnOk, ◌-◌, codes, nat_lt}
pub use Rattle.std.proofs.Common.{lit<, lit≤, ltb-true, map}
pub use Rattle.std.proofs.lemmas.Bool.{eqb-false, ne_eqb, cases_Bool, true≢false, and_parts}
pub use Rattle.std.proofs.lemmas.List.{length-map, map-append, map-id, length-append, append-nil, length-drop}
pub use Rattle.std.proofs.lemmas.Option.{none-some, same_Some, slice_get_read}
pub use Rattle.std.proofs.lemmas.Result.{err_from_is_err_and, IfErr-weaker, IfOk-weaker}
pub use Rattle.std.specs.List.{AllByRecursion, list_all, flat_map, list_any}
pub use Rattle.std.specs.Option.{option_map}
pub use Rattle.sftp_handles.specs.Allowed.{Allowed, and_then}
unfoldable pub use Rattle.sftp_handles.specs.Allowed.{step}
pub use Rattle.sftp_handles.specs.State.{closed_tree, started}
pub use Rattle.sftp_packets.specs.declared.packets.Reply.{Reply}
pub use Rattle.sftp_packets.specs.declared.packets.Request.{Request}
pub use Rattle.sftp_transcript.proofs.pairing.{sound_by, settled_by, explained_by}
pub use Rattle.sftp_transcript.proofs.transcripts.{begins_each, faulty_records_none}
pub use Rattle.sftp_transcript.proofs.transcripts.{records_are_one_lem}
pub use Rattle.sftp_transcript.specs.Sound.{first_number, number_after_events}
pub use Rattle.sftp_transcript.specs.Explained.{closed, waiting, Run, Explained, window, Turn, broken, StepOf}
unfoldable pub use Rattle.sftp_transcript.specs.Explained.{next_reply, exchanges_of, leading_pairs, turn_after}
unfoldable pub use Rattle.sftp_transcript.specs.Explained.{in_window, requests_before_reply}
pub use Rattle.sftp_transcript.specs.Recorded.{Reading}
pub use Rattle.sftp_transcript.specs.Sound.{Sound, IsWaiting, InTurn}
pub use Rattle.sftp_transcript.specs.declared.errors.TranscriptError.{TranscriptError}
pub use Rattle.sftp_transcript.specs.declared.events.Event.{Event}
pub use Rattle.sftp_transcript.specs.declared.events.Event.TheVariants.{Asked, Replied}
pub use Rattle.sftp_tree.proofs.TreeFiles.Files.{one_start}
pub use Rattle.sftp_tree.specs.Picture.{IsStart, blank}
unfoldable pub use Rattle.sftp_tree.specs.Picture.{picture}
pub use Rattle.sftp_tree.specs.Tree.{Tree, raised}
pub use Rattle.sftp_packets.specs.Spelling.{no_attributes}
unfoldable pub use Rattle.sftp_strings.specs.Hexadecimal.{hex}
pub use mathlib.Core.Bool.{or_assoc}
pub use Rattle.sftp_audit.specs.Audit.{request_count, RefusedAt, RefusedAtEnd, FaultAt, IsFirstFaultBy, IsTreeError}
pub use Rattle.sftp_audit.specs.Audit.{IsPlain, IsNew, IsNoJudgement, WasFed, StopsFeed, IsToldOf, is_request}
pub use Rattle.sftp_audit.specs.Audit.{HasRefused, error_of_transcript, error_of_session, AccountsBy, JudgesTree}
pub use Rattle.sftp_audit.specs.Audit.{IsToldBy, ToldAt, IsExcusedBy}
pub use Rattle.sftp_audit.specs.Auditor.{Refuses, LacksReply, IsFirstWrong, FollowsOf, IsTold, Audited, StandsFor}
pub use Rattle.sftp_audit.specs.Examples.{Unexplained}
pub use Rattle.sftp_audit.specs.Exchanges.{recorded_exchanges, is_answered, AreAnswered, waits_for, reply_of, ledger_of}
unfoldable pub use Rattle.sftp_audit.specs.Exchanges.{next_recorded, exchanges_from, unsettled, is_awaited}
pub use Rattle.sftp_audit.specs.Trees.{starts_answered, ordinal_at, IsIndexed, RefusesRequest, RefusesReply}
unfoldable pub use Rattle.sftp_audit.specs.Trees.{AreApart, place_of}
pub use Rattle.sftp_audit.specs.declared.errors.AuditError.{AuditError}
pub use Rattle.sftp_audit.specs.declared.errors.Refusal.{Refusal}
pub use Rattle.sftp_audit.specs.declared.exchanges.Exchange.{Exchange}
pub use Rattle.sftp_audit.specs.declared.exchanges.RecordedReply.{RecordedReply}
