-- The names that the proofs of this crate take from below it and from its definitions, passed on from one place, so
-- that a proof has a line or two of imports in place of twenty. Declares nothing.
pub use Rattle.std.proofs.Common.{◌≡◌, ◌<◌, ◌≤◌, ◌+◌, ◌++◌, ℕ, zero, suc, Bool, true, false, List, [], ◌∷◌, Some}
pub use Rattle.std.proofs.Common.{is_some, if◌then◌else◌, length, slice_get, refl, ap, subst, arith, ◌-◌, ◌&&◌, Option}
pub use Rattle.std.proofs.Common.{None, take, drop, set, sym, ◌∙◌, IfSome, ◌≢◌, not, ◌==◌, nat_lt, ◌⊎◌, inl, inr}
pub use Rattle.std.proofs.Common.{get_or, ap₂, subst₂, append_assoc, append-nil, map, ◌||◌, nat_eq, cond, ◌^◌}
pub use Rattle.std.proofs.Common.{Result, Ok, Err, add-one, OnOk, IfOk, IfErr, OnErr, IsTrue, ◌*◌, codes}
pub use Rattle.std.proofs.Common.{lit<, lit≤, MatchResult}
pub use Rattle.std.proofs.KnownBytes.{Appends-trans, Consumes-trans, Keeps-refl, Consumes-kept, Appends-kept}
pub use Rattle.std.proofs.lemmas.Bool.{true≢false, and_parts, ltb-true, and_from, eqb-true}
pub use Rattle.std.proofs.lemmas.Bool.{eqb-false, not-true, not_from_false, or_parts, ne_eqb}
pub use Rattle.std.proofs.lemmas.Bool.{eq-eqb, or_cases, or_left, or_right, le-ltb}
pub use Rattle.std.proofs.lemmas.List.{length-append, map-append, take_at, length-map}
pub use Rattle.std.proofs.lemmas.List.{flat_map_more, drop_at}
pub use Rattle.std.proofs.lemmas.Option.{none-some, same_Some, slice_get_read}
pub use Rattle.std.proofs.lemmas.Result.{err_from_is_err_and, on_ok_weaker}
pub use Rattle.std.specs.Io.KnownBytes.{Appends, Consumes, IsAtEnd, Keeps}
pub use Rattle.std.specs.List.{AllByRecursion, flat_map}
pub use Rattle.std.specs.Map.{lookup}
pub use Rattle.sftp_handles.proofs.TotalSteps.{bytes-by}
pub use Rattle.sftp_handles.specs.Allowed.{Allowed}
unfoldable pub use Rattle.sftp_treefile.specs.TreeFile.{are_far}
unfoldable pub use Rattle.sftp_handles.specs.Clash.{touched, clash}
unfoldable pub use Rattle.sftp_handles.specs.State.{pins_of}
unfoldable pub use Rattle.sftp_handles.specs.Clash.{range, range_clash}
pub use Rattle.sftp_handles.specs.State.{State, Good, started, closed_tree, settled}
pub use Rattle.sftp_packets.specs.Layouts.{IsAsk}
pub use Rattle.sftp_packets.proofs.PacketLaws.{version_spelled}
pub use Rattle.sftp_packets.specs.Spelling.{FitsString, packet_limit}
pub use Rattle.sftp_packets.specs.Packets.{HasSpelling, side_of}
unfoldable pub use Rattle.sftp_packets.specs.Packets.{spelling}
pub use Rattle.sftp_packets.specs.declared.errors.WireError.TheVariants.{Unreadable}
pub use Rattle.sftp_packets.specs.declared.requests.Ask.{Ask}
pub use Rattle.sftp_packets.specs.declared.packets.Packet.{Packet}
pub use Rattle.sftp_packets.specs.declared.packets.Packet.TheVariants.{Reply as reply_packet, Request as request_packet}
pub use Rattle.sftp_packets.specs.declared.packets.Packet.TheVariants.{Init}
pub use Rattle.sftp_packets.specs.declared.packets.Reply.{Reply}
pub use Rattle.sftp_packets.specs.declared.packets.Request.{Request}
pub use Rattle.sftp_packets.specs.declared.packets.Side.{Side}
pub use Rattle.sftp_packets.specs.declared.packets.Side.TheVariants.{Client, Server}
unfoldable pub use Rattle.sftp_path.specs.Table.{get, retain}
pub use Rattle.sftp_transcript.proofs.Begun.{all_more}
pub use Rattle.sftp_transcript.specs.Examples.{handshake_bytes}
pub use Rattle.sftp_transcript.specs.Explained.{StepOf, window as full_window, Run, window, Explained, BeginsFrom}
unfoldable pub use Rattle.sftp_transcript.specs.Explained.{leading_pairs, exchanges_of, in_window, next_reply}
unfoldable pub use Rattle.sftp_transcript.specs.Explained.{turn_after, requests_before_reply}
pub use Rattle.sftp_transcript.specs.Explained.{Exchange, StandsFor, keeps_window, IsAnswered}
unfoldable pub use Rattle.sftp_transcript.specs.Explained.{with_replies, is_open}
pub use Rattle.sftp_transcript.specs.Log.{Log, IsAppended, FailsToRecord, opened_text}
pub use Rattle.sftp_streams.specs.Streams.{AppendsPart}
pub use Rattle.sftp_transcript.specs.Transcript.{IsEvent, record_text, packet_of, transcript_opening}
pub use Rattle.sftp_transcript.specs.declared.errors.TranscriptError.{TranscriptError}
pub use Rattle.sftp_transcript.specs.declared.errors.TranscriptError.TheVariants.{Io}
pub use Rattle.sftp_transcript.specs.declared.events.Event.{Event}
pub use Rattle.sftp_transcript.specs.declared.events.Event.TheVariants.{Asked, Replied}
pub use Rattle.sftp_tree.proofs.PlaceTables.{all_both}
pub use Rattle.sftp_tree.proofs.Requests.Rows.{PathsLeadWell}
pub use Rattle.sftp_tree.proofs.Requests.Rows.{path-bytes}
pub use Rattle.sftp_tree.specs.Tree.{Tree}
pub use Rattle.sftp_wire.proofs.StreamLaws.{length-spelling, none-leaves_room, front_again, spellings-apart}
pub use Rattle.sftp_wire.specs.Examples.{version_bytes}
pub use Rattle.sftp_packets.specs.Spelling.{no_attributes}
unfoldable pub use Rattle.sftp_strings.specs.Hexadecimal.{hex}
pub use Rattle.sftp_wire.specs.Fronts.{place_after}
pub use Rattle.sftp_wire.specs.Fronts.{StandsInFront}
unfoldable pub use Rattle.sftp_wire.specs.Fronts.{front_of}
pub use mathlib.Core.Bool.{or-true, and-false, or-false, or_assoc, or_comm}
pub use Rattle.sftp_server.specs.Queue.{IsPossible, steps_left}
unfoldable pub use Rattle.sftp_server.specs.Queue.{owed}
pub use Rattle.sftp_server.specs.Machine.{server_clash, HasGoodReply, IsSendable, IsCore, IsValue, IsReached, IsRefusedFor}
pub use Rattle.sftp_server.specs.Machine.{AreDeliverable}
pub use Rattle.sftp_server.specs.Ending.{fault_of, found_refused, TakesOn}
pub use Rattle.sftp_server.specs.Left.{LeadsTo, Leaves, LeavesAt, IsAfterDone, IsLeftAfter}
unfoldable pub use Rattle.sftp_server.specs.Left.{AreDone}
pub use Rattle.sftp_server.specs.Machine.{Machine, ClashOf, is_sent, is_ready, reply_at, IsWorked, IsSent, is_pending}
pub use Rattle.sftp_server.specs.Machine.{ready_in, reply_of, is_pending_at, at_start, taken}
pub use Rattle.sftp_server.specs.Machine.{can_take, IsIdle, IsDelivery, IsWork, IsSend, IsAct, AreActs, Delivers}
unfoldable pub use Rattle.sftp_server.specs.Machine.{is_free_of, from_unsent, is_unsent}
pub use Rattle.sftp_server.specs.Queue.{request_in, pending_at, HasReply, sent_in, IsQueue, clashes_in}
unfoldable pub use Rattle.sftp_server.specs.Queue.{with_progress, AreUnsentApart}
pub use Rattle.sftp_server.specs.Served.{IsOpened, session_packets, recorded, IsListed, IsBeginning, IsCutInLast}
pub use Rattle.sftp_server.specs.Served.{StreamBytes, stream_bytes, Passed, EndsSession, IsUnopenedBy, IsServed, Serves}
pub use Rattle.sftp_server.specs.Served.{spelled_if, our_version, IsGreeting, IsNoGreeting, opened_record}
unfoldable pub use Rattle.sftp_server.specs.Served.{sent_by, answered_last}
pub use Rattle.sftp_server.specs.Sessions.{Stops, tree_left, IsLogging, Ahead, IsRunning, IsFaultAhead, ahead_without}
pub use Rattle.sftp_server.specs.Sessions.{IsUnopenedYet, input_limit, FailsToSend, BeginsWithGreeting, SendsOn}
pub use Rattle.sftp_server.specs.declared.acts.Act.{Act}
pub use Rattle.sftp_server.specs.declared.acts.Act.TheVariants.{Deliver, Work, Send}
pub use Rattle.sftp_server.specs.declared.cores.Choice.{Choice}
pub use Rattle.sftp_server.specs.declared.ends.SessionFault.{SessionFault}
pub use Rattle.sftp_server.specs.declared.ends.Stop.{Stop}
pub use Rattle.sftp_server.specs.declared.opening.First.{First}
pub use Rattle.sftp_server.specs.declared.queue.Entry.{Entry}
pub use Rattle.sftp_server.specs.declared.queue.Progress.{Progress}
pub use Rattle.sftp_server.specs.declared.queue.Progress.TheVariants.{Pending, Done, Sent}
pub use Rattle.sftp_server.specs.declared.refusals.Refuse.{Refuse}
pub use Rattle.sftp_server.specs.declared.taking.Front.{Front}
