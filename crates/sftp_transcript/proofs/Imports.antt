-- The names that the proofs of this crate take from below it and from its definitions, passed on from one place, so
-- that a proof has a line or two of imports in place of twenty. Declares nothing.
pub use Rattle.std.proofs.Common.{◌≡◌, ◌⊎◌, inl, inr, ℕ, true, List, [], ◌∷◌, ◌++◌, Option, Some, None, refl, sym, ap}
pub use Rattle.std.proofs.Common.{◌∙◌, subst, append_assoc, append-nil, arith, ◌+◌, ◌-◌, ◌≤◌, take, drop, length}
pub use Rattle.std.proofs.Common.{take-append-drop, min, ◌≢◌, ◌<◌, Ok, ◌^◌, Bool, false, cond, eqb, ltb, Result, Err}
pub use Rattle.std.proofs.Common.{◌||◌, OnErr, MatchResult, rules, ◌==◌, suc, eq-eqb, ◌&&◌, nat_lt, zero-add, eqb-true}
pub use Rattle.std.proofs.lemmas.Bool.{or_parts, ltb-true, ltb-false, le-ltb}
pub use Rattle.std.proofs.lemmas.List.{length-append, drop-drop, drop-take, take_at, length-take, length-take-le}
pub use Rattle.std.proofs.lemmas.List.{take-append-le, drop-append-le, length-drop, append_cancel_left, drop_at}
pub use Rattle.std.proofs.lemmas.List.Concat.{flat_map-cons}
pub use Rattle.std.proofs.lemmas.Option.{same_Some}
pub use Rattle.std.proofs.lemmas.Result.{err_from_is_err_and, IfOk-weaker, IfErr-weaker}
pub use Rattle.std.specs.Int.{w32, from_be_bytes}
pub use Rattle.std.specs.Io.KnownBytes.{IsAtEnd, Keeps, prepend_known}
pub use Rattle.std.specs.List.{flat_map, AllByRecursion, list_any}
pub use Rattle.sftp_strings.proofs.Bytes.{wide32}
unfoldable pub use Rattle.sftp_wire.specs.Fronts.{front_of}
pub use Rattle.sftp_packets.specs.declared.errors.Fault.{Fault}
pub use Rattle.sftp_packets.specs.declared.packets.Packet.{Packet}
pub use Rattle.sftp_packets.specs.declared.packets.Packet.TheVariants.{Init, Version}
pub use Rattle.sftp_packets.specs.declared.packets.Side.{Side}
pub use Rattle.sftp_packets.specs.declared.packets.Side.TheVariants.{Client, Server}
pub use Rattle.sftp_streams.specs.Streams.{bytes_ahead, Ahead}
pub use Rattle.sftp_transcript.specs.Recorded.{IsSameAhead, HoldsOpening, CutsPacket, CutsAtEnd}
pub use Rattle.sftp_streams.specs.Streams.{ahead_without}
pub use Rattle.sftp_transcript.specs.Recorded.{size_of}
pub use Rattle.sftp_transcript.specs.Sound.{number_after_events, ReadUpTo, HasGiven, HasGivenOf, FaultAhead, FaultOf}
pub use Rattle.sftp_transcript.specs.Sound.{GaveFrom, HasStillGiven, with_given, FaultAfter, BeginsWithInit}
pub use Rattle.sftp_transcript.specs.Packets.{MayCome, stage_after, BeginsNext, FaultNext, GivenRecord}
pub use Rattle.sftp_transcript.specs.Packets.{GivesNext, IsStageThen, number_then, record_number, GivesPacket}
pub use Rattle.sftp_transcript.specs.Recorded.{Reading, Records, RecordsSame, rank, IsKnown, Gave, Gives}
pub use Rattle.sftp_transcript.specs.Transcript.{BeginsKind, side_of_direction, Begins, IsInit, IsVersion, BeginsVersion}
pub use Rattle.sftp_streams.specs.Streams.{HasAhead}
pub use Rattle.sftp_transcript.specs.Recorded.{IsExcuse, IsOpened, Took}
pub use Rattle.sftp_transcript.specs.Transcript.{BeginsRecord, event_record, IsEvent, transcript_opening, record_text}
pub use Rattle.sftp_transcript.specs.Transcript.{packet_of, AreRecords, IsRecord, direction_of, IsHandshake}
pub use Rattle.sftp_transcript.specs.declared.errors.TranscriptError.{TranscriptError}
pub use Rattle.sftp_transcript.specs.declared.errors.TranscriptError.TheVariants.{NoMemory, Magic, Wire, Truncated, Io}
pub use Rattle.sftp_transcript.specs.declared.events.Event.{Event}
pub use Rattle.sftp_transcript.specs.declared.events.Event.TheVariants.{Asked, Replied}
pub use Rattle.sftp_transcript.specs.declared.stage.Stage.{Stage}
