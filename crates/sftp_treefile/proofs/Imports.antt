-- The names that the proofs of this crate take from below it and from its definitions, passed on from one place, so
-- that a proof has a line or two of imports in place of twenty. Declares nothing.
pub use Rattle.std.proofs.Common.{◌≡◌, ℕ, ◌-◌, ◌<◌, ◌≤◌, Bool, true, false, ◌&&◌, ◌||◌, List, [], ◌∷◌, ◌++◌, length}
pub use Rattle.std.proofs.Common.{take, drop, refl, sym, ap, subst, ◌∙◌, arith, inl, inr, ◌+◌, ◌^◌, append_assoc}
pub use Rattle.std.proofs.Common.{get_or, ◌*◌, suc, zero, min, take-append-drop, rules}
pub use Rattle.std.proofs.lemmas.Bool.{and_parts, false≢true, leb-true, eqb-true, ltb-true, not-false, lt-ltb}
pub use Rattle.std.proofs.lemmas.Grind.{common_steps}
pub use Rattle.std.proofs.lemmas.List.{append-nil, length-append, nil_from_length, take_all, length-take-le}
pub use Rattle.std.proofs.lemmas.Result.{err_from_is_err_and}
pub use Rattle.std.specs.List.{flat_map}
pub use Rattle.std.specs.Prelude.{◌↔◌, IsTrue, nat_eq, nat_lt, nat_le, map, max, not, ◌==◌}
pub use Rattle.sftp_strings.specs.Strings.{string, uint32, uint64}
unfoldable pub use Rattle.sftp_path.specs.Place.{components, is_good_path, parts}
unfoldable pub use Rattle.sftp_strings.specs.Hexadecimal.{hex}
pub use Rattle.sftp_treefile.specs.TreeFile.{usual_limits, highest_limits, least_limits, most_limits, AreLimits}
pub use Rattle.sftp_treefile.specs.TreeFile.{AreBetween, all_bytes}
unfoldable pub use Rattle.sftp_treefile.specs.TreeFile.{are_own, are_far}
pub use Rattle.sftp_treefile.specs.TreeFile.{is_wide, opening_by, opening_with, opening_of}
pub use Rattle.sftp_treefile.specs.TreeFile.{place_of, row_text, kind_text, IsPlaceText, IsKind, AreRows, owner_text}
pub use Rattle.sftp_treefile.specs.TreeFile.{IsOwner, tree_opening, limits_text, IsNext}
pub use Rattle.sftp_treefile.specs.TreeFile.{has_times, no_times, times_text, letter_for, file_letter, is_long}
pub use Rattle.sftp_treefile.specs.TreeFile.{length_text, owned_text, timed_text, entry_text, entries_text, any_times}
pub use Rattle.sftp_treefile.specs.TreeFile.{times_of_root, times_of_rows, times_at, root_owner_text, AreTimes}
pub use Rattle.sftp_treefile.specs.TreeFile.{MayHaveTimes, AreTimesOf, AreFileTimes, content_length, contents_length}
unfoldable pub use Rattle.sftp_treefile.specs.TreeFile.{has_dir, spelled, spelled_after}
pub use Rattle.sftp_treefile.specs.TreeFileParts.{IsLast, Follows, Reads, ReadsNone, OutOfMemoryOr, AreRead, AreNone}
pub use Rattle.sftp_treefile.specs.TreeFileParts.{IsNumber, IsLongNumber, IsTarget, IsFileBytes, head_bytes, head_of}
pub use Rattle.sftp_treefile.specs.TreeFileParts.{IsHead, head_text, IsCount, IsFront, front_bytes, AreSet, IsRoot}
pub use Rattle.sftp_treefile.specs.TreeFileParts.{front_text, root_text, KindHasLengths, HasLengths, AreRaised}
pub use Rattle.sftp_treefile.specs.TreeFileParts.{AreGiven, IsGivenOwner, given_owner_text, IsGivenLength, IsKnownIn}
pub use Rattle.sftp_treefile.specs.TreeFileParts.{directory_text, IsOwnedIn, AreTimesIn, IsLengthIn, IsOfOpening}
pub use Rattle.sftp_treefile.specs.TreeFileParts.{IsTimedKind, IsEntry, AreEntries, paired, kept, kept_by, is_lowest}
pub use Rattle.sftp_treefile.specs.TreeFileParts.{with_room, IsFirstAmong, plain_owner_text}
pub use Rattle.sftp_treefile.specs.declared.errors.TreeError.{TreeError}
pub use Rattle.sftp_treefile.specs.declared.files.Kind.{Kind}
pub use Rattle.sftp_treefile.specs.declared.files.Owner.{Owner}
pub use Rattle.sftp_treefile.specs.declared.files.Row.{Row}
pub use Rattle.sftp_treefile.specs.declared.heads.Front.{Front}
pub use Rattle.sftp_treefile.specs.declared.heads.Head.{Head}
pub use Rattle.sftp_treefile.specs.declared.limits.TreeLimits.{TreeLimits}
pub use Rattle.sftp_treefile.specs.declared.limits.Opening.{Opening}
pub use Rattle.sftp_treefile.specs.declared.times.Times.{Times}
pub use Rattle.std.specs.Io.KnownBytes.{IsAtEnd}
pub use Rattle.sftp_streams.specs.Streams.{Ahead, bytes_ahead, HasAhead, ahead_without}
pub use Rattle.sftp_treefile.specs.Streamed.{IsExcuse, ExcuseOr, window, HoldsWindow, IsSame, Takes, Lacks, AreCounted}
pub use Rattle.sftp_treefile.specs.Streamed.{plain, IsFileStart, file_start_text, IsFile, file_text, IsNothing}
pub use Rattle.sftp_treefile.specs.Streamed.{TakesSome, TakesRows, LacksRows, TakesAll, LacksAll, TakesText}
pub use Rattle.sftp_treefile.specs.Streamed.{rows_in, times_in, is_file_letter}
