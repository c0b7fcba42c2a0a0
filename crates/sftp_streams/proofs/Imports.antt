-- The names that the proofs of this crate take from below it and from its definitions, passed on from one place, so
-- that a proof has a line or two of imports in place of twenty. Declares nothing.
pub use Rattle.std.proofs.Common.{◌≡◌, ℕ, List, ◌∷◌, ◌++◌, Option, Some, None, refl, sym, ap, ◌∙◌, append_assoc, arith}
pub use Rattle.std.proofs.Common.{◌+◌, ◌-◌, ◌≤◌, take, drop, length, take-append-drop, min, Ok, Err, Result, OnErr}
pub use Rattle.std.proofs.lemmas.List.{length-append, drop-drop, drop-take, take_at, length-take, length-take-le}
pub use Rattle.std.proofs.lemmas.List.{take-append-le, drop_at}
pub use Rattle.std.proofs.lemmas.Option.{same_Some}
pub use Rattle.std.specs.Io.KnownBytes.{Keeps, prepend_known}
pub use Rattle.sftp_streams.specs.Streams.{Ahead, bytes_ahead, HasAhead, ahead_without}
