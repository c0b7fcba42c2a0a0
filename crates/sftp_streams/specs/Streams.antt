-- Streams of bytes that may fail. What a read takes and a write appends is in the words of the standard library
-- (`Rattle.std.specs.Io.KnownBytes`). This profile's own.
use Rattle.std.specs.Prelude.{◌≡◌, ℕ, ◌+◌, ◌-◌, ◌^◌, min, List, ◌++◌, Option, Result, MatchResult, drop, Some}
use Rattle.std.specs.Io.KnownBytes.{Appends, prepend_known}
use Rattle.sftp_streams.specs.declared.streams.Failed.{Failed}
use Rattle.sftp_streams.specs.declared.memory.Memory.{Memory}
use Rattle.sftp_streams.specs.declared.tally.Tally.{Tally}

-- the largest count
abbrev pub largest_count : ℕ
largest_count = 2 ^ 64 - 1

-- one more, as far as that can be counted
abbrev pub one_more : ℕ → ℕ
one_more count = min (count + 1) largest_count

-- a call that fails raises the number of failures by one, and any other leaves it
abbrev pub Counts : {A : Type 0} → Result A Failed → ℕ → ℕ → Type 0
Counts result old new = MatchResult result (λ _. new ≡ old) (λ _. new ≡ one_more old)

-- known bytes grow by a beginning of these
pub record AppendsPart (old new : Option (List ℕ)) (bytes : List ℕ) : Type 0 where
  pub part : List ℕ
  pub rest : List ℕ
  pub parts : bytes ≡ part ++ rest
  pub appended : Appends old new part

-- ==== The bytes that a `Memory` has left.

abbrev pub bytes_of : Memory → List ℕ
bytes_of memory = memory.rest.now

-- ==== What a `Tally` wraps, how many calls of it failed, and how many more reads it passes on.

abbrev pub inner_of : {T : Type 0} → Tally T → T
inner_of tally = tally.inner

abbrev pub failures_of : {T : Type 0} → Tally T → ℕ
failures_of tally = tally.failures

abbrev pub reads_left_of : {T : Type 0} → Tally T → ℕ
reads_left_of tally = tally.reads_left

-- ==== What a reader has ahead of it: bytes that it holds, and bytes that its source has left.

-- the bytes held; those left, where they are known; how many calls of the source failed; a number that falls with each
-- read that gives bytes
pub record Ahead : Type 0 where
  pub held : List ℕ
  pub left : Option (List ℕ)
  pub failures : ℕ
  pub reads_left : ℕ

-- all bytes ahead, where they are known
abbrev pub bytes_ahead : Ahead → Option (List ℕ)
bytes_ahead a = prepend_known a.held a.left

-- these bytes are ahead
abbrev pub HasAhead : Ahead → List ℕ → Type 0
HasAhead a bytes = bytes_ahead a ≡ Some bytes

-- the same without the first bytes held
abbrev pub ahead_without : ℕ → Ahead → Ahead
ahead_without count a =
    record { held = drop count a.held; left = a.left; failures = a.failures; reads_left = a.reads_left }
