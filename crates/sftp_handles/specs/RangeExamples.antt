-- What the worked examples of ranges name: a state with a file of ten bytes, and READs and WRITEs of it.
use Rattle.std.specs.Prelude.{ℕ, Bool, List, [], ◌∷◌, Option, codes}
use Rattle.sftp_packets.specs.declared.requests.Ask.{Ask}
use Rattle.sftp_packets.specs.declared.requests.Ask.TheVariants as asks
use Rattle.sftp_treefile.specs.TreeFile.{usual_limits}
use Rattle.sftp_handles.specs.declared.byte_range.ByteRange.{ByteRange}
use Rattle.sftp_handles.specs.declared.opens.Open.TheVariants.{File}
use Rattle.sftp_handles.specs.State.{kept_flags}
use Rattle.sftp_handles.specs.State.{State}
use Rattle.sftp_handles.specs.Clash.{range, range_clash}
use Rattle.sftp_handles.specs.Examples.{with_text}

-- The file 0 has ten bytes. It is open for reading, writing and appending under `a`, for reading under `r`, for writing
-- under `w`, and for reading and writing under `x`.
abbrev pub with_ten : State
with_ten = record {
  tree = record (with_text (codes "0123456789")) { pins = (0, 4) ∷ [] };
  handles =
      (codes "a", File 0 (kept_flags 7)) ∷ (codes "r", File 0 (kept_flags 1)) ∷ (codes "w", File 0 (kept_flags 2))
      ∷ (codes "x", File 0 (kept_flags 3)) ∷ [];
}

-- the same in a tree whose READs give at most four bytes
abbrev pub with_short_reads : State
with_short_reads = record with_ten { tree = record with_ten.tree { limits = record usual_limits { read_bytes = 4 } } }

abbrev pub read : ℕ → ℕ → Ask
read offset len = asks.Read (codes "x") offset len

abbrev pub write : ℕ → List ℕ → Ask
write offset bytes = asks.Write (codes "x") offset bytes

-- whether these two conflict there, ranges compared; the first is asked first
abbrev pub clash_in : State → Ask → Ask → Bool
clash_in s first second = range_clash s (record { id = 1; ask = first }) (record { id = 2; ask = second })

abbrev pub clash_there : Ask → Ask → Bool
clash_there first second = clash_in with_ten first second

abbrev pub range_there : Ask → Option ByteRange
range_there ask = range with_ten ask
