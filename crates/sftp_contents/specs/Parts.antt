-- Parts of a content.
use Rattle.std.specs.Prelude.{ℕ, List, length, replicate}
use Rattle.sftp_contents.specs.declared.parts.Part.{Part}
use Rattle.sftp_contents.specs.declared.parts.Part.TheVariants.{Bytes, Zeros}

-- the bytes of a part
abbrev pub bytes_in : Part → List ℕ
bytes_in (Bytes bytes) = bytes.now
bytes_in (Zeros count) = replicate count 0

-- how many bytes a part has
abbrev pub count_in : Part → ℕ
count_in (Bytes bytes) = length bytes.now
count_in (Zeros count) = count
