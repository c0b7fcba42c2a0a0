-- The bytes of a file, however they are kept.
use Rattle.std.specs.Prelude.{ℕ, List}
use Rattle.sftp_contents.specs.declared.kept.Kept.{Kept}
use Rattle.sftp_contents.specs.declared.kept.Kept.TheVariants.{Whole, Paged}

-- the bytes
abbrev pub bytes_kept : Kept → List ℕ
bytes_kept (Whole bytes) = bytes.items
bytes_kept (Paged paged) = paged.value
