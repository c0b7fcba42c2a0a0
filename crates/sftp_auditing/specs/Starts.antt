-- What is read of a tree file.
use Rattle.std.specs.Prelude.{◌≡◌, ⊤, ℕ, List, Result, Ok, Err}
use Rattle.sftp_treefile.specs.declared.errors.TreeError.{TreeError}
use Rattle.sftp_treefile.specs.declared.errors.TreeError.TheVariants as tree_errors
use Rattle.sftp_tree.specs.Tree.{Tree}
use Rattle.sftp_tree.specs.Picture.{IsStart}
use Rattle.sftp_audit.specs.Audit.{HasStart}

-- the tree of these bytes, or that they are no tree; nothing if memory ran out
abbrev pub IsStartOf : List ℕ → Result Tree TreeError → Type 0
IsStartOf bytes (Ok start) = IsStart start bytes
IsStartOf bytes (Err tree_errors.NoMemory) = ⊤
IsStartOf bytes (Err error) = HasStart bytes → ⊥

-- the source failed
abbrev pub IsFailedRead : TreeError → Type 0
IsFailedRead (tree_errors.Io entry) = ⊤
IsFailedRead other = ⊥

-- what was read, from a source that did not fail
abbrev pub IsJudgedStart : Result Tree TreeError → Result Tree TreeError → Type 0
IsJudgedStart read (Ok start) = read ≡ Ok start
IsJudgedStart read (Err error) = (read ≡ Err error) × (IsFailedRead error → ⊥)
