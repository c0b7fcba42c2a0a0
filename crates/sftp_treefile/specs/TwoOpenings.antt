-- Tree files with the first and the second opening, as if there were no third: what they may say, and their bytes.
use Rattle.std.specs.Prelude.{◌≡◌, ℕ, ◌≤◌, ◌<◌, ◌^◌, Bool, true, false, List, [], ◌∷◌, ◌++◌, length, codes}
use Rattle.std.specs.List.{flat_map}
use Rattle.sftp_strings.specs.Strings.{uint32, string}
use Rattle.sftp_treefile.specs.declared.files.Kind.{Kind}
use Rattle.sftp_treefile.specs.declared.files.Kind.TheVariants.{Dir, First, Further, Link}
use Rattle.sftp_treefile.specs.declared.files.Owner.{Owner}
use Rattle.sftp_treefile.specs.declared.files.Row.{Row}
use Rattle.sftp_treefile.specs.declared.files.TreeFile.{TreeFile}
use Rattle.sftp_treefile.specs.declared.limits.TreeLimits.{TreeLimits}
use Rattle.sftp_treefile.specs.TreeFile.{AreBetween, usual_limits, highest_limits, are_own, owner_text, IsPlaceText}
use Rattle.sftp_treefile.specs.TreeFile.{IsOwner, AreRows}

-- the opening of a file without and of one with limits
abbrev pub two_opening : Bool → List ℕ
two_opening false = codes "SFTREE01"
two_opening true = codes "SFTREE02"

-- the limits, which only a file with the second opening has
abbrev pub two_limits_text : Bool → TreeLimits → List ℕ
two_limits_text false limits = []
two_limits_text true limits =
    uint32 limits.entries ++ (uint32 limits.file_bytes ++ (uint32 limits.read_bytes ++ uint32 limits.open_handles))

abbrev pub two_kind_text : Kind → List ℕ
two_kind_text (Dir owner) = 68 ∷ owner_text owner
two_kind_text (First owner bytes) = 70 ∷ (owner_text owner ++ string bytes)
two_kind_text (Further number) = 72 ∷ uint32 number
two_kind_text (Link target) = 76 ∷ string target

abbrev pub two_row_text : Row → List ℕ
two_row_text row = string row.path ++ two_kind_text row.kind

abbrev pub two_rows_text : Owner → List Row → List ℕ
two_rows_text root rows = uint32 (length rows) ++ (owner_text root ++ flat_map two_row_text rows)

-- the second opening, and limits, exactly if they are not all the usual ones
abbrev pub two_spelled : TreeFile → List ℕ
two_spelled file =
    two_opening (are_own file.limits) ++ (string file.home ++ (uint32 file.uid ++ (uint32 file.gid
    ++ (two_limits_text (are_own file.limits) file.limits ++ two_rows_text file.root file.rows))))

-- what they may say: no limit is beyond the highest, all contents have none, and there are no times
pub record IsOfTwo (file : TreeFile) : Type 0 where
  pub limits : AreBetween usual_limits highest_limits file.limits
  pub home : IsPlaceText file.home
  pub uid : file.uid < 2 ^ 32
  pub gid : file.gid < 2 ^ 32
  pub count : length file.rows ≤ file.limits.entries
  pub root : IsOwner file.root
  pub rows : AreRows file.limits [] file.rows
  pub times : file.times ≡ []
