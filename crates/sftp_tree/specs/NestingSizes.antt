-- Each child has fewer places than its directory. This is a proof: it stands among the definitions, since the code that
-- cites it takes nothing from `proofs`.
use Rattle.std.specs.Prelude.{◌≡◌, ◌≤◌, ◌+◌, [], ◌∷◌, ◌++◌, length}
use Rattle.std.proofs.Common.{arith}
use Rattle.std.specs.Map.{values_of}
use denote.Param.Weighed.{most}
use Rattle.sftp_path.specs.Place.{Name}
use Rattle.sftp_tree.specs.declared.entries.directories.Child.{Child}
use Rattle.sftp_tree.specs.declared.entries.directories.Child.TheVariants.{Dir, File, Link}
use Rattle.sftp_tree.specs.declared.entries.directories.Dir.TheDeep.{deep-Child}
use Rattle.sftp_tree.specs.Tree.{Names}
use Rattle.sftp_tree.specs.Nesting.{Children, branch, placed, flat}

deep_le-length-branch : (child : Child) → deep-Child child ≤ length (branch child) + 1
deep_le-length-branch (Dir names) = omega arith
deep_le-length-branch (File number) = omega arith
deep_le-length-branch (Link target) = omega arith

length-placed : (name : Name) (names rest : Names) → length (placed name names ++ rest) ≡ length names + length rest
length-placed name [] rest = omega arith
length-placed name (e ∷ es) rest = omega (arith, length-placed name es rest)

-- no child has more places than there are below the directory
pub most_le-length-flat : (cs : Children) → most deep-Child (values_of cs) ≤ length (flat cs) + 1
most_le-length-flat [] = omega arith
most_le-length-flat (c ∷ cs) =
    omega (arith, most_le-length-flat cs, deep_le-length-branch c.1, length-placed c.0 (branch c.1) (flat cs))
