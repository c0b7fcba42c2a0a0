-- A file has more than the limit.
use Rattle.sftp_tree.proofs.Imports.{min, drop, arith, length-take, length-drop}
use Rattle.sftp_tree.proofs.file_examples.read_limits.Goals as goal

pub returns-clause-usual : goal.returns-clause-usual
returns-clause-usual c =
    λ bytes many. omega (arith, length-take (min 70000 32768) (drop 0 bytes), length-drop 0 bytes, many)

pub returns-clause-highest : goal.returns-clause-highest
returns-clause-highest c =
    λ bytes many. omega (arith, length-take (min 70000 65536) (drop 0 bytes), length-drop 0 bytes, many)
