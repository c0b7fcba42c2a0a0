use Rattle.sftp_path.proofs.Imports.{arith}
use Rattle.sftp_path.proofs.PathTexts.{bad_by_length, bad_at_zero, bad_by_component, good_to_the_end}
use Rattle.sftp_path.proofs.paths.good_path.Goals as goal
use Rattle.sftp_path.proofs.paths.good_path.Goals.{then-byte-eq47, else-byte-eq47}

pub returns-then-path-gt-PATH_LIMIT : goal.returns-then-path-gt-PATH_LIMIT
returns-then-path-gt-PATH_LIMIT c = bad_by_length c.args.path.now (omega arith)

pub returns-then-byte-eq-NUL : goal.returns-then-byte-eq-NUL
returns-then-byte-eq-NUL c = grind (arith, bad_at_zero)

pub returns-then-component_len-gt-NAME_LIMIT : goal.returns-then-component_len-gt-NAME_LIMIT
returns-then-component_len-gt-NAME_LIMIT c = grind (arith, then-byte-eq47, else-byte-eq47, bad_by_component)

pub returns : goal.returns
returns c = grind (arith, good_to_the_end)
