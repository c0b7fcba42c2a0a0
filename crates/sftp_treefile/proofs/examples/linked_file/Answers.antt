use Rattle.sftp_treefile.proofs.Imports.{refl, arith, hex, components, parts, is_good_path, are_own, are_far, spelled, spelled_after, has_dir}
use Rattle.sftp_treefile.proofs.examples.linked_file.Goals as goal

pub returns-clause-length : goal.returns-clause-length
unfolding hex
returns-clause-length c = refl

pub returns-clause-spelled : goal.returns-clause-spelled
unfolding spelled spelled_after are_own are_far has_dir components parts is_good_path hex
returns-clause-spelled c = grind arith
