use Rattle.sftp_treefile.proofs.Imports.{refl, arith, hex, components, parts, are_own, are_far, spelled, spelled_after}
use Rattle.sftp_treefile.proofs.examples.blank_file.Goals as goal

pub returns-clause-length : goal.returns-clause-length
unfolding hex
returns-clause-length c = refl

pub returns-clause-spelled : goal.returns-clause-spelled
unfolding spelled spelled_after are_own are_far hex
returns-clause-spelled c = refl

pub returns-clause-may_be : goal.returns-clause-may_be
unfolding components parts
returns-clause-may_be c = grind arith
