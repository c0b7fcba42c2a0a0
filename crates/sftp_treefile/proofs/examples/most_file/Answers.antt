-- Computed.
use Rattle.sftp_treefile.proofs.Imports.{refl, arith, hex, components, parts, are_own, are_far, spelled, spelled_after}
use Rattle.sftp_treefile.proofs.Texts.{most_are}
use Rattle.sftp_treefile.proofs.examples.most_file.Goals as goal

pub returns-clause-length : goal.returns-clause-length
unfolding hex
returns-clause-length c = refl

pub returns-clause-spelled : goal.returns-clause-spelled
unfolding spelled spelled_after hex are_own are_far
returns-clause-spelled c = refl

pub returns-clause-may_be : goal.returns-clause-may_be
unfolding components parts
returns-clause-may_be c = record {
  limits = most_are;
  home = record { names = refl; depth = omega arith; one = refl };
  uid = omega arith;
  gid = omega arith;
  count = omega arith;
  root = (omega arith, omega arith, omega arith);
  rows = tt;
  total = omega arith;
  times = tt;
}
