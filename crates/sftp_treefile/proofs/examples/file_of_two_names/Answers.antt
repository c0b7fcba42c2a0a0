use Rattle.sftp_treefile.proofs.Imports.{refl, arith, hex, components, parts, are_own, are_far, spelled, spelled_after, has_dir}
use Rattle.sftp_treefile.proofs.Imports.{usual_limits}
use Rattle.sftp_treefile.proofs.Texts.{usual_are, raised_are}
use Rattle.sftp_treefile.proofs.examples.file_of_two_names.Goals as goal

pub returns-clause-length : goal.returns-clause-length
unfolding hex
returns-clause-length c = refl

pub returns-clause-spelled : goal.returns-clause-spelled
unfolding spelled spelled_after are_own are_far has_dir components parts hex
returns-clause-spelled c = record {
  may_be = record {
    limits = raised_are usual_limits usual_are;
    home = record { names = refl; depth = omega arith; one = refl };
    uid = omega arith;
    gid = omega arith;
    count = omega arith;
    root = (omega arith, omega arith, omega arith);
    rows = (record { path = record { names = refl; depth = omega arith; one = refl }; below_root = omega arith; later = tt; parent = refl; kind = ((omega arith, omega arith, omega arith), omega arith, refl) }, (record { path = record { names = refl; depth = omega arith; one = refl }; below_root = omega arith; later = (refl, tt); parent = refl; kind = (omega arith, refl) }, tt));
    total = omega arith;
    times = tt;
  };
  bytes_are = refl;
}
