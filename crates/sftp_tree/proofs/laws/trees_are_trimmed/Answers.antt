use Rattle.sftp_tree.proofs.KeptTrees.{well-formed-trimmed, fits-trimmed, kept-trim, trimmed-already}
use Rattle.sftp_tree.proofs.KeptTrees.{content-left}
use Rattle.sftp_tree.proofs.laws.trees_are_trimmed.Goals as goal

pub returns : goal.returns
returns c = record {
  tree = λ t is_held. well-formed-trimmed is_held t;
  limits = λ t is_held. fits-trimmed is_held t;
  kept = kept-trim;
  already = trimmed-already;
  files = λ t is_held number well. content-left t is_held number well.numbered;
}
