use Rattle.sftp_tree.proofs.Walks.{path-found}
use Rattle.sftp_tree.proofs.Walks.Counts.{reached-unlinked}
use Rattle.sftp_tree.proofs.laws.walks_give_places.Goals as goal

pub returns : goal.returns
returns c = record {
  names = λ t follow path place kept bytes is. (path-found t follow path place kept bytes is).names;
  parent = λ t follow path place kept bytes is. (path-found t follow path place kept bytes is).parent_stands;
  unlinked = λ t path place kept is. reached-unlinked t path place kept is;
}
