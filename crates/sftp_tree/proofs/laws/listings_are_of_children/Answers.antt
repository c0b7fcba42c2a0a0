use Rattle.sftp_tree.proofs.Requests.{listing-rises, listed-at}
use Rattle.sftp_tree.proofs.laws.listings_are_of_children.Goals as goal

pub returns : goal.returns
returns c = record {
  order = λ t place well. listing-rises t place well.ordered;
  shown = λ t place name well. listed-at t place name well;
}
