use Rattle.sftp_tree.proofs.Requests.Rows.{outcome-stands}
use Rattle.sftp_tree.proofs.laws.outcomes_are_trees.Goals as goal

pub returns : goal.returns
returns c =
    let stands = outcome-stands (λ t kept follow path place bytes is. record {
      named = c.walks_give_places.ensures.names t follow path place kept bytes is;
      above = c.walks_give_places.ensures.parent t follow path place kept bytes is;
    }) in
    record {
      tree = λ t ask well within fits free. (stands t ask well within fits free).well_formed;
      limits = λ t ask well within fits free. (stands t ask well within fits free).within_limits;
    }
