-- A path leads to a list of names, whose parent is a directory: what comes there keeps the tree one.
use Rattle.sftp_tree.proofs.Requests.Rows.{after-kept}
use Rattle.sftp_tree.proofs.laws.steps_keep.Goals as goal

pub returns : goal.returns
returns c = after-kept (λ t kept follow path place bytes is. record {
  named = c.walks_give_places.ensures.names t follow path place kept bytes is;
  above = c.walks_give_places.ensures.parent t follow path place kept bytes is;
})
