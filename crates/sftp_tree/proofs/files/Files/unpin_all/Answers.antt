use Rattle.sftp_tree.proofs.Imports.{ap, arith, contents, Stores}
use Rattle.sftp_tree.specs.Tree.{total_of as bytes_of}
use Rattle.sftp_tree.proofs.Totals.{unpinned-less}
use Rattle.sftp_tree.proofs.files.Files.unpin_all.Goals as goal

pub total_of-self-inside-requires : goal.total_of-self-inside-requires
total_of-self-inside-requires c = omega (
  arith,
  ap (λ (t : Stores). bytes_of (contents t)) c.unpin_all.ensures,
  unpinned-less c.self.inside.by_number.entries,
  c.self.invariant.1,
)

pub invariant_of-self : goal.invariant_of-self
invariant_of-self c = (c.total_of-self-inside.ensures.ordered, c.total_of-self-inside.ensures.total)
