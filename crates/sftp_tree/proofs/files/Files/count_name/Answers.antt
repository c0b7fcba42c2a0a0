use Rattle.sftp_tree.proofs.Imports.{refl, with_a_name}
use Rattle.sftp_tree.proofs.Totals.{summed-still}
use Rattle.sftp_tree.proofs.files.Files.count_name.Goals as goal

pub invariant_of-self : goal.invariant_of-self
invariant_of-self c =
    summed-still c.self.inside.by_number.entries c.count_name.new.files.entries c.self.invariant.0 with_a_name (λ s. refl)
    c.args.named c.self.inside.total c.self.invariant.1 c.count_name.ensures
