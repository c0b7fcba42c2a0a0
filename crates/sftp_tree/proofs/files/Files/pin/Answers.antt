use Rattle.sftp_tree.proofs.Imports.{refl, Some, with_a_pin}
use Rattle.sftp_tree.proofs.Totals.{summed-still}
use Rattle.sftp_tree.proofs.files.Files.pin.Goals as goal

pub invariant_of-self : goal.invariant_of-self
invariant_of-self c =
    summed-still c.self.inside.by_number.entries c.pin.new.files.entries c.self.invariant.0 with_a_pin (λ s. refl)
    (Some c.args.number) c.self.inside.total c.self.invariant.1 c.pin.ensures
