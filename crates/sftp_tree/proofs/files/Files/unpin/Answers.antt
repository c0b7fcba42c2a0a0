use Rattle.sftp_tree.proofs.Imports.{◌-◌, arith, Some, without_a_pin}
use Rattle.sftp_tree.proofs.Totals.{summed-where, shrunk, held-less}
use Rattle.sftp_tree.proofs.files.Files.unpin.Goals as goal

pub lessened-self-inside-requires-clause-after : goal.lessened-self-inside-requires-clause-after
lessened-self-inside-requires-clause-after c = omega (
  arith,
  c.length_at-before.ensures.is,
  c.length_at-after.ensures.is,
  shrunk c.self.inside.by_number.entries c.unpin.new.files.entries c.self.invariant.0 without_a_pin
      (λ s. held-less (record s { pins = s.pins - 1 })) (Some c.args.number) c.unpin.ensures,
)

pub invariant_of-self : goal.invariant_of-self
invariant_of-self c =
    summed-where c.self.inside.by_number.entries c.unpin.new.files.entries c.self.invariant.0 without_a_pin
    (Some c.args.number) c.self.inside.total c.lessened-self-inside.result c.self.invariant.1 c.unpin.ensures
    (omega (arith, c.lessened-self-inside.ensures, c.length_at-before.ensures.is, c.length_at-after.ensures.is))
