use Rattle.sftp_tree.proofs.Imports.{◌-◌, arith, Some, without_a_name}
use Rattle.sftp_tree.proofs.Totals.{summed-where, shrunk, held-less}
use Rattle.sftp_tree.proofs.files.Files.lower.Goals as goal

pub lessened-self-inside-requires-clause-after : goal.lessened-self-inside-requires-clause-after
lessened-self-inside-requires-clause-after c = omega (
  arith,
  c.length_at-before.ensures.is,
  c.length_at-left.ensures.is,
  shrunk c.self.inside.by_number.entries c.lower.new.files.entries c.self.invariant.0 without_a_name
      (λ s. held-less (record s { names = s.names - 1 })) (Some c.args.number) c.lower.ensures,
)

pub invariant_of-self : goal.invariant_of-self
invariant_of-self c =
    summed-where c.self.inside.by_number.entries c.lower.new.files.entries c.self.invariant.0 without_a_name
    (Some c.args.number) c.self.inside.total c.lessened-self-inside.result c.self.invariant.1 c.lower.ensures
    (omega (arith, c.lessened-self-inside.ensures, c.length_at-before.ensures.is, c.length_at-left.ensures.is))
