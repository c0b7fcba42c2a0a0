use Rattle.sftp_tree.proofs.Imports.{◌/◌, ◌^◌, ◌∙◌, nat_eq, bit_and, ap, row, in_set}
use Rattle.std.proofs.lemmas.Nat.Bits.{shr_and_one}
use Rattle.sftp_tree.proofs.causes.Causes.holds.Goals as goal

pub returns : goal.returns
unfolding in_set
returns c = ap (λ n. nat_eq (bit_and (c.args.self.now.bits / 2 ^ n) 1) 1) c.row.ensures.row
    ∙ ap (λ b. nat_eq b 1) (shr_and_one c.args.self.now.bits (row c.args.cause))
