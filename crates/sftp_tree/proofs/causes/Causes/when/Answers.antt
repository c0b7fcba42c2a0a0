use Rattle.sftp_tree.proofs.Imports.{◌*◌, ◌%◌, ◌^◌, ◌∙◌, sym, ap, when, in_set}
use Rattle.std.proofs.Common.{bit_or}
use Rattle.sftp_tree.proofs.CauseLaws.{when-not, when-set}
use Rattle.sftp_tree.proofs.causes.Causes.when.Goals as goal

pub returns-then-not-holds : goal.returns-then-not-holds
returns-then-not-holds c =
    when-not c.args.self c.args.cause ∙ ap (when (in_set c.args.self) c.args.cause) (sym c.if-not-holds.true)

pub returns : goal.returns
returns c = ap (λ n. in_set (record { bits = bit_or c.args.self.bits (1 * 2 ^ n % 2 ^ 32) })) c.row.ensures.row
    ∙ when-set c.args.self c.args.cause ∙ ap (when (in_set c.args.self) c.args.cause) (sym c.if-not-holds.false)
