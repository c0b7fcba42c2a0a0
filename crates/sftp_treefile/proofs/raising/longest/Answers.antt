-- The longest so far is that of what is left and of this.
use Rattle.std.proofs.Common.{add-one}
use Rattle.sftp_treefile.proofs.Imports.{arith}
use Rattle.sftp_treefile.proofs.Texts.Raised.{longest_from, longest_end}
use Rattle.sftp_treefile.proofs.raising.longest.Goals as goal

pub loop-row-preserved : goal.loop-row-preserved
loop-row-preserved c = rw add-one (omega (
  arith,
  longest_from c.args.rows.now c.loop-row.row-index c.row-item.result c.loop-row-test.true c.row-item.is,
  c.content_length.ensures,
  c.max-most.ensures,
  c.loop-row.invariant,
))

pub returns : goal.returns
returns c = omega (
  arith,
  longest_end c.args.rows.now c.loop-row.row-index c.loop-row-test.false,
  c.loop-row.invariant,
)
