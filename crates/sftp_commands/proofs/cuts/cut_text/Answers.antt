use Rattle.std.proofs.Common.{rules}
use Rattle.sftp_commands.proofs.CutLaws.{cut_next, shown_whole, hidden_whole}
use Rattle.sftp_commands.proofs.cuts.cut_text.Goals as goal

pub returns-in_default-clause-shown : goal.returns-in_default-clause-shown
returns-in_default-clause-shown c bytes is =
    shown_whole c.bytes.count c.args.limit c.args.text.now c.bytes.left.now bytes c.bytes.invariant.0
    c.in_default.ensures.next c.bytes.invariant.1 is

pub returns-in_default-clause-hidden : goal.returns-in_default-clause-hidden
returns-in_default-clause-hidden c bytes is =
    hidden_whole c.bytes.count c.args.limit c.args.text.now c.bytes.left.now bytes c.bytes.invariant.0
    c.in_default.ensures.next c.bytes.invariant.1 is

pub bytes-preserved : goal.bytes-preserved
bytes-preserved c = (
  cut_next c.bytes.count c.args.text.now c.bytes.left.now c.in-Some.rest.now c.bytes.invariant.0
      c.in-Some.ensures.next c.in-Some.ensures.shorter,
  search rules,
)
