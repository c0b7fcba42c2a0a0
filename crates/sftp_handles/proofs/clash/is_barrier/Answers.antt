use Rattle.sftp_handles.proofs.Imports.{sym, ap, ◌∙◌, row_of, bars_by}
use Rattle.sftp_handles.proofs.clash.is_barrier.Goals as goal

pub returns-in-Some : goal.returns-in-Some
returns-in-Some c =
    c.bars.ensures ∙ sym (λ i. bars_by (c.in-Some.ensures.asked i) (c.in-Some.ensures.needed i))

pub returns-in-None : goal.returns-in-None
returns-in-None c = sym (ap (λ named. bars_by named (row_of c.args.ask.now).needed) c.in-None.ensures.none)
