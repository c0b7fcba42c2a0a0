-- Of what the client had open, the handles that are left may still be; its leave comes to the same as at the start.
use Rattle.std.proofs.Common.{drop}
use Rattle.sftp_handles.specs.State.{Good}
use Rattle.sftp_answers.proofs.Closing.{IsLeaving}
use Rattle.sftp_answers.proofs.leaving.close_handles.Given as goal

abbrev pub invariant-loop-number : goal.invariant-loop-number
invariant-loop-number l =
    Good l.initial.session
    → IsLeaving l.initial.session l.session l.client l.numbers (drop l.number-index l.numbers)
