use Rattle.sftp_server.proofs.Imports.{sym, ◌∙◌, arith}
use Rattle.sftp_server.proofs.Queues.{sent-first, unsent-first}
use Rattle.sftp_server.proofs.queue.drop_sent.Goals as goal

pub sent-preserved : goal.sent-preserved
sent-preserved c =
    rw c.pop_front.ensures.rest
    ((sent-first c.sent.entries.items (sym c.is_sent_first.ensures ∙ c.sent-test.true)).0 ∙ c.sent.invariant)

pub sent-smaller : goal.sent-smaller
sent-smaller c =
    let gone = (sent-first c.sent.entries.items (sym c.is_sent_first.ensures ∙ c.sent-test.true)).1 in
    rw c.pop_front.ensures.rest (omega (arith, gone))

pub returns : goal.returns
returns c =
    sym (unsent-first c.sent.entries.items (sym c.is_sent_first.ensures ∙ c.sent-test.false)) ∙ c.sent.invariant
