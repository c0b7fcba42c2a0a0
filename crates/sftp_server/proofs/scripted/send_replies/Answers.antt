use Rattle.sftp_server.proofs.Imports.{◌∙◌}
use Rattle.sftp_server.proofs.scripted.send_replies.Goals as goal

pub steps-preserved : goal.steps-preserved
steps-preserved g c =
    let sent = c.in_ok-answer.ensures in
    record {
      running = λ start past left ahead fault running.
          sent.running start past left ahead fault (c.steps.invariant.running start past left ahead fault running);
      logging = sent.logging;
      same_writer = sent.counts_writer ∙ c.steps.invariant.same_writer;
      same_log = sent.counts_log ∙ c.steps.invariant.same_log;
    }
