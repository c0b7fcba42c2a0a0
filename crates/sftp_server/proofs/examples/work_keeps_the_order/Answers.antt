use Rattle.sftp_server.proofs.Worked.{keeps_order}
use Rattle.sftp_server.proofs.examples.work_keeps_the_order.Goals as goal

pub returns : goal.returns
returns c = keeps_order
