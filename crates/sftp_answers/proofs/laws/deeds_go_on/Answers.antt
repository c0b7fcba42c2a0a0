use Rattle.sftp_answers.proofs.Histories.{run-append, happened-append}
use Rattle.sftp_answers.proofs.laws.deeds_go_on.Goals as goal

pub returns-clause-run : goal.returns-clause-run
returns-clause-run c = run-append

pub returns-clause-happened : goal.returns-clause-happened
returns-clause-happened c = happened-append
