use Rattle.std.proofs.Common.{[]}
use Rattle.sftp_laws.proofs.HollowSteps.{step-alike, settled-alike}
use Rattle.sftp_laws.proofs.HollowRuns.{run-alike, explained-alike}
use Rattle.sftp_laws.proofs.alike.unread_bytes_do_not_matter.Goals as goal

pub returns-clause-step : goal.returns-clause-step
returns-clause-step c number one other end request reply alike step =
    step-alike number one other end request reply alike step

pub returns-clause-run : goal.returns-clause-run
returns-clause-run c number one other end pairs alike run = run-alike number one other end pairs alike run

pub returns-clause-explained : goal.returns-clause-explained
returns-clause-explained c number one other end events alike explained =
    explained-alike number one other end events alike explained

pub returns-clause-start : goal.returns-clause-start
returns-clause-start c number one other same = settled-alike number one other [] same
