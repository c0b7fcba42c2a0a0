-- A request that is ready is done; without memory nothing changes.
use Rattle.sftp_server.proofs.Imports.{arith, err_from_is_err_and, Allowed}
use Rattle.sftp_server.proofs.ReadyLaws.{worked-falls}
use Rattle.sftp_server.proofs.Sessions.Replied.{sends-worked}
use Rattle.sftp_server.proofs.Sessions.Closed.{works-nothing}
use Rattle.sftp_server.proofs.scripted.try_work.Goals as goal

pub returns-in_err-work_by-clause-works : goal.returns-in_err-work_by-clause-works
returns-in_err-work_by-clause-works g c =
    let p = err_from_is_err_and c.from_residual.result c.from_residual.ensures.1 in
    rw (p.1, p.2) (works-nothing c.args.core.now c.work_by.new.self c.in_err-work_by.ensures.err)

pub returns-in-Done-clause-works : goal.returns-in-Done-clause-works
returns-in-Done-clause-works g c = λ written logged.
    sends-worked c.args.core.now c.work_by.new.self c.args.k written logged (c.in_ok-work_by.ensures.was_ready c.in-Done.is)
    (c.in_ok-work_by.ensures.done c.in-Done.is)

pub returns-in-Done-clause-never_rises : goal.returns-in-Done-clause-never_rises
returns-in-Done-clause-never_rises g c =
    let fewer =
    worked-falls Allowed c.args.core.now c.args.k c.work_by.new.self (c.in_ok-work_by.ensures.done c.in-Done.is) in
    omega (arith, fewer)
