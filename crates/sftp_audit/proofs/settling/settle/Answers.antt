use Rattle.sftp_audit.proofs.Imports.{refl, arith, length-drop}
use Rattle.sftp_audit.proofs.auditing.Places.{done-start, done-more, done-wrong, done-wrong_in, done-told, done-kept}
use Rattle.sftp_audit.proofs.auditing.Places.{done-ran, unsettled-waits, unsettled-none}
use Rattle.sftp_audit.proofs.settling.settle.Goals as goal

pub settle-init : goal.settle-init
settle-init g c = record {
  done = done-start g.J.Judges.allowed c.args.judge.now c.args.ledger.now;
  untold = refl;
  never_grows = omega arith;
}

pub settle-preserved : goal.settle-preserved
settle-preserved g c = record {
  done =
      rw c.forget_first.ensures
      (done-more g.J.Judges.allowed c.args.judge.now c.settle.judge c.accept.new.self c.args.ledger.now c.settle.ledger
      c.in-Some.exchange.now c.in-Some-reply.recorded c.settle.invariant.done c.in-Some.ensures c.in-Some-reply.is
      (c.in_ok-accept.ensures.allowed c.if-not-branch.false));
  untold = c.settle.invariant.untold;
  never_grows =
      rw c.forget_first.ensures (omega (arith, c.settle.invariant.never_grows, length-drop 1 c.settle.ledger));
}

pub returns-then-not-branch-clause-refused : goal.returns-then-not-branch-clause-refused
returns-then-not-branch-clause-refused g c =
    done-wrong g.J.Judges.allowed c.args.judge.now c.settle.judge c.args.ledger.now c.settle.ledger c.in-Some.exchange.now
    c.in-Some-reply.recorded c.settle.invariant.done c.in-Some.ensures c.in-Some-reply.is
    (c.in_ok-accept.ensures.refused c.if-not-branch.true)

pub returns-then-not-branch-clause-wrong : goal.returns-then-not-branch-clause-wrong
returns-then-not-branch-clause-wrong g c =
    done-wrong_in g.J.Judges.allowed c.args.judge.now c.settle.judge c.accept.new.self c.args.ledger.now c.settle.ledger
    c.in-Some.exchange.now c.in-Some-reply.recorded c.settle.invariant.done c.in-Some.ensures c.in-Some-reply.is
    (c.in_ok-accept.ensures.refused c.if-not-branch.true) (c.in_ok-accept.ensures.kept c.if-not-branch.true)

pub returns-then-not-branch-clause-told : goal.returns-then-not-branch-clause-told
returns-then-not-branch-clause-told g c =
    done-told g.J.Judges.allowed c.args.judge.now c.settle.judge c.accept.new.self c.args.ledger.now c.settle.ledger
    c.in-Some.exchange.now c.in-Some-reply.recorded g.J.Judges.follows c.args.follows.now c.in_ok-follows.field-0
    c.settle.invariant.done c.in-Some.ensures c.in-Some-reply.is
    (c.in_ok-accept.ensures.refused c.if-not-branch.true) (c.in_ok-accept.ensures.kept c.if-not-branch.true)
    c.in_ok-follows.ensures

pub returns-in_default-reply-clause-kept : goal.returns-in_default-reply-clause-kept
returns-in_default-reply-clause-kept g c =
    done-kept g.J.Judges.allowed c.args.judge.now c.settle.judge c.args.ledger.now c.settle.ledger c.settle.invariant.done
    (unsettled-waits c.settle.ledger c.in-Some.exchange.now c.in-Some.ensures c.in_default-reply.is)

pub returns-in_default-reply-clause-ran : goal.returns-in_default-reply-clause-ran
returns-in_default-reply-clause-ran g c =
    done-ran g.J.Judges.allowed c.args.judge.now c.settle.judge c.args.ledger.now c.settle.ledger c.settle.invariant.done
    (unsettled-waits c.settle.ledger c.in-Some.exchange.now c.in-Some.ensures c.in_default-reply.is)

pub returns-clause-kept : goal.returns-clause-kept
returns-clause-kept g c =
    done-kept g.J.Judges.allowed c.args.judge.now c.settle.judge c.args.ledger.now c.settle.ledger c.settle.invariant.done
    (unsettled-none c.settle.ledger c.in_default.ensures)

pub returns-clause-ran : goal.returns-clause-ran
returns-clause-ran g c =
    done-ran g.J.Judges.allowed c.args.judge.now c.settle.judge c.args.ledger.now c.settle.ledger c.settle.invariant.done
    (unsettled-none c.settle.ledger c.in_default.ensures)
