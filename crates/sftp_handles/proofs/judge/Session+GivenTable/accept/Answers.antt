use Rattle.sftp_handles.proofs.Imports.{◌≡◌, IsTrue, false, IfOk-weaker, State, Allowed, IsJudged}
use Rattle.sftp_handles.proofs.Judged.{allowed-reply, refused-reply}
use Rattle.sftp_handles.proofs.judge.«Session+GivenTable».accept.Goals as goal

pub returns-clause-allowed : goal.returns-clause-allowed
returns-clause-allowed c =
    let s = c.args.self.now in
    let request = c.args.request.now in
    let reply = c.args.reply.now in
    IfOk-weaker c.judge.result (λ ok. IsJudged s request.ask reply.answer ok c.judge.new.self)
    (λ ok. IsTrue ok → Allowed s request reply c.judge.new.self)
    (λ ok judged. allowed-reply s request reply c.judge.new.self ok c.if-reply-request.false judged)
    c.judge.ensures.ok

pub returns-clause-refused : goal.returns-clause-refused
returns-clause-refused c =
    let s = c.args.self.now in
    let request = c.args.request.now in
    let reply = c.args.reply.now in
    IfOk-weaker c.judge.result (λ ok. IsJudged s request.ask reply.answer ok c.judge.new.self)
    (λ ok. ok ≡ false → (end : State) → Allowed s request reply end → ⊥)
    (λ ok judged. refused-reply s request reply c.judge.new.self ok judged) c.judge.ensures.ok
