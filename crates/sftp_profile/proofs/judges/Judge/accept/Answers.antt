use Rattle.std.proofs.Common.{◌≡◌, IsTrue, false}
use Rattle.std.proofs.lemmas.Result.{IfOk-weaker}
use Rattle.sftp_profile.specs.State.{State}
use Rattle.sftp_profile.specs.Permitted.{Permitted}
use Rattle.sftp_profile.specs.Permitted.{IsStep}
use Rattle.sftp_profile.proofs.Permissions.{permitted-reply, refused-reply}
use Rattle.sftp_profile.proofs.judges.Judge.accept.Goals as goal

pub returns-clause-allowed : goal.returns-clause-allowed
returns-clause-allowed c =
    let s = c.args.self.now in
    let request = c.args.request.now in
    let reply = c.args.reply.now in
    IfOk-weaker c.step.result (λ ok. IsStep s request.ask reply.answer ok c.step.new.self)
    (λ ok. IsTrue ok → Permitted s request reply c.step.new.self)
    (λ ok found. permitted-reply s c.step.new.self request reply c.if-reply-request.false ok found)
    c.step.ensures

pub returns-clause-refused : goal.returns-clause-refused
returns-clause-refused c =
    let s = c.args.self.now in
    let request = c.args.request.now in
    let reply = c.args.reply.now in
    IfOk-weaker c.step.result (λ ok. IsStep s request.ask reply.answer ok c.step.new.self)
    (λ ok. ok ≡ false → (end : State) → Permitted s request reply end → ⊥)
    (λ ok found. refused-reply s c.step.new.self request reply ok found) c.step.ensures

pub returns-clause-kept : goal.returns-clause-kept
returns-clause-kept c =
    let s = c.args.self.now in
    let request = c.args.request.now in
    let reply = c.args.reply.now in
    IfOk-weaker c.step.result (λ ok. IsStep s request.ask reply.answer ok c.step.new.self)
    (λ ok. ok ≡ false → c.step.new.self ≡ s) (λ ok found. found.kept) c.step.ensures
