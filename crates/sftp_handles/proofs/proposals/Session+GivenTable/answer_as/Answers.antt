use Rattle.sftp_handles.proofs.Imports.{◌≡◌, sym, subst, Reply, Allowed}
use Rattle.sftp_handles.proofs.proposals.«Session+GivenTable».answer_as.Goals as goal

pub returns-in-Ok-false-clause-refused : goal.returns-in-Ok-false-clause-refused
returns-in-Ok-false-clause-refused c = λ spells end allowed.
    let same : c.in-Ok-Some.reply ≡ c.args.reply = rw c.in-Ok-Some.field-0-is at c.in-Ok-Some.ensures.same in
    c.in-Ok-false.ensures.refused c.in-Ok-false.field-0-test end
    (subst (λ (reply : Reply). Allowed c.args.self.now c.args.request.now reply end) (sym same) allowed)
