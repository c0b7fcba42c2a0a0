-- What is said of the sessions in memory is said of the set.
use Rattle.std.proofs.Common.{◌≡◌, List, rules, subst, IfErr}
use Rattle.sftp_together.specs.declared.exchanges.TimedExchange.{TimedExchange}
use Rattle.sftp_together.specs.Checks.{ExplainsBy, IsNoJudgement}
use Rattle.sftp_sets.proofs.sets.audit_set.Goals as goal

pub returns-clause-refused : goal.returns-clause-refused
returns-clause-refused g c =
    let same : c.new-sessions.result.each.items ≡ c.args.set = search rules in
    subst (λ (set : List (List TimedExchange)). IfErr c.audit_together-judged.result (λ fault.
    (IsNoJudgement fault → ⊥) → (last : g.row.J.Denot) → ExplainsBy g.J.Judges.allowed
    (g.J.Judges.begun c.args.by c.args.start) c.args.tolerance set c.args.order.now last → ⊥)) same
    c.audit_together-judged.ensures.refused
