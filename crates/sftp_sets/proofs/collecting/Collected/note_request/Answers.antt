-- A request waits, or is refused.
use Rattle.std.proofs.Common.{rules, refl, subst}
use Rattle.std.proofs.lemmas.Result.{err_from_is_err_and}
use Rattle.sftp_together.specs.declared.exchanges.Stamp.{Stamp}
use Rattle.sftp_sets.specs.Collecting.{exchanges_of, RefusesId}
use Rattle.sftp_sets.proofs.Holding.{notes-asked, refused-id}
use Rattle.sftp_sets.proofs.collecting.Collected.note_request.Goals as goal

pub returns-in_err-ask-clause-refused : goal.returns-in_err-ask-clause-refused
returns-in_err-ask-clause-refused c =
    let p = err_from_is_err_and c.from_residual.result c.from_residual.ensures.1 in
    let old = c.args.self.now in
    rw (p.1, p.2)
    (refused-id c.args.times.now.start c.args.times.now.entries.items c.args.request old c.in_err-ask.field-0.0
    (subst (λ (s : Stamp). RefusesId (exchanges_of old.kept.items) c.args.request.id s.number c.in_err-ask.field-0.0)
    c.stamp-stamp.ensures c.in_err-ask.ensures.refused))

pub returns-clause-holds : goal.returns-clause-holds
returns-clause-holds c =
    notes-asked c.args.times.now.start c.args.times.now.entries.items c.args.request c.stamp-stamp.result c.args.self.now _
    c.stamp-stamp.ensures c.in_ok-ask.ensures.apart c.in_ok-ask.ensures.in_time c.in_ok-ask.ensures.noted refl (search rules)
