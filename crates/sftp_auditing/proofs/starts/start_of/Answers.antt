-- What is read are all bytes of the file, where it has no more than the limit.
use Rattle.std.proofs.Common.{ℕ, ◌≤◌, refl, sym, subst}
use Rattle.sftp_auditing.proofs.StartLaws.{start_within, one_more_fits}
use Rattle.sftp_auditing.proofs.starts.start_of.Goals as goal

pub returns-clause-start : goal.returns-clause-start
returns-clause-start g c =
    start_within (g.F.Read.remaining c.args.file) _ c.args.limit c.saturating_add.result
    (rw (c.new.ensures.inner, c.new-bytes.ensures, c.take.ensures.limit, c.take.ensures.inner) refl)
    (λ count fits. one_more_fits c.unwrap_or-most.result c.saturating_add.result count c.saturating_add.ensures
    c.unwrap_or-most.type_inv (subst (λ (most : ℕ). count ≤ most) (sym c.unwrap_or-most.ensures) fits)) c.read_from-tree.result
    c.read_from-tree.ensures.found c.read_from-tree.ensures.only c.judged.result c.judged.ensures.same
