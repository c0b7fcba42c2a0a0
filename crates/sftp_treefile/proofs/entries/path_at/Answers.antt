-- The bytes start with a path that may not come next, and so with none that may.
use Rattle.sftp_treefile.proofs.Imports.{inr, ap, length, ◌∙◌, arith, false≢true, err_from_is_err_and}
use Rattle.sftp_treefile.proofs.Texts.Heads.{or_fault, path_unfit, path_absent}
use Rattle.sftp_treefile.proofs.entries.path_at.Goals as goal

pub returns-in_err-text-clause-none : goal.returns-in_err-text-clause-none
returns-in_err-text-clause-none c = grind (arith, err_from_is_err_and, or_fault, path_absent)

pub returns-then-depth-eq0-clause-none : goal.returns-then-depth-eq0-clause-none
returns-then-depth-eq0-clause-none c =
    inr (path_unfit c.args.entries.now.rows.items c.args.bytes.now c.in_ok-text.text.now c.in_ok-text.rest.now c.in_ok-text.ensures.found (λ f. omega (arith, f.below_root, c.depth.ensures, c.if-depth-eq0.true, ap length c.in_ok-text.ensures.place)))

pub returns-then-not-is_later-clause-none : goal.returns-then-not-is_later-clause-none
returns-then-not-is_later-clause-none c =
    inr (path_unfit c.args.entries.now.rows.items c.args.bytes.now c.in_ok-text.text.now c.in_ok-text.rest.now c.in_ok-text.ensures.found (λ f. false≢true (c.if-not-is_later.ensures.1 (rw c.in_ok-text.ensures.place f.later))))

pub returns-then-not-has_parent-clause-none : goal.returns-then-not-has_parent-clause-none
returns-then-not-has_parent-clause-none c =
    inr (path_unfit c.args.entries.now.rows.items c.args.bytes.now c.in_ok-text.text.now c.in_ok-text.rest.now c.in_ok-text.ensures.found (λ f. false≢true (c.if-not-has_parent.ensures ∙ rw c.in_ok-text.ensures.place f.parent)))
