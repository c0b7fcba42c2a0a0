-- A string that is empty or no good path leaves nothing to read.
use Rattle.sftp_treefile.proofs.Imports.{inr, sym, arith, IsTarget}
use Rattle.sftp_treefile.proofs.Texts.{target_length, string_none_short, string_none, empty_target, bad_target}
use Rattle.sftp_treefile.proofs.fields.target_at.Goals as goal
use Rattle.sftp_treefile.proofs.fields.target_at.Goals.{then-is_empty-via-then-is_empty}
use Rattle.sftp_treefile.proofs.fields.target_at.Goals.{then-is_empty-via-else-is_empty+then-not-good_path}

pub returns-in_default-clause-none : goal.returns-in_default-clause-none
returns-in_default-clause-none c = grind (arith, string_none_short, target_length)

pub returns-then-is_empty-clause-none : goal.returns-then-is_empty-clause-none
returns-then-is_empty-clause-none c =
    inr (string_none IsTarget target_length c.args.bytes.now c.in-Some.target.now c.in-Some.rest.now c.in-Some.ensures.length_fits c.in-Some.ensures.found
    (elim c.then-is_empty.branch [
      | then-is_empty-via-then-is_empty w ↦ empty_target c.in-Some.target.now (sym w.if-is_empty.ensures)
      | then-is_empty-via-else-is_empty+then-not-good_path w ↦ bad_target c.in-Some.target.now (sym w.if-not-good_path.ensures)
    ]))
