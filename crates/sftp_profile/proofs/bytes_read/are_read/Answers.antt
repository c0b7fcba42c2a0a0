use Rattle.std.proofs.Common.{IsTrue, length, ap, subst, sym, ◌∙◌}
use Rattle.sftp_treefile.specs.declared.limits.TreeLimits.{TreeLimits}
use Rattle.sftp_tree.specs.Tree.{limits}
use Rattle.sftp_profile.specs.BytesRead.{is_count}
use Rattle.sftp_profile.proofs.Pieces.{readable-file}
use Rattle.sftp_profile.proofs.bytes_read.are_read.Goals as goal

pub stand_in-requires-clause-there : goal.stand_in-requires-clause-there
stand_in-requires-clause-there c =
    readable-file c.args.session.now c.args.handle.now c.args.offset c.args.len c.in-Some.size (length c.args.given.now)
    c.requires (sym c.size_of.ensures ∙ c.in-Some.is)
    (subst
    (λ (b : TreeLimits). IsTrue (is_count b c.in-Some.size c.args.offset c.args.len (length c.args.given.now)))
    (c.tree_limits-bounds.ensures.limits ∙ ap limits c.tree.ensures)
    (sym c.is_within.ensures.count ∙ c.if-not-is_within.false))

pub stand_in-requires-clause-fits : goal.stand_in-requires-clause-fits
stand_in-requires-clause-fits c = c.is_within.ensures.fits c.if-not-is_within.false
