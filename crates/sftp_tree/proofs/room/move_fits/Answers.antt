use Rattle.sftp_tree.proofs.Imports.{sym, ◌∙◌, arith, le-leb}
use Rattle.sftp_tree.proofs.Limits.{shallow-fits}
use Rattle.sftp_tree.proofs.room.move_fits.Goals as goal

pub returns-then-depth : goal.returns-then-depth
returns-then-depth c t found = le-leb c.depth-depth.result c.depth.result c.if-depth.true
    ∙ sym (shallow-fits t c.args.old.now.place c.args.new.now found.place.kept
    (omega (arith, c.if-depth.true, c.depth.ensures, c.depth-depth.ensures))
    (omega (arith, c.if-depth-gt-DEPTH_LIMIT.false, c.depth-depth.ensures)))
