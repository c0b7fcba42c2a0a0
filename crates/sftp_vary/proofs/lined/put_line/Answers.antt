-- A name with a line in place of its long name is as long as one may be.
use Rattle.std.proofs.Common.{refl, sym, subst}
use Rattle.sftp_vary.specs.Lines.{IsLine}
use Rattle.sftp_vary.proofs.LineLaws.{lined}
use Rattle.sftp_vary.proofs.lined.put_line.Goals as goal

pub returns-clause-lined : goal.returns-clause-lined
returns-clause-lined c = λ fits.
    lined c.args.item.now _ refl refl c.replace-2.ensures.after refl
    (subst IsLine (sym c.replace.ensures.after) c.line_for-line.ensures) fits
