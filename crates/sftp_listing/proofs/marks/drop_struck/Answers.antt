use Rattle.sftp_listing.proofs.Imports.{sym, ◌∙◌}
use Rattle.sftp_listing.proofs.MarkedItems.{struck-dropped}
use Rattle.sftp_listing.proofs.marks.drop_struck.Goals as goal

pub struck-preserved : goal.struck-preserved
struck-preserved c =
    let at = c.struck in
    let gone =
    struck-dropped at.items.items at.marks.items at.invariant.0 (sym c.is_struck_first.ensures ∙ c.struck-test.true) in
    rw (c.pop_front.ensures.rest, c.pop_front-in-struck.ensures.rest) (gone.0, gone.1 ∙ at.invariant.1)
