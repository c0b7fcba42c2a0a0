use Rattle.sftp_contents.proofs.Pages.{cut-pages}
use Rattle.sftp_contents.proofs.cutting.cut_pages.Goals as goal

pub returns : goal.returns
returns c =
    cut-pages c.args.pages.now c.drop_pages.new.pages c.cut_page.new.pages c.args.last c.args.count
    c.drop_pages.ensures.low c.drop_pages.ensures.high c.cut_page.ensures
