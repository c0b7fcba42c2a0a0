use Rattle.sftp_text.specs.Fields.{layout_of_text}
use Rattle.sftp_text.proofs.names.layout_named.Goals as goal

pub returns : goal.returns
unfolding layout_of_text
returns c = rw c.name_of.ensures at (rw c.layouts_of.ensures at c.first_named.ensures)
