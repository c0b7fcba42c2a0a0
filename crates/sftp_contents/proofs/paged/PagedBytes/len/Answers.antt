use Rattle.std.proofs.Common.{sym, ap, ◌∙◌, length}
use Rattle.sftp_contents.proofs.Whole.{view-length}
use Rattle.sftp_contents.proofs.paged.PagedBytes.len.Goals as goal

pub returns : goal.returns
returns c = sym (view-length c.self.inside.store c.self.inside.len) ∙ ap length c.self.view_is
