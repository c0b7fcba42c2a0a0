-- The fields, one after the other.
use Rattle.sftp_treefile.proofs.Imports.{owner_text, times_text, has_times}
use Rattle.sftp_treefile.proofs.Texts.Files.{two_pieces}
use Rattle.sftp_treefile.proofs.writing.put_owned.Goals as goal

pub returns : goal.returns
returns c = two_pieces (owner_text c.args.owner.now) (times_text (has_times c.args.times) c.args.times)
    c.args.out.now.items c.put_owner.new.out.items c.put_times.new.out.items c.in_ok-put_owner.ensures
    c.in_ok-put_times.ensures
