-- The fields, one after the other.
use Rattle.sftp_treefile.proofs.Imports.{string, directory_text}
use Rattle.sftp_treefile.proofs.Texts.Files.{two_pieces}
use Rattle.sftp_treefile.proofs.writing.put_timed_directory.Goals as goal

pub returns : goal.returns
returns c = two_pieces (string c.args.path.now) (directory_text (c.args.owner.now, c.args.times))
    c.args.out.now.items c.put_string.new.out.items c.put_directory_owner.new.out.items c.in_ok-put_string.ensures
    c.in_ok-put_directory_owner.ensures
