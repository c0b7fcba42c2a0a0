-- The fields, one after the other.
use Rattle.sftp_treefile.proofs.Imports.{uint32, root_owner_text}
use Rattle.sftp_treefile.proofs.Texts.Files.{two_pieces}
use Rattle.sftp_treefile.proofs.writing.put_root.Goals as goal

pub returns : goal.returns
returns c = two_pieces (uint32 c.args.count) (root_owner_text c.args.opening (c.args.root.now, c.args.times))
    c.args.out.now.items c.put_number.new.out.items c.put_root_owner.new.out.items c.in_ok-put_number.ensures
    c.in_ok-put_root_owner.ensures
