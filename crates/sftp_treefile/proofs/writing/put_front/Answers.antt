-- The fields, one after the other.
use Rattle.sftp_treefile.proofs.Imports.{string, uint32, tree_opening}
use Rattle.sftp_treefile.proofs.Texts.Files.{four_pieces}
use Rattle.sftp_treefile.proofs.writing.put_front.Goals as goal

pub returns : goal.returns
returns c = four_pieces (tree_opening c.args.opening) (string c.args.home.now) (uint32 c.args.uid) (uint32 c.args.gid)
    c.args.out.now.items c.put_opening.new.out.items c.put_string.new.out.items c.put_number.new.out.items
    c.put_number-2.new.out.items c.in_ok-put_opening.ensures c.in_ok-put_string.ensures
    c.in_ok-put_number.ensures c.in_ok-put_number-2.ensures
