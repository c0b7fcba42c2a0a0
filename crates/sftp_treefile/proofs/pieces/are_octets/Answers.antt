-- Each place holds a byte.
use Rattle.sftp_path.proofs.PathTexts.{list_all-octets}
use Rattle.sftp_treefile.proofs.pieces.are_octets.Goals as goal

pub returns : goal.returns
returns c = list_all-octets c.args.bytes.now c.type_inv.bytes
