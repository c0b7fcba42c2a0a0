-- Each place holds a byte.
use Rattle.sftp_path.proofs.PathTexts.{list_all-octets}
use Rattle.sftp_treefile.proofs.fields.copy_of.Goals as goal

pub returns-clause-bytes : goal.returns-clause-bytes
returns-clause-bytes c = list_all-octets c.args.bytes.now c.type_inv.bytes
