-- Items as the code has them: the entries of listings.
use Rattle.sftp_packets.specs.declared.attributes.Attrs.{Attrs}
use Rattle.sftp_path.specs.Place.{Name}
use Rattle.sftp_tree.specs.declared.listings.Item.{Item}

abbrev pub entry_of : Item → Name × Attrs
entry_of item = (item.name, item.attrs)
