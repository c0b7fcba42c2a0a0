-- There is room for a name more.
use Rattle.sftp_tree.proofs.TreeFiles.Stores.{room_at}
use Rattle.sftp_tree.proofs.pictures.reading.node_of.Goals as goal

pub count_name-requires : goal.count_name-requires
count_name-requires c = room_at c.args.files.now _ c.requires.room
