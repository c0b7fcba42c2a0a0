-- The limits, one after the other.
use Rattle.sftp_treefile.proofs.Imports.{uint32, uint64}
use Rattle.sftp_treefile.proofs.Texts.Files.{five_pieces}
use Rattle.sftp_treefile.proofs.writing.put_five_limits.Goals as goal

pub returns : goal.returns
returns c =
    let limits = c.args.limits in
    five_pieces (uint32 limits.entries) (uint64 limits.file_bytes) (uint32 limits.read_bytes)
    (uint32 limits.open_handles) (uint64 limits.total_bytes)
    c.args.out.now.items c.put_number.new.out.items c.put_long_number.new.out.items c.put_number-2.new.out.items
    c.put_number-3.new.out.items c.put_long_number-2.new.out.items c.in_ok-put_number.ensures
    c.in_ok-put_long_number.ensures c.in_ok-put_number-2.ensures c.in_ok-put_number-3.ensures
    c.in_ok-put_long_number-2.ensures
