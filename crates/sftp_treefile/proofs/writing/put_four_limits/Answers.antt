-- The limits, one after the other.
use Rattle.sftp_treefile.proofs.Imports.{uint32}
use Rattle.sftp_treefile.proofs.Texts.Files.{four_pieces}
use Rattle.sftp_treefile.proofs.writing.put_four_limits.Goals as goal

pub returns : goal.returns
returns c =
    let limits = c.args.limits in
    four_pieces (uint32 limits.entries) (uint32 limits.file_bytes) (uint32 limits.read_bytes) (uint32 limits.open_handles)
    c.args.out.now.items c.put_number.new.out.items c.put_number-2.new.out.items c.put_number-3.new.out.items
    c.put_number-4.new.out.items c.in_ok-put_number.ensures c.in_ok-put_number-2.ensures c.in_ok-put_number-3.ensures
    c.in_ok-put_number-4.ensures
