-- The front, the limits and the root, one after the other.
use Rattle.sftp_treefile.proofs.Imports.{limits_text, front_text, root_text}
use Rattle.sftp_treefile.proofs.Texts.Files.{three_pieces}
use Rattle.sftp_treefile.proofs.writing.put_head.Goals as goal

pub returns : goal.returns
returns c =
    let head = c.args.head.now in
    let opening = head.opening in
    three_pieces (front_text opening head.home head.uid head.gid) (limits_text opening head.limits)
    (root_text opening (head.count, (head.root, head.root_times)))
    c.args.out.now.items c.put_front.new.out.items c.put_limits.new.out.items c.put_root.new.out.items
    (rw c.as_slice.ensures at c.in_ok-put_front.ensures) c.in_ok-put_limits.ensures c.in_ok-put_root.ensures
