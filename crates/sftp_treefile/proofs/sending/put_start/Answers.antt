-- The front, the limits and the root, one after the other.
use Rattle.sftp_treefile.proofs.Imports.{length, sym, ◌∙◌, limits_text, front_text, root_text, opening_of, times_of_root}
use Rattle.sftp_treefile.proofs.Imports.{any_times}
use Rattle.sftp_treefile.proofs.Texts.{path_length}
use Rattle.sftp_treefile.proofs.Texts.Files.{three_pieces, raised_short}
use Rattle.sftp_treefile.proofs.Texts.Front.{root_at}
use Rattle.sftp_treefile.proofs.sending.put_start.Goals as goal

pub put_front-requires : goal.put_front-requires
put_front-requires c = rw c.as_slice.ensures (path_length c.args.file.now.home c.requires.home)

pub put_limits-requires : goal.put_limits-requires
put_limits-requires c = λ is. raised_short (any_times c.args.file.now.times) c.args.file.now.limits c.requires.limits
    (sym c.opening-opening.ensures ∙ is)

pub returns : goal.returns
returns c =
    let file = c.args.file.now in
    let opening = opening_of file in
    three_pieces (front_text opening file.home file.uid file.gid) (limits_text opening file.limits)
    (root_text opening (length file.rows, (file.root, times_of_root file.times))) c.args.out.now.items
    c.put_front.new.out.items c.put_limits.new.out.items c.put_root.new.out.items
    (rw (c.opening-opening.ensures, c.as_slice.ensures) at c.in_ok-put_front.ensures)
    (rw c.opening-opening.ensures at c.in_ok-put_limits.ensures)
    (rw (c.opening-opening.ensures, c.as_slice-2.ensures, c.get.ensures, root_at file.times) at c.in_ok-put_root.ensures)
