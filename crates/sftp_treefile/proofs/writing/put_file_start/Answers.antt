-- The fields, one after the other.
use Rattle.sftp_treefile.proofs.Imports.{[], ◌∷◌, string, owned_text, length_text, is_long, letter_for, file_letter, has_times}
use Rattle.sftp_treefile.proofs.Texts.Files.{four_pieces}
use Rattle.sftp_treefile.proofs.writing.put_file_start.Goals as goal

pub returns : goal.returns
returns c =
    let times = c.args.times in
    let count = c.args.count in
    four_pieces (string c.args.path.now) (letter_for (has_times times) (file_letter (is_long count)) ∷ [])
    (owned_text c.args.owner.now times) (length_text (is_long count) count) c.args.out.now.items
    c.put_string.new.out.items c.push.new.self.items c.put_owned.new.out.items c.put_length.new.out.items
    c.in_ok-put_string.ensures (rw (c.letter_of.ensures, c.letter_of_file.ensures.letter) at c.in_ok-push.ensures.items)
    c.in_ok-put_owned.ensures c.in_ok-put_length.ensures
