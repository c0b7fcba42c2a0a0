-- The fields, one after the other.
use Rattle.sftp_treefile.proofs.Imports.{[], ◌∷◌, owned_text, letter_for, has_times}
use Rattle.sftp_treefile.proofs.Texts.Files.{two_pieces}
use Rattle.sftp_treefile.proofs.writing.put_directory_owner.Goals as goal

pub returns : goal.returns
returns c = two_pieces (letter_for (has_times c.args.times) 68 ∷ []) (owned_text c.args.owner.now c.args.times)
    c.args.out.now.items c.push.new.self.items c.put_owned.new.out.items
    (rw c.letter_of.ensures at c.in_ok-push.ensures.items) c.in_ok-put_owned.ensures
