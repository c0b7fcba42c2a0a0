-- What is given is the front of the part at hand.
use Rattle.std.proofs.Common.{sym, ◌∙◌}
use Rattle.std.proofs.lemmas.List.{take_rest}
use Rattle.sftp_infer.proofs.Reading.{read_on, at_end}
use Rattle.sftp_infer.proofs.texts.TextStreamSource.read.Goals as goal

pub returns-clause-bytes : goal.returns-clause-bytes
returns-clause-bytes c = rw (take_rest c.find.new.self.rest.now c.give-count.result)
    (let parts = read_on _ _ _ _ _ c.find.ensures.kept c.give-count.ensures.copied in (
      parts,
      λ zero some. at_end _ _ _ parts
          (sym c.find.ensures.kept ∙ c.find.ensures.found (c.give-count.ensures.end zero some)),
    ))
