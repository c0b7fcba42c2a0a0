-- Where no part has bytes, none is left.
use Rattle.sftp_infer.proofs.Reading.{nothing_left}
use Rattle.sftp_infer.proofs.texts.TextStream.find.Goals as goal

pub returns-then-is_empty-clause-found : goal.returns-then-is_empty-clause-found
returns-then-is_empty-clause-found c = λ none.
    nothing_left _ _ _ _ none (c.next_part.ensures.found none)
