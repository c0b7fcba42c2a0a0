use Rattle.std.proofs.lemmas.Slice.Eq.{strip_prefix_is}
use Rattle.std.proofs.lemmas.Bool.Decides.{Decides-eqb}
use Rattle.sftp_text.proofs.ListLaws.{stripped}
use Rattle.sftp_text.proofs.words.after_word.Goals as goal

pub returns : goal.returns
returns c =
    stripped c.args.word.now c.args.line.now c.strip_prefix.result
    (strip_prefix_is Decides-eqb c.args.line.now c.args.word.now c.strip_prefix.result c.strip_prefix.ensures.cases)
