-- The source of the tree has the bytes of the file.
use Rattle.std.proofs.Common.{ap, ◌∙◌}
use Rattle.sftp_overlapping.proofs.members.Given.tree.Goals as goal

pub returns-in-Ok-clause-start : goal.returns-in-Ok-clause-start
returns-in-Ok-clause-start g c = λ known is.
    c.in-Ok.ensures.found known
    (ap g.T.File.Read.remaining c.new.ensures.inner ∙ c.in_ok-file.ensures.bytes known is)

pub returns-in-Err-clause-refused : goal.returns-in-Err-clause-refused
returns-in-Err-clause-refused g c = λ judged known is start.
    c.failure_of.ensures judged start.0
    (c.in-Err.ensures.only known
    (ap g.T.File.Read.remaining c.new.ensures.inner ∙ c.in_ok-file.ensures.bytes known is) start.0 start.1)
