-- What is read is the one file of the bytes, so what is made of it is that file with other limits.
use Rattle.std.proofs.Common.{ap, ◌∙◌}
use Rattle.sftp_commands.specs.RaisedFiles.{raised_to}
use Rattle.sftp_commands.proofs.raising.raised_rows.Goals as goal

pub returns-clause-raised : goal.returns-clause-raised
returns-clause-raised g c = λ bytes known f spelled.
    c.raised_file.ensures.raised ∙ ap (raised_to c.args.to) (c.in_ok-file.ensures.only bytes known f spelled)
