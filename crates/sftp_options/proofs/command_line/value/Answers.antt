-- What the parser found for an option is its row.
use Rattle.std.proofs.Common.{sym, ◌∙◌}
use Rattle.clap.specs.Matches.{found_of}
use Rattle.sftp_options.proofs.OptionLaws.{value_given}
use Rattle.sftp_options.proofs.command_line.value.Goals as goal

pub returns : goal.returns
returns c = c.get_str.ensures ∙ sym (value_given (found_of c.args.given.now) c.args.name.now)
