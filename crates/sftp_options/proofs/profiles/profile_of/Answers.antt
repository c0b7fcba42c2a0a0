-- What the parser found for the options are their rows.
use Rattle.std.proofs.Common.{sym, ap, ◌∙◌}
use Rattle.clap.specs.Matches.{found_of}
use Rattle.sftp_options.specs.Options.{profile_asked}
use Rattle.sftp_options.proofs.OptionLaws.{options_given}
use Rattle.sftp_options.proofs.profiles.profile_of.Goals as goal

pub returns : goal.returns
returns c = c.profile_found.ensures ∙ ap profile_asked (sym (options_given (found_of c.args.given.now)))
