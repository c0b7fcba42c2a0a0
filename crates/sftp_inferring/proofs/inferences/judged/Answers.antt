-- What the error of an audit says is no tree, whatever the session.
use Rattle.sftp_inferring.proofs.inferences.judged.Goals as goal

pub returns-in-Err-clause-strictly : goal.returns-in-Err-clause-strictly
returns-in-Err-clause-strictly c = λ none. c.found_by.ensures.strictly c.args.how.wants_end c.args.session.now

pub returns-in-Err-clause-under : goal.returns-in-Err-clause-under
returns-in-Err-clause-under c = λ by is. c.found_by.ensures.under c.args.how.wants_end c.args.session.now by
