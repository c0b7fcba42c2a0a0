use Rattle.sftp_answers.proofs.Histories.{deeds-again, turns, within}
use Rattle.sftp_answers.proofs.laws.answers_at_once_are_in_turn.Goals as goal

pub returns-clause-deeds : goal.returns-clause-deeds
returns-clause-deeds c = deeds-again

pub returns-clause-turns : goal.returns-clause-turns
returns-clause-turns c = turns

pub returns-clause-window : goal.returns-clause-window
returns-clause-window c = within
