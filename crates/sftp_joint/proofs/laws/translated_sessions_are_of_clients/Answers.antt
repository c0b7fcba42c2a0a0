use Rattle.sftp_joint.specs.Translated.{nothing_stands}
use Rattle.sftp_joint.proofs.Translated.{exchanges-inner}
use Rattle.sftp_joint.proofs.TranslatedTurns.{matching-inner}
use Rattle.sftp_joint.proofs.laws.translated_sessions_are_of_clients.Goals as goal

pub returns-clause-exchanges : goal.returns-clause-exchanges
returns-clause-exchanges c insides end are =
    exchanges-inner nothing_stands end insides (λ a b x is_a is_b. absurd cc) are

pub returns-clause-turns : goal.returns-clause-turns
returns-clause-turns c insides are client = matching-inner insides are client
