-- A request and a reply are packets of events.
use Rattle.sftp_transcript.proofs.Imports.{Asked, Replied}
use Rattle.sftp_transcript.proofs.records.is_event.Goals as goal

pub returns-in-Request-clause-yes : goal.returns-in-Request-clause-yes
returns-in-Request-clause-yes c = λ _. (Asked c.in-Request.field-0, c.in-Request.is)

pub returns-in-Reply-clause-yes : goal.returns-in-Reply-clause-yes
returns-in-Reply-clause-yes c = λ _. (Replied c.in-Reply.field-0, c.in-Reply.is)
