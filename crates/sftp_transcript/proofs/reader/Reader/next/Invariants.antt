-- No event was read, and no call failed.
use Rattle.sftp_transcript.proofs.Imports.{◌≡◌, ◌≤◌, Some, None, TranscriptError, size_of, rank}
use Rattle.sftp_transcript.proofs.Reaching.{Comes}
use Rattle.sftp_transcript.proofs.reader.Reader.next.Given as goal

abbrev pub invariant-greetings : goal.invariant-greetings
invariant-greetings g l = record {
  comes : Comes l.initial.self None l.self;
  number : l.self.number ≡ l.initial.self.number;
  fault : l.self.fault ≡ l.initial.self.fault;
  again : (error : TranscriptError) → l.initial.self.fault ≡ Some error → l.self ≡ l.initial.self;
  failures : l.initial.self.fault ≡ None → l.self.ahead.failures ≡ l.initial.self.ahead.failures;
  never_rises : size_of l.self.ahead ≤ size_of l.initial.self.ahead;
  onward : rank l.initial.self.stage ≤ rank l.self.stage;
}

abbrev pub decreases-greetings : goal.decreases-greetings
decreases-greetings g l = size_of l.self.ahead
