-- The same bytes are ahead, and no read failed.
use Rattle.sftp_transcript.proofs.Imports.{◌≡◌, IsSameAhead}
use Rattle.sftp_transcript.proofs.input.Input.fill_record.Given as goal

abbrev pub invariant-fill : goal.invariant-fill
invariant-fill g l = IsSameAhead l.initial.self l.self × (l.self.failures ≡ l.initial.self.failures)

abbrev pub decreases-fill : goal.decreases-fill
decreases-fill g l = l.self.reads_left
