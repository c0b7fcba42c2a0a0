use Rattle.sftp_transcript.proofs.pairing.{matching_by, in_turn_by, none_waits_by}
use Rattle.sftp_transcript.proofs.laws.sound_and_settled_is_explained.Goals as goal

pub returns : goal.returns
returns c = λ events.
    (λ matching. (in_turn_by events matching, none_waits_by events matching), λ parts. matching_by events parts.0 parts.1)
