-- A flush that fails appends nothing.
use Rattle.sftp_server.proofs.Imports.{◌≡◌, ℕ, List, [], ◌∷◌, ◌++◌, Option, Some, None, sym, inl, inr, ◌∙◌, append-nil}
use Rattle.sftp_server.proofs.Imports.{Appends, Keeps, none-some, TranscriptError, Io, AppendsPart, Log, IsLogging}
use Rattle.sftp_transcript.specs.Log.{FailsToFlush}
use Rattle.sftp_server.proofs.sending.flush_log.Goals as goal

appends-none : (old new : Option (List ℕ)) (first rest : List ℕ) → [] ≡ first ++ rest → Appends old new first
    → Keeps old new
appends-none None new [] rest e appended = tt
appends-none (Some xs) None [] rest e appended = absurd appended
appends-none (Some xs) (Some ys) [] rest e appended = appended ∙ append-nil xs
appends-none old new (x ∷ first) rest e appended = absurd cc

part-kept : (old new : Option (List ℕ)) → AppendsPart old new [] → Keeps old new
part-kept old new part = appends-none old new part.part part.rest part.parts part.appended

flush-kept : (old new : Log) (error : TranscriptError) → IsLogging old → FailsToFlush old error new
    → Keeps old.bytes new.bytes
flush-kept old new (Io place) logging (inl broken) = absurd (none-some place (sym logging.sound ∙ broken.broken))
flush-kept old new (Io place) logging (inr breaks) = part-kept old.bytes new.bytes breaks.1.bytes
flush-kept old new other logging fails = absurd fails

pub returns-in-Err-clause-bytes : goal.returns-in-Err-clause-bytes
returns-in-Err-clause-bytes g c =
    flush-kept c.args.log.now c.flush.new.self c.in-Err.field-0 c.requires c.in-Err.ensures.err
