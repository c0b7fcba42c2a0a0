-- The bytes that are read of the session's files are those that are known.
use Rattle.std.proofs.Common.{◌∙◌}
use Rattle.std.proofs.lemmas.Result.{err_from_is_err_and}
use Rattle.sftp_overlapping.proofs.Files.{member-added, member-refused}
use Rattle.sftp_overlapping.proofs.Saying.{unread_unjudged}
use Rattle.sftp_overlapping.proofs.gathering.add_member.Goals as goal

pub returns-in_err-times-clause-refused : goal.returns-in_err-times-clause-refused
returns-in_err-times-clause-refused g c =
    let p = err_from_is_err_and c.from_residual.result c.from_residual.ensures.1 in
    rw (p.1, p.2) (λ judged files is each old. absurd (unread_unjudged _ c.in_err-times.ensures.err judged))

pub returns-in_err-transcript-clause-refused : goal.returns-in_err-transcript-clause-refused
returns-in_err-transcript-clause-refused g c =
    let p = err_from_is_err_and c.from_residual-in_err-transcript.result
    c.from_residual-in_err-transcript.ensures.1 in
    rw (p.1, p.2) (λ judged files is each old. absurd (unread_unjudged _ c.in_err-transcript.ensures.err judged))

pub returns-in-Ok-clause-added : goal.returns-in-Ok-clause-added
returns-in-Ok-clause-added g c = λ files is each old.
    let times = c.as_slice.ensures.value ∙ c.in_ok-times.ensures.read files.times is.times_are in
    member-added g.T.Opens.bytes files _ each _ times
    (c.in-Ok.ensures.added files.transcript (c.in_ok-transcript.ensures.bytes files.transcript is.transcript_is) each
    old files.name)

pub returns-in-Err-clause-refused : goal.returns-in-Err-clause-refused
returns-in-Err-clause-refused g c = λ judged files is each old.
    let times = c.as_slice.ensures.value ∙ c.in_ok-times.ensures.read files.times is.times_are in
    member-refused g.T.Opens.bytes files _ each times
    (c.in-Err.ensures.refused (c.rejection_of.ensures.judged judged) files.transcript
    (c.in_ok-transcript.ensures.bytes files.transcript is.transcript_is) each old files.name)
