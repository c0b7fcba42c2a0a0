-- A session that is read is gathered, and one that is refused is no member of such a set.
use Rattle.std.proofs.Common.{refl, sym, subst}
use Rattle.std.proofs.lemmas.Result.{err_from_is_err_and}
use Rattle.sftp_gathering.specs.Files.{SessionFiles}
use Rattle.sftp_gathering.specs.Gathered.{Gathered, IsGathered}
use Rattle.sftp_gathering.proofs.Members.{none-times, none-session, gathered-more, session-of}
use Rattle.sftp_gathering.proofs.gathering.Gathering.add.Goals as goal

pub returns-in_err-clock-clause-refused : goal.returns-in_err-clock-clause-refused
returns-in_err-clock-clause-refused g c =
    let p = err_from_is_err_and c.from_residual.result c.from_residual.ensures.1 in
    let e = c.in_err-clock in
    rw (p.1, p.2) (λ judged transcript new each is name.
    none-times _ each (record { name = name; transcript = transcript; times = c.args.times.now }) e.field-0.0
    (subst (λ (x : Gathered). IsGathered each x) (sym c.self.view_is) is) e.ensures.refused judged)

pub returns-in-Ok-clause-added : goal.returns-in-Ok-clause-added
returns-in-Ok-clause-added g c transcript new each is name =
    let files : SessionFiles = record { name = name; transcript = transcript; times = c.args.times.now } in
    let read = c.in_ok-clock.field-0 in
    let r = c.in_ok-clock.ensures.read in
    let a = c.in-Ok.ensures.added transcript new in
    gathered-more read.clock _ _ each files a.0 (subst (λ (x : Gathered). IsGathered each x) (sym c.self.view_is) is)
    r.is_on (session-of _ files read a.0 r a.1) refl a.2

pub returns-in-Err-clause-refused : goal.returns-in-Err-clause-refused
returns-in-Err-clause-refused g c unread transcript new each is name =
    none-session _ each (record { name = name; transcript = transcript; times = c.args.times.now })
    c.in_ok-clock.field-0 c.in_ok-clock.ensures.read (c.in-Err.ensures.refused unread transcript new)
