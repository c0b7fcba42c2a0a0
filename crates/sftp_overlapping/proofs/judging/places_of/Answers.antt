-- The sessions' names are those of their files.
use Rattle.std.proofs.Common.{List, ℕ, map, sym, subst, ◌∙◌}
use Rattle.std.proofs.lemmas.Result.{err_from_is_err_and}
use Rattle.sftp_gathering.specs.Files.{HasPlaces}
use Rattle.sftp_overlapping.proofs.Files.{name_in, names_are}
use Rattle.sftp_overlapping.proofs.Saying.{unread_unjudged, places-refused}
use Rattle.sftp_overlapping.proofs.judging.places_of.Goals as goal

pub returns-in_err-bytes-clause-refused : goal.returns-in_err-bytes-clause-refused
returns-in_err-bytes-clause-refused g c =
    let p = err_from_is_err_and c.from_residual.result c.from_residual.ensures.1 in
    rw (p.1, p.2) (λ judged known each has are places is. unread_unjudged _ c.in_err-bytes.ensures.err judged)

pub returns-in-Ok-clause-read : goal.returns-in-Ok-clause-read
returns-in-Ok-clause-read g c = λ known each has are.
    let bytes = c.as_slice.ensures.value ∙ c.in_ok-bytes.ensures.read known has in
    subst (λ (names : List (List ℕ)). HasPlaces known names c.in-Ok.places.items)
    (sym (names_are g.T.Opens.bytes c.args.members.now each are))
    (subst (λ (xs : List ℕ). HasPlaces xs (map name_in c.args.members.now) c.in-Ok.places.items) bytes
    c.in-Ok.ensures.read)

pub returns-in-Err-clause-refused : goal.returns-in-Err-clause-refused
returns-in-Err-clause-refused g c = λ judged known each has are places is.
    let bytes = c.as_slice.ensures.value ∙ c.in_ok-bytes.ensures.read known has in
    places-refused c.as_slice.result.now (map name_in c.args.members.now) c.in-Err.error
    c.in-Err.ensures.refused (c.rejection_of_places.ensures judged) places
    (subst (λ (xs : List ℕ). HasPlaces xs (map name_in c.args.members.now) places) (sym bytes)
    (subst (λ (names : List (List ℕ)). HasPlaces known names places)
    (names_are g.T.Opens.bytes c.args.members.now each are) is))
