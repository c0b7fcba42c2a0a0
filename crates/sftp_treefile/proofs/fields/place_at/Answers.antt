-- A string that is no text of a place within the limit leaves nothing to read.
use Rattle.sftp_treefile.proofs.Imports.{inr, arith, IsPlaceText, common_steps}
use Rattle.std.proofs.lemmas.Option.{MatchOption-at_none, MatchOption-at_some}
use Rattle.sftp_treefile.proofs.Texts.{path_length, string_none_short, string_none, place_is, place_text}
use Rattle.sftp_treefile.proofs.Texts.{too_deep}
use Rattle.sftp_treefile.proofs.fields.place_at.Goals as goal

pub returns-in_default-clause-none : goal.returns-in_default-clause-none
returns-in_default-clause-none c = grind (arith, string_none_short, path_length)

pub returns-in_default-2-clause-none : goal.returns-in_default-2-clause-none
returns-in_default-2-clause-none c =
    let none = MatchOption-at_none _ _ c.in_default-2.is c.in_ok-place.ensures.none in
    inr (string_none IsPlaceText path_length c.args.bytes.now c.in-Some.text.now c.in-Some.rest.now c.in-Some.ensures.length_fits c.in-Some.ensures.found (λ fits. none _ (fits.names, fits.one)))

pub returns-then-depth-gt-DEPTH_LIMIT-clause-none : goal.returns-then-depth-gt-DEPTH_LIMIT-clause-none
returns-then-depth-gt-DEPTH_LIMIT-clause-none c =
    let found = MatchOption-at_some _ _ c.in-Some-2.place c.in-Some-2.is c.in_ok-place.ensures.found in
    inr (string_none IsPlaceText path_length c.args.bytes.now c.in-Some.text.now c.in-Some.rest.now c.in-Some.ensures.length_fits c.in-Some.ensures.found
    (too_deep c.in-Some.text.now c.in-Some-2.place found (omega (arith, c.if-depth-gt-DEPTH_LIMIT.true, c.depth.ensures))))

pub returns-clause-found : goal.returns-clause-found
returns-clause-found c =
    let found = MatchOption-at_some _ _ c.in-Some-2.place c.in-Some-2.is c.in_ok-place.ensures.found in
    (place_text c.in-Some.text.now c.in-Some-2.place found (omega (arith, c.if-depth-gt-DEPTH_LIMIT.false, c.depth.ensures)), c.in-Some.ensures.found)

pub returns-clause-place : goal.returns-clause-place
returns-clause-place c = grind (arith, common_steps, place_is)
