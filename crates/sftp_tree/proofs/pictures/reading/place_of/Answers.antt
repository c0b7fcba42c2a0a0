-- The components of a place's text are the place.
use Rattle.sftp_tree.proofs.Imports.{MatchOption-at_some, place_is}
use Rattle.sftp_tree.proofs.pictures.reading.place_of.Goals as goal

pub returns : goal.returns
returns c = place_is c.args.text.now c.in-Some.place (MatchOption-at_some _ _ c.in-Some.place c.in-Some.is c.in_ok-place.ensures.found)
