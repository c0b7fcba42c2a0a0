-- The last name so far, those before it and those to come.
use Rattle.sftp_tree.proofs.Imports.{◌≡◌, ◌+◌, ◌++◌, ◌∷◌, length, take, place_of}
use Rattle.sftp_tree.proofs.pictures.rows.last_name.Given as goal

abbrev pub invariant-names : goal.invariant-names
invariant-names l = record {
  whole : take l.above (place_of l.text) ++ l.last ∷ l.parts.left ≡ place_of l.text;
  count : l.above + 1 + length l.parts.left ≡ length (place_of l.text);
}

abbrev pub decreases-names : goal.decreases-names
decreases-names l = length l.parts.left
