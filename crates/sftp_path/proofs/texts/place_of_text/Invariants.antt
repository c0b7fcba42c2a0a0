use Rattle.sftp_path.proofs.Imports.{◌≡◌, ◌+◌, ◌<◌, ◌++◌, [], ◌∷◌, length, flat_map, begins_at_slash, parts_after}
use Rattle.std.proofs.Common.{IsTrue}
use Rattle.sftp_path.specs.Place.{are_names, parts}
use Rattle.sftp_path.proofs.texts.place_of_text.Given as goal

-- the names of the place so far are the parts so far
abbrev pub invariant-loop-rest : goal.invariant-loop-rest
invariant-loop-rest l = record {
  names : IsTrue (are_names l.place);
  read : l.fn.text ≡ flat_map (λ name. 47 ∷ name) l.place ++ l.rest;
  cut : parts l.fn.text ≡ [] ∷ (l.place ++ parts_after l.rest);
  behind : IsTrue (begins_at_slash l.rest);
  some : 0 < length l.place + length l.rest;
}

abbrev pub decreases-loop-rest : goal.decreases-loop-rest
decreases-loop-rest l = length l.rest
