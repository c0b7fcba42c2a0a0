use Rattle.sftp_path.proofs.Imports.{◌≡◌, ◌∷◌, take, flat_map}
use Rattle.sftp_path.proofs.texts.absolute.Given as goal

-- the names so far, each after a `/`
abbrev pub invariant-loop-name : goal.invariant-loop-name
invariant-loop-name l = l.text.items ≡ flat_map (λ name. 47 ∷ name) (take l.name-index l.names)
