use Rattle.std.proofs.Common.{◌≡◌, codes, map, take}
use Rattle.sftp_server.proofs.version.extensions_of.Given as goal

-- the names before those that are left have their extensions
abbrev pub invariant-loop-name : goal.invariant-loop-name
invariant-loop-name l = l.extensions.items ≡ map (λ name. (name.now, codes "1")) (take l.name-index l.names)
