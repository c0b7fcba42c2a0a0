use Rattle.std.proofs.Common.{◌≡◌, ◌++◌, take}
use Rattle.std.specs.List.{flat_map}
use Rattle.sftp_text.specs.Digits.{byte_text}
use Rattle.sftp_text.proofs.quoted.put_characters.Given as goal

abbrev pub invariant-bytes : goal.invariant-bytes
invariant-bytes l = l.text.items ≡ l.initial.text.items ++ flat_map byte_text (take l.byte-index l.bytes)
