-- Bytes that are appended piece by piece.
use Rattle.std.proofs.Common.{◌≡◌, ℕ, List, ◌++◌, ap, ◌∙◌, append_assoc}
use Rattle.sftp_packets.specs.Layouts.{Extends}

-- bytes appended to bytes that were appended
pub Extends-after : (old mid new word : List ℕ) → mid ≡ old ++ word → Extends mid new → Extends old new
Extends-after old mid new word is more = record {
  tail = word ++ more.tail;
  parts = more.parts ∙ ap (λ (x : List ℕ). x ++ more.tail) is ∙ append_assoc old word more.tail;
}
