-- Four bytes are the number that stands in them.
use Rattle.std.proofs.Common.{◌≡◌, ℕ, List, take, drop, ◌∙◌, ap, arith}
use Rattle.std.specs.Int.{w32, from_be_bytes}
use Rattle.std.proofs.lemmas.List.{take-append-drop, length-take}
use Rattle.byteorder.specs.Endian.{big_number}
use Rattle.sftp_strings.proofs.Bytes.{IsBytes-take, uint32-front, big_number-four}
use Rattle.sftp_strings.proofs.slices.take_number.Goals as goal

pub returns-clause-found : goal.returns-clause-found
returns-clause-found c =
    let bytes = c.args.bytes.now in
    let split = c.in_ok-front.ensures.cases in
    let is : c.read_u32.result ≡ from_be_bytes w32 (take 4 bytes) = c.read_u32.ensures ∙ ap (λ (x : List ℕ). big_number 4 x) split.1 ∙ big_number-four (take 4 bytes) in
    rw split.2 (uint32-front bytes (take 4 bytes) (drop 4 bytes) c.read_u32.result (IsBytes-take 4 bytes (λ i. omega (arith, c.type_inv.bytes i))) (omega (arith, length-take 4 bytes)) (take-append-drop 4 bytes) is)
