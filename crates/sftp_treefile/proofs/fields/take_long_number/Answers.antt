-- Eight bytes are the number that stands in them.
use Rattle.std.proofs.Common.{◌≡◌, ℕ, List, ◌++◌, take, drop, sym, ◌∙◌, ap, arith}
use Rattle.std.specs.Int.{w64, from_be_bytes}
use Rattle.std.proofs.lemmas.List.{take-append-drop, length-take}
use Rattle.byteorder.specs.Endian.{big_number}
use Rattle.sftp_strings.specs.Strings.{uint64}
use Rattle.sftp_strings.proofs.Bytes.{IsBytes-take, wide64}
use Rattle.sftp_treefile.proofs.fields.take_long_number.Goals as goal

big_number-eight : (bytes : List ℕ) → big_number 8 bytes ≡ from_be_bytes w64 bytes
big_number-eight bytes = omega arith

pub returns-clause-found : goal.returns-clause-found
returns-clause-found c =
    let bytes = c.args.bytes.now in
    let split = c.in_ok-front.ensures.cases in
    let is : c.read_u64.result ≡ from_be_bytes w64 (take 8 bytes) =
    c.read_u64.ensures ∙ ap (λ (x : List ℕ). big_number 8 x) split.1 ∙ big_number-eight (take 8 bytes) in
    let back : uint64 c.read_u64.result ≡ take 8 bytes = rw is
    (wide64.back (take 8 bytes) (omega (arith, length-take 8 bytes)) (IsBytes-take 8 bytes (λ i. omega (arith, c.type_inv.bytes i)))) in
    rw split.2 (sym (take-append-drop 8 bytes) ∙ ap (λ (x : List ℕ). x ++ drop 8 bytes) (sym back))
