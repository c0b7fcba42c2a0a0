use Rattle.std.proofs.Common.{◌≡◌, ◌+◌, ◌-◌, ℕ, take, drop, sym, ap, ◌∙◌, arith}
use Rattle.sftp_contents.specs.Pieces.{byte_at}
use Rattle.sftp_contents.specs.Parts.{bytes_in, count_in}
use Rattle.sftp_contents.proofs.Tabulated.{tabulate-none}
use Rattle.sftp_contents.proofs.Whole.{same-more, apart-here}
use Rattle.sftp_contents.proofs.reading.is_same.Goals as goal

pub comparing-init : goal.comparing-init
comparing-init c = record { so = tabulate-none (byte_at c.args.store.now) c.args.offset; few = omega arith }

pub returns-then-not-is_part-clause-apart : goal.returns-then-not-is_part-clause-apart
returns-then-not-is_part-clause-apart c = λ e.
    let n : ℕ = count_in c.part_at-part.result in
    let done : ℕ = c.comparing.done in
    let h : c.count_of-here.result ≡ n = c.count_of-here.ensures in
    let cut : n ≡ done + c.count_of-here.result - done = omega arith in
    sym c.if-not-is_part.true ∙ c.is_part.ensures.apart
    (apart-here (byte_at c.args.store.now) c.args.given.now (bytes_in c.part_at-part.result) c.args.offset done n
    (omega arith) c.part_at-part.ensures.bytes e ∙ ap (λ t. take t (drop done c.args.given.now)) cut)

pub comparing-preserved : goal.comparing-preserved
comparing-preserved c =
    let n : ℕ = count_in c.part_at-part.result in
    let done : ℕ = c.comparing.done in
    let h : c.count_of-here.result ≡ n = c.count_of-here.ensures in
    let cut : done + c.count_of-here.result - done ≡ n = omega arith in
    record {
      so = rw h (same-more (byte_at c.args.store.now) c.args.given.now (bytes_in c.part_at-part.result) c.args.offset done n
          (omega arith) c.comparing.invariant.so c.part_at-part.ensures.bytes
          (c.is_part.ensures.same c.if-not-is_part.false ∙ ap (λ t. take t (drop done c.args.given.now)) cut));
      few = omega arith;
    }
