use Rattle.std.proofs.Common.{◌≡◌, ◌+◌, ℕ, length, ◌++◌, sym, ap, ◌∙◌, arith, length-append, append-nil}
use Rattle.sftp_contents.specs.Bytes.{tabulate}
use Rattle.sftp_contents.specs.Pieces.{byte_at}
use Rattle.sftp_contents.specs.Parts.{bytes_in, count_in}
use Rattle.sftp_contents.proofs.Tabulated.{tabulate-none, tabulate-length}
use Rattle.sftp_contents.proofs.Whole.{read-more}
use Rattle.sftp_contents.proofs.reading.read.Goals as goal

pub reading-init : goal.reading-init
reading-init c = record {
  bytes = sym (ap (λ t. c.args.into.now.items ++ t) (tabulate-none (byte_at c.args.store.now) c.args.offset)
      ∙ append-nil c.args.into.now.items);
  few = omega arith;
}

pub reading-preserved : goal.reading-preserved
reading-preserved c =
    let f : ℕ → ℕ = byte_at c.args.store.now in
    let n : c.count_of-done.result ≡ count_in c.part_at-part.result = c.count_of-done.ensures in
    record {
      bytes = rw n (read-more f c.args.into.now.items c.reading.into.items c.put_part.new.into.items
          (bytes_in c.part_at-part.result) c.args.offset c.reading.done (count_in c.part_at-part.result)
          c.reading.invariant.bytes c.in_ok-put_part.ensures c.part_at-part.ensures.bytes);
      few = omega arith;
    }
