-- Each entry can be written, and all are; where one fails, a beginning of the file is written.
use Rattle.sftp_treefile.proofs.Imports.{◌≡◌, ◌<◌, suc, List, [], ◌++◌, ◌∙◌, ap, refl, sym, subst, arith, length, take, take_all}
use Rattle.sftp_treefile.proofs.Imports.{get_or, flat_map, Row, Times, entry_text, head_text, spelled, AreRows, times_at}
use Rattle.std.specs.Io.KnownBytes.{Appends}
use Rattle.std.proofs.KnownBytes.{Appends-nil}
use Rattle.sftp_streams.specs.Streams.{AppendsPart}
use Rattle.sftp_streams.proofs.Buffers.{on_err, Appends-then, AppendsPart-first}
use Rattle.sftp_treefile.proofs.Texts.Files.{entries_of, entries_length, spelled_parts, row_at_place}
use Rattle.sftp_treefile.proofs.Texts.Front.{Appends-entry, AppendsPart-entry, entry_of}
use Rattle.sftp_treefile.proofs.sending.write_rows_to.Goals as goal

pub returns-in_err-send_start-clause-err : goal.returns-in_err-send_start-clause-err
returns-in_err-send_start-clause-err g c =
    let file = c.args.file.now in
    let old = g.L.Sink.written c.args.sink.now in
    let new = g.L.Sink.written c.send_start.new.sink in
    on_err c.from_residual.result
    (subst (AppendsPart old new) (sym (spelled_parts file))
    (AppendsPart-first old new (head_text file) (flat_map entry_text (entries_of file)) c.in_err-send_start.ensures.err))

pub loop-row-init : goal.loop-row-init
loop-row-init g c = record {
  done = Appends-nil (g.L.Sink.written c.send_start.new.sink);
  none_failed = refl;
  number = refl;
}

pub send_row-requires : goal.send_row-requires
send_row-requires g c = row_at_place c.args.file.now.limits (omega (arith, c.requires.limits.file_bytes.1)) []
    c.as_slice-row-items.result.now c.loop-row.row-index c.row-item.result
    (subst (AreRows c.args.file.now.limits []) (sym c.as_slice-row-items.ensures) c.requires.rows)
    c.loop-row-test.true c.row-item.is

pub returns-in_err-send_row-clause-err : goal.returns-in_err-send_row-clause-err
returns-in_err-send_row-clause-err g c =
    let at = c.loop-row in
    let row = c.row-item.result in
    let rows = c.as_slice-row-items.ensures in
    let file = c.args.file.now in
    let here = entry_of file at.row-index row (subst (λ (rs : List Row). at.row-index < length rs) rows c.loop-row-test.true)
    (subst (λ (rs : List Row). row ≡ get_or rs at.row-index row) rows c.row-item.is) in
    let old = g.L.Sink.written c.args.sink.now in
    let started = g.L.Sink.written c.send_start.new.sink in
    let now = g.L.Sink.written at.sink in
    let new = g.L.Sink.written c.send_row.new.sink in
    let time : c.get.result ≡ times_at file.times (suc at.row-index) =
    c.get.ensures ∙ ap (times_at file.times) at.invariant.number in
    let done = Appends-then old started now (head_text file) (flat_map entry_text (take at.row-index (entries_of file)))
    c.in_ok-send_start.ensures.ok at.invariant.done in
    on_err c.from_residual-in_err-send_row.result
    (AppendsPart-entry old now new (head_text file) (spelled file) (entries_of file)
    at.row-index (row, times_at file.times (suc at.row-index)) here.0 here.1 done
    (subst (λ (t : Times). AppendsPart now new (entry_text (row, t))) time c.in_err-send_row.ensures.err) (spelled_parts file))

pub loop-row-preserved : goal.loop-row-preserved
loop-row-preserved g c =
    let at = c.loop-row in
    let row = c.row-item.result in
    let rows = c.as_slice-row-items.ensures in
    let file = c.args.file.now in
    let here = entry_of file at.row-index row (subst (λ (rs : List Row). at.row-index < length rs) rows c.loop-row-test.true)
    (subst (λ (rs : List Row). row ≡ get_or rs at.row-index row) rows c.row-item.is) in
    let now = g.L.Sink.written at.sink in
    let new = g.L.Sink.written c.send_row.new.sink in
    let time : c.get.result ≡ times_at file.times (suc at.row-index) =
    c.get.ensures ∙ ap (times_at file.times) at.invariant.number in
    record {
      done = Appends-entry (g.L.Sink.written c.send_start.new.sink) now new (entries_of file) at.row-index _
          (row, times_at file.times (suc at.row-index)) here.0 here.1 (omega arith) at.invariant.done
          (subst (λ (t : Times). Appends now new (entry_text (row, t))) time c.in_ok-send_row.ensures.ok);
      none_failed = c.in_ok-send_row.ensures.counts ∙ at.invariant.none_failed;
      number = omega (arith, at.invariant.number);
    }

pub returns-clause-ok : goal.returns-clause-ok
returns-clause-ok g c =
    let at = c.loop-row in
    let rows = c.as_slice-row-items.ensures in
    let file = c.args.file.now in
    let old = g.L.Sink.written c.args.sink.now in
    let started = g.L.Sink.written c.send_start.new.sink in
    let here = g.L.Sink.written at.sink in
    let all : take at.row-index (entries_of file) ≡ entries_of file =
    take_all at.row-index (entries_of file) (omega (arith, c.loop-row-test.false, ap length rows, entries_length file)) in
    subst (Appends old here)
    (ap (λ es. head_text file ++ flat_map entry_text es) all ∙ sym (spelled_parts file))
    (Appends-then old started here (head_text file) (flat_map entry_text (take at.row-index (entries_of file)))
    c.in_ok-send_start.ensures.ok at.invariant.done)
