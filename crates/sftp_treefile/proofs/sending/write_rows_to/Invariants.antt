-- The entries so far are written, and no call failed.
use Rattle.sftp_treefile.proofs.Imports.{◌≡◌, suc, take, flat_map, entry_text}
use Rattle.sftp_treefile.proofs.Texts.Files.{entries_of}
use Rattle.std.specs.Io.KnownBytes.{Appends}
use Rattle.sftp_treefile.proofs.sending.write_rows_to.Given as goal

abbrev pub invariant-loop-row : goal.invariant-loop-row
invariant-loop-row g l = record {
  done : Appends (g.L.Sink.written l.initial.sink) (g.L.Sink.written l.sink)
      (flat_map entry_text (take l.row-index (entries_of l.file)));
  none_failed : g.L.Sink.failures l.sink ≡ g.L.Sink.failures l.initial.sink;
  number : l.entry ≡ suc l.row-index;
}
