-- The head, and then the entries.
use Rattle.sftp_tree.proofs.Imports.{sym, subst, flat_map, head_bytes}
use Rattle.sftp_treefile.specs.TreeFile.{entry_text}
use Rattle.std.specs.Io.KnownBytes.{Appends}
use Rattle.sftp_streams.specs.Streams.{AppendsPart}
use Rattle.sftp_streams.proofs.Buffers.{on_err, Appends-then, AppendsPart-first, AppendsPart-then}
use Rattle.sftp_tree.specs.PictureParts.{head_of, timed_entries}
use Rattle.sftp_tree.proofs.TreeFiles.Files.{picture_written}
use Rattle.sftp_tree.proofs.pictures.writing.send_picture.Goals as goal

pub returns-in_err-send_front-clause-err : goal.returns-in_err-send_front-clause-err
returns-in_err-send_front-clause-err g c =
    let t = c.args.tree.now in
    let times = c.args.times.now in
    let old = g.L.Sink.written c.args.sink.now in
    let new = g.L.Sink.written c.send_front.new.sink in
    on_err c.from_residual.result
    (subst (AppendsPart old new) (sym (picture_written t c.names.ensures.kept times))
    (AppendsPart-first old new (head_bytes (head_of t times)) (flat_map entry_text (timed_entries t times))
    c.in_err-send_front.ensures.err))

pub returns-in_err-send_entries-clause-err : goal.returns-in_err-send_entries-clause-err
returns-in_err-send_entries-clause-err g c =
    let t = c.args.tree.now in
    let times = c.args.times.now in
    let old = g.L.Sink.written c.args.sink.now in
    let middle = g.L.Sink.written c.send_front.new.sink in
    let new = g.L.Sink.written c.send_entries.new.sink in
    on_err c.from_residual-in_err-send_entries.result
    (subst (AppendsPart old new) (sym (picture_written t c.send_entries.ensures.kept times))
    (AppendsPart-then old middle new (head_bytes (head_of t times)) (flat_map entry_text (timed_entries t times))
    c.in_ok-send_front.ensures.ok c.in_err-send_entries.ensures.err))

pub returns-clause-ok : goal.returns-clause-ok
returns-clause-ok g c =
    let t = c.args.tree.now in
    let times = c.args.times.now in
    let old = g.L.Sink.written c.args.sink.now in
    let middle = g.L.Sink.written c.send_front.new.sink in
    let new = g.L.Sink.written c.send_entries.new.sink in
    subst (Appends old new) (sym (picture_written t c.send_entries.ensures.kept times))
    (Appends-then old middle new (head_bytes (head_of t times)) (flat_map entry_text (timed_entries t times))
    c.in_ok-send_front.ensures.ok c.in_ok-send_entries.ensures.ok)
