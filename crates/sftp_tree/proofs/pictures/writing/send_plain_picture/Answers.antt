-- The picture is the tree file without times.
use Rattle.sftp_tree.proofs.Imports.{List, sym, subst, spelled, picture, file_of}
use Rattle.std.specs.Io.KnownBytes.{Appends}
use Rattle.sftp_streams.specs.Streams.{AppendsPart}
use Rattle.sftp_streams.proofs.Buffers.{on_err}
use Rattle.sftp_treefile.specs.declared.times.Times.{Times}
use Rattle.sftp_treefile.specs.TreeFile.{AreFileTimes}
use Rattle.sftp_tree.specs.Picture.{timed_file_of}
use Rattle.sftp_tree.proofs.pictures.writing.send_plain_picture.Goals as goal

pub send_picture-requires : goal.send_picture-requires
send_picture-requires g c =
    subst (AreFileTimes (file_of c.args.tree.now).rows) (sym c.none-none.ensures) tt

pub returns-in_err-send_picture-clause-err : goal.returns-in_err-send_picture-clause-err
unfolding picture
returns-in_err-send_picture-clause-err g c =
    let t = c.args.tree.now in
    on_err c.from_residual.result
    (subst (λ (times : List Times). AppendsPart (g.L.Sink.written c.args.sink.now)
    (g.L.Sink.written c.send_picture.new.sink) (spelled (timed_file_of t times))) c.none-none.ensures
    c.in_err-send_picture.ensures.err)

pub returns-clause-ok : goal.returns-clause-ok
unfolding picture
returns-clause-ok g c =
    let t = c.args.tree.now in
    subst (λ (times : List Times). Appends (g.L.Sink.written c.args.sink.now)
    (g.L.Sink.written c.send_picture.new.sink) (spelled (timed_file_of t times))) c.none-none.ensures
    c.in_ok-send_picture.ensures.ok
