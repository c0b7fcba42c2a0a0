-- The times that are asked for are a tree file's; where one of the parts fails, a beginning of a tree file is written.
use Rattle.sftp_tree.proofs.Imports.{[], refl, spelled}
use Rattle.sftp_streams.proofs.Buffers.{on_err}
use Rattle.sftp_treefile.proofs.Texts.Front.{AppendsPart-none}
use Rattle.sftp_tree.specs.Picture.{timed_file_of}
use Rattle.sftp_tree.proofs.trees.Tree.write_timed_to.Goals as goal

pub send_picture-requires : goal.send_picture-requires
send_picture-requires g c = c.in_ok-times.ensures.of_file

pub returns-in_err-times-clause-err : goal.returns-in_err-times-clause-err
returns-in_err-times-clause-err g c =
    let bytes = spelled (timed_file_of c.args.self.now []) in
    on_err c.from_residual.result (record {
      bytes = bytes;
      are = record { times = []; are = tt; bytes_are = refl };
      part = AppendsPart-none (g.L.Sink.written c.args.sink.now) bytes;
    })

pub returns-in_err-send_picture-clause-err : goal.returns-in_err-send_picture-clause-err
returns-in_err-send_picture-clause-err g c =
    let times = c.in_ok-times.times in
    on_err c.from_residual-in_err-send_picture.result (record {
      bytes = spelled (timed_file_of c.args.self.now times);
      are = record { times = times; are = c.in_ok-times.ensures.of_file; bytes_are = refl };
      part = c.in_err-send_picture.ensures.err;
    })

pub returns-clause-ok : goal.returns-clause-ok
returns-clause-ok g c = record {
  times = c.in_ok-times.times;
  are = c.in_ok-times.ensures;
  appended = c.in_ok-send_picture.ensures.ok;
}
