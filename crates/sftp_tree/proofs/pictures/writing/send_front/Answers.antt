-- The head's numbers and its home fit their fields.
use Rattle.sftp_tree.proofs.Imports.{◌-◌, [], length, ap, subst, ◌∙◌, arith, absolute, head_bytes, Names, node_at, root_owner}
use Rattle.std.specs.Io.KnownBytes.{Appends}
use Rattle.sftp_streams.proofs.Buffers.{on_err}
use Rattle.sftp_treefile.proofs.Texts.Front.{AppendsPart-none}
use Rattle.sftp_tree.specs.PictureParts.{head_of}
use Rattle.sftp_tree.proofs.TreeFiles.Files.{names_count, home_short, some_times}
use Rattle.sftp_tree.proofs.Imports.{◌≡◌, ◌==◌, not, sym, List, Bool, Row, file_of}
use Rattle.sftp_treefile.specs.declared.times.Times.{Times}
use Rattle.sftp_treefile.proofs.Texts.Front.{root_at}
use Rattle.sftp_treefile.proofs.Texts.Files.{raised_short}
use Rattle.sftp_treefile.specs.TreeFile.{AreLimits, AreFileTimes, opening_with, any_times}
use Rattle.sftp_tree.proofs.pictures.writing.send_front.Goals as goal

pub overflow_sub-head : goal.overflow_sub-head
overflow_sub-head g c = omega (arith, c.len.ensures, ap length c.names-2.ensures.names, (names_count c.args.tree.now c.names-2.ensures.kept).0)

pub overflow_cast-head : goal.overflow_cast-head
overflow_cast-head g c = omega (arith, c.len.ensures, ap length c.names-2.ensures.names, (names_count c.args.tree.now c.names-2.ensures.kept).1)

pub send_head-requires-clause-limits : goal.send_head-requires-clause-limits
send_head-requires-clause-limits g c = λ is. raised_short (not c.is_empty.result) c.tree_limits-limits.result
    (subst AreLimits (sym c.tree_limits-limits.ensures.limits) c.tree_limits-limits.ensures.kept.well_formed.limits)
    (sym c.opening.ensures ∙ is)

pub send_head-requires-clause-home : goal.send_head-requires-clause-home
send_head-requires-clause-home g c =
    let home = c.new.ensures ∙ c.in_ok-home.ensures ∙ ap absolute (c.names.ensures.names ∙ c.home-2.ensures.home) in
    omega (arith, ap length home, home_short c.args.tree.now c.names-2.ensures.kept)

pub returns-in_err-home-clause-err : goal.returns-in_err-home-clause-err
returns-in_err-home-clause-err g c =
    on_err c.from_residual.result
    (AppendsPart-none (g.L.Sink.written c.args.sink.now) (head_bytes (head_of c.args.tree.now c.args.times.now)))

has_some : (rows : List Row) (times : List Times) (empty : Bool) → empty ≡ (length times == 0) → AreFileTimes rows times
    → not empty ≡ any_times times
has_some rows times empty is are = ap not is ∙ sym (some_times rows times are)

pub returns-clause-ok : goal.returns-clause-ok
returns-clause-ok g c =
    let home = c.new.ensures ∙ c.in_ok-home.ensures ∙ ap absolute (c.names.ensures.names ∙ c.home-2.ensures.home) in
    let count = ap (λ n. n - 1) (c.len.ensures ∙ ap length c.names-2.ensures.names) in
    let times = c.args.times.now in
    let empty = c.is_empty.ensures ∙ ap (λ (ts : List Times). length ts == 0) c.as_slice.ensures in
    let some = has_some (file_of c.args.tree.now).rows times c.is_empty.result empty c.requires in
    let opening = c.opening.ensures ∙ (λ i. opening_with (some i) (c.tree_limits-limits.ensures.limits i)) in
    let root_times = c.get.ensures ∙ root_at times in
    let root = c.root_owner.ensures ∙ ap (λ (names : Names). root_owner (node_at names [])) c.names-3.ensures.names in
    subst (Appends (g.L.Sink.written c.args.sink.now) (g.L.Sink.written c.send_head.new.sink))
    (λ i. head_bytes (record {
      opening = opening i;
      limits = c.tree_limits-limits.ensures.limits i;
      home = home i;
      uid = c.uid.ensures i;
      gid = c.gid.ensures i;
      count = count i;
      root = root i;
      root_times = root_times i;
    })) c.in_ok-send_head.ensures.ok
