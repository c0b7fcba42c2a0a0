use Rattle.std.proofs.Common.{◌∙◌, sym, refl, ap, get_or}
use Rattle.sftp_handles.specs.State.{closed_tree}
use Rattle.sftp_streams.proofs.Buffers.{on_err}
use Rattle.sftp_answers.proofs.Closing.{has_less, has_none}
use Rattle.sftp_answers.proofs.leaving.close_handles.Goals as goal

pub loop-number-init : goal.loop-number-init
loop-number-init c = λ good. record { good = good; same = refl; tree = refl; only = λ only. only }

pub loop-number-preserved : goal.loop-number-preserved
loop-number-preserved c = λ good.
    let at = c.loop-number in
    let was = at.invariant good in
    let done = c.in_ok-close_handle.ensures.closed was.good in
    record {
      good = done.good;
      same = done.same ∙ was.same;
      tree = done.tree ∙ was.tree;
      only = λ only.
          has_less at.session c.close_handle.new.session c.args.client (get_or c.args.numbers.now at.number-index 0)
          at.number-index c.args.numbers.now c.loop-number-test.true (was.only only) refl done.closed done.others;
    }

pub returns-clause-left : goal.returns-clause-left
returns-clause-left c good only =
    let at = c.loop-number in
    let was = at.invariant good in
    sym
    (has_none c.args.client at.session at.number-index c.args.numbers.now was.good c.loop-number-test.false
    (was.only only))
    ∙ was.same

pub returns-in_err-close_handle-clause-kept : goal.returns-in_err-close_handle-clause-kept
returns-in_err-close_handle-clause-kept c good =
    on_err c.from_residual.result (ap closed_tree c.in_err-close_handle.ensures.err ∙ (c.loop-number.invariant good).tree)
