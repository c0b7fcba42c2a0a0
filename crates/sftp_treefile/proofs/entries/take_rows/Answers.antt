-- One entry more, or none that may come next.
use Rattle.sftp_treefile.proofs.Imports.{◌≡◌, ◌+◌, ◌∙◌, ap, sym, arith, err_from_is_err_and, contents_length}
use Rattle.sftp_treefile.proofs.Texts.Heads.{contents_more, follows_next}
use Rattle.sftp_treefile.proofs.Texts.Front.{still_or, among_in, no_rows, rows_taken, row_lacks}
use Rattle.sftp_treefile.proofs.entries.take_rows.Goals as goal

pub more-init : goal.more-init
more-init g c = record {
  within = omega arith;
  last = c.in_ok-entries.ensures.last;
  total = c.in_ok-entries.ensures.total ∙ ap contents_length (sym c.in_ok-entries.ensures.rows);
  room = omega (arith, c.in_ok-entries.ensures.total);
  taken = rw (c.in_ok-entries.ensures.rows, c.in_ok-entries.ensures.times)
      (no_rows c.args.is_wide c.args.limits c.args.root c.args.input.now);
}

pub put_row-requires-clause-next : goal.put_row-requires-clause-next
put_row-requires-clause-next g c = follows_next c.args.limits c.more.entries.rows.items c.in_ok-taken.taken.row c.in_ok-taken.ensures.found.0.row

pub put_row-requires-clause-room : goal.put_row-requires-clause-room
put_row-requires-clause-room g c = omega (arith, c.more.invariant.total, c.in_ok-taken.ensures.found.0.room)

pub returns-in_err-taken-clause-none : goal.returns-in_err-taken-clause-none
returns-in_err-taken-clause-none g c =
    let p = err_from_is_err_and c.from_residual-in_err-taken.result c.from_residual-in_err-taken.ensures.1 in
    rw (p.1, p.2) (still_or _ _ _ c.in_err-taken.ensures.none (row_lacks c.args.is_wide c.args.limits c.args.root
    c.args.input.now c.more.input c.more.entries.rows.items c.more.entries.times.items c.more.done c.args.count
    c.more.invariant.taken (omega (arith, c.more-test.true))))

pub returns-in_err-taken-clause-number : goal.returns-in_err-taken-clause-number
returns-in_err-taken-clause-number g c =
    let p = err_from_is_err_and c.from_residual-in_err-taken.result c.from_residual-in_err-taken.ensures.1 in
    rw (p.1, p.2) (among_in _ c.args.count (c.more.done + 1) _ (omega arith) (omega (arith, c.more-test.true))
    c.in_err-taken.ensures.number)

pub more-preserved : goal.more-preserved
more-preserved g c =
    let rows = c.more.entries.rows.items in
    let taken = c.in_ok-taken.taken in
    let put = c.in_ok-put_row.ensures in
    record {
      within = omega (arith, c.more-test.true);
      last = put.last;
      total = omega (arith, put.total, c.more.invariant.total, contents_more rows taken.row, ap contents_length put.rows);
      room = omega (arith, put.total, c.more.invariant.total, c.in_ok-taken.ensures.found.0.room);
      taken = rows_taken c.args.is_wide c.args.limits c.args.root c.args.input.now c.more.input c.take_row.new.input rows
          c.put_row.new.entries.rows.items c.more.entries.times.items c.put_row.new.entries.times.items c.more.done
          (c.more.done + 1) taken.row taken.times c.more.invariant.taken c.in_ok-taken.ensures.found put.rows put.times
          (omega arith);
    }

pub returns-clause-found : goal.returns-clause-found
returns-clause-found g c =
    let all : c.args.count ≡ c.more.done = omega (arith, c.more-test.false, c.more.invariant.within) in
    rw all c.more.invariant.taken
