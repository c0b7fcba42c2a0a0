-- Some bytes more, or too few.
use Rattle.sftp_treefile.proofs.Imports.{arith, err_from_is_err_and, length-append}
use Rattle.sftp_treefile.proofs.Texts.Front.{still_or, more_taken, too_few}
use Rattle.sftp_treefile.proofs.pieces.take_bytes.Goals as goal

pub more-preserved : goal.more-preserved
more-preserved g c = record {
  within = grind (arith, length-append);
  taken = more_taken _ c.args.input.now c.more.input c.take_some.new.input c.more.bytes.items c.take_some.new.bytes.items c.more.invariant.taken c.in_ok-take_some.ensures.found;
}

pub returns-in_err-take_some-clause-none : goal.returns-in_err-take_some-clause-none
returns-in_err-take_some-clause-none g c =
    let p = err_from_is_err_and c.from_residual-in_err-take_some.result c.from_residual-in_err-take_some.ensures.1 in
    rw (p.1, p.2) (still_or _ _ _ c.in_err-take_some.ensures.none
    (too_few c.args.input.now c.more.input c.more.bytes.items c.args.count c.more.invariant.taken (omega (arith, c.more-test.true, c.len.ensures))))

pub returns-clause-found : goal.returns-clause-found
returns-clause-found g c =
    let octets = rw c.as_slice.ensures.value at c.are_octets.ensures in
    rw c.new.ensures ((omega (arith, c.more-test.false, c.more.invariant.within), octets), c.more.invariant.taken)
