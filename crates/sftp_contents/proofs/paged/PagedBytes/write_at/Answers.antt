use Rattle.std.proofs.Common.{◌≡◌, ◌+◌, ◌<◌, sym, ap, ◌∙◌, length, arith, ◌==◌, ◌^◌, false}
use Rattle.std.proofs.lemmas.Bool.{eqb-false}
use Rattle.std.proofs.lemmas.Result.{err_from_is_err_and}
use Rattle.sftp_contents.specs.Bytes.{overwritten}
use Rattle.sftp_contents.proofs.Whole.{view-written, view-same, zeros-same, zeros-written}
use Rattle.sftp_contents.proofs.paged.PagedBytes.write_at.Goals as goal

pub invariant_of-self : goal.invariant_of-self
invariant_of-self c = (
  zeros-same c.self.inside.store c.put.new.store c.self.inside.len c.self.invariant.0 c.in_err-put.ensures.err,
  c.self.invariant.1,
)

pub returns-in_err-put-clause-err : goal.returns-in_err-put-clause-err
returns-in_err-put-clause-err c =
    let p = err_from_is_err_and c.from_residual.result c.from_residual.ensures.1 in
    rw p.1 (view-same c.self.inside.store c.put.new.store c.self.inside.len (λ i h. c.in_err-put.ensures.err i)
    ∙ c.self.view_is)

pub invariant_of-self-2 : goal.invariant_of-self-2
invariant_of-self-2 c =
    let apart = eqb-false (length c.args.new.now) 0 (sym c.is_empty.ensures ∙ c.if-is_empty.false) in
    let some : 0 < length c.args.new.now = omega (arith, apart) in
    let end : c.args.offset + length c.args.new.now < 2 ^ 63 = c.requires some in (
      zeros-written c.self.inside.store c.put.new.store c.self.inside.len _ c.args.offset c.args.new.now
          c.self.invariant.0 c.in_ok-put.ensures.ok c.max-self-inside.ensures,
      omega (arith, c.self.invariant.1),
    )

pub returns-clause-ok : goal.returns-clause-ok
returns-clause-ok c =
    let some : (length c.args.new.now == 0) ≡ false = sym c.is_empty.ensures ∙ c.if-is_empty.false in
    let v = view-written c.self.inside.store c.put.new.store c.self.inside.len c.max-self-inside.result c.args.offset
    c.args.new.now c.self.invariant.0 c.in_ok-put.ensures.ok c.max-self-inside.ensures in
    rw some (v ∙ ap (overwritten c.args.offset c.args.new.now) c.self.view_is)
