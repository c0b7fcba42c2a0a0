use Rattle.sftp_listing.proofs.Imports.{◌+◌, true, cond, sym, ap, ◌∙◌, not, is_eq, name_cmp}
use Rattle.sftp_listing.proofs.FirstNames.{next-seen, next-distinct, not-distinct}
use Rattle.sftp_listing.proofs.strike.are_distinct.Goals as goal

pub returns-then-not-branch : goal.returns-then-not-branch
returns-then-not-branch c =
    let at = c.loop-name in
    sym
    (not-distinct c.args.names.now (at.name-index + 1)
    (next-distinct c.args.names.now at.name-index c.name-item.result c.in_ok-insert.field-0 c.loop-name-test.true
    c.name-item.is at.invariant.distinct
    (c.in_ok-insert.ensures.added ∙ ap not (at.invariant.seen c.name-item.result))
    ∙ c.if-not-branch.true))

pub loop-name-preserved : goal.loop-name-preserved
loop-name-preserved c =
    let at = c.loop-name in
    record {
      seen = λ q.
          c.in_ok-insert.ensures.updates.0 (record { ref_ptr = (0, 0); now = q })
          ∙ ap (λ among. cond (is_eq (name_cmp c.name-item.result q)) true among) (at.invariant.seen q)
          ∙ next-seen c.args.names.now at.name-index c.name-item.result q c.loop-name-test.true c.name-item.is;
      distinct =
          next-distinct c.args.names.now at.name-index c.name-item.result c.in_ok-insert.field-0
          c.loop-name-test.true c.name-item.is at.invariant.distinct
          (c.in_ok-insert.ensures.added ∙ ap not (at.invariant.seen c.name-item.result))
          ∙ c.if-not-branch.false;
    }
