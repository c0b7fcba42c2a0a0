use Rattle.sftp_tree.proofs.Imports.{◌≡◌, sym, ap, ◌∙◌, Some, option_copied_mut, nat_cmp, is_at, set_value}
use Rattle.sftp_tree.proofs.Imports.{set_value_same, err_from_is_err_and, Stored, with_bytes_written}
use Rattle.sftp_tree.proofs.FileCounts.{changed-nowhere, changed-written}
use Rattle.sftp_tree.proofs.files.write_at.Goals as goal

pub returns-in_err-write_at-clause-err : goal.returns-in_err-write_at-clause-err
returns-in_err-write_at-clause-err c =
    let s : Stored = c.in-Some.stored.now in
    let w : Stored = record s { content = record s.content { bytes = c.write_at.new.self } } in
    let same : w ≡ s =
    ap (λ bytes. record s { content = record s.content { bytes = bytes } }) c.in_err-write_at.ensures.err in
    let p = err_from_is_err_and c.from_residual.result c.from_residual.ensures.1 in
    rw p.1 ((c.get_mut.follows.holds w).0 ∙ ap (set_value (is_at (nat_cmp c.args.number)) c.args.files.now.entries) same
    ∙ set_value_same (is_at (nat_cmp c.args.number)) c.args.files.now.entries s (sym c.in-Some.ensures.value))

pub returns-in_ok-write_at-clause-ok : goal.returns-in_ok-write_at-clause-ok
returns-in_ok-write_at-clause-ok c =
    let s : Stored = c.in-Some.stored.now in
    let w : Stored = record s { content = record s.content { bytes = c.write_at.new.self } } in
    changed-written (with_bytes_written c.args.offset c.args.new.now) c.args.number c.args.files.now
    (c.get_mut.follows.lender w) s w (sym c.in-Some.ensures.value)
    (ap (λ bytes. Some (record s { content = record s.content { bytes = bytes } })) (sym c.in_ok-write_at.ensures.ok))
    (c.get_mut.follows.holds w)

pub returns-in_default-clause-ok : goal.returns-in_default-clause-ok
returns-in_default-clause-ok c =
    changed-nowhere (with_bytes_written c.args.offset c.args.new.now) c.args.number c.args.files.now
    c.get_mut.follows.lender-at-none c.get_mut.ensures.ordered
    (sym c.get_mut.ensures.value ∙ ap option_copied_mut c.in_default.is) c.get_mut.follows.holds-at-none
