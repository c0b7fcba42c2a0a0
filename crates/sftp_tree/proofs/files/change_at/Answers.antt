use Rattle.sftp_tree.proofs.Imports.{rules, ◌≡◌, sym, ap, ◌∙◌, Some, option_copied_mut, nat_cmp, is_at, set_value}
use Rattle.sftp_tree.proofs.Imports.{set_value_same, err_from_is_err_and, get, Stored, with_attributes_set}
use Rattle.sftp_tree.proofs.FileCounts.{changed-nowhere, changed-written}
use Rattle.sftp_tree.proofs.files.change_at.Goals as goal

pub change-requires : goal.change-requires
unfolding get
change-requires c = search rules

pub returns-in_err-change-clause-err : goal.returns-in_err-change-clause-err
returns-in_err-change-clause-err c =
    let s : Stored = c.in-Some.stored.now in
    let w : Stored = record s { content = c.change.new.content } in
    let same : w ≡ s = ap (λ content. record s { content = content }) c.in_err-change.ensures.err in
    let p = err_from_is_err_and c.from_residual.result c.from_residual.ensures.1 in
    rw p.1 ((c.get_mut.follows.holds w).0 ∙ ap (set_value (is_at (nat_cmp c.args.number)) c.args.files.now.entries) same ∙ set_value_same (is_at (nat_cmp c.args.number)) c.args.files.now.entries s (sym c.in-Some.ensures.value))

pub returns-in_ok-change-clause-ok : goal.returns-in_ok-change-clause-ok
returns-in_ok-change-clause-ok c =
    let s : Stored = c.in-Some.stored.now in
    let w : Stored = record s { content = c.change.new.content } in
    changed-written (with_attributes_set c.args.attrs.now) c.args.number c.args.files.now (c.get_mut.follows.lender w) s w (sym c.in-Some.ensures.value) (ap (λ content. Some (record s { content = content })) (sym c.in_ok-change.ensures.ok)) (c.get_mut.follows.holds w)

pub returns-in_default-clause-ok : goal.returns-in_default-clause-ok
returns-in_default-clause-ok c =
    changed-nowhere (with_attributes_set c.args.attrs.now) c.args.number c.args.files.now c.get_mut.follows.lender-at-none c.get_mut.ensures.ordered (sym c.get_mut.ensures.value ∙ ap option_copied_mut c.in_default.is) c.get_mut.follows.holds-at-none

pub returns-in_default-clause-owned : goal.returns-in_default-clause-owned
unfolding get
returns-in_default-clause-owned c = search rules
