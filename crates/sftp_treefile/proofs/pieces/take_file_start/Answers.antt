-- What is read of the bytes held is read of the bytes ahead.
use Rattle.sftp_treefile.proofs.Imports.{◌≡◌, ◌-◌, length, rules, sym, subst, err_from_is_err_and, Ahead, ahead_without, Reads}
use Rattle.sftp_treefile.proofs.Imports.{ReadsNone, Takes, IsFileStart, file_start_text, inr, Owner, Times, ℕ}
use Rattle.sftp_treefile.proofs.Texts.Files.{start_bound}
use Rattle.sftp_treefile.proofs.Texts.Front.{at_in, lacks_filled, takes_part}
use Rattle.sftp_treefile.proofs.pieces.take_file_start.Goals as goal

pub returns-in_err-owner-clause-none : goal.returns-in_err-owner-clause-none
returns-in_err-owner-clause-none g c =
    let m = c.fill.new.self in
    let wide = c.args.is_wide in
    let p = err_from_is_err_and c.from_residual-in_err-owner.result c.from_residual-in_err-owner.ensures.1 in
    let none : ReadsNone (IsFileStart wide) file_start_text m.held = rw (← c.held.ensures) c.in_err-owner.ensures.none in
    rw p.1 (inr (lacks_filled (IsFileStart wide) file_start_text (start_bound wide) c.args.input.now m c.fill.ensures.same c.in_ok-fill.ensures.held none))

pub returns-clause-found : goal.returns-clause-found
returns-clause-found g c =
    let m = c.fill.new.self in
    let wide = c.args.is_wide in
    let start : Owner × (Times × ℕ) = (c.in_ok-owner.owner, (c.in_ok-owner.times, c.in_ok-owner.count)) in
    let rest = c.in_ok-owner.rest.now in
    let new : c.take.new.self ≡ ahead_without (length m.held - length rest) m = search rules in
    let read : Reads (IsFileStart wide) file_start_text m.held start rest = rw (← c.held.ensures) c.in_ok-owner.ensures.found in
    subst (λ (a : Ahead). Takes (IsFileStart wide) file_start_text c.args.input.now start a) (sym new)
    (takes_part (IsFileStart wide) file_start_text c.args.input.now m start rest c.fill.ensures.same read)

pub returns-in_err-owner-clause-number : goal.returns-in_err-owner-clause-number
returns-in_err-owner-clause-number g c =
    let p = err_from_is_err_and c.from_residual-in_err-owner.result c.from_residual-in_err-owner.ensures.1 in
    rw (p.1, p.2) (at_in _ _ _ c.in_err-owner.ensures.number)
