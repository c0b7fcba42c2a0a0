-- What is read of the bytes held is read of the bytes ahead.
use Rattle.sftp_treefile.proofs.Imports.{◌≡◌, ◌-◌, length, rules, sym, subst, err_from_is_err_and, Ahead, ahead_without, Reads}
use Rattle.sftp_treefile.proofs.Imports.{OutOfMemoryOr, ReadsNone, Takes, IsHead, head_bytes}
use Rattle.sftp_treefile.proofs.Texts.Files.{head_bound}
use Rattle.sftp_treefile.proofs.Texts.Front.{at_in, excuse_or, lacks_filled, takes_part}
use Rattle.sftp_treefile.proofs.pieces.take_head.Goals as goal

pub returns-in_err-head-clause-none : goal.returns-in_err-head-clause-none
returns-in_err-head-clause-none g c =
    let m = c.fill.new.self in
    let p = err_from_is_err_and c.from_residual-in_err-head.result c.from_residual-in_err-head.ensures.1 in
    let none : OutOfMemoryOr c.in_err-head.field-0.0 (ReadsNone IsHead head_bytes m.held) =
    rw (← c.held.ensures) c.in_err-head.ensures.none in
    rw (p.1, p.2) (excuse_or _ _ _ none (lacks_filled IsHead head_bytes head_bound c.args.input.now m c.fill.ensures.same c.in_ok-fill.ensures.held))

pub returns-clause-found : goal.returns-clause-found
returns-clause-found g c =
    let m = c.fill.new.self in
    let head = c.in_ok-head.head in
    let rest = c.in_ok-head.rest.now in
    let new : c.take.new.self ≡ ahead_without (length m.held - length rest) m = search rules in
    let read : Reads IsHead head_bytes m.held head rest = rw (← c.held.ensures) c.in_ok-head.ensures.found in
    subst (λ (a : Ahead). Takes IsHead head_bytes c.args.input.now head a) (sym new)
    (takes_part IsHead head_bytes c.args.input.now m head rest c.fill.ensures.same read)

pub returns-in_err-head-clause-number : goal.returns-in_err-head-clause-number
returns-in_err-head-clause-number g c =
    let p = err_from_is_err_and c.from_residual-in_err-head.result c.from_residual-in_err-head.ensures.1 in
    rw (p.1, p.2) (at_in _ _ _ c.in_err-head.ensures.number)
