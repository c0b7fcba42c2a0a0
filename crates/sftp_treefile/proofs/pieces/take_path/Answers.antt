-- What is read of the bytes held is read of the bytes ahead.
use Rattle.sftp_treefile.proofs.Imports.{◌≡◌, ◌-◌, length, rules, sym, subst, err_from_is_err_and, Ahead, ahead_without, Reads}
use Rattle.sftp_treefile.proofs.Imports.{OutOfMemoryOr, ReadsNone, Takes, Follows, string}
use Rattle.sftp_treefile.proofs.Texts.Files.{path_bound}
use Rattle.sftp_treefile.proofs.Texts.Front.{at_in, excuse_or, lacks_filled, takes_part}
use Rattle.sftp_treefile.proofs.pieces.take_path.Goals as goal

pub returns-in_err-text-clause-none : goal.returns-in_err-text-clause-none
returns-in_err-text-clause-none g c =
    let m = c.fill.new.self in
    let rows = c.args.entries.now.rows.items in
    let p = err_from_is_err_and c.from_residual-in_err-text.result c.from_residual-in_err-text.ensures.1 in
    let none : OutOfMemoryOr c.in_err-text.field-0.0 (ReadsNone (Follows rows) string m.held) =
    rw (← c.held.ensures) c.in_err-text.ensures.none in
    rw (p.1, p.2) (excuse_or _ _ _ none (lacks_filled (Follows rows) string (path_bound rows) c.args.input.now m c.fill.ensures.same c.in_ok-fill.ensures.held))

pub returns-clause-found : goal.returns-clause-found
returns-clause-found g c =
    let m = c.fill.new.self in
    let rows = c.args.entries.now.rows.items in
    let text = c.in_ok-text.text.now in
    let rest = c.in_ok-text.rest.now in
    let new : c.take.new.self ≡ ahead_without (length m.held - length rest) m = search rules in
    let read : Reads (Follows rows) string m.held text rest = rw (← c.held.ensures) c.in_ok-text.ensures.found in
    rw c.in_ok-path.ensures (subst (λ (a : Ahead). Takes (Follows rows) string c.args.input.now text a) (sym new)
    (takes_part (Follows rows) string c.args.input.now m text rest c.fill.ensures.same read))

pub returns-in_err-text-clause-number : goal.returns-in_err-text-clause-number
returns-in_err-text-clause-number g c =
    let p = err_from_is_err_and c.from_residual-in_err-text.result c.from_residual-in_err-text.ensures.1 in
    rw (p.1, p.2) (at_in _ _ _ c.in_err-text.ensures.number)
