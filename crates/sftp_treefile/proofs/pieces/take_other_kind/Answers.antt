-- What is read of the bytes held is read of the bytes ahead.
use Rattle.sftp_treefile.proofs.Imports.{◌≡◌, ◌-◌, length, rules, sym, subst, err_from_is_err_and, Ahead, ahead_without, Reads}
use Rattle.sftp_treefile.proofs.Imports.{OutOfMemoryOr, ReadsNone, Takes, IsTimedKind, timed_text, Kind, Times}
use Rattle.sftp_treefile.proofs.Texts.Front.{at_in, excuse_or, other_kind_lacks, takes_here}
use Rattle.sftp_treefile.proofs.pieces.take_other_kind.Goals as goal

pub returns-in_err-kind-clause-none : goal.returns-in_err-kind-clause-none
returns-in_err-kind-clause-none g c =
    let m = c.args.input.now in
    let rows = c.args.rows.now in
    let fits = IsTimedKind c.args.is_wide c.args.limits rows in
    let p = err_from_is_err_and c.from_residual.result c.from_residual.ensures.1 in
    let none : OutOfMemoryOr c.in_err-kind.field-0.0 (ReadsNone fits timed_text m.held) =
    rw (← c.held.ensures) c.in_err-kind.ensures.none in
    rw (p.1, p.2) (excuse_or _ _ _ none
    (other_kind_lacks c.args.is_wide c.args.limits rows m c.requires.held c.requires.no_file))

pub returns-clause-found : goal.returns-clause-found
returns-clause-found g c =
    let m = c.args.input.now in
    let fits = IsTimedKind c.args.is_wide c.args.limits c.args.rows.now in
    let timed : Kind × Times = (c.in_ok-kind.kind, c.in_ok-kind.times) in
    let rest = c.in_ok-kind.rest.now in
    let new : c.take.new.self ≡ ahead_without (length m.held - length rest) m = search rules in
    let read : Reads fits timed_text m.held timed rest = rw (← c.held.ensures) c.in_ok-kind.ensures.found in
    subst (λ (a : Ahead). Takes fits timed_text m timed a) (sym new) (takes_here fits timed_text m timed rest read)

pub returns-in_err-kind-clause-number : goal.returns-in_err-kind-clause-number
returns-in_err-kind-clause-number g c =
    let p = err_from_is_err_and c.from_residual.result c.from_residual.ensures.1 in
    rw (p.1, p.2) (at_in _ _ _ c.in_err-kind.ensures.number)
