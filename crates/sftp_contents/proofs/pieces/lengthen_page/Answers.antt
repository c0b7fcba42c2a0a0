use Rattle.std.proofs.Common.{◌≡◌, ℕ, [], sym, ap, ◌∙◌, Some, None}
use Rattle.std.proofs.lemmas.Result.{err_from_is_err_and}
use Rattle.std.specs.Option.{option_copied_mut}
use Rattle.std.specs.Global.{Vec}
use Rattle.sftp_contents.specs.Pieces.{page}
use Rattle.sftp_contents.proofs.Pages.{found, written, updated, unwritten, same_pages}
use Rattle.sftp_contents.proofs.pieces.lengthen_page.Goals as goal

pub returns-in_err-lengthen-clause-err : goal.returns-in_err-lengthen-clause-err
returns-in_err-lengthen-clause-err c =
    let m = c.args.pages.now in
    let w : Vec ℕ = c.lengthen.new.bytes in
    let f : page m.entries c.args.number ≡ c.in-Some.page.now.items =
    found m c.args.number (Some c.in-Some.page.now) (sym c.in-Some.ensures.value) in
    let p = err_from_is_err_and c.from_residual.result c.from_residual.ensures.1 in
    rw p.1 (unwritten m (c.get_mut.follows.lender w) c.args.number
    (written m (c.get_mut.follows.lender w) c.args.number c.in-Some.page.now w (page m.entries c.args.number)
    (sym c.in-Some.ensures.value) (c.in_err-lengthen.ensures.err ∙ sym f) (c.get_mut.follows.holds w)))

pub returns-in-Some-clause-ok : goal.returns-in-Some-clause-ok
returns-in-Some-clause-ok c =
    let m = c.args.pages.now in
    let w : Vec ℕ = c.lengthen.new.bytes in
    let f : page m.entries c.args.number ≡ c.in-Some.page.now.items =
    found m c.args.number (Some c.in-Some.page.now) (sym c.in-Some.ensures.value) in
    rw f (written m (c.get_mut.follows.lender w) c.args.number c.in-Some.page.now w _
    (sym c.in-Some.ensures.value) c.in_ok-lengthen.ensures.ok (c.get_mut.follows.holds w))

pub returns-clause-ok : goal.returns-clause-ok
returns-clause-ok c =
    let m = c.args.pages.now in
    let none : page m.entries c.args.number ≡ [] =
    found m c.args.number None (sym c.get_mut.ensures.value ∙ ap option_copied_mut c.in_default.is) in
    let made = rw c.new-page.ensures.items at c.in_ok-lengthen-2.ensures.ok in
    let updates = rw c.get_mut.follows.holds-at-none at c.in_ok-insert.ensures.updates in
    rw none (updated m c.insert.new.self c.args.number c.lengthen-2.new.bytes _ made updates)

pub returns-in_err-lengthen-2-clause-err : goal.returns-in_err-lengthen-2-clause-err
returns-in_err-lengthen-2-clause-err c =
    let m = c.args.pages.now in
    let p = err_from_is_err_and c.from_residual-in_err-lengthen-2.result c.from_residual-in_err-lengthen-2.ensures.1 in
    rw p.1 (same_pages m c.get_mut.follows.lender-at-none (ap (λ t. t.entries) c.get_mut.follows.holds-at-none))

pub returns-in_err-insert-clause-err : goal.returns-in_err-insert-clause-err
returns-in_err-insert-clause-err c =
    let m = c.args.pages.now in
    let p = err_from_is_err_and c.from_residual-in_err-insert.result c.from_residual-in_err-insert.ensures.1 in
    rw p.1 (same_pages m c.insert.new.self
    (c.in_err-insert.ensures.err ∙ ap (λ t. t.entries) c.get_mut.follows.holds-at-none))
