use Rattle.std.proofs.Common.{◌≡◌, ℕ, [], sym, ap, ◌∙◌, Some, None}
use Rattle.std.specs.Option.{option_copied_mut}
use Rattle.std.specs.Global.{Vec}
use Rattle.sftp_contents.specs.Pieces.{page}
use Rattle.sftp_contents.proofs.Pages.{found, written, nowhere}
use Rattle.sftp_contents.proofs.pieces.fill_page.Goals as goal

pub overwrite-requires : goal.overwrite-requires
overwrite-requires c =
    let f : page c.args.pages.now.entries c.args.number ≡ c.in-Some.page.now.items =
    found c.args.pages.now c.args.number (Some c.in-Some.page.now) (sym c.in-Some.ensures.value) in
    rw (← f) c.requires

pub returns-in_default : goal.returns-in_default
returns-in_default c =
    let m = c.args.pages.now in
    let f : page m.entries c.args.number ≡ [] =
    found m c.args.number None (sym c.get_mut.ensures.value ∙ ap option_copied_mut c.in_default.is) in
    nowhere m c.get_mut.follows.lender-at-none c.args.number c.args.start c.args.new.now f c.requires
    c.get_mut.follows.holds-at-none

pub returns : goal.returns
returns c =
    let m = c.args.pages.now in
    let w : Vec ℕ = c.overwrite.new.bytes in
    let f : page m.entries c.args.number ≡ c.in-Some.page.now.items =
    found m c.args.number (Some c.in-Some.page.now) (sym c.in-Some.ensures.value) in
    rw f (written m (c.get_mut.follows.lender w) c.args.number c.in-Some.page.now w _
    (sym c.in-Some.ensures.value) c.overwrite.ensures (c.get_mut.follows.holds w))
