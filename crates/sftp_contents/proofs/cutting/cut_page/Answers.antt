use Rattle.std.proofs.Common.{◌≡◌, ℕ, [], sym, ap, ◌∙◌, Some, None}
use Rattle.std.specs.Option.{option_copied_mut}
use Rattle.std.specs.Global.{Vec}
use Rattle.sftp_contents.specs.Pieces.{page}
use Rattle.sftp_contents.proofs.Pages.{found, written, untaken}
use Rattle.sftp_contents.proofs.cutting.cut_page.Goals as goal

pub returns-in_default : goal.returns-in_default
returns-in_default c =
    let m = c.args.pages.now in
    let f : page m.entries c.args.number ≡ [] =
    found m c.args.number None (sym c.get_mut.ensures.value ∙ ap option_copied_mut c.in_default.is) in
    untaken m c.get_mut.follows.lender-at-none c.args.number c.args.count f c.get_mut.follows.holds-at-none

pub returns-in-Some : goal.returns-in-Some
returns-in-Some c =
    let m = c.args.pages.now in
    let w : Vec ℕ = c.cut_bytes.new.bytes in
    let f : page m.entries c.args.number ≡ c.in-Some.page.now.items =
    found m c.args.number (Some c.in-Some.page.now) (sym c.in-Some.ensures.value) in
    rw f (written m (c.get_mut.follows.lender w) c.args.number c.in-Some.page.now w _
    (sym c.in-Some.ensures.value) c.cut_bytes.ensures (c.get_mut.follows.holds w))
