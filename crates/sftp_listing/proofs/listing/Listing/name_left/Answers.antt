use Rattle.sftp_listing.proofs.Imports.{sym, ap, ◌∙◌, is_name, has_attributes}
use Rattle.sftp_listing.proofs.FirstNames.{no-name-left}
use Rattle.sftp_listing.proofs.listing.Listing.name_left.Goals as goal

pub returns-in-None-clause-left : goal.returns-in-None-clause-left
returns-in-None-clause-left c =
    let no_name = rw c.in-None.is at c.in_ok-name.ensures.none in
    ap (λ found. has_attributes found c.args.item.now.attrs)
    (sym
    (no-name-left c.args.self.now c.args.item.now.filename c.requires (ap is_name (sym c.as_slice.ensures) ∙ no_name)))
