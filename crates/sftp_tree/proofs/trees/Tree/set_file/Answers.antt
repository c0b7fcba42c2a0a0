use Rattle.sftp_tree.proofs.Imports.{refl, sym, ◌∙◌, content_at}
use Rattle.sftp_tree.proofs.CauseLaws.{changed-room}
use Rattle.sftp_tree.proofs.trees.Tree.set_file.Goals as goal

pub change_file-requires : goal.change_file-requires
change_file-requires c =
    let t = c.args.self.now in
    changed-room t c.args.attrs.now c.args.number c.size_fits.ensures.kept (content_at t.files c.args.number) refl
    c.requires ∙ sym c.size_fits.ensures.fits ∙ c.if-not-size_fits.false
