use Rattle.sftp_tree.proofs.Imports.{◌≡◌, Some, sym, ◌∙◌, ap, arith, is_at, option_copied, nat_cmp, get, IsContent}
use Rattle.sftp_tree.proofs.Imports.{content_at}
use Rattle.sftp_tree.proofs.PlaceTables.{lookup_holds}
use Rattle.sftp_tree.proofs.trees.Tree.shown_file.Goals as goal

-- what is found in a tree is the content of a file, whose permissions have twelve bits
pub overflow_add-content : goal.overflow_add-content
unfolding get
overflow_add-content c =
    let there : content_at c.args.self.now.files c.args.number ≡ Some c.in-Some.content.now = sym c.content.ensures.there ∙ ap option_copied c.in-Some.is in
    let content : IsContent c.in-Some.content.now = lookup_holds IsContent (is_at (nat_cmp c.args.number)) c.args.self.now.files c.in-Some.content.now c.content.ensures.kept.well_formed.contents there in
    omega (arith, content.0.2)
