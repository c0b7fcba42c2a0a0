use Rattle.sftp_tree.proofs.Imports.{◌≡◌, ◌∙◌, sym, ap, Some, None, option_map, nat_cmp, get, get-with_values, Stored}
use Rattle.sftp_tree.proofs.Imports.{content_at, Stores, contents}
use Rattle.sftp_tree.proofs.files.Files.get.Goals as goal

pub returns-in_err-stored : goal.returns-in_err-stored
unfolding get
returns-in_err-stored c =
    let content = λ (s : Stored). s.content in
    let none : None ≡ get nat_cmp c.self.inside.by_number.entries c.args.number = c.in_err-stored.ensures.value in
    let at : content_at (contents c.args.self.now) c.args.number ≡ None = ap (λ (files : Stores). content_at (contents files) c.args.number) (sym c.self.view_is) ∙ get-with_values nat_cmp content c.self.inside.by_number.entries c.args.number ∙ ap (option_map content) (sym none) in
    rw c.from_residual.ensures (sym at)

pub returns : goal.returns
unfolding get
returns c =
    let content = λ (s : Stored). s.content in
    let there : Some c.in_ok-stored.stored.now ≡ get nat_cmp c.self.inside.by_number.entries c.args.number = c.in_ok-stored.ensures.value in
    ap (option_map content) there ∙ sym (get-with_values nat_cmp content c.self.inside.by_number.entries c.args.number) ∙ ap (λ (files : Stores). content_at (contents files) c.args.number) c.self.view_is
