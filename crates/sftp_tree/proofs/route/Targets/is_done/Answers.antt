use Rattle.sftp_tree.proofs.Imports.{◌≡◌, ◌&&◌, true, false, sym, ap, ◌∙◌, list_all, is_done, is_last}
use Rattle.sftp_tree.proofs.Walks.{is_last-targets}
use Rattle.sftp_tree.proofs.route.Targets.is_done.Goals as goal

pub returns-then-is_empty : goal.returns-then-is_empty
returns-then-is_empty c =
    let front : is_done c.self.inside.front ≡ true = sym c.is_empty.ensures ∙ c.if-is_empty.true in
    c.are_done.ensures ∙ ap (list_all is_done) c.as_slice.ensures.value ∙ ap (λ b. b && list_all is_done c.self.inside.behind.items) (sym front)
    ∙ sym (is_last-targets c.self.inside.front c.self.inside.behind.items) ∙ ap is_last c.self.view_is

pub returns-else-is_empty : goal.returns-else-is_empty
returns-else-is_empty c =
    let front : is_done c.self.inside.front ≡ false = sym c.is_empty.ensures ∙ c.if-is_empty.false in
    c.if-is_empty.false ∙ ap (λ b. b && list_all is_done c.self.inside.behind.items) (sym front)
    ∙ sym (is_last-targets c.self.inside.front c.self.inside.behind.items) ∙ ap is_last c.self.view_is
