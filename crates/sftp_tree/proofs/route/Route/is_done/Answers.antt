use Rattle.sftp_tree.proofs.Imports.{◌≡◌, ◌==◌, ◌&&◌, true, false, length, sym, ap, ◌∙◌, is_last}
use Rattle.sftp_tree.proofs.Walks.{is_last-route}
use Rattle.sftp_tree.proofs.route.Route.is_done.Goals as goal
use Rattle.sftp_tree.proofs.route.Route.is_done.Goals.{then-is_done, else-is_done}

pub returns-else-is_empty : goal.returns-else-is_empty
returns-else-is_empty c =
    let home = c.self.inside.home.now in
    let path = c.self.inside.path.left in
    let parts = is_last-route c.self.inside.targets home path in
    c.if-is_empty.false ∙ elim c.if-is_done.branch [
      | then-is_done w ↦
          let targets : is_last c.self.inside.targets ≡ true = sym c.is_done.ensures ∙ w.if-is_done.true in
          let none : (length home == 0) ≡ false = sym w.is_empty.ensures ∙ sym w.value-is ∙ c.if-is_empty.false in
          ap (λ b. b && (length path == 0)) (sym none) ∙ ap (λ b. b && ((length home == 0) && (length path == 0))) (sym targets)
          ∙ sym parts ∙ ap is_last c.self.view_is
      | else-is_done w ↦
          let targets : is_last c.self.inside.targets ≡ false = sym c.is_done.ensures ∙ w.if-is_done.false in
          ap (λ b. b && ((length home == 0) && (length path == 0))) (sym targets)
          ∙ sym parts ∙ ap is_last c.self.view_is
    ]
