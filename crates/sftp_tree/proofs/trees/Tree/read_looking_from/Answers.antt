-- A tree's file is that of one tree.
use Rattle.sftp_tree.proofs.Imports.{sym, ap, subst, ◌∙◌, err_from_is_err_and, Tree, IsStart, tree_of}
use Rattle.sftp_tree.proofs.TreeFiles.Files.{stands_of_start, tree_again, spelled_of_start, start_of_spelled}
use Rattle.sftp_tree.specs.Picture.{timed_file_of}
use Rattle.sftp_tree.proofs.trees.Tree.read_looking_from.Goals as goal

pub returns-in_err-file-clause-only : goal.returns-in_err-file-clause-only
returns-in_err-file-clause-only g c = λ bytes known t start.
    let p = err_from_is_err_and c.from_residual.result c.from_residual.ensures.1 in
    rw (p.1, p.2) (c.in_err-file.ensures.only bytes known (timed_file_of t start.picture_is.times) (spelled_of_start t bytes start))

pub returns-clause-found : goal.returns-clause-found
returns-clause-found g c = λ bytes known.
    subst (λ (t : Tree). IsStart t bytes) (sym c.in_ok-told.ensures) (start_of_spelled c.in_ok-file.file bytes (c.in_ok-file.ensures.found bytes known))

pub returns-clause-only : goal.returns-clause-only
returns-clause-only g c = λ bytes known t start.
    c.in_ok-told.ensures ∙ ap tree_of (c.in_ok-file.ensures.only bytes known (timed_file_of t start.picture_is.times) (spelled_of_start t bytes start)) ∙ tree_again t (stands_of_start t bytes start) start.unpinned start.numbered
