use Rattle.sftp_tree.proofs.Imports.{◌∷◌, ◌++◌, [], sym, ap, subst, ◌∙◌, append_assoc, Place, node_at, branch, IsFilled}
use Rattle.sftp_tree.proofs.Nesting.Changes.{root-branch, moved-at, nothing, gone-free}
use Rattle.sftp_tree.proofs.entries.directories.Dir.move_child.Goals as goal

pub replace-moved-requires-clause-branch : goal.replace-moved-requires-clause-branch
replace-moved-requires-clause-branch c =
    root-branch c.new.result (record { uid = 0; gid = 0; permissions = 0 }) c.new.ensures

pub returns-then-was_taken-clause-ok : goal.returns-then-was_taken-clause-ok
returns-then-was_taken-clause-ok c =
    moved-at c.args.old.now c.args.new.now (c.in-Some.old_parent.now ++ c.in-Some.old_name.now ∷ [])
    (c.in-Some-split_last.parent.now ++ c.in-Some-split_last.name.now ∷ []) c.args.self.now c.fill.new.self
    c.replace-moved.new.self c.replace-gone.new.self c.take.new.self (branch c.replace-moved.result) c.new.result
    c.in_ok-was_taken.was_taken (sym c.names.ensures.names ∙ c.in-Some.ensures.cases.0)
    (sym c.names-2.ensures.names ∙ c.in-Some-split_last.ensures.cases.0) c.requires.apart c.requires.alone
    c.in_ok-was_taken.ensures.ok c.replace-moved.ensures.here (λ rest. c.replace-moved.ensures.gone rest
    ∙ sym (ap (λ (place : Place). node_at c.fill.new.self place)
    (append_assoc c.in-Some.old_parent.now (c.in-Some.old_name.now ∷ []) rest)))
    c.replace-gone.ensures.here c.take.ensures.left

pub returns-else-was_taken-clause-ok : goal.returns-else-was_taken-clause-ok
returns-else-was_taken-clause-ok c =
    moved-at c.args.old.now c.args.new.now (c.in-Some.old_parent.now ++ c.in-Some.old_name.now ∷ [])
    (c.in-Some-split_last.parent.now ++ c.in-Some-split_last.name.now ∷ []) c.args.self.now c.fill.new.self
    c.replace-moved.new.self c.replace-gone.new.self c.take.new.self (branch c.replace-moved.result) c.new.result
    c.in_ok-was_taken.was_taken (sym c.names.ensures.names ∙ c.in-Some.ensures.cases.0)
    (sym c.names-2.ensures.names ∙ c.in-Some-split_last.ensures.cases.0) c.requires.apart c.requires.alone
    c.in_ok-was_taken.ensures.ok c.replace-moved.ensures.here (λ rest. c.replace-moved.ensures.gone rest
    ∙ sym (ap (λ (place : Place). node_at c.fill.new.self place)
    (append_assoc c.in-Some.old_parent.now (c.in-Some.old_name.now ∷ []) rest)))
    c.replace-gone.ensures.here c.take.ensures.left

pub returns-else-was_taken-clause-gone : goal.returns-else-was_taken-clause-gone
returns-else-was_taken-clause-gone c = nothing []
    ∙ gone-free (c.in-Some-split_last.parent.now ++ c.in-Some-split_last.name.now ∷ []) c.args.self.now c.fill.new.self
    (subst (IsFilled (c.in-Some-split_last.parent.now ++ c.in-Some-split_last.name.now ∷ [])
    c.args.self.now c.fill.new.self) c.if-was_taken.false c.in_ok-was_taken.ensures.ok)
    ∙ ap (λ (place : Place). node_at c.args.self.now place)
    (sym (sym c.names-2.ensures.names ∙ c.in-Some-split_last.ensures.cases.0))
