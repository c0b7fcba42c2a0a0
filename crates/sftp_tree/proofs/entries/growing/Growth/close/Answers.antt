-- The directory is the last child of the one above it.
use Rattle.sftp_tree.proofs.Imports.{◌≡◌, ◌++◌, ◌∷◌, [], ap, sym, subst, ◌∙◌, AllByRecursion, keys_of, Less, place_cmp}
use Rattle.sftp_tree.proofs.Imports.{InOrder, names_from, branch, placed, IsBranch}
use Rattle.sftp_tree.specs.declared.entries.directories.Child.TheVariants as children
use Rattle.sftp_tree.proofs.Nesting.{names_push, last_child}
use Rattle.sftp_tree.proofs.entries.growing.Growth.close.Goals as goal

pub push-requires-clause-last : goal.push-requires-clause-last
push-requires-clause-last c =
    let top = c.args.self.now.top in
    let ordered = subst (λ os. InOrder place_cmp (names_from os top)) c.in-Some.ensures.items c.requires.ordered in
    let branch = subst IsBranch (c.into_child-child.ensures.child ∙ ap children.Dir c.replace.ensures.value)
    c.into_child-child.ensures.branch in
    subst (λ names. AllByRecursion (λ place. place_cmp place (c.in-Some.opened.name ∷ []) ≡ Less) (keys_of names))
    (sym c.replace.ensures.after) (last_child c.pop.new.self.items c.in-Some.opened top ordered branch)

pub returns-clause-names : goal.returns-clause-names
returns-clause-names c =
    let os = c.pop.new.self.items in
    let child = ap branch c.into_child-child.ensures.child ∙ c.replace.ensures.value in
    ap (names_from os) (c.in_ok-push.ensures
    ∙ (λ i. c.replace.ensures.after i ++ placed c.in-Some.opened.name (child i)))
    ∙ sym (names_push os c.in-Some.opened c.args.self.now.top)
    ∙ ap (λ above. names_from above c.args.self.now.top) (sym c.in-Some.ensures.items)
