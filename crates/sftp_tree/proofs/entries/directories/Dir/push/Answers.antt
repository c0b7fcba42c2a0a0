-- The child comes last in the map, and so in the table.
use Rattle.sftp_tree.proofs.Imports.{◌≡◌, ◌++◌, ◌∷◌, [], ap, sym, subst, ◌∙◌, AllByRecursion, keys_of, Less, place_cmp}
use Rattle.sftp_tree.proofs.Imports.{branch, placed, flat_of, AreChildren}
use Rattle.sftp_tree.proofs.Nesting.{pushed}
use Rattle.sftp_tree.proofs.entries.directories.Dir.push.Goals as goal

pub invariant_of-self-2 : goal.invariant_of-self-2
invariant_of-self-2 c =
    let last = subst (λ names. AllByRecursion (λ place. place_cmp place (c.args.name ∷ []) ≡ Less) (keys_of names))
    (sym c.self.view_is) c.requires.last in
    subst AreChildren (sym c.in_ok-insert.ensures.entries)
    (pushed c.self.inside.owner c.self.inside.children.entries c.args.name c.args.child c.self.invariant
    c.requires.branch last).are

pub returns : goal.returns
returns c =
    let last = subst (λ names. AllByRecursion (λ place. place_cmp place (c.args.name ∷ []) ≡ Less) (keys_of names))
    (sym c.self.view_is) c.requires.last in
    ap (flat_of c.self.inside.owner) c.in_ok-insert.ensures.entries
    ∙ (pushed c.self.inside.owner c.self.inside.children.entries c.args.name c.args.child c.self.invariant
    c.requires.branch last).flat_is ∙ ap (λ names. names ++ placed c.args.name (branch c.args.child)) c.self.view_is
