-- The directory that gets the entry is open.
use Rattle.sftp_tree.proofs.Imports.{◌≡◌, ◌++◌, ◌∷◌, [], ap, sym, subst, ◌∙◌, AllByRecursion, keys_of, Less, Place}
use Rattle.sftp_tree.proofs.Imports.{place_cmp, names_in, place_in, open_after, Names}
use Rattle.sftp_tree.proofs.entries.growing.Growth.put.Goals as goal

pub add-requires : goal.add-requires
add-requires c =
    let closed = c.in_ok-close_below.ensures in
    let name = c.args.name in
    let at_top = subst (λ (top : Place). AllByRecursion (λ other. place_cmp other (top ++ name ∷ []) ≡ Less)
    (keys_of (names_in c.args.self.now))) (sym closed.place) c.requires.last in
    record {
      last = subst (λ (names : Names). AllByRecursion
          (λ other. place_cmp other (place_in c.close_below.new.self ++ name ∷ []) ≡ Less) (keys_of names))
          (sym closed.names) at_top;
    }

pub returns-clause-names : goal.returns-clause-names
returns-clause-names c =
    let closed = c.in_ok-close_below.ensures in
    c.in_ok-add.ensures.names ∙ (λ i. closed.names i ++ (closed.place i ++ c.args.name ∷ [], c.args.node) ∷ [])

pub returns-clause-place : goal.returns-clause-place
returns-clause-place c = c.in_ok-add.ensures.place
    ∙ ap (λ (top : Place). open_after (top ++ c.args.name ∷ []) c.args.node) c.in_ok-close_below.ensures.place
