-- An entry at the end of the directory comes at the end of all.
use Rattle.sftp_tree.proofs.Imports.{◌++◌, ◌∷◌, [], ap, sym, ◌∙◌, File, Link, names_in, place_in, names_from}
use Rattle.sftp_tree.proofs.Nesting.{last_in_top, names_more}
use Rattle.sftp_tree.proofs.entries.growing.Growth.add.Goals as goal

pub push-requires-clause-last : goal.push-requires-clause-last
push-requires-clause-last c =
    last_in_top c.args.self.now.above.items c.args.self.now.top (c.args.name ∷ []) c.requires.last

pub push-requires-in-Link-clause-last : goal.push-requires-in-Link-clause-last
push-requires-in-Link-clause-last c =
    last_in_top c.args.self.now.above.items c.args.self.now.top (c.args.name ∷ []) c.requires.last

pub returns-in_ok-push-in-File-clause-names : goal.returns-in_ok-push-in-File-clause-names
returns-in_ok-push-in-File-clause-names c =
    let g = c.args.self.now in
    ap (names_from g.above.items) c.in_ok-push-in-File.ensures
    ∙ names_more g.above.items g.top (c.args.name ∷ []) (File c.in-File.number)
    ∙ ap (λ node. names_in g ++ (place_in g ++ c.args.name ∷ [], node) ∷ []) (sym c.in-File.is)

pub returns-in_ok-push-in-Link-clause-names : goal.returns-in_ok-push-in-Link-clause-names
returns-in_ok-push-in-Link-clause-names c =
    let g = c.args.self.now in
    ap (names_from g.above.items) c.in_ok-push-in-Link.ensures
    ∙ names_more g.above.items g.top (c.args.name ∷ []) (Link c.in-Link.target)
    ∙ ap (λ node. names_in g ++ (place_in g ++ c.args.name ∷ [], node) ∷ []) (sym c.in-Link.is)
