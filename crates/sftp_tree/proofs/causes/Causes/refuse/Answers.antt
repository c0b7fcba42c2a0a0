-- Where no row of the table was found, none is in the set.
use Rattle.sftp_tree.proofs.Imports.{◌≡◌, ◌||◌, Bool, true, false, cond, not, List, [], ◌∷◌, Some, None, refl, sym, ◌∙◌}
use Rattle.sftp_tree.proofs.Imports.{ap, rules, tests, Bor, list_any, find, Cause, every_cause, in_set}
use Rattle.std.specs.Option.{option_map}
use Rattle.std.proofs.lemmas.Iterator.{YieldsList-from_slice}
use Rattle.std.proofs.lemmas.Iterator.Search.{find_from_yields_List}
use Rattle.sftp_tree.proofs.causes.Causes.refuse.Goals as goal

none-found : (test : Cause → Bool) (xs : List Cause) → find test xs ≡ None → list_any test xs ≡ false
none-found test [] e = refl
none-found test (x ∷ xs) e = by (test x) e (none-found test xs)
  where
    by : (b : Bool) → cond b (Some x) (find test xs) ≡ None → (find test xs ≡ None → list_any test xs ≡ false) → (b || list_any test xs) ≡ false
    by true h rest = cc
    by false h rest = rest h

pub returns-in-None-clause-free : goal.returns-in-None-clause-free
returns-in-None-clause-free c =
    let found = find_from_yields_List (in_set c.args.self.now) _ _ c.find.result c.find.ensures.ran (YieldsList-from_slice every_cause cc) (λ x b q k. search (rules, tests)) in
    ap not (none-found (in_set c.args.self.now) every_cause (sym found ∙ ap (option_map (λ (r : Bor Cause). r.now)) c.in-None.is))
