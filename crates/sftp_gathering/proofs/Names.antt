-- Lists of names are compared name by name.
use Rattle.std.proofs.Common.{◌≡◌, ◌<◌, ◌+◌, ℕ, Bool, true, false, List, [], ◌∷◌, ◌++◌, length, map, take, Bor, refl, sym, ap, subst, ◌∙◌}
use Rattle.std.specs.Prelude.{get_or, not}
use Rattle.std.proofs.lemmas.List.{take_more, get_or-map, length-map}

-- a name that was given, as the contracts have it
abbrev Given : Type 0
Given = Bor (List ℕ)

within : (found : List (List ℕ)) (names : List Given) (place : ℕ) → place < length found
    → length found ≡ length names → place < length names
within found names place less as_many = subst (λ (count : ℕ). place < count) as_many less

-- so far the names are the same, and so is the next one
pub names-next : (found : List (List ℕ)) (names : List Given) (place : ℕ) (name : List ℕ) (none : Given)
    → place < length found → length found ≡ length names → name ≡ get_or found place name
    → name ≡ (get_or names place none).now → take place found ≡ take place (map (λ (given : Given). given.now) names)
    → take (place + 1) found ≡ take (place + 1) (map (λ (given : Given). given.now) names)
names-next found names place name none less as_many is same before =
    let texts = map (λ (given : Given). given.now) names in
    let here = within found names place less as_many in
    let there = subst (λ (count : ℕ). place < count) (sym (length-map names (λ (given : Given). given.now))) here in
    take_more found place name less
    ∙ ap (λ (xs : List (List ℕ)). xs ++ get_or found place name ∷ []) before
    ∙ ap (λ (x : List ℕ). take place texts ++ x ∷ [])
    (sym is ∙ same ∙ sym (get_or-map (λ (given : Given). given.now) names place none name here))
    ∙ sym (take_more texts place name there)

-- where a name is another one, the lists are
pub names-differ : (found : List (List ℕ)) (names : List Given) (place : ℕ) (name : List ℕ) (none : Given)
    → place < length found → length found ≡ length names → name ≡ get_or found place name
    → (name ≡ (get_or names place none).now → ⊥) → found ≡ map (λ (given : Given). given.now) names → ⊥
names-differ found names place name none less as_many is other same =
    other (is ∙ ap (λ (xs : List (List ℕ)). get_or xs place name) same
    ∙ get_or-map (λ (given : Given). given.now) names place none name (within found names place less as_many))

pub was_true : (same : Bool) → false ≡ not same → true ≡ same
was_true true is = refl
was_true false is = absurd cc

pub was_false : (same : Bool) → true ≡ not same → false ≡ same
was_false true is = absurd cc
was_false false is = refl

pub decides-no : (P : Type 0) → (P → ⊥) → (false ≡ true → P) × (P → false ≡ true)
decides-no P none = (λ (is : false ≡ true). absurd cc, λ holds. absurd (none holds))
