-- The values of a name among the rows of a parse.
use Rattle.std.proofs.Common.{◌≡◌, ℕ, List, [], ◌∷◌, Option, Some, None, map, slice_get, refl, ap, ◌∙◌, inl, inr, ◌+◌}
use Rattle.std.proofs.Common.{◌<◌, ◌≤◌, Bool, length, get_or, drop}
use Rattle.std.specs.Prelude.{option_map, option_and_then, find, bytes_eq, codes}
use Rattle.std.proofs.lemmas.Bool.{cases_Bool}
use Rattle.clap.specs.Matches.{matched_of, raw_values, first_value}
use Rattle.clap.specs.Walk.{Row, row_of, rows_of}
use Rattle.clap.specs.declared.parser.matches.Found.{Found}
use Rattle.clap.specs.declared.parser.matches.MatchedArg.{MatchedArg}
use Rattle.std.specs.Borrow.{Bor}
use Rattle.sftp_options.specs.Options.{value_in, values_in}
use Rattle.sftp_options.specs.Options.{Options, options_in, options_found, with_departure}
use Rattle.std.proofs.lemmas.List.{at_drop_more, at_drop_all}
use Rattle.sftp_profile.specs.declared.profiles.Profile.{Profile}
unfoldable use Rattle.sftp_options.specs.Options.{with_names}

abbrev Entry : Type 0
Entry = Bor (List ℕ) × MatchedArg

row-found : (id : List ℕ) (entries : List Entry)
    → find (λ (row : Row). bytes_eq row.id id) (map row_of entries)
    ≡ option_map row_of (find (λ (e : Entry). bytes_eq e.0.now id) entries)
row-found id [] = refl
row-found id (e ∷ entries) =
    elim (cases_Bool (bytes_eq e.0.now id)) [
      | inl same ↦ rw same refl
      | inr other ↦ rw other (row-found id entries)
    ]

values-of-row : (e : Option Entry)
    → option_map (λ (row : Row). row.values) (option_map row_of e) ≡ option_map raw_values (option_map (λ (e : Entry). e.1) e)
values-of-row None = refl
values-of-row (Some e) = refl

first-text : (texts : List (Bor (List ℕ)))
    → slice_get (map (λ (t : Bor (List ℕ)). t.now) texts) 0 ≡ option_map (λ (t : Bor (List ℕ)). t.now) (slice_get texts 0)
first-text [] = refl
first-text (t ∷ texts) = refl

first-of-row : (e : Option Entry)
    → option_and_then (λ (values : List (List ℕ)). slice_get values 0) (option_map (λ (row : Row). row.values) (option_map row_of e))
    ≡ option_and_then (λ a. option_map (λ s. s.now) (slice_get a.vals.items 0)) (option_map (λ (e : Entry). e.1) e)
first-of-row None = refl
first-of-row (Some e) = first-text e.1.vals.items

-- all values of a name
pub values_given : (found : Found) (id : List ℕ)
    → values_in (rows_of found) id ≡ option_map raw_values (matched_of found id)
values_given found id =
    ap (option_map (λ (row : Row). row.values)) (row-found id found.entries.items) ∙ values-of-row _

-- the first of them
pub value_given : (found : Found) (id : List ℕ) → value_in (rows_of found) id ≡ first_value found id
value_given found id =
    ap (λ o. option_and_then (λ (values : List (List ℕ)). slice_get values 0) (option_map (λ (row : Row). row.values) o)) (row-found id found.entries.items)
    ∙ first-of-row _

-- ---- the options that say which profile is meant

options : Option (List ℕ) → Option (List (List ℕ)) → Option (List (List ℕ)) → Option (List ℕ) → Option (List ℕ) → Options
options base allowed excepted rule order = record {
  base = base;
  allowed = allowed;
  excepted = excepted;
  rule = rule;
  order = order;
}

same-options : {b b2 r r2 o o2 : Option (List ℕ)} {a a2 e e2 : Option (List (List ℕ))} → b ≡ b2 → a ≡ a2 → e ≡ e2
    → r ≡ r2 → o ≡ o2 → options b a e r o ≡ options b2 a2 e2 r2 o2
same-options base allowed excepted rule order = cc

pub options_given : (found : Found) → options_in (rows_of found) ≡ options_found found
unfolding options
options_given found =
    same-options (value_given found (codes "profile")) (values_given found (codes "allow"))
    (values_given found (codes "except")) (value_given found (codes "new-owner"))
    (value_given found (codes "symlink"))

-- ==== The departures that options name, one after the other.

-- the next name is switched
pub names-turn : {A : Type 0} (text : A → List ℕ) (is_on : Bool) (profile : Profile) (names : List A) (i : ℕ) (d : A)
    → i < length names
    → with_names is_on profile (map text (drop i names))
    ≡ with_names is_on (with_departure is_on profile (text (get_or names i d))) (map text (drop (i + 1) names))
unfolding with_names
names-turn text is_on profile names i d within =
    at_drop_more (λ (l : List _). with_names is_on profile (map text l)) names i d within

-- once none is left, the profile is the one
pub names-end : {A : Type 0} (text : A → List ℕ) (is_on : Bool) (profile : Profile) (names : List A) (i : ℕ)
    → length names ≤ i → with_names is_on profile (map text (drop i names)) ≡ profile
unfolding with_names
names-end text is_on profile names i within =
    at_drop_all (λ (l : List _). with_names is_on profile (map text l)) names i within
