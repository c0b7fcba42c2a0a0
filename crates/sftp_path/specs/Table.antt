-- Finite maps that compute. A table is the list of its entries in rising order of their keys, which is what
-- a clause sees of a `BTreeMap`. Each operation takes the comparison of the keys.
use Rattle.std.specs.Prelude.{ℕ, Bool, List, [], ◌∷◌, length, filter, map, Option, Some, None, cond, ◌≡◌, ◌++◌}
use Rattle.std.specs.Prelude.{if◌then◌else◌, drop}
use Rattle.std.specs.declared.cmp.Ordering.{Ordering}
use Rattle.std.specs.BTreeMap.{insert_entry, is_at}
use Rattle.std.specs.Map.{lookup, remove_entry, keys_of}
use Rattle.std.specs.List.Sorted.{IsStrictlySortedBy}
use Rattle.sftp_path.specs.Place.{Place, begins, place_cmp}

abbrev pub Table : Type 0 → Type 0 → Type 0
Table K X = List (K × X)

module _ {K X : Type 0} where
  -- how many entries
  abbrev pub size : Table K X → ℕ
  size table = length table

  -- the entries that pass a test
  unfoldable pub retain : Table K X → (K × X → Bool) → Table K X
  retain table keeps = filter keeps table

  -- how many values pass a test
  abbrev pub count : Table K X → (X → Bool) → ℕ
  count table passes = size (retain table (λ e. passes e.1))

  -- what of a value at a key passes a test
  abbrev pub kept : (K × X → Bool) → K → Option X → Option X
  kept keeps key None = None
  kept keeps key (Some value) = cond (keeps (key, value)) (Some value) None

  module _ (cmp : K → K → Ordering) where
    -- the keys rise, each coming once
    abbrev pub InOrder : Table K X → Type 0
    InOrder table = IsStrictlySortedBy cmp (keys_of table)

    -- the value of a key
    unfoldable pub get : Table K X → K → Option X
    get table key = lookup (is_at (cmp key)) table

    -- with this at the key
    unfoldable pub put : Table K X → K → X → Table K X
    put table key value = insert_entry cmp table key value

    -- with nothing at the key
    unfoldable pub without : Table K X → K → Table K X
    without table key = remove_entry (is_at (cmp key)) table

    -- the table of these entries; of those with one key, the first
    unfoldable pub from_entries : List (K × X) → Table K X
    unfolding put
    from_entries [] = []
    from_entries (e ∷ es) = put (from_entries es) e.0 e.1

-- the keys with other values
abbrev pub with_values : {K X Y : Type 0} → (X → Y) → Table K X → Table K Y
with_values f table = map (λ e. (e.0, f e.1)) table

-- ==== A directory that moves in a table of places: it goes to another place, with all that is below it.

-- the old place and those below it become the new place and those below it; other places stay
abbrev pub renamed : Place → Place → Place → Place
renamed old new place = if begins old place then new ++ drop (length old) place else place

module _ {X : Type 0} where
  -- the entry with its place renamed
  abbrev pub renamed_entry : Place → Place → Place × X → Place × X
  renamed_entry old new entry = (renamed old new entry.0, entry.1)

  -- the table of the entries with their places renamed; of those that come to one place, the first
  unfoldable pub rekeyed : Place → Place → Table Place X → Table Place X
  rekeyed old new table = from_entries place_cmp (map (renamed_entry old new) table)

  -- there is no entry at the place or below it
  abbrev pub NothingFrom : Table Place X → Place → Type 0
  NothingFrom table place = (rest : Place) → get place_cmp table (place ++ rest) ≡ None
