-- Names, places and paths (draft-ietf-secsh-filexfer-02, section 6.2). The limits, and that empty
-- components are passed over, are this profile's own.
use Rattle.std.specs.Prelude.{◌==◌, ◌&&◌, ◌||◌, not, nat_lt, nat_le, nat_eq, ℕ, ◌-◌, Bool, true, false, if◌then◌else◌}
use Rattle.std.specs.Prelude.{List, [], ◌∷◌, length, take, filter, Some, refl, ◌≡◌, ◌++◌, IsTrue}
use Rattle.std.specs.Ordering.{nat_cmp}
use Rattle.std.specs.declared.cmp.Ordering.{Ordering}
use Rattle.std.specs.Cmp.Lexicographic.{slice_cmp, pointwise, slice_partial_cmp, lists_po, lists_agrees, texts_po}
use Rattle.std.specs.List.{list_all, flat_map}
use Rattle.std.proofs.Common.{subst}
use Rattle.std.specs.Cmp.{IsPartialOrder, Agrees}

-- ---- names

-- a name is a list of bytes
abbrev pub Name : Type 0
Name = List ℕ

abbrev pub same_bytes : List ℕ → List ℕ → Bool
same_bytes xs ys = pointwise nat_eq xs ys

-- `.`, which stays
abbrev pub is_dot : List ℕ → Bool
is_dot name = same_bytes name (46 ∷ [])

-- `..`, which goes to the parent
abbrev pub is_dot_dot : List ℕ → Bool
is_dot_dot name = same_bytes name (46 ∷ 46 ∷ [])

-- whether a name may have this byte: a byte, neither 0 nor `/`
abbrev pub is_name_byte : ℕ → Bool
is_name_byte b = nat_lt b 256 && (not (b == 0) && not (b == 47))

-- the most bytes of a name. This profile's own.
abbrev pub name_limit : ℕ
name_limit = 255

-- a name has 1 to 255 bytes, and is neither `.` nor `..`
abbrev pub is_name : List ℕ → Bool
is_name name =
    (nat_lt 0 (length name) && nat_le (length name) name_limit)
    && (list_all is_name_byte name && (not (is_dot name) && not (is_dot_dot name)))

-- what a walk may look at: `.`, `..` or a name
abbrev pub is_step : List ℕ → Bool
is_step component = is_dot component || (is_dot_dot component || is_name component)

-- byte strings, and so names, are ordered by their first bytes that differ, and one before those that it begins
abbrev pub bytes_cmp : List ℕ → List ℕ → Ordering
bytes_cmp = slice_cmp nat_cmp

abbrev pub name_cmp : Name → Name → Ordering
name_cmp = bytes_cmp

-- ---- places

-- the names that lead to it from the root, which has none
abbrev pub Place : Type 0
Place = List Name

-- each of them is a name
abbrev pub are_names : Place → Bool
are_names place = list_all is_name place

-- places are ordered name by name, and one before those that it begins
abbrev pub place_cmp : Place → Place → Ordering
place_cmp = slice_cmp name_cmp

-- the place without its last name; the root's is the root
abbrev pub parent : Place → Place
parent place = take (length place - 1) place

-- whether the second place is the first, or is below it
abbrev pub begins : Place → Place → Bool
begins [] place = true
begins (m ∷ ms) [] = false
begins (m ∷ ms) (n ∷ ns) = same_bytes m n && begins ms ns

-- whether the second place is below the first
abbrev pub is_below : Place → Place → Bool
is_below [] [] = false
is_below [] (n ∷ ns) = true
is_below (m ∷ ms) [] = false
is_below (m ∷ ms) (n ∷ ns) = same_bytes m n && is_below ms ns

-- the most names of a place. This profile's own.
abbrev pub depth_limit : ℕ
depth_limit = 64

-- the absolute text of a place: a `/` before each name, and `/` alone for the root
abbrev pub absolute : Place → List ℕ
absolute [] = 47 ∷ []
absolute (n ∷ ns) = flat_map (λ name. 47 ∷ name) (n ∷ ns)

-- ---- paths

-- a byte that is no `/`
abbrev pub is_inner : ℕ → Bool
is_inner b = not (b == 47)

-- a byte in front of the first part
abbrev pub with_first : ℕ → List (List ℕ) → List (List ℕ)
with_first b [] = (b ∷ []) ∷ []
with_first b (part ∷ parts) = (b ∷ part) ∷ parts

-- what is before, between and after the slashes
unfoldable pub parts : List ℕ → List (List ℕ)
parts [] = [] ∷ []
parts (b ∷ bytes) = if b == 47 then [] ∷ parts bytes else with_first b (parts bytes)

abbrev pub is_nonempty : List ℕ → Bool
is_nonempty part = nat_lt 0 (length part)

-- the components of a path: its parts but for the empty ones
unfoldable pub components : List ℕ → List (List ℕ)
components path = filter is_nonempty (parts path)

-- a path that starts with `/` starts at the root
abbrev pub is_absolute : List ℕ → Bool
is_absolute [] = false
is_absolute (b ∷ bytes) = b == 47

-- the most bytes of a path. This profile's own.
abbrev pub path_limit : ℕ
path_limit = 4096

-- a path has no byte 0, at most 4,096 bytes, and no component of more than 255
unfoldable pub is_good_path : List ℕ → Bool
is_good_path path =
    nat_le (length path) path_limit
    && (list_all (λ b. not (b == 0)) path && list_all (λ part. nat_le (length part) name_limit) (components path))

-- ==== The order of places is one.

pub places_po : IsPartialOrder (pointwise (pointwise nat_eq)) (λ xs ys. Some (slice_cmp (slice_cmp nat_cmp) xs ys))
places_po =
    let o = lists_po texts_po in
    let a : Agrees (slice_partial_cmp (λ x y. Some (slice_cmp nat_cmp x y))) (slice_cmp (slice_cmp nat_cmp)) =
    lists_agrees (λ x y. refl) in
    subst (IsPartialOrder (pointwise (pointwise nat_eq))) (λ i xs ys. a xs ys i) o

-- ==== What follows the first part of a path.

-- nothing, or a `/` and what follows it
abbrev pub begins_at_slash : List ℕ → Bool
begins_at_slash [] = true
begins_at_slash (b ∷ bytes) = b == 47

-- the parts after the first `/`, and none of no bytes
abbrev pub parts_after : List ℕ → List (List ℕ)
parts_after [] = []
parts_after (b ∷ bytes) = parts bytes

-- ==== A path that was split into its components.

pub record Split : Type 0 where
  -- whether the path starts at the root
  pub absolute : Bool
  -- the components that are still to come
  pub left : List (List ℕ)

-- ==== The texts of places.

-- what is the absolute text of a place
abbrev pub IsTextOf : List ℕ → Place → Type 0
IsTextOf text place = IsTrue (are_names place) × (text ≡ absolute place)

-- the parts again, with a `/` between each and the next
abbrev pub with_slashes : List (List ℕ) → List ℕ
with_slashes [] = []
with_slashes (part ∷ []) = part
with_slashes (part ∷ next ∷ parts) = part ++ 47 ∷ with_slashes (next ∷ parts)
