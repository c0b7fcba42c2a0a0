-- Formats: how bytes are shown as text and read back. A step appends to what is done, and takes from what is left.
use Rattle.std.specs.Prelude.{◌≡◌, ◌==◌, nat_lt, nat_le, ℕ, zero, suc, ◌+◌, ◌^◌, Bool, false, if◌then◌else◌}
use Rattle.std.specs.Prelude.{List, [], ◌∷◌, ◌++◌, length, take, drop, Option, Some, None, option_and_then}
use Rattle.std.specs.Int.{w32, to_be_bytes, from_be_bytes}

-- What is done so far and what is left give the same after the step, or nothing where the step does not fit.
abbrev pub Step : Type 0
Step = List ℕ → List ℕ → Option (List ℕ × List ℕ)

-- show takes bytes and appends text; read takes text and appends bytes
pub record Format : Type 0 where
  pub show : Step
  pub read : Step

-- the step that changes nothing
abbrev pub stay : Step
stay done left = Some (done, left)

-- one step and then another
abbrev pub after : Step → Step → Step
after first second done left = option_and_then (λ moved. second moved.0 moved.1) (first done left)

-- nothing on either side
abbrev pub nothing : Format
nothing = record { show = stay; read = stay }

-- one format and then another, on both sides
infixr 20 ◌then◌
abbrev pub ◌then◌ : Format → Format → Format
f then g = record { show = after f.show g.show; read = after f.read g.read }

-- what follows the word at the front of a list, or nothing where another list stands there
abbrev pub strip : List ℕ → List ℕ → Option (List ℕ)
strip [] list = Some list
strip (w ∷ word) [] = None
strip (w ∷ word) (c ∷ list) = if w == c then strip word list else None

-- appends what is constant
abbrev pub put : List ℕ → Step
put constant done left = Some (done ++ constant, left)

-- takes what is constant
abbrev pub skip : List ℕ → Step
skip constant done left = option_and_then (λ rest. Some (done, rest)) (strip constant left)

-- this text, and no bytes
abbrev pub word : List ℕ → Format
word text = record { show = put text; read = skip text }

-- these bytes, and no text
abbrev pub mark : List ℕ → Format
mark bytes = record { show = skip bytes; read = put bytes }

-- the number of the given bytes at the front, and what follows
abbrev pub front_number : ℕ → (List ℕ → ℕ) → List ℕ → Option (ℕ × List ℕ)
front_number size value bytes =
    if nat_le size (length bytes) then Some (value (take size bytes), drop size bytes) else None

-- the number of four bytes at the front, and what follows
abbrev pub front_uint32 : List ℕ → Option (ℕ × List ℕ)
front_uint32 bytes = front_number 4 (from_be_bytes w32) bytes

-- A part of which a number tells, as a string's length or a list's count: show is given the number, and read
-- finds it with the part's bytes.
pub record Counted : Type 0 where
  pub show : ℕ → Step
  pub read : List ℕ → Option (ℕ × (List ℕ × List ℕ))

-- bytes behind their number
abbrev pub numbered : List ℕ → ℕ × (List ℕ × List ℕ) → Option (List ℕ × List ℕ)
numbered done found =
    if nat_lt found.0 (2 ^ 32) then Some (done ++ (to_be_bytes w32 found.0 ++ found.1.0), found.1.1) else None

-- a part behind the number that tells of it, which is four bytes and no text
abbrev pub ahead : Counted → Format
ahead part = record {
  show = λ text bytes. option_and_then (λ front. part.show front.0 text front.1) (front_uint32 bytes);
  read = λ bytes text. option_and_then (numbered bytes) (part.read text);
}

-- ---- lists with separators

-- f of the value, or else the other
abbrev pub if_found : {A B : Type 0} → Option A → (A → B) → B → B
if_found None f other = other
if_found (Some x) f other = f x

-- whether a list begins with an element
abbrev pub begins_with : ℕ → List ℕ → Bool
begins_with first [] = false
begins_with first (c ∷ list) = c == first

-- items, each behind a separator
abbrev pub show_each : Format → List ℕ → ℕ → Step
show_each item separator zero = stay
show_each item separator (suc count) = after (word separator then item).show (show_each item separator count)

-- a list: items with a separator between
abbrev pub show_list : Format → List ℕ → ℕ → Step
show_list item separator zero = stay
show_list item separator (suc count) = after item.show (show_each item separator count)

-- items as long as a separator stands in front, at most the given number of them; how many there are, with those before
abbrev pub read_each : Format → List ℕ → ℕ → ℕ → List ℕ → List ℕ → Option (ℕ × (List ℕ × List ℕ))
read_each item separator zero count bytes text = Some (count, (bytes, text))
read_each item separator (suc most) count bytes text =
    if_found (strip separator text)
    (λ rest. option_and_then (λ moved. read_each item separator most (count + 1) moved.0 moved.1)
    (item.read bytes rest))
    (Some (count, (bytes, text)))

-- a list, which has no items where not the character is in front with which an item begins
abbrev pub read_list : Format → ℕ → List ℕ → List ℕ → Option (ℕ × (List ℕ × List ℕ))
read_list item first separator text =
    if begins_with first text
    then option_and_then (λ moved. read_each item separator (length moved.1) 1 moved.0 moved.1) (item.read [] text)
    else Some (0, ([], text))

-- a list whose number of items is known, by the character with which an item begins and the separator
abbrev pub listed : Format → ℕ → List ℕ → Counted
listed item first separator = record {
  show = show_list item separator;
  read = read_list item first separator;
}

-- ---- items up to the end

-- f of a list that has elements, or else what is for none
abbrev pub if_any : {A B : Type 0} → List A → B → B → B
if_any [] some none = none
if_any (x ∷ xs) some none = some

-- a step again and again, until nothing is left, at most the given number of times
abbrev pub repeat : Step → ℕ → Step
repeat step zero done left = stay done left
repeat step (suc most) done left =
    if_any left (option_and_then (λ moved. repeat step most moved.0 moved.1) (step done left)) (stay done left)

-- as often as something is left
abbrev pub repeat_to_end : Step → Step
repeat_to_end step done left = repeat step (length left) done left

-- items up to the end, each behind a separator
abbrev pub to_end : Format → List ℕ → Format
to_end item separator = record {
  show = repeat_to_end (word separator then item).show;
  read = repeat_to_end (word separator then item).read;
}

-- ---- what a line says

-- the line of what a format took from the front of bytes is read as just that
pub record ReadsBack (format : Format) (bytes line left : List ℕ) : Type 0 where
  pub taken : List ℕ
  pub parts : bytes ≡ taken ++ left
  pub back : format.read [] line ≡ Some (taken, [])
