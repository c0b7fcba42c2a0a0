-- The bytes of all files together: what a change of one file makes of them.
use Rattle.sftp_tree.proofs.Imports.{◌≡◌, ◌≢◌, ℕ, ◌+◌, ◌-◌, ◌<◌, ◌≤◌, ◌^◌, Bool, true, false, cond, List, [], ◌∷◌}
use Rattle.sftp_tree.proofs.Imports.{length, refl, sym, ap, subst, ◌∙◌, arith, Option, Some, None, IfSome, nat_lt, map}
use Rattle.sftp_tree.proofs.Imports.{if◌then◌else◌, option_map, option_and_then, is_eq, is_at, lookup, remove_entry}
use Rattle.sftp_tree.proofs.Imports.{filter, nat_cmp, nat_cmp_total, nat_cmp-IsAntisymmetric}
use Rattle.sftp_tree.proofs.Imports.{Table, InOrder, get, put, without, retain, get-put_here, get-put_elsewhere}
use Rattle.sftp_tree.proofs.Imports.{get-without_here, InOrder-put, InOrder-without, InOrder-with_values, same_table}
use Rattle.sftp_tree.proofs.Imports.{get-with_values, with_values-put, Content, Stored, Files, content_at, with_content}
use Rattle.sftp_tree.proofs.Imports.{contents, is_held_still, where_held, IsChanged, IsChangedWhereNamed}
use Rattle.sftp_tree.proofs.Imports.{with_content_made, unpinned, without_pins}
use Rattle.sftp_path.proofs.Table.Laws.{get-without_elsewhere}
use Rattle.sftp_tree.specs.Tree.{total_of}
use Rattle.sftp_tree.specs.Changes.{length_of}
use Rattle.sftp_tree.specs.StoredFiles.{length_named, IsSummed}
use Rattle.sftp_tree.proofs.FileCounts.{by-number}

-- ---- one file among all

total-remove : (number : ℕ) (files : Files)
    → total_of (remove_entry (is_at (nat_cmp number)) files) + length_of (lookup (is_at (nat_cmp number)) files)
    ≡ total_of files
total-remove number [] = omega arith
total-remove number (e ∷ files) = by (is_eq (nat_cmp number e.0)) (total-remove number files)
  where
    by : (b : Bool)
        → total_of (remove_entry (is_at (nat_cmp number)) files) + length_of (lookup (is_at (nat_cmp number)) files)
        ≡ total_of files
        → total_of (cond b files (e ∷ remove_entry (is_at (nat_cmp number)) files))
        + length_of (cond b (Some e.1) (lookup (is_at (nat_cmp number)) files))
        ≡ length e.1.bytes + total_of files
    by true rest = omega arith
    by false rest = omega (arith, rest)

pub total-without : (files : Files) (number : ℕ)
    → total_of (without nat_cmp files number) + length_of (content_at files number) ≡ total_of files
unfolding get without
total-without files number = total-remove number files

-- a file has no more bytes than all
pub part-of_total : (files : Files) (number : ℕ) → length_of (content_at files number) ≤ total_of files
part-of_total files number = omega (arith, total-without files number)

-- ---- tables of files that differ at one number

pub total-changed : (files after : Files) (number : ℕ) → InOrder nat_cmp files → InOrder nat_cmp after
    → ((other : ℕ) → other ≢ number → content_at after other ≡ content_at files other)
    → total_of after + length_of (content_at files number) ≡ total_of files + length_of (content_at after number)
total-changed files after number order ordered others =
    omega (arith, ap total_of rest, total-without files number, total-without after number)
  where
    elsewhere : (table : Files) (other : ℕ) → InOrder nat_cmp table → other ≢ number
        → get nat_cmp (without nat_cmp table number) other ≡ get nat_cmp table other
    elsewhere table other in_order differ = get-without_elsewhere nat_cmp nat_cmp_total table number other in_order
        (λ tie. differ (sym (nat_cmp-IsAntisymmetric number other tie)))

    here : (table : Files) (other : ℕ) → InOrder nat_cmp table → other ≡ number
        → get nat_cmp (without nat_cmp table number) other ≡ None
    here table other in_order is = ap (get nat_cmp (without nat_cmp table number)) is
        ∙ get-without_here nat_cmp nat_cmp_total table number in_order

    rest : without nat_cmp after number ≡ without nat_cmp files number
    rest = same_table nat_cmp nat_cmp_total nat_cmp-IsAntisymmetric (without nat_cmp after number)
        (without nat_cmp files number) (InOrder-without nat_cmp after number ordered)
        (InOrder-without nat_cmp files number order) (λ other. by-number number other
        (λ is. here after other ordered is ∙ sym (here files other order is))
        (λ differ. elsewhere after other ordered differ ∙ others other differ ∙ sym (elsewhere files other order differ)))

-- with another content of a file, or with a file more
pub total-put : (files : Files) (number : ℕ) (content : Content) → InOrder nat_cmp files
    → total_of (with_content files number content) + length_of (content_at files number)
    ≡ total_of files + length content.bytes
total-put files number content order =
    let changed = total-changed files (with_content files number content) number order
    (InOrder-put nat_cmp nat_cmp_total files number content order)
    (λ other differ. get-put_elsewhere nat_cmp nat_cmp_total files number other content
    (λ tie. differ (nat_cmp-IsAntisymmetric other number tie))) in
    omega (arith, changed, ap length_of (get-put_here nat_cmp nat_cmp_total files number content))

pub total-with : (files : Files) (number : ℕ) (content : Content) → InOrder nat_cmp files
    → total_of (with_content files number content)
    ≡ total_of files - length_of (content_at files number) + length content.bytes
total-with files number content order =
    omega (arith, total-put files number content order, part-of_total files number)

-- ---- files less

total-filter : (keeps : ℕ × Content → Bool) (files : Files) → total_of (filter keeps files) ≤ total_of files
total-filter keeps [] = omega arith
total-filter keeps (e ∷ files) = by (keeps e) (total-filter keeps files)
  where
    by : (b : Bool) → total_of (filter keeps files) ≤ total_of files
        → total_of (cond b (e ∷ filter keeps files) (filter keeps files)) ≤ length e.1.bytes + total_of files
    by true rest = omega (arith, rest)
    by false rest = omega (arith, rest)

pub total-retain : (files : Files) (keeps : ℕ × Content → Bool) → total_of (retain files keeps) ≤ total_of files
unfolding retain
total-retain files keeps = total-filter keeps files

-- ==== Files as the code keeps them, with the count of their bytes.

module _ (files after : Table ℕ Stored) (order : InOrder nat_cmp files) where
  total-stored : (change : Stored → Option Stored) (number : ℕ) → IsChanged change number files after
      → total_of (contents after) + length_named files (Some number)
      ≡ total_of (contents files) + length_named after (Some number)
  total-stored change number changed =
      let content : Stored → Content = λ s. s.content in
      total-changed (contents files) (contents after) number (InOrder-with_values nat_cmp content files order)
      (InOrder-with_values nat_cmp content after changed.ordered) (λ other differ.
      get-with_values nat_cmp content after other ∙ ap (option_map content) (changed.others other differ)
      ∙ sym (get-with_values nat_cmp content files other))

  -- the file that is named has no more bytes than all
  pub part-summed : (total : ℕ) (named : Option ℕ) → total ≡ total_of (contents files)
      → length_named files named ≤ total
  part-summed total None is = omega arith
  part-summed total (Some number) is = omega (arith, is, part-of_total (contents files) number)

  -- the files are in order when the one that is named was changed
  order-where : (change : Stored → Option Stored) (named : Option ℕ) → IsChangedWhereNamed change named files after
      → InOrder nat_cmp after
  order-where change None same = subst (InOrder nat_cmp) (sym same) order
  order-where change (Some number) changed = changed.ordered

  exchanged-is : (change : Stored → Option Stored) (named : Option ℕ) (total : ℕ) → total ≡ total_of (contents files)
      → IsChangedWhereNamed change named files after
      → total - length_named files named + length_named after named ≡ total_of (contents after)
  exchanged-is change None total is same =
      let alike : total_of (contents after) ≡ total_of (contents files) =
      ap (λ (t : Table ℕ Stored). total_of (contents t)) same in
      omega (arith, is, alike)
  exchanged-is change (Some number) total is changed =
      omega (arith, is, total-stored change number changed, part-summed total (Some number) is)

  -- and have so many bytes together
  pub summed-where : (change : Stored → Option Stored) (named : Option ℕ) (total new : ℕ)
      → total ≡ total_of (contents files) → IsChangedWhereNamed change named files after
      → new ≡ total - length_named files named + length_named after named → IsSummed after new
  summed-where change named total new is changed new-is =
      (order-where change named changed, new-is ∙ exchanged-is change named total is changed)

  -- what of a file is changed decides how many bytes it has
  length-changed : (P : ℕ → ℕ → Type 0) (change : Stored → Option Stored) (number : ℕ)
      → IsChanged change number files after
      → P (length_of (option_map (λ (s : Stored). s.content) (option_and_then change (get nat_cmp files number))))
      (length_of (option_map (λ (s : Stored). s.content) (get nat_cmp files number)))
      → P (length_named after (Some number)) (length_named files (Some number))
  length-changed P change number changed holds =
      let content : Stored → Content = λ s. s.content in
      let now : length_named after (Some number)
      ≡ length_of (option_map content (option_and_then change (get nat_cmp files number))) =
      ap length_of (get-with_values nat_cmp content after number ∙ ap (option_map content) changed.here) in
      let before : length_named files (Some number) ≡ length_of (option_map content (get nat_cmp files number)) =
      ap length_of (get-with_values nat_cmp content files number) in
      subst (λ n. P n (length_named files (Some number))) (sym now)
      (subst (P (length_of (option_map content (option_and_then change (get nat_cmp files number))))) (sym before) holds)

  -- a file that is changed has no more bytes than before, or is gone
  pub shrunk : (change : Stored → Option Stored)
      → ((s : Stored) → length_of (option_map (λ (s : Stored). s.content) (change s)) ≤ length s.content.bytes)
      → (named : Option ℕ) → IsChangedWhereNamed change named files after
      → length_named after named ≤ length_named files named
  shrunk change less None same = omega arith
  shrunk change less (Some number) changed =
      length-changed (λ now before. now ≤ before) change number changed (by (get nat_cmp files number))
    where
      by : (o : Option Stored) → length_of (option_map (λ (s : Stored). s.content) (option_and_then change o))
          ≤ length_of (option_map (λ (s : Stored). s.content) o)
      by None = omega arith
      by (Some s) = less s

  -- the bytes stay
  pub summed-still : (change : Stored → Option Stored)
      → ((s : Stored) → option_map (λ (s : Stored). s.content) (change s) ≡ Some s.content)
      → (named : Option ℕ) (total : ℕ) → total ≡ total_of (contents files)
      → IsChangedWhereNamed change named files after → IsSummed after total
  summed-still change same named total is changed =
      (order-where change named changed, by named changed)
    where
      alike : (o : Option Stored) → length_of (option_map (λ (s : Stored). s.content) (option_and_then change o))
          ≡ length_of (option_map (λ (s : Stored). s.content) o)
      alike None = refl
      alike (Some s) = ap length_of (same s)

      by : (named : Option ℕ) → IsChangedWhereNamed change named files after → total ≡ total_of (contents after)
      by None unchanged = is ∙ ap (λ (t : Table ℕ Stored). total_of (contents t)) (sym unchanged)
      by (Some number) changed =
          let count : length_named after (Some number) ≡ length_named files (Some number) =
          length-changed (λ now before. now ≡ before) change number changed (alike (get nat_cmp files number)) in
          omega (
            arith,
            is,
            exchanged-is change (Some number) total is changed,
            part-summed total (Some number) is,
            count,
          )

  -- another content of a file has a size
  pub changed-small : (change : Content → Content) (number : ℕ)
      → IfSome (get nat_cmp files number) (λ s. length (change s.content).bytes < 2 ^ 63)
      → IsChanged (with_content_made change) number files after → length_named after (Some number) < 2 ^ 63
  changed-small change number small changed =
      length-changed (λ now before. now < 2 ^ 63) (with_content_made change) number changed
      (by (get nat_cmp files number) small)
    where
      by : (o : Option Stored) → IfSome o (λ (s : Stored). length (change s.content).bytes < 2 ^ 63)
          → length_of (option_map (λ (s : Stored). s.content) (option_and_then (with_content_made change) o)) < 2 ^ 63
      by None small = omega arith
      by (Some s) small = small

-- a file that loses a name or a pin is as it was, or is gone
pub held-less : (s : Stored) → length_of (option_map (λ (s : Stored). s.content) (where_held s)) ≤ length s.content.bytes
held-less s = by (is_held_still s)
  where
    by : (b : Bool) → length_of (option_map (λ (s : Stored). s.content) (if b then Some s else None))
        ≤ length s.content.bytes
    by true = omega arith
    by false = omega arith

-- with a file that is put at a number
pub summed-put : (files : Table ℕ Stored) (number : ℕ) (s : Stored) (total new : ℕ) → InOrder nat_cmp files
    → total ≡ total_of (contents files) → new ≡ total - length_named files (Some number) + length s.content.bytes
    → IsSummed (put nat_cmp files number s) new
summed-put files number s total new order is new-is =
    let content : Stored → Content = λ s. s.content in
    let count : total_of (contents (put nat_cmp files number s)) ≡ total_of (with_content (contents files) number s.content) =
    ap total_of (with_values-put nat_cmp content files number s) in
    let all = total-with (contents files) number s.content (InOrder-with_values nat_cmp content files order) in
    (InOrder-put nat_cmp nat_cmp_total files number s order, omega (arith, is, new-is, count, all))

-- without pins there are no more
pub unpinned-less : (files : Table ℕ Stored) → total_of (contents (unpinned files)) ≤ total_of (contents files)
unpinned-less [] = omega arith
unpinned-less (e ∷ es) = by (nat_lt 0 e.1.names) (unpinned-less es)
  where
    by : (b : Bool) → total_of (contents (unpinned es)) ≤ total_of (contents es)
        → total_of (contents (if b then (e.0, without_pins e.1) ∷ unpinned es else unpinned es))
        ≤ length e.1.content.bytes + total_of (contents es)
    by true rest = omega (arith, rest)
    by false rest = omega (arith, rest)

-- ---- one after the other

-- the bytes of files that are left to be counted
abbrev pub left_of : List Stored → ℕ
left_of [] = 0
left_of (s ∷ ss) = length s.content.bytes + left_of ss

pub left-all : (files : Table ℕ Stored) → left_of (map (λ (e : ℕ × Stored). e.1) files) ≡ total_of (contents files)
left-all [] = refl
left-all (e ∷ es) = ap (λ n. length e.1.content.bytes + n) (left-all es)
