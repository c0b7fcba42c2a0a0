-- Files by their numbers: what a WRITE leaves, and what a pin more or less leaves.
use Rattle.sftp_tree.proofs.Imports.{◌≡◌, ℕ, ◌+◌, ◌-◌, ◌<◌, ◌==◌, ◌||◌, Bool, true, false, List, ◌++◌, length, take}
use Rattle.sftp_tree.proofs.Imports.{drop, append_assoc, refl, ap, ◌∙◌, arith, Option, Some, None, is_some, IsTrue}
use Rattle.sftp_tree.proofs.Imports.{nat_le, nat_lt, if◌then◌else◌, nat_cmp, nat_cmp-IsAntisymmetric, and_from}
use Rattle.sftp_tree.proofs.Imports.{nat_tests, length-append, length-drop, take_at, drop_at, list_all-append, Attrs}
use Rattle.sftp_tree.proofs.Imports.{IsAttrs, TreeLimits, are_bytes, Content, Tree, IsKept, IsContent, HasFile}
use Rattle.sftp_tree.proofs.Imports.{limits, fits, content_at, resized, size_fits, overwritten, written, write_fits}
use Rattle.sftp_tree.proofs.Imports.{written_content, with_written_file, after_write, after_set, ◌≢◌, ◌^◌, sym, subst}
use Rattle.sftp_tree.proofs.Imports.{IfSome, option_map, option_and_then, unwrap_or, nat_cmp_total, AllByRecursion}
use Rattle.sftp_tree.proofs.Imports.{lt-ltb, ltb-true, or_right, same_Some, Place, Table, InOrder, get, retain, kept}
use Rattle.sftp_tree.proofs.Imports.{same_table, get-with_values, Stored, Names, Pins, WellFormed, IsPin, times_named}
use Rattle.sftp_tree.proofs.Imports.{is_named, times_pinned, is_pinned, is_held, with_pins, with_pin, without_pin}
use Rattle.sftp_tree.proofs.Imports.{contents, pin_count_at, pins_of, seen, AreCounted, is_held_still, IsChanged}
use Rattle.sftp_tree.proofs.Imports.{with_a_pin, without_a_pin, after_pin, after_unpin, [], trim, unpinned}
use Rattle.sftp_tree.proofs.PlaceTables.{each-get, each-weaker, get-each}
use Rattle.sftp_tree.proofs.WellFormedTrees.{resized-bytes, bytes-dropped, changed-owner-fits}
use Rattle.sftp_tree.proofs.Limits.{fits-content, content-fits}
use Rattle.sftp_tree.proofs.KeptTrees.{kept-content-within, kept-changed}
use Rattle.sftp_tree.proofs.CauseLaws.{length-resized, changed-room}
use Rattle.sftp_tree.proofs.Limits.{fits-parts, fits-from}
use Rattle.sftp_tree.proofs.FileCounts.{by-number, stays, pin_entry, get-with_pins_here, get-with_pins_elsewhere}
use Rattle.sftp_tree.proofs.FileCounts.{InOrder-with_pins, InOrder-pins, times_pinned-stored, times_pinned-here}
use Rattle.sftp_tree.proofs.FileCounts.{times_pinned-elsewhere, changed-pins_to, pins-where_held}
use Rattle.sftp_tree.proofs.FileCounts.{at-number, at-entries, count-at, same-contents, gone-content}
use Rattle.sftp_tree.proofs.FileCounts.{stayed-content, left-contents, left-where_held}
use Rattle.sftp_tree.proofs.KeptTrees.{kept-trim}
use Rattle.sftp_tree.proofs.KeptTrees.Counts.{files-in_order, each-some}
use Rattle.sftp_path.proofs.Table.Laws.{InOrder-empty}
use Rattle.sftp_tree.proofs.FileCounts.{unpinned-pins, unpinned-counted, unpinned-contents}
use Rattle.std.specs.Prelude.{◌&&◌, max, min, ◌*◌}
use Rattle.std.specs.List.Sorted.{IsStrictlySortedBy}
use Rattle.std.specs.declared.cmp.Ordering.TheVariants.{Less, Equal, Greater}
use Rattle.sftp_treefile.specs.TreeFileParts.{AreRaised}
use Rattle.sftp_treefile.specs.TreeFile.{AreLimits}
use Rattle.sftp_tree.proofs.Imports.{and_parts, eqb-true, get-put_here, with_content, changed_content, with_changed_file}
use Rattle.sftp_tree.proofs.Imports.{with_new_file}
use Rattle.sftp_tree.proofs.Imports.{◌∷◌, ◌≤◌, cond, keys_of, Files, leb-true, le-leb}
use Rattle.sftp_tree.proofs.PlaceTables.{each-all}
use Rattle.sftp_treefile.specs.TreeFile.{numbers}
use Rattle.sftp_tree.specs.Tree.{content_fits, total_of, told_limits}
use Rattle.sftp_tree.specs.Changes.{length_of, total_fits_with, end_fits}
use Rattle.sftp_tree.proofs.Limits.{total-same}

-- ==== A file to which bytes are written: its size, and that the tree stays one within the limits.

-- ---- the size

length-overwritten : (offset : ℕ) (new bytes : List ℕ)
    → length (overwritten offset new bytes) ≡ offset + length new + (length bytes - (offset + length new))
length-overwritten offset new bytes = omega (
  arith,
  length-append (resized offset bytes ++ new) (drop (offset + length new) bytes),
  length-append (resized offset bytes) new,
  length-resized offset bytes,
  length-drop (offset + length new) bytes,
)

-- a file, and all together, keep to the limits after a WRITE just where the WRITE does
pub room-written : (t : Tree) (number offset : ℕ) (new : List ℕ) (content : Content) → IsTrue (fits t)
    → content_at t.files number ≡ Some content
    → (content_fits (limits t) (written_content offset new content)
    && total_fits_with t number (length (written offset new content.bytes))) ≡ write_fits t number offset new
room-written t number offset new content within there = by (length new == 0)
  where
    bytes : List ℕ
    bytes = content.bytes

    most : ℕ
    most = (limits t).file_bytes

    end : ℕ
    end = offset + length new

    larger : (n m limit : ℕ) → nat_le n limit ≡ true → nat_le (m + (n - m)) limit ≡ nat_le m limit
    larger n m limit fit = grind (arith, nat_tests)

    is_larger : (n m before : ℕ) → before ≡ n → m + (n - m) ≡ max before m
    is_larger n m before is = omega (arith, is)

    by : (empty : Bool) → (nat_le (length (if empty then bytes else overwritten offset new bytes)) most
        && total_fits_with t number (length (if empty then bytes else overwritten offset new bytes)))
        ≡ (empty || end_fits t number end)
    by true = (λ i. content-fits t number content within there i && total-same t number content within there i)
    by false =
        let count = length-overwritten offset new bytes in
        let file = ap (λ n. nat_le n most) count ∙ larger (length bytes) end most (content-fits t number content within there) in
        let total = ap (total_fits_with t number) (count ∙ is_larger (length bytes) end (length_of (content_at t.files number)) (ap length_of there)) in
        (λ i. file i && total i)

-- the tree is within the limits after a WRITE just where the WRITE keeps to those of a file and of all
pub write-room : (t : Tree) (number offset : ℕ) (new : List ℕ) → IsTrue (fits t) → InOrder nat_cmp t.files
    → HasFile t.files number → fits (after_write t number offset new) ≡ write_fits t number offset new
write-room t number offset new within order there = by (content_at t.files number) refl there
  where
    by : (o : Option Content) → content_at t.files number ≡ o → is_some o ≡ true
        → fits (with_written_file t offset new number o) ≡ write_fits t number offset new
    by None is there = absurd cc
    by (Some content) is there = fits-content t number (written_content offset new content) within order
        ∙ room-written t number offset new content within is

-- ---- the tree

content-of : (t : Tree) (number : ℕ) (content : Content) → IsKept t → content_at t.files number ≡ Some content
    → IsContent content
content-of t number content kept is =
    each-get nat_cmp nat_cmp-IsAntisymmetric (λ e. IsContent e.1) t.files number content kept.well_formed.contents is

overwritten-bytes : (offset : ℕ) (new bytes : List ℕ) → IsTrue (are_bytes new) → IsTrue (are_bytes bytes)
    → IsTrue (are_bytes (overwritten offset new bytes))
overwritten-bytes offset new bytes fit before =
    list_all-append (λ b. nat_lt b 256) (resized offset bytes ++ new) (drop (offset + length new) bytes)
    ∙ and_from (are_bytes (resized offset bytes ++ new)) (are_bytes (drop (offset + length new) bytes))
    (list_all-append (λ b. nat_lt b 256) (resized offset bytes) new
    ∙ and_from (are_bytes (resized offset bytes)) (are_bytes new) (resized-bytes offset bytes before) fit)
    (bytes-dropped (offset + length new) bytes before)

written-bytes : (offset : ℕ) (new bytes : List ℕ) → IsTrue (are_bytes new) → IsTrue (are_bytes bytes)
    → IsTrue (are_bytes (written offset new bytes))
written-bytes offset new bytes fit before = by (length new == 0)
  where
    by : (empty : Bool) → IsTrue (are_bytes (if empty then bytes else overwritten offset new bytes))
    by true = before
    by false = overwritten-bytes offset new bytes fit before

-- after a WRITE that the limits allow a tree is one of the program
pub kept-write : (t : Tree) (number offset : ℕ) (new : List ℕ) → IsKept t → IsTrue (are_bytes new)
    → IsTrue (write_fits t number offset new) → IsKept (after_write t number offset new)
kept-write t number offset new kept fit room = by (content_at t.files number) refl
  where
    by : (o : Option Content) → content_at t.files number ≡ o → IsKept (with_written_file t offset new number o)
    by None is = kept
    by (Some content) is =
        let before : IsContent content = content-of t number content kept is in
        let within = fits-content t number (written_content offset new content) kept.within_limits
        kept.well_formed.numbered ∙ room-written t number offset new content kept.within_limits is ∙ room in
        kept-content-within t number content (written_content offset new content) kept is
        (before.0, written-bytes offset new content.bytes fit before.1) within

-- after an FSETSTAT that the limits allow a tree is one of the program
pub kept-set : (t : Tree) (number : ℕ) (attrs : Attrs) → IsKept t → IsAttrs attrs → HasFile t.files number
    → IsTrue (size_fits t number attrs.size) → IsKept (after_set t number attrs)
kept-set t number attrs kept fits there room = kept-changed t attrs number kept
    (λ content is. changed-owner-fits attrs content.owner fits (content-of t number content kept is).0)
    (changed-room t attrs number kept (content_at t.files number) refl there ∙ room)

-- ---- how many bytes there may be at most

pub total-small : (t : Tree) → IsKept t → total_of t.files < 2 ^ 63
total-small t kept =
    let most = leb-true (total_of t.files) (limits t).total_bytes (fits-parts t kept.within_limits).total in
    omega (arith, most, kept.well_formed.limits.total_bytes.1)

-- where the bytes of a WRITE end
pub write-end : (t : Tree) (number offset : ℕ) (new : List ℕ) → IsKept t → IsTrue (write_fits t number offset new)
    → 0 < length new → offset + length new ≤ 1099511627776
write-end t number offset new kept fit some = by (length new == 0) refl fit
  where
    by : (b : Bool) → (length new == 0) ≡ b → (b || end_fits t number (offset + length new)) ≡ true
        → offset + length new ≤ 1099511627776
    by true is fit = absurd (omega (arith, some, eqb-true (length new) 0 is))
    by false is fit =
        let parts = and_parts (nat_le (offset + length new) (limits t).file_bytes) _ fit in
        omega (arith, leb-true (offset + length new) (limits t).file_bytes parts.0, kept.well_formed.limits.file_bytes.1)

pub written-small : (t : Tree) (number offset : ℕ) (new : List ℕ) (content : Content) → IsKept t
    → content_at t.files number ≡ Some content → IsTrue (write_fits t number offset new)
    → length (written offset new content.bytes) < 2 ^ 63
written-small t number offset new content kept there fit =
    let both = and_parts (content_fits (limits t) (written_content offset new content)) _
    (room-written t number offset new content kept.within_limits there ∙ fit) in
    omega (arith, leb-true (length (written offset new content.bytes)) (limits t).file_bytes both.0, kept.well_formed.limits.file_bytes.1)

-- a content that a tree within the limits has
with-small : (t : Tree) (number : ℕ) (content : Content) → AreLimits (limits t) → IsTrue (fits t)
    → content_at t.files number ≡ Some content → length content.bytes < 2 ^ 63
with-small t number content are within there = omega (
  arith,
  leb-true (length content.bytes) (limits t).file_bytes (content-fits t number content within there),
  are.file_bytes.1,
)

pub changed-count : (t : Tree) (number : ℕ) (attrs : Attrs) (content : Content) → IsKept t
    → IsTrue (fits (with_changed_file t attrs number (Some content))) → length (changed_content attrs content).bytes < 2 ^ 63
changed-count t number attrs content kept within =
    let new = changed_content attrs content in
    with-small (record t { files = with_content t.files number new }) number new kept.well_formed.limits within
    (get-put_here nat_cmp nat_cmp_total t.files number new)

pub made-count : (t : Tree) (place : Place) (content : Content) → IsKept t → IsTrue (fits (with_new_file t place content))
    → length content.bytes < 2 ^ 63
made-count t place content kept within = with-small (with_new_file t place content) t.made content
    kept.well_formed.limits within (get-put_here nat_cmp nat_cmp_total t.files t.made content)

-- ---- what is read after a WRITE

module _ (offset : ℕ) (new bytes : List ℕ) where
  abbrev behind : List ℕ
  behind = drop (offset + length new) bytes

  some-written : 0 < length new → written offset new bytes ≡ overwritten offset new bytes
  some-written some = by (length new) some
    where
      by : (n : ℕ) → 0 < n → (if n == 0 then bytes else overwritten offset new bytes) ≡ overwritten offset new bytes
      by n some =
          let other : (n == 0) ≡ false = grind (arith, nat_tests) in
          ap (λ b. if b then bytes else overwritten offset new bytes) other

  pub before-written : 0 < length new → take offset (written offset new bytes) ≡ resized offset bytes
  before-written some = ap (take offset) (some-written some ∙ append_assoc (resized offset bytes) new behind)
      ∙ take_at (resized offset bytes) (new ++ behind) offset (length-resized offset bytes)

  pub there-written : 0 < length new → take (length new) (drop offset (written offset new bytes)) ≡ new
  there-written some =
      ap (λ bs. take (length new) (drop offset bs)) (some-written some ∙ append_assoc (resized offset bytes) new behind)
      ∙ ap (take (length new)) (drop_at (resized offset bytes) (new ++ behind) offset (length-resized offset bytes))
      ∙ take_at new behind (length new) refl

  pub behind-written : 0 < length new → drop (offset + length new) (written offset new bytes) ≡ behind
  behind-written some = ap (drop (offset + length new)) (some-written some)
      ∙ drop_at (resized offset bytes ++ new) behind (offset + length new)
      (length-append (resized offset bytes) new ∙ ap (λ n. n + length new) (length-resized offset bytes))

-- ==== A file with a pin more or less: the counts stay right, and the tree stays one within the limits.

-- ---- the tree

-- a file that is pinned exists
pub pinned-there : (t : Tree) (number : ℕ) → WellFormed t → IsTrue (is_pinned t.pins number) → HasFile t.files number
pinned-there t number well pinned = by (get nat_cmp t.pins number) refl pinned
  where
    by : (o : Option ℕ) → get nat_cmp t.pins number ≡ o → nat_lt 0 (unwrap_or o 0) ≡ true → HasFile t.files number
    by None is pinned = absurd (never 0 (ltb-true 0 0 pinned))
      where
        never : (n : ℕ) → n < 0 → ⊥
        never n less = omega arith
    by (Some often) is pinned =
        (each-get nat_cmp nat_cmp-IsAntisymmetric (λ e. IsPin t.files e) t.pins number often well.pinned is).1

-- pins of files that exist, by their numbers
pins-of_files : (t : Tree) (number often : ℕ) → WellFormed t → HasFile t.files number
    → AllByRecursion (λ e. IsPin t.files e) (with_pins t.pins number often)
pins-of_files t number often well there =
    get-each nat_cmp nat_cmp-IsAntisymmetric nat_cmp_total (λ e. IsPin t.files e) (with_pins t.pins number often)
    (InOrder-with_pins t.pins number often well.pins) (λ other count found. by-number number other (λ is.
    let at : pin_entry often ≡ Some count =
    sym (get-with_pins_here t.pins number often well.pins) ∙ ap (get nat_cmp (with_pins t.pins number often)) (sym is)
    ∙ found in
    (some-count often count at, ap (λ n. is_some (content_at t.files n)) is ∙ there)) (λ differ.
    each-get nat_cmp nat_cmp-IsAntisymmetric (λ e. IsPin t.files e) t.pins other count well.pinned
    (sym (get-with_pins_elsewhere t.pins number often other well.pins differ) ∙ found)))
  where
    some-count : (often count : ℕ) → pin_entry often ≡ Some count → 0 < count
    some-count often count = by (nat_lt 0 often) refl
      where
        by : (b : Bool) → nat_lt 0 often ≡ b → (if b then Some often else None) ≡ Some count → 0 < count
        by true some is = subst (λ n. 0 < n) (same_Some often count is) (ltb-true 0 often some)
        by false none is = absurd cc

-- a tree with other pins is one, where they are pins of its files
pub well-formed-pins : (t : Tree) (pins : Pins) → WellFormed t → InOrder nat_cmp pins
    → AllByRecursion (λ e. IsPin t.files e) pins → WellFormed (record t { pins = pins })
well-formed-pins t pins well order of_files = record {
  ordered = well.ordered;
  named = well.named;
  nodes = well.nodes;
  root = well.root;
  parents = well.parents;
  numbered = well.numbered;
  contents = well.contents;
  given = well.given;
  pins = order;
  pinned = of_files;
  limits = well.limits;
  home = well.home;
  uid = well.uid;
  gid = well.gid;
}

-- with a file pinned so often
well-formed-with_pins : (t : Tree) (number often : ℕ) → WellFormed t → HasFile t.files number
    → WellFormed (record t { pins = with_pins t.pins number often })
well-formed-with_pins t number often well there =
    well-formed-pins t (with_pins t.pins number often) well (InOrder-with_pins t.pins number often well.pins)
    (pins-of_files t number often well there)

pub fits-pins : (t : Tree) (pins : Pins) → IsTrue (fits t) → IsTrue (fits (record t { pins = pins }))
fits-pins t pins within =
    let parts = fits-parts t within in
    fits-from (record t { pins = pins }) (record {
      entries = parts.entries;
      depths = parts.depths;
      home = parts.home;
      links = parts.links;
      files = parts.files;
      total = parts.total;
      numbers = parts.numbers;
    })

-- with a pin less
pub kept-unpin : (t : Tree) (number : ℕ) → IsKept t → HasFile t.files number → IsKept (after_unpin t number)
kept-unpin t number kept there = kept-trim (record t { pins = without_pin t.pins number })
    (well-formed-with_pins t number (times_pinned t.pins number - 1) kept.well_formed there)
    (fits-pins t (without_pin t.pins number) kept.within_limits)

-- with a pin more each file is held still
held-pinned : (t : Tree) (number other : ℕ) → InOrder nat_cmp t.pins → IsTrue (is_held t other)
    → IsTrue (is_held (after_pin t number) other)
held-pinned t number other order held =
    let often = times_pinned t.pins number + 1 in
    by-number number other (λ is. or_right (is_named t.names other) (is_pinned (with_pin t.pins number) other)
    (ap (λ n. nat_lt 0 (times_pinned (with_pin t.pins number) n)) is
    ∙ ap (nat_lt 0) (times_pinned-here t.pins number often order) ∙ lt-ltb 0 often (omega arith))) (λ differ.
    ap (λ n. is_named t.names other || nat_lt 0 n) (times_pinned-elsewhere t.pins number often other order differ)
    ∙ held)

pub kept-pin : (t : Tree) (number : ℕ) → IsKept t → HasFile t.files number → IsKept (after_pin t number)
kept-pin t number kept there = record {
  well_formed = well-formed-with_pins t number (times_pinned t.pins number + 1) kept.well_formed there;
  within_limits = fits-pins t (with_pin t.pins number) kept.within_limits;
  trimmed = each-weaker (λ e. IsTrue (is_held t e.0)) (λ e. IsTrue (is_held (after_pin t number) e.0))
      (λ e held. held-pinned t number e.0 kept.well_formed.pins held) t.files kept.trimmed;
}

-- ---- pins as a table

-- the entry of a file is its count, if that is not 0
get-counted : (pins : Pins) (number : ℕ) → AllByRecursion (λ e. 0 < e.1) pins
    → get nat_cmp pins number ≡ pin_entry (times_pinned pins number)
get-counted pins number some = by (get nat_cmp pins number) refl
  where
    by : (o : Option ℕ) → get nat_cmp pins number ≡ o → o ≡ pin_entry (unwrap_or o 0)
    by None is = refl
    by (Some often) is =
        let more : 0 < often = each-get nat_cmp nat_cmp-IsAntisymmetric (λ e. 0 < e.1) pins number often some is in
        ap (λ b. if b then Some often else None) (sym (lt-ltb 0 often more))

pins-some : (t : Tree) → WellFormed t → AllByRecursion (λ e. 0 < e.1) t.pins
pins-some t well = each-weaker (λ e. IsPin t.files e) (λ e. 0 < e.1) (λ e pin. pin.0) t.pins well.pinned

-- pins that count alike are equal
pub one-pins : (t u : Tree) → WellFormed t → WellFormed u
    → ((number : ℕ) → times_pinned t.pins number ≡ times_pinned u.pins number) → t.pins ≡ u.pins
one-pins t u well other alike =
    same_table nat_cmp nat_cmp_total nat_cmp-IsAntisymmetric t.pins u.pins well.pins other.pins (λ number.
    get-counted t.pins number (pins-some t well) ∙ ap pin_entry (alike number)
    ∙ sym (get-counted u.pins number (pins-some u other)))

-- ---- the counts

-- each count of pins is that of the tree
pub pins-counted : (files : Table ℕ Stored) (number : ℕ) → InOrder nat_cmp files
    → pin_count_at (get nat_cmp files number) ≡ times_pinned (pins_of files) number
pins-counted files number order = sym (times_pinned-stored files number order)

-- there is room for a pin more
pub room-to-pin : (files : Table ℕ Stored) (number : ℕ) → InOrder nat_cmp files
    → times_pinned (pins_of files) number < 2 ^ 32 → IfSome (get nat_cmp files number) (λ s. s.pins < 2 ^ 32)
room-to-pin files number order few = each-some (λ (s : Stored). s.pins < 2 ^ 32) (get nat_cmp files number) (λ s there.
    subst (λ n. n < 2 ^ 32) (times_pinned-stored files number order ∙ ap pin_count_at there) few)

-- there is a pin to lose
pub pin-to-lose : (files : Table ℕ Stored) (number : ℕ) → InOrder nat_cmp files
    → IsTrue (is_pinned (pins_of files) number) → IfSome (get nat_cmp files number) (λ s. 0 < s.pins)
pin-to-lose files number order pinned = each-some (λ (s : Stored). 0 < s.pins) (get nat_cmp files number) (λ s there.
    subst (λ n. 0 < n) (times_pinned-stored files number order ∙ ap pin_count_at there)
    (ltb-true 0 (times_pinned (pins_of files) number) pinned))

-- names stay counted where the change leaves a file's names
counted-still : (names : Names) (files after : Table ℕ Stored) (change : Stored → Option Stored) (number : ℕ)
    → AreCounted names files → ((s left : Stored) → change s ≡ Some left → left.names ≡ s.names)
    → IsChanged change number files after → AreCounted names after
counted-still names files after change number counted keeps changed =
    at-entries (λ other (s : Stored). s.names ≡ times_named names other) after changed.ordered (λ other s there.
    by-number number other (λ is.
    by (get nat_cmp files number) refl s (sym changed.here ∙ ap (get nat_cmp after) (sym is) ∙ there)
    ∙ ap (times_named names) (sym is))
    (λ differ. count-at names files counted other s (sym (changed.others other differ) ∙ there)))
  where
    by : (o : Option Stored) → get nat_cmp files number ≡ o → (s : Stored) → option_and_then change o ≡ Some s
        → s.names ≡ times_named names number
    by None there s is = absurd cc
    by (Some before) there s is = keeps before s is ∙ count-at names files counted number before there

-- what of a stored file is its content
abbrev content_in : Option Stored → Option Content
content_in o = option_map (λ (s : Stored). s.content) o

module _ (names : Names) (files : Table ℕ Stored) (made : ℕ) (limits : TreeLimits) (home : Place) (uid gid : ℕ) where
  abbrev the_tree : Tree
  the_tree = seen names files made limits home uid gid

  -- other files
  abbrev tree_of : Table ℕ Stored → Tree
  tree_of after = seen names after made limits home uid gid

  -- with a pin more
  pub pin-parts : IsKept the_tree → AreCounted names files → (number : ℕ) (after : Table ℕ Stored)
      → HasFile (contents files) number → IsChanged with_a_pin number files after
      → (tree_of after ≡ after_pin the_tree number) × AreCounted names after
  pin-parts kept counted number after there changed = (
    (λ i. record the_tree { files = same i; pins = pins i }),
    counted-still names files after with_a_pin number counted
        (λ s left is. sym (ap (λ (s : Stored). s.names) (same_Some _ left is))) changed,
  )
    where
      order : InOrder nat_cmp files
      order = files-in_order files kept.well_formed.numbered

      content : (o : Option Stored) → content_in (option_and_then with_a_pin o) ≡ content_in o
      content None = refl
      content (Some s) = refl

      same : contents after ≡ contents files
      same = same-contents files after order changed.ordered (λ other. by-number number other (λ is.
          ap (λ k. content_in (get nat_cmp after k)) is ∙ ap content_in changed.here
          ∙ content (get nat_cmp files number) ∙ ap (λ k. content_in (get nat_cmp files k)) (sym is))
          (λ differ. ap content_in (changed.others other differ)))

      more : (o : Option Stored) → is_some (content_in o) ≡ true
          → pin_count_at (option_and_then with_a_pin o) ≡ pin_count_at o + 1
      more None there = absurd cc
      more (Some s) there = refl

      pins : pins_of after ≡ with_pin (pins_of files) number
      pins = changed-pins_to with_a_pin number files after (times_pinned (pins_of files) number + 1) order changed
          (more (get nat_cmp files number)
          (ap is_some (sym (get-with_values nat_cmp (λ (s : Stored). s.content) files number)) ∙ there)
          ∙ ap (λ n. n + 1) (pins-counted files number order))

  -- with a pin less
  pub unpin-parts : IsKept the_tree → AreCounted names files → (number : ℕ) (after : Table ℕ Stored)
      → IsChanged without_a_pin number files after
      → (tree_of after ≡ after_unpin the_tree number) × AreCounted names after
  unpin-parts is_kept counted number after changed = (
    (λ i. record the_tree { files = same i; pins = pins i }),
    counted-still names files after without_a_pin number counted
        (λ s left is. ap (λ (s : Stored). s.names) (left-where_held (record s { pins = s.pins - 1 }) left is)) changed,
  )
    where
      order : InOrder nat_cmp files
      order = files-in_order files is_kept.well_formed.numbered

      in_order : InOrder nat_cmp (pins_of files)
      in_order = InOrder-pins files order

      fewer : Pins
      fewer = without_pin (pins_of files) number

      keeps : ℕ × Content → Bool
      keeps = stays (is_pinned fewer) names

      less : (o : Option Stored) → pin_count_at (option_and_then without_a_pin o) ≡ pin_count_at o - 1
      less None = refl
      less (Some s) = pins-where_held (record s { pins = s.pins - 1 })

      pins : pins_of after ≡ fewer
      pins = changed-pins_to without_a_pin number files after (times_pinned (pins_of files) number - 1) order changed
          (less (get nat_cmp files number) ∙ ap (λ n. n - 1) (pins-counted files number order))

      still : (s : Stored) → get nat_cmp files number ≡ Some s
          → is_held_still (record s { pins = s.pins - 1 }) ≡ keeps (number, s.content)
      still s there =
          let named : s.names ≡ times_named names number = count-at names files counted number s there in
          let left : s.pins - 1 ≡ times_pinned fewer number =
          ap (λ n. n - 1) (ap pin_count_at (sym there) ∙ pins-counted files number order)
          ∙ sym (times_pinned-here (pins_of files) number (times_pinned (pins_of files) number - 1) in_order) in
          λ i. nat_lt 0 (named i) || nat_lt 0 (left i)

      was-held : (other : ℕ) (s : Stored) → get nat_cmp files other ≡ Some s
          → stays (is_pinned (pins_of files)) names (other, s.content) ≡ true
      was-held other s there =
          at-number (λ number (content : Content). stays (is_pinned (pins_of files)) names (number, content) ≡ true)
          (contents files) is_kept.trimmed other s.content
          (get-with_values nat_cmp (λ (s : Stored). s.content) files other ∙ ap content_in there)

      elsewhere : (other : ℕ) → other ≢ number → (s : Stored) → get nat_cmp files other ≡ Some s
          → keeps (other, s.content) ≡ true
      elsewhere other differ s there =
          let left = times_pinned (pins_of files) number - 1 in
          ap (λ n. is_named names other || nat_lt 0 n)
          (times_pinned-elsewhere (pins_of files) number left other in_order differ) ∙ was-held other s there

      same : contents after ≡ retain (contents files) keeps
      same = left-contents names names files keeps after order changed.ordered (λ other. by-number number other (λ is.
          ap (λ k. content_in (get nat_cmp after k)) is ∙ ap content_in changed.here
          ∙ gone-content number keeps (λ s. record s { pins = s.pins - 1 }) (get nat_cmp files number) (λ s. refl) still
          ∙ ap (λ k. kept keeps k (content_in (get nat_cmp files k))) (sym is)) (λ differ.
          ap content_in (changed.others other differ)
          ∙ stayed-content other keeps (get nat_cmp files other) (elsewhere other differ)))

-- ==== The tree without any pins: it stays one within the limits.

pub kept-unpinned : (t : Tree) → IsKept t → IsKept (trim (record t { pins = [] }))
kept-unpinned t kept =
    kept-trim (record t { pins = [] }) (well-formed-pins t [] kept.well_formed (InOrder-empty ℕ nat_cmp) tt)
    (fits-pins t [] kept.within_limits)

pub unpinned-parts : (names : Names) (files : Table ℕ Stored) (made : ℕ) (limits : TreeLimits) (home : Place) (uid gid : ℕ)
    → AreCounted names files → (after : Table ℕ Stored) → after ≡ unpinned files
    → (seen names after made limits home uid gid ≡ trim (record (seen names files made limits home uid gid) { pins = [] }))
    × AreCounted names after
unpinned-parts names files made limits home uid gid counted after is =
    let same = ap contents is ∙ unpinned-contents names files counted in
    let none = ap pins_of is ∙ unpinned-pins files in (
      (λ i. record { names = names; files = same i; made = made; pins = none i; limits = limits; home = home; uid = uid; gid = gid }),
      subst (AreCounted names) (sym is) (unpinned-counted names files counted),
    )

-- ==== Trees with limits of the first two openings: what a file may have, it may have with all others.

-- a number that comes after another is at least one more
less-than : (n m : ℕ) → nat_cmp n m ≡ Less → n + 1 ≤ m
less-than n m less = by (nat_lt n m) refl
  where
    by : (b : Bool) → nat_lt n m ≡ b → n + 1 ≤ m
    by true is = omega (arith, ltb-true n m is)
    by false is = absurd (not-less (n == m) (sym (ap (λ b. cond b Less (cond (n == m) Equal Greater)) is) ∙ less))
      where
        not-less : (b : Bool) → cond b Equal Greater ≡ Less → ⊥
        not-less true h = cc
        not-less false h = cc

-- numbers below a bound, each once, are no more than the bound
few-numbers : (low made : ℕ) (files : Files) → InOrder nat_cmp files → AllByRecursion (λ e. low ≤ e.0) files
    → AllByRecursion (λ e. e.0 < made) files → low ≤ made → length files + low ≤ made
unfolding IsStrictlySortedBy
few-numbers low made [] order above below fits = omega (arith, fits)
few-numbers low made (e ∷ files) order above below fits =
    let rest = few-numbers (e.0 + 1) made files order.1 (after files order.0) below.1 (omega (arith, below.0)) in
    omega (arith, rest, above.0)
  where
    after : (fs : Files) → AllByRecursion (λ k. nat_cmp e.0 k ≡ Less) (keys_of fs) → AllByRecursion (λ f. e.0 + 1 ≤ f.0) fs
    after [] all = tt
    after (f ∷ fs) all = (less-than e.0 f.0 all.0, after fs all.1)

-- files that are not long have no more bytes than their number allows
few-bytes : (files : Files) → AllByRecursion (λ e. length e.1.bytes ≤ 67108864) files
    → total_of files ≤ length files * 67108864
few-bytes [] short = omega arith
few-bytes (e ∷ files) short = omega (arith, short.0, few-bytes files short.1)

-- with one more they keep to the limit that is none
narrow-total : (t : Tree) → IsKept t → AreRaised (limits t) → total_of t.files + 67108864 ≤ (limits t).total_bytes
narrow-total t kept are =
    let well = kept.well_formed in
    let fit = fits-parts t kept.within_limits in
    let count = few-numbers 0 t.made t.files well.numbered
    (each-weaker (λ e. e.0 < t.made) (λ e. 0 ≤ e.0) (λ e less. omega arith) t.files well.given) well.given (omega arith) in
    let few = ltb-true t.made (2 ^ 32) fit.numbers in
    let bytes = few-bytes t.files (each-weaker (λ e. IsTrue (content_fits (limits t) e.1))
    (λ e. length e.1.bytes ≤ 67108864)
    (λ e fits. omega (arith, leb-true (length e.1.bytes) (limits t).file_bytes fits, are.file_bytes.1)) t.files
    (each-all (λ e. content_fits (limits t) e.1) t.files fit.files)) in
    omega (arith, count, few, bytes, are.total_bytes.0)

pub narrow-with : (t : Tree) (number count : ℕ) → IsKept t → AreRaised (limits t) → count ≤ (limits t).file_bytes
    → total_fits_with t number count ≡ true
narrow-with t number count kept are fits =
    le-leb (total_of t.files - length_of (content_at t.files number) + count) (limits t).total_bytes
    (omega (arith, narrow-total t kept are, fits, are.file_bytes.1))

file-bound : (t : Tree) (number : ℕ) → IsKept t → length_of (content_at t.files number) ≤ (limits t).file_bytes
file-bound t number kept = by (content_at t.files number) refl
  where
    by : (o : Option Content) → content_at t.files number ≡ o → length_of o ≤ (limits t).file_bytes
    by None is = omega arith
    by (Some content) is =
        leb-true (length content.bytes) (limits t).file_bytes (content-fits t number content kept.within_limits is)

pub narrow-size : (t : Tree) (number size : ℕ) → IsKept t → AreRaised (limits t)
    → size_fits t number (Some size) ≡ nat_le size (limits t).file_bytes
narrow-size t number size kept are = by (nat_le size (limits t).file_bytes) refl
  where
    by : (b : Bool) → nat_le size (limits t).file_bytes ≡ b → (b && total_fits_with t number size) ≡ b
    by true is = narrow-with t number size kept are (leb-true size (limits t).file_bytes is)
    by false is = refl

pub narrow-write : (t : Tree) (number offset : ℕ) (new : List ℕ) → IsKept t → AreRaised (limits t)
    → write_fits t number offset new ≡ (length new == 0 || nat_le (offset + length new) (limits t).file_bytes)
narrow-write t number offset new kept are =
    ap (λ b. length new == 0 || b) (by (nat_le (offset + length new) (limits t).file_bytes) refl)
  where
    end : ℕ
    end = offset + length new

    by : (b : Bool) → nat_le end (limits t).file_bytes ≡ b
        → (b && total_fits_with t number (max (length_of (content_at t.files number)) end)) ≡ b
    by true is = narrow-with t number (max (length_of (content_at t.files number)) end) kept are
        (omega (arith, leb-true end (limits t).file_bytes is, file-bound t number kept))
    by false is = refl

-- each of their limits has 32 bits
pub narrow-told : (bounds : TreeLimits) → AreRaised bounds → told_limits bounds ≡ numbers bounds
narrow-told bounds are =
    let same : min bounds.file_bytes 4294967295 ≡ bounds.file_bytes = omega (arith, are.file_bytes.1) in
    λ i. bounds.entries ∷ same i ∷ bounds.read_bytes ∷ bounds.open_handles ∷ []
