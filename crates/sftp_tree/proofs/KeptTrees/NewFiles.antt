-- A tree with a new file: that it fits the limits, and that it stays a tree. A file that loses its bytes.
use Rattle.sftp_tree.proofs.Imports.{◌≡◌, ◌==◌, ◌<◌, ◌^◌, ℕ, ◌+◌, ◌-◌, Bool, true, false, ◌&&◌, ◌||◌, List, [], ◌∷◌}
use Rattle.sftp_tree.proofs.Imports.{length, replicate, refl, sym, ap, subst, ◌∙◌, arith, lit<, Option, Some, None}
use Rattle.sftp_tree.proofs.Imports.{is_some, nat_lt, nat_le, IsTrue, IfSome, cond, option_map, option_and_then}
use Rattle.sftp_tree.proofs.Imports.{nat_cmp, nat_cmp-IsAntisymmetric, AllByRecursion, or_left, eqb-true, same_Some}
use Rattle.sftp_tree.proofs.Imports.{Attrs, IsAttrs, Place, place_cmp, parent, are_names, place_cmp-total, Table}
use Rattle.sftp_tree.proofs.Imports.{InOrder, get, put, retain, get-put_here, get-put_elsewhere, InOrder-put}
use Rattle.sftp_tree.proofs.Imports.{same_table, get-with_values, with_values-put, TreeLimits, Content, Stored, Node}
use Rattle.sftp_tree.proofs.Imports.{Dir, File, Link, Names, Files, Tree, WellFormed, IsKept, IsNode, IsContent}
use Rattle.sftp_tree.proofs.Imports.{limits, fits, depth_fits, content_fits, is_directory, node_at, with_node}
use Rattle.sftp_tree.proofs.Imports.{content_at, with_content, names_file, times_named, is_named, is_pinned, is_held}
use Rattle.sftp_tree.proofs.Imports.{contents, pins_of, pin_count_at, seen, AreCounted, IsChanged, without_a_name}
use Rattle.sftp_tree.proofs.Imports.{resized, changed_content, with_changed_file, with_new_file, with_emptied_file}
use Rattle.sftp_tree.proofs.Imports.{CanMake, has_room_for_file}
use Rattle.std.proofs.lemmas.Cmp.{nat_cmp_total}
use Rattle.sftp_packets.specs.Spelling.{no_attributes}
use Rattle.sftp_tree.proofs.PlaceTables.{each-weaker, each-put}
use Rattle.sftp_tree.proofs.WellFormedTrees.{names-of, names-put, well-formed-names}
use Rattle.sftp_tree.proofs.Limits.{fits-parts}
use Rattle.sftp_tree.proofs.Limits.{entries-with, depths-with, links-with, files-with}
use Rattle.sftp_tree.proofs.KeptTrees.{named-there}
use Rattle.sftp_tree.proofs.KeptTrees.{well-formed-given}
use Rattle.sftp_tree.proofs.KeptTrees.{named-put, or_weaker}
use Rattle.sftp_tree.proofs.KeptTrees.{not-given}
use Rattle.sftp_tree.proofs.KeptTrees.Counts.{files-in_order}
use Rattle.sftp_tree.proofs.FileCounts.{by-number, same-pins}
use Rattle.sftp_tree.proofs.Totals.{total-with}
use Rattle.sftp_tree.specs.Tree.{total_of}
use Rattle.sftp_tree.proofs.Imports.{leb-true, le-leb}
use Rattle.sftp_tree.proofs.FileCounts.{count-at, at-entries, one-here, one-elsewhere, named-put as named-more}

-- ---- a new file

-- with the file, which has no name yet
abbrev with_file : Tree → Content → Tree
with_file t content = record t { files = with_content t.files t.made content; made = t.made + 1 }

well-formed-file : (t : Tree) (content : Content) → WellFormed t → IsContent content → WellFormed (with_file t content)
well-formed-file t content well is_content =
    well-formed-given t t.made (t.made + 1) content well is_content (omega arith) (omega arith)

pub well-formed-new : (t : Tree) (place : Place) (content : Content) → WellFormed t → IsTrue (are_names place)
    → node_at t.names place ≡ None → IsTrue (is_directory (node_at t.names (parent place))) → IsContent content
    → WellFormed (with_new_file t place content)
well-formed-new t place content well named absent above is_content =
    let with = with_file t content in
    let fit = well-formed-file t content well is_content in
    let there : IsNode with.files (File t.made) =
    ap is_some (get-put_here nat_cmp nat_cmp_total t.files t.made content) in
    well-formed-names with (with_node t.names place (File t.made)) fit
    (names-put with.files t.names place (File t.made) (names-of with fit) named absent above there)

-- a tree stays one with a new file, where there is room
pub kept-new : (t : Tree) (place : Place) (content : Content) → IsKept t → CanMake t place content
    → IsKept (with_new_file t place content)
kept-new t place content kept can =
    let names = with_node t.names place (File t.made) in
    let held = λ (e : ℕ × Content). IsTrue (is_named names e.0 || is_pinned t.pins e.0) in
    let named : IsTrue (is_named names t.made) =
    named-there names place t.made (get-put_here place_cmp place_cmp-total t.names place (File t.made)) in
    record {
      well_formed = well-formed-new t place content kept.well_formed can.named can.absent can.above can.is_content;
      within_limits = can.room;
      trimmed =
          each-put nat_cmp nat_cmp-IsAntisymmetric nat_cmp_total held t.files t.made content kept.well_formed.numbered
          (or_left (is_named names t.made) (is_pinned t.pins t.made) named)
          (each-weaker (λ e. IsTrue (is_held t e.0)) held
          (λ e h. or_weaker (is_named t.names e.0) (is_named names e.0) (is_pinned t.pins e.0) (named-put t.names place (File t.made) e.0 can.absent) h)
          t.files kept.trimmed);
    }

in-one : (a b n : Bool) → (a && ((b && true) && (true && ((true && true) && ((true && true) && (true && n)))))) ≡ ((a && b) && n)
in-one true true n = refl
in-one true false n = refl
in-one false b n = refl

-- all contents are as many bytes as before
total-new : (t : Tree) (content : Content) → IsKept t → length content.bytes ≡ 0
    → nat_le (total_of (with_content t.files t.made content)) (limits t).total_bytes ≡ true
total-new t content kept empty =
    let most = leb-true (total_of t.files) (limits t).total_bytes (fits-parts t kept.within_limits).total in
    le-leb (total_of (with_content t.files t.made content)) (limits t).total_bytes
    (omega (arith, most, empty, total-with t.files t.made content kept.well_formed.numbered))

-- with a new file without bytes a tree within the limits fits where there is room
pub fits-new : (t : Tree) (place : Place) (content : Content) → IsKept t → node_at t.names place ≡ None
    → content_at t.files t.made ≡ None → length content.bytes ≡ 0
    → fits (with_new_file t place content) ≡ has_room_for_file t place
unfolding fits
fits-new t place content kept absent new empty =
    let fit = fits-parts t kept.within_limits in
    let short : content_fits (limits t) content ≡ true =
    le-leb (length content.bytes) (limits t).file_bytes (omega (arith, empty)) in
    let total = total-new t content kept empty in
    (λ i.
    entries-with t place (File t.made) absent i && (depths-with t place (File t.made) absent i && (fit.home i && (links-with t place (File t.made) absent i && (files-with t t.made content new i && (total i && nat_lt (t.made + 1) (2 ^ 32)))))))
    ∙ (λ i.
    nat_le (length t.names) (limits t).entries && ((depth_fits place && fit.depths i) && (true && ((true && fit.links i) && ((short i && fit.files i) && (true && nat_lt (t.made + 1) (2 ^ 32)))))))
    ∙ in-one (nat_le (length t.names) (limits t).entries) (depth_fits place) (nat_lt (t.made + 1) (2 ^ 32))

-- ---- a file that loses its bytes

-- attributes that ask for no bytes, and for nothing else
abbrev pub no_bytes : Attrs
no_bytes = record no_attributes { size = Some 0 }

pub no-bytes-fit : IsAttrs no_bytes
no-bytes-fit = tt

none-left : (n : ℕ) → 0 - n ≡ 0
none-left n = omega arith

resized-none : (bytes : List ℕ) → resized 0 bytes ≡ []
resized-none [] = refl
resized-none (b ∷ bytes) = ap (λ n. replicate n 0) (none-left (length (b ∷ bytes)))

emptied-content : (content : Content) → record content { bytes = [] } ≡ changed_content no_bytes content
emptied-content content = ap (λ bytes. record content { bytes = bytes }) (sym (resized-none content.bytes))

-- it is a file that gets the size 0
pub emptied-is : (t : Tree) (number : ℕ) (found : Option Content)
    → with_emptied_file t number found ≡ with_changed_file t no_bytes number found
emptied-is t number None = refl
emptied-is t number (Some content) =
    ap (λ it. record t { files = with_content t.files number it }) (emptied-content content)

-- ---- files as the code keeps them, with a count of names

-- no node is a name of a number that has no file
none-named : (names : Names) (files : Files) (number : ℕ) → AllByRecursion (λ e. IsNode files e.1) names
    → content_at files number ≡ None → times_named names number ≡ 0
unfolding retain
none-named [] files number nodes none = refl
none-named (e ∷ es) files number nodes none =
    ap (λ b. length (cond b (e ∷ retain es (λ e. names_file number e.1)) (retain es (λ e. names_file number e.1))))
    (by e.1 nodes.0) ∙ none-named es files number nodes.1 none
  where
    by : (it : Node) → IsNode files it → names_file number it ≡ false
    by (Dir owner) is = refl
    by (File n) is = other (n == number) refl
      where
        other : (b : Bool) → (n == number) ≡ b → (n == number) ≡ false
        other true same =
            let there : is_some (content_at files number) ≡ true =
            ap (λ k. is_some (content_at files k)) (sym (eqb-true n number same)) ∙ is in
            let not_there : is_some (content_at files number) ≡ false = ap is_some none in
            cc
        other false same = same
    by (Link target) is = refl

-- the next number is free
pub next-free : (names : Names) (files : Table ℕ Stored) (made : ℕ) (limits : TreeLimits) (home : Place) (uid gid : ℕ)
    → IsKept (seen names files made limits home uid gid) → get nat_cmp files made ≡ None
next-free names files made limits home uid gid kept = by (get nat_cmp files made) refl
    (sym (get-with_values nat_cmp (λ (s : Stored). s.content) files made) ∙ not-given (seen names files made limits home uid gid) made kept.well_formed (omega arith))
  where
    by : (o : Option Stored) → get nat_cmp files made ≡ o → option_map (λ (s : Stored). s.content) o ≡ None → o ≡ None
    by None is none = refl
    by (Some s) is none = absurd cc

-- a new file is not pinned
unpinned-put : (files : Table ℕ Stored) (number : ℕ) (content : Content) → InOrder nat_cmp files
    → get nat_cmp files number ≡ None
    → pins_of (put nat_cmp files number (record { content = content; names = 1; pins = 0 })) ≡ pins_of files
unpinned-put files number content order free =
    let new : Stored = record { content = content; names = 1; pins = 0 } in
    same-pins files (put nat_cmp files number new) order (InOrder-put nat_cmp nat_cmp_total files number new order)
    (λ other. by-number number other (λ same. ap (λ k. pin_count_at (get nat_cmp (put nat_cmp files number new) k)) same
    ∙ ap pin_count_at (get-put_here nat_cmp nat_cmp_total files number new) ∙ ap pin_count_at (sym free)
    ∙ ap (λ k. pin_count_at (get nat_cmp files k)) (sym same)) (λ differ.
    ap pin_count_at (get-put_elsewhere nat_cmp nat_cmp_total files number other new (λ tie. differ (nat_cmp-IsAntisymmetric other number tie)))))

module _ (names : Names) (files : Table ℕ Stored) (made : ℕ) (limits : TreeLimits) (home : Place) (uid gid : ℕ) where
  abbrev the_tree : Tree
  the_tree = seen names files made limits home uid gid

  -- with a file of one name, and the name
  pub made-parts : (place : Place) (content : Content) → IsKept the_tree → AreCounted names files
      → node_at names place ≡ None → (others : Names) (after : Table ℕ Stored)
      → others ≡ with_node names place (File made) → after ≡ put nat_cmp files made (record { content = content; names = 1; pins = 0 })
      → (seen others after (made + 1) limits home uid gid ≡ with_new_file the_tree place content) × AreCounted others after
  made-parts place content kept counted absent others after are is = (
    (λ i. record { names = are i; files = (ap contents is ∙ with_values-put nat_cmp (λ (s : Stored). s.content) files made (record { content = content; names = 1; pins = 0 })) i; made = made + 1; pins = (ap pins_of is ∙ unpinned-put files made content (files-in_order files kept.well_formed.numbered) (next-free names files made limits home uid gid kept)) i; limits = limits; home = home; uid = uid; gid = gid }),
    subst (λ ns. AreCounted ns after) (sym are) (subst (AreCounted (with_node names place (File made))) (sym is) counts),
  )
    where
      new : Stored
      new = record { content = content; names = 1; pins = 0 }

      right : (number : ℕ) (s : Stored) → get nat_cmp (put nat_cmp files made new) number ≡ Some s → s.names ≡ times_named (with_node names place (File made)) number
      right number s there = by-number made number (λ same.
          let one : s.names ≡ 1 = ap (λ (s : Stored). s.names) (same_Some s new (sym there ∙ ap (get nat_cmp (put nat_cmp files made new)) same ∙ get-put_here nat_cmp nat_cmp_total files made new)) in
          let none = none-named names (contents files) made kept.well_formed.nodes (not-given the_tree made kept.well_formed (omega arith)) in
          let here = one-here made in
          let m = named-more names place (File made) absent made in
          let all : s.names ≡ times_named (with_node names place (File made)) made = omega arith in
          all ∙ ap (times_named (with_node names place (File made))) (sym same)) (λ differ.
          let before = sym (get-put_elsewhere nat_cmp nat_cmp_total files made number new (λ tie. differ (nat_cmp-IsAntisymmetric number made tie))) ∙ there in
          let n = count-at names files counted number s before in
          let none = one-elsewhere made number differ in
          let m = named-more names place (File made) absent number in
          omega arith)

      counts : AreCounted (with_node names place (File made)) (put nat_cmp files made new)
      counts =
          at-entries (λ number (s : Stored). s.names ≡ times_named (with_node names place (File made)) number) (put nat_cmp files made new)
          (InOrder-put nat_cmp nat_cmp_total files made new (files-in_order files kept.well_formed.numbered)) right

-- a file that was put at a free number and lost its name leaves the others as they were
pub put-back : (files middle after : Table ℕ Stored) (number : ℕ) (content : Content) → InOrder nat_cmp files
    → get nat_cmp files number ≡ None → middle ≡ put nat_cmp files number (record { content = content; names = 1; pins = 0 })
    → IsChanged without_a_name number middle after → after ≡ files
put-back files middle after number content order free is changed =
    let new : Stored = record { content = content; names = 1; pins = 0 } in
    same_table nat_cmp nat_cmp_total nat_cmp-IsAntisymmetric after files changed.ordered order (λ other.
    by-number number other (λ same. ap (get nat_cmp after) same ∙ changed.here
    ∙ ap (λ table. option_and_then without_a_name (get nat_cmp table number)) is
    ∙ ap (option_and_then without_a_name) (get-put_here nat_cmp nat_cmp_total files number new)
    ∙ sym free ∙ ap (get nat_cmp files) (sym same)) (λ differ.
    changed.others other differ ∙ ap (λ table. get nat_cmp table other) is
    ∙ get-put_elsewhere nat_cmp nat_cmp_total files number other new (λ tie. differ (nat_cmp-IsAntisymmetric other number tie))))

-- it has a name to lose
pub one-to-lose : (files middle : Table ℕ Stored) (number : ℕ) (content : Content)
    → middle ≡ put nat_cmp files number (record { content = content; names = 1; pins = 0 })
    → IfSome (get nat_cmp middle number) (λ s. 0 < s.names)
one-to-lose files middle number content is = subst (λ o. IfSome o (λ (s : Stored). 0 < s.names))
    (sym (ap (λ table. get nat_cmp table number) is ∙ get-put_here nat_cmp nat_cmp_total files number (record { content = content; names = 1; pins = 0 })))
    (lit< tt)
