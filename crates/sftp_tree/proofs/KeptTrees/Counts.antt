-- Trees as the code has them: what a change of the names and of the counts makes of them.
use Rattle.sftp_tree.proofs.Imports.{◌≡◌, ℕ, ◌+◌, ◌<◌, ◌≤◌, ◌^◌, true, not, option_map, length, refl, sym, ap, subst}
use Rattle.sftp_tree.proofs.Imports.{◌∙◌, arith, Option, Some, None, IfSome, IsTrue, ◌-◌, nat_cmp, IsStrictlySortedBy}
use Rattle.sftp_tree.proofs.Imports.{eq-eqb, leb-true, same_Some, length-filter_both, keys_of-map_values, Place}
use Rattle.sftp_tree.proofs.Imports.{place_cmp, Table, InOrder, get, retain, count-found, get-with_values, Content}
use Rattle.sftp_tree.proofs.Imports.{Stored, Node, Names, Tree, IsKept, IsContent, is_directory, content_at, node_at}
use Rattle.sftp_tree.proofs.Imports.{with_node, names_file, times_named, trim, with_content, Dir, File, Attrs, Owner}
use Rattle.sftp_tree.proofs.Imports.{TreeLimits, most_limits, raised_limits, IsOwner, changed_owner, changed_content}
use Rattle.sftp_tree.proofs.Imports.{with_changed_file, contents, pin_count_at, pins_of, seen, AreCounted, file_named}
use Rattle.sftp_tree.proofs.Imports.{IsChanged, IsChangedWhereNamed, with_a_name, without_a_name, with_content_made}
use Rattle.sftp_tree.proofs.Imports.{with_attributes_set, List, [], ◌∷◌, list_all, and_parts, and_from, le-leb}
use Rattle.sftp_tree.proofs.Imports.{raised_fit, Files, content_fits, IsStart, picture}
use Rattle.sftp_tree.proofs.Imports.{raised as raised_tree}
use Rattle.sftp_tree.proofs.Limits.{fits-parts, fits-from}
use Rattle.sftp_tree.proofs.KeptTrees.{times_named-owner}
use Rattle.sftp_tree.proofs.FileCounts.{changed-pins, pins-where_held}
use Rattle.sftp_tree.proofs.FileCounts.{at-number, count-at, one_name, named-put, raised, lowered}
use Rattle.sftp_tree.proofs.FileCounts.{counted-again, counted-changed, contents-changed, contents-unchanged}

-- the files are in order where their contents are
pub files-in_order : (files : Table ℕ Stored) → InOrder nat_cmp (contents files) → InOrder nat_cmp files
files-in_order files = subst (IsStrictlySortedBy nat_cmp) (keys_of-map_values (λ (s : Stored). s.content) files)

-- ---- counts fit their fields

pub each-some : {X : Type 0} (P : X → Type 0) (o : Option X) → ((x : X) → o ≡ Some x → P x) → IfSome o P
each-some P None each = tt
each-some P (Some x) each = each x refl

named-at_most : (names : Names) (number : ℕ) → times_named names number ≤ length names
unfolding retain
named-at_most names number =
    let both = length-filter_both (λ (e : Place × Node). names_file number e.1) (λ e. not (names_file number e.1)) (λ e. refl) names in
    omega arith

few-entries : (t : Tree) → IsKept t → length t.names ≤ most_limits.entries + 1
few-entries t kept = omega (arith, leb-true (length t.names - 1) t.limits.entries (fits-parts t kept.within_limits).entries, kept.well_formed.limits.entries.1)

-- there is room for a further name in each count
pub room-to-count : (t : Tree) (files : Table ℕ Stored) → IsKept t → AreCounted t.names files → (named : Option ℕ) → IfSome named (λ number. IfSome (get nat_cmp files number) (λ s. s.names + 1 < 2 ^ 32))
room-to-count t files kept counted named =
    each-some (λ number. IfSome (get nat_cmp files number) (λ s. s.names + 1 < 2 ^ 32)) named (λ number is.
    each-some (λ (s : Stored). s.names + 1 < 2 ^ 32) (get nat_cmp files number) (λ s there.
    let n : s.names ≡ times_named t.names number = count-at t.names files counted number s there in
    let most = named-at_most t.names number in
    let few = few-entries t kept in
    omega arith))

-- the file that an entry names has a name to lose
pub name-to-lose : (names : Names) (files : Table ℕ Stored) → AreCounted names files → (place : Place) (gone : Option Node) → node_at names place ≡ gone → IfSome (file_named gone) (λ number. IfSome (get nat_cmp files number) (λ s. 0 < s.names))
name-to-lose names files counted place (Some (File number)) there =
    each-some (λ (s : Stored). 0 < s.names) (get nat_cmp files number) (λ s is.
    let n : s.names ≡ times_named names number = count-at names files counted number s is in
    let some = count-found place_cmp names place (File number) (names_file number) there (eq-eqb number number refl) in
    omega arith)
name-to-lose names files counted place other there = tt

-- ---- a change of a tree's parts

-- a change of the file that is named, if one is, leaves the pins
named-pins : (change : Stored → Option Stored) → ((s : Stored) → pin_count_at (change s) ≡ s.pins) → (named : Option ℕ) (files after : Table ℕ Stored) → InOrder nat_cmp files → IsChangedWhereNamed change named files after → pins_of after ≡ pins_of files
named-pins change keeps None files after order same = ap pins_of same
named-pins change keeps (Some number) files after order changed = changed-pins change number files after keeps order changed

module _ (names : Names) (files : Table ℕ Stored) (made : ℕ) (limits : TreeLimits) (home : Place) (uid gid : ℕ) where
  abbrev the_tree : Tree
  the_tree = seen names files made limits home uid gid

  -- something more at a place
  pub put-parts : (place : Place) (it : Node) → IsKept the_tree → AreCounted names files → node_at names place ≡ None → (others : Names) (after : Table ℕ Stored) → others ≡ with_node names place it → IsChangedWhereNamed with_a_name (file_named (Some it)) files after → (seen others after made limits home uid gid ≡ record the_tree { names = with_node names place it }) × AreCounted others after
  put-parts place it kept counted absent others after is changed =
      let order = files-in_order files kept.well_formed.numbered in
      let both = raised names (with_node names place it) files it (named-put names place it absent) after order counted changed in
      let pins = named-pins with_a_name (λ s. refl) (file_named (Some it)) files after order changed in (
        (λ i. record { names = is i; files = both.0 i; made = made; pins = pins i; limits = limits; home = home; uid = uid; gid = gid }),
        subst (λ ns. AreCounted ns after) (sym is) both.1,
      )

  -- something less
  pub left-parts : IsKept the_tree → AreCounted names files → (gone : Option Node) (others : Names) (after : Table ℕ Stored) → ((number : ℕ) → times_named others number + one_name gone number ≡ times_named names number) → IsChangedWhereNamed without_a_name (file_named gone) files after → (seen others after made limits home uid gid ≡ trim (record the_tree { names = others })) × AreCounted others after
  left-parts kept counted gone others after less changed =
      let order = files-in_order files kept.well_formed.numbered in
      let both = lowered names others files order counted kept.trimmed gone less after changed in
      let pins = named-pins without_a_name (λ s. pins-where_held (record s { names = s.names - 1 })) (file_named gone) files after order changed in
      ((λ i. record { names = others; files = both.0 i; made = made; pins = pins i; limits = limits; home = home; uid = uid; gid = gid }), both.1)

  -- another owner of a directory
  pub owner-parts : IsKept the_tree → AreCounted names files → (place : Place) (owner : Owner) → IsTrue (is_directory (node_at names place)) → (others : Names) → others ≡ with_node names place (Dir owner) → AreCounted others files
  owner-parts kept counted place owner directory others is =
      counted-again names others files (files-in_order files kept.well_formed.numbered) (λ number. ap (λ ns. times_named ns number) is ∙ by (node_at names place) refl directory number) counted
    where
      by : (standing : Option Node) → node_at names place ≡ standing → is_directory standing ≡ true → (number : ℕ) → times_named (with_node names place (Dir owner)) number ≡ times_named names number
      by (Some (Dir before)) there directory number = times_named-owner names place before owner number kept.well_formed.ordered there
      by other there directory number = cc

  -- another content of a file, made of its own
  pub content-parts : IsKept the_tree → AreCounted names files → (change : Content → Content) (number : ℕ)
      (after : Table ℕ Stored) → IsChanged (with_content_made change) number files after → (changed : Option Content → Tree)
      → changed None ≡ the_tree
      → ((content : Content) → changed (Some content) ≡ record the_tree { files = with_content (contents files) number (change content) })
      → (seen names after made limits home uid gid ≡ changed (content_at (contents files) number)) × AreCounted names after
  content-parts kept counted change number after is_changed changed nothing there = (
    by (get nat_cmp files number) refl
        ∙ ap changed (sym (get-with_values nat_cmp (λ (s : Stored). s.content) files number)),
    counted-changed names files change number after counted is_changed,
  )
    where
      order : InOrder nat_cmp files
      order = files-in_order files kept.well_formed.numbered

      pins : pins_of after ≡ pins_of files
      pins = changed-pins (with_content_made change) number files after (λ s. refl) order is_changed

      by : (o : Option Stored) → get nat_cmp files number ≡ o → seen names after made limits home uid gid ≡ changed (option_map (λ (s : Stored). s.content) o)
      by None none =
          let same = contents-unchanged names files change number after order is_changed none in
          (λ i. record { names = names; files = same i; made = made; pins = pins i; limits = limits; home = home; uid = uid; gid = gid })
          ∙ sym nothing
      by (Some s) is =
          let same = contents-changed names files change number after order is_changed s is in
          (λ i. record { names = names; files = same i; made = made; pins = pins i; limits = limits; home = home; uid = uid; gid = gid })
          ∙ sym (there s.content)

  -- other attributes of a file
  pub changed-parts : IsKept the_tree → AreCounted names files → (attrs : Attrs) (number : ℕ) (after : Table ℕ Stored) → IsChanged (with_attributes_set attrs) number files after → (seen names after made limits home uid gid ≡ with_changed_file the_tree attrs number (content_at (contents files) number)) × AreCounted names after
  changed-parts kept counted attrs number after changed =
      content-parts kept counted (changed_content attrs) number after changed (with_changed_file the_tree attrs number) refl (λ content. refl)

  -- the file that is there has an owner
  pub owner-there : IsKept the_tree → (number : ℕ) → IfSome (get nat_cmp files number) (λ s. IsOwner s.content.owner)
  owner-there kept number = each-some (λ (s : Stored). IsOwner s.content.owner) (get nat_cmp files number) (λ s there.
      (at-number (λ number (content : Content). IsContent content) (contents files) kept.well_formed.contents number s.content (get-with_values nat_cmp (λ (s : Stored). s.content) files number ∙ ap (option_map (λ (s : Stored). s.content)) there)).0)

-- and what its attributes leave is one, once they are set
pub owner-changed : (files : Table ℕ Stored) (attrs : Attrs) (number : ℕ) → IfSome (get nat_cmp files number) (λ s. IsOwner (changed_owner attrs s.content.owner)) → (content : Content) → content_at (contents files) number ≡ Some content → IsOwner (changed_owner attrs content.owner)
owner-changed files attrs number owned content there =
    by (get nat_cmp files number) owned (sym (get-with_values nat_cmp (λ (s : Stored). s.content) files number) ∙ there)
  where
    by : (o : Option Stored) → IfSome o (λ s. IsOwner (changed_owner attrs s.content.owner)) → option_map (λ (s : Stored). s.content) o ≡ Some content → IsOwner (changed_owner attrs content.owner)
    by None owned is = absurd cc
    by (Some s) owned is = subst (λ (c : Content). IsOwner (changed_owner attrs c.owner)) (same_Some s.content content is) owned

-- ==== A tree with higher limits.

all-wider : (low high : TreeLimits) → low.file_bytes ≤ high.file_bytes → (files : Files)
    → list_all (λ (e : ℕ × Content). content_fits low e.1) files ≡ true
    → list_all (λ (e : ℕ × Content). content_fits high e.1) files ≡ true
all-wider low high le [] all = all
all-wider low high le (e ∷ files) all =
    let parts = and_parts (content_fits low e.1) (list_all (λ (x : ℕ × Content). content_fits low x.1) files) all in
    and_from (content_fits high e.1) (list_all (λ (x : ℕ × Content). content_fits high x.1) files)
    (le-leb (length e.1.bytes) high.file_bytes (omega (arith, le, leb-true (length e.1.bytes) low.file_bytes parts.0)))
    (all-wider low high le files parts.1)

pub raised-kept : (t : Tree) → IsKept t → IsKept (raised_tree t)
raised-kept t kept =
    let well = kept.well_formed in
    let parts = fits-parts t kept.within_limits in
    record {
      well_formed = record {
        ordered = well.ordered;
        named = well.named;
        nodes = well.nodes;
        root = well.root;
        parents = well.parents;
        numbered = well.numbered;
        contents = well.contents;
        given = well.given;
        pins = well.pins;
        pinned = well.pinned;
        limits = raised_fit t.limits well.limits;
        home = well.home;
        uid = well.uid;
        gid = well.gid;
      };
      within_limits = fits-from (raised_tree t) (record {
        entries = le-leb (length t.names - 1) (raised_limits t.limits).entries
            (omega (arith, leb-true (length t.names - 1) t.limits.entries parts.entries));
        depths = parts.depths;
        home = parts.home;
        links = parts.links;
        files = all-wider t.limits (raised_limits t.limits) (omega arith) t.files parts.files;
        total = parts.total;
        numbers = parts.numbers;
      });
      trimmed = kept.trimmed;
    }

pub raised-start : (t : Tree) (bytes : List ℕ) → IsStart t bytes → IsStart (raised_tree t) (picture (raised_tree t))
unfolding picture
raised-start t bytes start =
    let kept = raised-kept t (record { well_formed = start.well_formed; within_limits = start.within_limits; trimmed = start.trimmed }) in
    record {
      well_formed = kept.well_formed;
      within_limits = kept.within_limits;
      trimmed = kept.trimmed;
      unpinned = start.unpinned;
      numbered = start.numbered;
      picture_is = record { times = []; are = tt; bytes_are = refl };
    }
