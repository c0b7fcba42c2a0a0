-- Counts of the names and pins of files: how calls on the map of files change them.
use Rattle.sftp_tree.proofs.Imports.{◌≡◌, ◌≢◌, ℕ, Bool, true, false, cond, [], ◌∷◌, ◌||◌, nat_lt, refl, sym, ap, ◌∙◌}
use Rattle.sftp_tree.proofs.Imports.{arith, Option, Some, None, if◌then◌else◌, option_map, option_and_then, unwrap_or}
use Rattle.sftp_tree.proofs.Imports.{inl, inr, nat_cmp, nat_cmp_total, nat_cmp-IsAntisymmetric, AllByRecursion}
use Rattle.sftp_tree.proofs.Imports.{cases_eq, ltb-false, or_parts, Table, InOrder, get, put, without, retain, kept}
use Rattle.sftp_tree.proofs.Imports.{get-put_here, get-put_elsewhere, get-without_here, get-retain, InOrder-put}
use Rattle.sftp_tree.proofs.Imports.{InOrder-without, InOrder-retain, same_table, get-with_values}
use Rattle.sftp_tree.proofs.Imports.{InOrder-with_values, Content, Stored, Names, Pins, is_named, times_pinned}
use Rattle.sftp_tree.proofs.Imports.{with_pins, pin_count_at, pins_of, is_held_still, where_held, IsChanged, rules}
use Rattle.sftp_tree.proofs.Imports.{is_some, is_eq, BTreeMap, IsOrdered, UpdatesBy, WritesThrough, get_by, ◌+◌, ◌-◌}
use Rattle.sftp_tree.proofs.Imports.{◌<◌, subst, IsTrue, nat_tests, same_Some, Place, place_cmp, count-put_new}
use Rattle.sftp_tree.proofs.Imports.{count-without, without-absent, Node, File, node_at, with_node, without_node}
use Rattle.sftp_tree.proofs.Imports.{with_content, names_file, times_named, is_pinned, contents, AreCounted}
use Rattle.sftp_tree.proofs.Imports.{file_named, IsChangedWhereNamed, with_a_name, without_a_name, with_content_made}
use Rattle.sftp_tree.proofs.Imports.{◌++◌, append-nil, Name, rekeyed, NothingFrom, place_cmp-total, get-without}
use Rattle.sftp_tree.proofs.Imports.{without_pins, unpinned}
use Rattle.sftp_path.proofs.Table.Laws.{get-without_elsewhere}
use Rattle.sftp_tree.proofs.PlaceTables.{each-get, get-each}
use Rattle.sftp_path.proofs.Move.{count-rekeyed}
use Rattle.std.specs.Map.Calls.{RetainsPairs}

-- ==== Pins of files: what the counts that are stored say of them, and how they change.

-- a choice by whether two numbers are one
pub by-number : {A : Type 0} (number other : ℕ) → (other ≡ number → A) → (other ≢ number → A) → A
by-number number other same apart = elim (cases_eq other number) [ inl is ↦ same is | inr differ ↦ apart differ ]

-- which of the files stay
abbrev pub stays : (ℕ → Bool) → Names → ℕ × Content → Bool
stays is_held names e = is_named names e.0 || is_held e.0

-- the entry of a file that is pinned so often
abbrev pub pin_entry : ℕ → Option ℕ
pin_entry often = if nat_lt 0 often then Some often else None

pin_entry-times : (often : ℕ) → unwrap_or (pin_entry often) 0 ≡ often
pin_entry-times often = by (nat_lt 0 often) refl
  where
    by : (b : Bool) → nat_lt 0 often ≡ b → unwrap_or (if b then Some often else None) 0 ≡ often
    by true some = refl
    by false none = let few = ltb-false 0 often none in omega arith

-- ---- what is pinned

pub InOrder-pins : (files : Table ℕ Stored) → InOrder nat_cmp files → InOrder nat_cmp (pins_of files)
InOrder-pins files order =
    InOrder-retain nat_cmp _ (λ e. nat_lt 0 e.1) (InOrder-with_values nat_cmp (λ (s : Stored). s.pins) files order)

pub get-pins : (files : Table ℕ Stored) (number : ℕ) → InOrder nat_cmp files
    → get nat_cmp (pins_of files) number ≡ pin_entry (pin_count_at (get nat_cmp files number))
get-pins files number order = get-retain nat_cmp nat_cmp_total nat_cmp-IsAntisymmetric _ (λ e. nat_lt 0 e.1) number
    (InOrder-with_values nat_cmp (λ (s : Stored). s.pins) files order)
    ∙ ap (kept (λ (e : ℕ × ℕ). nat_lt 0 e.1) number) (get-with_values nat_cmp (λ (s : Stored). s.pins) files number)
    ∙ by (get nat_cmp files number)
  where
    by : (o : Option Stored)
        → kept (λ (e : ℕ × ℕ). nat_lt 0 e.1) number (option_map (λ (s : Stored). s.pins) o) ≡ pin_entry (pin_count_at o)
    by None = refl
    by (Some s) = refl

pub times_pinned-stored : (files : Table ℕ Stored) (number : ℕ) → InOrder nat_cmp files
    → times_pinned (pins_of files) number ≡ pin_count_at (get nat_cmp files number)
times_pinned-stored files number order =
    ap (λ o. unwrap_or o 0) (get-pins files number order) ∙ pin_entry-times (pin_count_at (get nat_cmp files number))

-- where no file is pinned there are no entries
pub none_pinned : (files : Table ℕ Stored) → AllByRecursion (λ e. e.1.pins ≡ 0) files → pins_of files ≡ []
unfolding retain
none_pinned [] none = refl
none_pinned (e ∷ es) none =
    let rest = pins_of es in
    ap (λ n. cond (nat_lt 0 n) ((e.0, e.1.pins) ∷ rest) rest) none.0 ∙ none_pinned es none.1

-- ---- pins of one file changed

pub InOrder-with_pins : (pins : Pins) (number often : ℕ) → InOrder nat_cmp pins
    → InOrder nat_cmp (with_pins pins number often)
InOrder-with_pins pins number often order = by (nat_lt 0 often)
  where
    by : (b : Bool) → InOrder nat_cmp (if b then put nat_cmp pins number often else without nat_cmp pins number)
    by true = InOrder-put nat_cmp nat_cmp_total pins number often order
    by false = InOrder-without nat_cmp pins number order

pub get-with_pins_here : (pins : Pins) (number often : ℕ) → InOrder nat_cmp pins
    → get nat_cmp (with_pins pins number often) number ≡ pin_entry often
get-with_pins_here pins number often order = by (nat_lt 0 often)
  where
    by : (b : Bool) → get nat_cmp (if b then put nat_cmp pins number often else without nat_cmp pins number) number
        ≡ (if b then Some often else None)
    by true = get-put_here nat_cmp nat_cmp_total pins number often
    by false = get-without_here nat_cmp nat_cmp_total pins number order

pub get-with_pins_elsewhere : (pins : Pins) (number often other : ℕ) → InOrder nat_cmp pins → other ≢ number
    → get nat_cmp (with_pins pins number often) other ≡ get nat_cmp pins other
get-with_pins_elsewhere pins number often other order differ = by (nat_lt 0 often)
  where
    by : (b : Bool) → get nat_cmp (if b then put nat_cmp pins number often else without nat_cmp pins number) other
        ≡ get nat_cmp pins other
    by true = get-put_elsewhere nat_cmp nat_cmp_total pins number other often
        (λ tie. differ (nat_cmp-IsAntisymmetric other number tie))
    by false = get-without_elsewhere nat_cmp nat_cmp_total pins number other order
        (λ tie. differ (sym (nat_cmp-IsAntisymmetric number other tie)))

pub times_pinned-here : (pins : Pins) (number often : ℕ) → InOrder nat_cmp pins
    → times_pinned (with_pins pins number often) number ≡ often
times_pinned-here pins number often order =
    ap (λ o. unwrap_or o 0) (get-with_pins_here pins number often order) ∙ pin_entry-times often

pub times_pinned-elsewhere : (pins : Pins) (number often other : ℕ) → InOrder nat_cmp pins → other ≢ number
    → times_pinned (with_pins pins number often) other ≡ times_pinned pins other
times_pinned-elsewhere pins number often other order differ =
    ap (λ o. unwrap_or o 0) (get-with_pins_elsewhere pins number often other order differ)

-- ---- files that are changed

-- where each file has as many pins as before, the pins are as before
pub same-pins : (files after : Table ℕ Stored) → InOrder nat_cmp files → InOrder nat_cmp after
    → ((number : ℕ) → pin_count_at (get nat_cmp after number) ≡ pin_count_at (get nat_cmp files number))
    → pins_of after ≡ pins_of files
same-pins files after order ordered alike =
    same_table nat_cmp nat_cmp_total nat_cmp-IsAntisymmetric (pins_of after) (pins_of files)
    (InOrder-pins after ordered) (InOrder-pins files order)
    (λ number. get-pins after number ordered ∙ ap pin_entry (alike number) ∙ sym (get-pins files number order))

module _ (change : Stored → Option Stored) (number : ℕ) (files after : Table ℕ Stored) where
  -- a change of one file that leaves it its pins leaves all pins
  pub changed-pins : ((s : Stored) → pin_count_at (change s) ≡ s.pins) → InOrder nat_cmp files
      → IsChanged change number files after → pins_of after ≡ pins_of files
  changed-pins keeps order changed = same-pins files after order changed.ordered (λ other. by-number number other (λ is.
      ap (λ k. pin_count_at (get nat_cmp after k)) is ∙ ap pin_count_at changed.here ∙ by (get nat_cmp files number)
      ∙ ap (λ k. pin_count_at (get nat_cmp files k)) (sym is))
      (λ differ. ap pin_count_at (changed.others other differ)))
    where
      by : (o : Option Stored) → pin_count_at (option_and_then change o) ≡ pin_count_at o
      by None = refl
      by (Some s) = keeps s

  -- and one that gives a file other pins gives them to that file alone
  pub changed-pins_to : (often : ℕ) → InOrder nat_cmp files → IsChanged change number files after
      → pin_count_at (option_and_then change (get nat_cmp files number)) ≡ often
      → pins_of after ≡ with_pins (pins_of files) number often
  changed-pins_to often order changed is_often =
      let pins = pins_of files in
      let in_order = InOrder-pins files order in
      same_table nat_cmp nat_cmp_total nat_cmp-IsAntisymmetric (pins_of after) (with_pins pins number often)
      (InOrder-pins after changed.ordered) (InOrder-with_pins pins number often in_order) (λ other.
      get-pins after other changed.ordered ∙ by-number number other (λ is.
      ap (λ k. pin_entry (pin_count_at (get nat_cmp after k))) is
      ∙ ap (λ o. pin_entry (pin_count_at o)) changed.here ∙ ap pin_entry is_often
      ∙ sym (get-with_pins_here pins number often in_order) ∙ ap (get nat_cmp (with_pins pins number often)) (sym is))
      (λ differ. ap (λ o. pin_entry (pin_count_at o)) (changed.others other differ) ∙ sym (get-pins files other order)
      ∙ sym (get-with_pins_elsewhere pins number often other in_order differ)))

-- ---- files that are removed where nothing holds them

no-pins : (s : Stored) → is_held_still s ≡ false → s.pins ≡ 0
no-pins s none = let few = ltb-false 0 s.pins (or_parts (nat_lt 0 s.names) (nat_lt 0 s.pins) none).1 in omega arith

-- one that is removed has no pin
pub pins-where_held : (s : Stored) → pin_count_at (where_held s) ≡ s.pins
pins-where_held s = by (is_held_still s) refl
  where
    by : (b : Bool) → is_held_still s ≡ b → pin_count_at (if b then Some s else None) ≡ s.pins
    by true held = refl
    by false none = sym (no-pins s none)

-- ==== Files that are changed one at a time: what a call on the map makes of them.

-- numbers that differ do not tie
pub numbers-apart : (number other : ℕ) → other ≢ number → is_eq (nat_cmp number other) ≡ false
numbers-apart number other differ = search rules

module _ (change : Stored → Option Stored) (number : ℕ) where
  -- nothing is changed where there is no file
  pub changed-nowhere : (m n : BTreeMap ℕ Stored) → IsOrdered nat_cmp m → get_by (nat_cmp number) m ≡ None → n ≡ m → IsChanged change number m.entries n.entries
  unfolding get
  changed-nowhere m n order none same = record {
    here = ap (get_by (nat_cmp number)) same ∙ none ∙ sym (ap (option_and_then change) none);
    others = λ other differ. ap (get_by (nat_cmp other)) same;
    ordered = rw same order;
  }

  -- what is written through a reference into the map is the change
  pub changed-written : (m n : BTreeMap ℕ Stored) (s w : Stored) → get_by (nat_cmp number) m ≡ Some s → change s ≡ Some w → WritesThrough nat_cmp (nat_cmp number) m w n → IsChanged change number m.entries n.entries
  unfolding get
  changed-written m n s w there is through =
      let updates = through.3 (ap is_some there) in
      record {
        here = updates.1 ∙ sym is ∙ sym (ap (option_and_then change) there);
        others = λ other differ. updates.2 other (numbers-apart number other differ);
        ordered = through.4;
      }

  -- a file that is taken out after that is gone
  pub changed-removed : (m n o : BTreeMap ℕ Stored) (s w : Stored) → get_by (nat_cmp number) m ≡ Some s → change s ≡ None → WritesThrough nat_cmp (nat_cmp number) m w n → UpdatesBy nat_cmp (nat_cmp number) n o None → IsOrdered nat_cmp o → IsChanged change number m.entries o.entries
  unfolding get
  changed-removed m n o s w there is through removed order =
      let updates = through.3 (ap is_some there) in
      record {
        here = removed.1 ∙ sym is ∙ sym (ap (option_and_then change) there);
        others = λ other differ. removed.2 other (numbers-apart number other differ) ∙ updates.2 other (numbers-apart number other differ);
        ordered = order;
      }

-- ---- a file that is removed where nothing holds it

pub where_held-gone : (s : Stored) → is_held_still s ≡ false → where_held s ≡ None
where_held-gone s none = ap (λ b. if b then Some s else None) none

pub where_held-left : (s : Stored) → is_held_still s ≡ true → where_held s ≡ Some s
where_held-left s held = ap (λ b. if b then Some s else None) held

-- ==== Counts of names: that they stay right when a name of a file comes or goes, and that a file is removed with its
-- last name.

-- ---- entries by their numbers

module _ {X : Type 0} (P : ℕ → X → Type 0) where
  -- what holds of each entry holds of the one at a number
  pub at-number : (es : Table ℕ X) → AllByRecursion (λ e. P e.0 e.1) es → (number : ℕ) (x : X) → get nat_cmp es number ≡ Some x → P number x
  at-number es all number x there = each-get nat_cmp nat_cmp-IsAntisymmetric (λ e. P e.0 e.1) es number x all there

  -- what holds at each number holds of each entry
  pub at-entries : (es : Table ℕ X) → InOrder nat_cmp es → ((number : ℕ) (x : X) → get nat_cmp es number ≡ Some x → P number x) → AllByRecursion (λ e. P e.0 e.1) es
  at-entries es order each = get-each nat_cmp nat_cmp-IsAntisymmetric nat_cmp_total (λ e. P e.0 e.1) es order each

-- each count is that of the file's names
pub count-at : (names : Names) (files : Table ℕ Stored) → AreCounted names files → (number : ℕ) (s : Stored) → get nat_cmp files number ≡ Some s → s.names ≡ times_named names number
count-at names = at-number (λ number (s : Stored). s.names ≡ times_named names number)

-- ---- names of a file, place by place

-- 1 if the node there is a name of the file
abbrev pub one_name : Option Node → ℕ → ℕ
one_name None number = 0
one_name (Some standing) number = if names_file number standing then 1 else 0

-- a name that comes to a free place
pub named-put : (names : Names) (place : Place) (it : Node) → node_at names place ≡ None → (number : ℕ) → times_named (with_node names place it) number ≡ times_named names number + one_name (Some it) number
named-put names place it absent number = count-put_new place_cmp names place it (names_file number) absent

-- a name that goes
pub named-without : (names : Names) (place : Place) (standing : Option Node) → node_at names place ≡ standing → (number : ℕ) → times_named (without_node names place) number + one_name standing number ≡ times_named names number
named-without names place None there number =
    let same = ap (λ ns. times_named ns number) (without-absent place_cmp names place there) in
    omega arith
named-without names place (Some it) there number = count-without place_cmp names place it (names_file number) there

pub one-here : (number : ℕ) → one_name (Some (File number)) number ≡ 1
one-here number = grind (arith, nat_tests)

pub one-elsewhere : (number other : ℕ) → other ≢ number → one_name (Some (File number)) other ≡ 0
one-elsewhere number other differ = grind (arith, nat_tests)

-- ---- a further name

more-content : (o : Option Stored) → option_map (λ (s : Stored). s.content) (option_and_then with_a_name o) ≡ option_map (λ (s : Stored). s.content) o
more-content None = refl
more-content (Some s) = refl

more-names : (o : Option Stored) (s : Stored) (n : ℕ) → option_and_then with_a_name o ≡ Some s → ((before : Stored) → o ≡ Some before → before.names ≡ n) → s.names ≡ n + 1
more-names None s n is counted = cc
more-names (Some before) s n is counted =
    let names : before.names + 1 ≡ s.names = ap (λ (s : Stored). s.names) (same_Some _ s is) in
    omega (arith, counted before refl)

-- the contents are as before where they are at each number
pub same-contents : (files after : Table ℕ Stored) → InOrder nat_cmp files → InOrder nat_cmp after → ((number : ℕ) → option_map (λ (s : Stored). s.content) (get nat_cmp after number) ≡ option_map (λ (s : Stored). s.content) (get nat_cmp files number)) → contents after ≡ contents files
same-contents files after order ordered alike =
    let content : Stored → Content = λ s. s.content in
    same_table nat_cmp nat_cmp_total nat_cmp-IsAntisymmetric (contents after) (contents files) (InOrder-with_values nat_cmp content after ordered) (InOrder-with_values nat_cmp content files order)
    (λ number. get-with_values nat_cmp content after number ∙ alike number ∙ sym (get-with_values nat_cmp content files number))

-- counts stay right where as many entries as before are names of each file
pub counted-again : (names others : Names) (files : Table ℕ Stored) → InOrder nat_cmp files → ((number : ℕ) → times_named others number ≡ times_named names number) → AreCounted names files → AreCounted others files
counted-again names others files order alike counted =
    at-entries (λ number (s : Stored). s.names ≡ times_named others number) files order (λ number s there. count-at names files counted number s there ∙ sym (alike number))

module _ (names others : Names) (files : Table ℕ Stored) where
  raised-file : (number : ℕ) → ((other : ℕ) → times_named others other ≡ times_named names other + one_name (Some (File number)) other) → (after : Table ℕ Stored) → InOrder nat_cmp files → AreCounted names files → IsChanged with_a_name number files after → (contents after ≡ contents files) × AreCounted others after
  raised-file number more after order counted changed =
      (same-contents files after order changed.ordered content, at-entries (λ other (s : Stored). s.names ≡ times_named others other) after changed.ordered names-of)
    where
      content : (other : ℕ) → option_map (λ (s : Stored). s.content) (get nat_cmp after other) ≡ option_map (λ (s : Stored). s.content) (get nat_cmp files other)
      content other = by-number number other (λ is.
          ap (λ k. option_map (λ (s : Stored). s.content) (get nat_cmp after k)) is ∙ ap (option_map (λ (s : Stored). s.content)) changed.here ∙ more-content (get nat_cmp files number)
          ∙ ap (λ k. option_map (λ (s : Stored). s.content) (get nat_cmp files k)) (sym is))
          (λ differ. ap (option_map (λ (s : Stored). s.content)) (changed.others other differ))

      names-of : (other : ℕ) (s : Stored) → get nat_cmp after other ≡ Some s → s.names ≡ times_named others other
      names-of other s there = by-number number other (λ is.
          let one = one-here number in
          let at_number = more number in
          let n = more-names (get nat_cmp files number) s (times_named names number) (sym changed.here ∙ ap (get nat_cmp after) (sym is) ∙ there) (count-at names files counted number) in
          let here : s.names ≡ times_named others number = omega arith in
          here ∙ ap (times_named others) (sym is)) (λ differ.
          let none = one-elsewhere number other differ in
          let at_other = more other in
          let n = count-at names files counted other s (sym (changed.others other differ) ∙ there) in
          omega arith)

  unnamed : (after : Table ℕ Stored) → InOrder nat_cmp files → ((other : ℕ) → times_named others other ≡ times_named names other) → AreCounted names files → after ≡ files → (contents after ≡ contents files) × AreCounted others after
  unnamed after order alike counted same =
      (ap contents same, subst (AreCounted others) (sym same) (counted-again names others files order alike counted))

  -- with a name more of the file that it names, the counts are right again; the contents stay
  pub raised : (it : Node) → ((other : ℕ) → times_named others other ≡ times_named names other + one_name (Some it) other) → (after : Table ℕ Stored) → InOrder nat_cmp files → AreCounted names files → IsChangedWhereNamed with_a_name (file_named (Some it)) files after → (contents after ≡ contents files) × AreCounted others after
  raised (File number) more after order counted changed = raised-file number more after order counted changed
  raised it more after order counted same =
      unnamed after order (λ other. let m = more other in omega arith) counted same

-- ---- a name less

pub gone-content : (number : ℕ) (keeps : ℕ × Content → Bool) (change : Stored → Stored) (o : Option Stored)
    → ((s : Stored) → (change s).content ≡ s.content)
    → ((s : Stored) → o ≡ Some s → is_held_still (change s) ≡ keeps (number, s.content))
    → option_map (λ (s : Stored). s.content) (option_and_then (λ s. where_held (change s)) o)
    ≡ kept keeps number (option_map (λ (s : Stored). s.content) o)
gone-content number keeps change None same still = refl
gone-content number keeps change (Some s) same still =
    by (is_held_still (change s)) ∙ ap (λ b. cond b (Some s.content) None) (still s refl)
  where
    by : (b : Bool)
        → option_map (λ (s : Stored). s.content) (if b then Some (change s) else None) ≡ cond b (Some s.content) None
    by true = ap Some (same s)
    by false = refl

pub stayed-content : (number : ℕ) (keeps : ℕ × Content → Bool) (o : Option Stored) → ((s : Stored) → o ≡ Some s → keeps (number, s.content) ≡ true) → option_map (λ (s : Stored). s.content) o ≡ kept keeps number (option_map (λ (s : Stored). s.content) o)
stayed-content number keeps None stays = refl
stayed-content number keeps (Some s) stays = ap (λ b. cond b (Some s.content) None) (sym (stays s refl))

-- a file that is left is the one that was changed
pub left-where_held : (s left : Stored) → where_held s ≡ Some left → left ≡ s
left-where_held s left is = by (is_held_still s) is
  where
    by : (b : Bool) → (if b then Some s else None) ≡ Some left → left ≡ s
    by true is = sym (same_Some _ left is)
    by false is = absurd cc

fewer-names : (o : Option Stored) (s : Stored) (n : ℕ) → option_and_then without_a_name o ≡ Some s → ((before : Stored) → o ≡ Some before → before.names ≡ n) → 0 < n → s.names + 1 ≡ n
fewer-names None s n is counted some = cc
fewer-names (Some before) s n is counted some =
    let names : s.names ≡ before.names - 1 = ap (λ (s : Stored). s.names) (left-where_held (record before { names = before.names - 1 }) s is) in
    omega (arith, counted before refl)

held-as_before : (m n p : ℕ) → (nat_lt 0 m || nat_lt 0 p) ≡ true → n ≡ m → (nat_lt 0 n || nat_lt 0 p) ≡ true
held-as_before m n p some is = ap (λ k. nat_lt 0 k || nat_lt 0 p) is ∙ some

module _ (names others : Names) (files : Table ℕ Stored) where
  -- the contents that are left are those of the files that pass the test
  pub left-contents : (keeps : ℕ × Content → Bool) (after : Table ℕ Stored) → InOrder nat_cmp files → InOrder nat_cmp after → ((number : ℕ) → option_map (λ (s : Stored). s.content) (get nat_cmp after number) ≡ kept keeps number (option_map (λ (s : Stored). s.content) (get nat_cmp files number))) → contents after ≡ retain (contents files) keeps
  left-contents keeps after order ordered alike =
      let content : Stored → Content = λ s. s.content in
      let were : InOrder nat_cmp (contents files) = InOrder-with_values nat_cmp content files order in
      same_table nat_cmp nat_cmp_total nat_cmp-IsAntisymmetric (contents after) (retain (contents files) keeps) (InOrder-with_values nat_cmp content after ordered) (InOrder-retain nat_cmp (contents files) keeps were)
      (λ number.
      get-with_values nat_cmp content after number ∙ alike number ∙ ap (kept keeps number) (sym (get-with_values nat_cmp content files number))
      ∙ sym (get-retain nat_cmp nat_cmp_total nat_cmp-IsAntisymmetric (contents files) keeps number were))

  module _ (order : InOrder nat_cmp files) (counted : AreCounted names files) (trimmed : AllByRecursion (λ e. IsTrue (stays (is_pinned (pins_of files)) names e)) (contents files)) where
    was-held : (number : ℕ) (s : Stored) → get nat_cmp files number ≡ Some s → stays (is_pinned (pins_of files)) names (number, s.content) ≡ true
    was-held number s there =
        at-number (λ number (content : Content). stays (is_pinned (pins_of files)) names (number, content) ≡ true) (contents files) trimmed number s.content
        (get-with_values nat_cmp (λ (s : Stored). s.content) files number ∙ ap (option_map (λ (s : Stored). s.content)) there)

    -- a file as many of whose names are left stays
    held-still : (number : ℕ) → times_named others number ≡ times_named names number → (s : Stored) → get nat_cmp files number ≡ Some s → stays (is_pinned (pins_of files)) others (number, s.content) ≡ true
    held-still number alike s there = held-as_before (times_named names number) (times_named others number) (times_pinned (pins_of files) number) (was-held number s there) alike

    lowered-file : (number : ℕ) → ((other : ℕ) → times_named others other + one_name (Some (File number)) other ≡ times_named names other) → (after : Table ℕ Stored) → IsChanged without_a_name number files after → (contents after ≡ retain (contents files) (stays (is_pinned (pins_of files)) others)) × AreCounted others after
    lowered-file number less after changed =
        (left-contents (stays (is_pinned (pins_of files)) others) after order changed.ordered content, at-entries (λ other (s : Stored). s.names ≡ times_named others other) after changed.ordered names-of)
      where
        keeps : ℕ × Content → Bool
        keeps = stays (is_pinned (pins_of files)) others

        still : (s : Stored) → get nat_cmp files number ≡ Some s → is_held_still (record s { names = s.names - 1 }) ≡ keeps (number, s.content)
        still s there =
            let one = one-here number in
            let l = less number in
            let n = count-at names files counted number s there in
            let left : s.names - 1 ≡ times_named others number = omega arith in
            let pins : s.pins ≡ times_pinned (pins_of files) number = sym (times_pinned-stored files number order ∙ ap pin_count_at there) in
            λ i. nat_lt 0 (left i) || nat_lt 0 (pins i)

        alike : (other : ℕ) → other ≢ number → times_named others other ≡ times_named names other
        alike other differ =
            let none = one-elsewhere number other differ in
            let l = less other in
            omega arith

        content : (other : ℕ) → option_map (λ (s : Stored). s.content) (get nat_cmp after other) ≡ kept keeps other (option_map (λ (s : Stored). s.content) (get nat_cmp files other))
        content other = by-number number other (λ is.
            ap (λ k. option_map (λ (s : Stored). s.content) (get nat_cmp after k)) is ∙ ap (option_map (λ (s : Stored). s.content)) changed.here ∙ gone-content number keeps (λ s. record s { names = s.names - 1 }) (get nat_cmp files number) (λ s. refl) still
            ∙ ap (λ k. kept keeps k (option_map (λ (s : Stored). s.content) (get nat_cmp files k))) (sym is)) (λ differ.
            ap (option_map (λ (s : Stored). s.content)) (changed.others other differ) ∙ stayed-content other keeps (get nat_cmp files other) (held-still other (alike other differ)))

        names-of : (other : ℕ) (s : Stored) → get nat_cmp after other ≡ Some s → s.names ≡ times_named others other
        names-of other s there = by-number number other (λ is.
            let one = one-here number in
            let l = less number in
            let n = fewer-names (get nat_cmp files number) s (times_named names number) (sym changed.here ∙ ap (get nat_cmp after) (sym is) ∙ there) (count-at names files counted number) (omega arith) in
            let here : s.names ≡ times_named others number = omega arith in
            here ∙ ap (times_named others) (sym is))
            (λ differ. count-at names files counted other s (sym (changed.others other differ) ∙ there) ∙ sym (alike other differ))

    lost-none : (after : Table ℕ Stored) → ((other : ℕ) → times_named others other ≡ times_named names other) → after ≡ files → (contents after ≡ retain (contents files) (stays (is_pinned (pins_of files)) others)) × AreCounted others after
    lost-none after alike same = (
      ap contents same ∙ left-contents (stays (is_pinned (pins_of files)) others) files order order
          (λ number. stayed-content number (stays (is_pinned (pins_of files)) others) (get nat_cmp files number) (held-still number (alike number))),
      subst (AreCounted others) (sym same) (counted-again names others files order alike counted),
    )

    -- with a name less of the file that it named, or without that file, the counts are right again and each file left
    -- is held
    pub lowered : (gone : Option Node) → ((other : ℕ) → times_named others other + one_name gone other ≡ times_named names other) → (after : Table ℕ Stored) → IsChangedWhereNamed without_a_name (file_named gone) files after → (contents after ≡ retain (contents files) (stays (is_pinned (pins_of files)) others)) × AreCounted others after
    lowered (Some (File number)) less after changed = lowered-file number less after changed
    lowered other less after same = lost-none after (λ other. let l = less other in omega arith) same

-- ---- another content of a file

-- if each file is as it was, or another in its place has as many names, the counts are right
changed-names : (change : Content → Content) (o : Option Stored) (s : Stored) (n : ℕ) → option_and_then (with_content_made change) o ≡ Some s → ((before : Stored) → o ≡ Some before → before.names ≡ n) → s.names ≡ n
changed-names change None s n is counted = cc
changed-names change (Some before) s n is counted = sym (ap (λ (s : Stored). s.names) (same_Some _ s is)) ∙ counted before refl

module _ (names : Names) (files : Table ℕ Stored) (change : Content → Content) (number : ℕ) (after : Table ℕ Stored) where
  -- the counts stay
  pub counted-changed : AreCounted names files → IsChanged (with_content_made change) number files after → AreCounted names after
  counted-changed counted changed =
      at-entries (λ other (s : Stored). s.names ≡ times_named names other) after changed.ordered (λ other s there.
      by-number number other (λ is.
      changed-names change (get nat_cmp files number) s (times_named names number) (sym changed.here ∙ ap (get nat_cmp after) (sym is) ∙ there) (count-at names files counted number)
      ∙ ap (times_named names) (sym is))
      (λ differ. count-at names files counted other s (sym (changed.others other differ) ∙ there)))

  -- the file has its new content
  pub contents-changed : InOrder nat_cmp files → IsChanged (with_content_made change) number files after → (s : Stored) → get nat_cmp files number ≡ Some s → contents after ≡ with_content (contents files) number (change s.content)
  contents-changed order changed s there =
      let content : Stored → Content = λ s. s.content in
      let new : Content = change s.content in
      same_table nat_cmp nat_cmp_total nat_cmp-IsAntisymmetric (contents after) (with_content (contents files) number new) (InOrder-with_values nat_cmp content after changed.ordered)
      (InOrder-put nat_cmp nat_cmp_total (contents files) number new (InOrder-with_values nat_cmp content files order))
      (λ other. get-with_values nat_cmp content after other ∙ by-number number other (λ is.
      ap (λ k. option_map content (get nat_cmp after k)) is ∙ ap (option_map content) (changed.here ∙ ap (option_and_then (with_content_made change)) there)
      ∙ sym (get-put_here nat_cmp nat_cmp_total (contents files) number new) ∙ ap (get nat_cmp (with_content (contents files) number new)) (sym is))
      (λ differ.
      ap (option_map content) (changed.others other differ) ∙ sym (get-with_values nat_cmp content files other)
      ∙ sym (get-put_elsewhere nat_cmp nat_cmp_total (contents files) number other new (λ tie. differ (nat_cmp-IsAntisymmetric other number tie)))))

  -- where there is no such file, all are as before
  pub contents-unchanged : InOrder nat_cmp files → IsChanged (with_content_made change) number files after → get nat_cmp files number ≡ None → contents after ≡ contents files
  contents-unchanged order changed none =
      let content : Stored → Content = λ s. s.content in
      same-contents files after order changed.ordered (λ other. by-number number other (λ is.
      ap (λ k. option_map content (get nat_cmp after k)) is ∙ ap (option_map content) (changed.here ∙ ap (option_and_then (with_content_made change)) none ∙ sym none)
      ∙ ap (λ k. option_map content (get nat_cmp files k)) (sym is))
      (λ differ. ap (option_map content) (changed.others other differ)))

-- ==== What is at a place that is freed, and which names files have after a move there.

-- ---- a place that is freed

cond-none : {A : Type 0} (b : Bool) (o : Option A) → o ≡ None → cond b None o ≡ None
cond-none true o none = refl
cond-none false o none = none

module _ (names : Names) (new : Place) (order : InOrder place_cmp names) where
  pub nothing-freed : (place : Place) → node_at names place ≡ None → node_at (without_node names new) place ≡ None
  nothing-freed place none =
      get-without place_cmp place_cmp-total names new place order ∙ cond-none (is_eq (place_cmp new place)) (node_at names place) none

  -- nothing is there or below it, if nothing was below it
  pub nothing-from : ((n : Name) (ns : Place) → node_at names (new ++ n ∷ ns) ≡ None) → NothingFrom (without_node names new) new
  nothing-from alone [] = ap (node_at (without_node names new)) (append-nil new) ∙ get-without_here place_cmp place_cmp-total names new order
  nothing-from alone (n ∷ ns) = nothing-freed (new ++ n ∷ ns) (alone n ns)

-- ---- names of files

-- no name of a file comes or goes but the one at the new place
pub named-moved : (names : Names) (old new : Place) → InOrder place_cmp names → ((n : Name) (ns : Place) → node_at names (new ++ n ∷ ns) ≡ None) → (gone : Option Node) → node_at names new ≡ gone → (number : ℕ) → times_named (rekeyed old new (without_node names new)) number + one_name gone number ≡ times_named names number
named-moved names old new order alone gone there number =
    ap (λ n. n + one_name gone number) (count-rekeyed old new (without_node names new) (names_file number) (InOrder-without place_cmp names new order) (nothing-from names new order alone)) ∙ named-without names new gone there number

-- ==== Files without pins: what is left of the files, of their counts and of the tree.

-- a call on each file, which takes its pins away and keeps it if it has a name
pub retained : {F : Type 0} (T : F → ℕ → Stored → Bool → Stored → F → Type 0)
    → ((f : F) (number : ℕ) (s : Stored) (b : Bool) (w : Stored) (g : F) → T f number s b w g
    → (b ≡ nat_lt 0 s.names) × (w ≡ without_pins s))
    → (f : F) (files after : Table ℕ Stored) → RetainsPairs T f files after → after ≡ unpinned files
retained T each f [] after r = r
retained T each f (e ∷ es) after (b, w, g, rest, called, behind, is) =
    let call = each f e.0 e.1 b w g called in
    let left = retained T each g es rest behind in
    is ∙ (λ i. cond (call.0 i) ((e.0, call.1 i) ∷ left i) (left i))

-- one more file
one-pins : (b : Bool) (number : ℕ) (s : Stored) (left : Table ℕ Stored) → pins_of left ≡ []
    → pins_of (cond b ((number, without_pins s) ∷ left) left) ≡ []
unfolding retain
one-pins true number s left none = none
one-pins false number s left none = none

one-counted : (b : Bool) (names : Names) (number : ℕ) (s : Stored) (left : Table ℕ Stored)
    → s.names ≡ times_named names number → AreCounted names left
    → AreCounted names (cond b ((number, without_pins s) ∷ left) left)
one-counted true names number s left count counted = (count, counted)
one-counted false names number s left count counted = counted

abbrev stay : Names → ℕ × Content → Bool
stay names e = is_named names e.0 || is_pinned [] e.0

one-content : (a b : Bool) (number : ℕ) (s : Stored) (left : Table ℕ Stored) (there : Table ℕ Content) → a ≡ b
    → contents left ≡ there
    → contents (cond a ((number, without_pins s) ∷ left) left) ≡ cond (b || false) ((number, s.content) ∷ there) there
one-content true true number s left there is same = ap (λ t. (number, s.content) ∷ t) same
one-content false false number s left there is same = same
one-content true false number s left there is same = absurd cc
one-content false true number s left there is same = absurd cc

-- no file has a pin
pub unpinned-pins : (files : Table ℕ Stored) → pins_of (unpinned files) ≡ []
unfolding retain
unpinned-pins [] = refl
unpinned-pins (e ∷ es) = one-pins (nat_lt 0 e.1.names) e.0 e.1 (unpinned es) (unpinned-pins es)

-- those that are left have as many names as before
pub unpinned-counted : (names : Names) (files : Table ℕ Stored) → AreCounted names files
    → AreCounted names (unpinned files)
unpinned-counted names [] counted = counted
unpinned-counted names (e ∷ es) counted =
    one-counted (nat_lt 0 e.1.names) names e.0 e.1 (unpinned es) counted.0 (unpinned-counted names es counted.1)

-- those with a name are left
pub unpinned-contents : (names : Names) (files : Table ℕ Stored) → AreCounted names files
    → contents (unpinned files) ≡ retain (contents files) (stay names)
unfolding retain get
unpinned-contents names [] counted = refl
unpinned-contents names (e ∷ es) counted =
    one-content (nat_lt 0 e.1.names) (is_named names e.0) e.0 e.1 (unpinned es) (retain (contents es) (stay names))
    (ap (nat_lt 0) counted.0) (unpinned-contents names es counted.1)
