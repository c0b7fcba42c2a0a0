-- What every tree keeps: that each change of one keeps it.
use Rattle.sftp_tree.proofs.Imports.{◌≡◌, ℕ, ◌<◌, Bool, true, cond, refl, ap, ◌∙◌, Option, Some, None, is_some}
use Rattle.sftp_tree.proofs.Imports.{nat_lt, unwrap_or, IsTrue, nat_cmp, AllByRecursion, nat_cmp-IsAntisymmetric}
use Rattle.sftp_tree.proofs.Imports.{lt-ltb, eq-eqb, or_left, or_right, Place, place_cmp, retain, kept}
use Rattle.sftp_tree.proofs.Imports.{place_cmp-total, place_cmp-same, filter_all, InOrder-retain, get-retain}
use Rattle.sftp_tree.proofs.Imports.{count-found, Content, Node, File, Names, Files, Tree, WellFormed, IsKept}
use Rattle.sftp_tree.proofs.Imports.{IsTrimmed, IsNode, IsPin, IsContent, limits, fits, files_fit, content_fits}
use Rattle.sftp_tree.proofs.Imports.{node_at, content_at, names_file, times_named, is_named, is_pinned, trimmed, trim}
use Rattle.sftp_tree.proofs.Imports.{◌+◌, false, ◌||◌, if◌then◌else◌, arith, ltb-true, parent, are_names}
use Rattle.sftp_tree.proofs.Imports.{count-put_new, is_root, with_node, without_node, is_directory, has_entries}
use Rattle.sftp_tree.proofs.Imports.{is_held, ◌≤◌, is_eq, Attrs, InOrder, get-put, InOrder-put, count-put_again}
use Rattle.sftp_tree.proofs.Imports.{Owner, IsOwner, Dir, with_content, changed_owner, changed_content}
use Rattle.sftp_tree.proofs.Imports.{with_changed_file, ◌≢◌, ◌-◌, [], ◌∷◌, ◌++◌, length, take, drop, sym, subst, inl}
use Rattle.sftp_tree.proofs.Imports.{inr, Equal, and_parts, and_from, cases_Bool, false_from_ne_true, length-append}
use Rattle.sftp_tree.proofs.Imports.{length-take-le, append-nil, take-append-add, list_all-append, Name, begins}
use Rattle.sftp_tree.proofs.Imports.{is_name, rekeyed, NothingFrom, begins-front, nothing-at, is_taken, moved}
use Rattle.sftp_tree.proofs.Imports.{put_in_its_stead, both_ways, cases_lt}
use Rattle.std.proofs.lemmas.Cmp.{nat_cmp_total}
use Rattle.sftp_tree.proofs.PlaceTables.{each-retain, each-get, get-each, each-all, all-each, each-weaker}
use Rattle.sftp_tree.proofs.PlaceTables.{each-put}
use Rattle.sftp_tree.proofs.FileCounts.{stays}
use Rattle.sftp_tree.proofs.Limits.{fits-parts, fits-from}
use Rattle.sftp_tree.proofs.WellFormedTrees.{names-of, names-put, names-without, well-formed-names, names-owner}
use Rattle.sftp_tree.proofs.WellFormedTrees.{NamesFit, stays-without}
use Rattle.sftp_tree.proofs.Limits.{fits-without}
use Rattle.sftp_tree.proofs.WellFormedTrees.{sized-bytes}
use Rattle.sftp_tree.proofs.Limits.{entries-again, depths-again, links-again}
use Rattle.sftp_path.proofs.Move.{get-rekeyed_moved, get-rekeyed_elsewhere, get-rekeyed_behind, InOrder-rekeyed}
use Rattle.sftp_tree.proofs.Nesting.Changes.{not-taken}
use Rattle.sftp_tree.proofs.Nesting.Entries.{below-root}
use Rattle.sftp_tree.proofs.WellFormedTrees.{HaveParents, directory-taken, apart-parent, alone-there}
use Rattle.sftp_tree.proofs.FileCounts.{nothing-from}
use Rattle.sftp_tree.proofs.Imports.{leb-true, le-leb}
use Rattle.sftp_tree.specs.Tree.{total_of, total_fits}
use Rattle.sftp_tree.proofs.Totals.{total-retain}
pub mod NewFiles
pub mod Counts

-- ==== A tree without the files that have no name and that nothing else holds: it is a tree again, within the limits.

-- ---- the files that stay

-- a number that a name has is named
pub named-there : (names : Names) (place : Place) (number : ℕ) → node_at names place ≡ Some (File number) → IsTrue (is_named names number)
named-there names place number there =
    lt-ltb 0 (times_named names number) (count-found place_cmp names place (File number) (names_file number) there (eq-eqb number number refl))

-- what is left of a file's content
pub content-trimmed : (is_held : ℕ → Bool) (t : Tree) (number : ℕ) → WellFormed t → content_at (trimmed is_held t).files number ≡ kept (stays is_held t.names) number (content_at t.files number)
content-trimmed is_held t number well =
    get-retain nat_cmp nat_cmp_total nat_cmp-IsAntisymmetric t.files (stays is_held t.names) number well.numbered

kept-passing : (keeps : ℕ × Content → Bool) (number : ℕ) (o : Option Content) → ((content : Content) → keeps (number, content) ≡ true) → kept keeps number o ≡ o
kept-passing keeps number None passing = refl
kept-passing keeps number (Some content) passing = ap (λ b. cond b (Some content) None) (passing content)

-- the file of a number that is named stays as it was
pub content-of_named : (is_held : ℕ → Bool) (t : Tree) (number : ℕ) → WellFormed t → IsTrue (is_named t.names number) → content_at (trimmed is_held t).files number ≡ content_at t.files number
content-of_named is_held t number well named = content-trimmed is_held t number well
    ∙ kept-passing (stays is_held t.names) number (content_at t.files number) (λ content. or_left (is_named t.names number) (is_held number) named)

-- and so does that of a number that something else holds
content-of_held : (is_held : ℕ → Bool) (t : Tree) (number : ℕ) → WellFormed t → IsTrue (is_held number) → content_at (trimmed is_held t).files number ≡ content_at t.files number
content-of_held is_held t number well held = content-trimmed is_held t number well
    ∙ kept-passing (stays is_held t.names) number (content_at t.files number) (λ content. or_right (is_named t.names number) (is_held number) held)

node-trimmed : (is_held : ℕ → Bool) (t : Tree) (place : Place) (it : Node) → WellFormed t → node_at t.names place ≡ Some it → IsNode t.files it → IsNode (trimmed is_held t).files it
node-trimmed is_held t place (File number) well there is_node =
    ap is_some (content-of_named is_held t number well (named-there t.names place number there)) ∙ is_node
node-trimmed is_held t place other well there is_node = is_node

-- ---- the tree

-- a file of a number that is pinned stays
pinned-trimmed : (is_held : ℕ → Bool) (t : Tree) → ((number : ℕ) → IsTrue (is_pinned t.pins number) → IsTrue (is_held number)) → WellFormed t → AllByRecursion (λ e. IsPin (trimmed is_held t).files e) t.pins
pinned-trimmed is_held t pins_hold well =
    get-each nat_cmp nat_cmp-IsAntisymmetric nat_cmp_total (λ e. IsPin (trimmed is_held t).files e) t.pins well.pins
    (λ number often there.
    let pin : IsPin t.files (number, often) = each-get nat_cmp nat_cmp-IsAntisymmetric (λ e. IsPin t.files e) t.pins number often well.pinned there in
    let is_pin : IsTrue (is_pinned t.pins number) = ap (λ o. nat_lt 0 (unwrap_or o 0)) there ∙ lt-ltb 0 often pin.0 in
    (pin.0, ap is_some (content-of_held is_held t number well (pins_hold number is_pin)) ∙ pin.1))

-- what is pinned is held
pub well-formed-trimmed : (is_held : ℕ → Bool) (t : Tree) → ((number : ℕ) → IsTrue (is_pinned t.pins number) → IsTrue (is_held number)) → WellFormed t → WellFormed (trimmed is_held t)
well-formed-trimmed is_held t pins_hold well = record {
  ordered = well.ordered;
  named = well.named;
  nodes =
      get-each place_cmp place_cmp-same place_cmp-total (λ e. IsNode (trimmed is_held t).files e.1) t.names well.ordered
      (λ place it there. node-trimmed is_held t place it well there (each-get place_cmp place_cmp-same (λ e. IsNode t.files e.1) t.names place it well.nodes there));
  root = well.root;
  parents = well.parents;
  numbered = InOrder-retain nat_cmp t.files (stays is_held t.names) well.numbered;
  contents = each-retain (λ e. IsContent e.1) (λ e. IsContent e.1) t.files (stays is_held t.names) (λ e h passed. h) well.contents;
  given = each-retain (λ e. e.0 < t.made) (λ e. e.0 < t.made) t.files (stays is_held t.names) (λ e h passed. h) well.given;
  pins = well.pins;
  pinned = pinned-trimmed is_held t pins_hold well;
  limits = well.limits;
  home = well.home;
  uid = well.uid;
  gid = well.gid;
}

pub files-trimmed : (is_held : ℕ → Bool) (t : Tree) → IsTrue (files_fit t) → IsTrue (files_fit (trimmed is_held t))
files-trimmed is_held t fit = all-each (λ e. content_fits (limits t) e.1) (retain t.files (stays is_held t.names))
    (each-retain (λ e. IsTrue (content_fits (limits t) e.1)) (λ e. IsTrue (content_fits (limits t) e.1)) t.files (stays is_held t.names) (λ e h passed. h) (each-all (λ e. content_fits (limits t) e.1) t.files fit))

total-trimmed : (is_held : ℕ → Bool) (t : Tree) → total_fits t ≡ true → total_fits (trimmed is_held t) ≡ true
total-trimmed is_held t fit =
    let most = leb-true (total_of t.files) (limits t).total_bytes fit in
    let less = total-retain t.files (stays is_held t.names) in
    le-leb (total_of (retain t.files (stays is_held t.names))) (limits t).total_bytes (omega (arith, most, less))

pub fits-trimmed : (is_held : ℕ → Bool) (t : Tree) → IsTrue (fits t) → IsTrue (fits (trimmed is_held t))
fits-trimmed is_held t h =
    let parts = fits-parts t h in
    fits-from (trimmed is_held t) (record {
      entries = parts.entries;
      depths = parts.depths;
      home = parts.home;
      links = parts.links;
      files = files-trimmed is_held t parts.files;
      total = total-trimmed is_held t parts.total;
      numbers = parts.numbers;
    })

pub is-trimmed : (t : Tree) → WellFormed t → IsTrimmed (trim t)
is-trimmed t well =
    each-retain (λ e. e.0 < t.made) (λ e. IsTrue (stays (is_pinned t.pins) t.names e)) t.files (stays (is_pinned t.pins) t.names) (λ e h passed. passed) well.given

-- a tree within the limits is one of the program when it is trimmed
pub kept-trim : (t : Tree) → WellFormed t → IsTrue (fits t) → IsKept (trim t)
kept-trim t well within = record {
  well_formed = well-formed-trimmed (is_pinned t.pins) t (λ number h. h) well;
  within_limits = fits-trimmed (is_pinned t.pins) t within;
  trimmed = is-trimmed t well;
}

retain-all : (files : Files) (keeps : ℕ × Content → Bool) → AllByRecursion (λ e. IsTrue (keeps e)) files → retain files keeps ≡ files
unfolding retain
retain-all files keeps h = filter_all keeps files (all-each keeps files h)

pub trimmed-already : (t : Tree) → IsTrimmed t → trim t ≡ t
trimmed-already t h =
    let same = retain-all t.files (stays (is_pinned t.pins) t.names) h in
    λ i. record t { files = same i }

-- ==== A tree with an entry more or less: that it fits the limits, and that it stays a tree.

-- ---- one entry more

-- what is named stays so where a place is new
pub named-put : (names : Names) (place : Place) (it : Node) (number : ℕ) → node_at names place ≡ None → IsTrue (is_named names number) → IsTrue (is_named (with_node names place it) number)
named-put names place it number absent named =
    let some : 0 < times_named names number = ltb-true 0 (times_named names number) named in
    let more = count-put_new place_cmp names place it (names_file number) absent in
    lt-ltb 0 (times_named (with_node names place it) number) (more-named (times_named names number) (times_named (with_node names place it) number) (if names_file number it then 1 else 0) some more)
  where
    more-named : (n m one : ℕ) → 0 < n → m ≡ n + one → 0 < m
    more-named n m one some more = omega arith

pub or_weaker : (a b c : Bool) → (a ≡ true → b ≡ true) → (a || c) ≡ true → (b || c) ≡ true
or_weaker true b c so h = or_left b c (so refl)
or_weaker false b c so h = or_right b c h

-- a tree stays one where a new place has a directory for its parent, and there is room
pub kept-put : (t : Tree) (place : Place) (it : Node) → IsKept t → IsTrue (are_names place) → node_at t.names place ≡ None → IsTrue (is_directory (node_at t.names (parent place))) → IsNode t.files it → IsTrue (fits (record t { names = with_node t.names place it })) → IsKept (record t { names = with_node t.names place it })
kept-put t place it kept named absent above is_node within = record {
  well_formed = well-formed-names t (with_node t.names place it) kept.well_formed
      (names-put t.files t.names place it (names-of t kept.well_formed) named absent above is_node);
  within_limits = within;
  trimmed =
      each-weaker (λ e. IsTrue (is_held t e.0)) (λ e. IsTrue (is_named (with_node t.names place it) e.0 || is_pinned t.pins e.0))
      (λ e h. or_weaker (is_named t.names e.0) (is_named (with_node t.names place it) e.0) (is_pinned t.pins e.0) (named-put t.names place it e.0 absent) h) t.files kept.trimmed;
}

-- ---- one entry less

-- a tree stays one without a place that is not the root and has no entries; a file is removed with its last name
pub kept-without : (t : Tree) (place : Place) → IsKept t → is_root place ≡ false → has_entries t.names place ≡ false → IsKept (trim (record t { names = without_node t.names place }))
kept-without t place kept apart empty = kept-trim (record t { names = without_node t.names place })
    (well-formed-names t (without_node t.names place) kept.well_formed (names-without t.files t.names place (names-of t kept.well_formed) apart empty))
    (fits-without t place kept.within_limits)

-- ==== A tree with another owner of a directory, or another content of a file: it stays a tree within the limits.

-- ---- another owner of a directory

pub fits-owner : (t : Tree) (place : Place) (before owner : Owner) → WellFormed t → IsTrue (fits t) → node_at t.names place ≡ Some (Dir before) → IsTrue (fits (record t { names = with_node t.names place (Dir owner) }))
fits-owner t place before owner well within there =
    let parts = fits-parts t within in
    fits-from (record t { names = with_node t.names place (Dir owner) }) (record {
      entries = entries-again t place (Dir before) (Dir owner) well.ordered there ∙ parts.entries;
      depths = depths-again t place (Dir before) (Dir owner) there ∙ parts.depths;
      home = parts.home;
      links = links-again t place (Dir owner) parts.links refl;
      files = parts.files;
      total = parts.total;
      numbers = parts.numbers;
    })

-- as many names as before name each file
pub times_named-owner : (names : Names) (place : Place) (before owner : Owner) (number : ℕ) → InOrder place_cmp names → node_at names place ≡ Some (Dir before) → times_named (with_node names place (Dir owner)) number ≡ times_named names number
times_named-owner names place before owner number order there =
    let counted = count-put_again place_cmp place_cmp-total names place (Dir owner) (Dir before) (names_file number) order there in
    no-more (times_named (with_node names place (Dir owner)) number) (times_named names number) counted
  where
    no-more : (n m : ℕ) → n + 0 ≡ m + 0 → n ≡ m
    no-more n m same = omega arith

pub kept-owner : (t : Tree) (place : Place) (before owner : Owner) → IsKept t → node_at t.names place ≡ Some (Dir before) → IsOwner owner → IsKept (record t { names = with_node t.names place (Dir owner) })
kept-owner t place before owner kept there is_owner = record {
  well_formed = well-formed-names t (with_node t.names place (Dir owner)) kept.well_formed
      (names-owner t.files t.names place before owner (names-of t kept.well_formed) there is_owner);
  within_limits = fits-owner t place before owner kept.well_formed kept.within_limits there;
  trimmed =
      each-weaker (λ e. IsTrue (is_held t e.0)) (λ e. IsTrue (is_named (with_node t.names place (Dir owner)) e.0 || is_pinned t.pins e.0))
      (λ e h. ap (λ n. nat_lt 0 n || is_pinned t.pins e.0) (times_named-owner t.names place before owner e.0 kept.well_formed.ordered there) ∙ h) t.files kept.trimmed;
}

-- of a directory at a place
pub kept-owner-there : (t : Tree) (place : Place) (owner : Owner) → IsKept t → IsTrue (is_directory (node_at t.names place)) → IsOwner owner → IsKept (record t { names = with_node t.names place (Dir owner) })
kept-owner-there t place owner kept directory is_owner = by (node_at t.names place) refl directory
  where
    by : (found : Option Node) → node_at t.names place ≡ found → is_directory found ≡ true → IsKept (record t { names = with_node t.names place (Dir owner) })
    by (Some (Dir before)) there directory = kept-owner t place before owner kept there is_owner
    by other there directory = absurd cc

-- ---- another content of a file

-- a number that has a file has one still
still-there : (files : Files) (number : ℕ) (content : Content) (other : ℕ) → IsTrue (is_some (content_at files other)) → IsTrue (is_some (content_at (with_content files number content) other))
still-there files number content other there =
    ap is_some (get-put nat_cmp nat_cmp_total files number content other) ∙ by (is_eq (nat_cmp other number))
  where
    by : (b : Bool) → is_some (cond b (Some content) (content_at files other)) ≡ true
    by true = refl
    by false = there

pub node-content : (files : Files) (number : ℕ) (content : Content) (it : Node) → IsNode files it → IsNode (with_content files number content) it
node-content files number content (File other) is_node = still-there files number content other is_node
node-content files number content other is_node = is_node

-- a tree with this content for a file of a number that was given, perhaps only now
pub well-formed-given : (t : Tree) (number made : ℕ) (content : Content) → WellFormed t → IsContent content
    → number < made → t.made ≤ made
    → WellFormed (record t { files = with_content t.files number content; made = made })
well-formed-given t number made content well is_content given more = record {
  ordered = well.ordered;
  named = well.named;
  nodes = each-weaker (λ e. IsNode t.files e.1) (λ e. IsNode (with_content t.files number content) e.1) (λ e. node-content t.files number content e.1) t.names well.nodes;
  root = well.root;
  parents = well.parents;
  numbered = InOrder-put nat_cmp nat_cmp_total t.files number content well.numbered;
  contents = each-put nat_cmp nat_cmp-IsAntisymmetric nat_cmp_total (λ e. IsContent e.1) t.files number content well.numbered is_content well.contents;
  given =
      each-put nat_cmp nat_cmp-IsAntisymmetric nat_cmp_total (λ e. e.0 < made) t.files number content well.numbered given
      (each-weaker (λ e. e.0 < t.made) (λ e. e.0 < made) (λ e early. later e.0 t.made made early more) t.files well.given);
  pins = well.pins;
  pinned = each-weaker (λ e. IsPin t.files e) (λ e. IsPin (with_content t.files number content) e)
      (λ e pin. (pin.0, still-there t.files number content e.0 pin.1)) t.pins well.pinned;
  limits = well.limits;
  home = well.home;
  uid = well.uid;
  gid = well.gid;
}
  where
    later : (n low high : ℕ) → n < low → low ≤ high → n < high
    later n low high early more = omega arith

pub well-formed-content : (t : Tree) (number : ℕ) (before content : Content) → WellFormed t → content_at t.files number ≡ Some before → IsContent content → WellFormed (record t { files = with_content t.files number content })
well-formed-content t number before content well there is_content =
    well-formed-given t number t.made content well is_content
    (each-get nat_cmp nat_cmp-IsAntisymmetric (λ e. e.0 < t.made) t.files number before well.given there) (omega arith)

pub kept-content-within : (t : Tree) (number : ℕ) (before content : Content) → IsKept t → content_at t.files number ≡ Some before → IsContent content → IsTrue (fits (record t { files = with_content t.files number content })) → IsKept (record t { files = with_content t.files number content })
kept-content-within t number before content kept there is_content within = record {
  well_formed = well-formed-content t number before content kept.well_formed there is_content;
  within_limits = within;
  trimmed =
      each-put nat_cmp nat_cmp-IsAntisymmetric nat_cmp_total (λ e. IsTrue (is_held t e.0)) t.files number content kept.well_formed.numbered
      (each-get nat_cmp nat_cmp-IsAntisymmetric (λ e. IsTrue (is_held t e.0)) t.files number before kept.trimmed there) kept.trimmed;
}

-- with its attributes set, where the limits allow it
pub kept-changed : (t : Tree) (attrs : Attrs) (number : ℕ) → IsKept t → ((content : Content) → content_at t.files number ≡ Some content → IsOwner (changed_owner attrs content.owner)) → IsTrue (fits (with_changed_file t attrs number (content_at t.files number))) → IsKept (with_changed_file t attrs number (content_at t.files number))
kept-changed t attrs number kept owned within = by (content_at t.files number) refl within
  where
    by : (found : Option Content) → content_at t.files number ≡ found → IsTrue (fits (with_changed_file t attrs number found)) → IsKept (with_changed_file t attrs number found)
    by None there within = kept
    by (Some content) there within =
        let before = each-get nat_cmp nat_cmp-IsAntisymmetric (λ e. IsContent e.1) t.files number content kept.well_formed.contents there in
        kept-content-within t number content (changed_content attrs content) kept there (owned content there, sized-bytes attrs.size content.bytes before.1) within

-- ==== A tree in which something goes to another place, with all below it: it stays a tree.

-- ---- places

-- a place is at or below the new one, at or below the old one, or elsewhere
by-place : (old new : Place) (P : Place → Type 0) → ((rest : Place) → P (new ++ rest)) → ((q : Place) → begins old q ≡ true → begins new q ≡ false → P q) → ((q : Place) → begins old q ≡ false → begins new q ≡ false → P q) → (q : Place) → P q
by-place old new P in_new in_old elsewhere q =
    elim (cases_Bool (begins new q)) [
      | inl h ↦ subst P (sym (begins-front new q h)) (in_new (drop (length new) q))
      | inr not_new ↦
          elim (cases_Bool (begins old q)) [
            | inl h ↦ in_old q h not_new
            | inr not_old ↦ elsewhere q not_old not_new
          ]
    ]

parent-append : (p : Place) (n : Name) (ns : Place) → parent (p ++ n ∷ ns) ≡ p ++ parent (n ∷ ns)
parent-append p n ns =
    let less : length (p ++ n ∷ ns) - 1 ≡ length p + (length (n ∷ ns) - 1) = omega (arith, length-append p (n ∷ ns)) in
    ap (λ k. take k (p ++ n ∷ ns)) less ∙ take-append-add p (n ∷ ns) (length (n ∷ ns) - 1)

-- of other names in front, those after stay names
names-behind : (old new rest : Place) → IsTrue (are_names new) → IsTrue (are_names (old ++ rest)) → IsTrue (are_names (new ++ rest))
names-behind old new rest named h =
    let parts = and_parts (are_names old) (are_names rest) (sym (list_all-append is_name old rest) ∙ h) in
    list_all-append is_name new rest ∙ and_from (are_names new) (are_names rest) named parts.1

never : (names : Names) (q : Place) (it : Node) → node_at names q ≡ None → node_at names q ≡ Some it → ⊥
never names q it none some = cc

-- ---- the table after the move

module _ (old new : Place) (names : Names) (nothing : NothingFrom names new) where
  -- what is taken is not at the new place, nor below it
  outside-new : (q : Place) → IsTrue (is_taken (node_at names q)) → begins new q ≡ false
  outside-new q taken =
      false_from_ne_true (begins new q) (λ inside. not-taken (node_at names q) (nothing-at names new q nothing inside) taken)

  -- what holds of each entry, also where its place is renamed, holds of each after the move
  each-moved : (P : Place × Node → Type 0) → InOrder place_cmp names → ((rest : Place) (it : Node) → P (old ++ rest, it) → P (new ++ rest, it)) → AllByRecursion P names → AllByRecursion P (rekeyed old new names)
  each-moved P order renames each =
      get-each place_cmp place_cmp-same place_cmp-total P (rekeyed old new names) (InOrder-rekeyed old new names)
      (by-place old new (λ q. (it : Node) → node_at (rekeyed old new names) q ≡ Some it → P (q, it))
      (λ rest it there. renames rest it (each-get place_cmp place_cmp-same P names (old ++ rest) it each (sym (get-rekeyed_moved old new names rest (nothing rest)) ∙ there)))
      (λ q in_old not_new it there. absurd (never (rekeyed old new names) q it (get-rekeyed_behind old new names q in_old not_new) there))
      (λ q not_old not_new it there. each-get place_cmp place_cmp-same P names q it each (sym (get-rekeyed_elsewhere old new names q not_old not_new) ∙ there)))

  -- a directory that is not at the old place, nor below it, stays
  directory-elsewhere : (q : Place) → begins old q ≡ false → IsTrue (is_directory (node_at names q)) → IsTrue (is_directory (node_at (rekeyed old new names) q))
  directory-elsewhere q not_old directory =
      ap is_directory (get-rekeyed_elsewhere old new names q not_old (outside-new q (directory-taken (node_at names q) directory))) ∙ directory

  parents-behind : HaveParents names → begins old new ≡ false → IsTrue (is_directory (node_at names (parent new))) → (rest : Place) → IsTrue (is_taken (node_at (rekeyed old new names) (new ++ rest))) → IsTrue (is_directory (node_at (rekeyed old new names) (parent (new ++ rest))))
  parents-behind parents apart above [] taken =
      subst (λ q. IsTrue (is_directory (node_at (rekeyed old new names) (parent q)))) (sym (append-nil new))
      (directory-elsewhere (parent new) (apart-parent old new apart) above)
  parents-behind parents apart above (n ∷ ns) taken =
      let before : IsTrue (is_taken (node_at names (old ++ n ∷ ns))) = ap is_taken (sym (get-rekeyed_moved old new names (n ∷ ns) (nothing (n ∷ ns)))) ∙ taken in
      let stood : IsTrue (is_directory (node_at names (old ++ parent (n ∷ ns)))) = ap (λ q. is_directory (node_at names q)) (sym (parent-append old n ns)) ∙ parents (old ++ n ∷ ns) before in
      ap (λ q. is_directory (node_at (rekeyed old new names) q)) (parent-append new n ns)
      ∙ ap is_directory (get-rekeyed_moved old new names (parent (n ∷ ns)) (nothing (parent (n ∷ ns)))) ∙ stood

  parents-moved : HaveParents names → begins old new ≡ false → IsTrue (is_directory (node_at names (parent new))) → HaveParents (rekeyed old new names)
  parents-moved parents apart above =
      by-place old new (λ q. IsTrue (is_taken (node_at (rekeyed old new names) q)) → IsTrue (is_directory (node_at (rekeyed old new names) (parent q))))
      (parents-behind parents apart above)
      (λ q in_old not_new taken. absurd (not-taken (node_at (rekeyed old new names) q) (get-rekeyed_behind old new names q in_old not_new) taken))
      (λ q not_old not_new taken.
      directory-elsewhere (parent q) (apart-parent old q not_old) (parents q (ap is_taken (sym (get-rekeyed_elsewhere old new names q not_old not_new)) ∙ taken)))

  -- after a move to a free place with nothing below it, whose parent is a directory
  pub names-moved : (files : Files) → NamesFit files names → IsTrue (are_names new) → is_root old ≡ false → begins old new ≡ false → IsTrue (is_directory (node_at names (parent new))) → NamesFit files (rekeyed old new names)
  names-moved files fit named not_root apart above = record {
    ordered = InOrder-rekeyed old new names;
    named = each-moved (λ e. IsTrue (are_names e.0)) fit.ordered (λ rest it. names-behind old new rest named) fit.named;
    nodes = each-moved (λ e. IsNode files e.1) fit.ordered (λ rest it h. h) fit.nodes;
    root = directory-elsewhere [] (below-root old not_root) fit.root;
    parents = parents-moved fit.parents apart above;
  }

-- ---- the tree

pub well-formed-moved : (t : Tree) (old new : Place) → WellFormed t → NothingFrom t.names new → IsTrue (are_names new) → is_root old ≡ false → begins old new ≡ false → IsTrue (is_directory (node_at t.names (parent new))) → WellFormed (moved t old new)
well-formed-moved t old new well nothing named not_root apart above =
    well-formed-names t (rekeyed old new t.names) well (names-moved old new t.names nothing t.files (names-of t well) named not_root apart above)

-- but for the root, no place is its parent
parent-differs : (place : Place) → is_root place ≡ false → place_cmp place (parent place) ≢ Equal
parent-differs [] apart e = cc
parent-differs (n ∷ ns) apart e =
    let same = ap length (place_cmp-same (n ∷ ns) (parent (n ∷ ns)) e) in
    let shorter = length-take-le (length (n ∷ ns) - 1) (n ∷ ns) (omega arith) in
    omega (arith, same, shorter)

pub well-formed-in-stead : (t : Tree) (old new : Place) → WellFormed t → IsTrue (are_names new) → is_root old ≡ false → is_root new ≡ false → begins old new ≡ false → IsTrue (is_directory (node_at t.names (parent new))) → has_entries t.names new ≡ false → WellFormed (put_in_its_stead t old new)
well-formed-in-stead t old new well named old_not_root new_not_root apart above empty =
    let emptied = well-formed-names t (without_node t.names new) well (names-without t.files t.names new (names-of t well) new_not_root empty) in
    well-formed-moved (record t { names = without_node t.names new }) old new emptied (nothing-from t.names new well.ordered (alone-there t.names new empty)) named old_not_root apart
    (stays-without t.names new (parent new) well.ordered (parent-differs new new_not_root) above)

pub kept-move : (t : Tree) (old new : Place) → IsKept t → IsTrue (are_names new) → is_root old ≡ false → is_root new ≡ false → begins old new ≡ false → IsTrue (is_directory (node_at t.names (parent new))) → has_entries t.names new ≡ false → IsTrue (fits (put_in_its_stead t old new)) → IsKept (trim (put_in_its_stead t old new))
kept-move t old new kept named old_not_root new_not_root apart above empty within =
    kept-trim (put_in_its_stead t old new)
    (well-formed-in-stead t old new kept.well_formed named old_not_root new_not_root apart above empty) within

-- ==== Files and their numbers: which was given, and which stays.

-- ---- numbers

-- no number that was not given has a file
pub not-given : (t : Tree) (number : ℕ) → WellFormed t → t.made ≤ number → content_at t.files number ≡ None
not-given t number well late = by (content_at t.files number) refl
  where
    by : (o : Option Content) → content_at t.files number ≡ o → o ≡ None
    by None is = refl
    by (Some content) is =
        let early : number < t.made = each-get nat_cmp nat_cmp-IsAntisymmetric (λ e. e.0 < t.made) t.files number content well.given is in
        absurd (omega arith)

-- each number that a name has was given
pub named-given : (t : Tree) (place : Place) (number : ℕ) → WellFormed t → node_at t.names place ≡ Some (File number) → number < t.made
named-given t place number well there =
    let file = each-get place_cmp place_cmp-same (λ e. IsNode t.files e.1) t.names place (File number) well.nodes there in
    elim (cases_lt number t.made) [
      | inl early ↦ early
      | inr late ↦ absurd (both_ways (is_some (content_at t.files number)) (ap is_some (not-given t number well late)) file)
    ]

-- ---- files that stay, and those that go

kept-by : (keeps : ℕ × Content → Bool) (number : ℕ) (b : Bool) (o : Option Content) → ((content : Content) → keeps (number, content) ≡ b) → kept keeps number o ≡ (if b then o else None)
kept-by keeps number true None is = refl
kept-by keeps number false None is = refl
kept-by keeps number true (Some content) is = ap (λ b. cond b (Some content) None) (is content)
kept-by keeps number false (Some content) is = ap (λ b. cond b (Some content) None) (is content)

-- a file stays where it has a name or something holds it
pub content-left : (t : Tree) (is_held : ℕ → Bool) (number : ℕ) → InOrder nat_cmp t.files → content_at (trimmed is_held t).files number ≡ (if is_named t.names number || is_held number then content_at t.files number else None)
content-left t is_held number order =
    get-retain nat_cmp nat_cmp_total nat_cmp-IsAntisymmetric t.files (stays is_held t.names) number order
    ∙ kept-by (stays is_held t.names) number (is_named t.names number || is_held number) (content_at t.files number) (λ content. refl)
