-- Limits: the tests of whether a tree is within them, and how each change bears on these.
use Rattle.sftp_tree.proofs.Imports.{rules, ◌≡◌, true, IsTrue, Tree, WellFormed, IsKept, fits, entries_fit}
use Rattle.sftp_tree.proofs.Imports.{depths_fit, home_fits, links_fit, files_fit, numbers_fit, ℕ, ◌+◌, ◌-◌, ◌≤◌, ◌&&◌}
use Rattle.sftp_tree.proofs.Imports.{length, ap, arith, Some, None, nat_le, nat_cmp, list_all, nat_tests, Place}
use Rattle.sftp_tree.proofs.Imports.{place_cmp, InOrder, renamed, NothingFrom, place_cmp-total, place_cmp-same}
use Rattle.sftp_tree.proofs.Imports.{size-put, size-put_present, all-put_new, all-without, keys-put_again, values-put}
use Rattle.sftp_tree.proofs.Imports.{size-rekeyed, Content, Node, limits, depth_fits, link_fits, content_fits}
use Rattle.sftp_tree.proofs.Imports.{node_at, with_node, without_node, content_at, with_content, moved, Bool, false}
use Rattle.sftp_tree.proofs.Imports.{refl, sym, ◌∙◌, and-true, and_assoc, get-put_here, keys-put_in_order, Names}
use Rattle.sftp_tree.proofs.Imports.{has_room, ◌||◌, not, cond, [], ◌∷◌, ◌++◌, drop, Option, is_eq, Equal-is, lookup}
use Rattle.sftp_tree.proofs.Imports.{remove_entry, is_at, and_parts, and_from, or_right, leb-true, le-leb, append-nil}
use Rattle.sftp_tree.proofs.Imports.{length-append, Name, begins, depth_limit, get, without, rekeyed, begins-front}
use Rattle.sftp_tree.proofs.Imports.{begins-itself, InOrder-without, renamed-outside, length-renamed, without-absent}
use Rattle.sftp_tree.proofs.Imports.{is_taken, reaches_at_most, move_fits, put_in_its_stead}
use Rattle.sftp_path.proofs.Move.{all-rekeyed}
use Rattle.sftp_tree.proofs.PlaceTables.{length-without}
use Rattle.std.proofs.lemmas.Cmp.{nat_cmp_total}
use Rattle.sftp_tree.proofs.WellFormedTrees.{found-passes}
use Rattle.sftp_path.proofs.Move as tests
use Rattle.sftp_tree.specs.Tree.{total_of, total_fits}
use Rattle.sftp_tree.specs.Changes.{length_of, total_fits_with}
use Rattle.sftp_tree.proofs.Totals.{total-with, part-of_total}

-- ==== Trees within the limits, and the parts of the test whether a tree is.

-- a tree within the limits, which may have files that have no name and are not pinned
pub record Stands (t : Tree) : Type 0 where
  pub well_formed : WellFormed t
  pub within_limits : IsTrue (fits t)

pub stands-of : (t : Tree) → IsKept t → Stands t
stands-of t kept = record { well_formed = kept.well_formed; within_limits = kept.within_limits }

pub record Fits (t : Tree) : Type 0 where
  pub entries : entries_fit t ≡ true
  pub depths : depths_fit t ≡ true
  pub home : home_fits t ≡ true
  pub links : links_fit t ≡ true
  pub files : files_fit t ≡ true
  pub total : total_fits t ≡ true
  pub numbers : numbers_fit t ≡ true

pub fits-parts : (t : Tree) → IsTrue (fits t) → Fits t
unfolding fits
fits-parts t h =
    let all = and_parts (entries_fit t) _ h in
    let places = and_parts (depths_fit t) _ all.1 in
    let home = and_parts (home_fits t) _ places.1 in
    let links = and_parts (links_fit t) _ home.1 in
    let files = and_parts (files_fit t) _ links.1 in
    let total = and_parts (total_fits t) (numbers_fit t) files.1 in
    record {
      entries = all.0;
      depths = places.0;
      home = home.0;
      links = links.0;
      files = files.0;
      total = total.0;
      numbers = total.1;
    }

pub fits-from : (t : Tree) → Fits t → IsTrue (fits t)
unfolding fits
fits-from t h = cc

-- ==== How each change of a tree bears on each of its limits.

-- ---- an entry at a new place

pub more-entries : (n m limit : ℕ) → m ≡ n + 1 → nat_le (m - 1) limit ≡ nat_le n limit
more-entries n m limit one_more = search rules

pub entries-with : (t : Tree) (place : Place) (it : Node) → node_at t.names place ≡ None → entries_fit (record t { names = with_node t.names place it }) ≡ nat_le (length t.names) (limits t).entries
entries-with t place it absent = more-entries (length t.names) (length (with_node t.names place it)) (limits t).entries (size-put place_cmp t.names place it absent)

pub depths-with : (t : Tree) (place : Place) (it : Node) → node_at t.names place ≡ None → depths_fit (record t { names = with_node t.names place it }) ≡ (depth_fits place && depths_fit t)
depths-with t place it = all-put_new place_cmp t.names place it (λ e. depth_fits e.0)

pub links-with : (t : Tree) (place : Place) (it : Node) → node_at t.names place ≡ None → links_fit (record t { names = with_node t.names place it }) ≡ (link_fits it && links_fit t)
links-with t place it = all-put_new place_cmp t.names place it (λ e. link_fits e.1)

-- ---- something else at a place that is taken

pub entries-again : (t : Tree) (place : Place) (before it : Node) → InOrder place_cmp t.names → node_at t.names place ≡ Some before → entries_fit (record t { names = with_node t.names place it }) ≡ entries_fit t
entries-again t place before it order there = ap (λ n. nat_le (n - 1) (limits t).entries) (size-put_present place_cmp place_cmp-total t.names place it before order there)

pub depths-again : (t : Tree) (place : Place) (before it : Node) → node_at t.names place ≡ Some before → depths_fit (record t { names = with_node t.names place it }) ≡ depths_fit t
depths-again t place before it there = keys-put_again place_cmp place_cmp-same t.names place it before depth_fits there

pub links-again : (t : Tree) (place : Place) (it : Node) → IsTrue (links_fit t) → IsTrue (link_fits it) → IsTrue (links_fit (record t { names = with_node t.names place it }))
links-again t place it = values-put place_cmp t.names place it link_fits

-- ---- an entry less

pub fewer : (n m limit : ℕ) → m ≤ n → nat_le (n - 1) limit ≡ true → nat_le (m - 1) limit ≡ true
fewer n m limit less fit = grind (arith, nat_tests)

pub entries-without : (t : Tree) (place : Place) → IsTrue (entries_fit t) → IsTrue (entries_fit (record t { names = without_node t.names place }))
entries-without t place = fewer (length t.names) (length (without_node t.names place)) (limits t).entries (length-without place t.names)

pub depths-without : (t : Tree) (place : Place) → IsTrue (depths_fit t) → IsTrue (depths_fit (record t { names = without_node t.names place }))
depths-without t place = all-without place_cmp t.names place (λ e. depth_fits e.0)

pub links-without : (t : Tree) (place : Place) → IsTrue (links_fit t) → IsTrue (links_fit (record t { names = without_node t.names place }))
links-without t place = all-without place_cmp t.names place (λ e. link_fits e.1)

-- ---- a move

pub entries-moved : (t : Tree) (old new : Place) → InOrder place_cmp t.names → NothingFrom t.names new → entries_fit (moved t old new) ≡ entries_fit t
entries-moved t old new order nothing = ap (λ n. nat_le (n - 1) (limits t).entries) (size-rekeyed old new t.names order nothing)

pub depths_fit-moved : (t : Tree) (old new : Place) → InOrder place_cmp t.names → NothingFrom t.names new → depths_fit (moved t old new) ≡ list_all (λ e. depth_fits (renamed old new e.0)) t.names
depths_fit-moved t old new = all-rekeyed old new t.names (λ e. depth_fits e.0)

pub links-moved : (t : Tree) (old new : Place) → InOrder place_cmp t.names → NothingFrom t.names new → links_fit (moved t old new) ≡ links_fit t
links-moved t old new = all-rekeyed old new t.names (λ e. link_fits e.1)

-- ---- files

pub files-with : (t : Tree) (number : ℕ) (content : Content) → content_at t.files number ≡ None → files_fit (record t { files = with_content t.files number content }) ≡ (content_fits (limits t) content && files_fit t)
files-with t number content = all-put_new nat_cmp t.files number content (λ e. content_fits (limits t) e.1)

pub files-again : (t : Tree) (number : ℕ) (content : Content) → IsTrue (files_fit t) → IsTrue (content_fits (limits t) content) → IsTrue (files_fit (record t { files = with_content t.files number content }))
files-again t number content = values-put nat_cmp t.files number content (content_fits (limits t))

-- how many bytes all files have with another content of one
total-exchanged : (t : Tree) (number : ℕ) (content : Content) → InOrder nat_cmp t.files
    → total_fits (record t { files = with_content t.files number content }) ≡ total_fits_with t number (length content.bytes)
total-exchanged t number content order =
    ap (λ n. nat_le n (limits t).total_bytes) (total-with t.files number content order)

-- and with as many as before
pub total-same : (t : Tree) (number : ℕ) (content : Content) → IsTrue (fits t) → content_at t.files number ≡ Some content
    → total_fits_with t number (length content.bytes) ≡ true
total-same t number content within there =
    let same : total_of t.files - length_of (content_at t.files number) + length content.bytes ≡ total_of t.files =
    omega (arith, ap length_of there, part-of_total t.files number) in
    ap (λ n. nat_le n (limits t).total_bytes) same ∙ (fits-parts t within).total

-- with none there is room
pub total-none : (t : Tree) (number : ℕ) → IsTrue (fits t) → total_fits_with t number 0 ≡ true
total-none t number within =
    let most = leb-true (total_of t.files) (limits t).total_bytes (fits-parts t within).total in
    le-leb (total_of t.files - length_of (content_at t.files number) + 0) (limits t).total_bytes (omega (arith, most))

-- ==== Which changes of a tree keep to its limits: an entry more or less, another owner, another content.

-- with other entries
pub fits-names : (t : Tree) (names : Names) (entries depths links : Bool) → Fits t → entries_fit (record t { names = names }) ≡ entries → depths_fit (record t { names = names }) ≡ depths → links_fit (record t { names = names }) ≡ links → fits (record t { names = names }) ≡ (entries && (depths && links))
unfolding fits
fits-names t names entries depths links fit one two three = search rules

-- ---- one entry more

-- with a new place a tree within the limits fits where there is room, and a link's target is one
pub fits-put : (t : Tree) (place : Place) (node : Node) → IsTrue (fits t) → node_at t.names place ≡ None → fits (record t { names = with_node t.names place node }) ≡ (has_room t place && link_fits node)
fits-put t place node kept absent =
    let fit = fits-parts t kept in
    fits-names t (with_node t.names place node) (nat_le (length t.names) (limits t).entries) (depth_fits place) (link_fits node) fit
    (more-entries (length t.names) (length (with_node t.names place node)) (limits t).entries (size-put place_cmp t.names place node absent))
    (all-put_new place_cmp t.names place node (λ e. depth_fits e.0) absent ∙ ap (λ b. depth_fits place && b) fit.depths ∙ and-true (depth_fits place))
    (all-put_new place_cmp t.names place node (λ e. link_fits e.1) absent ∙ ap (λ b. link_fits node && b) fit.links ∙ and-true (link_fits node))
    ∙ sym (and_assoc (nat_le (length t.names) (limits t).entries) (depth_fits place) (link_fits node))

-- ---- one entry less

-- a tree within the limits fits with an entry less
pub fits-without : (t : Tree) (place : Place) → IsTrue (fits t) → fits (record t { names = without_node t.names place }) ≡ true
fits-without t place kept =
    let fit = fits-parts t kept in
    fits-names t (without_node t.names place) true true true fit
    (fewer (length t.names) (length (without_node t.names place)) (limits t).entries (length-without place t.names) fit.entries)
    (all-without place_cmp t.names place (λ e. depth_fits e.0) fit.depths)
    (all-without place_cmp t.names place (λ e. link_fits e.1) fit.links)

-- ---- something else at a place

pub fits-again : (t : Tree) (place : Place) (before node : Node) → IsTrue (fits t) → InOrder place_cmp t.names → node_at t.names place ≡ Some before → link_fits node ≡ true → fits (record t { names = with_node t.names place node }) ≡ true
fits-again t place before node kept order there link =
    let fit = fits-parts t kept in
    fits-names t (with_node t.names place node) true true true fit
    (ap (λ n. nat_le (n - 1) (limits t).entries) (size-put_present place_cmp place_cmp-total t.names place node before order there) ∙ fit.entries)
    (keys-put_in_order place_cmp place_cmp-total t.names place node before depth_fits order there ∙ fit.depths)
    (values-put place_cmp t.names place node link_fits fit.links link)

-- ---- another content of a file

pub both-ways : (a b : Bool) → (a ≡ true → b ≡ true) → (b ≡ true → a ≡ true) → a ≡ b
both-ways true b there back = sym (there refl)
both-ways false true there back = back refl
both-ways false false there back = refl

-- with another content of a file a tree within the limits fits where the content does, and all contents together
pub fits-content : (t : Tree) (number : ℕ) (content : Content) → IsTrue (fits t) → InOrder nat_cmp t.files → fits (record t { files = with_content t.files number content }) ≡ (content_fits (limits t) content && total_fits_with t number (length content.bytes))
unfolding fits
fits-content t number content kept order =
    let fit = fits-parts t kept in
    let files : files_fit (record t { files = with_content t.files number content }) ≡ content_fits (limits t) content =
    both-ways (files_fit (record t { files = with_content t.files number content })) (content_fits (limits t) content)
    (λ all. found-passes nat_cmp (content_fits (limits t)) number content (with_content t.files number content) all (get-put_here nat_cmp nat_cmp_total t.files number content))
    (λ passing. values-put nat_cmp t.files number content (content_fits (limits t)) fit.files passing) in
    let total = total-exchanged t number content order in
    (λ i. fit.entries i && (fit.depths i && (fit.home i && (fit.links i && (files i && (total i && fit.numbers i))))))
    ∙ ap (λ b. content_fits (limits t) content && b) (and-true (total_fits_with t number (length content.bytes)))

-- the content of a file of a tree within the limits fits
pub content-fits : (t : Tree) (number : ℕ) (content : Content) → IsTrue (fits t) → content_at t.files number ≡ Some content → content_fits (limits t) content ≡ true
content-fits t number content kept there = found-passes nat_cmp (content_fits (limits t)) number content t.files (fits-parts t kept).files there

-- ==== Which trees keep to the limits after something went to another place.

-- ---- tests of all entries

-- two tests that say one thing of each entry that passes a third
all-alike : (p q g : Place × Node → Bool) (es : Names) → list_all g es ≡ true → ((e : Place × Node) → g e ≡ true → p e ≡ q e) → list_all p es ≡ list_all q es
all-alike p q g [] all alike = refl
all-alike p q g (e ∷ es) all alike =
    let parts = and_parts (g e) (list_all g es) all in
    λ i. alike e parts.0 i && all-alike p q g es parts.1 alike i

-- where all places pass a test, one that is taken does
place-found : (test : Place → Bool) (place : Place) (node : Node) (es : Names) → list_all (λ e. test e.0) es ≡ true → lookup (is_at (place_cmp place)) es ≡ Some node → test place ≡ true
place-found test place node [] all there = cc
place-found test place node (e ∷ es) all there =
    let parts = and_parts (test e.0) (list_all (λ e. test e.0) es) all in
    by (is_eq (place_cmp place e.0)) refl parts.0 (place-found test place node es parts.1) there
  where
    by : (b : Bool) → is_eq (place_cmp place e.0) ≡ b → test e.0 ≡ true → (lookup (is_at (place_cmp place)) es ≡ Some node → test place ≡ true) → cond b (Some e.1) (lookup (is_at (place_cmp place)) es) ≡ Some node → test place ≡ true
    by true same first rest is = ap test (place_cmp-same place e.0 ((Equal-is (place_cmp place e.0)).0 same)) ∙ first
    by false apart first rest is = rest is

pub place-passes : (test : Place → Bool) (place : Place) (names : Names) → list_all (λ e. test e.0) names ≡ true → is_taken (node_at names place) ≡ true → test place ≡ true
unfolding get
place-passes test place names all taken = by (lookup (is_at (place_cmp place)) names) refl taken
  where
    by : (found : Option Node) → lookup (is_at (place_cmp place)) names ≡ found → is_taken found ≡ true → test place ≡ true
    by None is h = cc
    by (Some node) is h = place-found test place node names all is

-- an entry that passes a test in any case does not count
all-remove : (test : Place → Bool) (place : Place) (es : Names) → test place ≡ true → list_all (λ e. test e.0) (remove_entry (is_at (place_cmp place)) es) ≡ list_all (λ e. test e.0) es
all-remove test place [] passes = refl
all-remove test place (e ∷ es) passes = by (is_eq (place_cmp place e.0)) refl (all-remove test place es passes)
  where
    by : (b : Bool) → is_eq (place_cmp place e.0) ≡ b → list_all (λ e. test e.0) (remove_entry (is_at (place_cmp place)) es) ≡ list_all (λ e. test e.0) es → list_all (λ e. test e.0) (cond b es (e ∷ remove_entry (is_at (place_cmp place)) es)) ≡ (test e.0 && list_all (λ e. test e.0) es)
    by true same rest =
        let here = sym (ap test (place_cmp-same place e.0 ((Equal-is (place_cmp place e.0)).0 same))) ∙ passes in
        ap (λ b. b && list_all (λ e. test e.0) es) (sym here)
    by false apart rest = ap (λ b. test e.0 && b) rest

all-but : (test : Place → Bool) (place : Place) (names : Names) → test place ≡ true → list_all (λ e. test e.0) (without_node names place) ≡ list_all (λ e. test e.0) names
unfolding without
all-but = all-remove

-- ---- the depths of places that move

begins-length : (top place : Place) → begins top place ≡ true → length top ≤ length place
begins-length top place begun =
    let behind : length place ≡ length top + length (drop (length top) place) = ap length (begins-front top place begun) ∙ length-append top (drop (length top) place) in
    omega arith

-- the depth of a renamed place, where the new one is not too deep
deeper : (limit renamed old place new : ℕ) → renamed + old ≡ place + new → old ≤ place → nat_le new limit ≡ true → nat_le renamed limit ≡ nat_le (place - old) (limit - new)
deeper limit renamed old place new is less fit = grind (arith, nat_tests)

renamed-depth : (old new place : Place) → nat_le (length new) depth_limit ≡ true → depth_fits place ≡ true → depth_fits (renamed old new place) ≡ (not (begins old place) || nat_le (length place - length old) (depth_limit - length new))
renamed-depth old new place fit before = by (begins old place) refl
  where
    by : (b : Bool) → begins old place ≡ b → depth_fits (renamed old new place) ≡ (not b || nat_le (length place - length old) (depth_limit - length new))
    by true begun = deeper depth_limit (length (renamed old new place)) (length old) (length place) (length new) (length-renamed old new place begun) (begins-length old place begun) fit
    by false apart = ap depth_fits (renamed-outside old new place apart) ∙ before

-- all places are not too deep after the move where the new one is not, and none that moves reaches too far after the old one
pub depths-moved : (names : Names) (old new : Place) → list_all (λ e. depth_fits e.0) names ≡ true → is_taken (node_at names old) ≡ true → list_all (λ e. depth_fits (renamed old new e.0)) names ≡ move_fits names old new
depths-moved names old new all taken = by (nat_le (length new) depth_limit) refl
  where
    by : (b : Bool) → nat_le (length new) depth_limit ≡ b → list_all (λ e. depth_fits (renamed old new e.0)) names ≡ (b && reaches_at_most names old (depth_limit - length new))
    by true fit =
        all-alike (λ e. depth_fits (renamed old new e.0)) (λ e. not (begins old e.0) || nat_le (length e.0 - length old) (depth_limit - length new)) (λ e. depth_fits e.0) names all (λ e before. renamed-depth old new e.0 fit before)
    by false too_deep = none (list_all (λ e. depth_fits (renamed old new e.0)) names) refl
      where
        same_length : (n m k : ℕ) → n + m ≡ m + k → n ≡ k
        same_length n m k is = omega arith

        none : (b : Bool) → list_all (λ e. depth_fits (renamed old new e.0)) names ≡ b → b ≡ false
        none true passed =
            let at_old = place-passes (λ place. depth_fits (renamed old new place)) old names passed taken in
            let is = same_length (length (renamed old new old)) (length old) (length new) (length-renamed old new old (begins-itself old)) in
            let deep = ap (λ n. nat_le n depth_limit) (sym is) ∙ at_old in
            cc
        none false failed = refl

-- ---- a move

-- with the node at the new place removed, if there is one
pub fits-put_in_stead : (t : Tree) (old new : Place) → IsKept t → is_taken (node_at t.names old) ≡ true → NothingFrom (without_node t.names new) new → (is_taken (node_at t.names new) ≡ true → begins old new ≡ false) → fits (put_in_its_stead t old new) ≡ move_fits t.names old new
fits-put_in_stead t old new kept taken nothing apart =
    let fit = fits-parts t kept.within_limits in
    let order = InOrder-without place_cmp t.names new kept.well_formed.ordered in
    fits-names t (rekeyed old new (without_node t.names new)) true (move_fits t.names old new) true fit
    (ap (λ n. nat_le (n - 1) (limits t).entries) (size-rekeyed old new (without_node t.names new) order nothing)
    ∙ fewer (length t.names) (length (without_node t.names new)) (limits t).entries (length-without new t.names) fit.entries)
    (tests.all-rekeyed old new (without_node t.names new) (λ e. depth_fits e.0) order nothing ∙ others fit ∙ depths-moved t.names old new fit.depths taken)
    (tests.all-rekeyed old new (without_node t.names new) (λ e. link_fits e.1) order nothing ∙ all-without place_cmp t.names new (λ e. link_fits e.1) fit.links)
    ∙ and-true (move_fits t.names old new)
  where
    -- what goes is neither moved nor too deep
    others : Fits t → list_all (λ e. depth_fits (renamed old new e.0)) (without_node t.names new) ≡ list_all (λ e. depth_fits (renamed old new e.0)) t.names
    others fit = by (node_at t.names new) refl
      where
        by : (found : Option Node) → node_at t.names new ≡ found → list_all (λ e. depth_fits (renamed old new e.0)) (without_node t.names new) ≡ list_all (λ e. depth_fits (renamed old new e.0)) t.names
        by None absent = ap (list_all (λ e. depth_fits (renamed old new e.0))) (without-absent place_cmp t.names new absent)
        by (Some node) there =
            let here = ap is_taken there in
            all-but (λ place. depth_fits (renamed old new place)) new t.names (ap depth_fits (renamed-outside old new new (apart here)) ∙ place-passes depth_fits new t.names fit.depths here)

-- ---- the new place is free, and nothing is below it

pub nothing-from : (names : Names) (place : Place) → node_at names place ≡ None → ((n : Name) (ns : Place) → node_at names (place ++ n ∷ ns) ≡ None) → NothingFrom names place
nothing-from names place here below [] = ap (node_at names) (append-nil place) ∙ here
nothing-from names place here below (n ∷ ns) = below n ns

-- what is not moved deeper still has places of few enough names
pub reaches-shallow : (names : Names) (old : Place) (n : ℕ) → n ≤ length old
    → list_all (λ e. depth_fits e.0) names ≡ true → reaches_at_most names old (depth_limit - n) ≡ true
reaches-shallow [] old n shallow fit = refl
reaches-shallow (e ∷ es) old n shallow fit =
    let parts = and_parts (depth_fits e.0) (list_all (λ e. depth_fits e.0) es) fit in
    let most = leb-true (length e.0) depth_limit parts.0 in
    let short = le-leb (length e.0 - length old) (depth_limit - n) (omega (arith, most, shallow)) in
    and_from (not (begins old e.0) || nat_le (length e.0 - length old) (depth_limit - n)) _
    (or_right (not (begins old e.0)) (nat_le (length e.0 - length old) (depth_limit - n)) short) (reaches-shallow es old n shallow parts.1)

-- so it fits at a place that is not too deep
pub shallow-fits : (t : Tree) (old new : Place) → IsKept t → length new ≤ length old → length new ≤ 64
    → move_fits t.names old new ≡ true
shallow-fits t old new kept shallow short =
    and_from (nat_le (length new) depth_limit) (reaches_at_most t.names old (depth_limit - length new))
    (le-leb (length new) depth_limit short)
    (reaches-shallow t.names old (length new) shallow (fits-parts t kept.within_limits).depths)
