-- Causes: sets of them, and which hold where paths lead.
use Rattle.sftp_tree.proofs.Imports.{rules, ◌≡◌, ◌≢◌, ◌==◌, ◌<◌, ℕ, ◌*◌, ◌%◌, ◌^◌, Bool, true, false, ◌&&◌, ◌||◌}
use Rattle.sftp_tree.proofs.Imports.{refl, sym, ap, ◌∙◌, lit<, arith, bit_at, w32, max, eqb-true, eqb-false}
use Rattle.sftp_tree.proofs.Imports.{nat_tests, Cause, BadFlags, row, no_causes, when, joined, in_set, zero, suc}
use Rattle.sftp_tree.proofs.Imports.{List, [], ◌∷◌, IsTrue, or_parts, eq-eqb, Tree, fits, CauseSet, every_cause, only}
use Rattle.sftp_tree.proofs.Imports.{is_none, ◌⊎◌, inl, inr, not, subst, Option, Some, None, Result, Ok, Err, IfErr}
use Rattle.sftp_tree.proofs.Imports.{IsErrAnd, err_from_is_err_and, Ask, Place, NoRoom, reached, IsFree, ◌-◌, length}
use Rattle.sftp_tree.proofs.Imports.{take, replicate, nat_le, unwrap_or, if◌then◌else◌, not-false, length-append}
use Rattle.sftp_tree.proofs.Imports.{length-take, length-replicate, Attrs, is_root, same_place, Content}
use Rattle.sftp_tree.proofs.Imports.{Node, Dir, File, Link, NoEntry, Exists, IsDir, NotLink, NotFile, NotEmpty, Root}
use Rattle.sftp_tree.proofs.Imports.{Inside, NotDir, WellFormed, IsKept, limits, node_at, content_at, is_taken}
use Rattle.sftp_tree.proofs.Imports.{is_directory, is_link, has_entries, changed_owner, changed_content, resized}
use Rattle.sftp_tree.proofs.Imports.{making_causes, needing_causes, link_causes, file_causes, unlinking_causes}
use Rattle.sftp_tree.proofs.Imports.{leaving_causes, giving_causes, moving_causes, clashing_causes, replacing_causes}
use Rattle.sftp_tree.proofs.Imports.{exchanging_causes, goes_inside, are_one, are_one_file, directory_causes}
use Rattle.sftp_tree.proofs.Imports.{with_changed_file, put_in_its_stead, new_content, no_change, move_node}
use Rattle.sftp_tree.proofs.Imports.{empty_file, plan_to_set, plan_to_open, truncates, size_fits, move_fits}
use Rattle.std.specs.Int.Bits.{bit_or}
use Rattle.std.proofs.lemmas.Nat.Bits.{bit_at-zero, bit_at_or, bit_at_set_same, bit_at_set_other, bit_at-lt}
use Rattle.sftp_tree.specs.declared.causes.Causes.{Causes}
use Rattle.sftp_tree.specs.Requests.{with_room, Row, row_of, no_step, path_of, follows, led, new_led, causes_at}
use Rattle.sftp_tree.specs.Requests.{new_causes_at, causes_between, own_causes, led_causes, both_causes, plain_of}
use Rattle.sftp_tree.specs.Requests.{plain_causes, plan_at, plan_between, outcome_led, outcome, causes}
use Rattle.std.specs.Option.{option_map, is_some}
use Rattle.std.proofs.Math.Bool.{and-false, or-true, or-false}
use Rattle.sftp_tree.specs.Changes.{carried}
use Rattle.sftp_tree.specs.Room.{size_fits_at, has_room_to_open}
use Rattle.sftp_tree.proofs.Limits.{fits-again, fits-content, content-fits, total-same, total-none}
use Rattle.sftp_tree.specs.Changes.{total_fits_with}
use Rattle.sftp_tree.proofs.Limits.{fits-put_in_stead}
use Rattle.sftp_tree.proofs.FileCounts as left
use Rattle.sftp_tree.proofs.KeptTrees.NewFiles.{fits-new, no_bytes, emptied-is}
use Rattle.sftp_tree.proofs.KeptTrees.{not-given}
use Rattle.sftp_tree.proofs.WellFormedTrees.{apart-from, nothing-below, alone-there}
use Rattle.sftp_tree.proofs.WellFormedTrees.{absent-of, apart-of, node-kept}

-- ==== Sets of causes as bits.

-- each cause has a bit
pub row-few : (c : Cause) → row c < 32
row-few BadFlags = lit< tt
row-few _ = lit< tt

pub none-set : in_set (record { bits = 0 }) ≡ no_causes
unfolding in_set no_causes
none-set = λ i c. bit_at-zero (row c) i == 1

-- a bit that is not set
pub when-not : (s : Causes) (one : Cause) → in_set s ≡ when (in_set s) one false
unfolding when
when-not s one = search rules

-- a bit that is set
pub when-set : (s : Causes) (one : Cause) → in_set (record { bits = bit_or s.bits (1 * 2 ^ row one % 2 ^ 32) }) ≡ when (in_set s) one true
unfolding in_set when
when-set s one = λ i c. by c (row one == row c) refl i
  where
    by : (c : Cause) (same : Bool) → (row one == row c) ≡ same → (bit_at (bit_or s.bits (1 * 2 ^ row one % 2 ^ 32)) (row c) == 1) ≡ (same && true || (bit_at s.bits (row c) == 1))
    by c true is =
        ap (λ k. bit_at (bit_or s.bits (1 * 2 ^ row one % 2 ^ 32)) k == 1) (sym (eqb-true (row one) (row c) is))
        ∙ ap (λ b. b == 1) (bit_at_set_same w32 s.bits (row one) (row-few one))
    by c false is =
        let apart : row c ≢ row one = λ same. eqb-false (row one) (row c) is (sym same) in
        ap (λ b. b == 1) (bit_at_set_other w32 s.bits (row one) (row-few one) (row c) apart)

-- the bits of either
pub joined-set : (s o : Causes) → in_set (record { bits = bit_or s.bits o.bits }) ≡ joined (in_set s) (in_set o)
unfolding in_set joined
joined-set s o = λ i c. (ap (λ b. b == 1) (bit_at_or s.bits o.bits (row c)) ∙ by (bit_at s.bits (row c)) (bit_at o.bits (row c)) (bit_at-lt s.bits (row c)) (bit_at-lt o.bits (row c))) i
  where
    by : (a b : ℕ) → a < 2 → b < 2 → (max a b == 1) ≡ (a == 1 || b == 1)
    by a b small few = grind (arith, nat_tests)

-- ==== Sets of causes: what is in none, and `NoRoom`.

-- ---- the list of causes

-- the cause at a place of a list, and else another
abbrev pub at_row : List Cause → ℕ → Cause → Cause
at_row [] n other = other
at_row (c ∷ cs) zero other = c
at_row (c ∷ cs) (suc n) other = at_row cs n other

-- the list has each cause, at its row
pub listed : (c : Cause) → at_row every_cause (row c) BadFlags ≡ c
listed BadFlags = refl
listed _ = refl

-- where no cause is in a set, none of them is
pub none-each : (set : CauseSet) → IsTrue (is_none set) → (c : Cause) → set c ≡ false
none-each set none c = search rules

pub each-none : (set : CauseSet) → ((c : Cause) → set c ≡ false) → is_none set ≡ true
each-none set none = λ i. is_none (λ c. none c i)

pub only-itself : (c : Cause) → only c c ≡ true
only-itself c = eq-eqb (row c) (row c) refl

-- ---- `NoRoom`

-- no cause is in the set, and what is asked for keeps to the limits
pub record IsFreeOf (plain : CauseSet) (asked : Tree) : Type 0 where
  pub none : (c : Cause) → plain c ≡ false
  pub room : IsTrue (fits asked)

pub free-of : (plain : CauseSet) (asked : Tree) → IsTrue (is_none (with_room plain asked)) → IsFreeOf plain asked
unfolding when
free-of plain asked free = search rules

-- a cause that is in the set is in it with `NoRoom` too
pub in-plain : (plain : CauseSet) (asked : Tree) (c : Cause) → plain c ≡ true → with_room plain asked c ≡ true
unfolding when
in-plain plain asked c holds = search rules

-- where no cause is in a set with a cause more, none is in the set
pub fewer : (set : CauseSet) (one : Cause) (holds : Bool) → ((c : Cause) → when set one holds c ≡ false) → (c : Cause)
    → set c ≡ false
unfolding when
fewer set one holds none c = (or_parts (only one c && holds) (set c) (none c)).1

-- ==== The causes of a request by where its paths lead.

-- ---- by both ends

pub outcome-is : (t : Tree) (ask : Ask) (end new : Option (Result Place Cause)) → led t ask ≡ end → new_led t ask ≡ new → outcome t ask ≡ outcome_led t ask end new
unfolding outcome
outcome-is t ask end new one two = λ i. outcome_led t ask (one i) (two i)

pub causes-are : (t : Tree) (ask : Ask) (end new : Option (Result Place Cause)) → led t ask ≡ end → new_led t ask ≡ new → causes t ask ≡ with_room (plain_of t ask end new) (outcome_led t ask end new)
unfolding causes plain_causes outcome
causes-are t ask end new one two = λ i. with_room (plain_of t ask (one i) (two i)) (outcome_led t ask (one i) (two i))

-- one of the causes other than `NoRoom` is one of them all
pub plain-holds : (t : Tree) (ask : Ask) (end new : Option (Result Place Cause)) (c : Cause) → led t ask ≡ end → new_led t ask ≡ new → plain_of t ask end new c ≡ true → IsTrue (causes t ask c)
plain-holds t ask end new c one two holds =
    ap (λ (set : CauseSet). set c) (causes-are t ask end new one two) ∙ in-plain (plain_of t ask end new) (outcome_led t ask end new) c holds

-- ---- one path

pub led-is : (t : Tree) (ask : Ask) (follow : Bool) (path : List ℕ) (end : Result Place Cause) → path_of ask ≡ Some path → follow ≡ follows ask → end ≡ reached t follow path → led t ask ≡ Some end
unfolding led
led-is t ask follow path end asked same is = (λ i. option_map (reached t (sym same i)) (asked i)) ∙ ap Some (sym is)

-- ---- a request that is not judged

pub unjudged : (t : Tree) (ask : Ask) → row_of ask ≡ no_step → fits t ≡ true → causes t ask ≡ no_causes
unfolding led when joined no_causes
unjudged t ask same within =
    causes-are t ask None None (ap (λ (r : Row). option_map (reached t r.follows) r.path) same) (ap (λ (r : Row). option_map (reached t false) r.new_path) same)
    ∙ (λ i c. (ap (λ (r : Row). with_room (joined (joined (joined r.own no_causes) no_causes) no_causes) t c) same ∙ by c) i)
  where
    by : (c : Cause) → with_room (joined (joined (joined no_causes no_causes) no_causes) no_causes) t c ≡ false
    by c = ap (λ b. only NoRoom c && not b || false) within ∙ or-false (only NoRoom c && false) ∙ and-false (only NoRoom c)

-- ---- a path leads nowhere

lost-here : (failed : Cause) → when no_causes failed true failed ≡ true
unfolding when
lost-here failed = ap (λ b. b && true || no_causes failed) (only-itself failed)

pub lost-first : (t : Tree) (ask : Ask) (failed : Cause) (new : Option (Result Place Cause)) → plain_of t ask (Some (Err failed)) new failed ≡ true
unfolding joined
lost-first t ask failed new =
    ap (λ b. ((own_causes ask failed || b) || led_causes new (new_causes_at t ask) failed) || both_causes (Some (Err failed)) new (causes_between t ask) failed) (lost-here failed)
    ∙ ap (λ b. (b || led_causes new (new_causes_at t ask) failed) || both_causes (Some (Err failed)) new (causes_between t ask) failed) (or-true (own_causes ask failed))

pub lost-second : (t : Tree) (ask : Ask) (failed : Cause) (end : Option (Result Place Cause)) → plain_of t ask end (Some (Err failed)) failed ≡ true
unfolding joined
lost-second t ask failed end =
    let first = own_causes ask failed || led_causes end (causes_at t ask) failed in
    ap (λ b. (first || b) || both_causes end (Some (Err failed)) (causes_between t ask) failed) (lost-here failed)
    ∙ ap (λ b. b || both_causes end (Some (Err failed)) (causes_between t ask) failed) (or-true first)

-- of one of the paths
pub lost-holds : (t : Tree) (ask : Ask) (end : Result Place Cause) (new : Option (Result Place Cause)) (failed : Cause) → led t ask ≡ Some end → new_led t ask ≡ new → (end ≡ Err failed) ⊎ (new ≡ Some (Err failed)) → IsTrue (causes t ask failed)
lost-holds t ask end new failed one two lost = elim lost [
  | inl first ↦ plain-holds t ask (Some (Err failed)) new failed (one ∙ ap Some first) two (lost-first t ask failed new)
  | inr second ↦ plain-holds t ask (Some end) (Some (Err failed)) failed one (two ∙ second) (lost-second t ask failed (Some end))
]

-- the exit of a `?`
pub exit : {X E : Type 0} (r : Result X E) (P : E → Type 0) (y : E) → IsErrAnd r (λ e. e ≡ y) → P y → IfErr r P
exit r P y gives holds =
    let p = err_from_is_err_and r gives in
    subst (λ x. IfErr x P) (sym p.1) (subst P (sym p.2) holds)

-- a cause of its own bytes
own-in : (t : Tree) (ask : Ask) (c : Cause) → own_causes ask c ≡ true → plain_of t ask (led t ask) (new_led t ask) c ≡ true
unfolding joined
own-in t ask c holds =
    ap (λ b. ((b || led_causes (led t ask) (causes_at t ask) c) || led_causes (new_led t ask) (new_causes_at t ask) c) || both_causes (led t ask) (new_led t ask) (causes_between t ask) c) holds

pub own-holds : (t : Tree) (ask : Ask) (c : Cause) → own_causes ask c ≡ true → IsTrue (causes t ask c)
own-holds t ask c holds = plain-holds t ask (led t ask) (new_led t ask) c refl refl (own-in t ask c holds)

-- ---- where no cause holds

-- of the parts of the causes none holds
pub record ArePlain (t : Tree) (ask : Ask) (end new : Option (Result Place Cause)) : Type 0 where
  pub own : (c : Cause) → own_causes ask c ≡ false
  pub here : (c : Cause) → led_causes end (causes_at t ask) c ≡ false
  pub there : (c : Cause) → led_causes new (new_causes_at t ask) c ≡ false
  pub both : (c : Cause) → both_causes end new (causes_between t ask) c ≡ false

pub plain-parts : (t : Tree) (ask : Ask) (end new : Option (Result Place Cause)) → ((c : Cause) → plain_of t ask end new c ≡ false) → ArePlain t ask end new
unfolding joined
plain-parts t ask end new none =
    let own = own_causes ask in
    let here = led_causes end (causes_at t ask) in
    let there = led_causes new (new_causes_at t ask) in
    let both = both_causes end new (causes_between t ask) in
    let three = λ (c : Cause). or_parts ((own c || here c) || there c) (both c) (none c) in
    let two = λ (c : Cause). or_parts (own c || here c) (there c) (three c).0 in
    let one = λ (c : Cause). or_parts (own c) (here c) (two c).0 in
    record { own = λ c. (one c).0; here = λ c. (one c).1; there = λ c. (two c).1; both = λ c. (three c).1 }

-- a request that no cause refuses
pub free-led : (t : Tree) (ask : Ask) (end new : Option (Result Place Cause)) → IsFree t ask → led t ask ≡ end → new_led t ask ≡ new → IsFreeOf (plain_of t ask end new) (outcome_led t ask end new)
free-led t ask end new free one two =
    free-of (plain_of t ask end new) (outcome_led t ask end new) (ap is_none (sym (causes-are t ask end new one two)) ∙ free)

-- at the one place that a path leads to
pub record FreeAt (t : Tree) (ask : Ask) (place : Place) : Type 0 where
  pub own : (c : Cause) → own_causes ask c ≡ false
  pub none : (c : Cause) → causes_at t ask place c ≡ false
  pub room : IsTrue (fits (carried t (plan_at t ask place)))

-- at the two places that both paths lead to
pub record FreeBetween (t : Tree) (ask : Ask) (old new : Place) : Type 0 where
  pub at_old : (c : Cause) → causes_at t ask old c ≡ false
  pub at_new : (c : Cause) → new_causes_at t ask new c ≡ false
  pub between : (c : Cause) → causes_between t ask old new c ≡ false
  pub room : IsTrue (fits (carried t (plan_between t ask old new)))

pub free-at : (t : Tree) (ask : Ask) (place : Place) → IsFree t ask → led t ask ≡ Some (Ok place) → new_led t ask ≡ None → FreeAt t ask place
free-at t ask place free leads alone =
    let is = free-led t ask (Some (Ok place)) None free leads alone in
    let parts = plain-parts t ask (Some (Ok place)) None is.none in
    record { own = parts.own; none = parts.here; room = is.room }

pub free-between : (t : Tree) (ask : Ask) (old new : Place) → IsFree t ask → led t ask ≡ Some (Ok old) → new_led t ask ≡ Some (Ok new) → FreeBetween t ask old new
free-between t ask old new free leads leads_new =
    let is = free-led t ask (Some (Ok old)) (Some (Ok new)) free leads leads_new in
    let parts = plain-parts t ask (Some (Ok old)) (Some (Ok new)) is.none in
    record { at_old = parts.here; at_new = parts.there; between = parts.both; room = is.room }

-- ==== The numbers say whether what a request asks for keeps to the limits.

-- ---- what a place's causes say where none holds

-- the place where a node is to be made is free
pub free-place : (found : Option Node) → ((c : Cause) → making_causes found c ≡ false) → found ≡ None
unfolding when no_causes
free-place found none = absent-of found (or_parts (is_taken found) false (none Exists)).0

-- a node is where one is needed
pub taken-place : (found : Option Node) → needing_causes found NoEntry ≡ false → is_taken found ≡ true
unfolding when no_causes
taken-place found none = not-false (is_taken found) (or_parts (not (is_taken found)) false none).0

-- a file is where one is needed
pub file-place : (found : Option Node) → ((c : Cause) → file_causes found c ≡ false) → (number : ℕ) × (found ≡ Some (File number))
unfolding when no_causes
file-place None none = let there = none NoEntry in absurd cc
file-place (Some (File number)) none = (number, refl)
file-place (Some other) none = let file = none NotFile in absurd cc

-- a link is where one is needed
pub link-place : (found : Option Node) → ((c : Cause) → link_causes found c ≡ false) → is_link found ≡ true
unfolding when no_causes
link-place None none = let there = none NoEntry in absurd cc
link-place (Some (Link goal)) none = refl
link-place (Some other) none = let link = none NotLink in absurd cc

-- a directory is where one is to be listed
pub directory-place : (found : Option Node) → ((c : Cause) → directory_causes found c ≡ false) → is_directory found ≡ true
unfolding when no_causes
directory-place None none = let there = none NoEntry in absurd cc
directory-place (Some (Dir owner)) none = refl
directory-place (Some other) none = let directory = none NotDir in absurd cc

-- no directory is where a name is to be removed
pub name-place : (found : Option Node) → ((c : Cause) → unlinking_causes found c ≡ false) → is_directory found ≡ false
unfolding when no_causes
name-place found none = (or_parts (is_directory found) false (none IsDir)).0

-- what may go from there
pub record MayLeave (t : Tree) (old : Place) : Type 0 where
  pub taken : is_taken (node_at t.names old) ≡ true
  pub below_root : is_root old ≡ false

pub may-leave : (t : Tree) (old : Place) → ((c : Cause) → leaving_causes t.names old c ≡ false) → MayLeave t old
unfolding when no_causes
may-leave t old none = record {
  taken = not-false (is_taken (node_at t.names old)) (or_parts (not (is_taken (node_at t.names old))) false (none NoEntry)).0;
  below_root = (or_parts (is_root old) (false) (none Root)).0;
}

pub outside-of : (t : Tree) (old new : Place) → ((c : Cause) → moving_causes t.names old new c ≡ false) → goes_inside t.names old new ≡ false
unfolding when no_causes
outside-of t old new none = (or_parts (goes_inside t.names old new) false (none Inside)).0

pub given-below : (new : Place) → ((c : Cause) → giving_causes new c ≡ false) → is_root new ≡ false
unfolding when no_causes
given-below new none = (or_parts (is_root new) false (none Root)).0

-- what is replaced has nothing below it
replaced-empty : (goes stays : Option Node) (entries : Bool) → is_taken goes ≡ true → ((c : Cause) → clashing_causes goes stays entries c ≡ false) → (is_directory stays ≡ false → entries ≡ false) → entries ≡ false
unfolding when no_causes
replaced-empty None stays entries there none below = absurd cc
replaced-empty (Some (Dir owner)) (Some (Dir other)) entries there none below = (or_parts entries false (none NotEmpty)).0
replaced-empty (Some it) (Some (Dir other)) entries there none below = let clash = none IsDir in absurd cc
replaced-empty (Some it) stays entries there none below = below refl

-- a node that replaces another, if the places are not one
pub record MayReplace (t : Tree) (old new : Place) : Type 0 where
  pub outside : goes_inside t.names old new ≡ false
  pub elsewhere : same_place old new ≡ false
  pub alone : has_entries t.names new ≡ false

may-by : (t : Tree) (old new : Place) (one : Bool) → one ≡ false → ((c : Cause) → (if one then no_causes else replacing_causes t.names old new) c ≡ false) → (c : Cause) → replacing_causes t.names old new c ≡ false
may-by t old new true apart none = absurd cc
may-by t old new false apart none = none

pub may-replace : (t : Tree) (old new : Place) → WellFormed t → MayLeave t old → ((c : Cause) → exchanging_causes t.names old new c ≡ false) → are_one t.names old new ≡ false → MayReplace t old new
unfolding when
may-replace t old new well leave none apart =
    let each = may-by t old new (are_one t.names old new) apart none in
    let goes = node_at t.names old in
    let stays = node_at t.names new in
    let parts = λ (c : Cause). or_parts _ (clashing_causes goes stays (has_entries t.names new) c) (each c) in
    record {
      outside = (parts Inside).0;
      elsewhere = (or_parts (same_place old new) (are_one_file goes stays) apart).0;
      alone = replaced-empty goes stays (has_entries t.names new) leave.taken (λ c. (parts c).1) (nothing-below t.names new well.ordered well.parents);
    }

-- ---- files

pub length-resized : (size : ℕ) (bytes : List ℕ) → length (resized size bytes) ≡ size
length-resized size bytes =
    omega (arith, length-append (take size bytes) (replicate (size - length bytes) 0), length-take size bytes, length-replicate {A = ℕ} (size - length bytes) 0)

-- a file, and all together, keep to the limits with other attributes just where the size does
pub changed-fits : (t : Tree) (number : ℕ) (content : Content) (size : Option ℕ) → IsTrue (fits t) → content_at t.files number ≡ Some content
    → (nat_le (length (unwrap_or (option_map (λ n. resized n content.bytes) size) content.bytes)) (limits t).file_bytes
    && total_fits_with t number (length (unwrap_or (option_map (λ n. resized n content.bytes) size) content.bytes))) ≡ size_fits t number size
changed-fits t number content None within there =
    (λ i. content-fits t number content within there i && total-same t number content within there i)
changed-fits t number content (Some size) within there =
    ap (λ n. nat_le n (limits t).file_bytes && total_fits_with t number n) (length-resized size content.bytes)

pub changed-room : (t : Tree) (attrs : Attrs) (number : ℕ) → IsKept t → (content : Option Content) → content_at t.files number ≡ content → IsTrue (is_some content) → fits (with_changed_file t attrs number content) ≡ size_fits t number attrs.size
changed-room t attrs number kept None is there = absurd cc
changed-room t attrs number kept (Some content) is there =
    fits-content t number (changed_content attrs content) kept.within_limits kept.well_formed.numbered
    ∙ changed-fits t number content attrs.size kept.within_limits is

pub set-room : (t : Tree) (attrs : Attrs) (place : Place) (found : Option Node) → IsKept t → node_at t.names place ≡ found → size_fits_at t attrs.size found ≡ fits (carried t (plan_to_set attrs place found))
set-room t attrs place None kept is = sym kept.within_limits
set-room t attrs place (Some (Dir owner)) kept is = sym (fits-again t place (Dir owner) (Dir (changed_owner attrs owner)) kept.within_limits kept.well_formed.ordered is refl)
set-room t attrs place (Some (File number)) kept is = sym (changed-room t attrs number kept (content_at t.files number) refl (node-kept t place (File number) kept is))
set-room t attrs place (Some (Link goal)) kept is = sym kept.within_limits

-- ---- files that are opened

short-enough : (limit : ℕ) → nat_le 0 limit ≡ true
short-enough limit = grind (arith, nat_tests)

truncated-room : (t : Tree) (number : ℕ) (empties : Bool) → IsKept t → IsTrue (is_some (content_at t.files number))
    → true ≡ fits (carried t (if empties then empty_file number else no_change))
truncated-room t number true kept there =
    sym (ap fits (emptied-is t number (content_at t.files number)) ∙ changed-room t no_bytes number kept (content_at t.files number) refl there
    ∙ (λ i. short-enough (limits t).file_bytes i && total-none t number kept.within_limits i))
truncated-room t number false kept there = sym kept.within_limits

pub open-room : (t : Tree) (flags : ℕ) (attrs : Attrs) (place : Place) (found : Option Node) → IsKept t
    → node_at t.names place ≡ found → has_room_to_open t place found ≡ fits (carried t (plan_to_open t flags attrs place found))
open-room t flags attrs place None kept is =
    sym (fits-new t place (new_content t attrs) kept is (not-given t t.made kept.well_formed (omega arith)) refl)
open-room t flags attrs place (Some (Dir owner)) kept is = sym kept.within_limits
open-room t flags attrs place (Some (File number)) kept is =
    truncated-room t number (truncates flags) kept (node-kept t place (File number) kept is)
open-room t flags attrs place (Some (Link goal)) kept is = sym kept.within_limits

-- ---- what moves

-- to a free place
pub may-rename : (t : Tree) (old new : Place) → WellFormed t → MayLeave t old → node_at t.names new ≡ None
    → ((c : Cause) → moving_causes t.names old new c ≡ false) → MayReplace t old new
may-rename t old new well leave absent none = record {
  outside = outside-of t old new none;
  elsewhere = apart-of t.names old new leave.taken absent;
  alone = nothing-below t.names new well.ordered well.parents (ap is_directory absent);
}

pub move-room : (t : Tree) (old new : Place) → IsKept t → MayLeave t old → MayReplace t old new
    → move_fits t.names old new ≡ fits (put_in_its_stead t old new)
move-room t old new kept leave may =
    let well = kept.well_formed in
    sym (fits-put_in_stead t old new kept leave.taken
    (left.nothing-from t.names new well.ordered (alone-there t.names new may.alone))
    (λ there. apart-from t.names old new well.parents may.outside may.elsewhere (well.parents new there)))

pub exchange-room : (t : Tree) (old new : Place) (one : Bool) → are_one t.names old new ≡ one → IsKept t
    → MayLeave t old → ((c : Cause) → exchanging_causes t.names old new c ≡ false)
    → (one || move_fits t.names old new) ≡ fits (carried t (if one then no_change else move_node old new))
exchange-room t old new true is kept leave none = sym kept.within_limits
exchange-room t old new false is kept leave none =
    move-room t old new kept leave (may-replace t old new kept.well_formed leave none is)
