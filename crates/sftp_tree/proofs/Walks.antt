-- Walks: what they meet, where they lead, and how many components they look at.
use Rattle.sftp_tree.proofs.Imports.{◌≡◌, ◌==◌, ◌&&◌, List, [], ◌∷◌, ◌++◌, length, refl, sym, ap, ◌∙◌, arith}
use Rattle.sftp_tree.proofs.Imports.{list_all, ne_eqb, and_comm, append-nil, append_assoc, Name, Split, is_last}
use Rattle.sftp_tree.proofs.Imports.{left_of, is_done, ℕ, zero, suc, ◌+◌, ◌<◌, ◌≤◌, Bool, true, false, if◌then◌else◌}
use Rattle.sftp_tree.proofs.Imports.{subst, Option, Result, Ok, Err, MatchResult, Bor, IsErrAnd, err_from_is_err_and}
use Rattle.sftp_tree.proofs.Imports.{Place, components, is_good_path, Cause, BadPath, Loop, Ends, Through, Names}
use Rattle.sftp_tree.proofs.Imports.{Tree, IsLentAt, Meeting, start_of, going_on, meets, walk_parts, walk}
use Rattle.sftp_tree.proofs.Imports.{looked_parts, looked, link_limit, steps_of, reached, meeting, StaysAtLink}
use Rattle.sftp_tree.proofs.Imports.{LendsEnd, nat_eq, Some, None, IsTrue, is_at, and_parts, and_from, and_right}
use Rattle.sftp_tree.proofs.Imports.{false≢true, list_all-append, place_cmp, parent, is_dot, is_dot_dot, is_name}
use Rattle.sftp_tree.proofs.Imports.{is_step, get, components-steps, Owner, are_bytes, Node, Dir, File, Link, NoEntry}
use Rattle.sftp_tree.proofs.Imports.{NotDir, node_at, IsNode, link_fits, home_fits, IsKept, enters, ends, fails}
use Rattle.sftp_tree.proofs.Imports.{through, met_link, met, ◌-◌, ◌||◌, take, or_right, are_names, is_absolute}
use Rattle.sftp_tree.proofs.Imports.{list_all-weaker, parent-entered, is_directory, IsPlaceOf}
use Rattle.sftp_tree.specs.declared.stepping.Met.{Met}
use Rattle.sftp_tree.specs.declared.entries.seen.Seen.{Seen}
use Rattle.sftp_tree.specs.WalkRules.{looked_of}
use Rattle.sftp_tree.specs.WalkRules.{IsPlain, GoesThrough, not_last, followed}
use Rattle.sftp_tree.proofs.PlaceTables.{each-all, lookup_holds}
use Rattle.sftp_tree.proofs.Limits.{fits-parts}
use Rattle.sftp_tree.proofs.WellFormedTrees.{directory-taken}
pub mod Counts
pub mod Plain
pub mod Trails

-- ==== What is left of a route.

-- one target more comes in front
pub left_of-push : (targets : List Split) (target : Split) → left_of (targets ++ target ∷ []) ≡ target.left ++ left_of targets
left_of-push [] target = sym (append-nil target.left)
left_of-push (t ∷ ts) target = ap (λ xs. xs ++ t.left) (left_of-push ts target) ∙ append_assoc target.left (left_of ts) t.left

pub is_last-length : (xs : List Name) → is_last xs ≡ (length xs == 0)
is_last-length [] = refl
is_last-length (x ∷ xs) = sym (ne_eqb (length (x ∷ xs)) 0 (λ e. omega (arith, e)))

pub is_last-append : (xs ys : List Name) → is_last (xs ++ ys) ≡ (is_last xs && is_last ys)
is_last-append [] ys = refl
is_last-append (x ∷ xs) ys = refl

-- nothing is left of targets where nothing is left of each
pub is_last-left_of : (targets : List Split) → is_last (left_of targets) ≡ list_all is_done targets
is_last-left_of [] = refl
is_last-left_of (t ∷ ts) = is_last-append (left_of ts) t.left ∙ and_comm (is_last (left_of ts)) (is_last t.left)
    ∙ ap (λ b. b && is_last (left_of ts)) (is_last-length t.left) ∙ ap (λ b. is_done t && b) (is_last-left_of ts)

-- nothing is left of targets where nothing is left of the first, nor of those after it
pub is_last-targets : (front : Split) (behind : List Split) → is_last (front.left ++ left_of behind) ≡ (is_done front && list_all is_done behind)
is_last-targets front behind = is_last-append front.left (left_of behind)
    ∙ ap (λ b. b && is_last (left_of behind)) (is_last-length front.left) ∙ ap (λ b. is_done front && b) (is_last-left_of behind)

-- nothing is left of a route where nothing is left of its parts
pub is_last-route : (targets home path : List Name) → is_last (targets ++ (home ++ path)) ≡ (is_last targets && ((length home == 0) && (length path == 0)))
is_last-route targets home path = is_last-append targets (home ++ path)
    ∙ ap (λ b. is_last targets && b) (is_last-append home path ∙ ap (λ b. b && is_last path) (is_last-length home) ∙ ap (λ b. (length home == 0) && b) (is_last-length path))

-- ==== Walks, component by component.

-- ---- the place

-- what a walk with so many links left comes to behind a link
abbrev pub behind_link : Names → Bool → ℕ → Place → List ℕ → List Name → Result Place Cause
behind_link names follow zero at target rest = Err Loop
behind_link names follow (suc left) at target rest = walk names follow left (start_of at target) (components target ++ rest)

-- what a walk with so many links left comes to where it met something
abbrev pub walk_on : Names → Bool → ℕ → Place → List Name → Meeting → Result Place Cause
walk_on names follow left at rest m = going_on m (λ place. walk names follow left place rest) (λ target. behind_link names follow left at target rest) Ok Err

pub walk-nil : (names : Names) (follow : Bool) (left : ℕ) (at : Place) → walk names follow left at [] ≡ Ok at
unfolding walk walk_parts
walk-nil names follow zero at = refl
walk-nil names follow (suc left) at = refl

pub walk-cons : (names : Names) (follow : Bool) (left : ℕ) (at : Place) (component : Name) (rest : List Name) → walk names follow left at (component ∷ rest) ≡ walk_on names follow left at rest (meets names follow at component (is_last rest))
unfolding walk walk_parts
walk-cons names follow zero at component rest = refl
walk-cons names follow (suc left) at component rest = refl

-- ---- how many components it looks at

abbrev pub looked_behind : Names → Bool → ℕ → Place → List ℕ → List Name → ℕ
looked_behind names follow zero at target rest = 0
looked_behind names follow (suc left) at target rest = looked names follow left (start_of at target) (components target ++ rest)

abbrev pub looked_on : Names → Bool → ℕ → Place → List Name → Meeting → ℕ
looked_on names follow left at rest m = going_on m (λ place. looked names follow left place rest) (λ target. looked_behind names follow left at target rest) (λ place. 0) (λ cause. 0)

pub looked-nil : (names : Names) (follow : Bool) (left : ℕ) (at : Place) → looked names follow left at [] ≡ 0
unfolding looked looked_parts
looked-nil names follow zero at = refl
looked-nil names follow (suc left) at = refl

pub looked-cons : (names : Names) (follow : Bool) (left : ℕ) (at : Place) (component : Name) (rest : List Name) → looked names follow left at (component ∷ rest) ≡ suc (looked_on names follow left at rest (meets names follow at component (is_last rest)))
unfolding looked looked_parts
looked-cons names follow zero at component rest = refl
looked-cons names follow (suc left) at component rest = refl

-- ---- a turn of the code's loop

-- where the walk took a component and met something, the answer is what it comes to there
pub walk-turn : (names seen : Names) (follow : Bool) (left : ℕ) (at at' : Place) (before : List Name) (component : Name) (rest : List Name) (last : Bool) (met met' : Met) (whole : Result Place Cause) → seen ≡ names → whole ≡ walk names follow left at before → before ≡ component ∷ rest → last ≡ is_last rest → meets seen follow at component last ≡ meeting met at' → met ≡ met' → whole ≡ walk_on names follow left at rest (meeting met' at')
walk-turn names seen follow left at at' before component rest last met met' whole same so_far taken is meets_it met_is =
    so_far ∙ ap (walk names follow left at) taken ∙ walk-cons names follow left at component rest
    ∙ ap (walk_on names follow left at rest) (ap (meets names follow at component) (sym is) ∙ ap (λ n. meets n follow at component last) (sym same) ∙ meets_it ∙ ap (λ m. meeting m at') met_is)

pub looked-turn : (names seen : Names) (follow : Bool) (left : ℕ) (at at' : Place) (before : List Name) (component : Name) (rest : List Name) (last : Bool) (met met' : Met) → seen ≡ names → before ≡ component ∷ rest → last ≡ is_last rest → meets seen follow at component last ≡ meeting met at' → met ≡ met' → looked names follow left at before ≡ suc (looked_on names follow left at rest (meeting met' at'))
looked-turn names seen follow left at at' before component rest last met met' same taken is meets_it met_is =
    ap (looked names follow left at) taken ∙ looked-cons names follow left at component rest
    ∙ ap (λ v. suc (looked_on names follow left at rest v)) (ap (meets names follow at component) (sym is) ∙ ap (λ n. meets n follow at component last) (sym same) ∙ meets_it ∙ ap (λ m. meeting m at') met_is)

-- with no link left
pub behind_link-none : (names : Names) (follow : Bool) (left : ℕ) (at : Place) (target : List ℕ) (rest : List Name) → left ≡ 0 → behind_link names follow left at target rest ≡ Err Loop
behind_link-none names follow zero at target rest none = refl
behind_link-none names follow (suc left) at target rest none = cc

-- with a link left
pub behind_link-some : (names : Names) (follow : Bool) (left left' : ℕ) (at at' : Place) (target : List ℕ) (rest rest' : List Name) → left ≡ suc left' → at' ≡ start_of at target → rest' ≡ components target ++ rest → behind_link names follow left at target rest ≡ walk names follow left' at' rest'
behind_link-some names follow left left' at at' target rest rest' some starts goes = cc

pub looked_behind-some : (names : Names) (follow : Bool) (left left' : ℕ) (at at' : Place) (target : List ℕ) (rest rest' : List Name) → left ≡ suc left' → at' ≡ start_of at target → rest' ≡ components target ++ rest → looked_behind names follow left at target rest ≡ looked names follow left' at' rest'
looked_behind-some names follow left left' at at' target rest rest' some starts goes = cc

pub looked_behind-none : (names : Names) (follow : Bool) (left : ℕ) (at : Place) (target : List ℕ) (rest : List Name) → left ≡ 0 → looked_behind names follow left at target rest ≡ 0
looked_behind-none names follow zero at target rest none = refl
looked_behind-none names follow (suc left) at target rest none = cc

-- where the walk is at a link
pub stays : (met : Met) (target : Bor (List ℕ)) (before after : Place) → StaysAtLink met before after → met ≡ Through target → after ≡ before
stays met target before after at_link is = subst (λ m. StaysAtLink m before after) is at_link

-- what the walk lends where it ends
pub lends : (names : Names) (met : Met) (name : Name) (lent : Option Seen) (at : Place) → LendsEnd names met at
    → met ≡ Ends name lent → IsLentAt names (at ++ name ∷ []) lent
lends names met name lent at there is = subst (λ m. LendsEnd names m at) is there

pub below : (a b : ℕ) → b ≡ suc a → a < b
below a b e = omega arith

-- ---- what is counted

-- a component was counted, and the walk goes on
pub counted-on : (ticks more left after whole : ℕ) → ticks + left ≡ whole → more ≡ ticks + 1 → left ≡ suc after → more + after ≡ whole
counted-on ticks more left after whole so_far one is = omega (arith, so_far, one, is)

-- it was the last one
pub counted-last : (ticks more left whole : ℕ) → ticks + left ≡ whole → more ≡ ticks + 1 → left ≡ 1 → more ≡ whole
counted-last ticks more left whole so_far one is = omega (arith, so_far, one, is)

-- no component is left
pub counted-all : (ticks left whole : ℕ) → ticks + left ≡ whole → left ≡ 0 → ticks ≡ whole
counted-all ticks left whole so_far is = omega (arith, so_far, is)

-- it was counted, and the walk stops for want of memory
pub counted-some : (ticks more left after whole : ℕ) → ticks + left ≡ whole → more ≡ ticks + 1 → left ≡ suc after → more ≤ whole
counted-some ticks more left after whole so_far one is = omega (arith, so_far, one, is)

-- then the result is the error
pub counted-stopped : {A B : Type 0} (Q : B → Type 0) (result : Result A B) (ticks more left after whole : ℕ) → IsErrAnd result Q → ticks + left ≡ whole → more ≡ ticks + 1 → left ≡ suc after → MatchResult result (λ a. more ≡ whole) (λ e. more ≤ whole)
counted-stopped Q result ticks more left after whole stopped so_far one is =
    let p = err_from_is_err_and result stopped in
    subst (λ r. MatchResult r (λ a. more ≡ whole) (λ e. more ≤ whole)) (sym p.1) (counted-some ticks more left after whole so_far one is)

-- in any case no more than all was counted
pub counted-most : {A B : Type 0} (result : Result A B) (ticks whole limit : ℕ) → whole ≤ limit → MatchResult result (λ a. ticks ≡ whole) (λ e. ticks ≤ whole) → ticks ≤ limit
counted-most (Ok a) ticks whole limit few all = omega (arith, few, all)
counted-most (Err e) ticks whole limit few some = omega (arith, few, some)

-- ---- a whole path

pub looked_of-good : (t : Tree) (follow : Bool) (path : List ℕ) → is_good_path path ≡ true → looked_of t follow path ≡ looked t.names follow link_limit [] (steps_of t path)
unfolding looked_of
looked_of-good t follow path good = ap (λ b. if b then looked t.names follow link_limit [] (steps_of t path) else 0) good

pub looked_of-bad : (t : Tree) (follow : Bool) (path : List ℕ) → is_good_path path ≡ false → looked_of t follow path ≡ 0
unfolding looked_of
looked_of-bad t follow path bad = ap (λ b. if b then looked t.names follow link_limit [] (steps_of t path) else 0) bad

pub reached-good : (t : Tree) (follow : Bool) (path : List ℕ) → is_good_path path ≡ true → reached t follow path ≡ walk t.names follow link_limit [] (steps_of t path)
unfolding reached
reached-good t follow path good = ap (λ b. if b then walk t.names follow link_limit [] (steps_of t path) else Err BadPath) good

pub reached-bad : (t : Tree) (follow : Bool) (path : List ℕ) → is_good_path path ≡ false → reached t follow path ≡ Err BadPath
unfolding reached
reached-bad t follow path bad = ap (λ b. if b then walk t.names follow link_limit [] (steps_of t path) else Err BadPath) bad

-- ==== What a walk meets, by the node there.

-- ---- each meeting, with what it is by

pub data MetBy (names : Names) (follow : Bool) (at : Place) (name : Name) : List Name → Meeting → Type 0 where
  by_dot : (rest : List Name) → is_dot name ≡ true → MetBy names follow at name rest (enters at)
  by_dot_dot : (rest : List Name) → is_dot name ≡ false → is_dot_dot name ≡ true → MetBy names follow at name rest (enters (parent at))
  by_directory : (rest : List Name) (owner : Owner) → IsPlain name → node_at names (at ++ name ∷ []) ≡ Some (Dir owner) → MetBy names follow at name rest (enters (at ++ name ∷ []))
  by_last_file : (number : ℕ) → IsPlain name → node_at names (at ++ name ∷ []) ≡ Some (File number) → MetBy names follow at name [] (ends (at ++ name ∷ []))
  by_file : (next : Name) (rest : List Name) (number : ℕ) → IsPlain name → node_at names (at ++ name ∷ []) ≡ Some (File number) → MetBy names follow at name (next ∷ rest) (fails NotDir)
  by_link : (rest : List Name) (target : List ℕ) → IsPlain name → GoesThrough follow rest → node_at names (at ++ name ∷ []) ≡ Some (Link target) → MetBy names follow at name rest (through target)
  by_last_link : (target : List ℕ) → IsPlain name → follow ≡ false → node_at names (at ++ name ∷ []) ≡ Some (Link target) → MetBy names follow at name [] (ends (at ++ name ∷ []))
  by_last_absent : IsPlain name → node_at names (at ++ name ∷ []) ≡ None → MetBy names follow at name [] (ends (at ++ name ∷ []))
  by_absent : (next : Name) (rest : List Name) → IsPlain name → node_at names (at ++ name ∷ []) ≡ None → MetBy names follow at name (next ∷ rest) (fails NoEntry)

met_by_follow : (names : Names) (follow : Bool) (at : Place) (name : Name) (target : List ℕ) (f : Bool) → follow ≡ f → IsPlain name → node_at names (at ++ name ∷ []) ≡ Some (Link target) → MetBy names follow at name [] (met_link target (at ++ name ∷ []) true f)
met_by_follow names follow at name target true is plain there = by_link [] target plain (followed is) there
met_by_follow names follow at name target false is plain there = by_last_link target plain is there

met_by_node : (names : Names) (follow : Bool) (at : Place) (name : Name) (rest : List Name) (node : Option Node) → IsPlain name → node_at names (at ++ name ∷ []) ≡ node → MetBy names follow at name rest (met node (at ++ name ∷ []) (is_last rest) follow)
met_by_node names follow at name rest (Some (Dir owner)) plain there = by_directory rest owner plain there
met_by_node names follow at name [] (Some (File number)) plain there = by_last_file number plain there
met_by_node names follow at name (next ∷ rest) (Some (File number)) plain there = by_file next rest number plain there
met_by_node names follow at name [] (Some (Link target)) plain there = met_by_follow names follow at name target follow refl plain there
met_by_node names follow at name (next ∷ rest) (Some (Link target)) plain there = by_link (next ∷ rest) target plain (not_last next rest) there
met_by_node names follow at name [] None plain there = by_last_absent plain there
met_by_node names follow at name (next ∷ rest) None plain there = by_absent next rest plain there

met_by_dots : (names : Names) (follow : Bool) (at : Place) (name : Name) (rest : List Name) (dot dots : Bool) → is_dot name ≡ dot → is_dot_dot name ≡ dots → MetBy names follow at name rest (if dot then enters at else if dots then enters (parent at) else met (node_at names (at ++ name ∷ [])) (at ++ name ∷ []) (is_last rest) follow)
met_by_dots names follow at name rest true dots d dd = by_dot rest d
met_by_dots names follow at name rest false true d dd = by_dot_dot rest d dd
met_by_dots names follow at name rest false false d dd = met_by_node names follow at name rest (node_at names (at ++ name ∷ [])) (d, dd) refl

pub met_by : (names : Names) (follow : Bool) (at : Place) (name : Name) (rest : List Name) → MetBy names follow at name rest (meets names follow at name (is_last rest))
unfolding meets
met_by names follow at name rest = met_by_dots names follow at name rest (is_dot name) (is_dot_dot name) refl refl

-- ---- each meeting again, from what it is by

-- `..` is not `.`
pub dot_dot-not_dot : (name : Name) → is_dot_dot name ≡ true → is_dot name ≡ false
dot_dot-not_dot [] e = refl
dot_dot-not_dot (b ∷ []) e = absurd (false≢true (and_parts (nat_eq b 46) false e).1)
dot_dot-not_dot (b ∷ c ∷ name) e = and_right (nat_eq b 46) false refl

meets-if : (names : Names) (follow : Bool) (at : Place) (name : Name) (last : Bool) (dot dots : Bool) → is_dot name ≡ dot → is_dot_dot name ≡ dots → meets names follow at name last ≡ (if dot then enters at else if dots then enters (parent at) else met (node_at names (at ++ name ∷ [])) (at ++ name ∷ []) last follow)
unfolding meets
meets-if names follow at name last dot dots d dd = cc

pub meets-dot : (names : Names) (follow : Bool) (at : Place) (name : Name) (last : Bool) → is_dot name ≡ true → meets names follow at name last ≡ enters at
meets-dot names follow at name last d = meets-if names follow at name last true (is_dot_dot name) d refl

pub meets-dot_dot : (names : Names) (follow : Bool) (at : Place) (name : Name) (last : Bool) → is_dot_dot name ≡ true → meets names follow at name last ≡ enters (parent at)
meets-dot_dot names follow at name last dd = meets-if names follow at name last false true (dot_dot-not_dot name dd) dd

pub meets-plain : (names : Names) (follow : Bool) (at : Place) (name : Name) (last : Bool) (there_is : Option Node) → IsPlain name → node_at names (at ++ name ∷ []) ≡ there_is → meets names follow at name last ≡ met there_is (at ++ name ∷ []) last follow
meets-plain names follow at name last there_is plain there =
    meets-if names follow at name last false false plain.0 plain.1 ∙ ap (λ n. met n (at ++ name ∷ []) last follow) there

pub met-through : (target : List ℕ) (place : Place) (follow : Bool) (rest : List Name) → GoesThrough follow rest → met (Some (Link target)) place (is_last rest) follow ≡ through target
met-through target place follow [] (followed is) = ap (met_link target place true) is
met-through target place follow (next ∷ rest) (not_last n r) = refl

-- ---- the nodes of a tree

pub home-fits : (t : Tree) → IsKept t → home_fits t ≡ true
home-fits t kept = (fits-parts t kept.within_limits).home

-- a target in a tree is a good path of bytes
pub target-good : (t : Tree) → IsKept t → (place : Place) (target : List ℕ) → node_at t.names place ≡ Some (Link target) → is_good_path target ≡ true
unfolding get
target-good t kept place target there =
    let fit = lookup_holds (λ node. IsTrue (link_fits node)) (is_at (place_cmp place)) t.names (Link target) (each-all (λ e. link_fits e.1) t.names (fits-parts t kept.within_limits).links) there in
    (and_parts _ (is_good_path target) fit).1

target-bytes : (t : Tree) → IsKept t → (place : Place) (target : List ℕ) → node_at t.names place ≡ Some (Link target) → are_bytes target ≡ true
unfolding get
target-bytes t kept place target there =
    lookup_holds (IsNode t.files) (is_at (place_cmp place)) t.names (Link target) kept.well_formed.nodes there

-- each component of a target is `.`, `..` or a name
pub target-steps : (t : Tree) → IsKept t → (place : Place) (target : List ℕ) → node_at t.names place ≡ Some (Link target) → list_all is_step (components target) ≡ true
target-steps t kept place target there = components-steps target (target-good t kept place target there) (target-bytes t kept place target there)

-- a step that is neither `.` nor `..` is a name
pub plain-is_name : (name : Name) → is_step name ≡ true → IsPlain name → is_name name ≡ true
plain-is_name name step plain = cc

-- what is left behind a link are steps
pub steps-behind : (t : Tree) → IsKept t → (place : Place) (target : List ℕ) (rest : List Name) → node_at t.names place ≡ Some (Link target) → list_all is_step rest ≡ true → list_all is_step (components target ++ rest) ≡ true
steps-behind t kept place target rest there steps = list_all-append is_step (components target) rest
    ∙ and_from (list_all is_step (components target)) (list_all is_step rest) (target-steps t kept place target there) steps

-- of a meeting with a link, the node there
linked : (names : Names) (follow : Bool) (at : Place) (name : Name) (rest : List Name) (m : Meeting) (target : List ℕ) → MetBy names follow at name rest m → m ≡ through target → node_at names (at ++ name ∷ []) ≡ Some (Link target)
linked names follow at name rest m target (by_link r other plain goes there) e =
    let same : other ≡ target = cc in
    there ∙ ap (λ v. Some (Link v)) same
linked names follow at name rest m target other e = cc

pub through-link : (names : Names) (follow : Bool) (at : Place) (name : Name) (rest : List Name) (target : List ℕ) → meets names follow at name (is_last rest) ≡ through target → node_at names (at ++ name ∷ []) ≡ Some (Link target)
through-link names follow at name rest target = linked names follow at name rest (meets names follow at name (is_last rest)) target (met_by names follow at name rest)

-- ==== Where walks lead: to lists of names whose parents are directories.

-- a walk is at a directory
pub record Stands (t : Tree) (at : Place) : Type 0 where
  pub names : are_names at ≡ true
  pub directory : IsTrue (is_directory (node_at t.names at))

-- and leads to a list of names, whose parent is a directory
pub record Found (t : Tree) (place : Place) : Type 0 where
  pub names : are_names place ≡ true
  pub parent_stands : IsTrue (is_directory (node_at t.names (parent place)))

abbrev pub FoundBy : Tree → Result Place Cause → Type 0
FoundBy t (Ok place) = Found t place
FoundBy t (Err cause) = Unit {0}

list_all-take : {X : Type 0} (p : X → Bool) (n : ℕ) (xs : List X) → list_all p xs ≡ true → list_all p (take n xs) ≡ true
list_all-take p (suc n) (x ∷ xs) h =
    let a = and_parts (p x) (list_all p xs) h in
    and_from (p x) (list_all p (take n xs)) a.0 (list_all-take p n xs a.1)
list_all-take p n xs h = refl

pub root-stands : (t : Tree) → IsKept t → Stands t []
root-stands t kept = record { names = refl; directory = kept.well_formed.root }

parent-stands : (t : Tree) → IsKept t → (at : Place) → Stands t at → Stands t (parent at)
parent-stands t kept at stands = record {
  names = list_all-take is_name (length at - 1) at stands.names;
  directory = kept.well_formed.parents at (directory-taken (node_at t.names at) stands.directory);
}

-- where a walk ends that goes on no further
stands-found : (t : Tree) → IsKept t → (at : Place) → Stands t at → Found t at
stands-found t kept at stands = record { names = stands.names; parent_stands = (parent-stands t kept at stands).directory }

entered-names : (at : Place) (name : Name) → are_names at ≡ true → is_name name ≡ true → are_names (at ++ name ∷ []) ≡ true
entered-names at name names is =
    list_all-append is_name at (name ∷ []) ∙ and_from (are_names at) (are_names (name ∷ [])) names (and_from (is_name name) true is refl)

-- where it ends at a name
entered-found : (t : Tree) (at : Place) (name : Name) → Stands t at → is_name name ≡ true → Found t (at ++ name ∷ [])
entered-found t at name stands is = record {
  names = entered-names at name stands.names is;
  parent_stands = ap (λ p. is_directory (node_at t.names p)) (parent-entered at name) ∙ stands.directory;
}

-- what it comes to, by what it met, where it leads as said from wherever it goes on
found-met : (t : Tree) (follow : Bool) (left : ℕ) (at : Place) (name : Name) (rest : List Name) (m : Meeting) → IsKept t → Stands t at → is_step name ≡ true → ((place : Place) → Stands t place → FoundBy t (walk t.names follow left place rest)) → ((target : List ℕ) → node_at t.names (at ++ name ∷ []) ≡ Some (Link target) → FoundBy t (behind_link t.names follow left at target rest)) → MetBy t.names follow at name rest m → FoundBy t (walk_on t.names follow left at rest m)
found-met t follow left at name rest m kept stands step further behind (by_dot r d) = further at stands
found-met t follow left at name rest m kept stands step further behind (by_dot_dot r d dd) = further (parent at) (parent-stands t kept at stands)
found-met t follow left at name rest m kept stands step further behind (by_directory r owner plain there) =
    further (at ++ name ∷ []) (record { names = entered-names at name stands.names (plain-is_name name step plain); directory = ap is_directory there })
found-met t follow left at name rest m kept stands step further behind (by_last_file number plain there) = entered-found t at name stands (plain-is_name name step plain)
found-met t follow left at name rest m kept stands step further behind (by_link r target plain goes there) = behind target there
found-met t follow left at name rest m kept stands step further behind (by_last_link target plain not_followed there) = entered-found t at name stands (plain-is_name name step plain)
found-met t follow left at name rest m kept stands step further behind (by_last_absent plain there) = entered-found t at name stands (plain-is_name name step plain)
found-met t follow left at name rest m kept stands step further behind other = tt

-- over components, where it leads as said from after each link
abbrev Behind : Tree → Bool → ℕ → Type 0
Behind t follow left = (at : Place) (name : Name) (target : List ℕ) (rest : List Name) → Stands t at → node_at t.names (at ++ name ∷ []) ≡ Some (Link target) → list_all is_step rest ≡ true → FoundBy t (behind_link t.names follow left at target rest)

found-parts : (t : Tree) (follow : Bool) (left : ℕ) → IsKept t → Behind t follow left → (at : Place) (path : List Name) → Stands t at → list_all is_step path ≡ true → FoundBy t (walk t.names follow left at path)
found-parts t follow left kept behind at [] stands steps = subst (FoundBy t) (sym (walk-nil t.names follow left at)) (stands-found t kept at stands)
found-parts t follow left kept behind at (name ∷ rest) stands steps =
    let a = and_parts (is_step name) (list_all is_step rest) steps in
    subst (FoundBy t) (sym (walk-cons t.names follow left at name rest))
    (found-met t follow left at name rest (meets t.names follow at name (is_last rest)) kept stands a.0
    (λ place s. found-parts t follow left kept behind place rest s a.1)
    (λ target there. behind at name target rest stands there a.1) (met_by t.names follow at name rest))

start-stands : (t : Tree) → IsKept t → (at : Place) (absolute : Bool) → Stands t at → Stands t (if absolute then [] else at)
start-stands t kept at true stands = root-stands t kept
start-stands t kept at false stands = stands

-- a walk at a directory, over steps
pub found : (t : Tree) (follow : Bool) (left : ℕ) → IsKept t → (at : Place) (path : List Name) → Stands t at → list_all is_step path ≡ true → FoundBy t (walk t.names follow left at path)
found t follow zero kept = found-parts t follow zero kept (λ at name target rest stands there steps. tt)
found t follow (suc left) kept = found-parts t follow (suc left) kept (λ at name target rest stands there steps.
    found t follow left kept (start_of at target) (components target ++ rest) (start-stands t kept at (is_absolute target) stands) (steps-behind t kept (at ++ name ∷ []) target rest there steps))

-- ---- a whole path

name-step : (name : Name) → is_name name ≡ true → is_step name ≡ true
name-step name is = or_right (is_dot name) (is_dot_dot name || is_name name) (or_right (is_dot_dot name) (is_name name) is)

-- a walk from a home goes over steps
pub steps-from : (home : List Name) (path : List ℕ) → are_names home ≡ true → is_good_path path ≡ true → are_bytes path ≡ true → list_all is_step (home ++ components path) ≡ true
steps-from home path names good bytes = list_all-append is_step home (components path)
    ∙ and_from (list_all is_step home) (list_all is_step (components path)) (list_all-weaker is_name is_step name-step home names) (components-steps path good bytes)

-- and the place that is its answer
pub found-at : (t : Tree) (follow : Bool) (left : ℕ) (at : Place) (path : List Name) (place : Place) → IsKept t → Stands t at → list_all is_step path ≡ true → Ok place ≡ walk t.names follow left at path → Found t place
found-at t follow left at path place kept stands steps is = subst (FoundBy t) (sym is) (found t follow left kept at path stands steps)

steps-of : (t : Tree) (path : List ℕ) (absolute : Bool) → IsKept t → is_good_path path ≡ true → are_bytes path ≡ true → list_all is_step (if absolute then components path else t.home ++ components path) ≡ true
steps-of t path true kept good bytes = components-steps path good bytes
steps-of t path false kept good bytes = steps-from t.home path kept.well_formed.home good bytes

reached-found : (t : Tree) (follow : Bool) (path : List ℕ) (place : Place) (good : Bool) → is_good_path path ≡ good → IsKept t → are_bytes path ≡ true → reached t follow path ≡ Ok place → Found t place
reached-found t follow path place true good kept bytes is =
    found-at t follow 40 [] (steps_of t path) place kept (root-stands t kept) (steps-of t path (is_absolute path) kept good bytes) (sym is ∙ reached-good t follow path good)
reached-found t follow path place false bad kept bytes is =
    let none : Ok place ≡ Err BadPath = sym is ∙ reached-bad t follow path bad in
    cc

-- where a path of bytes leads
pub path-found : (t : Tree) (follow : Bool) (path : List ℕ) (place : Place) → IsKept t → are_bytes path ≡ true → reached t follow path ≡ Ok place → Found t place
path-found t follow path place = reached-found t follow path place (is_good_path path) refl

-- where a walk from the root ends is a place of the tree
pub place-of : (t : Tree) (follow : Bool) (path : List Name) (place : Place) → IsKept t → list_all is_step path ≡ true → Ok place ≡ walk t.names follow link_limit [] path → IsPlaceOf t place
place-of t follow path place kept steps is =
    let found = found-at t follow link_limit [] path place kept (root-stands t kept) steps is in
    record { kept = kept; named = found.names; above = found.parent_stands }
