-- How many components a walk looks at.
use Rattle.sftp_tree.proofs.Imports.{◌≡◌, ◌↔◌, ℕ, zero, suc, Bool, true, false, List, [], ◌∷◌, ◌++◌, sym, ◌∙◌, ap}
use Rattle.sftp_tree.proofs.Imports.{subst, Some, None, Result, Name, Place, parent, components, Dir, File, Link}
use Rattle.sftp_tree.proofs.Imports.{Cause, Names, node_at, Meeting, is_last, met_link, start_of, meets, walk, ◌+◌}
use Rattle.sftp_tree.proofs.Imports.{◌*◌, ◌≤◌, ◌==◌, ◌&&◌, not, nat_le, if◌then◌else◌, length, inl, inr, arith}
use Rattle.sftp_tree.proofs.Imports.{list_all, and_parts, leb-true, cases_Bool, length-append, parts, is_absolute}
use Rattle.sftp_tree.proofs.Imports.{is_good_path, Tree, IsKept, looked, steps_of, looked_limit, refl, Option, Ok}
use Rattle.sftp_tree.proofs.Imports.{Err, IsTrue, Node, BadPath, is_directory, is_link, reached, link_limit, ◌⊎◌}
use Rattle.sftp_tree.proofs.Imports.{IfOk, reaches_at_most}
use Rattle.sftp_tree.specs.WalkRules.{IsPlain, GoesThrough, Leads, done, stays, goes_up, is_absent, is_lost, enters}
use Rattle.sftp_tree.specs.WalkRules.{finds_file, stops_at_file, finds_link, goes_through, loops}
use Rattle.sftp_tree.proofs.Walks.{behind_link, walk_on, walk-nil, walk-cons, looked_behind, looked_on}
use Rattle.sftp_tree.proofs.Walks.{looked-nil, looked-cons, reached-good, reached-bad}
use Rattle.sftp_tree.proofs.Walks.{MetBy, by_dot, by_dot_dot, by_directory, by_last_file, by_file, by_link}
use Rattle.sftp_tree.proofs.Walks.{by_last_link, by_last_absent, by_absent, met_by, meets-dot, meets-dot_dot}
use Rattle.sftp_tree.proofs.Walks.{meets-plain, met-through, target-good, home-fits}
use Rattle.std.proofs.Common.{filter}
use Rattle.sftp_path.specs.Place.{path_limit, name_limit, with_first, is_nonempty}
use Rattle.sftp_path.proofs.PathTexts.{parts-nil, parts-slash, parts-inner, components-are, filter-nonempty}
use Rattle.sftp_tree.proofs.WellFormedTrees.{directory-taken, nothing-below}
use Rattle.sftp_tree.specs.declared.found.Found.{Found}
use Rattle.sftp_tree.specs.Plans.{IsFoundIn, node_of, placed, new_placed}
use Rattle.sftp_tree.proofs.Nesting.Reach.{reach-leaf}

-- ==== Walks are by the rules, and no rule leads elsewhere.

-- ---- a walk is by the rules

-- after each link
abbrev LeadsBehind : Names → Bool → ℕ → Type 0
LeadsBehind names follow left = (at : Place) (name : Name) (rest : List Name) (target : List ℕ) → IsPlain name → GoesThrough follow rest → node_at names (at ++ name ∷ []) ≡ Some (Link target) → Leads names follow left at (name ∷ rest) (behind_link names follow left at target rest)

leads-met : (names : Names) (follow : Bool) (left : ℕ) (at : Place) (name : Name) (rest : List Name) (m : Meeting) → LeadsBehind names follow left → ((place : Place) → Leads names follow left place rest (walk names follow left place rest)) → MetBy names follow at name rest m → Leads names follow left at (name ∷ rest) (walk_on names follow left at rest m)
leads-met names follow left at name rest m behind further (by_dot r d) = stays left at name r (walk names follow left at r) d (further at)
leads-met names follow left at name rest m behind further (by_dot_dot r d dd) = goes_up left at name r (walk names follow left (parent at) r) dd (further (parent at))
leads-met names follow left at name rest m behind further (by_directory r owner plain there) =
    enters left at name r (walk names follow left (at ++ name ∷ []) r) owner plain there (further (at ++ name ∷ []))
leads-met names follow left at name rest m behind further (by_last_file number plain there) = finds_file left at name number plain there
leads-met names follow left at name rest m behind further (by_file next r number plain there) = stops_at_file left at name next r number plain there
leads-met names follow left at name rest m behind further (by_link r target plain goes there) = behind at name r target plain goes there
leads-met names follow left at name rest m behind further (by_last_link target plain not_followed there) = finds_link left at name target plain not_followed there
leads-met names follow left at name rest m behind further (by_last_absent plain there) = is_absent left at name plain there
leads-met names follow left at name rest m behind further (by_absent next r plain there) = is_lost left at name next r plain there

leads-parts : (names : Names) (follow : Bool) (left : ℕ) → LeadsBehind names follow left → (at : Place) (path : List Name) → Leads names follow left at path (walk names follow left at path)
leads-parts names follow left behind at [] = subst (Leads names follow left at []) (sym (walk-nil names follow left at)) (done left at)
leads-parts names follow left behind at (name ∷ rest) =
    subst (Leads names follow left at (name ∷ rest)) (sym (walk-cons names follow left at name rest))
    (leads-met names follow left at name rest (meets names follow at name (is_last rest)) behind (λ place. leads-parts names follow left behind place rest) (met_by names follow at name rest))

pub walk-leads : (names : Names) (follow : Bool) (left : ℕ) (at : Place) (path : List Name) → Leads names follow left at path (walk names follow left at path)
walk-leads names follow zero = leads-parts names follow zero (λ at name rest target plain goes there. loops at name rest target plain goes there)
walk-leads names follow (suc left) = leads-parts names follow (suc left) (λ at name rest target plain goes there.
    goes_through left at name rest (walk names follow left (start_of at target) (components target ++ rest)) target plain goes there (walk-leads names follow left (start_of at target) (components target ++ rest)))

-- ---- no rule leads elsewhere

pub leads-walk : (names : Names) (follow : Bool) (left : ℕ) (at : Place) (path : List Name) (answer : Result Place Cause) → Leads names follow left at path answer → walk names follow left at path ≡ answer
leads-walk names follow left at path answer (done l a) = walk-nil names follow l a
leads-walk names follow left at path answer (stays l a name rest found d h) =
    walk-cons names follow l a name rest ∙ ap (walk_on names follow l a rest) (meets-dot names follow a name (is_last rest) d) ∙ leads-walk names follow l a rest found h
leads-walk names follow left at path answer (goes_up l a name rest found dd h) =
    walk-cons names follow l a name rest ∙ ap (walk_on names follow l a rest) (meets-dot_dot names follow a name (is_last rest) dd) ∙ leads-walk names follow l (parent a) rest found h
leads-walk names follow left at path answer (is_absent l a name plain there) =
    walk-cons names follow l a name [] ∙ ap (walk_on names follow l a []) (meets-plain names follow a name true None plain there)
leads-walk names follow left at path answer (is_lost l a name next rest plain there) =
    walk-cons names follow l a name (next ∷ rest) ∙ ap (walk_on names follow l a (next ∷ rest)) (meets-plain names follow a name false None plain there)
leads-walk names follow left at path answer (enters l a name rest found owner plain there h) =
    walk-cons names follow l a name rest ∙ ap (walk_on names follow l a rest) (meets-plain names follow a name (is_last rest) (Some (Dir owner)) plain there)
    ∙ leads-walk names follow l (a ++ name ∷ []) rest found h
leads-walk names follow left at path answer (finds_file l a name number plain there) =
    walk-cons names follow l a name [] ∙ ap (walk_on names follow l a []) (meets-plain names follow a name true (Some (File number)) plain there)
leads-walk names follow left at path answer (stops_at_file l a name next rest number plain there) =
    walk-cons names follow l a name (next ∷ rest) ∙ ap (walk_on names follow l a (next ∷ rest)) (meets-plain names follow a name false (Some (File number)) plain there)
leads-walk names follow left at path answer (finds_link l a name target plain not_followed there) =
    walk-cons names follow l a name []
    ∙ ap (walk_on names follow l a []) (meets-plain names follow a name true (Some (Link target)) plain there ∙ ap (met_link target (a ++ name ∷ []) true) not_followed)
leads-walk names follow left at path answer (goes_through l a name rest found target plain goes there h) =
    walk-cons names follow (suc l) a name rest
    ∙ ap (walk_on names follow (suc l) a rest) (meets-plain names follow a name (is_last rest) (Some (Link target)) plain there ∙ met-through target (a ++ name ∷ []) follow rest goes)
    ∙ leads-walk names follow l (start_of a target) (components target ++ rest) found h
leads-walk names follow left at path answer (loops a name rest target plain goes there) =
    walk-cons names follow zero a name rest
    ∙ ap (walk_on names follow zero a rest) (meets-plain names follow a name (is_last rest) (Some (Link target)) plain there ∙ met-through target (a ++ name ∷ []) follow rest goes)

pub by_the_rules : (names : Names) (follow : Bool) (left : ℕ) (at : Place) (path : List Name) (answer : Result Place Cause) → Leads names follow left at path answer ↔ (walk names follow left at path ≡ answer)
by_the_rules names follow left at path answer = (leads-walk names follow left at path answer, λ e. subst (Leads names follow left at path) e (walk-leads names follow left at path))

-- ---- components of a good path

-- one part more: if it is one of a path, it has a slash in front
count-first : (w : List ℕ) (ws : List (List ℕ)) → 2 * length (filter is_nonempty (w ∷ ws)) ≤ 2 * length (filter is_nonempty ws) + length w + 1
count-first [] ws = omega arith
count-first (b ∷ w) ws = omega (arith, ap length (filter-nonempty (b ∷ w) ws (omega arith)))

-- the parts of a path, the first apart: each other has a slash in front
record Parted (bytes : List ℕ) : Type 0 where
  first : List ℕ
  others : List (List ℕ)
  parts_are : parts bytes ≡ first ∷ others
  bound : 2 * length (filter is_nonempty others) + length first ≤ length bytes

parted : (bytes : List ℕ) → Parted bytes
parted [] = record { first = []; others = []; parts_are = parts-nil; bound = omega arith }
parted (b ∷ bytes) =
    let rest = parted bytes in
    let rest_bound : 2 * length (filter is_nonempty rest.others) + length rest.first ≤ length bytes = rest.bound in
    elim (cases_Bool (b == 47)) [
      | inl slash ↦ record {
        first = [];
        others = rest.first ∷ rest.others;
        parts_are = parts-slash b bytes slash ∙ ap (λ ps. [] ∷ ps) rest.parts_are;
        bound = omega (arith, count-first rest.first rest.others, rest_bound);
      }
      | inr inner ↦ record {
        first = b ∷ rest.first;
        others = rest.others;
        parts_are = parts-inner b bytes inner ∙ ap (with_first b) rest.parts_are;
        bound = omega (arith, rest_bound);
      }
    ]

components-count : (bytes : List ℕ) → 2 * length (components bytes) ≤ length bytes + 1
components-count bytes =
    let p = parted bytes in
    let p_bound : 2 * length (filter is_nonempty p.others) + length p.first ≤ length bytes = p.bound in
    let same : length (components bytes) ≡ length (filter is_nonempty (p.first ∷ p.others)) = ap length (components-are bytes ∙ ap (filter is_nonempty) p.parts_are) in
    omega (arith, count-first p.first p.others, p_bound, same)

-- a good path has 2,048 components at most
pub good_path-count : (path : List ℕ) → is_good_path path ≡ true → length (components path) ≤ 2048
unfolding is_good_path
good_path-count path good =
    let a = and_parts (nat_le (length path) path_limit) (list_all (λ b. not (b == 0)) path && list_all (λ part. nat_le (length part) name_limit) (components path)) good in
    omega (arith, components-count path, leb-true (length path) path_limit a.0)

-- ---- what a walk looks at

-- as many components as there are, and these many more after links
abbrev Within : Tree → Bool → ℕ → ℕ → Place → List Name → Type 0
Within t follow left more at path = looked t.names follow left at path ≤ length path + more

abbrev CountsBehind : Tree → Bool → ℕ → ℕ → Type 0
CountsBehind t follow left more = (at : Place) (name : Name) (rest : List Name) (target : List ℕ) → node_at t.names (at ++ name ∷ []) ≡ Some (Link target) → looked_behind t.names follow left at target rest ≤ length rest + more

within-met : (t : Tree) (follow : Bool) (left more : ℕ) (at : Place) (name : Name) (rest : List Name) (m : Meeting) → CountsBehind t follow left more → ((place : Place) → Within t follow left more place rest) → MetBy t.names follow at name rest m → looked_on t.names follow left at rest m ≤ length rest + more
within-met t follow left more at name rest m behind further (by_dot r d) = further at
within-met t follow left more at name rest m behind further (by_dot_dot r d dd) = further (parent at)
within-met t follow left more at name rest m behind further (by_directory r owner plain there) = further (at ++ name ∷ [])
within-met t follow left more at name rest m behind further (by_link r target plain goes there) = behind at name r target there
within-met t follow left more at name rest m behind further other = omega arith

within-parts : (t : Tree) (follow : Bool) (left more : ℕ) → CountsBehind t follow left more → (at : Place) (path : List Name) → Within t follow left more at path
within-parts t follow left more behind at [] = omega (arith, looked-nil t.names follow left at)
within-parts t follow left more behind at (name ∷ rest) =
    let here = within-met t follow left more at name rest (meets t.names follow at name (is_last rest)) behind (λ place. within-parts t follow left more behind place rest) (met_by t.names follow at name rest) in
    omega (arith, here, looked-cons t.names follow left at name rest)

within : (t : Tree) (follow : Bool) (left : ℕ) → IsKept t → (at : Place) (path : List Name) → Within t follow left (left * 2048) at path
within t follow zero kept = within-parts t follow zero (zero * 2048) (λ at name rest target there. omega arith)
within t follow (suc left) kept = within-parts t follow (suc left) (suc left * 2048) (λ at name rest target there.
    let further = within t follow left kept (start_of at target) (components target ++ rest) in
    let short = good_path-count target (target-good t kept (at ++ name ∷ []) target there) in
    omega (arith, further, short, length-append (components target) rest))

steps-count : (home parts : List Name) (absolute : Bool) → length home ≤ 64 → length parts ≤ 2048 → length (if absolute then parts else home ++ parts) ≤ 2112
steps-count home parts true h p = omega arith
steps-count home parts false h p = omega (arith, length-append home parts)

-- 64 components of the home, 2,048 of the path, and as many of each of 40 targets
pub walk-count : (t : Tree) (follow : Bool) (path : List ℕ) → IsKept t → is_good_path path ≡ true → looked t.names follow 40 [] (steps_of t path) ≤ looked_limit
walk-count t follow path kept good =
    let steps = steps-count t.home (components path) (is_absolute path) (leb-true (length t.home) 64 (home-fits t kept)) (good_path-count path good) in
    omega (arith, within t follow 40 kept [] (steps_of t path), steps)

-- ==== A walk that follows a last link does not end at a link.

abbrev IsAt : Tree → Place → Type 0
IsAt t at = IsTrue (is_directory (node_at t.names at))

-- no link is where it leads
abbrev IsUnlinked : Tree → Result Place Cause → Type 0
IsUnlinked t (Ok place) = is_link (node_at t.names place) ≡ false
IsUnlinked t (Err cause) = Unit {0}

directory-unlinked : (found : Option Node) → is_directory found ≡ true → is_link found ≡ false
directory-unlinked None directory = refl
directory-unlinked (Some (Dir owner)) directory = refl
directory-unlinked (Some (File number)) directory = refl
directory-unlinked (Some (Link target)) directory = absurd cc

unlinked-met : (t : Tree) (left : ℕ) (at : Place) (name : Name) (rest : List Name) (m : Meeting) → IsKept t → IsAt t at
    → ((place : Place) → IsAt t place → IsUnlinked t (walk t.names true left place rest))
    → ((target : List ℕ) → IsUnlinked t (behind_link t.names true left at target rest))
    → MetBy t.names true at name rest m → IsUnlinked t (walk_on t.names true left at rest m)
unlinked-met t left at name rest m kept stands further behind (by_dot r d) = further at stands
unlinked-met t left at name rest m kept stands further behind (by_dot_dot r d dd) =
    further (parent at) (kept.well_formed.parents at (directory-taken (node_at t.names at) stands))
unlinked-met t left at name rest m kept stands further behind (by_directory r owner plain there) =
    further (at ++ name ∷ []) (ap is_directory there)
unlinked-met t left at name rest m kept stands further behind (by_last_file number plain there) = ap is_link there
unlinked-met t left at name rest m kept stands further behind (by_file next r number plain there) = tt
unlinked-met t left at name rest m kept stands further behind (by_link r target plain goes there) = behind target
unlinked-met t left at name rest m kept stands further behind (by_last_link target plain not_followed there) = absurd cc
unlinked-met t left at name rest m kept stands further behind (by_last_absent plain there) = ap is_link there
unlinked-met t left at name rest m kept stands further behind (by_absent next r plain there) = tt

-- from what each link leads to
abbrev UnlinkedBehind : Tree → ℕ → Type 0
UnlinkedBehind t left = (at : Place) (target : List ℕ) (rest : List Name) → IsAt t at
    → IsUnlinked t (behind_link t.names true left at target rest)

unlinked-parts : (t : Tree) (left : ℕ) → IsKept t → UnlinkedBehind t left → (at : Place) (path : List Name) → IsAt t at
    → IsUnlinked t (walk t.names true left at path)
unlinked-parts t left kept behind at [] stands =
    subst (IsUnlinked t) (sym (walk-nil t.names true left at)) (directory-unlinked (node_at t.names at) stands)
unlinked-parts t left kept behind at (name ∷ rest) stands =
    subst (IsUnlinked t) (sym (walk-cons t.names true left at name rest))
    (unlinked-met t left at name rest (meets t.names true at name (is_last rest)) kept stands
    (λ place s. unlinked-parts t left kept behind place rest s)
    (λ target. behind at target rest stands) (met_by t.names true at name rest))

start-at : (t : Tree) → IsKept t → (at : Place) (absolute : Bool) → IsAt t at → IsAt t (if absolute then [] else at)
start-at t kept at true stands = kept.well_formed.root
start-at t kept at false stands = stands

unlinked : (t : Tree) (left : ℕ) → IsKept t → (at : Place) (path : List Name) → IsAt t at
    → IsUnlinked t (walk t.names true left at path)
unlinked t zero kept = unlinked-parts t zero kept (λ at target rest stands. tt)
unlinked t (suc left) kept = unlinked-parts t (suc left) kept (λ at target rest stands.
    unlinked t left kept (start_of at target) (components target ++ rest)
    (start-at t kept at (is_absolute target) stands))

-- ---- a whole path

reached-by : (t : Tree) (path : List ℕ) (place : Place) (good : Bool) → is_good_path path ≡ good → IsKept t
    → reached t true path ≡ Ok place → is_link (node_at t.names place) ≡ false
reached-by t path place true good kept is = subst (IsUnlinked t) (sym (reached-good t true path good) ∙ is)
    (unlinked t link_limit kept [] (steps_of t path) kept.well_formed.root)
reached-by t path place false bad kept is =
    let none : Ok place ≡ Err BadPath = sym is ∙ reached-bad t true path bad in
    absurd cc

pub reached-unlinked : (t : Tree) (path : List ℕ) (place : Place) → IsKept t → reached t true path ≡ Ok place
    → is_link (node_at t.names place) ≡ false
reached-unlinked t path place = reached-by t path place (is_good_path path) refl

-- ==== What is known of the ends of a request's paths.

-- a tree in which something was found is kept
pub end-kept : (t : Tree) (end : Result Found Cause) (place : Place) → IfOk end (IsFoundIn t) → placed end ≡ Ok place
    → IsKept t
end-kept t (Ok found) place is_in led = is_in.place.kept
end-kept t (Err cause) place is_in led = cc

-- one of the paths leads nowhere
pub lost-placed : (end : Result Found Cause) (new : Option (Result Found Cause)) (cause : Cause)
    → (end ≡ Err cause) ⊎ (new ≡ Some (Err cause)) → (placed end ≡ Err cause) ⊎ (new_placed new ≡ Some (Err cause))
lost-placed end new cause lost = elim lost [
  | inl first ↦ inl (ap placed first)
  | inr second ↦ inr (ap new_placed second)
]

-- what was found and is no directory has nothing below it
pub reach-no-directory : (t : Tree) (found : Found) (room : ℕ) → IsFoundIn t found
    → is_directory (node_of found) ≡ false → reaches_at_most t.names found.place room ≡ true
reach-no-directory t found room is_in none =
    let whole = is_in.place.kept.well_formed in
    reach-leaf t.names found.place room
    (nothing-below t.names found.place whole.ordered whole.parents (ap is_directory (sym is_in.lent.node) ∙ none))
