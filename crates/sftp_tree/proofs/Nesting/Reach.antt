-- How many names the places of a directory have, from those of its children.
use Rattle.sftp_tree.proofs.Imports.{◌≡◌, ◌+◌, ◌&&◌, ℕ, suc, nat_le, ◌||◌, Bool, true, false, cond, not, [], ◌∷◌, ◌++◌}
use Rattle.sftp_tree.proofs.Imports.{length, drop, ◌-◌, Some, refl, sym, ap, ◌∙◌, arith, length-append, is_eq, list_all}
use Rattle.sftp_tree.proofs.Imports.{list_any, and_from, nat_tests, and_assoc, tied_itself, Name, Place, place_cmp}
use Rattle.sftp_tree.proofs.Imports.{is_below, begins, begins-front, begins-append, place_cmp-total, get-cons, Owner}
use Rattle.sftp_tree.proofs.Imports.{Node, Child, Names, node_at, is_taken, has_entries, reaches_at_most, IsAt}
use Rattle.sftp_tree.proofs.Imports.{Children, branch, placed, flat, flat_of, have_at_most}
use Rattle.sftp_tree.proofs.Limits.{both-ways}
use Rattle.sftp_tree.proofs.Limits.{place-passes}
use Rattle.sftp_tree.proofs.WellFormedTrees.{alone-there}

one-more : (a room : ℕ) → nat_le (suc a) (room + 1) ≡ nat_le a room
one-more a room = grind (arith, nat_tests)

none-yet : (room : ℕ) → nat_le 0 room ≡ true
none-yet room = grind (arith, nat_tests)

all-placed : (room : ℕ) (name : Name) (names rest : Names)
    → list_all (λ e. nat_le (length e.0) (room + 1)) (placed name names ++ rest)
    ≡ (list_all (λ e. nat_le (length e.0) room) names && list_all (λ e. nat_le (length e.0) (room + 1)) rest)
all-placed room name [] rest = refl
all-placed room name (e ∷ es) rest = (λ i. one-more (length e.0) room i && all-placed room name es rest i)
    ∙ sym (and_assoc (nat_le (length e.0) room) (list_all (λ e. nat_le (length e.0) room) es)
    (list_all (λ e. nat_le (length e.0) (room + 1)) rest))

-- a child's places decide, and those of the other children
pub reach-child : (room : ℕ) (name : Name) (child : Child) (cs : Children)
    → have_at_most (room + 1) (flat ((name, child) ∷ cs))
    ≡ (have_at_most room (branch child) && have_at_most (room + 1) (flat cs))
unfolding have_at_most
reach-child room name child cs = all-placed room name (branch child) (flat cs)

pub reach-alone : (room : ℕ) (node : Node) → have_at_most room (([], node) ∷ []) ≡ true
unfolding have_at_most
reach-alone room node = ap (λ b. b && true) (none-yet room)

pub reach-children : (room : ℕ) (owner : Owner) (cs : Children)
    → have_at_most room (flat_of owner cs) ≡ have_at_most room (flat cs)
unfolding have_at_most
reach-children room owner cs = ap (λ b. b && list_all (λ e. nat_le (length e.0) room) (flat cs)) (none-yet room)

not-or : (a b : Bool) → not (a || b) ≡ (not a && not b)
not-or true b = refl
not-or false b = refl

only-root : (place : Place) → not (is_below [] place) ≡ nat_le (length place) 0
only-root [] = refl
only-root (n ∷ ns) = grind (arith, nat_tests)

none-below : (names : Names) → not (list_any (λ e. is_below [] e.0) names) ≡ list_all (λ e. nat_le (length e.0) 0) names
none-below [] = refl
none-below (e ∷ es) =
    not-or (is_below [] e.0) (list_any (λ e. is_below [] e.0) es) ∙ (λ i. only-root e.0 i && none-below es i)

-- no names at all are left where nothing is below
pub reach-none : (names : Names) → not (has_entries names []) ≡ have_at_most 0 names
unfolding have_at_most has_entries
reach-none = none-below

-- ---- as the loop over the children sees it

pub reach-start : (self : Names) (owner : Owner) (cs left : Children) (rest room : ℕ) → flat_of owner cs ≡ self
    → left ≡ cs → room ≡ rest + 1 → have_at_most (rest + 1) (flat left) ≡ have_at_most room self
reach-start self owner cs left rest room view all is =
    ap (λ (x : Children). have_at_most (rest + 1) (flat x)) all ∙ ap (λ n. have_at_most n (flat cs)) (sym is)
    ∙ sym (reach-children room owner cs) ∙ ap (have_at_most room) view

-- a child whose places have at most so many names leaves it to the others
pub reach-on : (self : Names) (left more : Children) (c : Name × Child) (rest room : ℕ) → left ≡ c ∷ more
    → have_at_most rest (branch c.1) ≡ true → have_at_most (rest + 1) (flat left) ≡ have_at_most room self
    → have_at_most (rest + 1) (flat more) ≡ have_at_most room self
reach-on self left more c rest room split few before =
    sym (ap (λ (x : Children). have_at_most (rest + 1) (flat x)) split ∙ reach-child rest c.0 c.1 more
    ∙ ap (λ b. b && have_at_most (rest + 1) (flat more)) few) ∙ before

-- and one with more decides
pub reach-no : (self : Names) (left more : Children) (c : Name × Child) (rest room : ℕ) → left ≡ c ∷ more
    → have_at_most rest (branch c.1) ≡ false → have_at_most (rest + 1) (flat left) ≡ have_at_most room self
    → false ≡ have_at_most room self
reach-no self left more c rest room split many before =
    sym (ap (λ (x : Children). have_at_most (rest + 1) (flat x)) split ∙ reach-child rest c.0 c.1 more
    ∙ ap (λ b. b && have_at_most (rest + 1) (flat more)) many) ∙ before

pub reach-end : (self : Names) (left : Children) (rest room : ℕ) → left ≡ []
    → have_at_most (rest + 1) (flat left) ≡ have_at_most room self → true ≡ have_at_most room self
unfolding have_at_most
reach-end self left rest room none before = sym (ap (λ (x : Children). have_at_most (rest + 1) (flat x)) none) ∙ before

-- ---- below a place

-- a test of the places at or below another is a test of what is after it
behind : (top rest : Place) (room : ℕ)
    → (not (begins top (top ++ rest)) || nat_le (length (top ++ rest) - length top) room) ≡ nat_le (length rest) room
behind top rest room =
    let fewer : length (top ++ rest) - length top ≡ length rest = omega (arith, length-append top rest) in
    (λ i. not (begins-append top rest i) || nat_le (fewer i) room)

-- a test that each place passes which is taken, all keys pass
keys-pass : (test : Place → Bool) (es : Names) → ((q : Place) → is_taken (node_at es q) ≡ true → test q ≡ true)
    → list_all (λ e. test e.0) es ≡ true
keys-pass test [] passes = refl
keys-pass test (e ∷ es) passes = and_from (test e.0) (list_all (λ e. test e.0) es) (passes e.0 here)
    (keys-pass test es (λ q taken. passes q (behind q taken)))
  where
    here : is_taken (node_at (e ∷ es) e.0) ≡ true
    here = ap is_taken (get-cons place_cmp e es e.0
        ∙ ap (λ o. cond (is_eq o) (Some e.1) (node_at es e.0)) (tied_itself place_cmp-total e.0))

    by : (q : Place) (b : Bool) → is_taken (node_at es q) ≡ true → is_taken (cond b (Some e.1) (node_at es q)) ≡ true
    by q true taken = refl
    by q false taken = taken

    behind : (q : Place) → is_taken (node_at es q) ≡ true → is_taken (node_at (e ∷ es) q) ≡ true
    behind q taken = ap is_taken (get-cons place_cmp e es q) ∙ by q (is_eq (place_cmp q e.0)) taken

-- whether a place that begins with the top has at most so many names after it
few : Place → ℕ → Place → Bool
few top room q = not (begins top q) || nat_le (length q - length top) room

-- what a directory has below it is what is below its place
pub reach-alike : (names below : Names) (top : Place) (room : ℕ) → IsAt names top below
    → have_at_most room below ≡ reaches_at_most names top room
unfolding have_at_most few
reach-alike names below top room alike =
    both-ways (list_all (λ e. nat_le (length e.0) room) below) (reaches_at_most names top room) to from
  where
    inside : (q : Place) (b : Bool) → begins top q ≡ b → list_all (λ e. nat_le (length e.0) room) below ≡ true
        → is_taken (node_at names q) ≡ true → (not b || nat_le (length q - length top) room) ≡ true
    inside q true in_top all taken =
        let is : q ≡ top ++ drop (length top) q = begins-front top q in_top in
        let found : is_taken (node_at below (drop (length top) q)) ≡ true =
        ap is_taken (alike (drop (length top) q) ∙ ap (node_at names) (sym is)) ∙ taken in
        let fewer : length q - length top ≡ length (drop (length top) q) =
        omega (arith, length-append top (drop (length top) q), ap length is) in
        ap (λ n. nat_le n room) fewer
        ∙ place-passes (λ place. nat_le (length place) room) (drop (length top) q) below all found
    inside q false out all taken = refl

    to : list_all (λ e. nat_le (length e.0) room) below ≡ true → reaches_at_most names top room ≡ true
    to all = keys-pass (few top room) names (λ q taken. inside q (begins top q) refl all taken)

    from : reaches_at_most names top room ≡ true → list_all (λ e. nat_le (length e.0) room) below ≡ true
    from all = keys-pass (λ place. nat_le (length place) room) below (λ q taken. sym (behind top q room)
        ∙ place-passes (few top room) (top ++ q) names all (ap is_taken (sym (alike q)) ∙ taken))

-- where nothing is below a place, no names are after it
pub reach-leaf : (names : Names) (top : Place) (room : ℕ) → has_entries names top ≡ false
    → reaches_at_most names top room ≡ true
unfolding few
reach-leaf names top room empty = keys-pass (few top room) names (λ q taken. by q (begins top q) refl taken)
  where
    nothing : (rest : Place) → is_taken (node_at names (top ++ rest)) ≡ true → length rest ≡ 0
    nothing [] taken = refl
    nothing (n ∷ ns) taken =
        let none : is_taken (node_at names (top ++ n ∷ ns)) ≡ false = ap is_taken (alone-there names top empty n ns) in
        cc

    by : (q : Place) (b : Bool) → begins top q ≡ b → is_taken (node_at names q) ≡ true
        → (not b || nat_le (length q - length top) room) ≡ true
    by q true in_top taken =
        let is : q ≡ top ++ drop (length top) q = begins-front top q in_top in
        let none = nothing (drop (length top) q) (ap (λ place. is_taken (node_at names place)) (sym is) ∙ taken) in
        let zero : length q - length top ≡ 0 =
        omega (arith, length-append top (drop (length top) q), ap length is, none) in
        ap (λ n. nat_le n room) zero ∙ none-yet room
    by q false out taken = refl
