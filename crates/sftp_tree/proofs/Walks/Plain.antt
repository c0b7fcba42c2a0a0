-- Walks that go down over directories alone.
use Rattle.sftp_tree.proofs.Imports.{◌≡◌, ℕ, Bool, true, false, List, [], ◌∷◌, ◌++◌, refl, sym, ap, subst, ◌∙◌}
use Rattle.sftp_tree.proofs.Imports.{append-nil, ◌==◌, length, arith, ne_eqb, false≢true}
use Rattle.sftp_tree.proofs.Imports.{append_assoc, Option, Some, None, Ok, IsTrue, option_copied, Bor, Name, Place}
use Rattle.sftp_tree.proofs.Imports.{list_all, is_step, and_parts, Names, node_at, IsAt, branch_of, Child, Cause}
use Rattle.sftp_tree.proofs.Imports.{walk, Owner, Node, is_directory, option_map, node_seen, met, is_last, IsBranch}
use Rattle.sftp_tree.proofs.Imports.{Result, Err, IfOk, Tree, IsKept, is_good_path, is_absolute, components}
use Rattle.sftp_tree.proofs.Imports.{link_limit, if◌then◌else◌}
use Rattle.std.specs.Option.{IfSome}
use Rattle.sftp_tree.specs.declared.nodes.Node.TheVariants as nodes
use Rattle.sftp_tree.specs.declared.entries.directories.Child.TheVariants as children
use Rattle.sftp_tree.specs.declared.entries.seen.Seen.{Seen}
use Rattle.sftp_tree.specs.declared.entries.seen.Seen.TheVariants.{Dir, File, Link}
use Rattle.sftp_tree.specs.WalkRules.{IsPlain}
use Rattle.sftp_tree.specs.Plans.{Finds, GoesDown, LeadsDown}
use Rattle.sftp_tree.proofs.Walks.{walk_on, walk-nil, walk-cons, meets-plain, reached-good}
use Rattle.sftp_tree.proofs.Walks.Trails.{found-branch, lent-directory, lent-file, lent-link, lent-nothing}

-- where such a walk over these steps stands, and the steps that are left
pub record Descends (names : Names) (whole : List Name) (dir : Names) (left : List Name) : Type 0 where
  pub at : Place
  pub split : whole ≡ at ++ left
  pub steps : list_all is_step left ≡ true
  pub walked : (follow : Bool) (links : ℕ) → walk names follow links [] whole ≡ walk names follow links at left
  pub is : IsAt names at dir

-- at the top
pub at-start : (names : Names) (steps : List Name) → list_all is_step steps ≡ true → Descends names steps names steps
at-start names steps all = record {
  at = [];
  split = refl;
  steps = all;
  walked = λ follow links. refl;
  is = λ rest. refl;
}

-- what is at the next name
below-name : (names dir inner : Names) (at : Place) (name : Name) → IsAt names at dir
    → ((rest : Place) → node_at dir (name ∷ rest) ≡ node_at inner rest) → IsAt names (at ++ name ∷ []) inner
below-name names dir inner at name is below rest =
    sym (below rest) ∙ is (name ∷ rest) ∙ ap (node_at names) (sym (append_assoc at (name ∷ []) rest))

dir-there : (node : Option Node) → IsTrue (is_directory node) → (owner : Owner) × (node ≡ Some (nodes.Dir owner))
dir-there (Some (nodes.Dir owner)) is = (owner, refl)
dir-there (Some (nodes.File number)) is = absurd cc
dir-there (Some (nodes.Link target)) is = absurd cc
dir-there None is = absurd cc

-- a directory more
pub descend : (names : Names) (whole : List Name) (dir inner : Names) (left : List Name) (name : Name)
    (rest : List Name) (found : Option (Bor Child)) (child : Bor Child) → Descends names whole dir left
    → left ≡ name ∷ rest → IsPlain name
    → ((more : Place) → node_at dir (name ∷ more) ≡ node_at (branch_of (option_copied found)) more)
    → IfSome found (λ c. IsBranch c.now) → found ≡ Some child → child.now ≡ children.Dir inner
    → Descends names whole inner rest
descend names whole dir inner left name rest found child so_far first plain below branch some is =
    let at = so_far.at in
    let there = below-name names dir (branch_of (option_copied found)) at name so_far.is below in
    let inside : IsAt names (at ++ name ∷ []) inner =
    subst (IsAt names (at ++ name ∷ [])) (found-branch found child (children.Dir inner) some is) there in
    let of_child : IsBranch child.now = subst (λ f. IfSome f (λ c. IsBranch c.now)) some branch in
    let of_inner : IsBranch (children.Dir inner) = subst IsBranch is of_child in
    let owned = dir-there (node_at inner []) of_inner.1 in
    let node : node_at names (at ++ name ∷ []) ≡ Some (nodes.Dir owned.0) =
    ap (node_at names) (sym (append-nil (at ++ name ∷ []))) ∙ sym (inside []) ∙ owned.1 in
    record {
      at = at ++ name ∷ [];
      split = so_far.split ∙ ap (λ l. at ++ l) first ∙ sym (append_assoc at (name ∷ []) rest);
      steps = (and_parts (is_step name) (list_all is_step rest) (ap (list_all is_step) (sym first) ∙ so_far.steps)).1;
      walked = λ follow links. so_far.walked follow links ∙ ap (walk names follow links at) first
          ∙ walk-cons names follow links at name rest
          ∙ ap (walk_on names follow links at rest)
          (meets-plain names follow at name (is_last rest) (Some (nodes.Dir owned.0)) plain node);
      is = inside;
    }

-- no step is left
pub down-here : (names : Names) (follow : Bool) (whole left : List Name) (owner : Owner) (dir : Bor Names)
    → Descends names whole dir.now left → left ≡ [] → node_at dir.now [] ≡ Some (nodes.Dir owner)
    → GoesDown names follow whole (Some (Dir owner dir))
down-here names follow whole left owner dir so_far none owned links =
    let at = so_far.at in
    subst (Finds names (Some (nodes.Dir owner))) (sym (so_far.walked follow links
    ∙ ap (walk names follow links at) none ∙ walk-nil names follow links at))
    (sym (lent-directory names at owner dir so_far.is owned).node)

-- what a walk finds at a name where something else than a directory stands, or nothing
found-here : (names : Names) (follow : Bool) (whole : List Name) (dir : Names) (left : List Name) (name : Name)
    (rest : List Name) (node : Option Node) (links : ℕ) (so_far : Descends names whole dir left) → left ≡ name ∷ rest
    → IsPlain name → node_at names (so_far.at ++ name ∷ []) ≡ node
    → Finds names node
    (walk_on names follow links so_far.at rest (met node (so_far.at ++ name ∷ []) (is_last rest) follow))
    → Finds names node (walk names follow links [] whole)
found-here names follow whole dir left name rest node links so_far first plain there finds =
    let at = so_far.at in
    subst (Finds names node) (sym (so_far.walked follow links ∙ ap (walk names follow links at) first
    ∙ walk-cons names follow links at name rest ∙ ap (walk_on names follow links at rest)
    (meets-plain names follow at name (is_last rest) node plain there))) finds

-- a file
pub down-file : (names : Names) (follow : Bool) (whole : List Name) (dir : Names) (left : List Name) (name : Name)
    (rest : List Name) (found : Option (Bor Child)) (child : Bor Child) (number : ℕ) → Descends names whole dir left
    → left ≡ name ∷ rest → rest ≡ [] → IsPlain name
    → ((more : Place) → node_at dir (name ∷ more) ≡ node_at (branch_of (option_copied found)) more)
    → found ≡ Some child → child.now ≡ children.File number → GoesDown names follow whole (Some (File number))
down-file names follow whole dir left name rest found child number so_far first none plain below some is links =
    let there = below-name names dir (branch_of (option_copied found)) so_far.at name so_far.is below in
    let node = sym (lent-file names (so_far.at ++ name ∷ []) found child number there some is).node in
    found-here names follow whole dir left name [] (Some (nodes.File number)) links so_far
    (first ∙ ap (λ r. name ∷ r) none) plain node node

-- a link that is not followed
pub down-link : (names : Names) (follow : Bool) (whole : List Name) (dir : Names) (left : List Name) (name : Name)
    (rest : List Name) (found : Option (Bor Child)) (child : Bor Child) (target : Bor (List ℕ))
    → Descends names whole dir left → left ≡ name ∷ rest → rest ≡ [] → follow ≡ false → IsPlain name
    → ((more : Place) → node_at dir (name ∷ more) ≡ node_at (branch_of (option_copied found)) more)
    → found ≡ Some child → child.now ≡ children.Link target.now → GoesDown names follow whole (Some (Link target))
down-link names follow whole dir left name rest found child target so_far first none unfollowed plain below some is =
    let there = below-name names dir (branch_of (option_copied found)) so_far.at name so_far.is below in
    let node = sym (lent-link names (so_far.at ++ name ∷ []) found child target there some is).node in
    subst (λ f. GoesDown names f whole (Some (Link target))) (sym unfollowed) (λ links.
    found-here names false whole dir left name [] (Some (nodes.Link target.now)) links so_far
    (first ∙ ap (λ r. name ∷ r) none) plain node node)

-- nothing, with steps left or with none
finds-none : (names : Names) (follow : Bool) (links : ℕ) (at place : Place) (rest : List Name)
    → node_at names place ≡ None
    → Finds names None (walk_on names follow links at rest (met None place (is_last rest) follow))
finds-none names follow links at place [] free = free
finds-none names follow links at place (next ∷ rest) free = (refl, refl)

pub down-none : (names : Names) (follow : Bool) (whole : List Name) (dir : Names) (left : List Name) (name : Name)
    (rest : List Name) (found : Option (Bor Child)) → Descends names whole dir left → left ≡ name ∷ rest
    → IsPlain name → ((more : Place) → node_at dir (name ∷ more) ≡ node_at (branch_of (option_copied found)) more)
    → found ≡ None → GoesDown names follow whole None
down-none names follow whole dir left name rest found so_far first plain below free links =
    let at = so_far.at in
    let there = below-name names dir (branch_of (option_copied found)) at name so_far.is below in
    let node = sym (lent-nothing names (at ++ name ∷ []) found there free).node in
    found-here names follow whole dir left name rest None links so_far first plain node
    (finds-none names follow links at (at ++ name ∷ []) rest node)

pub none-left : (steps : List Name) → (length steps == 0) ≡ true → steps ≡ []
none-left [] is = refl
none-left (step ∷ steps) is = absurd (false≢true (sym (ne_eqb (length (step ∷ steps)) 0 (λ e. omega (arith, e))) ∙ is))

-- ---- a whole path

weaker : {A E : Type 0} (P Q : A → Type 0) → ((a : A) → P a → Q a) → (r : Result (Option A) E)
    → IfOk r (λ found. IfSome found P) → IfOk r (λ found. IfSome found Q)
weaker P Q holds (Ok (Some a)) p = holds a p
weaker P Q holds (Ok None) p = tt
weaker P Q holds (Err e) p = tt

pub path-down : {E : Type 0} (t : Tree) (follow : Bool) (path : List ℕ) (names : Names) (steps : List Name)
    (r : Result (Option (Option Seen)) E) → IsKept t → is_good_path path ≡ true → is_absolute path ≡ true
    → names ≡ t.names → steps ≡ components path → IfOk r (λ found. IfSome found (GoesDown names follow steps))
    → IfOk r (λ found. IfSome found (LeadsDown t follow path))
path-down t follow path names steps r kept good absolute top all down =
    weaker (GoesDown names follow steps) (LeadsDown t follow path) (λ end goes.
    let here : GoesDown t.names follow (components path) end =
    subst (λ n. GoesDown n follow (components path) end) top (subst (λ l. GoesDown names follow l end) all goes) in
    record {
      kept = kept;
      finds = subst (Finds t.names (option_map node_seen end)) (sym (reached-good t follow path good
          ∙ ap (λ b. walk t.names follow link_limit [] (if b then components path else t.home ++ components path))
          absolute)) (here link_limit);
    }) r down

-- where the node is that a walk finds
pub found-place : (names : Names) (node : Node) (end : Result Place Cause) → Finds names (Some node) end
    → (place : Place) × ((end ≡ Ok place) × (node_at names place ≡ Some node))
found-place names node (Ok place) there = (place, (refl, there))
found-place names node (Err cause) (some, is) = absurd cc
