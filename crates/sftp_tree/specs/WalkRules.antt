-- Where a path leads, as the rules of a walk, one by one (draft-ietf-secsh-filexfer-02, section 6.2). The function of
-- `Walk` leads where they lead.
use Rattle.std.specs.Prelude.{◌≡◌, ℕ, zero, suc, Bool, false, List, [], ◌∷◌, ◌++◌, Some, None, Result, Ok, Err}
use Rattle.std.specs.Prelude.{IsTrue, ◌≤◌, if◌then◌else◌}
use Rattle.sftp_treefile.specs.declared.files.Owner.{Owner}
use Rattle.sftp_path.specs.Place.{Name, Place, parent, is_dot, is_dot_dot, components, is_good_path}
use Rattle.sftp_tree.specs.declared.nodes.Node.TheVariants.{Dir, File, Link}
use Rattle.sftp_tree.specs.declared.causes.Cause.{Cause}
use Rattle.sftp_tree.specs.declared.causes.Cause.TheVariants.{NoEntry, NotDir, Loop}
use Rattle.sftp_tree.specs.Tree.{Names, node_at, Tree}
use Rattle.sftp_tree.specs.Walk.{start_of, looked, link_limit, steps_of}
use Rattle.sftp_tree.specs.declared.causes.Refused.{Refused}
use Rattle.sftp_tree.specs.declared.causes.Refused.TheVariants.{Cause as refused_by, NoMemory}

-- neither `.` nor `..`
abbrev pub IsPlain : Name → Type 0
IsPlain name = (is_dot name ≡ false) × (is_dot_dot name ≡ false)

-- a link is the answer only if it is last and not followed
pub data GoesThrough (follow : Bool) : List Name → Type 0 where
  not_last : (name : Name) (rest : List Name) → GoesThrough follow (name ∷ rest)
  followed : IsTrue follow → GoesThrough follow []

-- with the given number of links left, the components lead from a directory to an answer
pub data Leads (names : Names) (follow : Bool) : ℕ → Place → List Name → Result Place Cause → Type 0 where
  -- with no component left, the answer is the place of the walk
  done : (left : ℕ) (at : Place) → Leads names follow left at [] (Ok at)
  -- `.` stays
  stays : (left : ℕ) (at : Place) (name : Name) (rest : List Name) (answer : Result Place Cause) →
      IsTrue (is_dot name) → Leads names follow left at rest answer → Leads names follow left at (name ∷ rest) answer
  -- `..` goes to the parent
  goes_up : (left : ℕ) (at : Place) (name : Name) (rest : List Name) (answer : Result Place Cause) →
      IsTrue (is_dot_dot name) → Leads names follow left (parent at) rest answer →
      Leads names follow left at (name ∷ rest) answer
  -- a free place is the answer if its name is last
  is_absent : (left : ℕ) (at : Place) (name : Name) → IsPlain name →
      node_at names (at ++ name ∷ []) ≡ None → Leads names follow left at (name ∷ []) (Ok (at ++ name ∷ []))
  -- and leads nowhere if it is not
  is_lost : (left : ℕ) (at : Place) (name next : Name) (rest : List Name) → IsPlain name →
      node_at names (at ++ name ∷ []) ≡ None → Leads names follow left at (name ∷ next ∷ rest) (Err NoEntry)
  -- a directory is entered
  enters : (left : ℕ) (at : Place) (name : Name) (rest : List Name) (answer : Result Place Cause) (owner : Owner) →
      IsPlain name → node_at names (at ++ name ∷ []) ≡ Some (Dir owner) →
      Leads names follow left (at ++ name ∷ []) rest answer → Leads names follow left at (name ∷ rest) answer
  -- a file that is last is the answer
  finds_file : (left : ℕ) (at : Place) (name : Name) (number : ℕ) → IsPlain name →
      node_at names (at ++ name ∷ []) ≡ Some (File number) →
      Leads names follow left at (name ∷ []) (Ok (at ++ name ∷ []))
  -- and leads nowhere if it is not
  stops_at_file : (left : ℕ) (at : Place) (name next : Name) (rest : List Name) (number : ℕ) → IsPlain name →
      node_at names (at ++ name ∷ []) ≡ Some (File number) →
      Leads names follow left at (name ∷ next ∷ rest) (Err NotDir)
  -- a last link is the answer of a walk that does not follow it
  finds_link : (left : ℕ) (at : Place) (name : Name) (target : List ℕ) → IsPlain name →
      follow ≡ false → node_at names (at ++ name ∷ []) ≡ Some (Link target) →
      Leads names follow left at (name ∷ []) (Ok (at ++ name ∷ []))
  -- behind any other link, the target's components come first, and then the rest
  goes_through : (left : ℕ) (at : Place) (name : Name) (rest : List Name) (answer : Result Place Cause)
      (target : List ℕ) → IsPlain name → GoesThrough follow rest →
      node_at names (at ++ name ∷ []) ≡ Some (Link target) →
      Leads names follow left (start_of at target) (components target ++ rest) answer →
      Leads names follow (suc left) at (name ∷ rest) answer
  -- but for a link with none left, which is a loop
  loops : (at : Place) (name : Name) (rest : List Name) (target : List ℕ) → IsPlain name →
      GoesThrough follow rest → node_at names (at ++ name ∷ []) ≡ Some (Link target) →
      Leads names follow zero at (name ∷ rest) (Err Loop)

-- ==== How many components the walk of a path looks at, and what a walk has counted.

-- all that the walk of a path looks at: nothing if the path is bad
unfoldable pub looked_of : Tree → Bool → List ℕ → ℕ
looked_of t follow path = if is_good_path path then looked t.names follow link_limit [] (steps_of t path) else 0

-- a walk has counted all of these components, or some of them if memory ran out
abbrev pub HasCounted : {A : Type 0} → Result A Refused → ℕ → ℕ → Type 0
HasCounted (Ok end) count all = count ≡ all
HasCounted (Err (refused_by cause)) count all = count ≡ all
HasCounted (Err NoMemory) count all = count ≤ all

-- a walk that is refused for a cause leads nowhere, and that is why
abbrev pub IsLost : Result Place Cause → Refused → Type 0
IsLost reached (refused_by cause) = reached ≡ Err cause
IsLost reached NoMemory = Unit {0}
