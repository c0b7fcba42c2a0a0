-- What a step of the code's walk answers, as the definition of walks has it.
use Rattle.std.specs.Prelude.{◌==◌, Bool, List, [], ◌∷◌, ◌++◌, length, IsTrue, ◌≡◌, ⊤}
use Rattle.sftp_path.specs.Place.{Name, Split, Place, parent, are_names}
use Rattle.sftp_tree.specs.Tree.{Tree, IsKept, node_at, is_directory, Names}
use Rattle.sftp_tree.specs.declared.stepping.Met.{Met}
use Rattle.sftp_tree.specs.declared.stepping.Met.TheVariants.{Enters, Ends, Fails, Through}
use Rattle.sftp_tree.specs.Nesting.{IsLentAt}
use Rattle.sftp_tree.specs.Walk.{Meeting, enters, ends, fails, through}

-- ==== What is left of the targets that a walk goes over.

-- the components of all targets, the last one's in front
abbrev pub left_of : List Split → List Name
left_of [] = []
left_of (target ∷ targets) = left_of targets ++ target.left

-- nothing of it is left
abbrev pub is_done : Split → Bool
is_done target = length target.left == 0

-- ==== What is known of the places to which paths lead.

-- a place that a path of a tree leads to: a list of names, whose parent is a directory
pub record IsPlaceOf (t : Tree) (place : Place) : Type 0 where
  pub kept : IsKept t
  pub named : IsTrue (are_names place)
  pub above : IsTrue (is_directory (node_at t.names (parent place)))

-- the meeting, where the walk then stands at the place
abbrev pub meeting : Met → Place → Meeting
meeting Enters at = enters at
meeting (Ends name lent) at = ends (at ++ name ∷ [])
meeting (Fails cause) at = fails cause
meeting (Through target) at = through target.now

-- at a link the walk stands where it did
abbrev pub StaysAtLink : Met → Place → Place → Type 0
StaysAtLink Enters before after = ⊤
StaysAtLink (Ends name lent) before after = ⊤
StaysAtLink (Fails cause) before after = ⊤
StaysAtLink (Through target) before after = after ≡ before

-- where the walk ends, it lends what stands there
abbrev pub LendsEnd : Names → Met → Place → Type 0
LendsEnd names Enters at = ⊤
LendsEnd names (Ends name lent) at = IsLentAt names (at ++ name ∷ []) lent
LendsEnd names (Fails cause) at = ⊤
LendsEnd names (Through target) at = ⊤
