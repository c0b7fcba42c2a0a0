-- The plans of requests, as the code has them, and when each can be carried out.
use Rattle.std.specs.Prelude.{Option, Some, None, Result, Ok, Err, IfOk, IfSome, ◌≡◌, false, IsTrue, ℕ, Bool, List, []}
use Rattle.sftp_path.specs.Place.{Name, Place, parent, are_names}
use Rattle.sftp_tree.specs.Walk.{walk, reached}
use Rattle.sftp_tree.specs.declared.entries.seen.Seen.{Seen}
use Rattle.sftp_tree.specs.declared.nodes.Node.{Node}
use Rattle.sftp_tree.specs.Tree.{Tree, Names, IsKept, IsNode, IsContent, fits, node_at}
use Rattle.sftp_tree.specs.Tree.{is_taken, is_directory, has_entries, trim}
use Rattle.std.specs.Option.{option_map}
use Rattle.sftp_tree.specs.declared.causes.Cause.{Cause}
use Rattle.sftp_tree.specs.declared.causes.Cause.TheVariants.{NoEntry}
use Rattle.sftp_tree.specs.declared.found.Found.{Found}
use Rattle.sftp_tree.specs.Nesting.{node_seen}
use Rattle.sftp_tree.specs.Nesting.{IsLentAt}
use Rattle.sftp_tree.specs.Stepping.{IsPlaceOf}
use Rattle.sftp_packets.specs.declared.requests.Ask.{Ask}
use Rattle.sftp_tree.specs.declared.ends.Places.{Places}
use Rattle.sftp_tree.specs.Requests.{led, new_led, after}
use Rattle.sftp_treefile.specs.declared.files.Owner.{Owner}
use Rattle.sftp_treefile.specs.TreeFile.{IsOwner, is_root, same_place}
use Rattle.sftp_packets.specs.declared.attributes.Attrs.{Attrs}
use Rattle.sftp_tree.specs.declared.file_contents.Content.{Content}
use Rattle.sftp_tree.specs.declared.plans.Plan.{Plan}
use Rattle.sftp_tree.specs.declared.plans.Plan.TheVariants.{Nothing, Put, Remove, Move, SetOwner, SetFile, Make}
use Rattle.sftp_tree.specs.declared.plans.Plan.TheVariants.{Truncate}
use Rattle.sftp_tree.specs.PlaceCauses.{goes_inside}
use Rattle.sftp_tree.specs.Changes as plans
use Rattle.sftp_tree.specs.Changes.{carried, with_entry, put_in_its_stead, with_new_file}

-- ==== What paths lead to, as the code has it.

-- the node that was found
abbrev pub node_of : Found → Option Node
node_of found = option_map node_seen found.node

-- what was found is what stands at the place
abbrev pub IsThere : Names → Found → Type 0
IsThere names found = IsLentAt names found.place found.node

-- a place of the tree was found, and what stands there
pub record IsFoundIn (t : Tree) (found : Found) : Type 0 where
  pub place : IsPlaceOf t found.place
  pub lent : IsThere t.names found

-- the place that was found, or why there is none
abbrev pub placed : Result Found Cause → Result Place Cause
placed (Ok found) = Ok found.place
placed (Err cause) = Err cause

-- the same of a second path, if there is one
abbrev pub new_placed : Option (Result Found Cause) → Option (Result Place Cause)
new_placed None = None
new_placed (Some end) = Some (placed end)

-- what was found at the end of a path is there
abbrev pub EndIsThere : Names → Result Found Cause → Type 0
EndIsThere names end = IfOk end (IsThere names)

-- and at the end of a second one
abbrev pub NewEndIsThere : Names → Option (Result Found Cause) → Type 0
NewEndIsThere names new = IfSome new (EndIsThere names)

-- a walk finds this node, or that there is none: where it ends, or on the way
abbrev pub Finds : Names → Option Node → Result Place Cause → Type 0
Finds names node (Ok place) = node_at names place ≡ node
Finds names node (Err cause) = (node ≡ None) × (cause ≡ NoEntry)

-- components lead down from a directory, over directories alone, to what stands there, or to nothing
abbrev pub GoesDown : Names → Bool → List Name → Option Seen → Type 0
GoesDown names follow steps end = (left : ℕ) → Finds names (option_map node_seen end) (walk names follow left [] steps)

-- and so does an absolute path from the root
pub record LeadsDown (t : Tree) (follow : Bool) (path : List ℕ) (end : Option Seen) : Type 0 where
  pub kept : IsKept t
  pub finds : Finds t.names (option_map node_seen end) (reached t follow path)

-- ==== Where the paths of a request lead, as the code has it.

-- what a second path leads to, if there is one
abbrev pub ok_where : Option Found → Option (Result Found Cause)
ok_where None = None
ok_where (Some found) = Some (Ok found)

-- both ends are these places
pub record AreLed (old : Result Found Cause) (new : Option (Result Found Cause)) (places : Places) : Type 0 where
  pub first : old ≡ Ok places.old
  pub second : new ≡ ok_where places.new

-- the paths of a request lead to these places
pub record LeadTo (t : Tree) (ask : Ask) (places : Places) : Type 0 where
  pub first : led t ask ≡ Some (Ok places.old.place)
  pub second : new_led t ask ≡ new_placed (ok_where places.new)

-- what was found is in the tree
abbrev pub AreWell : Tree → Places → Type 0
AreWell t places = IsFoundIn t places.old × IfSome places.new (IsFoundIn t)

-- the same of the ends that are places
abbrev pub EndsAreWell : Tree → Result Found Cause → Option (Result Found Cause) → Type 0
EndsAreWell t old new = IfOk old (IsFoundIn t) × IfSome new (λ end. IfOk end (IsFoundIn t))

-- a plan of the code
abbrev pub planned : Plan → plans.Plan
planned Nothing = plans.no_change
planned (Put place node) = plans.put_node place node
planned (Remove place) = plans.remove_node place
planned (Move old new) = plans.move_node old new
planned (SetOwner place owner) = plans.own_directory place owner
planned (SetFile number attrs) = plans.set_file number attrs.now
planned (Make place content) = plans.make_file place content
planned (Truncate number) = plans.empty_file number

-- the tree with it carried out
abbrev pub changed : Tree → Plan → Tree
changed t plan = carried t (planned plan)

-- ---- what can be done

-- the node can be put at the place
pub record CanPut (t : Tree) (place : Place) (node : Node) : Type 0 where
  pub absent : node_at t.names place ≡ None
  pub named : IsTrue (are_names place)
  pub above : IsTrue (is_directory (node_at t.names (parent place)))
  pub is_node : IsNode t.files node
  pub room : IsTrue (fits (with_entry t place node))

-- the node at the place can be removed
pub record CanTake (t : Tree) (place : Place) : Type 0 where
  pub taken : IsTrue (is_taken (node_at t.names place))
  pub below_root : is_root place ≡ false
  pub empty : has_entries t.names place ≡ false

-- the node at the old place can move to the new one
pub record CanMove (t : Tree) (old new : Place) : Type 0 where
  pub taken : IsTrue (is_taken (node_at t.names old))
  pub old_below_root : is_root old ≡ false
  pub new_below_root : is_root new ≡ false
  pub outside : goes_inside t.names old new ≡ false
  pub elsewhere : same_place old new ≡ false
  pub named : IsTrue (are_names new)
  pub above : IsTrue (is_directory (node_at t.names (parent new)))
  pub alone : has_entries t.names new ≡ false
  pub room : IsTrue (fits (put_in_its_stead t old new))

-- the directory at the place can get the owner
pub record CanOwn (t : Tree) (place : Place) (owner : Owner) : Type 0 where
  pub directory : IsTrue (is_directory (node_at t.names place))
  pub is_owner : IsOwner owner

-- a file with this content, and a name of it, can be made at the place
pub record CanMake (t : Tree) (place : Place) (content : Content) : Type 0 where
  pub absent : node_at t.names place ≡ None
  pub named : IsTrue (are_names place)
  pub above : IsTrue (is_directory (node_at t.names (parent place)))
  pub is_content : IsContent content
  pub room : IsTrue (fits (with_new_file t place content))

-- a plan can be carried out; `P` holds of the attributes that a file gets
abbrev pub CanDo : (Attrs → Type 0) → Tree → plans.Plan → Type 0
CanDo P t plans.no_change = Unit {0}
CanDo P t (plans.put_node place it) = CanPut t place it
CanDo P t (plans.remove_node place) = CanTake t place
CanDo P t (plans.move_node old new) = CanMove t old new
CanDo P t (plans.own_directory place owner) = CanOwn t place owner
CanDo P t (plans.set_file number attrs) = P attrs × IsTrue (fits (carried t (plans.set_file number attrs)))
CanDo P t (plans.make_file place content) = CanMake t place content
CanDo P t (plans.empty_file number) = IsTrue (fits (carried t (plans.empty_file number)))

-- nothing need be known of attributes
abbrev pub AreAny : Attrs → Type 0
AreAny attrs = Unit {0}

-- a plan of the code can be carried out
abbrev pub IsReady : Tree → Plan → Type 0
IsReady t plan = IsKept t × CanDo AreAny t (planned plan)

-- the plan can be carried out, and leaves the tree after the request
pub record IsPlanned (t : Tree) (ask : Ask) (plan : Plan) : Type 0 where
  pub ready : IsReady t plan
  pub done : trim (changed t plan) ≡ after t ask
