-- Where a path leads (draft-ietf-secsh-filexfer-02, section 6.2). How links are followed, and how many of them, is
-- this profile's own.
use Rattle.std.specs.Prelude.{ℕ, zero, suc, ◌+◌, ◌*◌, Bool, true, false, if◌then◌else◌, List, [], ◌∷◌, ◌++◌}
use Rattle.std.specs.Prelude.{Option, Some, None, Result, Ok, Err}
use Rattle.sftp_path.specs.Place.{Name, Place, parent, is_dot, is_dot_dot}
use Rattle.sftp_path.specs.Place.{components, is_absolute, is_good_path, depth_limit}
use Rattle.sftp_tree.specs.declared.nodes.Node.{Node}
use Rattle.sftp_tree.specs.declared.nodes.Node.TheVariants.{Dir, File, Link}
use Rattle.sftp_tree.specs.declared.causes.Cause.{Cause}
use Rattle.sftp_tree.specs.declared.causes.Cause.TheVariants.{BadPath, NoEntry, NotDir, Loop}
use Rattle.sftp_tree.specs.Tree.{Names, node_at, Tree}

-- what a walk meets at a component
pub data Meeting : Type 0 where
  -- it goes on from this directory
  enters : Place → Meeting
  -- it ends here
  ends : Place → Meeting
  -- it leads nowhere
  fails : Cause → Meeting
  -- it goes on by the target of a link
  through : List ℕ → Meeting

abbrev pub is_last : List Name → Bool
is_last [] = true
is_last (c ∷ cs) = false

-- a last link is the answer of a walk that does not follow it
abbrev pub met_link : List ℕ → Place → Bool → Bool → Meeting
met_link target place true false = ends place
met_link target place true true = through target
met_link target place false follow = through target

-- a walk can end at a file, and cannot go on from one
abbrev pub met_file : Place → Bool → Meeting
met_file place true = ends place
met_file place false = fails NotDir

-- it can also end where nothing exists, since a request may make something there
abbrev pub met_nothing : Place → Bool → Meeting
met_nothing place true = ends place
met_nothing place false = fails NoEntry

-- what the node at a name makes of the walk
abbrev pub met : Option Node → Place → Bool → Bool → Meeting
met (Some (Dir owner)) place last follow = enters place
met (Some (File number)) place last follow = met_file place last
met (Some (Link target)) place last follow = met_link target place last follow
met None place last follow = met_nothing place last

-- `.` names the directory itself, and `..` the one above it; nothing is above the root, where `..` is the root
unfoldable pub meets : Names → Bool → Place → Name → Bool → Meeting
meets names follow at component last =
    if is_dot component then enters at else
    if is_dot_dot component then enters (parent at) else
    met (node_at names (at ++ component ∷ [])) (at ++ component ∷ []) last follow

-- ---- the walk

-- an absolute target starts at the root, and a relative one in the directory that has the link
abbrev pub start_of : Place → List ℕ → Place
start_of at target = if is_absolute target then [] else at

-- what a walk that met something comes to: it goes on, or goes on behind a link, or ends
abbrev pub going_on : {A : Type 0} → Meeting → (Place → A) → (List ℕ → A) → (Place → A) → (Cause → A) → A
going_on (enters place) rest behind ended failed = rest place
going_on (ends place) rest behind ended failed = ended place
going_on (fails cause) rest behind ended failed = failed cause
going_on (through target) rest behind ended failed = behind target

-- the walk over components, with what it comes to behind a link at a place with a target and a rest
unfoldable pub walk_parts : (Place → List ℕ → List Name → Result Place Cause) → Names → Bool → Place → List Name
    → Result Place Cause
walk_parts behind names follow at [] = Ok at
walk_parts behind names follow at (component ∷ rest) =
    going_on (meets names follow at component (is_last rest))
    (λ place. walk_parts behind names follow place rest) (λ target. behind at target rest) Ok Err

-- The place to which the components lead from a directory, or why they lead nowhere. The number is that of the links
-- that are followed; one more is a loop. Behind a link, the target's components come first, and then the rest.
unfoldable pub walk : Names → Bool → ℕ → Place → List Name → Result Place Cause
walk names follow zero at path = walk_parts (λ at target rest. Err Loop) names follow at path
walk names follow (suc left) at path =
    walk_parts (λ at target rest. walk names follow left (start_of at target) (components target ++ rest))
    names follow at path

-- the most links of one walk
abbrev pub link_limit : ℕ
link_limit = 40

-- the components that a walk goes over, from the root: a path that is not absolute follows the home's
abbrev pub steps_of : Tree → List ℕ → List Name
steps_of t path = if is_absolute path then components path else t.home ++ components path

-- where a path leads: a bad one leads nowhere
unfoldable pub reached : Tree → Bool → List ℕ → Result Place Cause
reached t follow path = if is_good_path path then walk t.names follow link_limit [] (steps_of t path) else Err BadPath

-- ---- how many components it looks at

-- one for each that it meets, and those behind a link
unfoldable pub looked_parts : (Place → List ℕ → List Name → ℕ) → Names → Bool → Place → List Name → ℕ
looked_parts behind names follow at [] = 0
looked_parts behind names follow at (component ∷ rest) =
    suc (going_on (meets names follow at component (is_last rest))
    (λ place. looked_parts behind names follow place rest) (λ target. behind at target rest) (λ place. 0) (λ cause. 0))

unfoldable pub looked : Names → Bool → ℕ → Place → List Name → ℕ
looked names follow zero at path = looked_parts (λ at target rest. 0) names follow at path
looked names follow (suc left) at path =
    looked_parts (λ at target rest. looked names follow left (start_of at target) (components target ++ rest))
    names follow at path

-- the most components of a good path: each but the last takes two bytes at least
abbrev pub component_limit : ℕ
component_limit = 2048

-- the most components that one walk looks at: the home's, the path's, and those of each target
abbrev pub looked_limit : ℕ
looked_limit = depth_limit + (component_limit + link_limit * component_limit)
