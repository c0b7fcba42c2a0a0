-- The state that several clients share: one tree, and what is open under the joint names of their handles. This
-- profile's own.
use Rattle.std.specs.Prelude.{◌≡◌, not, ℕ, Bool, List, take}
use Rattle.sftp_strings.specs.Strings.{uint32}
use Rattle.sftp_path.specs.Place.{same_bytes}
use Rattle.sftp_path.specs.Table.{retain}
use Rattle.sftp_tree.specs.Tree.{Tree}
use Rattle.sftp_handles.specs.State.{Handles, State, settled, started, closed_tree}
use Rattle.sftp_handles.specs.Allowed.{Allowed}
use Rattle.sftp_joint.specs.Deeds.{Happening, AreServed}

-- whether a joint name is that of a client's handle
abbrev pub is_of : ℕ → List ℕ → Bool
is_of client name = same_bytes (take 4 name) (uint32 client)

-- what is open but for what this client has open
abbrev pub without_client : ℕ → Handles → Handles
without_client client handles = retain handles (λ e. not (is_of client e.0))

-- the state once a client has left: its handles are closed, and a file that has no name and is open for nobody else is
-- removed
abbrev pub left_by : ℕ → State → State
left_by client s = settled s.tree (without_client client s.handles)

-- what a server did that served several clients on one tree, from a start to this end
pub record AreServedOn (start : Tree) (happenings : List Happening) (end : Tree) : Type 0 where
  pub last : State
  pub served : AreServed Allowed left_by (started start) happenings last
  pub end_is : end ≡ closed_tree last
