-- Which handles of a client may be open. This profile's own.
use Rattle.std.specs.Prelude.{◌≡◌, ◌≢◌, ◌⊎◌, ℕ, List, [], ◌∷◌, None, IsTrue}
use Rattle.sftp_strings.specs.Strings.{uint64}
use Rattle.sftp_packets.specs.declared.replies.Answer.{Answer}
use Rattle.sftp_packets.specs.declared.replies.Answer.TheVariants as replies
use Rattle.sftp_joint.specs.Joint.{joint_handle}
use Rattle.sftp_handles.specs.State.{State, Good, open_at, closed_tree}
use Rattle.sftp_shared.specs.Sharing.{is_of, left_by}

-- the name that a client has for its handle of this number: handles are numbered in the order in which they are given
abbrev pub handle_name : ℕ → List ℕ
handle_name number = uint64 number

-- if the answer gives a handle, it is the one of this number
abbrev pub GivesOnly : ℕ → Answer → Type 0
GivesOnly number answer = (handle : List ℕ) → answer ≡ replies.Handle handle → handle ≡ handle_name number

-- the name in the session of all is that of one of these handles of the client
abbrev pub IsAmong : ℕ → List ℕ → List ℕ → Type 0
IsAmong client name [] = ⊥
IsAmong client name (number ∷ numbers) =
    (name ≡ joint_handle client (handle_name number)) ⊎ IsAmong client name numbers

-- whatever the client has open is one of these handles
abbrev pub HasOnly : State → ℕ → List ℕ → Type 0
HasOnly s client numbers =
    (name : List ℕ) → IsTrue (is_of client name) → open_at s.handles name ≢ None → IsAmong client name numbers

-- The client's handle of this number is closed, and no other is opened; the client leaves no more and no less behind.
pub record IsHandleClosed (client number : ℕ) (s end : State) : Type 0 where
  pub same : left_by client end ≡ left_by client s
  pub tree : closed_tree end ≡ closed_tree s
  pub closed : open_at end.handles (joint_handle client (handle_name number)) ≡ None
  pub others : (name : List ℕ) → open_at end.handles name ≢ None → open_at s.handles name ≢ None
  pub good : Good end
