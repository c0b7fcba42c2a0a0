-- The ids of a server of several clients: inside, each request has an id of its own, which stands for its client and
-- the id that the client gave it. This profile's own.
use Rattle.std.specs.Prelude.{◌≡◌, ◌<◌, ◌^◌, ℕ, Bool, true, List, Some, is_some, nat_eq}
use Rattle.std.specs.Option.{option_map}
use Rattle.std.specs.Map.{lookup}
use Rattle.slab.specs.Slab.{Slab, get}
use Rattle.sftp_joint.specs.Joint.{joint_id}
use Rattle.sftp_joint.specs.Translated.{Table}
use Rattle.sftp_hub.specs.declared.ids.Whose.{Whose}

-- a client and one of its ids
abbrev pub pair_of : Whose → ℕ × ℕ
pair_of whose = (whose.client, whose.id)

-- for what each id inside stands
abbrev pub table_of : Slab Whose → Table
table_of slots id = option_map pair_of (get slots id)

abbrev pub joint_of : Whose → ℕ
joint_of whose = joint_id whose.client whose.id

-- the joint id is among those in use
abbrev pub is_used : List (ℕ × Unit {0}) → ℕ → Bool
is_used used joint = is_some (lookup (nat_eq joint) used)

-- the joint ids in use are those that stand, each of one id inside
pub record AreIds (slots : Slab Whose) (used : List (ℕ × Unit {0})) : Type 0 where
  pub fits : (id : ℕ) (whose : Whose) → get slots id ≡ Some whose → whose.id < 2 ^ 32
  pub known : (id : ℕ) (whose : Whose) → get slots id ≡ Some whose → is_used used (joint_of whose) ≡ true
  pub only : (joint : ℕ) → is_used used joint ≡ true
      → (id : ℕ) × (whose : Whose) × (get slots id ≡ Some whose) × (joint_of whose ≡ joint)
  pub apart : (one other : ℕ) (first second : Whose) → get slots one ≡ Some first → get slots other ≡ Some second
      → joint_of first ≡ joint_of second → one ≡ other
