use Rattle.std.proofs.Common.{◌≡◌, ◌&&◌, not, ℕ, ap, ◌∙◌, sym}
use Rattle.std.specs.Prelude.{nat_eq, is_some}
use Rattle.std.specs.Map.{lookup}
use Rattle.sftp_hub.specs.Ids.{joint_of, is_used}
use Rattle.sftp_hub.proofs.Tables.{AreIds-taken, struck-or}
use Rattle.sftp_hub.proofs.ids.Ids.take_back.Goals as goal

pub invariant_of-self-2 : goal.invariant_of-self-2
invariant_of-self-2 c =
    let old = c.self.inside in
    let whose = c.in_ok-whose.whose in
    let struck : (joint : ℕ) → is_used c.swap_remove.new.self.entries joint
    ≡ (not (nat_eq (joint_of whose) joint) && is_used old.used.entries joint) =
    λ joint. ap is_some (rw c.joint.ensures at (c.swap_remove.ensures.updates.0 joint))
    ∙ struck-or (nat_eq (joint_of whose) joint) (lookup (nat_eq joint) old.used.entries) in
    AreIds-taken old.slots c.try_remove.new.self old.used.entries c.swap_remove.new.self.entries c.args.id whose
    c.self.invariant (sym c.in_ok-whose.ensures.value) c.in_ok-whose.ensures.updates struck
