-- The order in which a server took requests, as an order of a set of sessions.
use Rattle.std.proofs.Common.{◌≡◌, ◌≤◌, ◌+◌, ℕ, false, List, [], ◌∷◌, map, sym, arith, subst}
use Rattle.std.specs.Prelude.{nat_lt}
use Rattle.std.specs.List.{AllByRecursion}
use Rattle.sftp_packets.specs.declared.packets.Request.{Request}
use Rattle.sftp_packets.specs.declared.packets.Reply.{Reply}
use Rattle.sftp_transcript.specs.Explained.{Run}
use Rattle.sftp_tree.specs.Tree.{Tree}
use Rattle.sftp_handles.specs.State.{State, started, closed_tree}
use Rattle.sftp_handles.specs.Allowed.{Allowed}
use Rattle.sftp_joint.specs.Joint.{joint_request, joint_reply}
use Rattle.sftp_joint.specs.Deeds.{Happening, deeds_of, RunTogether}
use Rattle.sftp_shared.specs.Sharing.{left_by, AreServedOn}
use Rattle.sftp_together.specs.Sets.{Sessions, Placed, is_alone, IsOrderOf, Explains, KeepsClock}
use Rattle.sftp_together.specs.Sets.{request_in, reply_in, pairs_in}
use Rattle.sftp_together.proofs.Orders.{not-less}
use Rattle.sftp_hub.specs.Accounts.{deed_of, RiseAlong}

-- ---- the run

-- a reply is allowed whatever the ids of the request and of the reply, if they are the same
plain : (s mid : State) (client : ℕ) (request : Request) (reply : Reply)
    → Allowed s (joint_request client request) (joint_reply client reply) mid
    → Allowed s (request_in false client request) (reply_in false client reply) mid
plain s mid client request reply allowed =
    record { same_id = omega (arith, allowed.same_id); step = allowed.step }

run-in : (s end : State) (order : List Placed) → RunTogether Allowed left_by s (map deed_of order) end
    → Run Allowed s (pairs_in false order) end
run-in s end [] run = run
run-in s end (placed ∷ order) run =
    (run.0, plain s run.0 placed.0 placed.1.request placed.1.reply run.1, run-in run.0 end order run.2)

-- ---- the clock

-- who had its reply after a time need not come before what was asked then
late : (tolerance first time : ℕ) (order : List Placed) → first ≤ time → RiseAlong time order
    → AllByRecursion (λ (later : Placed). nat_lt (later.1.replied.time + tolerance) first ≡ false) order
unfolding RiseAlong
late tolerance first time [] before rises = tt
late tolerance first time (placed ∷ order) before rises = (
  not-less (placed.1.replied.time + tolerance) first (omega (arith, before, rises.0, rises.1)),
  late tolerance first placed.1.asked.time order (omega (arith, before, rises.0)) rises.2,
)

keeps : (tolerance time : ℕ) (order : List Placed) → RiseAlong time order → KeepsClock tolerance order
unfolding RiseAlong KeepsClock
keeps tolerance time [] rises = tt
keeps tolerance time (placed ∷ order) rises = (
  late tolerance placed.1.asked.time placed.1.asked.time order (omega arith) rises.2,
  keeps tolerance placed.1.asked.time order rises.2,
)

-- ---- both

pub explained : (start end : Tree) (happenings : List Happening) (order : List Placed) (sessions : Sessions)
    (tolerance : ℕ) → AreServedOn start happenings end → deeds_of happenings ≡ map deed_of order → RiseAlong 0 order
    → IsOrderOf sessions order → is_alone sessions ≡ false
    → (last : State) × Explains Allowed (started start) tolerance sessions order last × (end ≡ closed_tree last)
explained start end happenings order sessions tolerance served same rises each several =
    let run : RunTogether Allowed left_by (started start) (map deed_of order) served.last =
    subst (λ deeds. RunTogether Allowed left_by (started start) deeds served.last) same served.served.run in (
      served.last,
      record {
        each = each;
        clock = keeps tolerance 0 order rises;
        run = subst (λ alone. Run Allowed (started start) (pairs_in alone order) served.last) (sym several)
            (run-in (started start) served.last order run);
      },
      served.end_is,
    )
