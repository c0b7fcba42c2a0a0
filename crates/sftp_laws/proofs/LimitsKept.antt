-- A step of a session leaves the limits of its tree as they are.
use Rattle.std.proofs.Common.{◌≡◌, ◌∙◌, ap, refl, inl, inr, List, ℕ, Option, Some, None}
use Rattle.sftp_packets.specs.declared.packets.Request.{Request}
use Rattle.sftp_packets.specs.declared.packets.Reply.{Reply}
use Rattle.sftp_packets.specs.declared.requests.Ask.{Ask}
use Rattle.sftp_packets.specs.declared.replies.Answer.{Answer}
use Rattle.sftp_packets.specs.Requests.{asked_handle}
use Rattle.sftp_tree.specs.Tree.{limits}
use Rattle.sftp_tree.proofs.Requests.Rows.{limits-stay}
use Rattle.sftp_handles.specs.State.{State}
use Rattle.sftp_handles.specs.RequestRows.{Change, nothing, rewrites, leaves, closes, change_of, row_of}
use Rattle.sftp_handles.specs.Allowed.{Allowed, changed, after, after_by, seen_by}

pub changed-limits : (s : State) (handle : List ℕ) (change : Change)
    → limits (changed s handle change).tree ≡ limits s.tree
changed-limits s handle nothing = refl
changed-limits s handle (rewrites number next) = refl
changed-limits s handle (leaves left) = refl
changed-limits s handle closes = refl

pub after-by-limits : (s : State) (ask : Ask) (answer : Answer) (handle : Option (List ℕ))
    → limits (after_by s ask answer handle).tree ≡ limits s.tree
after-by-limits s ask answer None = limits-stay s.tree ask
after-by-limits s ask answer (Some handle) =
    changed-limits s handle (change_of (row_of ask) (seen_by s ask handle) answer)

pub after-limits : (s : State) (ask : Ask) (answer : Answer) → limits (after s ask answer).tree ≡ limits s.tree
unfolding after
after-limits s ask answer = after-by-limits s ask answer (asked_handle ask)

pub limits-kept : (s end : State) (request : Request) (reply : Reply) → Allowed s request reply end
    → limits end.tree ≡ limits s.tree
limits-kept s end request reply allowed = elim allowed.step [
  | inl refused ↦ ap (λ (e : State). limits e.tree) refused.unchanged
  | inr done ↦ ap (λ (e : State). limits e.tree) done.changed ∙ after-limits s request.ask reply.answer
]
