-- Only a request that opens something is answered by a handle.
use Rattle.std.proofs.Common.{◌≡◌, ◌<◌, ◌^◌, ◌+◌, ◌*◌, ℕ, Bool, true, false, List, [], ◌∷◌, refl, sym, ap, ◌∙◌, subst, cond, Option}
use Rattle.std.proofs.Common.{Some, None, inl, inr, IsTrue, Result, Ok, Err, not, lit≤, length, nat_lt}
use Rattle.std.specs.List.{list_any}
use Rattle.std.specs.Result.{IfOk}
use Rattle.std.proofs.lemmas.Result.{IfOk-weaker}
use Rattle.sftp_handles.proofs.Imports.{Ask, Answer, Request, Reply, State, Allowed, Refuses, Does, Handles, limits, says}
use Rattle.sftp_handles.proofs.Imports.{said_of, row_of, seen, Seen, is_opening}
use Rattle.sftp_packets.specs.declared.requests.Ask.TheVariants as asks
use Rattle.sftp_packets.specs.declared.replies.Answer.TheVariants as replies
use Rattle.sftp_treefile.specs.declared.limits.TreeLimits.{TreeLimits}
use Rattle.sftp_tree.specs.declared.causes.Cause.{Cause}
use Rattle.sftp_tree.specs.declared.file_contents.Content.{Content}
use Rattle.sftp_tree.specs.PlaceCauses.{CauseSet, is_none, every_cause}
use Rattle.sftp_tree.specs.Changes.{bytes_at}
use Rattle.sftp_tree.specs.Tree.{node_at}
use Rattle.sftp_tree.specs.Requests.{Told, led, led_to, told_at, done, shown_at, target_of}
use Rattle.sftp_path.specs.Place.{Place}
use Rattle.sftp_handles.specs.State.{absent, other_kind, something, file, listing}
use Rattle.sftp_packets.specs.declared.attributes.Attrs.{Attrs}
use Rattle.sftp_handles.specs.Replies.{Said, gives, ended, shows, names, refuses}
use Rattle.sftp_handles.specs.RequestRows.{Row, said_by}
unfoldable use Rattle.sftp_handles.specs.Allowed.{answers, told_to, causes}
use Rattle.sftp_handles.specs.Allowed.{path_said}
use Rattle.sftp_strings.specs.Strings.{uint64}
use Rattle.sftp_packets.specs.declared.packets.Packet.TheVariants.{Reply as reply_packet}
use Rattle.sftp_packets.specs.Packets.{HasSpelling}
use Rattle.sftp_handles.proofs.TotalSteps.{number-bytes}
use Rattle.sftp_handles.proofs.TotalSteps.SaidReplies.{handle-spelled}
use Rattle.sftp_joint.specs.Joint.{joint_ask, joint_answer, joint_request, joint_reply}
use Rattle.sftp_shared.proofs.Sharing.{allowed-ignores}
use Rattle.sftp_answers.specs.Leaving.{GivesOnly, handle_name}

-- ==== What requests say.

led-quiet : (handles : Handles) (o : Option (Result Place Cause)) (at : Place → Told) (h : List ℕ)
    → ((place : Place) → says (said_by handles (at place)) (replies.Handle h) ≡ false)
    → says (said_by handles (led_to done o at)) (replies.Handle h) ≡ false
led-quiet handles None at h quiet = refl
led-quiet handles (Some (Ok place)) at h quiet = quiet place
led-quiet handles (Some (Err cause)) at h quiet = refl

path-quiet : (s : State) (ask : Ask) (h : List ℕ)
    → ((place : Place) → says (said_by s.handles (told_at s.tree ask place)) (replies.Handle h) ≡ false)
    → says (said_by s.handles (told_to s.tree ask)) (replies.Handle h) ≡ false
unfolding told_to
path-quiet s ask h quiet = led-quiet s.handles (led s.tree ask) (told_at s.tree ask) h quiet

seen-quiet : (bounds : TreeLimits) (row : Row) (it : Seen) (h : List ℕ)
    → ((before : Content) → says (row.said_of_file bounds before) (replies.Handle h) ≡ false)
    → says (said_of bounds row it) (replies.Handle h) ≡ false
seen-quiet bounds row absent h quiet = refl
seen-quiet bounds row other_kind h quiet = refl
seen-quiet bounds row something h quiet = refl
seen-quiet bounds row (file number flags before) h quiet = quiet before
seen-quiet bounds row (listing []) h quiet = refl
seen-quiet bounds row (listing (e ∷ es)) h quiet = refl

read-quiet : (some : Bool) (bytes h : List ℕ) → says (cond some (gives bytes) ended) (replies.Handle h) ≡ false
read-quiet true bytes h = refl
read-quiet false bytes h = refl

shown-quiet : (shown : Option Attrs) (h : List ℕ) → says (shows shown) (replies.Handle h) ≡ false
shown-quiet None h = refl
shown-quiet (Some attrs) h = refl

named-quiet : (text : Option (List ℕ)) (h : List ℕ) → says (names text) (replies.Handle h) ≡ false
named-quiet None h = refl
named-quiet (Some text) h = refl

quiet : (s : State) (ask : Ask) (h : List ℕ) → is_opening ask ≡ false → answers s ask (replies.Handle h) ≡ false
unfolding answers
quiet s (asks.Open path pflags attrs) h other = absurd cc
quiet s (asks.Opendir path) h other = absurd cc
quiet s (asks.Close handle) h other =
    seen-quiet (limits s.tree) (row_of (asks.Close handle)) (seen s (row_of (asks.Close handle)).needed handle) h
    (λ before. refl)
quiet s (asks.Read handle offset len) h other =
    seen-quiet (limits s.tree) (row_of (asks.Read handle offset len))
    (seen s (row_of (asks.Read handle offset len)).needed handle) h
    (λ before.
    read-quiet (nat_lt offset (length before.bytes)) (bytes_at (limits s.tree) offset len before.bytes) h)
quiet s (asks.Write handle offset bytes) h other =
    seen-quiet (limits s.tree) (row_of (asks.Write handle offset bytes))
    (seen s (row_of (asks.Write handle offset bytes)).needed handle) h (λ before. refl)
quiet s (asks.Fstat handle) h other =
    seen-quiet (limits s.tree) (row_of (asks.Fstat handle)) (seen s (row_of (asks.Fstat handle)).needed handle) h
    (λ before. refl)
quiet s (asks.Fsetstat handle attrs) h other =
    seen-quiet (limits s.tree) (row_of (asks.Fsetstat handle attrs))
    (seen s (row_of (asks.Fsetstat handle attrs)).needed handle) h (λ before. refl)
quiet s (asks.Readdir handle) h other =
    seen-quiet (limits s.tree) (row_of (asks.Readdir handle)) (seen s (row_of (asks.Readdir handle)).needed handle) h
    (λ before. refl)
quiet s (asks.Fsync handle) h other =
    seen-quiet (limits s.tree) (row_of (asks.Fsync handle)) (seen s (row_of (asks.Fsync handle)).needed handle) h
    (λ before. refl)
quiet s (asks.Lstat path) h other =
    path-quiet s (asks.Lstat path) h (λ place. shown-quiet (shown_at s.tree (node_at s.tree.names place)) h)
quiet s (asks.Setstat path attrs) h other = path-quiet s (asks.Setstat path attrs) h (λ place. refl)
quiet s (asks.Remove path) h other = path-quiet s (asks.Remove path) h (λ place. refl)
quiet s (asks.Mkdir path attrs) h other = path-quiet s (asks.Mkdir path attrs) h (λ place. refl)
quiet s (asks.Rmdir path) h other = path-quiet s (asks.Rmdir path) h (λ place. refl)
quiet s (asks.Realpath path) h other = path-quiet s (asks.Realpath path) h (λ place. refl)
quiet s (asks.Stat path) h other =
    path-quiet s (asks.Stat path) h (λ place. shown-quiet (shown_at s.tree (node_at s.tree.names place)) h)
quiet s (asks.Rename oldpath newpath) h other = path-quiet s (asks.Rename oldpath newpath) h (λ place. refl)
quiet s (asks.Readlink path) h other =
    path-quiet s (asks.Readlink path) h (λ place. named-quiet (target_of (node_at s.tree.names place)) h)
quiet s (asks.Symlink target link) h other = path-quiet s (asks.Symlink target link) h (λ place. refl)
quiet s (asks.PosixRename oldpath newpath) h other = path-quiet s (asks.PosixRename oldpath newpath) h (λ place. refl)
quiet s (asks.Hardlink oldpath newpath) h other = path-quiet s (asks.Hardlink oldpath newpath) h (λ place. refl)
quiet s asks.Limits h other = refl
quiet s (asks.Unknown name rest) h other = path-quiet s (asks.Unknown name rest) h (λ place. refl)

-- ==== What replies are.

abbrev IsNoHandle : Answer → Type 0
IsNoHandle answer = (h : List ℕ) → answer ≡ replies.Handle h → ⊥

no-refusal : (set : CauseSet) (answer : Answer) → IsTrue (refuses set answer) → IsNoHandle answer
no-refusal set answer is h same =
    let no : false ≡ true = subst (λ (a : Answer). refuses set a ≡ true) same is in cc

-- a request that opens nothing is answered by no handle
no-handle : (s end : State) (request : Request) (reply : Reply) → Allowed s request reply end
    → is_opening request.ask ≡ false → IsNoHandle reply.answer
no-handle s end request reply allowed other h same = elim allowed.step [
  | inl refused ↦ no-refusal (causes s request.ask) reply.answer refused.cause h same
  | inr does ↦
      let is : answers s request.ask (replies.Handle h) ≡ true =
      subst (λ (a : Answer). answers s request.ask a ≡ true) same does.answered in
      let no : false ≡ true = sym (quiet s request.ask h other) ∙ is in
      cc
]

-- nor is one that some cause refuses
refused-handle : (s end : State) (request : Request) (reply : Reply) → Allowed s request reply end
    → is_none (causes s request.ask) ≡ false → IsNoHandle reply.answer
refused-handle s end request reply allowed some h same = elim allowed.step [
  | inl refused ↦ no-refusal (causes s request.ask) reply.answer refused.cause h same
  | inr does ↦ let no : false ≡ true = sym some ∙ does.free in cc
]

-- an answer without a handle is the same in the session of all
same-answer : (client : ℕ) (answer : Answer) → IsNoHandle answer → joint_answer client answer ≡ answer
same-answer client (replies.Handle h) none = absurd (none h refl)
same-answer client (replies.Status code message language) none = refl
same-answer client (replies.Data bytes) none = refl
same-answer client (replies.Name items) none = refl
same-answer client (replies.Attrs attrs) none = refl
same-answer client (replies.Extended bytes) none = refl

as-joint : (client : ℕ) (s end : State) (request : Request) (reply : Reply) → Allowed s request reply end
    → IsNoHandle reply.answer
    → Allowed s request (record { id = reply.id; answer = joint_answer client reply.answer }) end
as-joint client s end request reply allowed none =
    subst (λ (a : Answer). Allowed s request (record { id = reply.id; answer = a }) end)
    (sym (same-answer client reply.answer none)) allowed

pub plain_joint : (client : ℕ) (s end : State) (request : Request) (reply : Reply) → Allowed s request reply end
    → is_opening request.ask ≡ false
    → Allowed s request (record { id = reply.id; answer = joint_answer client reply.answer }) end
plain_joint client s end request reply allowed other =
    as-joint client s end request reply allowed (no-handle s end request reply allowed other)

pub plain_named : (s end : State) (request : Request) (reply : Reply) (number : ℕ) → Allowed s request reply end
    → is_opening request.ask ≡ false → GivesOnly number reply.answer
plain_named s end request reply number allowed other handle is =
    absurd (no-handle s end request reply allowed other handle is)

-- causes that are known one by one
any-same : (p q : Cause → Bool) (list : List Cause) → ((c : Cause) → p c ≡ q c) → list_any p list ≡ list_any q list
any-same p q [] same = refl
any-same p q (c ∷ list) same = rw (same c) (rw (any-same p q list same) refl)

pub refused_joint : (s end : State) (request : Request) (reply : Reply) (set : CauseSet) → Allowed s request reply end
    → ((c : Cause) → set c ≡ causes s request.ask c) → list_any set every_cause ≡ true → (client : ℕ)
    → Allowed s request (record { id = reply.id; answer = joint_answer client reply.answer }) end
refused_joint s end request reply set allowed same some client =
    as-joint client s end request reply allowed
    (refused-handle s end request reply allowed
    (ap not (sym (any-same set (causes s request.ask) every_cause same) ∙ some)))

pub refused_named : (s end : State) (request : Request) (reply : Reply) (set : CauseSet) → Allowed s request reply end
    → ((c : Cause) → set c ≡ causes s request.ask c) → list_any set every_cause ≡ true → (number : ℕ)
    → GivesOnly number reply.answer
refused_named s end request reply set allowed same some number handle is =
    absurd
    (refused-handle s end request reply allowed
    (ap not (sym (any-same set (causes s request.ask) every_cause same) ∙ some)) handle is)

-- ==== Ids, and handles that a client is given.

pub own_spelled : (id number : ℕ) → id < 2 ^ 32
    → HasSpelling (reply_packet (record { id = id; answer = replies.Handle (uint64 number) }))
own_spelled id number small = handle-spelled (uint64 number) (number-bytes 8 number) (lit≤ tt) id small

pub own_named : (number : ℕ) → GivesOnly number (replies.Handle (uint64 number))
own_named number handle is = cc

joint-ids : (client : ℕ) (s end : State) (request : Request) (ask : Ask) (reply : Reply)
    → ask ≡ joint_ask client request.ask
    → Allowed s (record { id = request.id; ask = ask })
    (record { id = reply.id; answer = joint_answer client reply.answer }) end
    → Allowed s (joint_request client request) (joint_reply client reply) end
joint-ids client s end request ask reply is allowed =
    allowed-ignores s end (record { id = request.id; ask = ask }) (joint_request client request)
    (record { id = reply.id; answer = joint_answer client reply.answer }) (joint_reply client reply) is refl
    (ap (λ (n : ℕ). client * 2 ^ 32 + n) allowed.same_id) allowed

-- what is allowed with the client's own id is with the joint one
pub with_joint_ids : {E : Type 0} (client : ℕ) (s end : State) (request : Request) (ask : Ask) (answered : Result Reply E)
    → ask ≡ joint_ask client request.ask
    → IfOk answered (λ reply. Allowed s (record { id = request.id; ask = ask })
    (record { id = reply.id; answer = joint_answer client reply.answer }) end)
    → IfOk answered (λ reply. Allowed s (joint_request client request) (joint_reply client reply) end)
with_joint_ids client s end request ask answered is allowed =
    IfOk-weaker answered
    (λ reply. Allowed s (record { id = request.id; ask = ask })
    (record { id = reply.id; answer = joint_answer client reply.answer }) end)
    (λ reply. Allowed s (joint_request client request) (joint_reply client reply) end)
    (λ reply. joint-ids client s end request ask reply is) allowed
