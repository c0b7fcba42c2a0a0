-- A CLOSE of a client's handle, and the client's leave.
use Rattle.std.proofs.Common.{◌≡◌, ◌≢◌, ◌⊎◌, inl, inr, ℕ, Bool, true, false, List, [], ◌∷◌, refl, sym, ap, ◌∙◌, subst, Option}
use Rattle.std.proofs.Common.{Some, None, IsTrue, ◌<◌, ◌≤◌, ◌+◌, suc, length, drop, get_or, add-one}
use Rattle.std.proofs.Math.Seq.{drop-cons}
use Rattle.std.proofs.lemmas.List.{drop_all}
use Rattle.sftp_handles.proofs.Imports.{bytes_cmp, nat_list_cmp_total, get-without, is_eq, Handles, open_at, without_open}
use Rattle.sftp_handles.proofs.Imports.{State, settled, Good, Request, Reply, Ask, Answer, Allowed, Refuses, Does, pins_of}
use Rattle.sftp_handles.proofs.Imports.{is_pinned, is_none, causes_of, changed, change_of, row_of, seen_among, anything}
unfoldable use Rattle.sftp_handles.proofs.Imports.{causes, after, seen, no_causes}
unfoldable use Rattle.sftp_tree.specs.PlaceCauses.{when}
unfoldable use Rattle.sftp_path.specs.Table.{get}
use Rattle.sftp_handles.proofs.Good.{good-closed}
use Rattle.sftp_handles.specs.declared.opens.Open.{Open}
use Rattle.sftp_handles.specs.State.{closed_tree}
use Rattle.sftp_handles.specs.Replies.{refuses}
use Rattle.sftp_packets.specs.declared.requests.Ask.TheVariants as asks
use Rattle.sftp_packets.specs.declared.replies.Answer.TheVariants as replies
use Rattle.sftp_path.proofs.Table.Laws.{get-without_here}
use Rattle.sftp_joint.specs.Joint.{joint_handle}
use Rattle.sftp_shared.specs.Sharing.{is_of, left_by}
use Rattle.sftp_shared.proofs.Sharing.{joint-is_of, some-or-none}
use Rattle.sftp_shared.proofs.Leaving.{settled-again, leave-after, leave-nothing, none-of}
use Rattle.sftp_answers.specs.Leaving.{handle_name, HasOnly, IsHandleClosed}

-- ==== What a CLOSE leads to.

-- nothing changes where the handle is not open, and else it is closed
abbrev pub IsClosed : State → List ℕ → State → Type 0
IsClosed s h end =
    ((open_at s.handles h ≡ None) × (end ≡ s))
    ⊎ ((it : Open) × (open_at s.handles h ≡ Some it) × (end ≡ settled s.tree (without_open s.handles h)))

no-refusal : (answer : Answer) → refuses no_causes answer ≡ false
unfolding no_causes
no-refusal (replies.Status code message language) = refl
no-refusal (replies.Handle h) = refl
no-refusal (replies.Data bytes) = refl
no-refusal (replies.Name items) = refl
no-refusal (replies.Attrs attrs) = refl
no-refusal (replies.Extended bytes) = refl

closed-from : (s end : State) (h : List ℕ) (answer : Answer) (o : Option Open) → open_at s.handles h ≡ o
    → Refuses s (asks.Close h) answer end ⊎ Does s (asks.Close h) answer end → IsClosed s h end
unfolding causes after seen no_causes when
closed-from s end h answer None none (inl refused) = inl (none, refused.unchanged)
closed-from s end h answer None none (inr does) =
    let no : false ≡ true =
    subst (λ (o : Option Open). is_none (causes_of s.tree (row_of (asks.Close h)) (seen_among s.tree.files anything o)) ≡ true)
    none does.free in
    absurd cc
closed-from s end h answer (Some it) there (inl refused) =
    let no : false ≡ true =
    sym (no-refusal answer)
    ∙ subst (λ (o : Option Open). refuses (causes_of s.tree (row_of (asks.Close h)) (seen_among s.tree.files anything o)) answer ≡ true)
    there refused.cause in
    absurd cc
closed-from s end h answer (Some it) there (inr does) =
    inr (
      it,
      there,
      does.changed
          ∙ subst (λ (o : Option Open). changed s h (change_of (row_of (asks.Close h)) (seen_among s.tree.files anything o) answer)
          ≡ settled s.tree (without_open s.handles h)) (sym there) refl,
    )

closed-by : (s end : State) (request : Request) (reply : Reply) (h : List ℕ) → request.ask ≡ asks.Close h
    → Allowed s request reply end → IsClosed s h end
closed-by s end request reply h asks allowed =
    closed-from s end h reply.answer (open_at s.handles h) refl
    (subst (λ (a : Ask). Refuses s a reply.answer end ⊎ Does s a reply.answer end) asks allowed.step)

-- ==== What stays the same.

left-same : (client : ℕ) (s end : State) (h : List ℕ) → Good s → is_of client h ≡ true → IsClosed s h end
    → left_by client end ≡ left_by client s
left-same client s end h good own (inl (none, is)) = ap (left_by client) is
left-same client s end h good own (inr (it, there, is)) = ap (left_by client) is ∙ leave-after client s h good own

closed-again : (s : State) (xs : Handles) → closed_tree (settled s.tree xs) ≡ closed_tree s
unfolding pins_of get
closed-again s xs =
    ap (λ (s : State). s.tree)
    (settled-again s.tree xs [] (λ n pinned. let no : false ≡ true = pinned in absurd cc))

tree-same : (s end : State) (h : List ℕ) → IsClosed s h end → closed_tree end ≡ closed_tree s
tree-same s end h (inl (none, is)) = ap closed_tree is
tree-same s end h (inr (it, there, is)) = ap closed_tree is ∙ closed-again s (without_open s.handles h)

shut-here : (s end : State) (h : List ℕ) → Good s → IsClosed s h end → open_at end.handles h ≡ None
shut-here s end h good (inl (none, is)) = ap (λ (s : State). open_at s.handles h) is ∙ none
shut-here s end h good (inr (it, there, is)) =
    ap (λ (s : State). open_at s.handles h) is ∙ get-without_here bytes_cmp nat_list_cmp_total s.handles h good.ordered

shut-others : (s end : State) (h n : List ℕ) → Good s → IsClosed s h end → open_at end.handles n ≢ None
    → open_at s.handles n ≢ None
shut-others s end h n good (inl (none, is)) there closed =
    there (ap (λ (s : State). open_at s.handles n) is ∙ closed)
shut-others s end h n good (inr (it, open_here, is)) there closed =
    there
    (ap (λ (s : State). open_at s.handles n) is
    ∙ get-without bytes_cmp nat_list_cmp_total s.handles h n good.ordered
    ∙ none-of (is_eq (bytes_cmp h n)) (open_at s.handles n) closed)

good-after : (s end : State) (h : List ℕ) → Good s → IsClosed s h end → Good end
good-after s end h good (inl (none, is)) = subst Good (sym is) good
good-after s end h good (inr (it, there, is)) = subst Good (sym is) (good-closed s h it good there)

-- ==== A CLOSE of a client's handle of some number.

pub handle_closed : (client number : ℕ) (s end : State) (request : Request) (reply : Reply)
    → request.ask ≡ asks.Close (joint_handle client (handle_name number)) → Allowed s request reply end → Good s
    → IsHandleClosed client number s end
handle_closed client number s end request reply asks_it allowed good =
    let h = joint_handle client (handle_name number) in
    let closed = closed-by s end request reply h asks_it allowed in
    record {
      same = left-same client s end h good (joint-is_of client (handle_name number)) closed;
      tree = tree-same s end h closed;
      closed = shut-here s end h good closed;
      others = λ name. shut-others s end h name good closed;
      good = good-after s end h good closed;
    }

-- ==== All of them.

pub has_less : (s end : State) (client number i : ℕ) (numbers : List ℕ) → i < length numbers
    → HasOnly s client (drop i numbers) → number ≡ get_or numbers i 0
    → open_at end.handles (joint_handle client (handle_name number)) ≡ None
    → ((name : List ℕ) → open_at end.handles name ≢ None → open_at s.handles name ≢ None)
    → HasOnly end client (drop (i + 1) numbers)
has_less s end client number i numbers within only here closed others =
    let all : HasOnly s client (get_or numbers i 0 ∷ drop (suc i) numbers) =
    subst (HasOnly s client) (drop-cons numbers i 0 within) only in
    subst (λ (n : ℕ). HasOnly end client (drop n numbers)) (sym (add-one i))
    (λ name own there. elim (all name own (others name there)) [
      | inl is ↦
          absurd
          (there
          (ap (open_at end.handles) is
          ∙ ap (λ (n : ℕ). open_at end.handles (joint_handle client (handle_name n))) (sym here)
          ∙ closed))
      | inr among ↦ among
    ])

pub has_none : (client : ℕ) (s : State) (i : ℕ) (numbers : List ℕ) → Good s → length numbers ≤ i
    → HasOnly s client (drop i numbers) → left_by client s ≡ s
has_none client s i numbers good over only =
    let none : HasOnly s client [] = subst (HasOnly s client) (drop_all i numbers over) only in
    leave-nothing client s good
    (λ n own. elim (some-or-none (open_at s.handles n)) [
      | inl none_open ↦ none_open
      | inr there ↦ absurd (none n own there)
    ])

-- some of the handles were closed, and of these the client may have others open
pub record IsLeaving (start s : State) (client : ℕ) (all numbers : List ℕ) : Type 0 where
  pub good : Good s
  pub same : left_by client s ≡ left_by client start
  pub tree : closed_tree s ≡ closed_tree start
  pub only : HasOnly start client all → HasOnly s client numbers
