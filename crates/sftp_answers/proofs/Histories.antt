-- Where each request is answered before the next is taken, each client's session takes turns and keeps the window, and
-- what is done is what happened.
use Rattle.std.proofs.Common.{◌≡◌, ◌==◌, ◌++◌, inl, inr, ℕ, List, [], ◌∷◌, refl, ap, eq-eqb, IsTrue, subst}
use Rattle.std.proofs.lemmas.Bool.{cases_Bool}
use Rattle.sftp_packets.specs.declared.packets.Request.{Request}
use Rattle.sftp_packets.specs.declared.packets.Reply.{Reply}
use Rattle.sftp_transcript.specs.declared.events.Event.{Event}
use Rattle.sftp_transcript.specs.declared.events.Event.TheVariants.{Asked, Replied}
use Rattle.sftp_transcript.specs.Explained.{Matching}
unfoldable use Rattle.sftp_transcript.specs.Explained.{turn_after, next_reply, in_window, requests_before_reply}
unfoldable use Rattle.sftp_joint.specs.Joint.{of_client}
use Rattle.sftp_joint.specs.Deeds.{Happening, did, left, Deed, answered, departed, events_of, RunTogether}
use Rattle.sftp_handles.specs.State.{State}
use Rattle.sftp_handles.specs.Allowed.{Allowed}
use Rattle.sftp_shared.specs.Sharing.{left_by}
unfoldable use Rattle.sftp_joint.specs.Deeds.{deeds_of, moments_of}
unfoldable use Rattle.sftp_answers.specs.Histories.{happened}
use Rattle.sftp_answers.specs.Histories.{HaveTheirIds}

pub deeds-again : (deeds : List Deed) → HaveTheirIds deeds → deeds_of (happened deeds) ≡ deeds
unfolding deeds_of happened moments_of of_client next_reply
deeds-again [] ids = refl
deeds-again (answered client request reply ∷ deeds) ids =
    rw (eq-eqb client client refl, eq-eqb reply.id request.id ids.0)
    (ap (λ (later : List Deed). answered client request reply ∷ later) (deeds-again deeds ids.1))
deeds-again (departed client ∷ deeds) ids =
    ap (λ (later : List Deed). departed client ∷ later) (deeds-again deeds ids.1)

-- ---- one exchange more in front

turns-more : (request : Request) (reply : Reply) (events : List Event) → reply.id ≡ request.id → Matching events
    → Matching (Asked request ∷ Replied reply ∷ events)
unfolding turn_after
turns-more request reply events same matching id = elim (cases_Bool (request.id == id)) [
  | inl is ↦ rw (same, is) (matching id)
  | inr other ↦ rw (same, other) (matching id)
]

window-more : (request : Request) (reply : Reply) (events : List Event) → reply.id ≡ request.id
    → IsTrue (in_window events) → IsTrue (in_window (Asked request ∷ Replied reply ∷ events))
unfolding in_window requests_before_reply
window-more request reply events same within = rw (eq-eqb reply.id request.id same) within

-- ---- a client's session

pub turns : (client : ℕ) (deeds : List Deed) → HaveTheirIds deeds → Matching (events_of client (happened deeds))
unfolding happened moments_of of_client turn_after
turns client [] ids = λ id. refl
turns client (answered other request reply ∷ deeds) ids = elim (cases_Bool (other == client)) [
  | inl same ↦ rw same (turns-more request reply (events_of client (happened deeds)) ids.0 (turns client deeds ids.1))
  | inr apart ↦ rw apart (turns client deeds ids.1)
]
turns client (departed other ∷ deeds) ids = turns client deeds ids.1

pub within : (client : ℕ) (deeds : List Deed) → HaveTheirIds deeds
    → IsTrue (in_window (events_of client (happened deeds)))
unfolding happened moments_of of_client in_window
within client [] ids = refl
within client (answered other request reply ∷ deeds) ids = elim (cases_Bool (other == client)) [
  | inl same ↦
      rw same (window-more request reply (events_of client (happened deeds)) ids.0 (within client deeds ids.1))
  | inr apart ↦ rw apart (within client deeds ids.1)
]
within client (departed other ∷ deeds) ids = within client deeds ids.1

-- ---- what is done later

pub run-append : (deeds more : List Deed) (s mid end : State) → RunTogether Allowed left_by s deeds mid
    → RunTogether Allowed left_by mid more end → RunTogether Allowed left_by s (deeds ++ more) end
run-append [] more s mid end first later =
    subst (λ (start : State). RunTogether Allowed left_by start more end) first later
run-append (answered client request reply ∷ deeds) more s mid end first later =
    (first.0, first.1, run-append deeds more first.0 mid end first.2 later)
run-append (departed client ∷ deeds) more s mid end first later =
    run-append deeds more (left_by client s) mid end first later

pub happened-append : (deeds more : List Deed) → happened (deeds ++ more) ≡ happened deeds ++ happened more
unfolding happened
happened-append [] more = refl
happened-append (answered client request reply ∷ deeds) more =
    ap (λ (later : List Happening). did client (Asked request) ∷ did client (Replied reply) ∷ later)
    (happened-append deeds more)
happened-append (departed client ∷ deeds) more =
    ap (λ (later : List Happening). left client ∷ later) (happened-append deeds more)
