-- A client of which there is no frame, and to which nothing happens.
use Rattle.std.proofs.Common.{◌≡◌, ◌==◌, ℕ, Bool, true, false, List, [], ◌∷◌, Ok, None, refl, sym, ap, ◌∙◌, inl, inr, subst}
use Rattle.std.specs.Prelude.{nat_lt, if◌then◌else◌}
use Rattle.std.proofs.lemmas.Bool.{cases_eq, ne_eqb}
use Rattle.sftp_packets.specs.declared.packets.Packet.{Packet}
use Rattle.sftp_packets.specs.declared.packets.Side.TheVariants.{Client}
use Rattle.sftp_wire.specs.Fronts.{front_of}
use Rattle.sftp_joint.specs.Deeds.{Happening, did, left, events_of, moments_of, IsAbsent}
use Rattle.sftp_joint.specs.Joint.{of_client}
use Rattle.sftp_frames.specs.Frames.{Frame, IsAway, begins, stream_of, is_ended, read_of, has_gone}
use Rattle.sftp_hub.specs.Clients.{HasTaken, HasWritten, has_left, goes_on}

either : (b c : Bool) → c ≡ false → (if b then false else c) ≡ false
either true c is = refl
either false c is = is

begins-away : (client : ℕ) (frames : List Frame) → IsAway client frames → begins client frames ≡ false
unfolding IsAway begins
begins-away client [] away = refl
begins-away client (frame ∷ frames) away = rw away.0 (either (nat_lt client frame.0) (begins client frames) (begins-away client frames away.1))

pub stream-away : (client : ℕ) (frames : List Frame) → IsAway client frames → stream_of client frames ≡ []
unfolding IsAway stream_of
stream-away client [] away = refl
stream-away client (frame ∷ frames) away = rw away.0 (stream-away client frames away.1)

pub ended-away : (client : ℕ) (frames : List Frame) → IsAway client frames → is_ended client frames ≡ false
unfolding IsAway is_ended
ended-away client [] away = refl
ended-away client (frame ∷ frames) away = rw away.0 (ended-away client frames away.1)

read-away : (client : ℕ) (frames : List Frame) → IsAway client frames → read_of client frames ≡ []
read-away client frames away = rw (begins-away client frames away) refl

gone-away : (client : ℕ) (frames : List Frame) → IsAway client frames → has_gone client frames ≡ false
gone-away client frames away = rw (begins-away client frames away) refl

pub events-absent : (client : ℕ) (happenings : List Happening) → IsAbsent client happenings
    → events_of client happenings ≡ []
unfolding IsAbsent moments_of of_client
events-absent client [] absent = refl
events-absent client (did other event ∷ happenings) absent = rw absent.0 (events-absent client happenings absent.1)
events-absent client (left other ∷ happenings) absent = events-absent client happenings absent.1

left-absent : (client : ℕ) (happenings : List Happening) → IsAbsent client happenings
    → has_left client happenings ≡ false
unfolding IsAbsent has_left
left-absent client [] absent = refl
left-absent client (did other event ∷ happenings) absent = left-absent client happenings absent.1
left-absent client (left other ∷ happenings) absent = rw absent.0 (left-absent client happenings absent.1)

nothing-in-front : front_of Client [] ≡ Ok None
unfolding front_of
nothing-in-front = refl

pub nobody : (version : Packet) (frames : List Frame) (happenings : List Happening) (client : ℕ) → IsAway client frames
    → IsAbsent client happenings → HasTaken version frames happenings client
nobody version frames happenings client away absent = record {
  opened = false;
  standing = goes_on;
  taken = (
    events-absent client happenings absent,
    (gone-away client frames away, ap (front_of Client) (read-away client frames away) ∙ nothing-in-front),
  );
  leaves = left-absent client happenings absent;
}

pub nobody-written : (version : Packet) (frames written : List Frame) (happenings : List Happening) (client : ℕ)
    → IsAway client frames → IsAway client written → IsAbsent client happenings
    → HasWritten version frames written happenings client
unfolding nobody
nobody-written version frames written happenings client away unwritten absent = record {
  taken = nobody version frames happenings client away absent;
  sent = stream-away client written unwritten;
  ended = ended-away client written unwritten ∙ sym (left-absent client happenings absent);
}

-- what holds of clients 1 and 2, and of all others, holds of each
pub for-all : (P : ℕ → Type 0) → P 1 → P 2 → ((client : ℕ) → (1 == client) ≡ false → (2 == client) ≡ false → P client)
    → (client : ℕ) → P client
for-all P first second others client =
    elim (cases_eq 1 client) [
      | inl one ↦ subst P one first
      | inr more ↦ elim (cases_eq 2 client) [
        | inl two ↦ subst P two second
        | inr many ↦ others client (ne_eqb 1 client more) (ne_eqb 2 client many)
      ]
    ]
