-- Two clients, one of which breaks the protocol, by what is computed of their bytes.
use Rattle.std.proofs.Common.{◌≡◌, ◌==◌, ◌<◌, ◌≤◌, ◌^◌, lit<, lit≤, ℕ, zero, suc, Bool, true, false, List, [], ◌∷◌, ◌++◌, take, length, Ok, Err, None, refl, sym, ap, ◌∙◌, inr, subst}
use Rattle.std.specs.Prelude.{IsTrue}
use Rattle.std.proofs.lemmas.List.{take_at}
use Rattle.std.specs.List.{AllByRecursion}
use Rattle.sftp_strings.specs.Hexadecimal.{hex}
use Rattle.sftp_packets.specs.Reading.{uint32_at, pairs_at, pair_at, string_at}
use Rattle.sftp_packets.specs.Packets.{client_packet_at, packet_of, spelling}
use Rattle.sftp_packets.specs.declared.packets.Packet.TheVariants.{Init}
use Rattle.sftp_packets.specs.declared.packets.Side.TheVariants.{Client}
use Rattle.sftp_packets.specs.declared.errors.Fault.TheVariants.{Trailing}
use Rattle.sftp_packets.specs.declared.errors.WireError.TheVariants.{Unreadable}
use Rattle.sftp_wire.specs.Fronts.{front_of}
use Rattle.sftp_path.specs.Place.{parts, components, is_good_path}
use Rattle.sftp_path.specs.Table.{get, put, retain, without}
use Rattle.sftp_tree.specs.Tree.{has_entries, fits}
use Rattle.sftp_tree.specs.Requests.{led, plain_causes, causes as path_causes, outcome}
use Rattle.sftp_tree.specs.Walk.{meets, walk, walk_parts, reached}
use Rattle.sftp_tree.specs.PlaceCauses.{no_causes, when, joined}
use Rattle.sftp_tree.specs.Picture.{blank}
use Rattle.sftp_handles.specs.State.{pins_of, started}
use Rattle.sftp_handles.specs.Allowed.{Allowed, causes, told_to, answers, after}
use Rattle.sftp_transcript.specs.Explained.{Matching, in_window, turn_after, next_reply}
use Rattle.sftp_joint.specs.Joint.{of_client, joint_request, joint_reply}
use Rattle.sftp_joint.specs.Deeds.{left, moments_of, events_of, deeds_of, AreOver, IsAbsent}
use Rattle.sftp_shared.specs.Sharing.{left_by, AreServedOn}
use Rattle.sftp_server.specs.declared.ends.SessionFault.TheVariants as faults
use Rattle.sftp_server.specs.Served.{sent_by, our_version, usual}
use Rattle.sftp_server.specs.Examples.{init_bytes, stat_bytes, remove_and_byte, stat_answered}
use Rattle.sftp_server.proofs.Worked.{greeting, stat_root, root_reply, stat_spelled, root_spelled, looked}
use Rattle.sftp_frames.specs.Frames.{Frame, IsFrame, frames_text, AreInTime, IsAway, begins, stream_of, is_ended}
use Rattle.sftp_hub.specs.Clients.{HasTaken, HasWritten, has_left, goes_on, broken}
use Rattle.sftp_hub.specs.Promised.{HasTakenFirst, IsOrderOfArrival, AreServedAll}
use Rattle.sftp_hub.specs.Examples.{two_clients, two_answers, served_and_left}
use Rattle.sftp_hub.proofs.Absence.{nobody, nobody-written, for-all}

-- ==== What is in front.

unreadable : front_of Client remove_and_byte ≡ Err Trailing
unfolding hex front_of packet_of client_packet_at uint32_at pairs_at pair_at string_at
unreadable = refl

nothing : front_of Client [] ≡ Ok None
unfolding front_of
nothing = refl

-- ==== Client 1: its session is opened, and breaks.

first-opened : HasTaken our_version ((1, init_bytes) ∷ []) [] 1
unfolding begins stream_of is_ended sent_by spelling hex moments_of of_client has_left
first-opened = record {
  opened = true;
  standing = goes_on;
  taken = record {
    init = Init 3 [];
    rest = [];
    greeting = greeting;
    spelled = tt;
    read = refl;
    why = (refl, nothing);
  };
  leaves = refl;
}

first-waits : HasTaken our_version ((1, init_bytes) ∷ (2, init_bytes ++ stat_bytes) ∷ []) (take 2 served_and_left) 1
unfolding begins stream_of is_ended sent_by spelling hex moments_of of_client has_left
first-waits = record {
  opened = true;
  standing = goes_on;
  taken = record {
    init = Init 3 [];
    rest = [];
    greeting = greeting;
    spelled = tt;
    read = refl;
    why = (refl, nothing);
  };
  leaves = refl;
}

first-breaks : HasTaken our_version two_clients served_and_left 1
unfolding begins stream_of is_ended sent_by spelling hex moments_of of_client has_left
first-breaks = record {
  opened = true;
  standing = broken (faults.Wire (Unreadable Trailing 9));
  taken = record {
    init = Init 3 [];
    rest = remove_and_byte;
    greeting = greeting;
    spelled = tt;
    read = refl;
    why = (unreadable, refl);
  };
  leaves = refl;
}

-- ==== Client 2: its request is answered.

second-served : HasTaken our_version ((1, init_bytes) ∷ (2, init_bytes ++ stat_bytes) ∷ []) (take 2 served_and_left) 2
unfolding begins stream_of is_ended sent_by spelling hex moments_of of_client has_left
second-served = record {
  opened = true;
  standing = goes_on;
  taken = record {
    init = Init 3 [];
    rest = [];
    greeting = greeting;
    spelled = (stat_spelled, (root_spelled, tt));
    read = refl;
    why = (refl, nothing);
  };
  leaves = refl;
}

second-goes_on : HasTaken our_version two_clients served_and_left 2
unfolding begins stream_of is_ended sent_by spelling hex moments_of of_client has_left
second-goes_on = record {
  opened = true;
  standing = goes_on;
  taken = record {
    init = Init 3 [];
    rest = [];
    greeting = greeting;
    spelled = (stat_spelled, (root_spelled, tt));
    read = refl;
    why = (refl, nothing);
  };
  leaves = refl;
}

-- ==== All clients, whatever frames came.

at-none : HasTakenFirst our_version [] served_and_left
unfolding IsAway IsAbsent
at-none = record {
  earlier = [];
  later = served_and_left;
  parts = refl;
  each = λ client. nobody our_version [] [] client tt tt;
}

at-one : HasTakenFirst our_version ((1, init_bytes) ∷ []) served_and_left
unfolding IsAway IsAbsent begins
at-one = record {
  earlier = [];
  later = served_and_left;
  parts = refl;
  each = for-all (HasTaken our_version ((1, init_bytes) ∷ []) []) first-opened
      (nobody our_version ((1, init_bytes) ∷ []) [] 2 (refl, tt) tt)
      (λ client first second. nobody our_version ((1, init_bytes) ∷ []) [] client (first, tt) tt);
}

at-two : HasTakenFirst our_version ((1, init_bytes) ∷ (2, init_bytes ++ stat_bytes) ∷ []) served_and_left
unfolding IsAway IsAbsent
at-two =
    let frames : List Frame = (1, init_bytes) ∷ (2, init_bytes ++ stat_bytes) ∷ [] in
    record {
      earlier = take 2 served_and_left;
      later = left 1 ∷ [];
      parts = refl;
      each = for-all (HasTaken our_version frames (take 2 served_and_left)) first-waits second-served
          (λ client first second. nobody our_version frames (take 2 served_and_left) client (first, (second, tt)) (second, (second, tt)));
    }

at-all : HasTakenFirst our_version two_clients served_and_left
unfolding IsAway IsAbsent
at-all = record {
  earlier = served_and_left;
  later = [];
  parts = refl;
  each = for-all (HasTaken our_version two_clients served_and_left) first-breaks second-goes_on
      (λ client first second. nobody our_version two_clients served_and_left client (first, (second, (first, tt)))
      (second, (second, (first, tt))));
}

take-nil : (n : ℕ) → take n (let frames : List Frame = [] in frames) ≡ []
take-nil zero = refl
take-nil (suc n) = refl

at-count : (n : ℕ) → HasTakenFirst our_version (take n two_clients) served_and_left
at-count zero = at-none
at-count (suc zero) = at-one
at-count (suc (suc zero)) = at-two
at-count (suc (suc (suc n))) = rw (take-nil n) at-all

in-order : IsOrderOfArrival our_version two_clients served_and_left
in-order before behind is =
    subst (λ frames. HasTakenFirst our_version frames served_and_left)
    (ap (take (length before)) is ∙ take_at before behind (length before) refl) (at-count (length before))

-- ==== The replies.

looks : Allowed (started blank) (joint_request 2 stat_root) (joint_reply 2 root_reply) (started blank)
unfolding
    causes answers after told_to pins_of path_causes plain_causes no_causes when joined led outcome reached walk
    walk_parts meets is_good_path components parts get put without has_entries fits retain
looks = record { same_id = refl; step = inr (record { free = refl; answered = refl; changed = refl }) }

left-alone : left_by 1 (started blank) ≡ started blank
unfolding pins_of retain get
left-alone = refl

second-events : events_of 2 served_and_left ≡ stat_answered
unfolding moments_of of_client
second-events = refl

first-events : events_of 1 served_and_left ≡ []
unfolding moments_of of_client
first-events = refl

other-events : (client : ℕ) → (2 == client) ≡ false → events_of client served_and_left ≡ []
unfolding moments_of of_client
other-events client away = rw away refl

no-turns : Matching []
unfolding turn_after
no-turns id = refl

no-window : IsTrue (in_window [])
unfolding in_window
no-window = refl

matching : (client : ℕ) → Matching (events_of client served_and_left)
matching =
    for-all (λ client. Matching (events_of client served_and_left)) (subst Matching (sym first-events) no-turns)
    (subst Matching (sym second-events) looked.matching)
    (λ client first second. subst Matching (sym (other-events client second)) no-turns)

within : (client : ℕ) → IsTrue (in_window (events_of client served_and_left))
within =
    for-all (λ client. IsTrue (in_window (events_of client served_and_left)))
    (subst (λ events. IsTrue (in_window events)) (sym first-events) no-window)
    (subst (λ events. IsTrue (in_window events)) (sym second-events) looked.within_window)
    (λ client first second. subst (λ events. IsTrue (in_window events)) (sym (other-events client second)) no-window)

served : AreServedOn blank served_and_left blank
unfolding deeds_of moments_of of_client next_reply AreOver IsAbsent pins_of retain get
served = record {
  last = started blank;
  served = record { matching = matching; within_window = within; over = (tt, tt); run = (started blank, looks, refl) };
  end_is = refl;
}

-- ==== The whole.

fits-by : (client : ℕ) (bytes : List ℕ) → client < 2 ^ 32 → length bytes ≤ 65536 → IsFrame (client, bytes)
fits-by client bytes number few = record { client = number; few = few }

false-true : (let b : Bool = false in b) ≡ true → ⊥
false-true is = absurd cc

pub all : AreServedAll (usual blank) two_clients (frames_text two_answers) blank
unfolding
    IsAway IsAbsent AreInTime stream_of is_ended sent_by spelling hex moments_of of_client has_left first-breaks
    second-goes_on
all = record {
  written = two_answers;
  happenings = served_and_left;
  written_fit = (fits-by 1 _ (lit< tt) (lit≤ tt), (fits-by 2 _ (lit< tt) (lit≤ tt), (fits-by 2 _ (lit< tt) (lit≤ tt), (fits-by 1 _ (lit< tt) (lit≤ tt), tt))));
  written_in_time = (λ e. absurd (false-true e), (λ e. absurd (false-true e), (λ e. absurd (false-true e), (λ e. tt, tt))));
  output_is = refl;
  each = for-all (HasWritten our_version two_clients two_answers served_and_left)
      (record { taken = first-breaks; sent = refl; ended = refl })
      (record { taken = second-goes_on; sent = refl; ended = refl })
      (λ client first second. nobody-written our_version two_clients two_answers served_and_left client
      (first, (second, (first, tt))) (first, (second, (second, (first, tt)))) (second, (second, (first, tt))));
  in_order = in-order;
  served = served;
}

pub frames-fit : AllByRecursion IsFrame two_clients
unfolding hex
frames-fit = (fits-by 1 _ (lit< tt) (lit≤ tt), (fits-by 2 _ (lit< tt) (lit≤ tt), (fits-by 1 _ (lit< tt) (lit≤ tt), tt)))
