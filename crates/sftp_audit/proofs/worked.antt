use Rattle.sftp_audit.proofs.Imports.{turn_after, in_window, requests_before_reply, leading_pairs, exchanges_of}
use Rattle.sftp_audit.proofs.Imports.{next_reply, step, hex, exchanges_from, next_recorded, unsettled, ◌≡◌, ◌≢◌, ◌==◌}
use Rattle.sftp_audit.proofs.Imports.{◌||◌, ◌⊎◌, ℕ, Bool, true, false, List, [], ◌∷◌, Some, None, IsTrue, refl, subst}
use Rattle.sftp_audit.proofs.Imports.{inl, inr, list_any, AllByRecursion, Tree, Allowed, Event, closed, Explained}
use Rattle.sftp_audit.proofs.Imports.{Turn, waiting, broken, InTurn, Sound, started, eqb-true, Unexplained, sym, ◌∙◌}
use Rattle.sftp_audit.proofs.Imports.{picture, blank, codes, raised, nat_lt, ◌^◌, ◌<◌, ◌≤◌, ◌++◌, length, lit<, lit≤}
use Rattle.sftp_audit.proofs.Imports.{list_all, flat_map, and_parts, append-nil, no_attributes, ltb-true}
use Rattle.sftp_path.specs.Table.{get, put, retain, without}
use Rattle.sftp_tree.specs.Tree.{fits, has_entries}
use Rattle.sftp_handles.specs.RequestRows.{limits_data}
use Rattle.sftp_handles.specs.Allowed.{causes, answers, after, told_to}
use Rattle.sftp_handles.specs.State.{pins_of}
use Rattle.sftp_tree.specs.Requests.{causes as path_causes, plain_causes, led, outcome}
use Rattle.sftp_tree.specs.PlaceCauses.{no_causes, when, joined}
use Rattle.sftp_tree.specs.Walk.{reached, walk, walk_parts, meets}
use Rattle.sftp_path.specs.Place.{is_good_path, components, parts}
use Rattle.sftp_handles.specs.State.{seen}
use Rattle.sftp_transcript.proofs.pairing.{ids_of, turn_after-others, Matching-from_ids}
use Rattle.sftp_audit.proofs.steps.{run_end, run-of_run_end, no_run-of_run_end}
use Rattle.sftp_treefile.specs.TreeFile.{are_own, are_far, spelled, spelled_after}
use Rattle.sftp_audit.specs.Examples.{with_a, with_a_and_b, with_a_and_b_bytes, backward_replies, one_unanswered}
use Rattle.sftp_audit.specs.Examples.{one_answered_twice, same_directory_twice, data_for_mkdir, opendir_of_nothing}
use Rattle.sftp_audit.specs.Examples.{with_link, link_session, above_the_root, with_five_letters, read_in_parts}
use Rattle.sftp_audit.specs.Examples.{limits_session, usual_limits_told, highest_limits_told, backward_replies_bytes}
use Rattle.sftp_audit.specs.Examples.{removal_done_bytes, limits_bytes}
use Rattle.sftp_transcript.specs.Examples.{of_link, with_no_permissions, mkdir, rmdir, status, handshake_bytes}
use Rattle.sftp_transcript.specs.Transcript.{IsEvent, IsRecord, event_record, transcript_opening, packet_of}
use Rattle.sftp_packets.specs.declared.packets.Packet.TheVariants.{Init, Version}
use Rattle.sftp_packets.specs.Spelling.{packet_limit, AreBytes, FitsString, FitsAttrs}
use Rattle.sftp_packets.specs.Requests.{server_extensions}
use Rattle.sftp_packets.specs.Packets.{spelling, HasSpelling}
use Rattle.sftp_packets.proofs.PacketLaws.{version_spelled}
pub mod Refused

-- ==== What unfolds where a session is computed: its turns, its window, what is kept of it, and its run from a tree.

unfoldable pub computed : Unit {0}
unfolding
    turn_after in_window requests_before_reply leading_pairs exchanges_of next_reply exchanges_from next_recorded
    unsettled step causes answers after told_to pins_of path_causes plain_causes no_causes when joined led outcome
    reached walk walk_parts meets is_good_path components parts get put fits retain seen without limits_data hex
    has_entries
computed = tt

-- ==== Sessions by what is computed of them: turns, window, and where the run ends.

pub explained_by : (start : Tree) (events : List Event) (end : Tree)
    → AllByRecursion (λ id. turn_after id closed events ≡ closed) (ids_of events) → IsTrue (in_window events)
    → run_end (started start) (leading_pairs (exchanges_of events)) ≡ Some (started end)
    → Explained Allowed (started start) events (started end)
explained_by start events end turns window ends = record {
  matching = Matching-from_ids events turns;
  within_window = window;
  run = run-of_run_end (started start) (leading_pairs (exchanges_of events)) (started end) ends;
}

pub unexplained_by : (start : Tree) (events : List Event)
    → run_end (started start) (leading_pairs (exchanges_of events)) ≡ None → Unexplained start events
unexplained_by start events stops end e =
    no_run-of_run_end (started start) (leading_pairs (exchanges_of events)) stops end e.run

-- ---- sessions that go on

-- a request may come, or a reply has to come
abbrev pub IsKept : Turn → Type 0
IsKept turn = (turn ≡ closed) ⊎ (turn ≡ waiting)

not_broken : (turn : Turn) → IsKept turn → turn ≢ broken
not_broken turn (inl shut) e = cc
not_broken turn (inr waits) e = cc

kept_of : (events : List Event) (id : ℕ) (ids : List ℕ) → AllByRecursion (λ i. IsKept (turn_after i closed events)) ids
    → list_any (λ i. i == id) ids ≡ true → IsKept (turn_after id closed events)
kept_of events id [] all occurs = absurd cc
kept_of events id (i ∷ ids) all occurs = by (kept_of events id ids all.1) (i == id) refl
  where
    by : (list_any (λ j. j == id) ids ≡ true → IsKept (turn_after id closed events)) → (b : Bool) → (i == id) ≡ b
        → IsKept (turn_after id closed events)
    by others true is = subst (λ (j : ℕ). IsKept (turn_after j closed events)) (eqb-true i id is) all.0
    by others false is = others (let e : (false || list_any (λ j. j == id) ids) ≡ true = rw is at occurs in e)

-- where the turns of the ids that occur are kept, those of all are
in_turn_by : (events : List Event) → AllByRecursion (λ id. IsKept (turn_after id closed events)) (ids_of events)
    → InTurn events
in_turn_by events all id = by (list_any (λ i. i == id) (ids_of events)) refl
  where
    by : (b : Bool) → list_any (λ i. i == id) (ids_of events) ≡ b → turn_after id closed events ≢ broken
    by true occurs = not_broken (turn_after id closed events) (kept_of events id (ids_of events) all occurs)
    by false others = not_broken (turn_after id closed events) (inl (turn_after-others id closed events others))

pub sound_by : (start : Tree) (events : List Event) (end : Tree)
    → AllByRecursion (λ id. IsKept (turn_after id closed events)) (ids_of events) → IsTrue (in_window events)
    → run_end (started start) (leading_pairs (exchanges_of events)) ≡ Some (started end)
    → Sound Allowed (started start) events (started end)
sound_by start events end turns window ends = record {
  in_turn = in_turn_by events turns;
  within_window = window;
  run = run-of_run_end (started start) (leading_pairs (exchanges_of events)) (started end) ends;
}

-- ==== Worked examples: sessions on the blank tree that are explained, and sessions that are not.

-- ---- no events

pub nothing_asked : Explained Allowed (started blank) [] (started blank)
unfolding computed
nothing_asked = record { matching = λ id. refl; within_window = refl; run = refl }

-- ---- the replies come backwards

pub backwards : Explained Allowed (started blank) (backward_replies 4) (started with_a_and_b)
unfolding computed
backwards =
    explained_by blank (backward_replies 4) with_a_and_b (refl, (refl, (refl, (refl, (refl, (refl, tt)))))) refl refl

pub backwards_picture : picture with_a_and_b ≡ with_a_and_b_bytes
unfolding picture spelled spelled_after are_own are_far get hex
backwards_picture = refl

-- the removal would have to succeed after what came before it in the order asked
pub removed : Unexplained blank (backward_replies 0)
unfolding computed
removed = unexplained_by blank (backward_replies 0) refl

-- in the order in which the replies came the removal would be of what is absent
pub in_order_of_arrival : Unexplained blank (backward_replies 2)
unfolding computed
in_order_of_arrival = unexplained_by blank (backward_replies 2) refl

-- ---- turns that do not close

waiting_open : waiting ≡ closed → ⊥
waiting_open e = cc

broken_open : broken ≡ closed → ⊥
broken_open e = cc

turn_waits : turn_after 2 closed one_unanswered ≡ waiting
unfolding turn_after
turn_waits = refl

pub unanswered : Unexplained blank one_unanswered
unanswered end e = waiting_open (sym turn_waits ∙ e.matching 2)

first_breaks : turn_after 1 closed one_answered_twice ≡ broken
unfolding turn_after
first_breaks = refl

pub answered_twice : Unexplained blank one_answered_twice
answered_twice end e = broken_open (sym first_breaks ∙ e.matching 1)

-- ---- one place in two spellings

pub taken : Explained Allowed (started blank) (same_directory_twice 4) (started with_a)
unfolding computed
taken = explained_by blank (same_directory_twice 4) with_a (refl, (refl, (refl, (refl, tt)))) refl refl

pub not_absent : Unexplained blank (same_directory_twice 2)
unfolding computed
not_absent = unexplained_by blank (same_directory_twice 2) refl

-- ---- packets of other kinds

pub other_reply : Unexplained blank data_for_mkdir
unfolding computed
other_reply = unexplained_by blank data_for_mkdir refl

pub not_there : Explained Allowed (started blank) opendir_of_nothing (started blank)
unfolding computed
not_there = explained_by blank opendir_of_nothing blank (refl, (refl, tt)) refl refl

-- ==== Worked examples with links: sessions on the blank tree that are explained, and sessions that are not.

pub made : Explained Allowed (started blank) (link_session (codes "x y" ∷ []) (of_link 3)) (started with_link)
unfolding computed
made =
    explained_by blank (link_session (codes "x y" ∷ []) (of_link 3)) with_link
    (refl, (refl, (refl, (refl, (refl, (refl, (refl, (refl, tt)))))))) refl refl

pub other_size : Unexplained blank (link_session (codes "x y" ∷ []) (of_link 4))
unfolding computed
other_size = unexplained_by blank (link_session (codes "x y" ∷ []) (of_link 4)) refl

pub no_permissions : Unexplained blank (link_session (codes "x y" ∷ []) (with_no_permissions 3))
unfolding computed
no_permissions = unexplained_by blank (link_session (codes "x y" ∷ []) (with_no_permissions 3)) refl

pub other_text : Unexplained blank (link_session (codes "x" ∷ []) (of_link 3))
unfolding computed
other_text = unexplained_by blank (link_session (codes "x" ∷ []) (of_link 3)) refl

pub two_names : Unexplained blank (link_session (codes "x y" ∷ codes "x y" ∷ []) (of_link 3))
unfolding computed
two_names = unexplained_by blank (link_session (codes "x y" ∷ codes "x y" ∷ []) (of_link 3)) refl

pub above : Explained Allowed (started blank) above_the_root (started blank)
unfolding computed
above = explained_by blank above_the_root blank (refl, (refl, tt)) refl refl

-- ==== Worked examples through handles: a session that reads a file in parts.

pub in_parts : Explained Allowed (started with_five_letters) (read_in_parts (codes "abc")) (started with_five_letters)
unfolding computed
in_parts =
    explained_by with_five_letters (read_in_parts (codes "abc")) with_five_letters
    (refl, (refl, (refl, (refl, (refl, (refl, (refl, (refl, (refl, (refl, tt)))))))))) refl refl

pub other_byte : Unexplained with_five_letters (read_in_parts (codes "abd"))
unfolding computed
other_byte = unexplained_by with_five_letters (read_in_parts (codes "abd")) refl

-- ==== Worked examples: a session that asks for the limits of the tree.

pub usual : Explained Allowed (started blank) (limits_session usual_limits_told) (started blank)
unfolding computed
usual = explained_by blank (limits_session usual_limits_told) blank (refl, (refl, tt)) refl refl

pub highest : Explained Allowed (started (raised blank)) (limits_session highest_limits_told) (started (raised blank))
unfolding computed
highest = explained_by (raised blank) (limits_session highest_limits_told) (raised blank) (refl, (refl, tt)) refl refl

pub too_high : Unexplained blank (limits_session highest_limits_told)
unfolding computed
too_high = unexplained_by blank (limits_session highest_limits_told) refl

pub too_low : Unexplained (raised blank) (limits_session usual_limits_told)
unfolding computed
too_low = unexplained_by (raised blank) (limits_session usual_limits_told) refl

-- ==== A worked example: the bytes of a transcript file record its events.

bytes_by : (bytes : List ℕ) → IsTrue (list_all (λ b. nat_lt b 256) bytes) → AreBytes bytes
bytes_by [] is = tt
bytes_by (b ∷ bytes) is =
    let parts = and_parts (nat_lt b 256) (list_all (λ x. nat_lt x 256) bytes) is in
    (ltb-true b 256 parts.0, bytes_by bytes parts.1)

string_by : (bytes : List ℕ) → IsTrue (list_all (λ b. nat_lt b 256) bytes) → length bytes < 2 ^ 32 → FitsString bytes
string_by bytes is short = record { bytes_fit = bytes_by bytes is; length_fits = short }

nothing_fits : FitsAttrs no_attributes
nothing_fits = record { size = tt; owner = tt; permissions = tt; times = tt; extended = tt }

mkdir_spelled : (id : ℕ) (path : List ℕ) → id < 2 ^ 32 → FitsString path
    → length (spelling (packet_of (mkdir id path))) ≤ packet_limit → IsEvent (mkdir id path)
mkdir_spelled id path small fits whole =
    record { fields = (small, (fits, nothing_fits)); whole = whole; handle = tt; canonical = refl }

rmdir_spelled : (id : ℕ) (path : List ℕ) → id < 2 ^ 32 → FitsString path
    → length (spelling (packet_of (rmdir id path))) ≤ packet_limit → IsEvent (rmdir id path)
rmdir_spelled id path small fits whole =
    record { fields = (small, fits); whole = whole; handle = tt; canonical = refl }

empty : FitsString []
empty = record { bytes_fit = tt; length_fits = lit< tt }

status_spelled : (id code : ℕ) → id < 2 ^ 32 → code < 2 ^ 32 → length (spelling (packet_of (status id code))) ≤ packet_limit
    → IsEvent (status id code)
status_spelled id code small code_small whole =
    record { fields = (small, (code_small, (empty, empty))); whole = whole; handle = tt; canonical = refl }

init_spelled : HasSpelling (Init 3 [])
unfolding spelling
init_spelled = record { fields = (lit< tt, tt); whole = lit≤ tt; handle = tt; canonical = refl }

backward_spelled : (code : ℕ) → IsEvent (status 3 code) → AllByRecursion IsEvent (backward_replies code)
unfolding spelling
backward_spelled code refused = (
  mkdir_spelled 1 (codes "/a") (lit< tt) (string_by (codes "/a") refl (lit< tt)) (lit≤ tt),
  (
    mkdir_spelled 2 (codes "/a/b") (lit< tt) (string_by (codes "/a/b") refl (lit< tt)) (lit≤ tt),
    (
      rmdir_spelled 3 (codes "/a") (lit< tt) (string_by (codes "/a") refl (lit< tt)) (lit≤ tt),
      (
        refused,
        (
          status_spelled 2 0 (lit< tt) (lit< tt) (lit≤ tt),
          (status_spelled 1 0 (lit< tt) (lit< tt) (lit≤ tt), tt),
        ),
      ),
    ),
  ),
)

refusal_spelled : IsEvent (status 3 4)
unfolding spelling
refusal_spelled = status_spelled 3 4 (lit< tt) (lit< tt) (lit≤ tt)

success_spelled : IsEvent (status 3 0)
unfolding spelling
success_spelled = status_spelled 3 0 (lit< tt) (lit< tt) (lit≤ tt)

-- ---- the bytes

-- the bytes after the opening
abbrev opened_with : List ℕ → List ℕ
opened_with records = (67 ∷ spelling (Init 3 [])) ++ ((83 ∷ spelling (Version 3 server_extensions)) ++ records)

-- the events of this handshake
recorded_by : (events : List Event) (bytes : List ℕ) → AllByRecursion IsEvent events
    → bytes ≡ transcript_opening ++ opened_with (flat_map event_record events) → IsRecord events bytes
recorded_by events bytes spelled are = record {
  opened = opened_with (flat_map event_record events);
  records = flat_map event_record events;
  opening = are;
  handshake = record {
    version = 3;
    asked = [];
    told = server_extensions;
    high_enough = lit≤ tt;
    init = init_spelled;
    answer = version_spelled;
    bytes_are = refl;
  };
  spelled = spelled;
  records_are = sym (append-nil (flat_map event_record events));
}

handshake_is : handshake_bytes ≡ transcript_opening ++ opened_with []
unfolding spelling hex
handshake_is = refl

pub handshake_recorded : IsRecord [] handshake_bytes
handshake_recorded = recorded_by [] handshake_bytes tt handshake_is

backwards_are : backward_replies_bytes ≡ transcript_opening ++ opened_with (flat_map event_record (backward_replies 4))
unfolding spelling hex
backwards_are = refl

pub backwards_recorded : IsRecord (backward_replies 4) backward_replies_bytes
backwards_recorded =
    recorded_by (backward_replies 4) backward_replies_bytes (backward_spelled 4 refusal_spelled) backwards_are

removal_done_is : removal_done_bytes ≡ transcript_opening ++ opened_with (flat_map event_record (backward_replies 0))
unfolding spelling hex
removal_done_is = refl

pub removal_done_recorded : IsRecord (backward_replies 0) removal_done_bytes
removal_done_recorded =
    recorded_by (backward_replies 0) removal_done_bytes (backward_spelled 0 success_spelled) removal_done_is

limits_spelled : AllByRecursion IsEvent (limits_session usual_limits_told)
unfolding spelling hex
limits_spelled = (
  record { fields = (lit< tt, tt); whole = lit≤ tt; handle = tt; canonical = refl },
  (record { fields = (lit< tt, bytes_by usual_limits_told refl); whole = lit≤ tt; handle = tt; canonical = refl }, tt),
)

limits_are : limits_bytes ≡ transcript_opening ++ opened_with (flat_map event_record (limits_session usual_limits_told))
unfolding spelling hex
limits_are = refl

pub limits_recorded : IsRecord (limits_session usual_limits_told) limits_bytes
limits_recorded = recorded_by (limits_session usual_limits_told) limits_bytes limits_spelled limits_are
