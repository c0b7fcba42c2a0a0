-- Worked examples: a script, and sessions by what is computed of their bytes.
use Rattle.sftp_server.proofs.Imports.{ℕ, ◌<◌, ◌≤◌, ◌^◌, List, [], ◌∷◌, codes, length, refl, inr, lit<, lit≤}
use Rattle.sftp_server.proofs.Imports.{request_packet, reply_packet, Request, Reply, spelling, packet_limit}
use Rattle.sftp_server.proofs.Imports.{HasSpelling, FitsString, retain, get, Tree, State, pins_of, Allowed, clash}
use Rattle.sftp_server.proofs.Imports.{touched, range, range_clash, are_far, bytes-by, Explained, turn_after, in_window}
use Rattle.sftp_server.proofs.Imports.{requests_before_reply, exchanges_of, leading_pairs, next_reply, window, Entry}
use Rattle.sftp_server.proofs.Imports.{Progress, Pending, Done, Sent, Machine, at_start, AreActs, IsWorked, IsSent}
use Rattle.sftp_server.proofs.Imports.{is_unsent, is_free_of, from_unsent, server_clash, started, no_attributes, ◌≡◌}
use Rattle.sftp_server.proofs.Imports.{◌++◌, map, Some, Ok, sym, ap, ◌∙◌, arith, append_assoc, append-nil}
use Rattle.sftp_server.proofs.Imports.{AllByRecursion, length-append, Packet, Init, Client, Server, front_of}
use Rattle.sftp_server.specs.Served.{usual}
use Rattle.sftp_server.proofs.Imports.{place_after, hex, front_again, spellings-apart, length-spelling, Event, Asked}
use Rattle.sftp_server.proofs.Imports.{Replied, packet_of, IsEvent, handshake_bytes, settled, our_version}
use Rattle.sftp_server.proofs.Imports.{session_packets, sent_by, IsGreeting, IsOpened, IsServed, version_bytes}
use Rattle.sftp_tree.specs.Tree.{has_entries, fits}
use Rattle.sftp_path.specs.Table.{put, without}
use Rattle.sftp_tree.specs.Requests.{led, plain_causes, causes as path_causes, outcome}
use Rattle.sftp_handles.specs.Allowed.{causes, told_to, answers, after}
use Rattle.sftp_transcript.specs.Examples.{mkdir, rmdir, status}
use Rattle.sftp_server.specs.Examples.{made_and_removed, answered_backwards, root_attributes, stat_answered}
use Rattle.sftp_server.specs.Examples.{init_bytes}
use Rattle.sftp_packets.specs.declared.requests.Ask.TheVariants.{Mkdir, Rmdir, Stat}
use Rattle.sftp_packets.specs.declared.replies.Answer.TheVariants.{Status, Attrs as attributes}
use Rattle.sftp_path.specs.Place.{parts, components, is_good_path}
use Rattle.sftp_tree.specs.declared.nodes.Node.TheVariants.{Dir}
use Rattle.sftp_tree.specs.Walk.{meets, walk, walk_parts, reached}
use Rattle.sftp_tree.specs.PlaceCauses.{no_causes, when, joined}
use Rattle.sftp_tree.specs.Picture.{blank}
use Rattle.sftp_transcript.proofs.pairing.{Matching-from_ids}

-- ==== Worked examples: what requests are allowed on the blank tree, and a script of acts.

-- ---- requests and replies

abbrev pub make_a : Request
make_a = record { id = 1; ask = Mkdir (codes "/a") no_attributes }

abbrev pub remove_a : Request
remove_a = record { id = 2; ask = Rmdir (codes "/a") }

abbrev pub stat_root : Request
stat_root = record { id = 7; ask = Stat (codes "/") }

-- that a request succeeded
abbrev pub success : ℕ → Reply
success id = record { id = id; answer = Status 0 [] [] }

abbrev pub root_reply : Reply
root_reply = record { id = 7; answer = attributes root_attributes }

-- ---- they can be encoded

no_text : FitsString []
no_text = record { bytes_fit = tt; length_fits = lit< tt }

success_spelled : (id : ℕ) → id < 2 ^ 32 → length (spelling (reply_packet (success id))) ≤ packet_limit
    → HasSpelling (reply_packet (success id))
success_spelled id small whole = record {
  fields = (small, (lit< tt, (no_text, no_text)));
  whole = whole;
  handle = tt;
  canonical = refl;
}

pub first_spelled : HasSpelling (reply_packet (success 1))
unfolding spelling
first_spelled = success_spelled 1 (lit< tt) (lit≤ tt)

pub second_spelled : HasSpelling (reply_packet (success 2))
unfolding spelling
second_spelled = success_spelled 2 (lit< tt) (lit≤ tt)

pub stat_spelled : HasSpelling (request_packet stat_root)
unfolding spelling
stat_spelled = record {
  fields = (lit< tt, record { bytes_fit = bytes-by (codes "/") refl; length_fits = lit< tt });
  whole = lit≤ tt;
  handle = tt;
  canonical = refl;
}

pub root_spelled : HasSpelling (reply_packet root_reply)
unfolding spelling
root_spelled = record {
  fields = (
    lit< tt,
    record { size = lit< tt; owner = (lit< tt, lit< tt); permissions = lit< tt; times = tt; extended = tt },
  );
  whole = lit≤ tt;
  handle = tt;
  canonical = refl;
}

-- ---- what is allowed

-- the blank tree with the directory `/a`
abbrev with_a : Tree
with_a = record blank {
  names =
      ([], Dir (record { uid = 0; gid = 0; permissions = 0o755 }))
      ∷ (codes "a" ∷ [], Dir (record { uid = 0; gid = 0; permissions = 0o755 })) ∷ [];
}

makes : Allowed (started blank) make_a (success 1) (started with_a)
unfolding
    causes answers after told_to pins_of path_causes plain_causes no_causes when joined led outcome reached walk
    walk_parts meets is_good_path components parts get put without has_entries fits retain
makes = record { same_id = refl; step = inr (record { free = refl; answered = refl; changed = refl }) }

removes : Allowed (started with_a) remove_a (success 2) (started blank)
unfolding
    causes answers after told_to pins_of path_causes plain_causes no_causes when joined led outcome reached walk
    walk_parts meets is_good_path components parts get put without has_entries fits retain
removes = record { same_id = refl; step = inr (record { free = refl; answered = refl; changed = refl }) }

looks : Allowed (started blank) stat_root root_reply (started blank)
unfolding
    causes answers after told_to pins_of path_causes plain_causes no_causes when joined led outcome reached walk
    walk_parts meets is_good_path components parts get put without has_entries fits retain
looks = record { same_id = refl; step = inr (record { free = refl; answered = refl; changed = refl }) }

pub looked : Explained Allowed (started blank) stat_answered (started blank)
unfolding turn_after in_window requests_before_reply exchanges_of leading_pairs next_reply
looked = record {
  matching = Matching-from_ids stat_answered (refl, (refl, tt));
  within_window = refl;
  run = (started blank, looks, refl);
}

-- ---- the script

abbrev with_progress : Request → Progress → Entry
with_progress request progress = record { request = request; progress = progress }

abbrev machine : State → List Entry → Machine State
machine state queue = record { state = state; window = window; queue = queue }

abbrev both : Progress → Progress → List Entry
both first second = with_progress make_a first ∷ with_progress remove_a second ∷ []

-- the first request is done
first_works : IsWorked Allowed (machine (started blank) (both Pending Pending)) 0
    (machine (started with_a) (both (Done (success 1)) Pending))
first_works = record {
  front = [];
  request = make_a;
  back = with_progress remove_a Pending ∷ [];
  reply = success 1;
  queue_is = refl;
  position = refl;
  allowed = makes;
  spelled = first_spelled;
  same_window = refl;
  marked = refl;
}

second_works : IsWorked Allowed (machine (started with_a) (both (Done (success 1)) Pending)) 1
    (machine (started blank) (both (Done (success 1)) (Done (success 2))))
second_works = record {
  front = with_progress make_a (Done (success 1)) ∷ [];
  request = remove_a;
  back = [];
  reply = success 2;
  queue_is = refl;
  position = refl;
  allowed = removes;
  spelled = second_spelled;
  same_window = refl;
  marked = refl;
}

-- the second reply is sent, and its request stays after the first
second_sends : IsSent (machine (started blank) (both (Done (success 1)) (Done (success 2)))) 1 (success 2)
    (machine (started blank) (both (Done (success 1)) Sent))
unfolding from_unsent
second_sends = record {
  front = with_progress make_a (Done (success 1)) ∷ [];
  request = remove_a;
  back = [];
  queue_is = refl;
  position = refl;
  marked = refl;
}

-- both leave the queue
first_sends : IsSent (machine (started blank) (both (Done (success 1)) Sent)) 0 (success 1)
    (machine (started blank) [])
unfolding from_unsent
first_sends = record {
  front = [];
  request = make_a;
  back = with_progress remove_a Sent ∷ [];
  queue_is = refl;
  position = refl;
  marked = refl;
}

pub keeps_order : AreActs Allowed server_clash (at_start (started blank) window) made_and_removed answered_backwards
    (at_start (started blank) window)
unfolding is_unsent is_free_of range_clash clash touched range are_far
keeps_order =
    let asked_first = mkdir 1 (codes "/a") in
    let asked_second = rmdir 2 (codes "/a") in
    let sent_second = status 2 0 in
    let sent_first = status 1 0 in (
      machine (started blank) (with_progress make_a Pending ∷ []),
      asked_first ∷ [],
      asked_second ∷ sent_second ∷ sent_first ∷ [],
      (refl, refl),
      (
        machine (started blank) (both Pending Pending),
        asked_second ∷ [],
        sent_second ∷ sent_first ∷ [],
        (refl, refl),
        (
          machine (started blank) (both Pending Pending),
          [],
          sent_second ∷ sent_first ∷ [],
          record { unchanged = refl; silent = refl },
          (
            machine (started with_a) (both (Done (success 1)) Pending),
            [],
            sent_second ∷ sent_first ∷ [],
            (first_works, refl),
            (
              machine (started blank) (both (Done (success 1)) (Done (success 2))),
              [],
              sent_second ∷ sent_first ∷ [],
              (second_works, refl),
              (
                machine (started blank) (both (Done (success 1)) Sent),
                sent_second ∷ [],
                sent_first ∷ [],
                (second_sends, refl),
                (
                  machine (started blank) [],
                  sent_first ∷ [],
                  [],
                  (first_sends, refl),
                  record { unchanged = refl; silent = refl },
                  refl,
                ),
                refl,
              ),
              refl,
            ),
            refl,
          ),
          refl,
        ),
        refl,
      ),
      refl,
    )

-- ==== Sessions that are opened by an INIT of version 3: what makes one, and what their bytes say of them.

-- ---- what opens a session

pub greeting : IsGreeting (Init 3 [])
unfolding spelling
greeting = (lit≤ tt, record { fields = (lit< tt, tt); whole = lit≤ tt; handle = tt; canonical = refl })

-- after VERSION nothing is asked
pub opened : (rest : List ℕ)
    → IsOpened (usual blank) (init_bytes ++ rest) version_bytes handshake_bytes (Init 3 []) [] rest
unfolding sent_by spelling hex
opened rest = record { greeting = greeting; spelled = tt; read = refl; written = refl; logged = refl }

-- on the blank tree this ends as it began
pub unchanged : IsServed blank [] blank
unfolding turn_after in_window exchanges_of leading_pairs pins_of retain get
unchanged = record {
  last = settled blank [];
  explained = record { matching = λ id. refl; within_window = refl; run = refl };
  end_is = refl;
}

-- ---- what bytes say of a session

init_is : init_bytes ≡ spelling (Init 3 [])
unfolding spelling hex
init_is = refl

version_is : version_bytes ≡ spelling our_version
unfolding spelling hex
version_is = refl

-- a packet has some bytes
some_bytes : (packet : Packet) (more : List ℕ) → spelling packet ++ more ≡ [] → ⊥
some_bytes packet more none =
    absurd (omega (arith, ap length none, length-append (spelling packet) more, length-spelling packet))

-- The first packet is the INIT in front; what the server wrote is VERSION alone, so that it replied to nothing; and no
-- request is in front of what comes after, so that nothing was asked.
pub record OnlyOpens (more : List ℕ) (init : Packet) (events : List Event) (rest : List ℕ) : Type 0 where
  pub init_is : init ≡ Init 3 []
  pub no_events : events ≡ []
  pub rest_is : rest ≡ more

nothing_written : (written : List ℕ) → version_bytes ≡ spelling our_version ++ written → written ≡ []
nothing_written [] is = refl
nothing_written (byte ∷ written) is =
    absurd (omega (arith, ap length (sym version_is ∙ is), length-append (spelling our_version) (byte ∷ written)))

no_events : (more rest : List ℕ) (events : List Event) → AllByRecursion IsEvent events
    → ((packet : Packet) (count : ℕ) → front_of Client more ≡ Ok (Some (packet, count)) → ⊥)
    → more ≡ sent_by Client (map packet_of events) ++ rest → sent_by Server (map packet_of events) ≡ []
    → (events ≡ []) × (rest ≡ more)
unfolding sent_by
no_events more rest [] spelled none read written = (refl, sym read)
no_events more rest (Asked request ∷ events) spelled none read written =
    let packet = request_packet request in
    let behind = sent_by Client (map packet_of events) in
    absurd (none packet (length (spelling packet))
    (ap (front_of Client) (read ∙ append_assoc (spelling packet) behind rest)
    ∙ front_again packet (behind ++ rest) spelled.0))
no_events more rest (Replied reply ∷ events) spelled none read written =
    absurd (some_bytes (reply_packet reply) (sent_by Server (map packet_of events)) written)

pub only_opens : (more log rest : List ℕ) (init : Packet) (events : List Event)
    → ((packet : Packet) (count : ℕ) → front_of Client more ≡ Ok (Some (packet, count)) → ⊥)
    → IsOpened (usual blank) (init_bytes ++ more) version_bytes log init events rest → OnlyOpens more init events rest
unfolding sent_by
only_opens more log rest (Init version extensions) events none is =
    let init = Init version extensions in
    let behind = sent_by Client (map packet_of events) in
    let same : spelling (Init 3 []) ++ more ≡ spelling init ++ (behind ++ rest) =
    ap (λ (bytes : List ℕ). bytes ++ more) (sym init_is) ∙ (is.read ∙ append_assoc (spelling init) behind rest) in
    let apart = spellings-apart (Init 3 []) init more (behind ++ rest) greeting.1 is.greeting.1 refl same in
    let ended = no_events more rest events is.spelled none apart.1 (nothing_written (sent_by Server (map packet_of
    events)) is.written) in
    record { init_is = sym apart.0; no_events = ended.0; rest_is = ended.1 }
only_opens more log rest other events none is = absurd is.greeting.0

pub version_written : version_bytes ≡ [] → ⊥
version_written none =
    some_bytes our_version [] (append-nil (spelling our_version) ∙ sym version_is ∙ none)

-- the place after the INIT
pub place_is : (init : Packet) (events : List Event) → init ≡ Init 3 [] → events ≡ []
    → place_after 0 (length (sent_by Client (session_packets (usual blank) init events))) ≡ 9
unfolding sent_by spelling
place_is init events first none = rw (first, none) refl
