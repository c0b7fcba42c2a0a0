-- The request is not complete, and nothing but the INIT is in front of it.
use Rattle.sftp_server.proofs.Imports.{◌≡◌, ℕ, [], Some, None, Ok, length, refl, sym, ap, ◌∙◌, inl, inr, arith, Packet}
use Rattle.sftp_server.proofs.Imports.{Init, Client, hex, spelling, front_of, Tree, handshake_bytes, sent_by}
use Rattle.sftp_packets.specs.Reading.{uint32_at, pairs_at, pair_at, string_at}
use Rattle.sftp_packets.specs.Packets.{client_packet_at, packet_of}
use Rattle.sftp_server.specs.Examples.{mkdir_beginning, EndsAfterVersion}
use Rattle.sftp_server.specs.declared.ends.Ended.TheVariants as ends
use Rattle.sftp_server.specs.declared.ends.SessionFault.TheVariants as faults
use Rattle.sftp_server.proofs.Worked.{opened, unchanged, only_opens, version_written, place_is}
use Rattle.sftp_server.proofs.examples.cut_in_a_request.Goals as goal

read : front_of Client mkdir_beginning ≡ Ok None
unfolding hex front_of packet_of client_packet_at uint32_at pairs_at pair_at string_at
read = refl

size : length mkdir_beginning ≡ 10
unfolding hex
size = refl

some : mkdir_beginning ≡ [] → ⊥
some none = absurd (omega (arith, size, ap length none))

pub returns-clause-served : goal.returns-clause-served
unfolding sent_by spelling
returns-clause-served c = inr (record {
  init = Init 3 [];
  events = [];
  rest = mkdir_beginning;
  opened = opened mkdir_beginning;
  served = unchanged;
  broken = (tt, some, read, refl);
})

none : (packet : Packet) (count : ℕ) → front_of Client mkdir_beginning ≡ Ok (Some (packet, count)) → ⊥
none packet count is = absurd (let other : Ok None ≡ Ok (Some (packet, count)) = sym read ∙ is in cc)

only : (end : Tree) (place : ℕ) → EndsAfterVersion mkdir_beginning (Unit {0}) (ends.Fault end (faults.Cut place))
    → place ≡ 9
only end place (inl unopened) = absurd (version_written unopened.nothing_written)
only end place (inr faulty) =
    let opens = only_opens mkdir_beginning handshake_bytes faulty.rest faulty.init faulty.events none faulty.opened in
    faulty.broken.3 ∙ place_is faulty.init faulty.events opens.init_is opens.no_events

pub returns-clause-only : goal.returns-clause-only
returns-clause-only c = λ end place served. only end place served

pub returns-clause-not_finished : goal.returns-clause-not_finished
returns-clause-not_finished c = λ end served. absurd (some (sym
    (only_opens mkdir_beginning handshake_bytes [] served.init served.events none served.opened).rest_is))
