-- The request cannot be read, and nothing but the INIT is in front of it.
use Rattle.sftp_server.proofs.Imports.{◌≡◌, ℕ, [], Some, Ok, Err, refl, sym, ap, ◌∙◌, inl, inr, Unreadable, Packet}
use Rattle.sftp_server.proofs.Imports.{Init, Client, hex, spelling, front_of, Tree, handshake_bytes, sent_by}
use Rattle.sftp_packets.specs.Reading.{uint32_at, pairs_at, pair_at, string_at}
use Rattle.sftp_packets.specs.Packets.{client_packet_at, packet_of}
use Rattle.sftp_server.specs.Examples.{remove_and_byte, EndsAfterVersion}
use Rattle.sftp_packets.specs.declared.errors.Fault.{Fault}
use Rattle.sftp_packets.specs.declared.errors.Fault.TheVariants.{Trailing, Short}
use Rattle.sftp_tree.specs.Picture.{blank}
use Rattle.sftp_server.specs.declared.ends.Ended.TheVariants as ends
use Rattle.sftp_server.specs.declared.ends.SessionFault.TheVariants as faults
use Rattle.sftp_server.proofs.Worked.{opened, unchanged, only_opens, version_written, place_is}
use Rattle.sftp_server.proofs.examples.byte_after_a_request.Goals as goal

read : front_of Client remove_and_byte ≡ Err Trailing
unfolding hex front_of packet_of client_packet_at uint32_at pairs_at pair_at string_at
read = refl

pub returns-clause-served : goal.returns-clause-served
unfolding sent_by spelling
returns-clause-served c = inr (record {
  init = Init 3 [];
  events = [];
  rest = remove_and_byte;
  opened = opened remove_and_byte;
  served = unchanged;
  broken = (read, refl);
})

none : (packet : Packet) (count : ℕ) → front_of Client remove_and_byte ≡ Ok (Some (packet, count)) → ⊥
none packet count is = absurd (let other : Err Trailing ≡ Ok (Some (packet, count)) = sym read ∙ is in cc)

only : (end : Tree) (fault : Fault) (place : ℕ)
    → EndsAfterVersion remove_and_byte ⊥ (ends.Fault end (faults.Wire (Unreadable fault place)))
    → (fault ≡ Trailing) × (place ≡ 9)
only end fault place (inl unopened) = absurd (version_written unopened.nothing_written)
only end fault place (inr faulty) =
    let opens = only_opens remove_and_byte handshake_bytes faulty.rest faulty.init faulty.events none faulty.opened in
    let found : Err fault ≡ Err Trailing =
    sym faulty.broken.0 ∙ (ap (front_of Client) opens.rest_is ∙ read) in (
      cc,
      faulty.broken.1 ∙ place_is faulty.init faulty.events opens.init_is opens.no_events,
    )

pub returns-clause-not_short : goal.returns-clause-not_short
returns-clause-not_short c = λ served. absurd (let same = (only blank Short 9 served).0 in cc)

pub returns-clause-only : goal.returns-clause-only
returns-clause-only c = λ end fault place served. only end fault place served
