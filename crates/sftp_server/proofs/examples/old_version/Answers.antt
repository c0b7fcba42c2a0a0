use Rattle.sftp_server.proofs.Imports.{◌≡◌, ◌≤◌, [], Some, Ok, codes, refl, sym, subst, inl, inr, arith, hex, front_of}
use Rattle.sftp_server.proofs.Imports.{Init, Client, IsNoGreeting}
use Rattle.sftp_packets.specs.Reading.{uint32_at, pairs_at, pair_at, string_at}
use Rattle.sftp_packets.specs.Packets.{client_packet_at, packet_of}
use Rattle.sftp_server.proofs.examples.old_version.Goals as goal

too-old : 3 ≤ 2 → ⊥
too-old is = absurd (omega arith)

read : front_of Client (hex (codes "00000005 01 00000002")) ≡ Ok (Some (Init 2 [], 9))
unfolding hex front_of packet_of client_packet_at uint32_at pairs_at pair_at string_at
read = refl

pub returns : goal.returns
returns c = λ start. inl (record {
  by = inr (subst IsNoGreeting (sym read) too-old);
  nothing_written = refl;
  nothing_logged = refl;
  end_is = refl;
})
