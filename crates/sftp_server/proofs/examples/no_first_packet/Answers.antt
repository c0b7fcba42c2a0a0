use Rattle.sftp_server.proofs.Imports.{refl, inl, hex, front_of}
use Rattle.sftp_server.proofs.examples.no_first_packet.Goals as goal

pub returns-clause-empty : goal.returns-clause-empty
unfolding front_of
returns-clause-empty c = λ start.
    inl (record { by = inl (tt, refl); nothing_written = refl; nothing_logged = refl; end_is = refl })

pub returns-clause-cut : goal.returns-clause-cut
unfolding front_of hex
returns-clause-cut c = λ start.
    inl (record { by = inl (tt, refl); nothing_written = refl; nothing_logged = refl; end_is = refl })
