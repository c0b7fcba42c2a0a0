use Rattle.std.proofs.Common.{◌≡◌, ◌++◌, ◌∙◌, [], ◌∷◌, Err, ap, subst}
use Rattle.sftp_packets.specs.Packets.{client_packet_at}
use Rattle.sftp_packets.specs.Reading.{Reads}
use Rattle.sftp_profile.specs.Replaced.{ask_in}
use Rattle.sftp_profile.proofs.Pieces.{setstat-read}
use Rattle.sftp_profile.proofs.data.setstat_in.Goals as goal

pub returns-in-Ok : goal.returns-in-Ok
returns-in-Ok c =
    let body_is : c.as_slice-left.result.now ≡ (0 ∷ 0 ∷ 0 ∷ 0 ∷ []) ++ c.args.rest.now =
    c.as_slice-left.ensures.value
    ∙ (c.in_ok-extend_from_slice.ensures.items ∙ ap (λ l. l ++ c.args.rest.now) c.in_ok-body.ensures.items) in
    c.ask_in.ensures
    ∙ (ap (ask_in c.in-Ok.packet) c.is_empty.ensures ∙ setstat-read c.args.rest.now _ _ body_is c.in-Ok.ensures)

pub returns-in-Err-Fault : goal.returns-in-Err-Fault
returns-in-Err-Fault c =
    let body_is : c.as_slice-left.result.now ≡ (0 ∷ 0 ∷ 0 ∷ 0 ∷ []) ++ c.args.rest.now =
    c.as_slice-left.ensures.value
    ∙ (c.in_ok-extend_from_slice.ensures.items ∙ ap (λ l. l ++ c.args.rest.now) c.in_ok-body.ensures.items) in
    let read : client_packet_at 9 c.as_slice-left.result.now ≡ Err c.in-Err-Fault.field-0-0 =
    subst (λ e. Reads (Err e) c.read_fields.new.body.now (client_packet_at 9 c.as_slice-left.result.now))
    c.in-Err-Fault.field-0-is c.in-Err-Fault.ensures in
    setstat-read c.args.rest.now _ _ body_is read
