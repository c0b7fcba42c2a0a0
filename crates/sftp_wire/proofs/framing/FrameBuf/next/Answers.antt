use Rattle.std.proofs.Common.{ap, sym, ◌∙◌, Ok}
use Rattle.sftp_wire.specs.Fronts.{Frames}
use Rattle.sftp_wire.specs.Fronts.{front_of}
use Rattle.sftp_wire.proofs.StreamLaws.{room-left}
use Rattle.sftp_wire.proofs.framing.FrameBuf.next.Goals as goal

pub returns-in-Ok-None-clause-room : goal.returns-in-Ok-None-clause-room
returns-in-Ok-None-clause-room c =
    room-left c.args.side c.args.self.now (ap (λ (s : Frames). s.fault) (sym c.self.view_is) ∙ c.in_default.is)
    (ap (front_of c.args.side) (sym c.held.ensures) ∙ c.in-Ok-None.ensures.exact ∙ ap Ok c.in-Ok-None.field-0-is)
