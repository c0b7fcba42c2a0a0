use Rattle.std.proofs.Common.{◌∙◌}
use Rattle.sftp_packets.specs.Layouts.{shapes}
use Rattle.sftp_packets.proofs.LayoutLaws.{ask_name, answer_name}
use Rattle.sftp_packets.proofs.layouts.packet_name.Goals as goal

pub returns-in-Init : goal.returns-in-Init
unfolding shapes
returns-in-Init c = rw (c.in-Init.is) (rw c.layouts_of.ensures at c.name_of.ensures)

pub returns-in-Version : goal.returns-in-Version
unfolding shapes
returns-in-Version c = rw (c.in-Version.is) (rw c.layouts_of-in-Version.ensures at c.name_of-in-Version.ensures)

pub returns-in-Request : goal.returns-in-Request
returns-in-Request c =
    rw (c.in-Request.is)
    ((rw (c.asked_type.ensures, c.layouts_of-in-Request.ensures) at c.name_of-in-Request.ensures) ∙ ask_name c.in-Request.request.ask)

pub returns-in-Reply : goal.returns-in-Reply
returns-in-Reply c =
    rw (c.in-Reply.is)
    ((rw (c.answered_type.ensures, c.layouts_of-in-Reply.ensures) at c.name_of-in-Reply.ensures) ∙ answer_name c.in-Reply.reply.answer)
