use Rattle.sftp_handles.proofs.Imports.{sym, ◌∙◌}
use Rattle.sftp_handles.proofs.Good.{content-room, room-near}
use Rattle.sftp_handles.proofs.laws.room_is_of_the_content.Goals as goal

pub returns-clause-all : goal.returns-clause-all
returns-clause-all c t number next kept =
    let same = content-room t number next kept in
    (λ within. sym same ∙ within, λ room. same ∙ room)

pub returns-clause-narrow : goal.returns-clause-narrow
returns-clause-narrow c t number next kept near =
    let same = content-room t number next kept ∙ room-near t number next kept near in
    (λ within. sym same ∙ within, λ room. same ∙ room)
