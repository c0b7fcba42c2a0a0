use Rattle.sftp_handles.proofs.Imports.{ap, ◌∙◌, share, touched}
use Rattle.sftp_handles.proofs.ClashLaws.{share-everything, clash-from}
use Rattle.sftp_handles.proofs.ClashLaws.{barrier-touches, other-touches}
use Rattle.sftp_handles.proofs.order_laws.barriers_touch_everything.Goals as goal

pub returns-clause-touched : goal.returns-clause-touched
returns-clause-touched c = barrier-touches

pub returns-clause-others : goal.returns-clause-others
returns-clause-others c = other-touches

pub returns-clause-first : goal.returns-clause-first
returns-clause-first c s request other is =
    clash-from s request other (ap (λ at. share at (touched s other.ask)) (barrier-touches s request.ask is))

pub returns-clause-second : goal.returns-clause-second
returns-clause-second c s request other is =
    clash-from s request other
    (ap (share (touched s request.ask)) (barrier-touches s other.ask is) ∙ share-everything (touched s request.ask))
