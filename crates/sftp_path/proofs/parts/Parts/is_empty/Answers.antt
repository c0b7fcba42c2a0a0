use Rattle.sftp_path.proofs.Imports.{◌==◌, length, ap, ◌∙◌}
use Rattle.sftp_path.specs.Place.{Split}
use Rattle.sftp_path.proofs.PathTexts.{components-none_left}
use Rattle.sftp_path.proofs.parts.Parts.is_empty.Goals as goal

pub returns : goal.returns
returns c = components-none_left c.self.inside.rest.now _ _ c.first_inner.ensures c.is_none.ensures
    ∙ ap (λ (s : Split). length s.left == 0) c.self.view_is
