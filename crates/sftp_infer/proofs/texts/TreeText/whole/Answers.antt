-- A part that is appended is no longer left.
use Rattle.sftp_infer.proofs.Reading.{whole_on, whole_end}
use Rattle.sftp_infer.proofs.texts.TreeText.whole.Goals as goal

pub parts-preserved : goal.parts-preserved
parts-preserved c = whole_on _ _ _ _ _ _ _ _ _ _ c.parts.invariant c.in-Some.ensures.cases.0 c.as_slice.ensures.value
    c.part_bytes-some.ensures c.in_ok-extend_from_slice.ensures.items

pub returns : goal.returns
returns c = whole_end _ _ _ _ _ c.parts.invariant c.in_default.ensures.cases
