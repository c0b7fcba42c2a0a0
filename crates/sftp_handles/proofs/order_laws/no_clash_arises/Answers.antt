use Rattle.sftp_handles.proofs.Imports.{◌∙◌}
use Rattle.sftp_handles.proofs.ClashLaws.{clash-none, clash-after}
use Rattle.sftp_handles.proofs.order_laws.no_clash_arises.Goals as goal

pub returns : goal.returns
returns c s end request earlier later reply good fit apart free allowed =
    clash-after s end request later reply earlier later good fit (clash-none s request later apart).1 allowed ∙ free
