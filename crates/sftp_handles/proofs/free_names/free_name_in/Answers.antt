use Rattle.sftp_handles.proofs.Imports.{◌∙◌, ap, is_open, handles_in}
use Rattle.sftp_handles.proofs.free_names.free_name_in.Goals as goal

pub returns-in-Ok-clause-free : goal.returns-in-Ok-clause-free
returns-in-Ok-clause-free c =
    ap (is_open (handles_in (λ k. k.items) c.args.opens.now.entries))
    (c.in-Ok.ensures.items ∙ (c.as_slice.ensures ∙ c.number_name-name.ensures))
    ∙ c.free_number.ensures
