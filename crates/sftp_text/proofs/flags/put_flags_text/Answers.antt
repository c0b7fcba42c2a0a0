use Rattle.std.proofs.Common.{◌≡◌, ◌++◌, List, ℕ, OnOk, arith, subst}
use Rattle.sftp_text.proofs.ListLaws.{flags_text_parts}
use Rattle.sftp_text.proofs.flags.put_flags_text.Goals as goal

pub returns : goal.returns
returns c =
    let P : List ℕ → Type 0 =
    λ t. OnOk c.put_named_flags.result (c.put_named_flags.new.text.items ≡ c.args.text.now.items ++ t) in
    subst P (flags_text_parts c.args.n (omega arith) (omega arith)) c.put_named_flags.ensures
