use Rattle.sftp_handles.proofs.Imports.{◌∙◌, sym, ap, subst, arith, is_some, open_at, handles_in, AreBytes}
use Rattle.sftp_strings.proofs.Bytes.{AreBytes-from_places}
use Rattle.sftp_handles.proofs.HandleTables.{open-found, not-open}
use Rattle.sftp_handles.proofs.given_table.reserve_name.Goals as goal

pub returns-then-contains_key-clause-taken : goal.returns-then-contains_key-clause-taken
returns-then-contains_key-clause-taken c e =
    ap is_some (open-found (λ k. k.items) c.args.want.now c.args.opens.now.entries)
    ∙ (sym c.contains_key.ensures ∙ c.if-contains_key.true)

pub returns-then-is_err-clause-refused : goal.returns-then-is_err-clause-refused
returns-then-is_err-clause-refused c e =
    not-open (λ k. k.items) c.args.want.now c.args.opens.now.entries c.contains_key.result
    c.contains_key.ensures c.if-contains_key.false

pub returns-in-Err-clause-refused : goal.returns-in-Err-clause-refused
returns-in-Err-clause-refused c e =
    not-open (λ k. k.items) c.args.want.now c.args.opens.now.entries c.contains_key.result
    c.contains_key.ensures c.if-contains_key.false

pub returns-in-Ok-clause-closed : goal.returns-in-Ok-clause-closed
returns-in-Ok-clause-closed c =
    ap (open_at (handles_in (λ k. k.items) c.args.opens.now.entries)) c.in-Ok.ensures.items
    ∙ not-open (λ k. k.items) c.args.want.now c.args.opens.now.entries c.contains_key.result
    c.contains_key.ensures c.if-contains_key.false

pub returns-in-Ok-clause-bytes : goal.returns-in-Ok-clause-bytes
returns-in-Ok-clause-bytes c =
    subst AreBytes (sym c.in-Ok.ensures.items)
    (AreBytes-from_places c.args.want.now (λ i. omega (arith, c.type_inv.want i)))
