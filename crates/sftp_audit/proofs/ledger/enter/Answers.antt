use Rattle.sftp_audit.proofs.Imports.{◌≡◌, ◌<◌, true, false, is_some, length, refl, sym, ap, ◌∙◌, arith, window}
use Rattle.sftp_audit.proofs.auditing.Places.{in_use, indexed-asked}
use Rattle.sftp_audit.proofs.ledger.enter.Goals as goal

pub returns-then-contains_key-clause-refused : goal.returns-then-contains_key-clause-refused
returns-then-contains_key-clause-refused c = (
  refl,
  in_use _ _ c.args.first c.args.request.now.id true c.requires (sym c.contains_key.ensures ∙ c.if-contains_key.true),
)

pub returns-else-contains_key-clause-refused : goal.returns-else-contains_key-clause-refused
returns-else-contains_key-clause-refused c = (
  refl,
  in_use _ _ c.args.first c.args.request.now.id false c.requires (sym c.contains_key.ensures ∙ c.if-contains_key.false),
  omega (arith, c.if-len-ge-WINDOW.true, c.args.exchanges.now.ok.0),
)

pub returns-in-None-clause-apart : goal.returns-in-None-clause-apart
returns-in-None-clause-apart c =
    in_use _ _ c.args.first c.args.request.now.id false c.requires
    (ap is_some (sym c.in_ok-insert.ensures.old ∙ c.in-None.is))

pub returns-in-None-clause-entered : goal.returns-in-None-clause-entered
returns-in-None-clause-entered c =
    let items = c.args.exchanges.now.items in
    let few : length items < window = omega (arith, c.if-len-ge-WINDOW.false, c.args.exchanges.now.ok.0) in
    let free = in_use _ _ c.args.first c.args.request.now.id false c.requires
    (ap is_some (sym c.in_ok-insert.ensures.old ∙ c.in-None.is)) in
    let size : c.len-2.result ≡ length items =
    omega (arith, c.len-2.ensures, c.reserve.ensures.len, c.args.exchanges.now.ok.0) in
    indexed-asked items c.args.unanswered.now.entries c.insert.new.self.entries c.args.first c.args.request.now
    c.args.number c.requires few free (λ id. rw (← size) (c.in_ok-insert.ensures.updates.0 id))

pub returns-in-Some-clause-refused : goal.returns-in-Some-clause-refused
returns-in-Some-clause-refused c = (
  refl,
  in_use _ _ c.args.first c.args.request.now.id true c.requires
      (ap is_some (sym c.in_ok-insert.ensures.old ∙ c.in-Some.is)),
)
