use Rattle.std.proofs.Common.{◌≡◌, ◌<◌, ◌++◌, ◌∷◌, [], length, nat_eq, true, ap, ◌∙◌, arith}
use Rattle.indexmap.proofs.CallerLemmas.{insert_entry-new}
use Rattle.sftp_packets.specs.declared.requests.Ask.{Ask}
use Rattle.sftp_client.specs.Announced.{may_be_sent}
use Rattle.sftp_client.specs.Client.{open_limit}
use Rattle.sftp_client.proofs.Sessions.{sent_with_id}
use Rattle.sftp_client.proofs.pairing.Pairing.enter.Goals as goal

-- The request is entered with the first free id, after those that are open.
pub returns-clause-entered : goal.returns-clause-entered
returns-clause-entered c =
    let old = c.self.inside in
    let id = c.first_free-id.result in
    let few : length old.open_requests.entries < open_limit = grind arith in
    let may : may_be_sent c.in-Some.announced c.args.ask.now ≡ true = grind arith in
    let added : c.insert.new.self.entries ≡ old.open_requests.entries ++ (id, c.args.ask.now) ∷ [] =
    c.in_ok-insert.ensures.entries
    ∙ (insert_entry-new nat_eq old.open_requests id c.in_ok-clone.field-0 c.first_free-id.ensures.free
    ∙ ap (λ (ask : Ask). old.open_requests.entries ++ (id, ask) ∷ []) c.in_ok-clone.ensures.cases.0) in
    rw (← c.self.view_is, c.in-Some.is)
    (sent_with_id c.in-Some.announced old.next id old.open_requests.entries c.insert.new.self.entries c.args.ask.now few
    may c.first_free-id.ensures added)
