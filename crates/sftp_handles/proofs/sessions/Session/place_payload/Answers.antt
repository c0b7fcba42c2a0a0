use Rattle.sftp_handles.proofs.Imports.{◌≡◌, ℕ, List, Some, sym, subst, IsFree, State, Good, Carries, refl}
use Rattle.sftp_packets.specs.declared.requests.Ask.TheVariants as asks
use Rattle.sftp_path.proofs.PathTexts.{list_all-octets}
use Rattle.sftp_tree.specs.Told as told
use Rattle.sftp_tree.proofs.Walks.{path-found}
use Rattle.sftp_handles.specs.Replies.{names}
use Rattle.sftp_handles.proofs.Judged.QueryReplies.{carries-place, path-refusal}
use Rattle.sftp_handles.proofs.sessions.Session.place_payload.Goals as goal

pub returns-in-Ok-clause-carried : goal.returns-in-Ok-clause-carried
returns-in-Ok-clause-carried g c =
    let s = c.args.self.now in
    let ask = asks.Realpath c.args.path.now in
    let text = c.in-Ok.text.items in
    subst (λ (x : List ℕ). Carries s ask (names (Some x))) (sym c.new.ensures)
    (carries-place (λ t kept follow path place bytes is. record {
      named = (path-found t follow path place kept bytes is).names;
      above = (path-found t follow path place kept bytes is).parent_stands;
    }) s c.args.path.now text (subst Good c.self.view_is c.self.invariant)
    (list_all-octets c.args.path.now c.type_inv.path)
    (subst (λ (s : State). IsFree s.tree ask) c.self.view_is c.in-Ok.ensures.free)
    (subst (λ (s : State). told.text_to s.tree ask ≡ Some text) c.self.view_is c.in-Ok.ensures.text))

pub returns-in-Err-clause-refused : goal.returns-in-Err-clause-refused
returns-in-Err-clause-refused g c =
    let ask = asks.Realpath c.args.path.now in
    path-refusal c.args.self.now ask refl refl refl c.in-Err.refused
    (subst (λ (s : State). told.IsRefusal s.tree ask c.in-Err.refused) c.self.view_is c.in-Err.ensures.refused)
