use Rattle.sftp_handles.proofs.Imports.{◌≡◌, ℕ, List, Some, refl, sym, subst, IsFree, State, Good, Carries}
use Rattle.sftp_packets.specs.declared.requests.Ask.TheVariants as asks
use Rattle.sftp_tree.specs.Told as told
use Rattle.sftp_handles.specs.Replies.{names}
use Rattle.sftp_handles.proofs.Judged.QueryReplies.{carries-target, path-refusal}
use Rattle.sftp_handles.proofs.sessions.Session.link_payload.Goals as goal

pub returns-in-Ok-clause-carried : goal.returns-in-Ok-clause-carried
returns-in-Ok-clause-carried g c =
    let s = c.args.self.now in
    let ask = asks.Readlink c.args.path.now in
    let target = c.in-Ok.target.items in
    subst (λ (x : List ℕ). Carries s ask (names (Some x))) (sym c.new.ensures)
    (carries-target s c.args.path.now target (subst Good c.self.view_is c.self.invariant)
    (subst (λ (s : State). IsFree s.tree ask) c.self.view_is c.in-Ok.ensures.free)
    (subst (λ (s : State). told.text_to s.tree ask ≡ Some target) c.self.view_is c.in-Ok.ensures.target))

pub returns-in-Err-clause-refused : goal.returns-in-Err-clause-refused
returns-in-Err-clause-refused g c =
    let ask = asks.Readlink c.args.path.now in
    path-refusal c.args.self.now ask refl refl refl c.in-Err.refused
    (subst (λ (s : State). told.IsRefusal s.tree ask c.in-Err.refused) c.self.view_is c.in-Err.ensures.refused)
