use Rattle.sftp_handles.proofs.Imports.{◌≡◌, refl, sym, subst, Some, option_map, content_at, shown_content, State}
use Rattle.sftp_packets.specs.declared.requests.Ask.TheVariants as asks
use Rattle.sftp_handles.specs.Replies.{shows}
use Rattle.sftp_handles.proofs.OpenFiles.{none-holds, only-holds, said-found, shown-found}
use Rattle.sftp_handles.proofs.sessions.Session.stat_open.Goals as goal

pub returns-in-Ok-clause-free : goal.returns-in-Ok-clause-free
returns-in-Ok-clause-free g c = none-holds c.args.self.now (asks.Fstat c.args.handle.now) c.in-Ok.ensures.shown

pub returns-in-Ok-clause-shown : goal.returns-in-Ok-clause-shown
returns-in-Ok-clause-shown g c =
    said-found c.args.self.now (asks.Fstat c.args.handle.now) c.args.handle.now refl c.in-Ok.found
    (shows (Some c.stat_file.result)) (sym c.in-Ok.ensures.found)
    (shown-found shown_content (λ attrs. shows (Some attrs)) (content_at c.args.self.now.tree.files c.in-Ok.found.0)
    c.stat_file.result
    (subst
    (λ (s : State). option_map shown_content (content_at s.tree.files c.in-Ok.found.0) ≡ Some c.stat_file.result)
    c.self.view_is c.stat_file.ensures))

pub returns-in-Err-clause-refused : goal.returns-in-Err-clause-refused
returns-in-Err-clause-refused g c =
    only-holds c.args.self.now (asks.Fstat c.args.handle.now) c.in-Err.cause c.in-Err.ensures.shown
