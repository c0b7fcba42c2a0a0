use Rattle.sftp_handles.proofs.Imports.{◌≡◌, ℕ, List, Option, Some, None, Ok, IsTrue, is_some, refl, sym, OpenFlags}
use Rattle.sftp_handles.proofs.Imports.{Content, content_at, no_causes, State, Good, open_at, causes, found_file}
use Rattle.sftp_handles.proofs.Imports.{IsDone}
use Rattle.sftp_packets.specs.declared.requests.Ask.TheVariants as asks
use Rattle.sftp_handles.proofs.Good.{good-settled}
use Rattle.sftp_handles.proofs.OpenFiles.{only-holds}
use Rattle.sftp_handles.proofs.OpenFiles.{done-file}
use Rattle.sftp_handles.proofs.sessions.Session.sync_open.Goals as goal

synced : (s : State) (handle : List ℕ) (f : ℕ × OpenFlags) (content : Option Content) → Good s
    → found_file (open_at s.handles handle) ≡ Ok f → content_at s.tree.files f.0 ≡ content → IsTrue (is_some content)
    → causes s (asks.Fsync handle) ≡ no_causes → IsDone s (asks.Fsync handle) s
synced s handle f None good is there some free = absurd cc
synced s handle f (Some before) good is there some free =
    done-file s (asks.Fsync handle) handle refl refl f before is there s refl free (sym (good-settled s good))

pub returns-in-Ok-clause-done : goal.returns-in-Ok-clause-done
returns-in-Ok-clause-done g c =
    synced c.args.self.now c.args.handle.now c.in-Ok.field-0 (content_at c.args.self.now.tree.files c.in-Ok.field-0.0)
    c.in-Ok.ensures.kept (sym c.in-Ok.ensures.found) refl c.in-Ok.ensures.there c.in-Ok.ensures.flushed

pub returns-in-Err-clause-refused : goal.returns-in-Err-clause-refused
returns-in-Err-clause-refused g c =
    only-holds c.args.self.now (asks.Fsync c.args.handle.now) c.in-Err.cause c.in-Err.ensures.flushed
