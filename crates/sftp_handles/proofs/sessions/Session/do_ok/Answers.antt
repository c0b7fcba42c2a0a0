use Rattle.sftp_handles.proofs.Imports.{sym, ap, subst, ◌∙◌, OnOk, Ask, IsDone}
use Rattle.sftp_packets.specs.declared.requests.Ask.TheVariants as asks
use Rattle.sftp_handles.proofs.sessions.Session.do_ok.Goals as goal

pub returns-in-Close-clause-done : goal.returns-in-Close-clause-done
returns-in-Close-clause-done g c =
    subst (λ (ask : Ask). OnOk c.close.result (IsDone c.args.self.now ask c.close.new.self))
    (ap asks.Close c.as_slice.ensures ∙ sym c.in-Close.is)
    c.close.ensures.done

pub returns-in-Write-clause-done : goal.returns-in-Write-clause-done
returns-in-Write-clause-done g c =
    subst (λ (ask : Ask). OnOk c.write_open.result (IsDone c.args.self.now ask c.write_open.new.self))
    ((λ i. asks.Write (c.as_slice-in-Write.ensures i) c.in-Write.offset (c.as_slice-in-Write-2.ensures i))
    ∙ sym c.in-Write.is)
    c.write_open.ensures.done

pub returns-in-Fsetstat-clause-done : goal.returns-in-Fsetstat-clause-done
returns-in-Fsetstat-clause-done g c =
    subst (λ (ask : Ask). OnOk c.set_open.result (IsDone c.args.self.now ask c.set_open.new.self))
    (ap (λ handle. asks.Fsetstat handle c.in-Fsetstat.attrs) c.as_slice-in-Fsetstat.ensures ∙ sym c.in-Fsetstat.is)
    c.set_open.ensures.done

pub returns-in-Fsync-clause-done : goal.returns-in-Fsync-clause-done
returns-in-Fsync-clause-done g c =
    subst (λ (ask : Ask). OnOk c.sync_open.result (IsDone c.args.self.now ask c.args.self.now))
    (ap asks.Fsync c.as_slice-in-Fsync.ensures ∙ sym c.in-Fsync.is)
    c.sync_open.ensures.done
