use Rattle.sftp_handles.proofs.Imports.{IsTrue, Some, sym, ap, subst, ◌∙◌, BadHandle, is_pinned, Open, State}
use Rattle.sftp_handles.proofs.Imports.{Good, IsDone, causes}
use Rattle.sftp_packets.specs.declared.requests.Ask.TheVariants as asks
use Rattle.sftp_handles.proofs.Good.Pins.{state_of}
use Rattle.sftp_handles.proofs.OpenFiles.{open-pinned}
use Rattle.sftp_handles.proofs.OpenFiles.{it-closed, good-it_closed, nothing-closed, close-lost, close-done}
use Rattle.sftp_handles.proofs.sessions.Session.close.Goals as goal

pub unpin_closed-requires : goal.unpin_closed-requires
unpin_closed-requires g c number flags is =
    ap (λ pins. is_pinned pins number) c.self.invariant.pinned
    ∙ open-pinned (state_of c.self.inside.tree (g.T.HandleTable.handles c.self.inside.table)) c.args.handle.now number
    flags (sym c.in-Some.ensures.before ∙ ap (λ (it : Open). Some it) is)

pub invariant_of-self : goal.invariant_of-self
invariant_of-self g c =
    good-it_closed (state_of c.self.inside.tree (g.T.HandleTable.handles c.self.inside.table)) c.args.handle.now
    (g.T.HandleTable.handles c.take.new.self) c.take.ensures.closed c.self.invariant c.in-Some.it
    c.unpin_closed.new.tree (sym c.in-Some.ensures.before) c.unpin_closed.ensures.file c.unpin_closed.ensures.listing

pub invariant_of-self-in-None : goal.invariant_of-self-in-None
invariant_of-self-in-None g c =
    subst Good
    (sym
    (nothing-closed (state_of c.self.inside.tree (g.T.HandleTable.handles c.self.inside.table)) c.args.handle.now
    (g.T.HandleTable.handles c.take.new.self) c.take.ensures.closed c.self.invariant
    (sym c.in-None.ensures.before)))
    c.self.invariant

pub returns-in-Some-clause-done : goal.returns-in-Some-clause-done
returns-in-Some-clause-done g c =
    let s = state_of c.self.inside.tree (g.T.HandleTable.handles c.self.inside.table) in
    let end = state_of c.unpin_closed.new.tree (g.T.HandleTable.handles c.take.new.self) in
    subst (λ (s : State). IsDone s (asks.Close c.args.handle.now) end) c.self.view_is
    (close-done s c.args.handle.now c.in-Some.it end (sym c.in-Some.ensures.before)
    (it-closed s c.args.handle.now (g.T.HandleTable.handles c.take.new.self) c.take.ensures.closed c.self.invariant
    c.in-Some.it c.unpin_closed.new.tree (sym c.in-Some.ensures.before) c.unpin_closed.ensures.file
    c.unpin_closed.ensures.listing))

pub returns-in-None-clause-refused : goal.returns-in-None-clause-refused
returns-in-None-clause-refused g c =
    let s = state_of c.self.inside.tree (g.T.HandleTable.handles c.self.inside.table) in
    subst (λ (s : State). IsTrue (causes s (asks.Close c.args.handle.now) BadHandle)) c.self.view_is
    (close-lost s c.args.handle.now (sym c.in-None.ensures.before))

pub returns-in-None-clause-kept : goal.returns-in-None-clause-kept
returns-in-None-clause-kept g c =
    nothing-closed (state_of c.self.inside.tree (g.T.HandleTable.handles c.self.inside.table)) c.args.handle.now
    (g.T.HandleTable.handles c.take.new.self) c.take.ensures.closed c.self.invariant (sym c.in-None.ensures.before)
    ∙ c.self.view_is
