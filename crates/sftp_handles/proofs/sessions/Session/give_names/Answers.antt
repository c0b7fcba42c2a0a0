use Rattle.sftp_handles.proofs.Imports.{◌≡◌, subst, sym, ◌∙◌, true, Readdir, State, open_at, gives_names, IsJudged}
use Rattle.sftp_packets.specs.declared.replies.Answer.TheVariants.{Name}
use Rattle.sftp_handles.proofs.Judged.GivenNames.{listing-found, good-given, given-judged, judged-not_given}
use Rattle.sftp_handles.proofs.Good.Pins.{state_of}
use Rattle.sftp_handles.proofs.sessions.Session.give_names.Goals as goal

pub strike_names-requires : goal.strike_names-requires
strike_names-requires g c =
    listing-found (state_of c.self.inside.tree (g.T.HandleTable.handles c.self.inside.table)) c.args.handle.now
    c.args.names.now c.self.invariant
    (sym
    (subst (λ (s : State). true ≡ gives_names (open_at s.handles c.args.handle.now) c.args.names.now)
    (sym c.self.view_is) (rw c.in-Some.is at c.in_ok-given.ensures.gives)))

pub invariant_of-self : goal.invariant_of-self
invariant_of-self g c =
    good-given (state_of c.self.inside.tree (g.T.HandleTable.handles c.self.inside.table)) c.args.handle.now
    c.args.names.now c.as_slice.result.now (g.T.HandleTable.handles c.strike_names.new.table) c.self.invariant
    (subst (λ (s : State). true ≡ gives_names (open_at s.handles c.args.handle.now) c.args.names.now)
    (sym c.self.view_is) (rw c.in-Some.is at c.in_ok-given.ensures.gives))
    (c.as_slice.ensures.value ∙ rw c.in-Some.is at c.in_ok-given.ensures.given) c.strike_names.ensures

pub returns-in-Some-clause-ok : goal.returns-in-Some-clause-ok
returns-in-Some-clause-ok g c =
    subst
    (λ s. IsJudged s (Readdir c.args.handle.now) (Name c.args.names.now) true
    (state_of c.self.inside.tree (g.T.HandleTable.handles c.strike_names.new.table)))
    c.self.view_is
    (given-judged (state_of c.self.inside.tree (g.T.HandleTable.handles c.self.inside.table)) c.args.handle.now
    c.args.names.now c.as_slice.result.now (g.T.HandleTable.handles c.strike_names.new.table) c.self.invariant
    (subst (λ (s : State). true ≡ gives_names (open_at s.handles c.args.handle.now) c.args.names.now)
    (sym c.self.view_is) (rw c.in-Some.is at c.in_ok-given.ensures.gives))
    (c.as_slice.ensures.value ∙ rw c.in-Some.is at c.in_ok-given.ensures.given) c.strike_names.ensures)

pub returns-in-None-clause-ok : goal.returns-in-None-clause-ok
returns-in-None-clause-ok g c =
    judged-not_given c.args.self.now c.args.handle.now c.args.names.now
    (sym (rw c.in-None.is at c.in_ok-given.ensures.gives))
