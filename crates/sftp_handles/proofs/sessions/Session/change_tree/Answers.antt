use Rattle.sftp_handles.proofs.Imports.{subst, exit, State, IsDone, IsRefusal}
use Rattle.sftp_handles.proofs.Good.Pins.{state_of}
use Rattle.sftp_handles.proofs.Judged.{change-refused, change-done, change-good}
use Rattle.sftp_handles.proofs.sessions.Session.change_tree.Goals as goal

pub returns-in_err-carry_out-clause-refused : goal.returns-in_err-carry_out-clause-refused
returns-in_err-carry_out-clause-refused g c =
    let before = state_of c.self.inside.tree (g.T.HandleTable.handles c.self.inside.table) in
    let refused = c.in_err-carry_out.field-0.0 in
    exit c.from_residual.result (IsRefusal c.args.self.now c.args.ask.now) refused c.from_residual.ensures.1
    (subst (λ (s : State). IsRefusal s c.args.ask.now refused) c.self.view_is
    (change-refused before c.args.ask.now refused c.requires c.in_err-carry_out.ensures.refused))

pub invariant_of-self-2 : goal.invariant_of-self-2
invariant_of-self-2 g c =
    let before = state_of c.self.inside.tree (g.T.HandleTable.handles c.self.inside.table) in
    change-good before c.args.ask.now c.carry_out.new.self c.self.invariant c.requires c.in_ok-carry_out.ensures.done
    c.in_ok-carry_out.ensures.valid

pub returns-clause-done : goal.returns-clause-done
returns-clause-done g c =
    let before = state_of c.self.inside.tree (g.T.HandleTable.handles c.self.inside.table) in
    subst (λ (s : State). IsDone s c.args.ask.now (state_of c.carry_out.new.self before.handles)) c.self.view_is
    (change-done before c.args.ask.now c.carry_out.new.self c.self.invariant c.requires c.in_ok-carry_out.ensures.done
    c.in_ok-carry_out.ensures.free)
