use Rattle.sftp_tree.proofs.Imports.{◌++◌, [], ◌∷◌, subst, sym, ◌∙◌, Standing, IsAt}
use Rattle.sftp_tree.proofs.Walks.Trails.{lead-further}
use Rattle.sftp_tree.proofs.entries.trail.Trail.enter.Goals as goal

pub invariant_of-self-in-Ok : goal.invariant_of-self-in-Ok
invariant_of-self-in-Ok c =
    let name = c.args.name in
    let child = c.args.dir in
    let inside = c.self.inside in
    let is = subst (λ (s : Standing). IsAt s.names (s.at ++ name ∷ []) child.now) (sym c.self.view_is) c.requires in
    lead-further inside.root inside.between.items c.push.new.self.items inside.at c.enter.new.self inside.here child
    name c.self.invariant is (λ none. c.if-is_at_root.false (c.depth-is_at_root.ensures ∙ none)) c.in_ok-enter.ensures.ok
    c.in-Ok.ensures.items
