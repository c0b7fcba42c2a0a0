use Rattle.sftp_tree.proofs.Imports.{Some, subst, Standing, IsLentAt}
use Rattle.sftp_tree.specs.declared.entries.seen.Seen.TheVariants.{Dir}
use Rattle.sftp_tree.proofs.Walks.Trails.{lead-here, lent-directory}
use Rattle.sftp_tree.proofs.entries.trail.Trail.here.Goals as goal

pub returns : goal.returns
returns c =
    let inside = c.self.inside in
    subst (λ (s : Standing). IsLentAt s.names s.at (Some (Dir c.owner.result inside.here))) c.self.view_is
    (lent-directory inside.root.now inside.at c.owner.result inside.here
    (lead-here inside.root inside.between.items inside.at inside.here c.self.invariant) c.owner.ensures.owner)
