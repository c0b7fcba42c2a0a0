use Rattle.sftp_tree.proofs.Walks.Trails.{lead-up}
use Rattle.sftp_tree.proofs.entries.trail.Trail.leave.Goals as goal

pub invariant_of-self : goal.invariant_of-self
invariant_of-self c =
    let inside = c.self.inside in
    lead-up inside.root inside.between.items c.pop.new.self.items inside.at c.leave.new.self c.in-Some.dir inside.here
    c.self.invariant c.in-Some.ensures.items c.leave.ensures
