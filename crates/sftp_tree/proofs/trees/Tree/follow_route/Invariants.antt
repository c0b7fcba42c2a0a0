use Rattle.sftp_tree.proofs.Imports.{◌≡◌, ◌+◌, [], true, list_all, is_step}
use Rattle.sftp_tree.specs.Walk as walks
use Rattle.sftp_tree.proofs.trees.Tree.follow_route.Given as goal

abbrev pub invariant-loop-component : goal.invariant-loop-component
invariant-loop-component l = record {
  names : l.trail.names ≡ l.self.names;
  steps : list_all is_step l.route ≡ true;
  counted : l.ticks + walks.looked l.self.names l.follow l.links_left l.trail.at l.route ≡ walks.looked l.self.names l.follow 40 [] l.initial.route;
  same : walks.walk l.self.names l.follow 40 [] l.initial.route ≡ walks.walk l.self.names l.follow l.links_left l.trail.at l.route;
}

abbrev pub decreases-loop-component : goal.decreases-loop-component
decreases-loop-component l = walks.looked l.self.names l.follow l.links_left l.trail.at l.route
