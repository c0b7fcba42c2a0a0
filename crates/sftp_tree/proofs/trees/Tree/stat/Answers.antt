use Rattle.sftp_tree.proofs.Imports.{◌≡◌, ap, ◌∙◌, refl, subst, Option, Some, Bool, Ok, List, ℕ, Tree}
use Rattle.sftp_tree.proofs.Imports.{Node, Place, IsKept, stat_ask, node_at, node_seen, reached}
use Rattle.std.specs.Option.{IfSome}
use Rattle.sftp_tree.specs.declared.entries.seen.Seen.{Seen}
use Rattle.sftp_tree.specs.Plans.{LeadsDown}
use Rattle.sftp_tree.specs.Requests.{shown_at}
use Rattle.sftp_tree.proofs.WellFormedTrees.{node-kept}
use Rattle.sftp_tree.proofs.Walks.Plain.{found-place}
use Rattle.sftp_tree.proofs.Requests.Rows.{stat-shown}
use Rattle.sftp_tree.proofs.Requests.Shown.{led-stat, stat-free, stat-absent}
use Rattle.sftp_tree.proofs.trees.Tree.stat.Goals as goal

-- where the path leads
led : (t : Tree) (follow : Bool) (path : List ℕ) (found : Option (Option Seen)) (inner end : Option Seen)
    → found ≡ Some inner → inner ≡ end → IfSome found (LeadsDown t follow path) → LeadsDown t follow path end
led t follow path found inner end some is leads =
    subst (λ f. IfSome f (LeadsDown t follow path)) (some ∙ ap Some is) leads

-- the path leads to this node of the tree
record Ends (t : Tree) (follow : Bool) (path : List ℕ) (node : Node) : Type 0 where
  kept : IsKept t
  place : Place
  leads : reached t follow path ≡ Ok place
  there : node_at t.names place ≡ Some node

ends : (t : Tree) (follow : Bool) (path : List ℕ) (found : Option (Option Seen)) (inner : Option Seen) (node : Seen)
    → found ≡ Some inner → inner ≡ Some node → IfSome found (LeadsDown t follow path)
    → Ends t follow path (node_seen node)
ends t follow path found inner node some is leads =
    let end = led t follow path found inner (Some node) some is leads in
    let at = found-place t.names (node_seen node) (reached t follow path) end.finds in
    record { kept = end.kept; place = at.0; leads = at.1.0; there = at.1.1 }

pub shown-requires : goal.shown-requires
shown-requires c =
    let found = c.in-Ok-Some-Some in
    let end = ends c.args.self.now c.args.follow c.args.path.now found.field-0 found.field-0-0 found.node
    found.field-0-is found.field-0-0-is found.ensures in
    node-kept c.args.self.now end.place (node_seen found.node) end.kept end.there

pub returns-in-Ok-Some-Some-clause-free : goal.returns-in-Ok-Some-Some-clause-free
returns-in-Ok-Some-Some-clause-free c =
    let found = c.in-Ok-Some-Some in
    let end = ends c.args.self.now c.args.follow c.args.path.now found.field-0 found.field-0-0 found.node
    found.field-0-is found.field-0-0-is found.ensures in
    stat-free c.args.self.now c.args.follow c.args.path.now end.place (node_seen found.node)
    end.kept.within_limits end.leads end.there

pub returns-in-Ok-Some-Some-clause-shown : goal.returns-in-Ok-Some-Some-clause-shown
returns-in-Ok-Some-Some-clause-shown c =
    let t = c.args.self.now in
    let path = c.args.path.now in
    let found = c.in-Ok-Some-Some in
    let end = ends t c.args.follow path found.field-0 found.field-0-0 found.node found.field-0-is found.field-0-0-is
    found.ensures in
    stat-shown t (stat_ask c.args.follow path) c.args.follow path end.place c.shown.result refl
    (led-stat t c.args.follow path (Ok end.place) end.leads) (ap (shown_at t) end.there ∙ c.shown.ensures)

pub returns-in-Ok-Some-None-clause-refused : goal.returns-in-Ok-Some-None-clause-refused
returns-in-Ok-Some-None-clause-refused c =
    let found = c.in-Ok-Some-None in
    let end = led c.args.self.now c.args.follow c.args.path.now found.field-0 found.field-0-0 _ found.field-0-is
    found.field-0-0-is found.ensures in
    stat-absent c.args.self.now c.args.follow c.args.path.now end.finds
