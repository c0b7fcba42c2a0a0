use Rattle.sftp_tree.proofs.Imports.{◌≡◌, ◌∷◌, List, ◌++◌, map, filter_map, refl, sym, subst, ap, ◌∙◌, AllByRecursion}
use Rattle.sftp_tree.proofs.Imports.{Name, Child, Item, IsNode, is_directory, children, shown_child, listing, entry_of}
use Rattle.sftp_tree.proofs.Imports.{Children, AreBranches, nodes_of}
use Rattle.sftp_tree.proofs.Nesting.NodesBelow.{children-alike, own-kept, listed-child, listed-none}
use Rattle.sftp_tree.proofs.Requests.{children-kept, listing-of}
use Rattle.sftp_tree.proofs.trees.Tree.items_below.Goals as goal

pub directory_of-dir-requires : goal.directory_of-dir-requires
directory_of-dir-requires c = ap is_directory c.requires.there.node ∙ c.requires.directory

pub loop-name-init : goal.loop-name-init
loop-name-init c =
    let t = c.args.self.now in
    let place = c.args.found.now.place in
    let dir = c.directory_of-dir.result.now in
    let left = c.into_iter-name-iterator.result in
    let given : left ≡ c.children-children.result = c.into_iter-name-iterator.ensures.into_iter_gives in
    let is : nodes_of left ≡ children t.names place = ap nodes_of given ∙ c.children-children.ensures.nodes
    ∙ children-alike t.names dir place c.requires.kept.well_formed.ordered c.children-children.ensures.ordered
    (c.directory_of-dir.ensures t.names c.requires.there) in
    record {
      listed =
          ap (λ (xs : List Item). map entry_of xs ++ filter_map (shown_child t) (nodes_of left)) c.in_ok-items.ensures.items
          ∙ listing-of t place t.names (nodes_of left) refl is;
      nodes = subst (AllByRecursion (λ e. IsNode t.files e.1)) (sym is)
          (children-kept t.files t.names place c.requires.kept.well_formed.nodes);
      branches = subst AreBranches (sym given) c.children-children.ensures.children.1;
    }

pub item-requires : goal.item-requires
item-requires c =
    let at = c.loop-name in
    let x : Name × Child = (c.in-Some.name.now, c.in-Some.child.now) in
    (own-kept c.args.self.now.files x c.next.new.self
    (subst (λ (cs : Children). AllByRecursion (λ e. IsNode c.args.self.now.files e.1) (nodes_of cs))
    c.in-Some.ensures.steps at.invariant.nodes)).0

pub loop-name-preserved : goal.loop-name-preserved
loop-name-preserved c =
    let t = c.args.self.now in
    let at = c.loop-name in
    let x : Name × Child = (c.in-Some.name.now, c.in-Some.child.now) in
    let branches : AreBranches (x ∷ c.next.new.self) = subst AreBranches c.in-Some.ensures.steps at.invariant.branches in
    record {
      listed = listed-child t at.items.items c.push.new.self.items c.in_ok-item.field-0 x c.next.new.self
          (listing t c.args.found.now.place) branches.0 c.in_ok-push.ensures.items c.in_ok-item.ensures
          (ap (λ (cs : Children). map entry_of at.items.items ++ filter_map (shown_child t) (nodes_of cs))
          (sym c.in-Some.ensures.steps) ∙ at.invariant.listed);
      nodes = (own-kept t.files x c.next.new.self
          (subst (λ (cs : Children). AllByRecursion (λ e. IsNode t.files e.1) (nodes_of cs))
          c.in-Some.ensures.steps at.invariant.nodes)).1;
      branches = branches.1;
    }

pub returns : goal.returns
returns c = listed-none c.args.self.now c.loop-name.items.items c.loop-name.name-iterator
    (listing c.args.self.now c.args.found.now.place) c.in-None.ensures.steps.0 c.loop-name.invariant.listed
