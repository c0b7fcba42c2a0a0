-- Each row's entry comes after all others.
use Rattle.sftp_tree.proofs.Imports.{◌≡◌, [], ◌∷◌, ◌<◌, ◌++◌, length, take, ap, sym, subst, ◌∙◌, append_assoc}
use Rattle.sftp_tree.proofs.Imports.{append-nil, arith, refl, nil_from_length, length-append, most_limits, place_of}
use Rattle.sftp_tree.proofs.Imports.{IsPlaceText, AreRows, names_in, place_in, IsKnown, IsGrown}
use Rattle.std.specs.Vec.Iter.{into_iter_items}
use Rattle.sftp_tree.proofs.TreeFiles.Growing.{entries_order, entry_later, put_last, open_root, open_more, room_for}
use Rattle.sftp_tree.proofs.TreeFiles.Numbers.{rows_join}
use Rattle.sftp_tree.proofs.TreeFiles.Stores.{kind_known, numbers_grow, grown_push, grown_room, grown_root, many_files}
use Rattle.sftp_tree.proofs.TreeFiles.Stores.{next_fits}
use Rattle.sftp_treefile.specs.TreeFile.{contents_length}
use Rattle.sftp_tree.proofs.TreeFiles.Stores.{contents_append, grown_total}
use Rattle.sftp_tree.proofs.pictures.rows.grow.Goals as goal

pub loop-row-init : goal.loop-row-init
loop-row-init c =
    let gives = c.into_iter-row-iterator.ensures.into_iter_gives in
    record {
      items = refl;
      count = rw (gives.0, gives.1) c.args.rows.ok.0;
      few = rw gives.0 c.requires.count;
      room = rw gives.0 c.requires.total;
      before = tt;
      rows = subst (AreRows most_limits []) (sym gives.0) c.requires.rows;
      grown = grown_root c.args.root (names_in c.new-growth.result) c.new-files.result c.new-growth.ensures.names
          c.new-files.ensures;
      above = open_root (place_in c.new-growth.result) c.new-growth.ensures.place;
      numbers = c.new-numbers.ensures.items;
    }

pub last_name-depth-requires-clause-text : goal.last_name-depth-requires-clause-text
last_name-depth-requires-clause-text c =
    let left = subst (AreRows most_limits c.loop-row.yielded) c.in-Some.ensures.steps.0 c.loop-row.invariant.rows in
    subst IsPlaceText (sym c.as_slice.ensures) left.0.path

pub last_name-depth-requires-clause-below_root : goal.last_name-depth-requires-clause-below_root
last_name-depth-requires-clause-below_root c =
    let left = subst (AreRows most_limits c.loop-row.yielded) c.in-Some.ensures.steps.0 c.loop-row.invariant.rows in
    subst (λ text. 0 < length (place_of text)) (sym c.as_slice.ensures) left.0.below_root

pub overflow_cast-made : goal.overflow_cast-made
overflow_cast-made c =
    let at = c.loop-row in
    omega (
      arith,
      c.len-made.ensures,
      next_fits c.args.root at.yielded (into_iter_items at.row-iterator)
          (names_in at.growth) at.files at.invariant.grown at.invariant.few,
    )

pub node_of-requires-clause-known : goal.node_of-requires-clause-known
node_of-requires-clause-known c =
    let left = subst (AreRows most_limits c.loop-row.yielded) c.in-Some.ensures.steps.0 c.loop-row.invariant.rows in
    subst (λ ns. IsKnown ns c.in-Some.row.kind) (sym (c.deref.ensures.value ∙ c.loop-row.invariant.numbers))
    (kind_known most_limits c.loop-row.yielded c.in-Some.row.kind left.0.kind)

pub node_of-requires-clause-room : goal.node_of-requires-clause-room
node_of-requires-clause-room c =
    let at = c.loop-row in
    grown_room c.args.root at.yielded (names_in at.growth) at.files at.invariant.grown
    (omega (arith, at.invariant.few, length-append at.yielded (into_iter_items at.row-iterator)))

pub node_of-requires-clause-total : goal.node_of-requires-clause-total
node_of-requires-clause-total c =
    let at = c.loop-row in
    omega (
      arith,
      grown_total c.args.root at.yielded (names_in at.growth) at.files at.invariant.grown,
      contents_append at.yielded (into_iter_items at.row-iterator),
      at.invariant.room,
    )

pub node_of-requires-clause-count : goal.node_of-requires-clause-count
node_of-requires-clause-count c =
    let at = c.loop-row in
    omega (
      arith,
      ap contents_length c.in-Some.ensures.steps.0,
      contents_append at.yielded (into_iter_items at.row-iterator),
      at.invariant.room,
    )

pub put-requires-clause-ordered : goal.put-requires-clause-ordered
put-requires-clause-ordered c =
    let at = c.loop-row in
    entries_order most_limits c.args.root at.yielded (names_in at.growth) c.requires.root at.invariant.before
    at.invariant.grown.names_are

pub put-requires-clause-depth : goal.put-requires-clause-depth
put-requires-clause-depth c =
    let at = c.loop-row in
    let left = subst (AreRows most_limits at.yielded) c.in-Some.ensures.steps.0 at.invariant.rows in
    (room_for most_limits c.args.root at.yielded c.in-Some.row (place_in at.growth) c.last_name-depth.result.0
    c.last_name-depth.result.1.now
    c.as_slice.result.now at.invariant.above left.0 c.as_slice.ensures c.last_name-depth.ensures.whole
    c.last_name-depth.ensures.depth).depth_fits

pub put-requires-clause-last : goal.put-requires-clause-last
put-requires-clause-last c =
    let at = c.loop-row in
    let left = subst (AreRows most_limits at.yielded) c.in-Some.ensures.steps.0 at.invariant.rows in
    let room = room_for most_limits c.args.root at.yielded c.in-Some.row (place_in at.growth) c.last_name-depth.result.0
    c.last_name-depth.result.1.now c.as_slice.result.now at.invariant.above left.0 c.as_slice.ensures
    c.last_name-depth.ensures.whole c.last_name-depth.ensures.depth in
    let place =
    ap (λ n. take c.last_name-depth.result.0 (place_in at.growth) ++ n ∷ []) c.in_ok-name.ensures ∙ room.place_is in
    entry_later most_limits c.args.root at.yielded c.in-Some.row (names_in at.growth)
    (take c.last_name-depth.result.0 (place_in at.growth) ++ c.in_ok-name.name ∷ []) left.0
    at.invariant.grown.names_are place

pub finish-requires : goal.finish-requires
finish-requires c =
    let at = c.loop-row in
    record {
      ordered = entries_order most_limits c.args.root at.yielded (names_in at.growth) c.requires.root at.invariant.before
          at.invariant.grown.names_are;
    }

pub loop-row-preserved : goal.loop-row-preserved
loop-row-preserved c =
    let at = c.loop-row in
    let row = c.in-Some.row in
    let steps : into_iter_items at.row-iterator ≡ row ∷ into_iter_items c.next.new.self = c.in-Some.ensures.steps.0 in
    let left : AreRows most_limits at.yielded (row ∷ into_iter_items c.next.new.self) =
    subst (AreRows most_limits at.yielded) steps at.invariant.rows in
    let numbers = c.deref.ensures.value ∙ at.invariant.numbers in
    let next = c.new-next.ensures ∙ c.len-made.ensures
    ∙ many_files c.args.root at.yielded (names_in at.growth) at.files at.invariant.grown in
    let room =
    room_for most_limits c.args.root at.yielded row (place_in at.growth) c.last_name-depth.result.0 c.last_name-depth.result.1.now
    c.as_slice.result.now at.invariant.above left.0 c.as_slice.ensures c.last_name-depth.ensures.whole
    c.last_name-depth.ensures.depth in
    let entered = take c.last_name-depth.result.0 (place_in at.growth) ++ c.in_ok-name.name ∷ [] in
    let place : entered ≡ place_of row.path =
    ap (λ n. take c.last_name-depth.result.0 (place_in at.growth) ++ n ∷ []) c.in_ok-name.ensures ∙ room.place_is in
    let later = entry_later most_limits c.args.root at.yielded row (names_in at.growth) entered left.0
    at.invariant.grown.names_are place in
    let put = put_last (names_in at.growth) (names_in c.put.new.self) entered c.in_ok-node.node later
    c.in_ok-put.ensures.names in
    record {
      items = append_assoc at.yielded (row ∷ []) (into_iter_items c.next.new.self) ∙ rw (← steps) at.invariant.items;
      count = let gone = c.in-Some.ensures.steps.1 in let short = ap length steps in let was = at.invariant.count
          in omega arith;
      few = rw append_assoc (rw (← steps) at.invariant.few);
      room = rw append_assoc (rw (← steps) at.invariant.room);
      before = rows_join most_limits [] at.yielded (row ∷ []) at.invariant.before (left.0, tt);
      rows = left.1;
      grown = grown_push most_limits c.args.root at.yielded row (names_in at.growth) (names_in c.put.new.self) at.files
          c.node_of.new.files c.deref.result.now c.new-next.result entered c.in_ok-node.node
          at.invariant.before left.0 at.invariant.grown numbers next place c.in_ok-node.ensures.node put
          c.in_ok-node.ensures.files;
      above = open_more most_limits at.yielded row _ _ entered (place_in at.growth) (place_in c.put.new.self)
          c.in_ok-node.node at.invariant.above left.0 place c.in_ok-node.ensures.node c.in_ok-put.ensures.place;
      numbers = numbers_grow at.yielded row at.numbers.items c.push.new.self.items c.new-next.result
          c.in_ok-push.ensures.items at.invariant.numbers next;
    }

pub returns : goal.returns
returns c =
    let at = c.loop-row in
    let none : into_iter_items at.row-iterator ≡ [] =
    nil_from_length (into_iter_items at.row-iterator) (sym at.invariant.count ∙ c.in-None.ensures.steps.0) in
    let all = sym (append-nil at.yielded) ∙ rw none at at.invariant.items
    ∙ c.into_iter-row-iterator.ensures.into_iter_gives.0 in
    subst (λ names. IsGrown c.args.root c.args.rows.items names at.files) (sym c.in_ok-root.ensures)
    (subst (λ rs. IsGrown c.args.root rs (names_in at.growth) at.files) all at.invariant.grown)
