-- One name after the other is the last.
use Rattle.sftp_tree.proofs.Imports.{◌≡◌, ◌++◌, ◌∷◌, ap, subst, length, take, arith, Place, place_of}
use Rattle.sftp_tree.proofs.TreeFiles.Growing.{names_step, last_named}
use Rattle.sftp_tree.proofs.pictures.rows.last_name.Goals as goal

pub overflow_add-above : goal.overflow_add-above
overflow_add-above c = omega (arith, c.names.invariant.count, c.requires.text.depth)

pub names-smaller : goal.names-smaller
names-smaller c = omega (arith, ap length c.in-Some-next_name.ensures)

pub names-preserved : goal.names-preserved
names-preserved c =
    let whole = place_of c.args.text.now in
    let at = c.names in
    let front = λ (left : Place). take at.above whole ++ at.last.now ∷ left ≡ whole in
    let steps = c.in-Some-next_name.ensures in
    let left = c.next_name-in-names.new.parts.left in
    let name = c.in-Some-next_name.name.now in
    record {
      whole = names_step at.above whole at.last.now name left (subst front steps at.invariant.whole)
          (omega (arith, at.invariant.count, ap length steps));
      count = omega (arith, at.invariant.count, ap length steps);
    }

pub returns-clause-whole : goal.returns-clause-whole
returns-clause-whole c =
    let whole = place_of c.args.text.now in
    let at = c.names in
    subst (λ (left : Place). take at.above whole ++ at.last.now ∷ left ≡ whole) c.in_default-next_name.ensures.0
    at.invariant.whole

pub returns-clause-depth : goal.returns-clause-depth
returns-clause-depth c = omega (arith, c.names.invariant.count, ap length c.in_default-next_name.ensures.0)

pub returns-clause-name : goal.returns-clause-name
returns-clause-name c =
    let whole = place_of c.args.text.now in
    let at = c.names in
    let is = subst (λ (left : Place). take at.above whole ++ at.last.now ∷ left ≡ whole)
    c.in_default-next_name.ensures.0 at.invariant.whole in
    last_named (take at.above whole) at.last.now whole is c.requires.text.names
