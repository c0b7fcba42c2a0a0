-- Each child has fewer entries than its directory.
use Rattle.sftp_tree.proofs.Imports.{arith}
use Rattle.sftp_tree.proofs.TreeFiles.Branches.{next_smaller}
use Rattle.sftp_tree.proofs.pictures.measuring.+measuring.Goals as goal

pub size_below-child_size-requires : goal.size_below-child_size-requires
size_below-child_size-requires t c =
    let at = c.loop-name in
    let smaller = next_smaller c.args.dir.now at.name-iterator c.in-Some.name.now c.in-Some.child.now c.next.new.self
    c.in-Some.ensures.steps at.invariant.branches at.invariant.few in
    (omega (arith, c.decreases, smaller), tt)
