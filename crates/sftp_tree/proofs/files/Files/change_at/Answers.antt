use Rattle.sftp_tree.proofs.Imports.{◌<◌, ◌^◌, subst, sym, arith, Some, IfSome, length, nat_cmp, get, Stored, Stores, contents}
use Rattle.sftp_tree.proofs.Imports.{with_content_made, changed_content}
use Rattle.sftp_tree.specs.Tree.{total_of}
use Rattle.sftp_tree.proofs.Totals.{summed-where, changed-small}
use Rattle.sftp_tree.proofs.files.Files.change_at.Goals as goal

pub exchanged-self-inside-requires-clause-total : goal.exchanged-self-inside-requires-clause-total
exchanged-self-inside-requires-clause-total c =
    omega (arith, c.self.invariant.1, subst (λ (s : Stores). total_of (contents s) < 2 ^ 63) (sym c.self.view_is) c.requires.total)

pub exchanged-self-inside-requires-clause-after : goal.exchanged-self-inside-requires-clause-after
exchanged-self-inside-requires-clause-after c =
    let small = subst (λ (s : Stores). IfSome (get nat_cmp s c.args.number) (λ (s : Stored). length (changed_content c.args.attrs.now s.content).bytes < 2 ^ 63))
    (sym c.self.view_is) c.requires.count in
    omega (
      arith,
      c.length_at-after.ensures.is,
      changed-small c.self.inside.by_number.entries c.change_at.new.files.entries c.self.invariant.0 (changed_content c.args.attrs.now) c.args.number small
          c.in_ok-change_at.ensures.ok,
    )

pub invariant_of-self-2 : goal.invariant_of-self-2
invariant_of-self-2 c =
    summed-where c.self.inside.by_number.entries c.change_at.new.files.entries c.self.invariant.0 (with_content_made (changed_content c.args.attrs.now))
    (Some c.args.number) c.self.inside.total c.exchanged-self-inside.result c.self.invariant.1 c.in_ok-change_at.ensures.ok
    (omega (arith, c.exchanged-self-inside.ensures, c.length_at-before.ensures.is, c.length_at-after.ensures.is))
