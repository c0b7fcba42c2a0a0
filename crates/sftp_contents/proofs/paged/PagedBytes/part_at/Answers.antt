use Rattle.std.proofs.Common.{length, take, drop, sym, ap, ◌∙◌, arith}
use Rattle.sftp_contents.specs.Parts.{bytes_in, count_in}
use Rattle.sftp_contents.proofs.Whole.{view-length, part-of}
use Rattle.sftp_contents.proofs.paged.PagedBytes.part_at.Goals as goal

pub overflow_sub-self-inside : goal.overflow_sub-self-inside
overflow_sub-self-inside c =
    let e = sym (ap length c.self.view_is) ∙ view-length c.self.inside.store c.self.inside.len in
    omega (arith, c.requires.within)

pub part_at-requires-clause-within : goal.part_at-requires-clause-within
part_at-requires-clause-within c =
    let e = sym (ap length c.self.view_is) ∙ view-length c.self.inside.store c.self.inside.len in
    omega (arith, c.requires.within, c.self.invariant.1)

pub part_at-requires-clause-some : goal.part_at-requires-clause-some
part_at-requires-clause-some c =
    let e = sym (ap length c.self.view_is) ∙ view-length c.self.inside.store c.self.inside.len in
    omega (arith, c.requires.within, c.requires.some)

pub returns-clause-bytes : goal.returns-clause-bytes
returns-clause-bytes c =
    let e = sym (ap length c.self.view_is) ∙ view-length c.self.inside.store c.self.inside.len in
    part-of c.self.inside.store c.self.inside.len c.args.at (count_in c.part_at.result) (bytes_in c.part_at.result)
    (omega (arith, c.requires.within, c.part_at.ensures.few)) c.part_at.ensures.bytes
    ∙ ap (λ t. take (count_in c.part_at.result) (drop c.args.at t)) c.self.view_is
