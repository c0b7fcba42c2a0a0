-- What begins another and is shorter has it below.
use Rattle.sftp_tree.proofs.Imports.{◌&&◌, nat_lt, length, sym, ◌∙◌, ap, below-begins}
use Rattle.sftp_tree.proofs.entries.below.is_below.Goals as goal

pub returns-then-starts_with : goal.returns-then-starts_with
returns-then-starts_with c =
    (λ i. nat_lt (c.depth.ensures i) (c.depth-then-starts_with.ensures i)) ∙ ap (λ b. b && nat_lt (length c.args.place.now) (length c.args.other.now)) (sym c.if-starts_with.true ∙ c.starts_with.ensures) ∙ sym (below-begins c.args.place.now c.args.other.now)

pub returns-else-starts_with : goal.returns-else-starts_with
returns-else-starts_with c =
    c.if-starts_with.false ∙ ap (λ b. b && nat_lt (length c.args.place.now) (length c.args.other.now)) (sym c.if-starts_with.false ∙ c.starts_with.ensures) ∙ sym (below-begins c.args.place.now c.args.other.now)
