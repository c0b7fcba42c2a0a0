-- Times that are compared one by one are the same list.
use Rattle.std.proofs.Common.{rules, tests}
use Rattle.std.specs.Cmp.Lexicographic.{pointwise_decides}
use Rattle.std.proofs.lemmas.Bool.Decides.{Decides-at}
use Rattle.sftp_commands.proofs.sameness.have_same_times.Goals as goal

pub returns : goal.returns
returns c =
    rw (← c.as_slice.ensures, ← c.as_slice-2.ensures)
    (Decides-at c.eq.result _ c.eq.ensures
    (pointwise_decides (λ x y. search (rules, tests)) c.as_slice.result.now c.as_slice-2.result.now))
