-- The entries are compared one by one.
use Rattle.std.proofs.Common.{rules, tests}
use Rattle.std.proofs.lemmas.Iterator.{YieldsList-from_slice, YieldsList-from_zip, same_from_all}
use Rattle.sftp_commands.proofs.sameness.are_same.Goals as goal

pub returns-then-old-new : goal.returns-then-old-new
returns-then-old-new c =
    same_from_all c.all.new.self _ _ _ _ c.all.ensures.ran
    (YieldsList-from_zip (YieldsList-from_slice c.args.old.now cc) (YieldsList-from_slice c.args.new.now cc))
    (search rules) (λ x q k. search (rules, tests)) (λ x q k. search (rules, tests))
