use Rattle.std.proofs.Common.{rules}
use Rattle.std.proofs.lemmas.Iterator.Consumers.{YieldsList-from_deque, YieldsList-from_filter, count_from_yields_List}
use borrow.Author.Tests.{tests}
use Rattle.sftp_audit.specs.Cuts.{is_unanswered}
use Rattle.sftp_audit.proofs.ledger.unanswered_in.Goals as goal

pub returns : goal.returns
returns c =
    count_from_yields_List c.filter.result _ c.count.ensures.ran
    (YieldsList-from_filter _ is_unanswered (YieldsList-from_deque c.args.exchanges.now.items cc)
    c.filter.ensures.closure (λ x b q k. search (rules, tests)))
