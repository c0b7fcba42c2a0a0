use Rattle.sftp_tree.proofs.Imports.{sym, ◌∙◌, arith, branch}
use Rattle.sftp_tree.proofs.Nesting.Changes.{still-branch}
use Rattle.sftp_tree.proofs.Nesting.Entries.{put-in, put-is, put-more}
use Rattle.sftp_tree.proofs.entries.Entries.put.Goals as goal

pub invariant_of-self-2 : goal.invariant_of-self-2
invariant_of-self-2 c =
    let set = put-in c.args.self.now c.self.inside.root c.put.new.self c.args.place.now c.in-Some.parent.now
    c.in-Some.name.now c.self.view_is (sym c.names.ensures.names ∙ c.in-Some.ensures.cases.0) c.self.invariant.0
    c.args.node c.in_ok-put.field-0 c.in_ok-name.name (branch c.new.result) c.in_ok-name.ensures c.new.ensures.alone
    c.requires.absent c.in_ok-put.ensures.ok c.in_ok-put.ensures.gone c.in_ok-put.ensures.whole in
    let more = put-more c.args.self.now c.self.inside.root c.put.new.self c.args.place.now c.in-Some.parent.now
    c.in-Some.name.now c.self.view_is (sym c.names.ensures.names ∙ c.in-Some.ensures.cases.0) c.self.invariant.0
    c.args.node c.requires.absent set in
    let sum = c.in-Some-checked_add.ensures in (
      still-branch c.self.inside.root c.put.new.self (branch c.new.result) c.in-Some.parent.now c.in_ok-name.name
          c.self.invariant.0 c.in_ok-put.ensures.ok,
      omega (arith, more, c.self.invariant.1, sum),
    )

pub returns-clause-ok : goal.returns-clause-ok
returns-clause-ok c =
    let set = put-in c.args.self.now c.self.inside.root c.put.new.self c.args.place.now c.in-Some.parent.now
    c.in-Some.name.now c.self.view_is (sym c.names.ensures.names ∙ c.in-Some.ensures.cases.0) c.self.invariant.0
    c.args.node c.in_ok-put.field-0 c.in_ok-name.name (branch c.new.result) c.in_ok-name.ensures c.new.ensures.alone
    c.requires.absent c.in_ok-put.ensures.ok c.in_ok-put.ensures.gone c.in_ok-put.ensures.whole in
    put-is c.args.self.now c.self.inside.root c.put.new.self c.args.place.now c.in-Some.parent.now
    c.in-Some.name.now c.self.view_is (sym c.names.ensures.names ∙ c.in-Some.ensures.cases.0) c.self.invariant.0
    c.args.node set
