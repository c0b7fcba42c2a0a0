use Rattle.sftp_server.proofs.Imports.{◌+◌, take, refl, started}
use Rattle.sftp_server.proofs.ScriptLaws.{acts-next, acts-whole, acts-begin, acts-explained}
use Rattle.sftp_server.proofs.scripts.run_script.Goals as goal

pub acts-init : goal.acts-init
acts-init c = record {
  steps = record { unchanged = c.in_ok-core.ensures.start; silent = c.new-events.ensures.items };
  values = tt;
}

pub acts-preserved : goal.acts-preserved
acts-preserved c =
    let next = acts-next (started c.args.tree) c.args.acts.now c.acts.act-index
    (c.acts.act-index + 1) c.act-item.result c.acts.core c.perform.new.core c.acts.events.items
    c.perform.new.events.items c.acts-test.true c.act-item.is refl c.acts.invariant.steps c.acts.invariant.values
    c.in-Ok.ensures in
    record { steps = next.0; values = next.1 }

pub returns-clause-done : goal.returns-clause-done
returns-clause-done c =
    acts-whole (started c.args.tree) c.args.acts.now c.acts.act-index c.acts.events.items c.acts.core
    c.acts-test.false c.acts.invariant.steps

pub returns-clause-begun : goal.returns-clause-begun
returns-clause-begun c =
    acts-begin c.args.tree (take c.acts.act-index c.args.acts.now) c.acts.events.items c.acts.core
    c.in_ok-core.ensures.good c.acts.invariant.steps c.acts.invariant.values

pub returns-clause-explained : goal.returns-clause-explained
returns-clause-explained c =
    acts-explained c.args.tree (take c.acts.act-index c.args.acts.now) c.acts.events.items c.acts.core
    c.in_ok-core.ensures.good c.acts.invariant.steps c.acts.invariant.values
