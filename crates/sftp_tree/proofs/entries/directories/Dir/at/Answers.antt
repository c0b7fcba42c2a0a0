use Rattle.sftp_tree.proofs.Imports.{◌≡◌, [], ◌∷◌, ◌++◌, ap, sym, ◌∙◌, append-nil, Place, File, Link, node_at, branch}
use Rattle.sftp_tree.proofs.Nesting.Changes.{no-names}
use Rattle.sftp_tree.proofs.Nesting.Changes.{nothing, step-alone, step-here, step-none, step-in}
use Rattle.sftp_tree.proofs.Nesting.{get-below_alone}
use Rattle.sftp_tree.proofs.entries.directories.Dir.at.Goals as goal

pub returns-in-Some-File-2-clause-there : goal.returns-in-Some-File-2-clause-there
returns-in-Some-File-2-clause-there c =
    sym (get-below_alone c.loop-name.dir.now c.in-Some.name.now c.in-Some.rest.now c.child.result c.in-Some-File.field-0
    (File c.in-Some-File.number) c.child.ensures.below c.in-Some-File.is (ap branch c.in-Some-File.field-0-is)
    c.if-is_empty.ensures) ∙ sym (ap (λ (place : Place). node_at c.loop-name.dir.now place) c.in-Some.ensures.cases.0)
    ∙ c.loop-name.invariant.0

pub returns-in-Some-Link-2-clause-there : goal.returns-in-Some-Link-2-clause-there
returns-in-Some-Link-2-clause-there c =
    sym (get-below_alone c.loop-name.dir.now c.in-Some.name.now c.in-Some.rest.now c.child.result c.in-Some-Link.field-0
    (Link c.in-Some-Link.target) c.child.ensures.below c.in-Some-Link.is (ap branch c.in-Some-Link.field-0-is)
    c.if-is_empty-2.ensures) ∙ sym (ap (λ (place : Place). node_at c.loop-name.dir.now place) c.in-Some.ensures.cases.0)
    ∙ c.loop-name.invariant.0

pub returns-in-Some-File-2-clause-below : goal.returns-in-Some-File-2-clause-below
returns-in-Some-File-2-clause-below c more = nothing more
    ∙ sym (step-alone c.loop-name.dir.now c.loop-name.left.now c.in-Some.name.now c.in-Some.rest.now c.child.result
    c.in-Some-File.field-0 (File c.in-Some-File.number) c.in-Some.ensures.cases.0 c.child.ensures.below
    c.in-Some-File.is (ap branch c.in-Some-File.field-0-is) c.if-is_empty.ensures more) ∙ c.loop-name.invariant.1 more

pub returns-in-Some-File-clause-below : goal.returns-in-Some-File-clause-below
returns-in-Some-File-clause-below c more =
    sym (step-here c.loop-name.dir.now c.loop-name.left.now c.in-Some.name.now c.in-Some.rest.now c.child.result
    c.in-Some-File.field-0 (File c.in-Some-File.number) c.in-Some.ensures.cases.0 c.child.ensures.below
    c.in-Some-File.is (ap branch c.in-Some-File.field-0-is) c.if-is_empty.ensures more) ∙ c.loop-name.invariant.1 more

pub returns-in-Some-Link-2-clause-below : goal.returns-in-Some-Link-2-clause-below
returns-in-Some-Link-2-clause-below c more = nothing more
    ∙ sym (step-alone c.loop-name.dir.now c.loop-name.left.now c.in-Some.name.now c.in-Some.rest.now c.child.result
    c.in-Some-Link.field-0 (Link c.in-Some-Link.target) c.in-Some.ensures.cases.0 c.child.ensures.below
    c.in-Some-Link.is (ap branch c.in-Some-Link.field-0-is) c.if-is_empty-2.ensures more) ∙ c.loop-name.invariant.1 more

pub returns-in-Some-Link-clause-below : goal.returns-in-Some-Link-clause-below
returns-in-Some-Link-clause-below c more =
    sym (step-here c.loop-name.dir.now c.loop-name.left.now c.in-Some.name.now c.in-Some.rest.now c.child.result
    c.in-Some-Link.field-0 (Link c.as_slice.result.now) c.in-Some.ensures.cases.0 c.child.ensures.below
    c.in-Some-Link.is (ap branch c.in-Some-Link.field-0-is ∙ ap (λ target. ([], Link target) ∷ []) (sym c.as_slice.ensures)) c.if-is_empty-2.ensures more)
    ∙ c.loop-name.invariant.1 more

pub returns-in-None-clause-below : goal.returns-in-None-clause-below
returns-in-None-clause-below c more = nothing more
    ∙ sym (step-none c.loop-name.dir.now c.loop-name.left.now c.in-Some.name.now c.in-Some.rest.now c.child.result
    c.in-Some.ensures.cases.0 c.child.ensures.below c.in-None.is more) ∙ c.loop-name.invariant.1 more

pub returns-clause-below : goal.returns-clause-below
returns-clause-below c more = sym (ap (λ (place : Place). node_at c.loop-name.dir.now (place ++ more))
    (no-names c.loop-name.left.now c.in_default.ensures.cases)) ∙ c.loop-name.invariant.1 more

deeper : (c : goal.In-Some-Dir) (more : Place)
    → node_at c.in-Some-Dir.inner (c.in-Some.rest.now ++ more) ≡ node_at c.args.self.now (c.args.names.now ++ more)
deeper c more = step-in c.loop-name.dir.now c.loop-name.left.now c.in-Some.name.now c.in-Some.rest.now c.child.result
    c.in-Some-Dir.field-0 c.in-Some-Dir.inner c.in-Some.ensures.cases.0 c.child.ensures.below c.in-Some-Dir.is
    c.in-Some-Dir.field-0-is more ∙ c.loop-name.invariant.1 more

pub loop-name-preserved : goal.loop-name-preserved
loop-name-preserved c = (
  ap (λ (place : Place). node_at c.in-Some-Dir.inner place) (sym (append-nil c.in-Some.rest.now)) ∙ deeper c []
      ∙ ap (λ (place : Place). node_at c.args.self.now place) (append-nil c.args.names.now),
  deeper c,
)
