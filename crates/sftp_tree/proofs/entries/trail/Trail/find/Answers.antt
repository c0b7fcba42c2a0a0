use Rattle.sftp_tree.proofs.Imports.{[], ◌∷◌, ◌++◌, sym, ap, ◌∙◌, option_copied, branch_of}
use Rattle.sftp_tree.specs.declared.entries.directories.Child.TheVariants as children
use Rattle.sftp_tree.proofs.Walks.Trails.{lead-found, lent-dir, lent-file, lent-link, lent-nothing}
use Rattle.sftp_tree.proofs.entries.trail.Trail.find.Goals as goal

pub returns-in-Some-Dir : goal.returns-in-Some-Dir
returns-in-Some-Dir c =
    let inside = c.self.inside in
    let is = lead-found c.args.self.now inside.root inside.between.items inside.at inside.here c.args.name.now
    (branch_of (option_copied c.child.result)) c.self.view_is c.self.invariant c.child.ensures.below in
    lent-dir c.args.self.now.names (c.args.self.now.at ++ c.args.name.now ∷ []) c.child.result c.in-Some-Dir.field-0
    c.owner.result _ is c.in-Some-Dir.is c.in-Some-Dir.field-0-is c.owner.ensures.owner

pub returns-in-Some-File : goal.returns-in-Some-File
returns-in-Some-File c =
    let inside = c.self.inside in
    let is = lead-found c.args.self.now inside.root inside.between.items inside.at inside.here c.args.name.now
    (branch_of (option_copied c.child.result)) c.self.view_is c.self.invariant c.child.ensures.below in
    lent-file c.args.self.now.names (c.args.self.now.at ++ c.args.name.now ∷ []) c.child.result c.in-Some-File.field-0
    c.in-Some-File.number is c.in-Some-File.is c.in-Some-File.field-0-is

pub returns-in-Some-Link : goal.returns-in-Some-Link
returns-in-Some-Link c =
    let inside = c.self.inside in
    let is = lead-found c.args.self.now inside.root inside.between.items inside.at inside.here c.args.name.now
    (branch_of (option_copied c.child.result)) c.self.view_is c.self.invariant c.child.ensures.below in
    lent-link c.args.self.now.names (c.args.self.now.at ++ c.args.name.now ∷ []) c.child.result c.in-Some-Link.field-0
    c.as_slice.result is c.in-Some-Link.is (c.in-Some-Link.field-0-is ∙ ap children.Link (sym c.as_slice.ensures))

pub returns-in-None : goal.returns-in-None
returns-in-None c =
    let inside = c.self.inside in
    let is = lead-found c.args.self.now inside.root inside.between.items inside.at inside.here c.args.name.now
    (branch_of (option_copied c.child.result)) c.self.view_is c.self.invariant c.child.ensures.below in
    lent-nothing c.args.self.now.names (c.args.self.now.at ++ c.args.name.now ∷ []) c.child.result is c.in-None.is
