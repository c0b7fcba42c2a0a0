use Rattle.sftp_tree.proofs.Imports.{rules, ◌≡◌, Some, IfSome, sym, ap, subst, ◌∙◌, is_directory, node_seen, IsDirAt}
use Rattle.std.specs.Option.{option_map}
use Rattle.sftp_tree.specs.declared.entries.seen.Seen.TheVariants.{Dir, File, Link}
use Rattle.sftp_tree.proofs.Nesting.Reach.{reach-alike}
use Rattle.sftp_tree.proofs.Walks.Counts.{reach-no-directory}
use Rattle.sftp_tree.proofs.found.Found.reaches_at_most.Goals as goal

pub returns-in-Some-Dir : goal.returns-in-Some-Dir
returns-in-Some-Dir c t found =
    let place = c.args.self.now.place in
    let is : c.args.self.now.node ≡ Some (Dir c.in-Some-Dir.field-0-0 c.in-Some-Dir.dir) = search rules in
    let at = subst (λ seen. IfSome seen (IsDirAt t.names place)) is found.lent.below in
    c.reaches_at_most.ensures ∙ reach-alike t.names c.in-Some-Dir.dir.now place c.args.room at

pub returns-in-Some-File : goal.returns-in-Some-File
returns-in-Some-File c t found =
    let is : c.args.self.now.node ≡ Some (File c.in-Some-File.field-0-0) = search rules in
    sym (reach-no-directory t c.args.self.now c.args.room found
    (ap (λ seen. is_directory (option_map node_seen seen)) is))

pub returns-in-Some-Link : goal.returns-in-Some-Link
returns-in-Some-Link c t found =
    let is : c.args.self.now.node ≡ Some (Link c.in-Some-Link.field-0-0) = search rules in
    sym (reach-no-directory t c.args.self.now c.args.room found
    (ap (λ seen. is_directory (option_map node_seen seen)) is))

pub returns-in-None : goal.returns-in-None
returns-in-None c t found = sym (reach-no-directory t c.args.self.now c.args.room found
    (ap (λ seen. is_directory (option_map node_seen seen)) c.in-None.is))
