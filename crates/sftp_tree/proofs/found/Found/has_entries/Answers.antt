use Rattle.sftp_tree.proofs.Imports.{rules, ◌≡◌, ◌&&◌, Some, IfSome, sym, ap, subst, ◌∙◌, is_directory, has_entries}
use Rattle.sftp_tree.proofs.Imports.{node_seen, IsDirAt}
use Rattle.std.specs.Option.{option_map}
use Rattle.sftp_tree.specs.declared.entries.seen.Seen.TheVariants.{Dir}
use Rattle.sftp_tree.proofs.Nesting.Entries.{has_entries-alike}
use Rattle.sftp_tree.proofs.found.Found.has_entries.Goals as goal

pub returns-in-Some-Dir : goal.returns-in-Some-Dir
returns-in-Some-Dir c names there =
    let place = c.args.self.now.place in
    let is : c.args.self.now.node ≡ Some (Dir c.in-Some-Dir.field-0-0 c.in-Some-Dir.dir) = search rules in
    let at = subst (λ seen. IfSome seen (IsDirAt names place)) is there.below in
    c.has_children.ensures ∙ has_entries-alike names c.in-Some-Dir.dir.now place at
    ∙ sym (ap (λ seen. is_directory (option_map node_seen seen) && has_entries names place) is)
