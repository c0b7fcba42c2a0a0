use Rattle.std.proofs.Common.{ap, map, length, sym, ◌∙◌}
use Rattle.std.proofs.lemmas.List.{with_items_is}
use Rattle.sftp_handles.specs.Replies.{names_in}
use Rattle.sftp_profile.specs.Profiles.{given_by}
use Rattle.sftp_profile.proofs.DirectoryLists.{change-taken, change-rest, change-all, change-length}
use Rattle.sftp_profile.proofs.notes.give_all.Goals as goal

pub loop-directory-preserved : goal.loop-directory-preserved
loop-directory-preserved c =
    let f = (given_by c.args.handle.now (names_in c.args.items.now)) in
    let before = c.deref_mut-directory-items.result.now in
    let at = c.loop-directory in
    record {
      taken =
          change-taken f before at.directory-items at.directory-index c.directory-item.result c.give.new.self
          c.loop-directory-test.true at.invariant.taken at.invariant.rest c.in_ok-give.ensures;
      rest = change-rest f before at.directory-items at.directory-index c.give.new.self at.invariant.rest;
    }

pub returns : goal.returns
returns c =
    let f = (given_by c.args.handle.now (names_in c.args.items.now)) in
    let before = c.deref_mut-directory-items.result.now in
    let at = c.loop-directory in
    let all = change-all f before at.directory-items at.directory-index c.loop-directory-test.false at.invariant.taken
    at.invariant.rest in
    let long = change-length f before at.directory-items at.directory-index c.loop-directory-test.false
    at.invariant.taken at.invariant.rest in
    with_items_is c.args.directories.now at.directory-items
    (long ∙ (ap length c.deref_mut-directory-items.ensures.value ∙ sym c.args.directories.now.ok.0))
    ∙ (all ∙ ap (map f) c.deref_mut-directory-items.ensures.value)
