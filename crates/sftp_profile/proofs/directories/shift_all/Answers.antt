use Rattle.std.proofs.Common.{ap, map, length, sym, ◌∙◌}
use Rattle.std.proofs.lemmas.List.{with_items_is}
use Rattle.sftp_profile.specs.Profiles.{shifted}
use Rattle.sftp_profile.proofs.DirectoryLists.{change-taken, change-rest, change-all, change-length}
use Rattle.sftp_profile.proofs.directories.shift_all.Goals as goal

pub loop-directory-preserved : goal.loop-directory-preserved
loop-directory-preserved c =
    let f = (shifted c.args.shift.now) in
    let before = c.deref_mut-directory-items.result.now in
    let at = c.loop-directory in
    record {
      taken =
          change-taken f before at.directory-items at.directory-index c.directory-item.result c.shift.new.self
          c.loop-directory-test.true at.invariant.taken at.invariant.rest c.in_ok-shift.ensures;
      rest = change-rest f before at.directory-items at.directory-index c.shift.new.self at.invariant.rest;
    }

pub returns : goal.returns
returns c =
    let f = (shifted c.args.shift.now) in
    let before = c.deref_mut-directory-items.result.now in
    let at = c.loop-directory in
    let all = change-all f before at.directory-items at.directory-index c.loop-directory-test.false at.invariant.taken
    at.invariant.rest in
    let long = change-length f before at.directory-items at.directory-index c.loop-directory-test.false
    at.invariant.taken at.invariant.rest in
    with_items_is c.args.directories.now at.directory-items
    (long ∙ (ap length c.deref_mut-directory-items.ensures.value ∙ sym c.args.directories.now.ok.0))
    ∙ (all ∙ ap (map f) c.deref_mut-directory-items.ensures.value)
