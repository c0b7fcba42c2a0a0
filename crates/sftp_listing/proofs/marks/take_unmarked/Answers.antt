use Rattle.sftp_listing.proofs.Imports.{◌≡◌, List, ◌++◌, subst, Item}
use Rattle.std.specs.Option.{option_to_list}
use Rattle.sftp_listing.proofs.MarkedItems.{first-dropped, first-taken, none-taken}
use Rattle.sftp_listing.proofs.marks.take_unmarked.Goals as goal

pub returns-clause-paired : goal.returns-clause-paired
returns-clause-paired c =
    let items = c.drop_struck.new.items.items in
    let marks = c.drop_struck.new.marks.items in
    rw (c.pop_front-mark.ensures.rest, c.pop_front.ensures.rest)
    (first-dropped items marks c.drop_struck.ensures.paired)

pub returns-clause-taken : goal.returns-clause-taken
returns-clause-taken c =
    let items = c.drop_struck.new.items.items in
    let marks = c.drop_struck.new.marks.items in
    let taken = c.pop_front.result in
    rw (c.pop_front-mark.ensures.rest, c.pop_front.ensures.rest, ← c.drop_struck.ensures.left)
    (first-taken items marks taken c.drop_struck.ensures.paired c.drop_struck.ensures.first
    (subst (λ (l : List Item). items ≡ option_to_list taken ++ l) c.pop_front.ensures.rest c.pop_front.ensures.items))

pub returns-clause-none : goal.returns-clause-none
returns-clause-none c =
    let items = c.drop_struck.new.items.items in
    let marks = c.drop_struck.new.marks.items in
    let taken = c.pop_front.result in
    rw (c.pop_front-mark.ensures.rest, c.pop_front.ensures.rest)
    (none-taken items marks taken
    (subst (λ (l : List Item). items ≡ option_to_list taken ++ l) c.pop_front.ensures.rest c.pop_front.ensures.items))
