-- What is left stays left.
use Rattle.sftp_listing.proofs.Imports.{◌≡◌, length, unmarked, ArePaired}
use Rattle.sftp_listing.proofs.marks.drop_struck.Given as goal

abbrev pub invariant-struck : goal.invariant-struck
invariant-struck l =
    ArePaired l.items.items l.marks.items
    × (unmarked l.items.items l.marks.items ≡ unmarked l.initial.items.items l.initial.marks.items)

abbrev pub decreases-struck : goal.decreases-struck
decreases-struck l = length l.marks.items
