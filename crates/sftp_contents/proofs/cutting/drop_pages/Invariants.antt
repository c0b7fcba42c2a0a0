use Rattle.std.proofs.Common.{◌≡◌, ◌≤◌, ℕ}
use Rattle.std.specs.BTreeMap.{btree_map_len}
use Rattle.sftp_contents.specs.Pieces.{page}
use Rattle.sftp_contents.proofs.cutting.drop_pages.Given as goal

abbrev pub invariant-dropping : goal.invariant-dropping
invariant-dropping l = (n : ℕ) → n ≤ l.last → page l.pages.entries n ≡ page l.initial.pages.entries n

abbrev pub decreases-dropping : goal.decreases-dropping
decreases-dropping l = btree_map_len l.pages
