-- The entries so far are what the rows so far say, and the others may come after them.
use Rattle.sftp_tree.proofs.Imports.{◌≡◌, ◌≤◌, ◌<◌, ◌^◌, [], ◌++◌, length, most_limits, AreRows, names_in, place_in}
use Rattle.std.specs.Vec.Iter.{into_iter_items, into_iter_len}
use Rattle.sftp_treefile.specs.TreeFile.{contents_length}
use Rattle.sftp_tree.specs.PictureParts as parts
use Rattle.sftp_tree.proofs.TreeFiles.Growing.{IsOpen}
use Rattle.sftp_tree.proofs.pictures.rows.grow.Given as goal

abbrev pub invariant-loop-row : goal.invariant-loop-row
invariant-loop-row l = record {
  items : l.yielded ++ into_iter_items l.row-iterator ≡ into_iter_items l.initial.row-iterator;
  count : into_iter_len l.row-iterator ≡ length (into_iter_items l.row-iterator);
  few : length (l.yielded ++ into_iter_items l.row-iterator) ≤ most_limits.entries;
  room : contents_length (l.yielded ++ into_iter_items l.row-iterator) < 2 ^ 63;
  before : AreRows most_limits [] l.yielded;
  rows : AreRows most_limits l.yielded (into_iter_items l.row-iterator);
  grown : parts.IsGrown l.fn.root l.yielded (names_in l.growth) l.files;
  above : IsOpen l.yielded (place_in l.growth);
  numbers : l.numbers.items ≡ parts.numbers_from 0 l.yielded;
}
