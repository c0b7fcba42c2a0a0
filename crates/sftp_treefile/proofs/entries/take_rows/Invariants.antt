-- The entries so far are taken.
use Rattle.sftp_treefile.proofs.Imports.{◌≡◌, ◌-◌, ◌≤◌, IsLast, TakesRows, contents_length}
use Rattle.sftp_treefile.proofs.entries.take_rows.Given as goal

abbrev pub invariant-more : goal.invariant-more
invariant-more g l = record {
  within : l.done ≤ l.count;
  last : IsLast l.entries.rows.items l.entries.last l.entries.is_dir;
  total : l.entries.total ≡ contents_length l.entries.rows.items;
  room : l.entries.total ≤ l.limits.total_bytes;
  taken : TakesRows l.is_wide l.limits l.fn.root l.initial.input l.entries.rows.items l.entries.times.items l.done l.input;
}

abbrev pub decreases-more : goal.decreases-more
decreases-more g l = l.count - l.done
