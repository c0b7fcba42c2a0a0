-- The names so far are in the set, and none came twice.
use Rattle.sftp_listing.proofs.Imports.{◌≡◌, ℕ, List, true, take, is_eq, list_any, name_cmp, is_among, are_distinct}
use Rattle.sftp_listing.proofs.strike.are_distinct.Given as goal

abbrev pub invariant-loop-name : goal.invariant-loop-name
invariant-loop-name l = record {
  seen : (q : List ℕ)
      → list_any (λ name. is_eq (name_cmp q name.now)) l.seen.keys ≡ is_among q (take l.name-index l.names);
  distinct : are_distinct (take l.name-index l.names) ≡ true;
}
