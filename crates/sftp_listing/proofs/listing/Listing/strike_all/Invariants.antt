-- What is left once the names so far are struck has the others still to be struck.
use Rattle.sftp_listing.proofs.Imports.{◌≡◌, drop, name_cmp, InOrder, struck}
use Rattle.sftp_listing.proofs.listing.Listing.strike_all.Given as goal

abbrev pub invariant-loop-name : goal.invariant-loop-name
invariant-loop-name l = record {
  ordered : InOrder name_cmp l.self;
  rest : struck l.self (drop l.name-index l.names) ≡ struck l.initial.self l.names;
}
