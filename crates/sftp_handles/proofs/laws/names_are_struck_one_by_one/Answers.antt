use Rattle.sftp_listing.proofs.FirstNames.{struck-none, struck-first}
use Rattle.sftp_handles.proofs.laws.names_are_struck_one_by_one.Goals as goal

pub returns : goal.returns
returns c = record { none = struck-none; first = struck-first }
