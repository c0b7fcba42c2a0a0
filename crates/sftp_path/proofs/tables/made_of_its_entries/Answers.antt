use Rattle.sftp_path.proofs.Imports.{nat_cmp, nat_cmp_total, nat_list_cmp_total, nat_cmp-IsAntisymmetric}
use Rattle.sftp_path.specs.Place.{place_cmp, bytes_cmp}
use Rattle.sftp_path.proofs.Move.{place_cmp-total, place_cmp-same, bytes_cmp-same}
use Rattle.sftp_path.proofs.Table.Laws.{from_entries-is}
use Rattle.sftp_path.proofs.tables.made_of_its_entries.Goals as goal

pub returns-clause-places : goal.returns-clause-places
returns-clause-places g c = from_entries-is place_cmp place_cmp-total place_cmp-same

pub returns-clause-byte_strings : goal.returns-clause-byte_strings
returns-clause-byte_strings g c = from_entries-is bytes_cmp nat_list_cmp_total bytes_cmp-same

pub returns-clause-numbers : goal.returns-clause-numbers
returns-clause-numbers g c = from_entries-is nat_cmp nat_cmp_total nat_cmp-IsAntisymmetric
