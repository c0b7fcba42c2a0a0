use Rattle.sftp_path.proofs.Imports.{nat_cmp, nat_cmp_total, nat_list_cmp_total, nat_cmp-IsAntisymmetric}
use Rattle.sftp_path.specs.Place.{place_cmp, bytes_cmp}
use Rattle.sftp_path.proofs.Move.{place_cmp-total, place_cmp-same, bytes_cmp-same}
use Rattle.sftp_path.proofs.Table.Laws.{same_table}
use Rattle.sftp_path.proofs.tables.same_table.Goals as goal

pub returns-clause-places : goal.returns-clause-places
returns-clause-places g c = same_table place_cmp place_cmp-total place_cmp-same

pub returns-clause-byte_strings : goal.returns-clause-byte_strings
returns-clause-byte_strings g c = same_table bytes_cmp nat_list_cmp_total bytes_cmp-same

pub returns-clause-numbers : goal.returns-clause-numbers
returns-clause-numbers g c = same_table nat_cmp nat_cmp_total nat_cmp-IsAntisymmetric
