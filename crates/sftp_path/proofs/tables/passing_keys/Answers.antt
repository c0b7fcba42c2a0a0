use Rattle.sftp_path.proofs.Imports.{nat_cmp, nat_cmp-IsAntisymmetric}
use Rattle.sftp_path.specs.Place.{place_cmp, bytes_cmp}
use Rattle.sftp_path.proofs.Move.{place_cmp-same, bytes_cmp-same}
use Rattle.sftp_path.proofs.Table.Entries.{keys-put_again}
use Rattle.sftp_path.proofs.tables.passing_keys.Goals as goal

pub returns-clause-places : goal.returns-clause-places
returns-clause-places g c = keys-put_again place_cmp place_cmp-same

pub returns-clause-byte_strings : goal.returns-clause-byte_strings
returns-clause-byte_strings g c = keys-put_again bytes_cmp bytes_cmp-same

pub returns-clause-numbers : goal.returns-clause-numbers
returns-clause-numbers g c = keys-put_again nat_cmp nat_cmp-IsAntisymmetric
