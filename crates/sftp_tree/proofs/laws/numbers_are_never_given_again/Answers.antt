use Rattle.sftp_tree.proofs.KeptTrees.{not-given, named-given}
use Rattle.sftp_tree.proofs.Requests.Rows.{made-stays}
use Rattle.sftp_tree.proofs.laws.numbers_are_never_given_again.Goals as goal

pub returns : goal.returns
returns c = record { outcome = made-stays; after = made-stays; files = not-given; names = named-given }
