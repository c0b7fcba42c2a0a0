use Rattle.sftp_tree.proofs.Requests.Rows.{number-there, number-told}
use Rattle.sftp_tree.proofs.trees.Tree.open_file.Goals as goal

pub number_at-number-requires-clause-file : goal.number_at-number-requires-clause-file
number_at-number-requires-clause-file c =
    number-there c.args.self.now c.args.path.now c.args.flags c.args.attrs.now c.in_ok-places.places.old.place c.in_ok-places.ensures.well.0.place.kept c.in_ok-places.ensures.free c.in_ok-places.ensures.led.first

pub returns-clause-number : goal.returns-clause-number
returns-clause-number c =
    number-told c.args.self.now c.args.path.now c.args.flags c.args.attrs.now c.in_ok-places.places.old.place c.number_at-number.result c.in_ok-places.ensures.led.first c.number_at-number.ensures
