-- The bytes held, or as many as are asked for.
use Rattle.sftp_treefile.proofs.Imports.{◌≡◌, ◌++◌, min, take, length, rules, arith, ahead_without}
use Rattle.sftp_treefile.proofs.Texts.Front.{some_taken}
use Rattle.sftp_treefile.proofs.pieces.take_some.Goals as goal

pub returns-clause-found : goal.returns-clause-found
returns-clause-found g c =
    let m = c.hold_some.new.input in
    let count = c.min-count.result in
    let is : count ≡ min (length m.held) c.args.missing = grind arith in
    let new : c.take.new.self ≡ ahead_without count m = search rules in
    let longer : c.extend_from_slice.new.self.items ≡ c.args.bytes.now.items ++ take count m.held = search rules in
    rw (new, longer) (some_taken c.args.input.now m c.hold_some.ensures.same count c.args.missing c.in_ok-hold_some.ensures.some is c.requires c.args.bytes.now.items)
