use Rattle.std.proofs.Common.{arith}
use Rattle.sftp_wire.proofs.StreamLaws.{is_found, is_only}
use Rattle.sftp_wire.proofs.fronts.front.Goals as goal

pub returns-clause-found : goal.returns-clause-found
returns-clause-found c = is_found c.args.side c.args.bytes.now c.placed_front.result (λ i. omega (arith, c.type_inv.bytes i)) c.placed_front.ensures

pub returns-clause-only : goal.returns-clause-only
returns-clause-only c = is_only c.args.side c.args.bytes.now c.placed_front.result c.placed_front.ensures
