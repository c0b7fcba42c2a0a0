use Rattle.sftp_server.proofs.Imports.{Result, sym, subst, Stop, Front, TakesOn}
use Rattle.sftp_server.proofs.Sessions.Asked.{takes-refused}
use Rattle.sftp_server.proofs.taking.take_request.Goals as goal

pub returns-in-Some-clause-running : goal.returns-in-Some-clause-running
returns-in-Some-clause-running g c =
    let ahead = c.args.input.now in
    let core = c.args.core.now in
    let logged = c.args.log.now.bytes in
    subst (λ (result : Result Front Stop). TakesOn ahead ahead core core logged logged result)
    (sym c.refused-front.ensures)
    (takes-refused ahead core logged c.args.request c.args.count c.in-Some.refuse c.requires.whole
    (λ is. (c.in-Some.ensures.in_use.0 is).1))
