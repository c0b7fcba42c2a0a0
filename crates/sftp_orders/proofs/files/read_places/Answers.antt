-- A place that cannot be read is the first fault.
use Rattle.std.proofs.Common.{rules, suc, length}
use Rattle.std.proofs.lemmas.Result.{err_from_is_err_and}
use Rattle.sftp_orders.proofs.Reading.{places_fault}
use Rattle.sftp_orders.proofs.files.read_places.Goals as goal

pub returns-in_err-session : goal.returns-in_err-session
returns-in_err-session c =
    let p = err_from_is_err_and c.from_residual.result c.from_residual.ensures.1 in
    rw (p.1, p.2)
    (places_fault c.places.places.items c.places.places.items c.args.count (suc (length c.places.places.items))
    c.places.rest.now c.in_err-session.field-0.0 _ c.places.invariant (search rules) (search rules))
