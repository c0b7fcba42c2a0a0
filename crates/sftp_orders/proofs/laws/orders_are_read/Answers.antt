use Rattle.sftp_orders.proofs.Reading.{orders-read}
use Rattle.sftp_orders.proofs.laws.orders_are_read.Goals as goal

pub returns : goal.returns
returns c = λ names piece places few small are_names are_places.
    orders-read names piece places few small are_names are_places
