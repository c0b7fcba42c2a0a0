use Rattle.std.proofs.Common.{refl}
use Rattle.sftp_hub.specs.Examples.{two_clients}
use Rattle.sftp_hub.proofs.TwoClients.{all, frames-fit}
use Rattle.sftp_hub.proofs.examples.one_of_two_clients_breaks.Goals as goal

pub returns : goal.returns
returns c = (record { frames = two_clients; fit = frames-fit; read = refl; ended = tt; served = all }, refl)
