use Rattle.sftp_packets.proofs.PacketLaws.{encoded-ask}
use Rattle.sftp_tree.proofs.laws.encoded_requests_are_values.Goals as goal

pub returns : goal.returns
returns c = encoded-ask
