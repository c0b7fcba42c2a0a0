use Rattle.std.proofs.Common.{ap, ◌∙◌}
use Rattle.sftp_joint.specs.Joint.{exchanges_by}
use Rattle.sftp_joint.proofs.Joint.{exchanges-joint}
use Rattle.sftp_joint.proofs.Deeds.{exchanges-own}
use Rattle.sftp_joint.proofs.laws.each_client_has_its_replies.Goals as goal

pub returns : goal.returns
returns c = λ client moments ids. ap (exchanges_by client) (exchanges-joint moments ids) ∙ exchanges-own client moments ids
