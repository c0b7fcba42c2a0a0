use Rattle.sftp_joint.proofs.Joint.{joint-injective}
use Rattle.sftp_joint.proofs.Ownership.{handle-injective}
use Rattle.sftp_joint.proofs.laws.joint_names_are_apart.Goals as goal

pub returns-clause-ids : goal.returns-clause-ids
returns-clause-ids c client id other next fits fits_next same = joint-injective client id other next fits fits_next same

pub returns-clause-handles : goal.returns-clause-handles
returns-clause-handles c client other handle name fits fits_other same =
    handle-injective client other handle name fits fits_other same
