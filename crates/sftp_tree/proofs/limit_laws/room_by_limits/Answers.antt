-- The numbers are computed.
use Rattle.sftp_tree.proofs.Imports.{◌&&◌, nat_le, [], depth_fits}
use Rattle.sftp_tree.proofs.limit_laws.room_by_limits.Goals as goal

pub returns-clause-usual : goal.returns-clause-usual
returns-clause-usual c = λ t place bounds count i. nat_le (count i) (bounds i).entries && depth_fits place

pub returns-clause-highest : goal.returns-clause-highest
returns-clause-highest c = λ t bounds count i. nat_le (count i) (bounds i).entries && depth_fits []

pub returns-clause-full : goal.returns-clause-full
returns-clause-full c = λ t place bounds count i. nat_le (count i) (bounds i).entries && depth_fits place
