use Rattle.sftp_serving.proofs.RunLaws.{styled}
use Rattle.sftp_serving.proofs.serving.serve.Goals as goal

pub returns : goal.returns
returns g c = styled _ _ _ _ _ _ _ _ c.in_ok-conduct.ensures c.serve_at.ensures
