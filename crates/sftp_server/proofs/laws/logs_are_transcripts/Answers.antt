use Rattle.sftp_server.proofs.Imports.{refl, version_spelled}
use Rattle.sftp_server.specs.Served.{usual}
use Rattle.sftp_server.proofs.Sessions.Closed.{log-is-transcript}
use Rattle.sftp_server.proofs.laws.logs_are_transcripts.Goals as goal

pub returns : goal.returns
returns c = record {
  usual = λ start input output log init events rest.
      log-is-transcript (usual start) input output log init events rest refl version_spelled;
  announced = log-is-transcript;
}
