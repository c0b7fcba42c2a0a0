use Rattle.sftp_path.proofs.Imports.{◌≡◌, ◌≤◌, drop}
use Rattle.sftp_path.proofs.PathTexts.{good_from}
use Rattle.sftp_path.proofs.paths.good_path.Given as goal

-- what is left decides as the whole path does
abbrev pub invariant-loop-byte : goal.invariant-loop-byte
invariant-loop-byte l = record {
  decides : good_from l.component_len (drop l.byte-index l.path) ≡ good_from 0 l.path;
  short : l.component_len ≤ 255;
}
