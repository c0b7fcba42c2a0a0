use Rattle.sftp_handles.proofs.Imports.{ap, ◌∙◌, nat_lt, lt-ltb, times_open}
use Rattle.sftp_handles.proofs.Good.Pins.{pins-times}
use Rattle.sftp_handles.proofs.Good.{good-settled, good-opens}
use Rattle.sftp_handles.proofs.laws.good_states_are_settled.Goals as goal

pub returns : goal.returns
returns c = record {
  settled = good-settled;
  open_files = λ s number good opened.
      good-opens s good number
      (ap (nat_lt 0) (pins-times s.handles number) ∙ lt-ltb 0 (times_open s.handles number) opened);
}
