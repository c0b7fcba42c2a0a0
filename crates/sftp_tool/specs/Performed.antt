-- What is done for a request, as far as the bytes of the program's own streams say it. This profile's own.
use Rattle.std.specs.Prelude.{List, ℕ, Option, None, Result, is_some}
use Rattle.sftp_files.specs.declared.messages.Ending.{Ending}
use Rattle.sftp_files.specs.declared.messages.Failure.{Failure}
use Rattle.sftp_options.specs.declared.command_line.Request.{Request}
use Rattle.sftp_options.specs.declared.command_line.Request.TheVariants as requests
use Rattle.sftp_server.specs.Served.{stream_bytes}
use Rattle.sftp_serving.specs.Runs.{Runs, wish, run_bytes}

-- `serve` runs a session on what standard input has left and standard output was given. Of another request nothing is
-- said here.
abbrev pub Performs : Request → Option (List ℕ) → Option (List ℕ) → Option (List ℕ) → Option (List ℕ)
    → Result Ending Failure → Type 0
Performs (requests.Serve options style) input0 input1 output0 output1 result =
    Runs (wish (is_some style.variation) style.has_times (is_some options.save)) options.memory None
    (run_bytes (stream_bytes input0 output0 None) None) (run_bytes (stream_bytes input1 output1 None) None) result
Performs other input0 input1 output0 output1 result = Unit {0}
