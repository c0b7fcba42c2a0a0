use Rattle.sftp_handles.proofs.Imports.{◌≡◌, ◌≢◌, ℕ, List, length, take, min, arith, length-take}
use Rattle.sftp_treefile.specs.TreeFile.{usual_limits, highest_limits}
use Rattle.sftp_handles.proofs.Answered.LimitsAnswers.{read-given, read-other}
use Rattle.sftp_handles.proofs.examples.reads_to_the_limit.Goals as goal

-- so many bytes of a file
count : (n : ℕ) (bytes : List ℕ) → length bytes ≡ 70000 → length (take n bytes) ≡ min n 70000
count n bytes long = omega (arith, long, length-take n bytes)

differ : (bytes : List ℕ) → length bytes ≡ 70000 → length (take 32768 bytes) ≢ length (take 65536 bytes)
differ bytes long same = absurd (omega (arith, same, count 32768 bytes long, count 65536 bytes long))

differ-turned : (bytes : List ℕ) → length bytes ≡ 70000 → length (take 65536 bytes) ≢ length (take 32768 bytes)
differ-turned bytes long same = absurd (omega (arith, same, count 32768 bytes long, count 65536 bytes long))

pub returns-clause-usual : goal.returns-clause-usual
returns-clause-usual c = λ bytes long. read-given usual_limits bytes long

pub returns-clause-highest : goal.returns-clause-highest
returns-clause-highest c = λ bytes long. read-given highest_limits bytes long

pub returns-clause-too_many : goal.returns-clause-too_many
returns-clause-too_many c = λ bytes long. read-other usual_limits bytes long (take 65536 bytes) (differ bytes long)

pub returns-clause-too_few : goal.returns-clause-too_few
returns-clause-too_few c =
    λ bytes long. read-other highest_limits bytes long (take 32768 bytes) (differ-turned bytes long)
