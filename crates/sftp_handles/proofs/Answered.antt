-- The answers that this program gives.
use Rattle.sftp_handles.proofs.Imports.{◌≡◌, ◌&&◌, ℕ, false, [], Some, None, IsTrue, lit<, and_from, not-false, Ask}
use Rattle.sftp_handles.proofs.Imports.{Answer, Cause, Unknown, CauseSet, allows, allow, State, causes, step, IsDone}
use Rattle.sftp_handles.proofs.Imports.{IsJudged, refusal_code, purpose_of, IsAnswered, status_of}
use Rattle.sftp_packets.specs.declared.requests.Ask.TheVariants as asks
use Rattle.sftp_handles.specs.declared.requests.Purpose.TheVariants as purposes
use Rattle.sftp_handles.proofs.Judged.{done-step}
use Rattle.sftp_handles.proofs.Judged.{some-holds, refused-step, judged-refused, unlike}
use Rattle.sftp_handles.proofs.OpenFiles.{cause-holds}
use Rattle.sftp_handles.proofs.TotalSteps.SaidReplies.{status-spelled}
pub mod LimitsAnswers
pub mod NameReplies

-- ==== The answers that are given are steps: refusals with a code that their cause allows, and what was done.

-- ---- refusals

-- a cause that holds allows each of its codes
allow-by : (set : CauseSet) (cause : Cause) (code : ℕ) → IsTrue (set cause) → IsTrue (allows cause code)
    → IsTrue (allow set code)
allow-by set cause code holds allowed =
    not-false (allow set code)
    (some-holds (λ c. set c && allows c code) cause (and_from (set cause) (allows cause code) holds allowed))

pub refusal-step : (s : State) (ask : Ask) (cause : Cause) (code : ℕ) → IsTrue (causes s ask cause)
    → IsTrue (allows cause code) → step s ask (status_of code) ≡ Some s
refusal-step s ask cause code holds allowed =
    refused-step s ask (status_of code) (allow-by (causes s ask) cause code holds allowed)

-- an extension that is not known is refused
pub unknown-refused : (s : State) (ask : Ask) → purpose_of ask ≡ purposes.Unknown → IsTrue (causes s ask Unknown)
unfolding causes
unknown-refused s (asks.Unknown name rest) is = cause-holds Unknown
unknown-refused s other is = absurd cc

pub judged-unknown : (s : State) (ask : Ask) (answer : Answer) → purpose_of ask ≡ purposes.Unknown
    → refusal_code answer ≡ None → IsJudged s ask answer false s
judged-unknown s ask answer is code =
    judged-refused s ask answer Unknown (unknown-refused s ask is) (unlike s ask answer code)

-- ---- what was done

pub answered-step : (s : State) (ask : Ask) (answer : Answer) (end : State) → IsAnswered s ask answer end
    → step s ask answer ≡ Some end
answered-step s ask answer end answered = done-step s ask answer end answered.does

-- a request that says OK
pub answered-ok : (s : State) (ask : Ask) (end : State) → IsDone s ask end → IsAnswered s ask (status_of 0) end
answered-ok s ask end done = record { does = done [] []; spelled = status-spelled 0 (lit< tt) }
