-- Sessions that read nothing of a file, step by step.
use Rattle.std.proofs.Common.{ap, ◌∙◌, refl, ℕ, List, [], ◌∷◌}
use Rattle.sftp_packets.specs.declared.packets.Request.{Request}
use Rattle.sftp_packets.specs.declared.packets.Reply.{Reply}
use Rattle.sftp_transcript.specs.declared.events.Event.{Event}
use Rattle.sftp_transcript.specs.Explained.{Run, Explained, leading_pairs, exchanges_of}
use Rattle.sftp_handles.specs.State.{State}
use Rattle.sftp_handles.specs.Allowed.{Allowed}
use Rattle.sftp_laws.specs.Alike.{AreAlike, AllowedApart, hollow}
use Rattle.sftp_laws.proofs.HollowSteps.{step-alike}

pub run-alike : (number : ℕ) (one other end : State) (pairs : List (Request × Reply)) → AreAlike number one other
    → Run (AllowedApart number) one pairs end
    → (other_end : State) × Run Allowed other pairs other_end × AreAlike number end other_end
run-alike number one other end [] alike run = (other, refl, ap (hollow number) run ∙ alike)
run-alike number one other end (pair ∷ pairs) alike run =
    let next = step-alike number one other run.0 pair.0 pair.1 alike run.1 in
    let rest = run-alike number run.0 next.0 end pairs next.2 run.2 in
    (rest.0, (next.0, next.1.allowed, rest.1), rest.2)

pub explained-alike : (number : ℕ) (one other end : State) (events : List Event) → AreAlike number one other
    → Explained (AllowedApart number) one events end
    → (other_end : State) × Explained Allowed other events other_end × AreAlike number end other_end
explained-alike number one other end events alike explained =
    let found = run-alike number one other end (leading_pairs (exchanges_of events)) alike explained.run in (
      found.0,
      record { matching = explained.matching; within_window = explained.within_window; run = found.1 },
      found.2,
    )
