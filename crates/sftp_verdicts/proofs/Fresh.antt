-- A reader that has read nothing yet, of a stream whose bytes are known.
use Rattle.std.proofs.Common.{◌≡◌, ℕ, List, [], Option, Some, None, refl, sym, subst}
use Rattle.sftp_transcript.specs.declared.stage.Stage.TheVariants as stages
use Rattle.sftp_transcript.specs.Recorded.{Reading}
use Rattle.sftp_audit.specs.Audit.{IsNew}

abbrev fresh : Option (List ℕ) → ℕ → ℕ → Reading
fresh left failures reads = record {
  ahead = record { held = []; left = left; failures = failures; reads_left = reads };
  stage = stages.Opening;
  number = 3;
  fault = None;
}

fresh-is_new : (bytes : List ℕ) (failures reads : ℕ) → IsNew bytes (fresh (Some bytes) failures reads)
fresh-is_new bytes failures reads =
    (record { ahead_are = refl; read = (refl, refl); number = refl; faultless = refl }, refl)

pub is_new : (known left : Option (List ℕ)) (failures reads : ℕ) (records : Reading) → left ≡ known
    → records ≡ fresh left failures reads → (bytes : List ℕ) → known ≡ Some bytes → IsNew bytes records
is_new known left failures reads records same are bytes is =
    subst (IsNew bytes) (sym are)
    (subst (λ (o : Option (List ℕ)). IsNew bytes (fresh o failures reads)) (sym same)
    (subst (λ (o : Option (List ℕ)). IsNew bytes (fresh o failures reads)) (sym is)
    (fresh-is_new bytes failures reads)))
