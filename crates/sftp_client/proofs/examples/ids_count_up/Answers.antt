use Rattle.std.proofs.Common.{◌<◌, ℕ, zero, suc, ◌∷◌, [], IsSome, refl, arith}
use Rattle.sftp_client.specs.Client.{open_at, id_after}
use Rattle.sftp_client.specs.Examples.{stat, read}
use Rattle.sftp_client.proofs.examples.ids_count_up.Goals as goal

-- the last id of all and the first are open
skipped : (places : ℕ) → places < 2
    → IsSome (open_at ((0xffff_ffff, stat) ∷ (0, read) ∷ []) (id_after 0xffff_ffff places))
skipped zero within = refl
skipped (suc zero) within = refl
skipped (suc (suc places)) within = absurd (omega (arith, within))

pub returns-clause-after_the_last : goal.returns-clause-after_the_last
returns-clause-after_the_last c = record {
  free = refl;
  id_is = record { skipped = 2; behind = refl; free = refl; taken = skipped };
  new_is = refl;
}
