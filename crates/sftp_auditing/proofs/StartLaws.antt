-- What is read of a tree file, of which no more than the limit is looked at.
use Rattle.std.proofs.Common.{arith, ◌≡◌, ◌∙◌, ◌≤◌, ◌+◌, ◌-◌, ◌<◌, ◌^◌, ℕ, List, Option, Some, Result, Ok, Err}
use Rattle.std.proofs.Common.{sym, subst, ap, length}
use Rattle.std.proofs.lemmas.List.{take_all}
use Rattle.std.proofs.lemmas.Result.{IfOk-weaker}
use Rattle.std.specs.Prelude.{min, option_map, take, unwrap_or}
use Rattle.std.specs.Result.{IfOk}
use Rattle.sftp_treefile.specs.declared.errors.TreeError.{TreeError}
use Rattle.sftp_treefile.specs.declared.errors.TreeError.TheVariants as tree_errors
use Rattle.sftp_tree.specs.Tree.{Tree}
use Rattle.sftp_tree.specs.Picture.{IsStart, GivesTreeUnless}
use Rattle.sftp_files.specs.declared.messages.Failure.{Failure}
use Rattle.sftp_verdicts.specs.Files.{IsWithin}
use Rattle.sftp_auditing.specs.Starts.{IsStartOf, IsJudgedStart}

module _ (bytes : List ℕ) (read : Result Tree TreeError) (found : IfOk read (λ start. IsStart start bytes))
    (only : (start : Tree) → IsStart start bytes → GivesTreeUnless read start)
  where
    pub start_is : (told : Result Tree TreeError) → IsJudgedStart read told → IsStartOf bytes told
    start_is (Ok start) is = subst (λ (r : Result Tree TreeError). IfOk r (λ start. IsStart start bytes)) is found
    start_is (Err tree_errors.NoMemory) is = tt
    start_is (Err (tree_errors.Io entry)) is = absurd (is.1 tt)
    start_is (Err error) is = λ start.
        subst (λ (r : Result Tree TreeError). GivesTreeUnless r start.0) is.0 (only start.0 start.1)

-- no more than the limit and one byte is read
module _ (known left : Option (List ℕ)) (limit : Option ℕ) (more : ℕ) (same : left ≡ option_map (take more) known)
    (enough : (count : ℕ) → count ≤ unwrap_or limit (2 ^ 64 - 1) → count ≤ more)
  where
    left_is : (bytes : List ℕ) → known ≡ Some bytes → IsWithin limit bytes → left ≡ Some bytes
    left_is bytes is within =
        same ∙ ap (option_map (take more)) is ∙ ap Some (take_all more bytes (enough (length bytes) within))

    pub start_within : (read : Result Tree TreeError)
        → IfOk read (λ start. (bytes : List ℕ) → left ≡ Some bytes → IsStart start bytes)
        → ((bytes : List ℕ) → left ≡ Some bytes → (start : Tree) → IsStart start bytes → GivesTreeUnless read start)
        → (result : Result (Result Tree TreeError) Failure) → IfOk result (IsJudgedStart read)
        → IfOk result (λ told. (bytes : List ℕ) → known ≡ Some bytes → IsWithin limit bytes → IsStartOf bytes told)
    start_within read found only (Ok told) judged = λ bytes is within.
        let all = left_is bytes is within in
        start_is bytes read (IfOk-weaker read _ _ (λ start from. from bytes all) found) (only bytes all) told judged
    start_within read found only (Err failure) judged = tt

pub one_more_fits : (most more count : ℕ) → more ≡ min (most + 1) (2 ^ 64 - 1) → most < 2 ^ 64 → count ≤ most
    → count ≤ more
one_more_fits most more count sum fits within = omega (arith, sum, fits, within)
