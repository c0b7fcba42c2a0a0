-- The head is read; no entries follow, and no time is known.
use Rattle.sftp_treefile.proofs.Imports.{◌≡◌, [], ◌∷◌, List, refl, sym, subst, ◌∙◌, false≢true, arith, hex, components}
use Rattle.sftp_treefile.proofs.Imports.{parts, Head, usual_limits, Reads, IsHead, head_bytes, nil_from_length, IsTrue}
use Rattle.sftp_treefile.proofs.Imports.{is_lowest, kept, times_in, no_times, length}
use Rattle.sftp_treefile.specs.declared.limits.Opening.TheVariants.{Wide}
use Rattle.sftp_treefile.specs.Examples.{lower_bytes}
use Rattle.sftp_treefile.proofs.Texts.{usual_are, raised_are, raised_near}
use Rattle.sftp_treefile.proofs.Texts.Heads.{Entry}
use Rattle.sftp_treefile.proofs.Texts.Files.{no_file_entries}
use Rattle.sftp_treefile.proofs.examples.lower_file.Goals as goal

pub returns-clause-length : goal.returns-clause-length
unfolding hex
returns-clause-length c = refl

head : Head
head = record { opening = Wide; limits = usual_limits; home = 47 ∷ []; uid = 0; gid = 0; count = 0; root = record { uid = 0; gid = 0; permissions = 0o755 }; root_times = no_times }

head-read : Reads IsHead head_bytes lower_bytes head []
unfolding components parts hex head
head-read = (
  record {
    limits = raised_are usual_limits usual_are;
    home = record { names = refl; depth = omega arith; one = refl };
    uid = omega arith;
    gid = omega arith;
    count = omega arith;
    root = ((omega arith, omega arith, omega arith), (omega arith, omega arith));
  },
  refl,
)

lower : (entries : List Entry) → length entries ≡ 0
    → IsTrue (is_lowest Wide usual_limits (kept (no_times ∷ times_in entries))) → ⊥
lower entries none lowest =
    let is : IsTrue (is_lowest Wide usual_limits (kept (no_times ∷ []))) =
    subst (λ (es : List Entry). IsTrue (is_lowest Wide usual_limits (kept (no_times ∷ times_in es)))) (nil_from_length entries none) lowest in
    false≢true (sym (raised_near usual_limits usual_are) ∙ is)

pub returns-clause-none : goal.returns-clause-none
unfolding head
returns-clause-none c = no_file_entries lower_bytes [] head head-read (λ entries tail fit count lowest e. lower entries count lowest)
