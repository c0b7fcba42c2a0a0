-- Files with the first and the second opening have the bytes that they would have if there were no third.
use Rattle.sftp_treefile.proofs.Imports.{◌≡◌, ℕ, ◌≤◌, ◌*◌, ◌^◌, Bool, true, false, List, [], ◌∷◌, ◌++◌, length, sym}
use Rattle.sftp_treefile.proofs.Imports.{ap, subst, refl, ◌∙◌, ◌||◌, arith, flat_map, Row, Kind, Times}
use Rattle.sftp_treefile.proofs.Imports.{TreeLimits, AreRows, IsKind, row_text, kind_text}
use Rattle.sftp_treefile.proofs.Imports.{spelled, spelled_after, opening_of, opening_by, is_wide, is_long, length_text}
use Rattle.sftp_treefile.proofs.Imports.{are_own, are_far, any_times, contents_length, content_length, file_letter}
use Rattle.sftp_treefile.proofs.Imports.{owner_text, string, false≢true, AreFileTimes}
use Rattle.std.proofs.lemmas.Bool.{lt-leb}
use Rattle.sftp_treefile.specs.declared.files.TreeFile.{TreeFile}
use Rattle.sftp_treefile.specs.declared.files.Kind.TheVariants.{Dir, First, Further, Link}
use Rattle.sftp_treefile.specs.TreeFile.{IsTreeFile}
use Rattle.sftp_treefile.specs.TwoOpenings.{IsOfTwo, two_spelled, two_kind_text, two_row_text, two_opening}
use Rattle.sftp_treefile.specs.TwoOpenings.{two_limits_text}
use Rattle.sftp_treefile.proofs.Imports.{uint32, entries_text, times_of_rows}
use Rattle.sftp_treefile.proofs.Texts.{or_false, not_far, raised_are, raised_near}
use Rattle.sftp_treefile.proofs.Texts.Files.{wide_by}

-- ---- the sum of all contents is bounded by the number of entries

row_small : (limits : TreeLimits) → limits.file_bytes ≤ 67108864 → (earlier : List Row) (kind : Kind)
    → IsKind limits earlier kind → content_length kind ≤ 67108864
row_small limits bound earlier (Dir owner) fits = omega arith
row_small limits bound earlier (First owner bytes) fits = omega (arith, bound, fits.1)
row_small limits bound earlier (Further number) fits = omega arith
row_small limits bound earlier (Link target) fits = omega arith

rows_small : (limits : TreeLimits) → limits.file_bytes ≤ 67108864 → (earlier rows : List Row)
    → AreRows limits earlier rows → contents_length rows ≤ 67108864 * length rows
rows_small limits bound earlier [] fit = omega arith
rows_small limits bound earlier (row ∷ rows) fit =
    omega (arith, row_small limits bound earlier row.kind fit.0.kind, rows_small limits bound (earlier ++ row ∷ []) rows fit.1)

pub two_kept : (file : TreeFile) → IsOfTwo file → IsTreeFile file
two_kept file two = record {
  limits = raised_are file.limits two.limits;
  home = two.home;
  uid = two.uid;
  gid = two.gid;
  count = two.count;
  root = two.root;
  rows = two.rows;
  total = omega (
    arith,
    rows_small file.limits two.limits.file_bytes.1 [] file.rows two.rows,
    two.count,
    two.limits.entries.1,
    two.limits.total_bytes.0,
  );
  times = subst (AreFileTimes file.rows) (sym two.times) tt;
}

-- ---- the opening

two_near : (file : TreeFile) → IsOfTwo file → any_times file.times || are_far file.limits ≡ false
two_near file two = λ i. any_times (two.times i) || raised_near file.limits two.limits i

pub two_narrow : (file : TreeFile) → IsOfTwo file → is_wide (opening_of file) ≡ false
two_narrow file two = wide_by (any_times file.times || are_far file.limits) (are_own file.limits) ∙ two_near file two

no_times_by : (rows : List Row) (times : List Times) → AreFileTimes rows times → any_times times ≡ false → times ≡ []
no_times_by rows [] are none = refl
no_times_by rows (t ∷ times) are none = absurd (false≢true (sym none ∙ are.2))

pub two_only : (file : TreeFile) → IsTreeFile file → is_wide (opening_of file) ≡ false → IsOfTwo file
two_only file is narrow =
    let near = or_false (any_times file.times) (are_far file.limits)
    (sym (wide_by (any_times file.times || are_far file.limits) (are_own file.limits)) ∙ narrow) in
    record {
      limits = not_far file.limits is.limits near.1;
      home = is.home;
      uid = is.uid;
      gid = is.gid;
      count = is.count;
      root = is.root;
      rows = is.rows;
      times = no_times_by file.rows file.times is.times near.0;
    }

-- ---- the bytes

two_kind : (limits : TreeLimits) → limits.file_bytes ≤ 67108864 → (earlier : List Row) (kind : Kind)
    → IsKind limits earlier kind → kind_text kind ≡ two_kind_text kind
two_kind limits bound earlier (Dir owner) fits = refl
two_kind limits bound earlier (First owner bytes) fits =
    let short : is_long (length bytes) ≡ false = lt-leb (2 ^ 32) (length bytes) (omega (arith, bound, fits.1)) in
    ap (λ (long : Bool). file_letter long ∷ (owner_text owner ++ (length_text long (length bytes) ++ bytes))) short
two_kind limits bound earlier (Further number) fits = refl
two_kind limits bound earlier (Link target) fits = refl

two_rows : (limits : TreeLimits) → limits.file_bytes ≤ 67108864 → (earlier rows : List Row)
    → AreRows limits earlier rows → flat_map row_text rows ≡ flat_map two_row_text rows
two_rows limits bound earlier [] fit = refl
two_rows limits bound earlier (row ∷ rows) fit =
    let kind = two_kind limits bound earlier row.kind fit.0.kind in
    let rest = two_rows limits bound (earlier ++ row ∷ []) rows fit.1 in
    λ i. (string row.path ++ kind i) ++ rest i

-- without times, after an opening that is not the third
abbrev pub two_text : Bool → TreeFile → List ℕ → List ℕ
two_text own file rows =
    two_opening own ++ (string file.home ++ (uint32 file.uid ++ (uint32 file.gid
    ++ (two_limits_text own file.limits ++ (uint32 (length file.rows) ++ (owner_text file.root ++ rows))))))

after_two : (own : Bool) (file : TreeFile) → spelled_after (opening_by false own) file
    ≡ two_text own file (entries_text file.rows (times_of_rows file.times))
unfolding spelled_after
after_two false file = refl
after_two true file = refl

pub two_same : (file : TreeFile) → IsOfTwo file → spelled file ≡ two_spelled file
unfolding spelled
two_same file two =
    let own = are_own file.limits in
    let rows = two_rows file.limits two.limits.file_bytes.1 [] file.rows two.rows in
    ap (λ (far : Bool). spelled_after (opening_by far own) file) (two_near file two) ∙ after_two own file
    ∙ ap (λ (ts : List Times). two_text own file (entries_text file.rows (times_of_rows ts))) two.times
    ∙ ap (two_text own file) rows
