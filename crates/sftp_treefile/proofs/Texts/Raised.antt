-- Files with other limits.
use Rattle.sftp_treefile.proofs.Imports.{◌≡◌, ℕ, ◌≤◌, ◌<◌, List, [], ◌∷◌, ◌++◌, length, sym, ap, refl, arith, suc, zero}
use Rattle.sftp_treefile.proofs.Imports.{drop, get_or, Row, Kind, TreeLimits, AreLimits, AreRaised, AreRows, IsKind}
use Rattle.sftp_treefile.proofs.Imports.{contents_length, content_length, most_limits, highest_limits, max}
use Rattle.sftp_treefile.specs.declared.files.Kind.TheVariants.{Dir, First, Further, Link}
use Rattle.sftp_treefile.specs.declared.files.TreeFile.{TreeFile}
use Rattle.sftp_treefile.specs.TreeFile.{IsTreeFile, longest, raised_limits, fitting_limits}
use Rattle.sftp_treefile.proofs.Texts.{most_are, rows_wider}

-- a file may have other limits that hold its rows
pub with_limits : (file : TreeFile) (limits : TreeLimits) → IsTreeFile file → AreLimits limits
    → length file.rows ≤ limits.entries → contents_length file.rows ≤ limits.total_bytes
    → AreRows limits [] file.rows → IsTreeFile (record file { limits = limits })
with_limits file limits is are count total rows = record {
  limits = are;
  home = is.home;
  uid = is.uid;
  gid = is.gid;
  count = count;
  root = is.root;
  rows = rows;
  total = total;
  times = is.times;
}

-- ---- the most, and the highest

pub most_hold : (file : TreeFile) → IsTreeFile file → IsTreeFile (record file { limits = most_limits })
most_hold file is = with_limits file most_limits is most_are (omega (arith, is.count, is.limits.entries.1))
    (omega (arith, is.total, is.limits.total_bytes.1))
    (rows_wider file.limits most_limits is.limits.file_bytes.1 [] file.rows is.rows)

pub raised_fit : (limits : TreeLimits) → AreLimits limits → AreLimits (raised_limits limits)
raised_fit limits are = record {
  entries = (omega arith, omega (arith, are.entries.1));
  file_bytes = (omega arith, omega (arith, are.file_bytes.1));
  read_bytes = (omega arith, omega (arith, are.read_bytes.1));
  open_handles = (omega arith, omega (arith, are.open_handles.1));
  total_bytes = are.total_bytes;
}

pub raised_hold : (file : TreeFile) → IsTreeFile file → IsTreeFile (record file { limits = raised_limits file.limits })
raised_hold file is =
    let limits = file.limits in
    let higher : limits.file_bytes ≤ (raised_limits limits).file_bytes = omega arith in
    with_limits file (raised_limits limits) is (raised_fit limits is.limits) (omega (arith, is.count)) is.total
    (rows_wider limits (raised_limits limits) higher [] file.rows is.rows)

pub raised_highest : (limits : TreeLimits) → AreRaised limits → raised_limits limits ≡ highest_limits
raised_highest limits are =
    let entries : max highest_limits.entries limits.entries ≡ highest_limits.entries = omega (arith, are.entries.1) in
    let file_bytes : max highest_limits.file_bytes limits.file_bytes ≡ highest_limits.file_bytes = omega (arith, are.file_bytes.1) in
    let read_bytes : max highest_limits.read_bytes limits.read_bytes ≡ highest_limits.read_bytes = omega (arith, are.read_bytes.1) in
    let open_handles : max highest_limits.open_handles limits.open_handles ≡ highest_limits.open_handles = omega (arith, are.open_handles.1) in
    let total_bytes : limits.total_bytes ≡ highest_limits.total_bytes = omega (arith, are.total_bytes.0, are.total_bytes.1) in
    λ i. record { entries = entries i; file_bytes = file_bytes i; read_bytes = read_bytes i; open_handles = open_handles i; total_bytes = total_bytes i }

-- ---- those that fit

kind_within : (limits other : TreeLimits) (earlier : List Row) (kind : Kind) → content_length kind ≤ other.file_bytes
    → IsKind limits earlier kind → IsKind other earlier kind
kind_within limits other earlier (Dir owner) within fits = fits
kind_within limits other earlier (First owner bytes) within fits = (fits.0, within, fits.2)
kind_within limits other earlier (Further number) within fits = fits
kind_within limits other earlier (Link target) within fits = fits

rows_within : (limits other : TreeLimits) (earlier rows : List Row) → longest rows ≤ other.file_bytes
    → AreRows limits earlier rows → AreRows other earlier rows
rows_within limits other earlier [] within fit = tt
rows_within limits other earlier (row ∷ rows) within fit = (
  record { path = fit.0.path; below_root = fit.0.below_root; later = fit.0.later; parent = fit.0.parent; kind = kind_within limits other earlier row.kind (omega (arith, within)) fit.0.kind },
  rows_within limits other (earlier ++ row ∷ []) rows (omega (arith, within)) fit.1,
)

row_longest : (limits : TreeLimits) (earlier : List Row) (kind : Kind) → IsKind limits earlier kind
    → content_length kind ≤ limits.file_bytes
row_longest limits earlier (Dir owner) fits = omega arith
row_longest limits earlier (First owner bytes) fits = fits.1
row_longest limits earlier (Further number) fits = omega arith
row_longest limits earlier (Link target) fits = omega arith

longest_within : (limits : TreeLimits) (earlier rows : List Row) → AreRows limits earlier rows
    → longest rows ≤ limits.file_bytes
longest_within limits earlier [] fit = omega arith
longest_within limits earlier (row ∷ rows) fit =
    omega (arith, row_longest limits earlier row.kind fit.0.kind, longest_within limits (earlier ++ row ∷ []) rows fit.1)

pub fitting_hold : (file : TreeFile) → IsTreeFile file → IsTreeFile (record file { limits = fitting_limits file.rows })
fitting_hold file is =
    let within = longest_within file.limits [] file.rows is.rows in
    let limits = fitting_limits file.rows in
    let are : AreLimits limits = record {
      entries = (omega arith, omega (arith, is.count, is.limits.entries.1));
      file_bytes = (omega arith, omega (arith, within, is.limits.file_bytes.1));
      read_bytes = (omega arith, omega arith);
      open_handles = (omega arith, omega arith);
      total_bytes = (omega arith, omega arith);
    } in
    let higher : longest file.rows ≤ limits.file_bytes = omega arith in
    with_limits file limits is are (omega arith) (omega (arith, is.total, is.limits.total_bytes.1))
    (rows_within file.limits limits [] file.rows higher is.rows)

-- ---- the longest, row by row

pub longest_from : (rows : List Row) (i : ℕ) (row : Row) → i < length rows → row ≡ get_or rows i row
    → longest (drop i rows) ≡ max (content_length row.kind) (longest (drop (suc i) rows))
longest_from [] i row lt is = absurd (omega arith)
longest_from (r ∷ rows) zero row lt is = ap (λ (x : Row). max (content_length x.kind) (longest rows)) (sym is)
longest_from (r ∷ rows) (suc i) row lt is = longest_from rows i row (omega arith) is

pub longest_end : (rows : List Row) (i : ℕ) → length rows ≤ i → longest (drop i rows) ≡ 0
longest_end [] zero le = refl
longest_end [] (suc i) le = refl
longest_end (r ∷ rows) zero le = absurd (omega arith)
longest_end (r ∷ rows) (suc i) le = longest_end rows i (omega arith)
