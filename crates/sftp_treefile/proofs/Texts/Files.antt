-- What a tree file says is a head and its entries, and each tree file says one thing.
use Rattle.sftp_treefile.proofs.Imports.{◌≡◌, ℕ, ◌<◌, List, [], ◌++◌, length, sym, ap, subst, ◌∙◌, append_assoc}
use Rattle.sftp_treefile.proofs.Imports.{arith, inl, inr, flat_map, append-nil, nil_from_length, TreeError, Row, Head}
use Rattle.sftp_treefile.proofs.Imports.{TreeLimits, Opening, Times, row_text, spelled, spelled_after, AreRows, Reads}
use Rattle.sftp_treefile.proofs.Imports.{head_bytes, head_of, IsHead, AreRead, suc, zero, ◌^◌, ◌∷◌, get_or}
use Rattle.sftp_treefile.proofs.Imports.{Kind, IsKind, KindHasLengths, HasLengths, ◌+◌, ◌≤◌, Bool, true, false, refl}
use Rattle.sftp_treefile.proofs.Imports.{length-append, string, uint32, Owner, owner_text, kind_text}
use Rattle.sftp_treefile.proofs.Imports.{tree_opening, limits_text, front_text, root_text, IsFileStart, IsTrue, ◌||◌}
use Rattle.sftp_treefile.proofs.Imports.{file_start_text, Follows, window, are_own, are_far, is_lowest}
use Rattle.sftp_treefile.proofs.Imports.{AreLimits, AreSet, usual_limits, is_wide, opening_by, opening_with}
use Rattle.sftp_treefile.proofs.Imports.{opening_of, has_times, no_times, any_times, entry_text, entries_text, timed_text}
use Rattle.sftp_treefile.proofs.Imports.{times_of_root, times_of_rows, root_owner_text, AreTimes, AreTimesOf, AreTimesIn}
use Rattle.sftp_treefile.proofs.Imports.{AreFileTimes, MayHaveTimes, IsLengthIn, IsOfOpening, AreEntries, paired}
use Rattle.sftp_treefile.proofs.Imports.{kept, kept_by, rows_in, times_in, contents_length}
use Rattle.sftp_treefile.proofs.Imports.{IsTimedKind, length_text, is_long, file_letter}
use Rattle.sftp_treefile.proofs.Imports.{times_text, owned_text, OutOfMemoryOr}
use Rattle.sftp_treefile.specs.declared.limits.Opening.TheVariants.{Usual, Raised, Wide}
use Rattle.sftp_treefile.specs.declared.errors.TreeError.TheVariants.{NoMemory}
use Rattle.sftp_treefile.specs.declared.files.TreeFile.{TreeFile}
use Rattle.sftp_treefile.specs.TreeFile.{IsTreeFile, IsSpelled, is_first}
use Rattle.sftp_treefile.proofs.Texts.{or_false, not_far, not_own, raised_are, raised_near, usual_are, usual_not_own}
use Rattle.sftp_treefile.proofs.Texts.{path_length, target_length, path_short, target_short}
use Rattle.sftp_treefile.proofs.Texts.Entries.{none_known}
use Rattle.sftp_treefile.proofs.Texts.Heads.{Entry, head_front, entries_are_one, contents_more}
use Rattle.sftp_treefile.specs.declared.files.Kind.TheVariants.{First, Link, Dir, Further}

-- ---- openings

pub wide_by : (far own : Bool) → is_wide (opening_by far own) ≡ far
wide_by true own = refl
wide_by false true = refl
wide_by false false = refl

-- the limits of a tree are those after its opening
set_by : (far own : Bool) (limits : TreeLimits) → AreLimits limits → (far ≡ false → are_far limits ≡ false)
    → are_own limits ≡ own → AreSet (opening_by far own) limits
set_by true own limits are near owned = are
set_by false true limits are near owned = (not_far limits are (near refl), owned)
set_by false false limits are near owned = not_own limits owned

pub limits_set : (timed : Bool) (limits : TreeLimits) → AreLimits limits → AreSet (opening_with timed limits) limits
limits_set timed limits are = set_by (timed || are_far limits) (are_own limits) limits are
    (λ near. (or_false timed (are_far limits) near).1) refl

-- where the third opening is not needed, each length is a uint32
narrow : (timed : Bool) (limits : TreeLimits) → AreLimits limits → is_wide (opening_with timed limits) ≡ false
    → limits.file_bytes < 2 ^ 32
narrow timed limits are none =
    let far = or_false timed (are_far limits) (sym (wide_by (timed || are_far limits) (are_own limits)) ∙ none) in
    let raised = not_far limits are far.1 in
    omega (arith, raised.file_bytes.1)

-- and limits after an opening are those of a tree
set_are : (opening : Opening) (limits : TreeLimits) → AreSet opening limits → AreLimits limits
set_are Usual limits set = subst AreLimits (sym set) (raised_are usual_limits usual_are)
set_are Raised limits set = raised_are limits set.0
set_are Wide limits set = set

-- ---- entries, from rows and times and back

paired_rows : (rows : List Row) (times : List Times) → rows_in (paired rows times) ≡ rows
paired_rows [] times = refl
paired_rows (row ∷ rows) [] = ap (λ (rs : List Row). row ∷ rs) (paired_rows rows [])
paired_rows (row ∷ rows) (t ∷ times) = ap (λ (rs : List Row). row ∷ rs) (paired_rows rows times)

paired_length : (rows : List Row) (times : List Times) → length (paired rows times) ≡ length rows
paired_length [] times = refl
paired_length (row ∷ rows) [] = ap suc (paired_length rows [])
paired_length (row ∷ rows) (t ∷ times) = ap suc (paired_length rows times)

paired_times : (rows : List Row) (times : List Times) → AreTimesOf rows times → times_in (paired rows times) ≡ times
paired_times [] [] are = refl
paired_times [] (t ∷ times) are = absurd are
paired_times (row ∷ rows) [] are = absurd are
paired_times (row ∷ rows) (t ∷ times) are = ap (λ (ts : List Times). t ∷ ts) (paired_times rows times are.1)

-- where there are no times, none are known
none_paired : (rows : List Row) → any_times (times_in (paired rows [])) ≡ false
none_paired [] = refl
none_paired (row ∷ rows) = none_paired rows

-- the parts of entries make them
pairs_back : (entries : List Entry) → paired (rows_in entries) (times_in entries) ≡ entries
pairs_back [] = refl
pairs_back (e ∷ entries) = ap (λ (es : List Entry). e ∷ es) (pairs_back entries)

-- and without times those that have none
plain_back : (entries : List Entry) → any_times (times_in entries) ≡ false → paired (rows_in entries) [] ≡ entries
plain_back [] none = refl
plain_back (e ∷ entries) none =
    let both = or_false (has_times e.1) (any_times (times_in entries)) none in
    let time = none_known e.1 both.0 in
    let rest = plain_back entries both.1 in
    λ i. (e.0, sym time i) ∷ rest i

-- ---- texts

plain_kind : (kind : Kind) → timed_text (kind, no_times) ≡ kind_text kind
plain_kind (Dir owner) = ap (λ (l : List ℕ). 68 ∷ l) (append-nil (owner_text owner))
plain_kind (First owner bytes) =
    let behind = length_text (is_long (length bytes)) (length bytes) ++ bytes in
    ap (λ (l : List ℕ). file_letter (is_long (length bytes)) ∷ (l ++ behind)) (append-nil (owner_text owner))
plain_kind (Further number) = refl
plain_kind (Link target) = refl

-- an entry without times is its row
pub plain_entry : (row : Row) → entry_text (row, no_times) ≡ row_text row
plain_entry row = ap (λ (l : List ℕ). string row.path ++ l) (plain_kind row.kind)

plain_entries : (rows : List Row) → flat_map row_text rows ≡ flat_map entry_text (paired rows [])
plain_entries [] = refl
plain_entries (row ∷ rows) = λ i. sym (plain_entry row) i ++ plain_entries rows i

entries_same : (rows : List Row) (times : List Times)
    → entries_text rows times ≡ flat_map entry_text (paired rows times)
entries_same rows [] = plain_entries rows
entries_same [] (t ∷ times) = refl
entries_same (row ∷ rows) (t ∷ times) = ap (λ (l : List ℕ). entry_text (row, t) ++ l) (entries_same rows times)

eight : (a b c d l n r x : List ℕ) → a ++ (b ++ (c ++ (d ++ (l ++ (n ++ (r ++ x))))))
    ≡ ((a ++ (b ++ (c ++ d))) ++ (l ++ (n ++ r))) ++ x
eight a b c d l n r x = simp (append_assoc)

-- the entries of a file
unfoldable pub entries_of : TreeFile → List Entry
entries_of file = paired file.rows (times_of_rows file.times)

-- a file is its head and what follows
pub spelled_start : (file : TreeFile)
    → spelled file ≡ head_bytes (head_of file) ++ entries_text file.rows (times_of_rows file.times)
unfolding spelled spelled_after
spelled_start file =
    eight (tree_opening (opening_of file)) (string file.home) (uint32 file.uid) (uint32 file.gid)
    (limits_text (opening_of file) file.limits) (uint32 (length file.rows))
    (root_owner_text (opening_of file) (file.root, times_of_root file.times))
    (entries_text file.rows (times_of_rows file.times))

-- the same for those who write a tree by its pieces, and no times
pub spelled_plain : (file : TreeFile) → file.times ≡ []
    → spelled file ≡ head_bytes (head_of file) ++ flat_map row_text file.rows
spelled_plain file none = spelled_start file
    ∙ ap (λ (ts : List Times). head_bytes (head_of file) ++ entries_text file.rows (times_of_rows ts)) none

pub spelled_parts : (file : TreeFile) → spelled file ≡ head_bytes (head_of file) ++ flat_map entry_text (entries_of file)
unfolding entries_of
spelled_parts file = spelled_start file
    ∙ ap (λ (l : List ℕ). head_bytes (head_of file) ++ l) (entries_same file.rows (times_of_rows file.times))

-- ---- a file has a head and entries that may be

zero_times : (wide : Bool) → AreTimesIn wide no_times
zero_times false = refl
zero_times true = (omega arith, omega arith)

root_times_fit : (rows : List Row) (times : List Times) (far own : Bool) → AreFileTimes rows times
    → AreTimesIn (is_wide (opening_by (any_times times || far) own)) (times_of_root times)
root_times_fit rows [] far own are = zero_times (is_wide (opening_by far own))
root_times_fit rows (t ∷ times) far own are =
    subst (λ (b : Bool). AreTimesIn (is_wide (opening_by (b || far) own)) t) (sym are.2) are.0

head_fits : (file : TreeFile) → IsTreeFile file → IsHead (head_of file)
head_fits file fits = record {
  limits = limits_set (any_times file.times) file.limits fits.limits;
  home = fits.home;
  uid = fits.uid;
  gid = fits.gid;
  count = fits.count;
  root = (fits.root, root_times_fit file.rows file.times (are_far file.limits) (are_own file.limits) fits.times);
}

length_fits : (wide : Bool) (limits : TreeLimits) (count : ℕ) → (wide ≡ false → limits.file_bytes < 2 ^ 32)
    → limits.file_bytes < 2 ^ 64 → count ≤ limits.file_bytes → IsLengthIn wide count
length_fits false limits count short long within = omega (arith, short refl, within)
length_fits true limits count short long within = omega (arith, long, within)

module _ (wide : Bool) (limits : TreeLimits) (short : wide ≡ false → limits.file_bytes < 2 ^ 32)
    (long : limits.file_bytes < 2 ^ 64) where
  plain_of : (earlier : List Row) (kind : Kind) → IsKind limits earlier kind → IsOfOpening wide (kind, no_times)
  plain_of earlier (Dir owner) fits = zero_times wide
  plain_of earlier (First owner bytes) fits =
      (zero_times wide, length_fits wide limits (length bytes) short long fits.1)
  plain_of earlier (Further number) fits = refl
  plain_of earlier (Link target) fits = refl

  timed_of : wide ≡ true → (earlier : List Row) (kind : Kind) (times : Times) → IsKind limits earlier kind
      → MayHaveTimes kind times → IsOfOpening wide (kind, times)
  timed_of is earlier (Dir owner) times fits may = subst (λ (b : Bool). AreTimesIn b times) (sym is) may
  timed_of is earlier (First owner bytes) times fits may =
      (subst (λ (b : Bool). AreTimesIn b times) (sym is) may, length_fits wide limits (length bytes) short long fits.1)
  timed_of is earlier (Further number) times fits may = may
  timed_of is earlier (Link target) times fits may = may

  -- the rows of a file without times, and those of one with
  plain_fit : (earlier rows : List Row) → AreRows limits earlier rows
      → contents_length earlier + contents_length rows ≤ limits.total_bytes
      → AreEntries wide limits earlier (paired rows [])
  plain_fit earlier [] fit room = tt
  plain_fit earlier (row ∷ rows) fit room = (
    record { row = fit.0; room = omega (arith, room); timed = plain_of earlier row.kind fit.0.kind },
    plain_fit (earlier ++ row ∷ []) rows fit.1 (omega (arith, room, contents_more earlier row)),
  )

  timed_fit : wide ≡ true → (earlier rows : List Row) (times : List Times) → AreRows limits earlier rows
      → contents_length earlier + contents_length rows ≤ limits.total_bytes → AreTimesOf rows times
      → AreEntries wide limits earlier (paired rows times)
  timed_fit is earlier [] times fit room are = tt
  timed_fit is earlier (row ∷ rows) [] fit room are = absurd are
  timed_fit is earlier (row ∷ rows) (t ∷ times) fit room are = (
    record { row = fit.0; room = omega (arith, room); timed = timed_of is earlier row.kind t fit.0.kind are.0 },
    timed_fit is (earlier ++ row ∷ []) rows times fit.1 (omega (arith, room, contents_more earlier row)) are.1,
  )

  entries_fit_by : (rows : List Row) (times : List Times) → (any_times times ≡ true → wide ≡ true)
      → AreRows limits [] rows → contents_length rows ≤ limits.total_bytes → AreFileTimes rows times
      → AreEntries wide limits [] (paired rows (times_of_rows times))
  entries_fit_by rows [] is fit room are = plain_fit [] rows fit (omega (arith, room))
  entries_fit_by rows (t ∷ times) is fit room are = timed_fit (is are.2) [] rows times fit (omega (arith, room)) are.1

entries_fit : (file : TreeFile) → IsTreeFile file
    → AreEntries (is_wide (opening_of file)) file.limits [] (entries_of file)
unfolding entries_of
entries_fit file fits =
    let any = any_times file.times in
    let far = are_far file.limits in
    entries_fit_by (is_wide (opening_of file)) file.limits (narrow any file.limits fits.limits)
    (omega (arith, fits.limits.file_bytes.1)) file.rows file.times
    (λ known. wide_by (any || far) (are_own file.limits) ∙ ap (λ (b : Bool). b || far) known) fits.rows fits.total
    fits.times

-- ---- and is made by these

unfoldable pub file_from : Head → List Entry → TreeFile
file_from head entries = record {
  limits = head.limits;
  home = head.home;
  uid = head.uid;
  gid = head.gid;
  root = head.root;
  rows = rows_in entries;
  times = kept (head.root_times ∷ times_in entries);
}

times_back : (rows : List Row) (times : List Times) → AreFileTimes rows times
    → kept (times_of_root times ∷ times_in (paired rows (times_of_rows times))) ≡ times
times_back rows [] are =
    ap (λ (b : Bool). kept_by b (no_times ∷ times_in (paired rows []))) (none_paired rows)
times_back rows (t ∷ times) are =
    let same = ap (λ (ts : List Times). t ∷ ts) (paired_times rows times are.1) in
    ap kept same ∙ ap (λ (b : Bool). kept_by b (t ∷ times)) are.2

file_back : (file : TreeFile) → IsTreeFile file → file_from (head_of file) (entries_of file) ≡ file
unfolding file_from entries_of
file_back file fits =
    let rows = paired_rows file.rows (times_of_rows file.times) in
    let times = times_back file.rows file.times fits.times in
    λ i. record { limits = file.limits; home = file.home; uid = file.uid; gid = file.gid; root = file.root; rows = rows i; times = times i }

-- ---- bytes are the tree file of one list of rows

bytes_parts : (file : TreeFile) (bytes : List ℕ) → IsSpelled file bytes
    → bytes ≡ head_bytes (head_of file) ++ flat_map entry_text (entries_of file)
bytes_parts file bytes is = is.bytes_are ∙ spelled_parts file

pub entries_length : (file : TreeFile) → length (entries_of file) ≡ length file.rows
unfolding entries_of
entries_length file = paired_length file.rows (times_of_rows file.times)

-- the entries of a file, after the head that is read
entries_after : (file : TreeFile) (bytes rest : List ℕ) (head : Head) → Reads IsHead head_bytes bytes head rest
    → IsSpelled file bytes
    → (head ≡ head_of file) × (length (entries_of file) ≡ head.count) × (rest ≡ flat_map entry_text (entries_of file))
    × AreEntries (is_wide head.opening) head.limits [] (entries_of file)
entries_after file bytes rest head read is =
    let heads = head_front head (head_of file) rest (flat_map entry_text (entries_of file)) read.0
    (head_fits file is.may_be) (sym read.1 ∙ bytes_parts file bytes is) in (
      heads.0,
      entries_length file ∙ sym (ap (λ (x : Head). x.count) heads.0),
      heads.1,
      subst (λ (x : Head). AreEntries (is_wide x.opening) x.limits [] (entries_of file)) (sym heads.0) (entries_fit file is.may_be),
    )

pub one_file : (f g : TreeFile) (bytes : List ℕ) → IsSpelled f bytes → IsSpelled g bytes → f ≡ g
one_file f g bytes f-is g-is =
    let read : Reads IsHead head_bytes bytes (head_of f) (flat_map entry_text (entries_of f)) =
    (head_fits f f-is.may_be, bytes_parts f bytes f-is) in
    let after = entries_after g bytes (flat_map entry_text (entries_of f)) (head_of f) read g-is in
    let texts = ap (λ (x : List ℕ). x ++ []) after.2 in
    let entries = entries_are_one (is_wide (opening_of f)) f.limits [] (entries_of f) (entries_of g) [] []
    (entries_fit f f-is.may_be) after.3 (entries_length f ∙ sym after.1) texts in
    sym (file_back f f-is.may_be) ∙ (λ i. file_from (after.0 i) (entries.0 i)) ∙ file_back g g-is.may_be

-- ---- where no tree file is

pub no_file_head : (bytes : List ℕ) → ((value : Head) (rest : List ℕ) → IsHead value → bytes ≡ head_bytes value ++ rest → ⊥)
    → (file : TreeFile) → IsSpelled file bytes → ⊥
no_file_head bytes none file is =
    none (head_of file) (flat_map entry_text (entries_of file)) (head_fits file is.may_be) (bytes_parts file bytes is)

lowest_by : (far own : Bool) (limits : TreeLimits) (times : List Times) → any_times times || are_far limits ≡ far
    → IsTrue (is_lowest (opening_by far own) limits times)
lowest_by true own limits times is = is
lowest_by false true limits times is = refl
lowest_by false false limits times is = refl

-- a file has the lowest opening that holds it
lowest_of : (file : TreeFile) → IsTreeFile file
    → IsTrue (is_lowest (opening_of file) file.limits (kept (times_of_root file.times ∷ times_in (entries_of file))))
unfolding entries_of
lowest_of file fits =
    subst (λ (ts : List Times). IsTrue (is_lowest (opening_of file) file.limits ts))
    (sym (times_back file.rows file.times fits.times))
    (lowest_by (any_times file.times || are_far file.limits) (are_own file.limits) file.limits file.times refl)

pub no_file_entries : (bytes rest : List ℕ) (head : Head) → Reads IsHead head_bytes bytes head rest
    → ((entries : List Entry) (tail : List ℕ) → AreEntries (is_wide head.opening) head.limits [] entries
    → length entries ≡ head.count
    → IsTrue (is_lowest head.opening head.limits (kept (head.root_times ∷ times_in entries)))
    → rest ≡ flat_map entry_text entries ++ tail → ⊥)
    → (file : TreeFile) → IsSpelled file bytes → ⊥
no_file_entries bytes rest head read none file is =
    let e = entries_after file bytes rest head read is in
    let lowest = subst (λ (x : Head). IsTrue (is_lowest x.opening x.limits (kept (x.root_times ∷ times_in (entries_of file)))))
    (sym e.0) (lowest_of file is.may_be) in
    none (entries_of file) [] e.3 e.1 lowest (e.2 ∙ sym (append-nil (flat_map entry_text (entries_of file))))

pub no_file_trailing : (bytes rest more : List ℕ) (head : Head) (entries : List Entry)
    → Reads IsHead head_bytes bytes head rest
    → AreRead (is_wide head.opening) head.limits rest entries head.count more → 0 < length more
    → (file : TreeFile) → IsSpelled file bytes → ⊥
no_file_trailing bytes rest more head entries read all left file is =
    let e = entries_after file bytes rest head read is in
    let same = entries_are_one (is_wide head.opening) head.limits [] entries (entries_of file) more [] all.entries_fit
    e.3 (all.count_is ∙ sym e.1)
    (sym all.bytes_are ∙ e.2 ∙ sym (append-nil (flat_map entry_text (entries_of file)))) in
    omega (arith, left, ap length same.1)

-- memory ran out where there is no other fault
pub fault_only : (error : TreeError) (P : Type 0) → OutOfMemoryOr error P → (P → ⊥) → error ≡ NoMemory
fault_only error P h none = elim h [ inl e ↦ e | inr p ↦ absurd (none p) ]

-- ---- where one is

-- under an opening that is not the third none are known
none_of : (kind : Kind) (times : Times) → IsOfOpening false (kind, times) → has_times times ≡ false
none_of (Dir owner) times fits = ap has_times fits
none_of (First owner bytes) times fits = ap has_times fits.0
none_of (Further number) times fits = ap has_times fits
none_of (Link target) times fits = ap has_times fits

narrow_times : (limits : TreeLimits) (earlier : List Row) (entries : List Entry) → AreEntries false limits earlier entries
    → any_times (times_in entries) ≡ false
narrow_times limits earlier [] fit = refl
narrow_times limits earlier (e ∷ entries) fit =
    let none = none_of e.0.kind e.1 fit.0.timed in
    let rest = narrow_times limits (earlier ++ e.0 ∷ []) entries fit.1 in
    λ i. none i || rest i

any_kept_by : (b : Bool) (times : List Times) → any_times times ≡ b → any_times (kept_by b times) ≡ b
any_kept_by true times is = is
any_kept_by false times is = refl

any_kept : (times : List Times) → any_times (kept times) ≡ any_times times
any_kept times = any_kept_by (any_times times) times refl

root_kept : (b : Bool) (root : Times) (times : List Times) → any_times (root ∷ times) ≡ b
    → times_of_root (kept_by b (root ∷ times)) ≡ root
root_kept true root times is = refl
root_kept false root times is = sym (none_known root (or_false (has_times root) (any_times times) is).0)

entries_kept : (b : Bool) (root : Times) (entries : List Entry) → any_times (root ∷ times_in entries) ≡ b
    → paired (rows_in entries) (times_of_rows (kept_by b (root ∷ times_in entries))) ≡ entries
entries_kept true root entries is = pairs_back entries
entries_kept false root entries is =
    plain_back entries (or_false (has_times root) (any_times (times_in entries)) is).1

-- the opening of what was read is that of its head
opening_back : (opening : Opening) (limits : TreeLimits) (root : Times) (entries : List Entry) → AreSet opening limits
    → AreTimesIn (is_wide opening) root → AreEntries (is_wide opening) limits [] entries
    → IsTrue (is_lowest opening limits (kept (root ∷ times_in entries)))
    → opening_with (any_times (root ∷ times_in entries)) limits ≡ opening
opening_back Usual limits root entries set none fit lowest =
    let rest = narrow_times limits [] entries fit in
    let near : are_far limits ≡ false = ap are_far set ∙ raised_near usual_limits usual_are in
    let own : are_own limits ≡ false = ap are_own set ∙ usual_not_own in
    λ i. opening_by ((has_times (none i) || rest i) || near i) (own i)
opening_back Raised limits root entries set none fit lowest =
    let rest = narrow_times limits [] entries fit in
    let near : are_far limits ≡ false = raised_near limits set.0 in
    λ i. opening_by ((has_times (none i) || rest i) || near i) (set.1 i)
opening_back Wide limits root entries set none fit lowest =
    ap (λ (b : Bool). opening_by (b || are_far limits) (are_own limits)) (sym (any_kept (root ∷ times_in entries)))
    ∙ ap (λ (b : Bool). opening_by b (are_own limits)) lowest

rows_length : (entries : List Entry) → length (rows_in entries) ≡ length entries
rows_length [] = refl
rows_length (e ∷ entries) = ap suc (rows_length entries)

rows_fit : (wide : Bool) (limits : TreeLimits) (earlier : List Row) (entries : List Entry)
    → AreEntries wide limits earlier entries → AreRows limits earlier (rows_in entries)
rows_fit wide limits earlier [] fit = tt
rows_fit wide limits earlier (e ∷ entries) fit = (fit.0.row, rows_fit wide limits (earlier ++ e.0 ∷ []) entries fit.1)

total_fits : (wide : Bool) (limits : TreeLimits) (earlier : List Row) (entries : List Entry)
    → contents_length earlier ≤ limits.total_bytes → AreEntries wide limits earlier entries
    → contents_length earlier + contents_length (rows_in entries) ≤ limits.total_bytes
total_fits wide limits earlier [] within fit = omega (arith, within)
total_fits wide limits earlier (e ∷ entries) within fit =
    let more = contents_more earlier e.0 in
    let next = total_fits wide limits (earlier ++ e.0 ∷ []) entries (omega (arith, more, fit.0.room)) fit.1 in
    omega (arith, more, next)

any_in : (wide : Bool) (times : Times) → AreTimesIn wide times → AreTimes times
any_in false times fits = subst AreTimes (sym fits) (omega arith, omega arith)
any_in true times fits = fits

may_have : (wide : Bool) (kind : Kind) (times : Times) → IsOfOpening wide (kind, times) → MayHaveTimes kind times
may_have wide (Dir owner) times fits = any_in wide times fits
may_have wide (First owner bytes) times fits = any_in wide times fits.0
may_have wide (Further number) times fits = fits
may_have wide (Link target) times fits = fits

times_fit : (wide : Bool) (limits : TreeLimits) (earlier : List Row) (entries : List Entry)
    → AreEntries wide limits earlier entries → AreTimesOf (rows_in entries) (times_in entries)
times_fit wide limits earlier [] fit = tt
times_fit wide limits earlier (e ∷ entries) fit =
    (may_have wide e.0.kind e.1 fit.0.timed, times_fit wide limits (earlier ++ e.0 ∷ []) entries fit.1)

file_times_by : (b : Bool) (rows : List Row) (root : Times) (times : List Times) → any_times (root ∷ times) ≡ b
    → AreTimes root → AreTimesOf rows times → AreFileTimes rows (kept_by b (root ∷ times))
file_times_by true rows root times is first are = (first, are, is)
file_times_by false rows root times is first are = tt

-- what a head and entries say, after which a lower opening would not do
module _ (head : Head) (entries : List Entry) (fits : IsHead head)
    (fit : AreEntries (is_wide head.opening) head.limits [] entries) (count : length entries ≡ head.count) where
  pub file_fits : IsTreeFile (file_from head entries)
  unfolding file_from
  file_fits = record {
    limits = set_are head.opening head.limits fits.limits;
    home = fits.home;
    uid = fits.uid;
    gid = fits.gid;
    count = omega (arith, rows_length entries, count, fits.count);
    root = fits.root.0;
    rows = rows_fit (is_wide head.opening) head.limits [] entries fit;
    total = omega (arith, total_fits (is_wide head.opening) head.limits [] entries (omega arith) fit);
    times = file_times_by (any_times (head.root_times ∷ times_in entries)) (rows_in entries) head.root_times
        (times_in entries) refl (any_in (is_wide head.opening) head.root_times fits.root.1)
        (times_fit (is_wide head.opening) head.limits [] entries fit);
  }

  module _ (lowest : IsTrue (is_lowest head.opening head.limits (kept (head.root_times ∷ times_in entries)))) where
    head_back : head_of (file_from head entries) ≡ head
    unfolding file_from
    head_back =
        let times = head.root_times ∷ times_in entries in
        let opening = ap (λ (b : Bool). opening_with b head.limits) (any_kept times)
        ∙ opening_back head.opening head.limits head.root_times entries fits.limits fits.root.1 fit lowest in
        let number = rows_length entries ∙ count in
        let root = root_kept (any_times times) head.root_times (times_in entries) refl in
        λ i. record { opening = opening i; limits = head.limits; home = head.home; uid = head.uid; gid = head.gid; count = number i; root = head.root; root_times = root i }

    entries_back : entries_of (file_from head entries) ≡ entries
    unfolding file_from entries_of
    entries_back = entries_kept (any_times (head.root_times ∷ times_in entries)) head.root_times entries refl

    pub file_read : (bytes rest more : List ℕ) → bytes ≡ head_bytes head ++ rest
        → rest ≡ flat_map entry_text entries ++ more → length more ≡ 0 → IsSpelled (file_from head entries) bytes
    file_read bytes rest more first second ended = record {
      may_be = file_fits;
      bytes_are = first ∙ ap (λ (l : List ℕ). head_bytes head ++ l)
          (second ∙ ap (λ (l : List ℕ). flat_map entry_text entries ++ l) (nil_from_length more ended) ∙ append-nil (flat_map entry_text entries))
          ∙ (λ i. head_bytes (sym head_back i) ++ flat_map entry_text (sym entries_back i))
          ∙ sym (spelled_parts (file_from head entries));
    }

-- ==== What is written, piece by piece.

pub two_pieces : (a b o0 o1 o2 : List ℕ) → o1 ≡ o0 ++ a → o2 ≡ o1 ++ b → o2 ≡ o0 ++ (a ++ b)
two_pieces a b o0 o1 o2 p q = rw (q, p) (simp append_assoc)

pub three_pieces : (a b c o0 o1 o2 o3 : List ℕ) → o1 ≡ o0 ++ a → o2 ≡ o1 ++ b → o3 ≡ o2 ++ c
    → o3 ≡ o0 ++ (a ++ (b ++ c))
three_pieces a b c o0 o1 o2 o3 p q r = rw (r, q, p) (simp append_assoc)

pub four_pieces : (a b c d o0 o1 o2 o3 o4 : List ℕ) → o1 ≡ o0 ++ a → o2 ≡ o1 ++ b → o3 ≡ o2 ++ c → o4 ≡ o3 ++ d
    → o4 ≡ o0 ++ (a ++ (b ++ (c ++ d)))
four_pieces a b c d o0 o1 o2 o3 o4 p q r s = rw (s, r, q, p) (simp append_assoc)

pub five_pieces : (a b c d e o0 o1 o2 o3 o4 o5 : List ℕ) → o1 ≡ o0 ++ a → o2 ≡ o1 ++ b → o3 ≡ o2 ++ c → o4 ≡ o3 ++ d
    → o5 ≡ o4 ++ e → o5 ≡ o0 ++ (a ++ (b ++ (c ++ (d ++ e))))
five_pieces a b c d e o0 o1 o2 o3 o4 o5 p q r s t = rw (t, s, r, q, p) (simp append_assoc)

-- the lengths of the strings of an entry that fits can be written
kind_lengths : (limits : TreeLimits) → limits.file_bytes < 2 ^ 64 → (earlier : List Row) (kind : Kind)
    → IsKind limits earlier kind → KindHasLengths kind
kind_lengths limits bound earlier (First owner bytes) fits = omega (arith, bound, fits.1)
kind_lengths limits bound earlier (Link target) fits = target_length target fits
kind_lengths limits bound earlier other fits = tt

pub row_at_place : (limits : TreeLimits) → limits.file_bytes < 2 ^ 64 → (earlier rows : List Row) (i : ℕ) (row : Row)
    → AreRows limits earlier rows → i < length rows → row ≡ get_or rows i row → HasLengths row
row_at_place limits bound earlier [] i row fits lt is = absurd (omega arith)
row_at_place limits bound earlier (r ∷ rows) zero row fits lt is =
    subst HasLengths (sym is) (record { path = path_length r.path fits.0.path; kind = kind_lengths limits bound earlier r.kind fits.0.kind })
row_at_place limits bound earlier (r ∷ rows) (suc i) row fits lt is =
    row_at_place limits bound (earlier ++ r ∷ []) rows i row fits.1 (omega arith) is

-- after the second opening the length of each file is a uint32
pub raised_short : (timed : Bool) (limits : TreeLimits) → AreLimits limits → opening_with timed limits ≡ Raised
    → limits.file_bytes < 2 ^ 32
raised_short timed limits are is = narrow timed limits are (ap is_wide is)

-- ==== What is read of the bytes held is short: a path, a head, and what an entry says besides the bytes of a file.

string_length : (text : List ℕ) → length (string text) ≡ 4 + length text
string_length text = length-append (uint32 (length text)) text

pub path_bound : (rows : List Row) (text : List ℕ) → Follows rows text → length (string text) ≤ window
path_bound rows text fits = omega (arith, string_length text, path_short text fits.text)

times_length : (timed : Bool) (times : Times) → length (times_text timed times) ≤ 8
times_length false times = omega arith
times_length true times = omega arith

owned_length : (owner : Owner) (times : Times) → length (owned_text owner times) ≤ 20
owned_length owner times = omega (arith, times_length (has_times times) times, length-append (owner_text owner) (times_text (has_times times) times))

length_length : (long : Bool) (count : ℕ) → length (length_text long count) ≤ 8
length_length false count = omega arith
length_length true count = omega arith

pub start_bound : (wide : Bool) (start : Owner × (Times × ℕ)) → IsFileStart wide start
    → length (file_start_text start) ≤ window
start_bound wide start fits = omega (
  arith,
  owned_length start.0 start.1.0,
  length_length (is_long start.1.1) start.1.1,
  length-append (owned_text start.0 start.1.0) (length_text (is_long start.1.1) start.1.1),
)

pub kind_bound : (wide : Bool) (limits : TreeLimits) (rows : List Row) (timed : Kind × Times)
    → IsTimedKind wide limits rows timed → is_first timed.0 ≡ false → length (timed_text timed) ≤ window
kind_bound wide limits rows (Dir owner, times) fits other = omega (arith, owned_length owner times)
kind_bound wide limits rows (First owner bytes, times) fits other = absurd cc
kind_bound wide limits rows (Further number, times) fits other = omega arith
kind_bound wide limits rows (Link target, times) fits other =
    omega (arith, string_length target, target_short target fits.0)

opening_length : (opening : Opening) → length (tree_opening opening) ≡ 8
opening_length Usual = refl
opening_length Raised = refl
opening_length Wide = refl

limits_length : (opening : Opening) (limits : TreeLimits) → length (limits_text opening limits) ≤ 28
limits_length Usual limits = omega arith
limits_length Raised limits = omega arith
limits_length Wide limits = omega arith

root_length : (opening : Opening) (root : Owner × Times) → length (root_owner_text opening root) ≤ 21
root_length Usual root = omega arith
root_length Raised root = omega arith
root_length Wide root = omega (arith, owned_length root.0 root.1)

pub head_bound : (head : Head) → IsHead head → length (head_bytes head) ≤ window
head_bound head fits =
    let opening = head.opening in
    let owned : Owner × Times = (head.root, head.root_times) in
    let numbers = uint32 head.uid ++ uint32 head.gid in
    let root = root_text opening (head.count, owned) in
    omega (arith, length-append (front_text opening head.home head.uid head.gid) (limits_text opening head.limits ++ root), length-append (limits_text opening head.limits) root, length-append (uint32 head.count) (root_owner_text opening owned), length-append (tree_opening opening) (string head.home ++ numbers), length-append (string head.home) numbers, string_length head.home, path_short head.home fits.home, opening_length opening, limits_length opening head.limits, root_length opening owned)
