-- What is read of the bytes held is read of the bytes ahead.
use Rattle.sftp_treefile.proofs.Imports.{◌≡◌, ℕ, ◌+◌, ◌-◌, ◌<◌, ◌≤◌, Bool, true, false, List, [], ◌∷◌, ◌++◌, length}
use Rattle.sftp_treefile.proofs.Imports.{drop, refl, sym, ap, subst, ◌∙◌, append_assoc, append-nil, arith, inl, inr}
use Rattle.sftp_treefile.proofs.Imports.{length-append, IsAtEnd, min, take, nil_from_length, take-append-drop}
use Rattle.sftp_treefile.proofs.Imports.{length-take-le, Ahead, bytes_ahead, HasAhead, ahead_without, string}
use Rattle.sftp_treefile.proofs.Imports.{IsTrue, TreeError, Owner, Kind, Row, Times, TreeLimits, timed_text, entry_text}
use Rattle.sftp_treefile.proofs.Imports.{Reads, ReadsNone, OutOfMemoryOr, IsFile, file_text, IsTimedKind, IsEntry}
use Rattle.sftp_treefile.proofs.Imports.{Follows, IsExcuse, ExcuseOr, window, HoldsWindow, IsSame, Takes, Lacks}
use Rattle.sftp_treefile.proofs.Imports.{AreCounted, plain, IsFileStart, file_start_text, IsNothing, with_room}
use Rattle.sftp_treefile.proofs.Imports.{TakesSome, TakesRows, LacksRows, TakesAll, LacksAll}
use Rattle.sftp_treefile.proofs.Imports.{AreRead, IsHead, head_bytes, Head, suc, zero, get_or, flat_map, is_file_letter}
use Rattle.sftp_treefile.proofs.Imports.{rows_in, times_in, kept, is_lowest, is_wide, contents_length}
use Rattle.sftp_treefile.proofs.Imports.{letter_for, file_letter, has_times, is_long, no_times, paired, times_at}
use Rattle.sftp_treefile.proofs.Imports.{times_of_rows, times_of_root, false≢true}
use Rattle.sftp_streams.proofs.Buffers.{ahead_parts}
use Rattle.sftp_streams.proofs.Buffers.{known_kept, front_held, front_taken}
use Rattle.sftp_treefile.specs.TreeFile.{is_first, IsTreeFile, IsSpelled, GivesFile}
use Rattle.sftp_treefile.specs.declared.errors.TreeError.TheVariants.{NoMemory, Io}
use Rattle.sftp_treefile.specs.declared.files.Kind.TheVariants.{Dir, First, Further, Link}
use Rattle.sftp_treefile.proofs.Texts.Entries.{start_one, start_parts}
use Rattle.sftp_treefile.proofs.Texts.Files.{kind_bound}
use Rattle.sftp_treefile.proofs.Texts.Heads.{Entry, entry_fits, entry_read, no_path, no_kind, read_more, entry_none}
use Rattle.sftp_treefile.proofs.Texts.Heads.{entries_push, entries_are_one}
use Rattle.sftp_treefile.specs.declared.files.TreeFile.{TreeFile}
use Rattle.std.specs.Prelude.{Result, Ok, Err, IfOk, IfErr, Some, Option, None}
use Rattle.sftp_treefile.specs.TreeFileParts.{IsAt}
use Rattle.sftp_treefile.specs.Streamed.{IsIn, IsAmong, MayFail, GivesUnless}
use Rattle.sftp_treefile.proofs.Texts.Files.{no_file_head, no_file_entries, no_file_trailing, file_read, file_from}
use Rattle.sftp_treefile.proofs.Texts.Files.{entries_of, entries_length}
use Rattle.sftp_treefile.proofs.Texts.Files.{file_fits}
use Rattle.std.specs.Io.KnownBytes.{Appends}
use Rattle.sftp_streams.specs.Streams.{AppendsPart}
use Rattle.sftp_streams.proofs.Buffers.{Appends-then, AppendsPart-first, AppendsPart-then}

-- ---- a part of the bytes held

pub took_part : (m : Ahead) (text rest before : List ℕ) → m.held ≡ text ++ rest → HasAhead m before
    → (after : List ℕ) × HasAhead (ahead_without (length m.held - length rest) m) after × (before ≡ text ++ after)
took_part m text rest before held known =
    let p = ahead_parts m before known in
    (rest ++ p.left, front_taken m text rest p.left held p.known, p.bytes_are ∙ ap (λ (l : List ℕ). l ++ p.left) held ∙ append_assoc text rest p.left)

module _ {A : Type 0} (Fits : A → Type 0) (text : A → List ℕ) where
  -- short texts: if the bytes held begin with none, neither do the bytes ahead
  pub lacks_part : ((value : A) → Fits value → length (text value) ≤ window) → (m : Ahead) (before : List ℕ)
      → HoldsWindow m → ReadsNone Fits text m.held → HasAhead m before → ReadsNone Fits text before
  lacks_part bound m before (inl many) none known value rest fits e =
      none value (drop (length (text value)) m.held) fits
      (front_held m (text value) before rest known e (omega (arith, many, bound value fits)))
  lacks_part bound m before (inr ended) none known value rest fits e =
      let p = ahead_parts m before known in
      let nothing : p.left ≡ [] = subst IsAtEnd p.known ended in
      let all : before ≡ m.held = p.bytes_are ∙ ap (λ (l : List ℕ). m.held ++ l) nothing ∙ append-nil m.held in
      none value rest fits (sym all ∙ e)

  pub takes_part : (old m : Ahead) (value : A) (rest : List ℕ) → IsSame old m → Reads Fits text m.held value rest
      → Takes Fits text old value (ahead_without (length m.held - length rest) m)
  takes_part old m value rest same read =
      (read.0, λ before known. took_part m (text value) rest before read.1 (known_kept (bytes_ahead old) (bytes_ahead m) before same known))

  pub takes_here : (m : Ahead) (value : A) (rest : List ℕ) → Reads Fits text m.held value rest
      → Takes Fits text m value (ahead_without (length m.held - length rest) m)
  takes_here m value rest read = (read.0, λ before known. took_part m (text value) rest before read.1 known)

  pub lacks_filled : ((value : A) → Fits value → length (text value) ≤ window) → (old m : Ahead) → IsSame old m
      → HoldsWindow m → ReadsNone Fits text m.held → Lacks Fits text old
  lacks_filled bound old m same holds none before known =
      lacks_part bound m before holds none (known_kept (bytes_ahead old) (bytes_ahead m) before same known)

-- ---- why nothing is read

pub out_excused : (error : TreeError) → error ≡ NoMemory → IsExcuse error
out_excused error e = subst IsExcuse (sym e) tt

pub excuse_or : (error : TreeError) (P Q : Type 0) → OutOfMemoryOr error P → (P → Q) → ExcuseOr error Q
excuse_or error P Q h f = elim h [ inl e ↦ inl (out_excused error e) | inr p ↦ inr (f p) ]

-- a fault of bytes held is none of the source
pub at_in : (may_fail : Bool) (entry : ℕ) (error : TreeError) → IsAt entry error → IsIn may_fail entry error
at_in may_fail entry (Io n) at = absurd at
at_in may_fail entry other at = at

pub in_may : (may_fail : Bool) (entry : ℕ) (error : TreeError) → IsIn may_fail entry error → MayFail may_fail error
in_may may_fail entry (Io n) is = is.1
in_may may_fail entry other is = tt

pub among_may : (may_fail : Bool) (count : ℕ) (error : TreeError) → IsAmong may_fail count error → MayFail may_fail error
among_may may_fail count NoMemory is = tt
among_may may_fail count other is = in_may may_fail is.0 other is.3

pub among_in : (may_fail : Bool) (count n : ℕ) (error : TreeError) → 1 ≤ n → n ≤ count → IsIn may_fail n error
    → IsAmong may_fail count error
among_in may_fail count n NoMemory low high is = tt
among_in may_fail count n other low high is = (n, low, high, is)

pub or_excused : (error new : TreeError) (P : Type 0) → ExcuseOr error P → (IsExcuse error → IsExcuse new) → ExcuseOr new P
or_excused error new P h f = elim h [ inl e ↦ inl (f e) | inr p ↦ inr p ]

pub still_or : (error : TreeError) (P Q : Type 0) → ExcuseOr error P → (P → Q) → ExcuseOr error Q
still_or error P Q h f = elim h [ inl e ↦ inl e | inr p ↦ inr (f p) ]

-- ---- bytes, some at a time

pub nothing_ahead : (old m : Ahead) → IsSame old m → length m.held ≡ 0 → IsAtEnd m.left → IsNothing old
nothing_ahead old m same none ended before known =
    let p = ahead_parts m before (known_kept (bytes_ahead old) (bytes_ahead m) before same known) in
    let nothing : p.left ≡ [] = subst IsAtEnd p.known ended in
    nil_from_length before (ap length p.bytes_are ∙ length-append m.held p.left ∙ omega (arith, none, ap length nothing))

pub nothing_held : (old m : Ahead) → IsSame old m → HoldsWindow m → length m.held ≡ 0 → IsNothing old
nothing_held old m same (inl many) none = absurd (omega (arith, many, none))
nothing_held old m same (inr ended) none = nothing_ahead old m same none ended

pub something_held : (old m : Ahead) → IsSame old m → 0 < length m.held → (before : List ℕ) → HasAhead old before
    → 0 < length before
something_held old m same some before known =
    let p = ahead_parts m before (known_kept (bytes_ahead old) (bytes_ahead m) before same known) in
    omega (arith, some, ap length p.bytes_are, length-append m.held p.left)

pub some_taken : (old m : Ahead) → IsSame old m → (count missing : ℕ) → 0 < length m.held → count ≡ min (length m.held) missing
    → 0 < missing → (bytes : List ℕ) → TakesSome missing old bytes (ahead_without count m) (bytes ++ take count m.held)
some_taken old m same count missing held is some bytes =
    let within : count ≤ length m.held = omega (arith, is) in
    let len : length (take count m.held) ≡ count = length-take-le count m.held within in
    let gone : length m.held - length (drop count m.held) ≡ count =
    omega (arith, within, ap length (take-append-drop count m.held), length-append (take count m.held) (drop count m.held), len) in
    record {
      more = take count m.held;
      appended = refl;
      some = omega (arith, len, is, held, some);
      within = omega (arith, len, is);
      taken = λ before known.
          let now = known_kept (bytes_ahead old) (bytes_ahead m) before same known in
          let t = took_part m (take count m.held) (drop count m.held) before (sym (take-append-drop count m.held)) now in
          (t.0, subst (λ (n : ℕ). HasAhead (ahead_without n m) t.0) gone t.1, t.2);
    }

-- what was taken so far
abbrev pub SoFar : Ahead → List ℕ → Ahead → Type 0
SoFar old bytes now =
    (before : List ℕ) → HasAhead old before → (after : List ℕ) × HasAhead now after × (before ≡ bytes ++ after)

pub more_taken : (most : ℕ) (old mid new : Ahead) (bytes longer : List ℕ) → SoFar old bytes mid
    → TakesSome most mid bytes new longer → SoFar old longer new
more_taken most old mid new bytes longer so_far some before known =
    let a = so_far before known in
    let b = some.taken a.0 a.1 in
    (b.0, b.1, a.2 ∙ ap (λ (l : List ℕ). bytes ++ l) b.2 ∙ sym (append_assoc bytes some.more b.0) ∙ ap (λ (l : List ℕ). l ++ b.0) (sym some.appended))

pub too_few : (old now : Ahead) (bytes : List ℕ) (count : ℕ) → SoFar old bytes now → length bytes < count
    → IsNothing now → Lacks (AreCounted count) plain old
too_few old now bytes count so_far few none before known value rest fits e =
    let a = so_far before known in
    omega (arith, few, fits.0, ap length e, length-append value rest, ap length a.2, length-append bytes a.0, ap length (none a.0 a.1))

-- ---- files

module _ (wide : Bool) (limits : TreeLimits) where
  pub no_start : (old : Ahead) → Lacks (IsFileStart wide) file_start_text old → Lacks (IsFile wide limits) file_text old
  no_start old none before known file r fits e =
      none before known (file.0, (file.1.0, length file.1.1)) (file.1.1 ++ r) fits.0 (e ∙ start_parts file r)

  module _ (old mid : Ahead) (owner : Owner) (times : Times) (count : ℕ)
      (start : Takes (IsFileStart wide) file_start_text old (owner, (times, count)) mid) where
    start_of : (before : List ℕ) → HasAhead old before → (file : Owner × (Times × List ℕ)) (r : List ℕ)
        → IsFile wide limits file → before ≡ file_text file ++ r
        → (middle : List ℕ) × HasAhead mid middle × (middle ≡ file.1.1 ++ r) × (count ≡ length file.1.1)
    start_of before known file r fits e =
        let t = start.1 before known in
        let same = start_one wide (owner, (times, count)) (file.0, (file.1.0, length file.1.1)) t.0 (file.1.1 ++ r)
        start.0 fits.0 (sym t.2 ∙ e ∙ start_parts file r) in
        (t.0, t.1, same.1, ap (λ (v : Owner × (Times × ℕ)). v.1.1) same.0)

    pub too_long : limits.file_bytes < count → Lacks (IsFile wide limits) file_text old
    too_long long before known file r fits e =
        let s = start_of before known file r fits e in
        omega (arith, long, s.3, fits.1.0)

    pub no_bytes : Lacks (AreCounted count) plain mid → Lacks (IsFile wide limits) file_text old
    no_bytes none before known file r fits e =
        let s = start_of before known file r fits e in
        none s.0 s.1 file.1.1 r (sym s.3, fits.1.1) s.2

    pub file_taken : (new : Ahead) (bytes : List ℕ) → Takes (AreCounted count) plain mid bytes new
        → count ≤ limits.file_bytes → Takes (IsFile wide limits) file_text old (owner, (times, bytes)) new
    file_taken new bytes all within = (
      (subst (λ (n : ℕ). IsFileStart wide (owner, (times, n))) (sym all.0.0) start.0, (omega (arith, within, all.0.0), all.0.1)),
      λ before known.
          let s = start.1 before known in
          let t = all.1 s.0 s.1 in (
            t.0,
            t.1,
            s.2 ∙ ap (λ (l : List ℕ). file_start_text (owner, (times, count)) ++ l) t.2
                ∙ ap (λ (n : ℕ). file_start_text (owner, (times, n)) ++ (bytes ++ t.0)) (sym all.0.0)
                ∙ sym (start_parts (owner, (times, bytes)) t.0),
          ),
    )

-- ---- kinds

pub kept_takes : {A : Type 0} (Fits : A → Type 0) (text : A → List ℕ) (old m new : Ahead) (value : A) → IsSame old m
    → Takes Fits text m value new → Takes Fits text old value new
kept_takes Fits text old m new value same t =
    (t.0, λ before known. t.1 before (known_kept (bytes_ahead old) (bytes_ahead m) before same known))

pub kept_lacks : {A : Type 0} (Fits : A → Type 0) (text : A → List ℕ) (old m : Ahead) → IsSame old m
    → Lacks Fits text m → Lacks Fits text old
kept_lacks Fits text old m same none before known =
    none before (known_kept (bytes_ahead old) (bytes_ahead m) before same known)

-- the letters of first names
file_mark : (timed long : Bool) → is_file_letter (letter_for timed (file_letter long)) ≡ true
file_mark false false = refl
file_mark false true = refl
file_mark true false = refl
file_mark true true = refl

-- no text but that of a first name begins with the letter of one
other_mark : (x : Kind × Times) (r : List ℕ) → is_first x.0 ≡ false
    → is_file_letter (get_or (timed_text x ++ r) 0 0) ≡ false
other_mark (Dir owner, times) r other = directory_mark (has_times times)
  where
    directory_mark : (timed : Bool) → is_file_letter (letter_for timed 68) ≡ false
    directory_mark false = refl
    directory_mark true = refl
other_mark (First owner bytes, times) r other = absurd cc
other_mark (Further number, times) r other = refl
other_mark (Link target, times) r other = refl

module _ (wide : Bool) (limits : TreeLimits) (rows : List Row) where
  -- the bytes held start with the letter of a file
  pub file_kind_lacks : (old m : Ahead) → IsSame old m → (letter : ℕ) (rest : List ℕ) → m.held ≡ letter ∷ rest
      → IsTrue (is_file_letter letter) → Lacks (IsFile wide limits) file_text m
      → Lacks (IsTimedKind wide limits rows) timed_text old
  file_kind_lacks old m same letter rest held here none before known x r fits e =
      let now = known_kept (bytes_ahead old) (bytes_ahead m) before same known in
      let t = took_part m (letter ∷ []) rest before held now in
      let first : is_file_letter (get_or (timed_text x ++ r) 0 0) ≡ true =
      ap (λ (l : List ℕ). is_file_letter (get_or l 0 0)) (sym e ∙ t.2) ∙ here in
      by x r fits e first
    where
      by : (x : Kind × Times) (r : List ℕ) → IsTimedKind wide limits rows x → before ≡ timed_text x ++ r
          → is_file_letter (get_or (timed_text x ++ r) 0 0) ≡ true → ⊥
      by (First owner bytes, times) r fits e first =
          none before (known_kept (bytes_ahead old) (bytes_ahead m) before same known) (owner, (times, bytes)) r
          ((fits.0.0, (fits.1.0, fits.1.1)), (fits.0.1, fits.0.2)) e
      by (Dir owner, times) r fits e first =
          false≢true (sym (other_mark (Dir owner, times) r refl) ∙ first)
      by (Further number, times) r fits e first =
          false≢true (sym (other_mark (Further number, times) r refl) ∙ first)
      by (Link target, times) r fits e first =
          false≢true (sym (other_mark (Link target, times) r refl) ∙ first)

  pub file_kind_taken : (old m new : Ahead) → IsSame old m → (owner : Owner) (times : Times) (bytes : List ℕ)
      → Takes (IsFile wide limits) file_text m (owner, (times, bytes)) new
      → Takes (IsTimedKind wide limits rows) timed_text old (First owner bytes, times) new
  file_kind_taken old m new same owner times bytes t = (
    ((t.0.0.0, t.0.1.0, t.0.1.1), (t.0.0.1.0, t.0.0.1.1)),
    λ before known. t.1 before (known_kept (bytes_ahead old) (bytes_ahead m) before same known),
  )

  abbrev pub IsOther : Kind × Times → Type 0
  IsOther x = IsTimedKind wide limits rows x × (is_first x.0 ≡ false)

  -- and where they do not
  module _ (m : Ahead) (holds : HoldsWindow m)
      (no_file : (letter : ℕ) (rest : List ℕ) → m.held ≡ letter ∷ rest → is_file_letter letter ≡ false) where
    other_lacks : ReadsNone (IsTimedKind wide limits rows) timed_text m.held → (before : List ℕ) → HasAhead m before
        → ReadsNone IsOther timed_text before
    other_lacks none before known = lacks_part IsOther timed_text (λ x fits. kind_bound wide limits rows x fits.0 fits.1)
        m before holds (λ x rest fits e. none x rest fits.0 e) known

    letter_lacks : (before : List ℕ) → HasAhead m before → (letter : ℕ) → is_file_letter letter ≡ true
        → (rest : List ℕ) → before ≡ letter ∷ rest → ⊥
    letter_lacks before known letter here rest e =
        lacks_part {A = Unit {0}} (λ u. Unit {0}) (λ u. letter ∷ []) (λ u fits. omega arith) m before holds
        (λ u r fits is. false≢true (sym (no_file letter r is) ∙ here)) known tt rest tt e

    pub other_kind_lacks : ReadsNone (IsTimedKind wide limits rows) timed_text m.held
        → Lacks (IsTimedKind wide limits rows) timed_text m
    other_kind_lacks none before known (Dir owner, t) r fits e =
        other_lacks none before known (Dir owner, t) r (fits, refl) e
    other_kind_lacks none before known (First owner bytes, t) r fits e =
        letter_lacks before known (letter_for (has_times t) (file_letter (is_long (length bytes))))
        (file_mark (has_times t) (is_long (length bytes))) (drop 1 (timed_text (First owner bytes, t) ++ r)) e
    other_kind_lacks none before known (Further number, t) r fits e =
        other_lacks none before known (Further number, t) r (fits, refl) e
    other_kind_lacks none before known (Link target, t) r fits e =
        other_lacks none before known (Link target, t) r (fits, refl) e

-- ---- entries

module _ (wide : Bool) (limits : TreeLimits) (rows : List Row) (old : Ahead) where
  pub path_lacks : Lacks (Follows rows) string old → Lacks (IsEntry wide limits rows) entry_text old
  path_lacks none before known = no_path wide limits rows before (none before known)

  module _ (within : contents_length rows ≤ limits.total_bytes) (mid new : Ahead) (path : List ℕ)
      (first : Takes (Follows rows) string old path mid) where
    pub entry_taken : (kind : Kind) (times : Times)
        → Takes (IsTimedKind wide (with_room limits (contents_length rows)) rows) timed_text mid (kind, times) new
        → Takes (IsEntry wide limits rows) entry_text old (record { path = path; kind = kind }, times) new
    entry_taken kind times t = (
      entry_fits wide limits rows within path kind times first.0 t.0,
      λ before known.
          let a = first.1 before known in
          let b = t.1 a.0 a.1 in
          (b.0, b.1, (entry_read wide limits rows before within path a.0 (first.0, a.2) b.0 kind times (t.0, b.2)).1),
    )

    pub kind_lacks : Lacks (IsTimedKind wide (with_room limits (contents_length rows)) rows) timed_text mid
        → Lacks (IsEntry wide limits rows) entry_text old
    kind_lacks none before known =
        let a = first.1 before known in
        no_kind wide limits rows before within path a.0 (first.0, a.2) (none a.0 a.1)

rows_push : (entries : List Entry) (entry : Entry) → rows_in (entries ++ entry ∷ []) ≡ rows_in entries ++ entry.0 ∷ []
rows_push [] entry = refl
rows_push (e ∷ entries) entry = ap (λ (l : List Row). e.0 ∷ l) (rows_push entries entry)

times_push : (entries : List Entry) (entry : Entry)
    → times_in (entries ++ entry ∷ []) ≡ times_in entries ++ entry.1 ∷ []
times_push [] entry = refl
times_push (e ∷ entries) entry = ap (λ (l : List Times). e.1 ∷ l) (times_push entries entry)

module _ (wide : Bool) (limits : TreeLimits) (root : Times) where
  pub no_rows : (old : Ahead) → TakesRows wide limits root old [] (root ∷ []) 0 old
  no_rows old = record {
    entries = [];
    fit = tt;
    count_is = refl;
    rows_are = refl;
    times_are = refl;
    taken = λ before known. (before, known, refl);
  }

  -- what is read where these are taken
  so_read : (old mid : Ahead) (rows : List Row) (times : List Times) (n : ℕ)
      → (so_far : TakesRows wide limits root old rows times n mid) → (before : List ℕ) → HasAhead old before
      → (after : List ℕ) × HasAhead mid after × AreRead wide limits before so_far.entries n after
  so_read old mid rows times n so_far before known =
      let a = so_far.taken before known in
      (a.0, a.1, record { entries_fit = so_far.fit; count_is = so_far.count_is; bytes_are = a.2 })

  -- and with one more
  more_read : (old mid new : Ahead) (rows : List Row) (times : List Times) (n m : ℕ)
      → (so_far : TakesRows wide limits root old rows times n mid) (entry : Entry)
      → Takes (IsEntry wide limits (rows_in so_far.entries)) entry_text mid entry new → m ≡ n + 1
      → (before : List ℕ) → HasAhead old before
      → (after : List ℕ) × HasAhead new after × AreRead wide limits before (so_far.entries ++ entry ∷ []) m after
  more_read old mid new rows times n m so_far entry next more before known =
      let a = so_read old mid rows times n so_far before known in
      let b = next.1 a.0 a.1 in
      (b.0, b.1, read_more wide limits before so_far.entries n m a.0 b.0 entry a.2 (next.0, b.2) more)

  pub rows_taken : (old mid new : Ahead) (rows longer : List Row) (times later : List Times) (n m : ℕ) (row : Row)
      (time : Times) → TakesRows wide limits root old rows times n mid
      → Takes (IsEntry wide limits rows) entry_text mid (row, time) new → longer ≡ rows ++ row ∷ []
      → later ≡ times ++ time ∷ [] → m ≡ n + 1 → TakesRows wide limits root old longer later m new
  rows_taken old mid new rows longer times later n m row time so_far next put timed more =
      let entries = so_far.entries in
      let entry : Entry = (row, time) in
      let here = subst (λ (l : List Row). Takes (IsEntry wide limits l) entry_text mid entry new) so_far.rows_are next in
      record {
        entries = entries ++ entry ∷ [];
        fit = entries_push wide limits [] entries entry so_far.fit here.0;
        count_is = length-append entries (entry ∷ []) ∙ ap (λ (k : ℕ). k + 1) so_far.count_is ∙ sym more;
        rows_are = put ∙ ap (λ (l : List Row). l ++ row ∷ []) so_far.rows_are ∙ sym (rows_push entries entry);
        times_are = timed ∙ ap (λ (l : List Times). l ++ time ∷ []) so_far.times_are
            ∙ ap (λ (l : List Times). root ∷ l) (sym (times_push entries entry));
        taken = λ before known.
            let a = more_read old mid new rows times n m so_far entry here more before known in
            (a.0, a.1, a.2.bytes_are);
      }

  pub row_lacks : (old mid : Ahead) (rows : List Row) (times : List Times) (n count : ℕ)
      → TakesRows wide limits root old rows times n mid → n < count → Lacks (IsEntry wide limits rows) entry_text mid
      → LacksRows wide limits count old
  row_lacks old mid rows times n count so_far lt none before known =
      let a = so_read old mid rows times n so_far before known in
      let lacks = subst (λ (l : List Row). Lacks (IsEntry wide limits l) entry_text mid) so_far.rows_are none in
      entry_none wide limits before so_far.entries n count a.0 a.2 lt (lacks a.0 a.1)

-- ---- all entries after a head

pub all_taken : (head : Head) (old new : Ahead) (rows : List Row) (times : List Times)
    → TakesRows (is_wide head.opening) head.limits head.root_times old rows times head.count new
    → IsTrue (is_lowest head.opening head.limits (kept times)) → TakesAll head old rows (kept times) new
all_taken head old new rows times all lowest = record {
  entries = all.entries;
  fit = all.fit;
  count_is = all.count_is;
  rows_are = all.rows_are;
  times_are = ap kept all.times_are;
  lowest = lowest;
  taken = all.taken;
}

pub rows_lack : (head : Head) (old : Ahead) → LacksRows (is_wide head.opening) head.limits head.count old
    → LacksAll head old
rows_lack head old none before known entries rest fit count lowest e = none before known entries rest fit count e

-- a lower opening would do
pub lower_lacks : (head : Head) (old new : Ahead) (rows : List Row) (times : List Times)
    → TakesRows (is_wide head.opening) head.limits head.root_times old rows times head.count new
    → is_lowest head.opening head.limits (kept times) ≡ false → LacksAll head old
lower_lacks head old new rows times all lower before known entries rest fit count lowest e =
    let a = all.taken before known in
    let same = entries_are_one (is_wide head.opening) head.limits [] all.entries entries a.0 rest all.fit fit
    (all.count_is ∙ sym count) (sym a.2 ∙ e) in
    let kept_same : kept times ≡ kept (head.root_times ∷ times_in entries) =
    ap kept all.times_are ∙ ap (λ (es : List Entry). kept (head.root_times ∷ times_in es)) same.0 in
    false≢true (sym lower ∙ ap (λ (ts : List Times). is_lowest head.opening head.limits ts) kept_same ∙ lowest)

-- ---- whole files

pub excuse_only : (error : TreeError) (P : Type 0) → ExcuseOr error P → (P → ⊥) → IsExcuse error
excuse_only error P h none = elim h [ inl e ↦ e | inr p ↦ absurd (none p) ]

pub no_head_taken : (old : Ahead) (bytes : List ℕ) → HasAhead old bytes → Lacks IsHead head_bytes old
    → (file : TreeFile) → IsSpelled file bytes → ⊥
no_head_taken old bytes known none file is = no_file_head bytes (none bytes known) file is

-- what was read, as a file
abbrev pub file_of : Head → List Row → List Times → TreeFile
file_of head rows times = record {
  limits = head.limits;
  home = head.home;
  uid = head.uid;
  gid = head.gid;
  root = head.root;
  rows = rows;
  times = times;
}

from_same : (head : Head) (rows : List Row) (times : List Times) (entries : List Entry) → rows ≡ rows_in entries
    → times ≡ kept (head.root_times ∷ times_in entries) → file_from head entries ≡ file_of head rows times
unfolding file_from
from_same head rows times entries rows_are times_are = λ i. file_of head (sym rows_are i) (sym times_are i)

module _ (old mid : Ahead) (head : Head) (first : Takes IsHead head_bytes old head mid) where
  pub no_rows_taken : (bytes : List ℕ) → HasAhead old bytes → LacksAll head mid
      → (file : TreeFile) → IsSpelled file bytes → ⊥
  no_rows_taken bytes known none file is =
      let a = first.1 bytes known in
      no_file_entries bytes a.0 head (first.0, a.2) (none a.0 a.1) file is

  module _ (new : Ahead) (rows : List Row) (times : List Times) (all : TakesAll head mid rows times new) where
    lowest_read : IsTrue (is_lowest head.opening head.limits (kept (head.root_times ∷ times_in all.entries)))
    lowest_read = subst (λ (ts : List Times). IsTrue (is_lowest head.opening head.limits ts)) all.times_are all.lowest

    pub no_end_taken : (bytes : List ℕ) → HasAhead old bytes
        → ((before : List ℕ) → HasAhead new before → 0 < length before)
        → (file : TreeFile) → IsSpelled file bytes → ⊥
    no_end_taken bytes known more file is =
        let a = first.1 bytes known in
        let b = all.taken a.0 a.1 in
        no_file_trailing bytes a.0 b.0 head all.entries (first.0, a.2)
        (record { entries_fit = all.fit; count_is = all.count_is; bytes_are = b.2 }) (more b.0 b.1) file is

    pub file_taken_whole : (bytes : List ℕ) → HasAhead old bytes → IsNothing new
        → IsSpelled (file_of head rows times) bytes
    file_taken_whole bytes known ended =
        let a = first.1 bytes known in
        let b = all.taken a.0 a.1 in
        subst (λ (f : TreeFile). IsSpelled f bytes) (from_same head rows times all.entries all.rows_are all.times_are)
        (file_read head all.entries first.0 all.fit all.count_is lowest_read bytes a.0 b.0 a.2 b.2 (ap length (ended b.0 b.1)))

    pub tree_file_fits : IsTreeFile (file_of head rows times)
    tree_file_fits = subst IsTreeFile (from_same head rows times all.entries all.rows_are all.times_are)
        (file_fits head all.entries first.0 all.fit all.count_is)

-- ---- bytes that are known, of a source that never fails

pub gives_found : (result : Result TreeFile TreeError) (bytes : List ℕ)
    → IfOk result (λ f. (all : List ℕ) → Some bytes ≡ Some all → IsSpelled f all) → IfOk result (λ f. IsSpelled f bytes)
gives_found (Ok f) bytes h = h bytes refl
gives_found (Err error) bytes h = tt

never_fails : (error : TreeError) → MayFail false error → IsExcuse error → error ≡ NoMemory
never_fails NoMemory may excuse = refl
never_fails (Io entry) may excuse = absurd cc
never_fails other may excuse = absurd excuse

pub gives_only : (result : Result TreeFile TreeError) (file : TreeFile) → IfErr result (MayFail false)
    → GivesUnless result file → GivesFile result file
gives_only (Ok f) file may gives = gives
gives_only (Err error) file may gives = never_fails error may gives

-- ==== What is written to a sink, piece by piece.

-- a failure before the first byte
pub AppendsPart-none : (a : Option (List ℕ)) (text : List ℕ) → AppendsPart a a text
AppendsPart-none None text = record { part = []; rest = text; parts = refl; appended = tt }
AppendsPart-none (Some written) text =
    record { part = []; rest = text; parts = refl; appended = sym (append-nil written) }

-- the entry of a number among those of a file
pub entry_here : (rows : List Row) (times : List Times) (i : ℕ) (row : Row) → i < length rows → row ≡ get_or rows i row
    → (row, times_at times i) ≡ get_or (paired rows times) i (row, times_at times i)
entry_here [] times i row lt is = absurd (omega arith)
entry_here (r ∷ rows) [] zero row lt is = λ i. (is i, no_times)
entry_here (r ∷ rows) (t ∷ times) zero row lt is = λ i. (is i, t)
entry_here (r ∷ rows) [] (suc i) row lt is = entry_here rows [] i row (omega arith) is
entry_here (r ∷ rows) (t ∷ times) (suc i) row lt is = entry_here rows times i row (omega arith) is

pub root_at : (times : List Times) → times_at times 0 ≡ times_of_root times
root_at [] = refl
root_at (t ∷ times) = refl

pub times_behind : (times : List Times) (i : ℕ) → times_at times (suc i) ≡ times_at (times_of_rows times) i
times_behind [] zero = refl
times_behind [] (suc i) = refl
times_behind (t ∷ times) i = refl

-- the same in the file that is written
pub entry_of : (file : TreeFile) (i : ℕ) (row : Row) → i < length file.rows → row ≡ get_or file.rows i row
    → (i < length (entries_of file)) × ((row, times_at file.times (suc i)) ≡ get_or (entries_of file) i (row, times_at file.times (suc i)))
unfolding entries_of
entry_of file i row lt is =
    let behind = times_behind file.times i in (
      omega (arith, lt, entries_length file),
      subst (λ (t : Times). (row, t) ≡ get_or (paired file.rows (times_of_rows file.times)) i (row, t)) (sym behind)
          (entry_here file.rows (times_of_rows file.times) i row lt is),
    )

-- the entries from one on are this one and those after it
entries_split : (entries : List Entry) (i : ℕ) (entry : Entry) → i < length entries → entry ≡ get_or entries i entry
    → (rest : List ℕ) × (flat_map entry_text entries ≡ flat_map entry_text (take i entries) ++ (entry_text entry ++ rest))
entries_split [] i entry lt is = absurd (omega arith)
entries_split (e ∷ entries) zero entry lt is =
    (flat_map entry_text entries, ap (λ (x : Entry). entry_text x ++ flat_map entry_text entries) (sym is))
entries_split (e ∷ entries) (suc i) entry lt is =
    let s = entries_split entries i entry (omega arith) is in (
      s.0,
      ap (λ (bs : List ℕ). entry_text e ++ bs) s.1
          ∙ sym (append_assoc (entry_text e) (flat_map entry_text (take i entries)) (entry_text entry ++ s.0)),
    )

-- a failure in an entry, after a head and the entries before it
pub AppendsPart-entry : (a b c : Option (List ℕ)) (head whole : List ℕ) (entries : List Entry) (i : ℕ) (entry : Entry)
    → i < length entries → entry ≡ get_or entries i entry → Appends a b (head ++ flat_map entry_text (take i entries))
    → AppendsPart b c (entry_text entry) → whole ≡ head ++ flat_map entry_text entries → AppendsPart a c whole
AppendsPart-entry a b c head whole entries i entry lt is done part whole-is =
    let s = entries_split entries i entry lt is in
    let front = flat_map entry_text (take i entries) in
    let text : (head ++ front) ++ (entry_text entry ++ s.0) ≡ whole =
    append_assoc head front (entry_text entry ++ s.0) ∙ ap (λ (bs : List ℕ). head ++ bs) (sym s.1) ∙ sym whole-is in
    subst (AppendsPart a c) text
    (AppendsPart-then a b c (head ++ front) (entry_text entry ++ s.0) done (AppendsPart-first b c (entry_text entry) s.0 part))

-- one entry more
entries_next : (entries : List Entry) (i : ℕ) (entry : Entry) → i < length entries → entry ≡ get_or entries i entry
    → flat_map entry_text (take (suc i) entries) ≡ flat_map entry_text (take i entries) ++ entry_text entry
entries_next [] i entry lt is = absurd (omega arith)
entries_next (e ∷ entries) zero entry lt is = append-nil (entry_text e) ∙ ap entry_text (sym is)
entries_next (e ∷ entries) (suc i) entry lt is =
    ap (λ (bs : List ℕ). entry_text e ++ bs) (entries_next entries i entry (omega arith) is)
    ∙ sym (append_assoc (entry_text e) (flat_map entry_text (take i entries)) (entry_text entry))

pub Appends-entry : (a b c : Option (List ℕ)) (entries : List Entry) (i next : ℕ) (entry : Entry) → i < length entries
    → entry ≡ get_or entries i entry → next ≡ suc i → Appends a b (flat_map entry_text (take i entries))
    → Appends b c (entry_text entry) → Appends a c (flat_map entry_text (take next entries))
Appends-entry a b c entries i next entry lt is step done more =
    subst (Appends a c) (sym (entries_next entries i entry lt is) ∙ ap (λ n. flat_map entry_text (take n entries)) (sym step))
    (Appends-then a b c (flat_map entry_text (take i entries)) (entry_text entry) done more)

-- the entry of a file is what comes before its bytes, and these
pub file_whole : (path : List ℕ) (owner : Owner) (times : Times) (bytes : List ℕ)
    → (string path ++ file_start_text (owner, (times, length bytes))) ++ bytes
    ≡ entry_text (record { path = path; kind = First owner bytes }, times)
file_whole path owner times bytes =
    append_assoc (string path) (file_start_text (owner, (times, length bytes))) bytes
    ∙ ap (λ (l : List ℕ). string path ++ l) (ap (λ (l : List ℕ). file_start_text (owner, (times, length bytes)) ++ l) (sym (append-nil bytes))
    ∙ sym (start_parts (owner, (times, bytes)) []) ∙ append-nil (timed_text (First owner bytes, times)))
