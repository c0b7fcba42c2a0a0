-- What is read of entries, and that it is what was written.
use Rattle.std.proofs.Common.{◌≡◌, ℕ, zero, suc, ◌^◌, ◌<◌, ◌≤◌, List, [], ◌∷◌, ◌++◌, length, drop, refl, sym, ap, ◌∙◌, arith, append_assoc}
use Rattle.std.specs.Prelude.{Result, Ok, Err, nat_lt, Option, Some, None}
use Rattle.sftp_times.specs.declared.entries.Boot.{Boot}
use Rattle.sftp_times.specs.declared.entries.Beginning.{Beginning}
use Rattle.std.specs.Int.{w64, from_be_bytes, to_be_bytes}
use Rattle.std.specs.List.{AllByRecursion}
use Rattle.std.proofs.lemmas.Bool.{le-ltb, cond-false}
use Rattle.std.proofs.lemmas.List.{length-drop, length-append, append-nil}
use Rattle.std.proofs.lemmas.Nat.{from_be_bytes-to_be_bytes_8}
use Rattle.sftp_times.specs.declared.errors.TimesError.{TimesError}
use Rattle.sftp_times.specs.declared.errors.TimesError.TheVariants.{Magic, Short, Order, NoMemory}
use Rattle.sftp_times.specs.Times.{Gives, Rises, entry_at, timely, prepend, followed, entries_within, entries_in, entries_text, spelled, times_at, followed_by, dated, booted, begun, beginning_at, Fits, FitsBoot}

-- ---- prepending

pub prepend-none : (read : Result (List ℕ) TimesError) → prepend [] read ≡ read
prepend-none (Ok times) = refl
prepend-none (Err error) = refl

pub prepend-more : (xs ys : List ℕ) (read : Result (List ℕ) TimesError) → prepend xs (prepend ys read) ≡ prepend (xs ++ ys) read
prepend-more xs ys (Ok times) = ap Ok (sym (append_assoc xs ys times))
prepend-more xs ys (Err error) = refl

-- ---- how many entries there may be does not matter, if they are enough

followed-same : (read : Result ℕ TimesError) (f g : ℕ → Result (List ℕ) TimesError) → ((time : ℕ) → f time ≡ g time) → followed read f ≡ followed read g
followed-same (Ok time) f g same = ap (prepend (time ∷ [])) (same time)
followed-same (Err error) f g same = refl

enough : (most more number last : ℕ) (bytes : List ℕ) → length bytes ≤ most → length bytes ≤ more → entries_within most number last bytes ≡ entries_within more number last bytes
enough most more number last [] p q = refl
enough zero more number last (b ∷ bytes) p q = absurd (omega (arith, p))
enough (suc most) zero number last (b ∷ bytes) p q = absurd (omega (arith, q))
enough (suc most) (suc more) number last (b ∷ bytes) p q =
    let shorter = length-drop 8 (b ∷ bytes) in
    followed-same (entry_at number last (b ∷ bytes)) _ _ (λ time. enough most more (suc number) time (drop 8 (b ∷ bytes)) (omega (arith, p, shorter)) (omega (arith, q, shorter)))

-- the first entry, and the others
entries-front : (number last : ℕ) (bytes : List ℕ) → 0 < length bytes → entries_in number last bytes ≡ followed (entry_at number last bytes) (λ time. entries_in (suc number) time (drop 8 bytes))
unfolding entries_in
entries-front number last [] lt = absurd (omega (arith, lt))
entries-front number last (b ∷ bytes) lt =
    let shorter = length-drop 8 (b ∷ bytes) in
    followed-same (entry_at number last (b ∷ bytes)) _ _ (λ time. enough (length bytes) (length (drop 8 (b ∷ bytes))) (suc number) time (drop 8 (b ∷ bytes)) (omega (arith, shorter)) (omega arith))

pub entries-none : (number last : ℕ) → entries_in number last [] ≡ Ok []
unfolding entries_in
entries-none number last = refl

pub entries-next : (number last time : ℕ) (bytes : List ℕ) → 0 < length bytes → entry_at number last bytes ≡ Ok time → entries_in number last bytes ≡ prepend (time ∷ []) (entries_in (suc number) time (drop 8 bytes))
entries-next number last time bytes lt is =
    entries-front number last bytes lt ∙ ap (λ read. followed read (λ time. entries_in (suc number) time (drop 8 bytes))) is

pub entries-fault : (number last : ℕ) (error : TimesError) (bytes : List ℕ) → 0 < length bytes → entry_at number last bytes ≡ Err error → entries_in number last bytes ≡ Err error
entries-fault number last error bytes lt is =
    entries-front number last bytes lt ∙ ap (λ read. followed read (λ time. entries_in (suc number) time (drop 8 bytes))) is

-- ---- the steps of the code, which has read some times

-- nothing is read yet
pub start_kept : (read : Result (List ℕ) TimesError) → read ≡ prepend [] read
start_kept read = sym (prepend-none read)

-- an entry more
pub next_kept : (times more : List ℕ) (last time : ℕ) (rest behind : List ℕ) (read : Result (List ℕ) TimesError) → read ≡ prepend times (entries_in (suc (length times)) last rest) → 0 < length rest → entry_at (suc (length times)) last rest ≡ Ok time → more ≡ times ++ (time ∷ []) → behind ≡ drop 8 rest → read ≡ prepend more (entries_in (suc (length more)) time behind)
next_kept times more last time rest behind read kept lt is more_is behind_is =
    let longer : length (times ++ (time ∷ [])) ≡ suc (length times) = length-append times (time ∷ []) ∙ omega arith in
    let step = entries-next (suc (length times)) last time rest lt is in
    rw more_is (rw behind_is (rw longer (kept ∙ ap (prepend times) step ∙ prepend-more times (time ∷ []) (entries_in (suc (suc (length times))) time (drop 8 rest)))))

-- no entry more
pub end_kept : (times : List ℕ) (number last : ℕ) (rest : List ℕ) (read : Result (List ℕ) TimesError) → read ≡ prepend times (entries_in number last rest) → length rest ≡ 0 → read ≡ Ok times
end_kept times number last [] read kept none = kept ∙ ap (prepend times) (entries-none number last) ∙ ap Ok (append-nil times)
end_kept times number last (b ∷ bytes) read kept none = absurd (omega (arith, none))

gives : (error : TimesError) (left : List ℕ) (read : Result (List ℕ) TimesError) → read ≡ Err error → Gives (Err error) left read
gives Magic left read is = is
gives (Short number) left read is = is
gives (Order number) left read is = is
gives NoMemory left read is = tt

-- a fault
pub fault_gives : (times left : List ℕ) (number last : ℕ) (rest : List ℕ) (error : TimesError) (read : Result (List ℕ) TimesError) → read ≡ prepend times (entries_in number last rest) → 0 < length rest → entry_at number last rest ≡ Err error → Gives (Err error) left read
fault_gives times left number last rest error read kept lt is = gives error left read (kept ∙ ap (prepend times) (entries-fault number last error rest lt is))

-- ---- what is written is read

entry-read : (number last time : ℕ) (rest : List ℕ) → time < 2 ^ 64 → last ≤ time → entry_at number last (to_be_bytes w64 time ++ rest) ≡ Ok time
entry-read number last time rest fits le =
    let long = cond-false (nat_lt (length (to_be_bytes w64 time ++ rest)) 8) (Err (Short number)) (timely number last (from_be_bytes w64 (to_be_bytes w64 time))) (le-ltb (length (to_be_bytes w64 time ++ rest)) 8 (omega arith)) in
    let back = ap (timely number last) (from_be_bytes-to_be_bytes_8 time fits) in
    let late = cond-false (nat_lt time last) (Err (Order number)) (Ok time) (le-ltb time last le) in
    long ∙ back ∙ late

entries-read : (number last : ℕ) (times : List ℕ) → AllByRecursion (λ time. time < 2 ^ 64) times → Rises last times → entries_in number last (entries_text times) ≡ Ok times
entries-read number last [] fits rises = entries-none number last
entries-read number last (time ∷ times) fits rises =
    let first = entry-read number last time (entries_text times) fits.0 rises.0 in
    let next = entries-next number last time (to_be_bytes w64 time ++ entries_text times) (omega arith) first in
    next ∙ ap (prepend (time ∷ [])) (entries-read (suc number) time times fits.1 rises.1)

dated-read : (date : ℕ) → date < 2 ^ 64 → (rest : List ℕ) → beginning_at (dated date ++ rest) ≡ Ok (record { date = date; boot = None })
dated-read date fits rest =
    let long = cond-false (nat_lt (length (to_be_bytes w64 date ++ rest)) 8) _ (Ok (record { date = from_be_bytes w64 (to_be_bytes w64 date); boot = None })) (le-ltb (length (to_be_bytes w64 date ++ rest)) 8 (omega arith)) in
    long ∙ ap (λ n. Ok (record { date = n; boot = None })) (from_be_bytes-to_be_bytes_8 date fits)

booted-read : (date : ℕ) (boot : Boot) → date < 2 ^ 64 → FitsBoot (Some boot) → (rest : List ℕ) → beginning_at (booted date boot ++ rest) ≡ Ok (record { date = date; boot = Some boot })
booted-read date boot fits others rest =
    let body = to_be_bytes w64 boot.high ++ (to_be_bytes w64 boot.low ++ (to_be_bytes w64 date ++ (to_be_bytes w64 boot.zero ++ rest))) in
    let long = cond-false (nat_lt (length body) 32) _ (Ok (record { date = from_be_bytes w64 (to_be_bytes w64 date); boot = Some (record { high = from_be_bytes w64 (to_be_bytes w64 boot.high); low = from_be_bytes w64 (to_be_bytes w64 boot.low); zero = from_be_bytes w64 (to_be_bytes w64 boot.zero) }) })) (le-ltb (length body) 32 (omega arith)) in
    long ∙ rw (from_be_bytes-to_be_bytes_8 date fits, from_be_bytes-to_be_bytes_8 boot.high others.0, from_be_bytes-to_be_bytes_8 boot.low others.1, from_be_bytes-to_be_bytes_8 boot.zero others.2) refl

times-read-by : (date : ℕ) (boot : Option Boot) (times : List ℕ) → date < 2 ^ 64 → FitsBoot boot → AllByRecursion (λ time. time < 2 ^ 64) times → Rises 0 times → times_at (begun date boot ++ entries_text times) ≡ Ok (record { date = date; boot = boot }, times)
times-read-by date None times fits other all rises =
    ap (λ read. followed_by read (entries_in 1 0 (entries_text times))) (dated-read date fits (entries_text times)) ∙ ap (followed_by (Ok (record { date = date; boot = None }))) (entries-read 1 0 times all rises)
times-read-by date (Some boot) times fits others all rises =
    ap (λ read. followed_by read (entries_in 1 0 (entries_text times))) (booted-read date boot fits others (entries_text times)) ∙ ap (followed_by (Ok (record { date = date; boot = Some boot }))) (entries-read 1 0 times all rises)

pub times-read : (first : Beginning) (times : List ℕ) → Fits first → AllByRecursion (λ time. time < 2 ^ 64) times → Rises 0 times → times_at (spelled first times) ≡ Ok (first, times)
times-read first times fits all rises = times-read-by first.date first.boot times fits.0 fits.1 all rises
