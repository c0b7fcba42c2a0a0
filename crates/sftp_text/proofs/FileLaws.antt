-- Whole transcripts, record by record.
use Rattle.std.proofs.Common.{◌≡◌, ◌≢◌, ℕ, zero, suc, ◌-◌, ◌<◌, List, [], ◌∷◌, ◌++◌, take, drop, Option, Some, None, arith}
use Rattle.std.proofs.Common.{refl, sym, ap, subst, append_assoc}
use Rattle.std.proofs.lemmas.List.{append-nil}
use Rattle.std.specs.Prelude.{option_and_then}
use Rattle.std.specs.List.{flat_map}
use Rattle.sftp_packets.specs.declared.packets.Side.{Side}
use Rattle.sftp_text.specs.Lines.{line_of, side_of_letter, record_length, records_up_to, text_of}
use Rattle.sftp_text.specs.Texts.{lines_onto, behind_side, next_record, fed_line}

onto-nothing : (text : List ℕ) → lines_onto text (Some []) ≡ Some text
unfolding text_of
onto-nothing text = ap (λ (t : List ℕ). Some t) (append-nil text)

-- where nothing is left, there are no more lines
pub records_end : (text : List ℕ) (most : ℕ) → lines_onto text (records_up_to most []) ≡ Some text
records_end text zero = onto-nothing text
records_end text (suc most) = onto-nothing text

pub records_zero : (text rest : List ℕ) → lines_onto text (records_up_to 0 rest) ≡ Some text
records_zero text rest = onto-nothing text

abbrev and_record : Side × List ℕ → Option (List (Side × List ℕ)) → Option (List (Side × List ℕ))
and_record first others = option_and_then (λ rs. Some (first ∷ rs)) others

onto-first :
    (text : List ℕ) (side : Side) (packet : List ℕ) (others : Option (List (Side × List ℕ)))
    → lines_onto text (and_record (side, packet) others) ≡ lines_onto (text ++ fed_line side packet) others
unfolding text_of
onto-first text side packet None = refl
onto-first text side packet (Some rs) =
    ap (λ (t : List ℕ). Some t)
    (sym (append_assoc text (fed_line side packet) (flat_map (λ r. line_of r.0 r.1 ++ 10 ∷ []) rs)))

injected : (p q : (Side × List ℕ) × List ℕ) → Some p ≡ Some q → p ≡ q
injected p q same = cc

step :
    (text : List ℕ) (most c : ℕ) (bytes packet left : List ℕ) (side : Side) (found : Option Side)
    → side_of_letter c ≡ found
    → option_and_then (behind_side bytes) found
    ≡ Some ((side, packet), left)
    → lines_onto (text ++ fed_line side packet) (records_up_to most left)
    ≡ lines_onto text (records_up_to (suc most) (c ∷ bytes))
step text most c bytes packet left side None letter is = absurd (cc)
step text most c bytes packet left side (Some s) letter is =
    let both =
    injected ((s, take (record_length bytes) bytes), drop (record_length bytes) bytes) ((side, packet), left) is in
    let same : s ≡ side = ap (λ (p : (Side × List ℕ) × List ℕ). p.0.0) both in
    let taken : take (record_length bytes) bytes ≡ packet = ap (λ (p : (Side × List ℕ) × List ℕ). p.0.1) both in
    let rest : drop (record_length bytes) bytes ≡ left = ap (λ (p : (Side × List ℕ) × List ℕ). p.1) both in
    rw (letter, same, taken, rest) (sym (onto-first text side packet (records_up_to most left)))

some :
    (text : List ℕ) (most : ℕ) (rest packet left : List ℕ) (side : Side) → next_record rest ≡ Some ((side, packet), left)
    → lines_onto (text ++ fed_line side packet) (records_up_to most left) ≡ lines_onto text (records_up_to (suc most) rest)
some text most [] packet left side is = absurd (cc)
some text most (c ∷ bytes) packet left side is = step text most c bytes packet left side (side_of_letter c) refl is

-- a record that is found leaves the others to be shown behind its line
pub records_go_on :
    (text : List ℕ) (most : ℕ) (rest packet left : List ℕ) (side : Side) → 0 < most
    → next_record rest ≡ Some ((side, packet), left)
    → lines_onto (text ++ fed_line side packet) (records_up_to (most - 1) left)
    ≡ lines_onto text (records_up_to most rest)
records_go_on text most rest packet left side any is =
    let same : most ≡ suc (most - 1) = omega arith in
    let P : ℕ → Type 0 =
    λ n. lines_onto (text ++ fed_line side packet) (records_up_to (most - 1) left)
    ≡ lines_onto text (records_up_to n rest) in
    subst P (sym same) (some text (most - 1) rest packet left side is)

none :
    (text : List ℕ) (most c : ℕ) (bytes : List ℕ) (found : Option Side) → side_of_letter c ≡ found
    → option_and_then (behind_side bytes) found ≡ None
    → lines_onto text (records_up_to (suc most) (c ∷ bytes)) ≡ None
none text most c bytes None letter is = rw letter
none text most c bytes (Some s) letter is = absurd (cc)

-- where no record is found, the bytes are no transcript's
pub records_fail :
    (text : List ℕ) (most : ℕ) (rest : List ℕ) → 0 < most → rest ≢ [] → next_record rest ≡ None
    → lines_onto text (records_up_to most rest) ≡ None
records_fail text zero rest any left is = absurd (omega arith)
records_fail text (suc most) [] any left is = absurd (left refl)
records_fail text (suc most) (c ∷ bytes) any left is = none text most c bytes (side_of_letter c) refl is

-- how records are shown
pub ruleset record_steps = (records_go_on, records_fail, records_end, records_zero)
