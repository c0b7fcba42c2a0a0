-- Texts of several lines, a line at a time.
use Rattle.std.proofs.Common.{◌≡◌, ◌==◌, ℕ, ◌-◌, ◌≤◌, List, [], ◌∷◌, ◌++◌, take, drop, length, Option, Some, None, Bool}
use Rattle.std.proofs.Common.{true, false, if◌then◌else◌, refl, sym, ap, ◌∙◌, append_assoc, arith, inl, inr}
use Rattle.std.specs.Prelude.{option_and_then, flat_map}
use Rattle.std.proofs.lemmas.Bool.{cond-true, cond-false, cases_Bool}
use Rattle.std.proofs.lemmas.List.{append-nil, length-append}
use Rattle.sftp_packets.specs.declared.packets.Side.{Side}
use Rattle.sftp_text.specs.declared.due.Due.{Due}
use Rattle.sftp_text.specs.declared.due.Due.TheVariants as dues
use Rattle.sftp_text.specs.Lines.{line_read, side_letter, is_blank, and_others, with_line, lines_read, transcript_opening}
use Rattle.sftp_text.specs.Lines.{whole, with_said, said_lines}
use Rattle.sftp_text.specs.Trees.{entry_text, root_text, head_text, entries_read, root_and_lines, head_is_wide}
use Rattle.sftp_text.specs.Texts.{first_line, behind_line, onto, line_bytes, records_onto, transcript_onto}
use Rattle.sftp_text.specs.Texts.{form_of, due_after, lines_from}

-- ---- cutting a text

-- a text was searched for a line feed up to what is left
pub record IsSearched (text left : List ℕ) : Type 0 where
  pub done : List ℕ
  pub parts : text ≡ done ++ left
  pub line : first_line text ≡ done ++ first_line left
  pub behind : behind_line text ≡ behind_line left

pub searched_start : (text : List ℕ) → IsSearched text text
searched_start text = record { done = []; parts = refl; line = refl; behind = refl }

first_line-other : (c : ℕ) (text : List ℕ) → (c == 10) ≡ false → first_line (c ∷ text) ≡ c ∷ first_line text
first_line-other c text other = rw other refl

behind_line-other : (c : ℕ) (text : List ℕ) → (c == 10) ≡ false → behind_line (c ∷ text) ≡ behind_line text
behind_line-other c text other = rw other refl

first_line-feed : (c : ℕ) (text : List ℕ) → (c == 10) ≡ true → first_line (c ∷ text) ≡ []
first_line-feed c text feed = rw feed refl

behind_line-feed : (c : ℕ) (text : List ℕ) → (c == 10) ≡ true → behind_line (c ∷ text) ≡ text
behind_line-feed c text feed = rw feed refl

pub searched_next : (text left rest : List ℕ) (c : ℕ) → IsSearched text left → left ≡ c ∷ rest → (c == 10) ≡ false
    → IsSearched text rest
searched_next text left rest c so_far is other = record {
  done = so_far.done ++ c ∷ [];
  parts = so_far.parts ∙ ap (λ (l : List ℕ). so_far.done ++ l) is ∙ sym (append_assoc so_far.done (c ∷ []) rest);
  line =
      so_far.line ∙ ap (λ (l : List ℕ). so_far.done ++ first_line l) is
      ∙ ap (λ (l : List ℕ). so_far.done ++ l) (first_line-other c rest other)
      ∙ sym (append_assoc so_far.done (c ∷ []) (first_line rest));
  behind = so_far.behind ∙ ap behind_line is ∙ behind_line-other c rest other;
}

pub searched_within : (text left : List ℕ) → IsSearched text left → length left ≤ length text
searched_within text left so_far =
    omega (arith, ap length so_far.parts, length-append so_far.done left)

take-front : (done left : List ℕ) → take (length done) (done ++ left) ≡ done
take-front [] left = refl
take-front (c ∷ done) left = ap (λ (l : List ℕ). c ∷ l) (take-front done left)

drop-front : (done left : List ℕ) → drop (length done) (done ++ left) ≡ left
drop-front [] left = refl
drop-front (c ∷ done) left = drop-front done left

size-done : (text left : List ℕ) → (so_far : IsSearched text left) → length text - length left ≡ length so_far.done
size-done text left so_far = omega (arith, ap length so_far.parts, length-append so_far.done left)

taken : (text left : List ℕ) → (so_far : IsSearched text left) → take (length text - length left) text ≡ so_far.done
taken text left so_far =
    ap (λ (n : ℕ). take n text) (size-done text left so_far) ∙ ap (take (length so_far.done)) so_far.parts
    ∙ take-front so_far.done left

dropped : (text left : List ℕ) → IsSearched text left → drop (length text - length left) text ≡ left
dropped text left so_far =
    ap (λ (n : ℕ). drop n text) (size-done text left so_far) ∙ ap (drop (length so_far.done)) so_far.parts
    ∙ drop-front so_far.done left

-- at a line feed
pub line_at_feed : (text left rest : List ℕ) (c : ℕ) → IsSearched text left → left ≡ c ∷ rest → (c == 10) ≡ true
    → take (length text - length left) text ≡ first_line text
line_at_feed text left rest c so_far is feed =
    taken text left so_far ∙ sym (append-nil so_far.done)
    ∙ sym (so_far.line ∙ ap (λ (l : List ℕ). so_far.done ++ first_line l) is
    ∙ ap (λ (l : List ℕ). so_far.done ++ l) (first_line-feed c rest feed))

pub behind_at_feed : (text left rest : List ℕ) (c : ℕ) → IsSearched text left → left ≡ c ∷ rest → (c == 10) ≡ true
    → drop 1 (drop (length text - length left) text) ≡ behind_line text
behind_at_feed text left rest c so_far is feed =
    ap (drop 1) (dropped text left so_far ∙ is)
    ∙ sym (so_far.behind ∙ ap behind_line is ∙ behind_line-feed c rest feed)

-- at the end
pub line_at_end : (text left : List ℕ) → IsSearched text left → left ≡ []
    → take (length text - length left) text ≡ first_line text
line_at_end text left so_far is =
    taken text left so_far ∙ sym (append-nil so_far.done)
    ∙ sym (so_far.line ∙ ap (λ (l : List ℕ). so_far.done ++ first_line l) is)

pub behind_at_end : (text left : List ℕ) → IsSearched text left → left ≡ []
    → drop 1 (drop (length text - length left) text) ≡ behind_line text
behind_at_end text left so_far is =
    ap (drop 1) (dropped text left so_far ∙ is) ∙ sym (so_far.behind ∙ ap behind_line is)

-- ---- transcripts

lines_read-cut : (done text : List ℕ)
    → lines_read done text ≡ with_line (done ++ first_line text) (lines_read [] (behind_line text))
lines_read-cut done [] = ap (λ (l : List ℕ). with_line l (Some [])) (sym (append-nil done))
lines_read-cut done (c ∷ text) =
    elim (cases_Bool (c == 10)) [
      | inl feed ↦
          cond-true (c == 10) (with_line done (lines_read [] text)) (lines_read (done ++ c ∷ []) text) feed
          ∙ ap (λ (l : List ℕ). with_line l (lines_read [] text)) (sym (append-nil done))
          ∙ ap (λ (l : List ℕ). with_line (done ++ l) (lines_read [] text)) (sym (first_line-feed c text feed))
          ∙ ap (λ (l : List ℕ). with_line (done ++ first_line (c ∷ text)) (lines_read [] l))
          (sym (behind_line-feed c text feed))
      | inr other ↦
          cond-false (c == 10) (with_line done (lines_read [] text)) (lines_read (done ++ c ∷ []) text) other
          ∙ lines_read-cut (done ++ c ∷ []) text
          ∙ ap (λ (l : List ℕ). with_line l (lines_read [] (behind_line text)))
          (append_assoc done (c ∷ []) (first_line text))
          ∙ ap (λ (l : List ℕ). with_line (done ++ l) (lines_read [] (behind_line text)))
          (sym (first_line-other c text other))
          ∙ ap (λ (l : List ℕ). with_line (done ++ first_line (c ∷ text)) (lines_read [] l))
          (sym (behind_line-other c text other))
    ]

inside : (xs ys : List ℕ) → Some xs ≡ Some ys → xs ≡ ys
inside xs ys same = cc

line-onto : (blank : Bool) (read : Option (Side × List ℕ)) (bytes new : List ℕ) (others : Option (List (Side × List ℕ)))
    → onto bytes (if blank then Some [] else option_and_then (λ r. Some (side_letter r.0 ∷ r.1)) read) ≡ Some new
    → records_onto new others ≡ records_onto bytes (if blank then others else and_others read others)
line-onto true read bytes new others is =
    ap (λ (l : List ℕ). records_onto l others) (sym (inside (bytes ++ []) new is) ∙ append-nil bytes)
line-onto false None bytes new others is = absurd (cc)
line-onto false (Some r) bytes new None is = refl
line-onto false (Some r) bytes new (Some rs) is =
    let all : List ℕ = flat_map (λ r. side_letter r.0 ∷ r.1) rs in
    ap (λ (l : List ℕ). Some (l ++ all)) (sym (inside (bytes ++ side_letter r.0 ∷ r.1) new is))
    ∙ ap (λ (l : List ℕ). Some l) (append_assoc bytes (side_letter r.0 ∷ r.1) all)

line-nothing : (blank : Bool) (read : Option (Side × List ℕ)) (bytes : List ℕ) (others : Option (List (Side × List ℕ)))
    → onto bytes (if blank then Some [] else option_and_then (λ r. Some (side_letter r.0 ∷ r.1)) read) ≡ None
    → records_onto bytes (if blank then others else and_others read others) ≡ None
line-nothing true read bytes others is = absurd (cc)
line-nothing false None bytes others is = refl
line-nothing false (Some r) bytes others is = absurd (cc)

-- a line that is read leaves the others to be read
pub lines_go_on : (bytes new text : List ℕ) → onto bytes (line_bytes (first_line text)) ≡ Some new
    → records_onto new (lines_read [] (behind_line text)) ≡ records_onto bytes (lines_read [] text)
lines_go_on bytes new text is =
    line-onto (is_blank (first_line text)) (line_read (first_line text)) bytes new (lines_read [] (behind_line text)) is
    ∙ ap (records_onto bytes) (sym (lines_read-cut [] text))

pub lines_fail : (bytes text : List ℕ) → onto bytes (line_bytes (first_line text)) ≡ None
    → records_onto bytes (lines_read [] text) ≡ None
lines_fail bytes text is =
    ap (records_onto bytes) (lines_read-cut [] text)
    ∙ line-nothing (is_blank (first_line text)) (line_read (first_line text)) bytes (lines_read [] (behind_line text)) is

pub lines_end : (bytes text : List ℕ) → text ≡ [] → records_onto bytes (lines_read [] text) ≡ Some bytes
lines_end bytes text is =
    ap (λ (l : List ℕ). records_onto bytes (lines_read [] l)) is ∙ ap (λ (l : List ℕ). Some l) (append-nil bytes)

opened : (bytes : List ℕ) (records : Option (List (Side × List ℕ)))
    → records_onto (bytes ++ transcript_opening) records ≡ transcript_onto bytes records
opened bytes None = refl
opened bytes (Some rs) =
    ap (λ (l : List ℕ). Some l)
    (append_assoc bytes transcript_opening (flat_map (λ r. side_letter r.0 ∷ r.1) rs))

pub lines_start : (bytes text : List ℕ)
    → records_onto (bytes ++ transcript_opening) (lines_read [] text) ≡ transcript_onto bytes (lines_read [] text)
lines_start bytes text = opened bytes (lines_read [] text)

-- ---- tree files

said-cut : (done text : List ℕ)
    → said_lines done text ≡ with_said (done ++ first_line text) (said_lines [] (behind_line text))
said-cut done [] = ap (λ (l : List ℕ). with_said l []) (sym (append-nil done))
said-cut done (c ∷ text) =
    elim (cases_Bool (c == 10)) [
      | inl feed ↦
          cond-true (c == 10) (with_said done (said_lines [] text)) (said_lines (done ++ c ∷ []) text) feed
          ∙ ap (λ (l : List ℕ). with_said l (said_lines [] text)) (sym (append-nil done))
          ∙ ap (λ (l : List ℕ). with_said (done ++ l) (said_lines [] text)) (sym (first_line-feed c text feed))
          ∙ ap (λ (l : List ℕ). with_said (done ++ first_line (c ∷ text)) (said_lines [] l))
          (sym (behind_line-feed c text feed))
      | inr other ↦
          cond-false (c == 10) (with_said done (said_lines [] text)) (said_lines (done ++ c ∷ []) text) other
          ∙ said-cut (done ++ c ∷ []) text
          ∙ ap (λ (l : List ℕ). with_said l (said_lines [] (behind_line text)))
          (append_assoc done (c ∷ []) (first_line text))
          ∙ ap (λ (l : List ℕ). with_said (done ++ l) (said_lines [] (behind_line text)))
          (sym (first_line-other c text other))
          ∙ ap (λ (l : List ℕ). with_said (done ++ first_line (c ∷ text)) (said_lines [] l))
          (sym (behind_line-other c text other))
    ]

part-onto : (part others : Option (List ℕ)) (bytes new : List ℕ) → onto bytes part ≡ Some new
    → onto new others ≡ onto bytes (option_and_then (λ b. option_and_then (λ more. Some (b ++ more)) others) part)
part-onto None others bytes new is = absurd (cc)
part-onto (Some b) None bytes new is = refl
part-onto (Some b) (Some more) bytes new is =
    ap (λ (l : List ℕ). Some (l ++ more)) (sym (inside (bytes ++ b) new is))
    ∙ ap (λ (l : List ℕ). Some l) (append_assoc bytes b more)

part-nothing : (part others : Option (List ℕ)) (bytes : List ℕ) → onto bytes part ≡ None
    → onto bytes (option_and_then (λ b. option_and_then (λ more. Some (b ++ more)) others) part) ≡ None
part-nothing None others bytes is = refl
part-nothing (Some b) others bytes is = absurd (cc)

-- a line of the form that is due leaves the others
due-onto : (due : Due) (line : List ℕ) (lines : List (List ℕ)) (bytes part new : List ℕ)
    → whole ((form_of due).read [] line) ≡ Some part
    → onto bytes (whole ((form_of due).read [] line)) ≡ Some new
    → onto new (lines_from (due_after due part) lines) ≡ onto bytes (lines_from due (line ∷ lines))
due-onto dues.Head line [] bytes part new known is = refl
due-onto dues.Head line (root ∷ lines) bytes part new known is =
    let read : Option (List ℕ) = whole (head_text.read [] line) in
    let others : Option (List ℕ) → Option (List ℕ) = λ o. root_and_lines (head_is_wide o) root lines in
    ap (λ o. onto new (others o)) (sym known) ∙ part-onto read (others read) bytes new is
due-onto (dues.Root wide) line lines bytes part new known is =
    part-onto (whole ((root_text wide).read [] line)) (entries_read wide lines) bytes new is
due-onto (dues.Entry wide) line lines bytes part new known is =
    part-onto (whole ((entry_text wide).read [] line)) (entries_read wide lines) bytes new is

due-nothing : (due : Due) (line : List ℕ) (lines : List (List ℕ)) (bytes : List ℕ)
    → onto bytes (whole ((form_of due).read [] line)) ≡ None
    → onto bytes (lines_from due (line ∷ lines)) ≡ None
due-nothing dues.Head line [] bytes is = refl
due-nothing dues.Head line (root ∷ lines) bytes is =
    let read : Option (List ℕ) = whole (head_text.read [] line) in
    part-nothing read (root_and_lines (head_is_wide read) root lines) bytes is
due-nothing (dues.Root wide) line lines bytes is =
    part-nothing (whole ((root_text wide).read [] line)) (entries_read wide lines) bytes is
due-nothing (dues.Entry wide) line lines bytes is =
    part-nothing (whole ((entry_text wide).read [] line)) (entries_read wide lines) bytes is

said-line : (text : List ℕ) → is_blank (first_line text) ≡ false
    → said_lines [] text ≡ first_line text ∷ said_lines [] (behind_line text)
said-line text said =
    said-cut [] text
    ∙ cond-false (is_blank (first_line text)) (said_lines [] (behind_line text))
    (first_line text ∷ said_lines [] (behind_line text)) said

pub tree_goes_on : (due : Due) (bytes part new text : List ℕ) → is_blank (first_line text) ≡ false
    → whole ((form_of due).read [] (first_line text)) ≡ Some part
    → onto bytes (whole ((form_of due).read [] (first_line text))) ≡ Some new
    → onto new (lines_from (due_after due part) (said_lines [] (behind_line text)))
    ≡ onto bytes (lines_from due (said_lines [] text))
tree_goes_on due bytes part new text said known is =
    due-onto due (first_line text) (said_lines [] (behind_line text)) bytes part new known is
    ∙ ap (λ (l : List (List ℕ)). onto bytes (lines_from due l)) (sym (said-line text said))

pub tree_fails : (due : Due) (bytes text : List ℕ) → is_blank (first_line text) ≡ false
    → onto bytes (whole ((form_of due).read [] (first_line text))) ≡ None
    → onto bytes (lines_from due (said_lines [] text)) ≡ None
tree_fails due bytes text said is =
    ap (λ (l : List (List ℕ)). onto bytes (lines_from due l)) (said-line text said)
    ∙ due-nothing due (first_line text) (said_lines [] (behind_line text)) bytes is

pub tree_passes : (due : Due) (bytes text : List ℕ) → is_blank (first_line text) ≡ true
    → onto bytes (lines_from due (said_lines [] (behind_line text))) ≡ onto bytes (lines_from due (said_lines [] text))
tree_passes due bytes text blank =
    ap (λ (l : List (List ℕ)). onto bytes (lines_from due l))
    (sym (said-cut [] text
    ∙ cond-true (is_blank (first_line text)) (said_lines [] (behind_line text))
    (first_line text ∷ said_lines [] (behind_line text)) blank))

pub tree_ends : (due : Due) (bytes text : List ℕ) → text ≡ [] → lines_from due [] ≡ Some []
    → onto bytes (lines_from due (said_lines [] text)) ≡ Some bytes
tree_ends due bytes text is complete =
    ap (λ (l : List ℕ). onto bytes (lines_from due (said_lines [] l))) is ∙ ap (onto bytes) complete
    ∙ ap (λ (l : List ℕ). Some l) (append-nil bytes)

pub tree_lacks : (due : Due) (bytes text : List ℕ) → text ≡ [] → lines_from due [] ≡ None
    → onto bytes (lines_from due (said_lines [] text)) ≡ None
tree_lacks due bytes text is lacks =
    ap (λ (l : List ℕ). onto bytes (lines_from due (said_lines [] l))) is ∙ ap (onto bytes) lacks

-- how the end of a line is searched for
pub ruleset line_steps = (searched_start, searched_next, searched_within, line_at_feed, behind_at_feed, line_at_end, behind_at_end)

-- how the lines of a session are read
pub ruleset text_steps = (lines_start, lines_go_on, lines_fail, lines_end)

-- how the lines of a tree file are read
pub ruleset tree_steps = (tree_goes_on, tree_fails, tree_passes, tree_ends, tree_lacks)
