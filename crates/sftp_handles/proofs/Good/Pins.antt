-- How often files are pinned by what is open.
use Rattle.sftp_handles.proofs.Imports.{◌≡◌, [], List, ℕ, subst, ap, sym, arith, le-leb, bytes_cmp, InOrder-empty}
use Rattle.sftp_handles.proofs.Imports.{Tree, ◌∙◌, Pins, trimmed-already, IsKept, trim, Handles, pins_of, State}
use Rattle.sftp_handles.proofs.Imports.{settled, Good, ◌==◌, ◌+◌, ◌-◌, ◌<◌, Bool, true, false, cond, nat_lt}
use Rattle.sftp_handles.proofs.Imports.{unwrap_or, ◌∷◌, Option, Some, None, refl, if◌then◌else◌, zero, suc, nat_cmp}
use Rattle.sftp_handles.proofs.Imports.{is_eq, nat_cmp_total, nat_list_cmp_total, nat_cmp-IsAntisymmetric, lt-ltb}
use Rattle.sftp_handles.proofs.Imports.{eqb-true, eq-eqb, ne_eqb, same_Some, OpenFlags, InOrder, get, put, count}
use Rattle.sftp_handles.proofs.Imports.{retain, InOrder-put, InOrder-without, get-put, get-without, same_table}
use Rattle.sftp_handles.proofs.Imports.{one_if, count-without, times_pinned, with_pins, with_pin, without_pin, File}
use Rattle.sftp_handles.proofs.Imports.{Listing, Left, open_at, with_open, without_open, opens_file, times_open}
use Rattle.sftp_path.proofs.Table.Entries.{count-step, count-put_new, count-put_again}
use Rattle.sftp_tree.proofs.TreeFiles.Numbers.{number_is}

-- ==== States of trees with the pins of what is open, and those in which nothing is.

abbrev pub state_of : Tree → Handles → State
state_of t handles = record { tree = t; handles = handles }

with_pins_of : Tree → Pins → Tree
with_pins_of t pins = record t { pins = pins }

-- a tree with the pins of what is open is settled where it is trimmed
pub settled-pinned : (t : Tree) (handles : Handles) → t.pins ≡ pins_of handles
    → settled t handles ≡ state_of (trim t) handles
unfolding with_pins_of
settled-pinned t handles same = ap (λ pins. state_of (trim (with_pins_of t pins)) handles) (sym same)

-- and as it is, if it is kept
pub settled-already : (t : Tree) (handles : Handles) → IsKept t → t.pins ≡ pins_of handles
    → settled t handles ≡ state_of t handles
settled-already t handles kept same =
    settled-pinned t handles same ∙ ap (λ t. state_of t handles) (trimmed-already t kept.trimmed)

pub nothing-open : (before t : Tree) (handles : Handles) → handles ≡ [] → t ≡ trim (record before { pins = [] })
    → state_of t handles ≡ settled before []
unfolding pins_of
nothing-open before t handles none is = λ i. record { tree = is i; handles = none i }

good-empty : (before t : Tree) → t ≡ trim (record before { pins = [] }) → IsKept t → Good (state_of t [])
unfolding pins_of
good-empty before t is kept = record {
  tree = kept;
  pinned = ap (λ (t : Tree). t.pins) is;
  ordered = InOrder-empty (List ℕ) bytes_cmp;
  handles = tt;
  few = le-leb 0 t.limits.open_handles (omega arith);
}

pub good-closed_all : (before t : Tree) (handles : Handles) → handles ≡ [] → t ≡ trim (record before { pins = [] })
    → IsKept t → Good (state_of t handles)
good-closed_all before t handles none is kept =
    subst (λ handles. Good (state_of t handles)) (sym none) (good-empty before t is kept)

-- ---- one more pin

-- an entry is put, since the count is not 0
with_pin-put : (pins : Pins) (number : ℕ)
    → with_pin pins number ≡ put nat_cmp pins number (times_pinned pins number + 1)
with_pin-put pins number = rw (lt-ltb 0 (times_pinned pins number + 1) (omega arith)) refl

-- the count of a file after another pin of this or another file
put-times : (b : Bool) (n m : ℕ) (pins : Pins) → (n == m) ≡ b
    → unwrap_or (cond b (Some (times_pinned pins m + 1)) (get nat_cmp pins n)) 0 ≡ one_if b + times_pinned pins n
put-times true n m pins hit =
    let same : n ≡ m = eqb-true n m hit in
    let counts : times_pinned pins m ≡ times_pinned pins n = ap (times_pinned pins) (sym same) in
    omega (arith, counts)
put-times false n m pins miss = omega arith

pub pin-times : (pins : Pins) (m n : ℕ) → times_pinned (with_pin pins m) n ≡ one_if (n == m) + times_pinned pins n
pin-times pins m n =
    ap (λ t. times_pinned t n) (with_pin-put pins m)
    ∙ (ap (λ o. unwrap_or o 0) (get-put nat_cmp nat_cmp_total pins m (times_pinned pins m + 1) n)
    ∙ (ap (λ b. unwrap_or (cond b (Some (times_pinned pins m + 1)) (get nat_cmp pins n)) 0) (number_is n m)
    ∙ put-times (n == m) n m pins refl))

put-positive : (b : Bool) (before : ℕ) (found : Option ℕ) (often : ℕ) → (found ≡ Some often → 0 < often)
    → cond b (Some (before + 1)) found ≡ Some often → 0 < often
put-positive true before found often rest there = let same = same_Some (before + 1) often there in omega (arith, same)
put-positive false before found often rest there = rest there

-- ---- the pins of handles

-- a file is pinned as often as it is open
pub pins-times : (handles : Handles) (number : ℕ) → times_pinned (pins_of handles) number ≡ times_open handles number
unfolding pins_of get retain
pins-times [] number = refl
pins-times ((handle, File m flags) ∷ es) number =
    pin-times (pins_of es) m number
    ∙ (ap (λ n. one_if (number == m) + n) (pins-times es number)
    ∙ sym (count-step (handle, File m flags) es (opens_file number)))
pins-times ((handle, Listing left) ∷ es) number =
    pins-times es number ∙ (let more = count-step (handle, Listing left) es (opens_file number) in omega (arith, more))

-- they are in order
pub pins-order : (handles : Handles) → InOrder nat_cmp (pins_of handles)
unfolding pins_of
pins-order [] = InOrder-empty ℕ nat_cmp
pins-order ((handle, File m flags) ∷ es) =
    subst (InOrder nat_cmp) (sym (with_pin-put (pins_of es) m))
    (InOrder-put nat_cmp nat_cmp_total (pins_of es) m (times_pinned (pins_of es) m + 1) (pins-order es))
pins-order ((handle, Listing left) ∷ es) = pins-order es

-- and none of their counts is 0
pub pins-positive : (handles : Handles) (number often : ℕ)
    → get nat_cmp (pins_of handles) number ≡ Some often → 0 < often
unfolding pins_of get
pins-positive [] number often there = absurd cc
pins-positive ((handle, File m flags) ∷ es) number often there =
    put-positive (is_eq (nat_cmp number m)) (times_pinned (pins_of es) m) (get nat_cmp (pins_of es) number) often
    (pins-positive es number often)
    (sym (get-put nat_cmp nat_cmp_total (pins_of es) m (times_pinned (pins_of es) m + 1) number)
    ∙ (ap (λ t. get nat_cmp t number) (sym (with_pin-put (pins_of es) m)) ∙ there))
pins-positive ((handle, Listing left) ∷ es) number often there = pins-positive es number often there

-- ---- tables of pins that answer alike

-- no count is 0
abbrev pub NoZeros : Pins → Type 0
NoZeros pins = (number often : ℕ) → get nat_cmp pins number ≡ Some often → 0 < often

-- what is pinned so often, with no entry for what is not pinned
entry_of : ℕ → Option ℕ
entry_of n = if nat_lt 0 n then Some n else None

entry-is : (found : Option ℕ) → ((often : ℕ) → found ≡ Some often → 0 < often) → found ≡ entry_of (unwrap_or found 0)
unfolding entry_of
entry-is None positive = refl
entry-is (Some n) positive = rw (lt-ltb 0 n (positive n refl)) refl

pub pins-same : (a b : Pins) → InOrder nat_cmp a → InOrder nat_cmp b → NoZeros a → NoZeros b
    → ((number : ℕ) → times_pinned a number ≡ times_pinned b number) → a ≡ b
pins-same a b order-a order-b positive-a positive-b alike =
    same_table nat_cmp nat_cmp_total nat_cmp-IsAntisymmetric a b order-a order-b
    (λ number.
    entry-is (get nat_cmp a number) (positive-a number)
    ∙ (ap entry_of (alike number) ∙ sym (entry-is (get nat_cmp b number) (positive-b number))))

-- ---- a count that is set

with_pins-put : (pins : Pins) (m often : ℕ) → 0 < often → with_pins pins m often ≡ put nat_cmp pins m often
with_pins-put pins m often more = rw (lt-ltb 0 often more) refl

set-put : (b : Bool) (n m often : ℕ) (pins : Pins) → (n == m) ≡ b
    → unwrap_or (cond b (Some often) (get nat_cmp pins n)) 0 ≡ (if b then often else times_pinned pins n)
set-put true n m often pins is = refl
set-put false n m often pins is = refl

set-without : (a b : Bool) (n : ℕ) (pins : Pins) → a ≡ b
    → unwrap_or (cond a None (get nat_cmp pins n)) 0 ≡ (if b then 0 else times_pinned pins n)
set-without true true n pins is = refl
set-without false false n pins is = refl
set-without true false n pins is = absurd cc
set-without false true n pins is = absurd cc

flipped : (m n : ℕ) → (m == n) ≡ (n == m)
flipped m n = by (n == m) refl
  where
    by : (b : Bool) → (n == m) ≡ b → (m == n) ≡ (n == m)
    by true is = eq-eqb m n (sym (eqb-true n m is)) ∙ sym is
    by false is = ne_eqb m n (λ same. let other = eq-eqb n m (sym same) in cc) ∙ sym is

pub set-times : (pins : Pins) (m often n : ℕ) → InOrder nat_cmp pins
    → times_pinned (with_pins pins m often) n ≡ (if n == m then often else times_pinned pins n)
set-times pins m zero n order =
    ap (λ o. unwrap_or o 0) (get-without nat_cmp nat_cmp_total pins m n order)
    ∙ set-without (is_eq (nat_cmp m n)) (n == m) n pins (number_is m n ∙ flipped m n)
set-times pins m (suc often) n order =
    ap (λ t. times_pinned t n) (with_pins-put pins m (suc often) (omega arith))
    ∙ (ap (λ o. unwrap_or o 0) (get-put nat_cmp nat_cmp_total pins m (suc often) n)
    ∙ (ap (λ b. unwrap_or (cond b (Some (suc often)) (get nat_cmp pins n)) 0) (number_is n m)
    ∙ set-put (n == m) n m (suc often) pins refl))

pub set-order : (pins : Pins) (m often : ℕ) → InOrder nat_cmp pins → InOrder nat_cmp (with_pins pins m often)
set-order pins m zero order = InOrder-without nat_cmp pins m order
set-order pins m (suc often) order =
    subst (InOrder nat_cmp) (sym (with_pins-put pins m (suc often) (omega arith)))
    (InOrder-put nat_cmp nat_cmp_total pins m (suc often) order)

set-found : (b : Bool) (often : ℕ) (found : Option ℕ) (count : ℕ) → 0 < often → (found ≡ Some count → 0 < count)
    → cond b (Some often) found ≡ Some count → 0 < count
set-found true often found count more rest there = let same = same_Some often count there in omega (arith, same, more)
set-found false often found count more rest there = rest there

left-found : (b : Bool) (found : Option ℕ) (count : ℕ) → (found ≡ Some count → 0 < count)
    → cond b None found ≡ Some count → 0 < count
left-found true found count rest there = absurd cc
left-found false found count rest there = rest there

pub set-positive : (pins : Pins) (m often : ℕ) → InOrder nat_cmp pins → NoZeros pins → NoZeros (with_pins pins m often)
set-positive pins m zero order positive number count there =
    left-found (is_eq (nat_cmp m number)) (get nat_cmp pins number) count (positive number count)
    (sym (get-without nat_cmp nat_cmp_total pins m number order) ∙ there)
set-positive pins m (suc often) order positive number count there =
    set-found (is_eq (nat_cmp number m)) (suc often) (get nat_cmp pins number) count (omega arith)
    (positive number count)
    (sym (get-put nat_cmp nat_cmp_total pins m (suc often) number)
    ∙ (ap (λ t. get nat_cmp t number) (sym (with_pins-put pins m (suc often) (omega arith))) ∙ there))

-- ---- handles that come and go

-- the pins of handles are these, if they count the same
pins-are : (handles : Handles) (pins : Pins) → InOrder nat_cmp pins → NoZeros pins
    → ((number : ℕ) → times_open handles number ≡ times_pinned pins number) → pins_of handles ≡ pins
pins-are handles pins order positive alike =
    pins-same (pins_of handles) pins (pins-order handles) order (pins-positive handles) positive
    (λ number. pins-times handles number ∙ alike number)

-- a file is opened under a new handle
pub pins-open_file : (handles : Handles) (handle : List ℕ) (m : ℕ) (flags : OpenFlags) → open_at handles handle ≡ None
    → pins_of (with_open handles handle (File m flags)) ≡ with_pin (pins_of handles) m
pins-open_file handles handle m flags absent =
    pins-are (with_open handles handle (File m flags)) (with_pin (pins_of handles) m)
    (set-order (pins_of handles) m (times_pinned (pins_of handles) m + 1) (pins-order handles))
    (set-positive (pins_of handles) m (times_pinned (pins_of handles) m + 1) (pins-order handles)
    (pins-positive handles))
    (λ number.
    let more = count-put_new bytes_cmp handles handle (File m flags) (opens_file number) absent in
    let pin = pin-times (pins_of handles) m number in
    let times = pins-times handles number in
    omega (arith, more, pin, times))

-- a listing is opened under a new handle
pub pins-open_listing : (handles : Handles) (handle : List ℕ) (left : Left) → open_at handles handle ≡ None
    → pins_of (with_open handles handle (Listing left)) ≡ pins_of handles
pins-open_listing handles handle left absent =
    pins-are (with_open handles handle (Listing left)) (pins_of handles) (pins-order handles) (pins-positive handles)
    (λ number.
    let more = count-put_new bytes_cmp handles handle (Listing left) (opens_file number) absent in
    let times = pins-times handles number in
    omega (arith, more, times))

-- a listing gives names
pub pins-listing_again : (handles : Handles) (handle : List ℕ) (old left : Left) → InOrder bytes_cmp handles
    → open_at handles handle ≡ Some (Listing old)
    → pins_of (with_open handles handle (Listing left)) ≡ pins_of handles
pins-listing_again handles handle old left order there =
    pins-are (with_open handles handle (Listing left)) (pins_of handles) (pins-order handles) (pins-positive handles)
    (λ number.
    let same =
    count-put_again bytes_cmp nat_list_cmp_total handles handle (Listing left) (Listing old)
    (opens_file number) order there in
    let times = pins-times handles number in
    omega (arith, same, times))

-- a listing is closed
pub pins-close_listing : (handles : Handles) (handle : List ℕ) (left : Left)
    → open_at handles handle ≡ Some (Listing left)
    → pins_of (without_open handles handle) ≡ pins_of handles
pins-close_listing handles handle left there =
    pins-are (without_open handles handle) (pins_of handles) (pins-order handles) (pins-positive handles)
    (λ number.
    let less = count-without bytes_cmp handles handle (Listing left) (opens_file number) there in
    let times = pins-times handles number in
    omega (arith, less, times))

one_less : (b : Bool) (n m count before less : ℕ) (pins : Pins) → (n == m) ≡ b
    → times_pinned pins n ≡ count → less + one_if b ≡ count → before ≡ times_pinned pins m
    → less ≡ (if b then before - 1 else times_pinned pins n)
one_less true n m count before less pins is times sum same =
    let one : n ≡ m = eqb-true n m is in
    let counts : times_pinned pins n ≡ times_pinned pins m = ap (times_pinned pins) one in
    omega (arith, times, sum, same, counts)
one_less false n m count before less pins is times sum same = omega (arith, times, sum)

-- a file's handle is closed
pub pins-close_file : (handles : Handles) (handle : List ℕ) (m : ℕ) (flags : OpenFlags)
    → open_at handles handle ≡ Some (File m flags)
    → pins_of (without_open handles handle) ≡ without_pin (pins_of handles) m
pins-close_file handles handle m flags there =
    pins-are (without_open handles handle) (without_pin (pins_of handles) m)
    (set-order (pins_of handles) m (times_pinned (pins_of handles) m - 1) (pins-order handles))
    (set-positive (pins_of handles) m (times_pinned (pins_of handles) m - 1) (pins-order handles)
    (pins-positive handles))
    (λ number.
    one_less (number == m) number m (times_open handles number) (times_pinned (pins_of handles) m)
    (times_open (without_open handles handle) number) (pins_of handles) refl (pins-times handles number)
    (count-without bytes_cmp handles handle (File m flags) (opens_file number) there) refl
    ∙ sym (set-times (pins_of handles) m (times_pinned (pins_of handles) m - 1) number (pins-order handles)))
