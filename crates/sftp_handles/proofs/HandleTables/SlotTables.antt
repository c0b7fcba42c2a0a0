-- Tables of handles as they are kept in slots, by the numbers of the slots.
use Rattle.sftp_handles.proofs.Imports.{◌≡◌, ◌≢◌, ◌⊎◌, ◌+◌, ◌<◌, ◌^◌, ◌++◌, ℕ, zero, suc, Bool, true, false, cond}
use Rattle.sftp_handles.proofs.Imports.{List, [], ◌∷◌, length, map, get_or, Option, None, Some, is_some, refl, sym}
use Rattle.sftp_handles.proofs.Imports.{ap, subst, ◌∙◌, inl, inr, zero-add, arith, ◌==◌, ◌-◌, take, drop}
use Rattle.sftp_handles.proofs.Imports.{if◌then◌else◌, bytes_eq, IsSome, w32, w64, from_be_bytes, nat_list_cmp_total}
use Rattle.sftp_handles.proofs.Imports.{nat_list_eq_equiv, mod-lt, cases_eq, eq-eqb, eqb-true, length-take}
use Rattle.sftp_handles.proofs.Imports.{length-drop, take-append-drop, is_eq-slice_cmp, bytes_eq-Decides, uint32}
use Rattle.sftp_handles.proofs.Imports.{uint64, AreBytes, bytes_cmp, from_entries, size, bytes_cmp-same, get-empty}
use Rattle.sftp_handles.proofs.Imports.{get-put, get-without, size-put, same_table, InOrder-from_entries, InOrder-put}
use Rattle.sftp_handles.proofs.Imports.{InOrder-without, Open, open_at, with_open, without_open, slot_name}
use Rattle.sftp_handles.proofs.Imports.{handles_from, slab_handles, serial_before, nat_lt, ◌≤◌, ltb-true, ltb-false}
use Rattle.sftp_handles.proofs.Imports.{InOrder, Handles}
use Rattle.std.proofs.lemmas.Nat.{be_bytes_4, be_bytes_8, from_be_bytes-to_be_bytes_4}
use Rattle.byteorder.specs.Endian.{big_number}
use Rattle.byteorder.specs.Numbers.{big_from-take, big_number-reads_back}
use Rattle.slab.specs.Slab.{Slab, get, with_value, Updates, entries_from, entries, slab_len}
use Rattle.slab.proofs.SlabLemmas.{length-entries, Updates-with_value}
use Rattle.sftp_strings.proofs.Bytes.{IsBytes, IsBytes-take, IsBytes-drop, big_number-four}
use Rattle.sftp_handles.specs.declared.slots.Slot.{Slot}
use Rattle.sftp_handles.specs.Slots.{named_slot, IsNameAt, IsNewest, IsNumbered}
use Rattle.sftp_handles.proofs.TotalSteps.{bytes-joined, number-bytes}
use Rattle.sftp_handles.proofs.TotalSteps.{name-left}

-- ---- names

-- `byteorder` and std read a number of eight bytes alike
big-eight : (bytes : List ℕ) → big_number 8 bytes ≡ from_be_bytes w64 bytes
big-eight bytes = omega arith

-- a name begins with the number of its slot
name-number : (number serial : ℕ) → number < 2 ^ 64 → big_number 8 (slot_name number serial) ≡ number
unfolding slot_name
name-number number serial fits = big_number-reads_back 8 number (uint32 serial) fits

-- a name that begins with another number is not the slot's
names-apart : (name : List ℕ) (number serial : ℕ) → number < 2 ^ 64 → big_number 8 name ≢ number
    → bytes_eq name (slot_name number serial) ≡ false
names-apart name number serial fits differs = by (bytes_eq name (slot_name number serial)) refl
  where
    by : (b : Bool) → bytes_eq name (slot_name number serial) ≡ b → b ≡ false
    by false is = refl
    by true is =
        let same = (bytes_eq-Decides name (slot_name number serial)).0 is in
        absurd (differs (ap (big_number 8) same ∙ name-number number serial fits))

-- a name has 12 bytes
pub length-name : (number serial : ℕ) → length (slot_name number serial) ≡ 12
unfolding slot_name
length-name number serial = refl

-- the serial stands behind the number, up to the end of the name
pub serial-read : (name : List ℕ) → length name ≡ 12
    → big_number 4 (take (length name - 8) (drop 8 name)) ≡ big_number 4 (drop 8 name)
serial-read name size = big_from-take 0 4 (length name - 8) (drop 8 name) (omega (arith, size))

-- a name of 12 bytes is that of the slot and of the serial that stand in it
pub name-read : (name : List ℕ) (number serial : ℕ) → length name ≡ 12 → IsBytes name
    → number ≡ big_number 8 name → serial ≡ big_number 4 (drop 8 name) → name ≡ slot_name number serial
unfolding slot_name
name-read name number serial size are number_is serial_is =
    let front : uint64 number ≡ take 8 name =
    be_bytes_8 (take 8 name) number (let n = length-take 8 name in omega (arith, n, size))
    (IsBytes-take 8 name are)
    (number_is ∙ (sym (big_from-take 0 8 8 name (omega arith)) ∙ big-eight (take 8 name))) in
    let back : uint32 serial ≡ drop 8 name =
    be_bytes_4 (drop 8 name) serial (let n = length-drop 8 name in omega (arith, n, size))
    (IsBytes-drop 8 name are) (serial_is ∙ big_number-four (drop 8 name)) in
    sym (ap (λ bytes. bytes ++ uint32 serial) front ∙ (ap (λ bytes. take 8 name ++ bytes) back ∙ take-append-drop 8 name))

-- another serial stands in a name that is not the slot's
pub name-differs : (name : List ℕ) (number serial found : ℕ) → serial < 2 ^ 32 → found ≡ big_number 4 (drop 8 name)
    → found ≢ serial → bytes_eq name (slot_name number serial) ≡ false
unfolding slot_name
name-differs name number serial found fits found_is differs = by (bytes_eq name (slot_name number serial)) refl
  where
    by : (b : Bool) → bytes_eq name (slot_name number serial) ≡ b → b ≡ false
    by false is = refl
    by true is =
        let same = (bytes_eq-Decides name (slot_name number serial)).0 is in
        absurd (differs (found_is
        ∙ (ap (λ bytes. big_number 4 (drop 8 bytes)) same ∙ big_number-reads_back 4 serial [] fits)))

-- ---- what is open

found-first : (name : List ℕ) (first : ℕ) (slot : Slot) (rest : List (Option Slot))
    → open_at (handles_from first (Some slot ∷ rest)) name
    ≡ cond (bytes_eq name (slot_name first slot.serial)) (Some slot.opened)
    (open_at (handles_from (first + 1) rest) name)
unfolding from_entries
found-first name first slot rest =
    get-put bytes_cmp nat_list_cmp_total (handles_from (first + 1) rest) (slot_name first slot.serial) slot.opened name
    ∙ ap (λ b. cond b (Some slot.opened) (open_at (handles_from (first + 1) rest) name))
    (is_eq-slice_cmp name (slot_name first slot.serial))

-- nothing is open under a name that no slot has
found-none : (name : List ℕ) (first : ℕ) (slots : List (Option Slot))
    → ((at number : ℕ) (slot : Slot) → number ≡ first + at → get_or slots at None ≡ Some slot
    → bytes_eq name (slot_name number slot.serial) ≡ false)
    → open_at (handles_from first slots) name ≡ None
unfolding from_entries
found-none name first [] others = get-empty bytes_cmp name
found-none name first (None ∷ rest) others =
    found-none name (first + 1) rest (λ at number slot is found. others (suc at) number slot (omega (arith, is)) found)
found-none name first (Some slot ∷ rest) others =
    found-first name first slot rest
    ∙ (ap (λ b. cond b (Some slot.opened) (open_at (handles_from (first + 1) rest) name))
    (others zero first slot (omega arith) refl)
    ∙ found-none name (first + 1) rest
    (λ at number other is found. others (suc at) number other (omega (arith, is)) found))

-- what is open under the name of a slot
found-some : (first : ℕ) (slots : List (Option Slot)) (at number : ℕ) (slot : Slot) → number ≡ first + at
    → number < 2 ^ 64 → get_or slots at None ≡ Some slot
    → open_at (handles_from first slots) (slot_name number slot.serial) ≡ Some slot.opened
found-some first [] at number slot is fits found = absurd cc
found-some first (None ∷ rest) zero number slot is fits found = absurd cc
found-some first (None ∷ rest) (suc at) number slot is fits found =
    found-some (first + 1) rest at number slot (omega (arith, is)) fits found
found-some first (Some other ∷ rest) zero number slot is fits found =
    let here : number ≡ first = omega (arith, is) in
    let same : slot_name number slot.serial ≡ slot_name first other.serial = cc in
    found-first (slot_name number slot.serial) first other rest
    ∙ (ap (λ name. cond (bytes_eq name (slot_name first other.serial)) (Some other.opened)
    (open_at (handles_from (first + 1) rest) (slot_name number slot.serial))) same
    ∙ (ap (λ b. cond b (Some other.opened) (open_at (handles_from (first + 1) rest) (slot_name number slot.serial)))
    (nat_list_eq_equiv.refl (slot_name first other.serial))
    ∙ cc))
found-some first (Some other ∷ rest) (suc at) number slot is fits found =
    let apart = names-apart (slot_name number slot.serial) first other.serial (omega (arith, is, fits))
    (λ same. omega (arith, is, same, name-number number slot.serial fits)) in
    found-first (slot_name number slot.serial) first other rest
    ∙ (ap (λ b. cond b (Some other.opened) (open_at (handles_from (first + 1) rest) (slot_name number slot.serial)))
    apart
    ∙ found-some (first + 1) rest at number slot (omega (arith, is)) fits found)

-- what is open in the slot of a number under a name
abbrev pub shown : List ℕ → ℕ → Option Slot → Option Open
shown name number None = None
shown name number (Some slot) = cond (bytes_eq name (slot_name number slot.serial)) (Some slot.opened) None

-- nothing is open under a name that the slot of its number does not have
pub open-absent : (opens : Slab Slot) (name : List ℕ) → IsNumbered opens
    → ((slot : Slot) → get opens (big_number 8 name) ≡ Some slot
    → bytes_eq name (slot_name (big_number 8 name) slot.serial) ≡ false)
    → open_at (slab_handles opens) name ≡ None
open-absent opens name numbered other =
    found-none name 0 opens.slots (λ at number slot is found.
    by number slot (ap (get opens) (is ∙ zero-add at) ∙ found) (cases_eq (big_number 8 name) number))
  where
    by : (number : ℕ) (slot : Slot) → get opens number ≡ Some slot
        → ((big_number 8 name ≡ number) ⊎ (big_number 8 name ≢ number))
        → bytes_eq name (slot_name number slot.serial) ≡ false
    by number slot found (inl same) =
        subst (λ n. bytes_eq name (slot_name n slot.serial) ≡ false) same
        (other slot (ap (get opens) same ∙ found))
    by number slot found (inr differs) =
        names-apart name number slot.serial (numbered number (ap is_some found)) differs

-- nothing is open under a name of another length
pub open-length : (opens : Slab Slot) (name : List ℕ) → IsNumbered opens → (length name ≢ 12)
    → open_at (slab_handles opens) name ≡ None
open-length opens name numbered differs =
    open-absent opens name numbered
    (λ slot found. by slot (bytes_eq name (slot_name (big_number 8 name) slot.serial)) refl)
  where
    by : (slot : Slot) (b : Bool) → bytes_eq name (slot_name (big_number 8 name) slot.serial) ≡ b → b ≡ false
    by slot false is = refl
    by slot true is =
        let same = (bytes_eq-Decides name (slot_name (big_number 8 name) slot.serial)).0 is in
        absurd (differs (ap length same ∙ length-name (big_number 8 name) slot.serial))

-- nothing is open under a name whose slot is free
pub open-free : (opens : Slab Slot) (name : List ℕ) (number : ℕ) → IsNumbered opens → number ≡ big_number 8 name
    → get opens number ≡ None → open_at (slab_handles opens) name ≡ None
open-free opens name number numbered is free =
    open-absent opens name numbered (λ slot found.
    let missing : get opens (big_number 8 name) ≡ None = ap (get opens) (sym is) ∙ free in
    absurd cc)

-- nothing is open under a name that is not that of its slot
pub open-other : (opens : Slab Slot) (name : List ℕ) (number : ℕ) (slot : Slot) → IsNumbered opens
    → number ≡ big_number 8 name → get opens number ≡ Some slot
    → bytes_eq name (slot_name number slot.serial) ≡ false → open_at (slab_handles opens) name ≡ None
open-other opens name number slot numbered is found differs =
    open-absent opens name numbered (λ other here.
    let same : slot ≡ other = cc in
    ap (λ n. bytes_eq name (slot_name n other.serial)) (sym is)
    ∙ (ap (λ (s : Slot). bytes_eq name (slot_name number s.serial)) (sym same) ∙ differs))

-- the slot with this name is open under it
pub open-present : (opens : Slab Slot) (number : ℕ) (slot : Slot) → IsNumbered opens → get opens number ≡ Some slot
    → open_at (slab_handles opens) (slot_name number slot.serial) ≡ Some slot.opened
open-present opens number slot numbered found =
    found-some 0 opens.slots number number slot (omega arith) (numbered number (ap is_some found)) found

-- the name of a slot
pub name-at : (opens : Slab Slot) (name : List ℕ) (number : ℕ) (slot : Slot) → get opens number ≡ Some slot
    → IsNameAt opens name number → name ≡ slot_name number slot.serial
name-at opens name number slot found named = rw found at named

-- what is open under the name of a slot
pub open-named : (opens : Slab Slot) (name : List ℕ) (number : ℕ) (slot : Slot) → IsNumbered opens
    → get opens number ≡ Some slot → IsNameAt opens name number
    → open_at (slab_handles opens) name ≡ Some slot.opened
open-named opens name number slot numbered found named =
    ap (open_at (slab_handles opens)) (name-at opens name number slot found named)
    ∙ open-present opens number slot numbered found

-- what is open under a name is in the slot of its number
pub open-found : (opens : Slab Slot) (name : List ℕ) → IsNumbered opens
    → open_at (slab_handles opens) name ≡ shown name (big_number 8 name) (get opens (big_number 8 name))
open-found opens name numbered = by (get opens (big_number 8 name)) refl
  where
    with_name : (slot : Slot) (b : Bool) → get opens (big_number 8 name) ≡ Some slot
        → bytes_eq name (slot_name (big_number 8 name) slot.serial) ≡ b
        → open_at (slab_handles opens) name ≡ cond b (Some slot.opened) None
    with_name slot true found is =
        let same = (bytes_eq-Decides name (slot_name (big_number 8 name) slot.serial)).0 is in
        ap (open_at (slab_handles opens)) same
        ∙ open-present opens (big_number 8 name) slot numbered found
    with_name slot false found is =
        open-absent opens name numbered (λ other here.
        let same : slot ≡ other = cc in
        subst (λ (s : Slot). bytes_eq name (slot_name (big_number 8 name) s.serial) ≡ false) same is)

    by : (o : Option Slot) → get opens (big_number 8 name) ≡ o
        → open_at (slab_handles opens) name ≡ shown name (big_number 8 name) o
    by None found = open-absent opens name numbered (λ slot here. absurd cc)
    by (Some slot) found =
        with_name slot (bytes_eq name (slot_name (big_number 8 name) slot.serial)) found refl

-- ---- changes

-- the numbers of the slots still have 8 bytes
pub numbered-after : (old new : Slab Slot) (number : ℕ) (slot : Option Slot) → IsNumbered old → number < 2 ^ 64
    → Updates old new number slot → IsNumbered new
numbered-after old new number slot was fits updates at in_use = by (cases_eq at number)
  where
    by : ((at ≡ number) ⊎ (at ≢ number)) → at < 2 ^ 64
    by (inl same) = subst (λ n. n < 2 ^ 64) (sym same) fits
    by (inr differs) = was at (ap is_some (sym (updates.others at differs)) ∙ in_use)

-- the serial of a slot, if it is in use
abbrev pub HasSerial : ℕ → Option Slot → Type 0
HasSerial serial o = (slot : Slot) → o ≡ Some slot → slot.serial ≡ serial

-- what is open in a slot
abbrev pub opened_in : Option Slot → Option Open
opened_in None = None
opened_in (Some slot) = Some slot.opened

same-either : (b : Bool) (x : Option Open) → x ≡ cond b x x
same-either true x = refl
same-either false x = refl

shown-is : (name : List ℕ) (number serial : ℕ) (o : Option Slot) → HasSerial serial o
    → shown name number o ≡ cond (bytes_eq name (slot_name number serial)) (opened_in o) None
shown-is name number serial None has = same-either (bytes_eq name (slot_name number serial)) None
shown-is name number serial (Some slot) has =
    ap (λ s. cond (bytes_eq name (slot_name number s)) (Some slot.opened) None) (has slot refl)

choice : (b : Bool) (x y : Option Open) → cond b x None ≡ cond b x (cond b y None)
choice true x y = refl
choice false x y = refl

module _ (old new : Slab Slot) (number serial : ℕ) (slot : Option Slot) (was : IsNumbered old) (fits : number < 2 ^ 64)
    (updates : Updates old new number slot) (before : HasSerial serial (get old number))
    (after : HasSerial serial slot) where
  still-numbered : IsNumbered new
  still-numbered = numbered-after old new number slot was fits updates

  changed-open : (at : List ℕ) → open_at (slab_handles new) at
      ≡ cond (bytes_eq at (slot_name number serial)) (opened_in slot) (open_at (slab_handles old) at)
  changed-open at = by (cases_eq (big_number 8 at) number)
    where
      by : ((big_number 8 at ≡ number) ⊎ (big_number 8 at ≢ number)) → open_at (slab_handles new) at
          ≡ cond (bytes_eq at (slot_name number serial)) (opened_in slot) (open_at (slab_handles old) at)
      by (inl same) =
          let b = bytes_eq at (slot_name number serial) in
          let present : open_at (slab_handles new) at ≡ cond b (opened_in slot) None =
          open-found new at still-numbered
          ∙ (ap (λ n. shown at n (get new n)) same
          ∙ (ap (shown at number) updates.changed ∙ shown-is at number serial slot after)) in
          let former : open_at (slab_handles old) at ≡ cond b (opened_in (get old number)) None =
          open-found old at was
          ∙ (ap (λ n. shown at n (get old n)) same ∙ shown-is at number serial (get old number) before) in
          present ∙ (choice b (opened_in slot) (opened_in (get old number))
          ∙ ap (cond b (opened_in slot)) (sym former))
      by (inr differs) =
          open-found new at still-numbered
          ∙ (ap (shown at (big_number 8 at)) (updates.others (big_number 8 at) differs)
          ∙ (sym (open-found old at was)
          ∙ ap (λ b. cond b (opened_in slot) (open_at (slab_handles old) at))
          (sym (names-apart at number serial fits differs))))

-- something is open in a slot now
pub changed-put : (old new : Slab Slot) (number : ℕ) (slot : Slot) → IsNumbered old → number < 2 ^ 64
    → Updates old new number (Some slot) → HasSerial slot.serial (get old number)
    → slab_handles new ≡ with_open (slab_handles old) (slot_name number slot.serial) slot.opened
changed-put old new number slot was fits updates before =
    let name = slot_name number slot.serial in
    let after : HasSerial slot.serial (Some slot) = λ other same. cc in
    same_table bytes_cmp nat_list_cmp_total bytes_cmp-same (slab_handles new)
    (with_open (slab_handles old) name slot.opened)
    (InOrder-from_entries bytes_cmp nat_list_cmp_total (map named_slot (entries new)))
    (InOrder-put bytes_cmp nat_list_cmp_total (slab_handles old) name slot.opened
    (InOrder-from_entries bytes_cmp nat_list_cmp_total (map named_slot (entries old))))
    (λ at.
    changed-open old new number slot.serial (Some slot) was fits updates before after at
    ∙ (ap (λ b. cond b (Some slot.opened) (open_at (slab_handles old) at)) (sym (is_eq-slice_cmp at name))
    ∙ sym (get-put bytes_cmp nat_list_cmp_total (slab_handles old) name slot.opened at)))

-- a slot is free now
pub changed-without : (old new : Slab Slot) (number : ℕ) (slot : Slot) → IsNumbered old
    → get old number ≡ Some slot → Updates old new number None
    → slab_handles new ≡ without_open (slab_handles old) (slot_name number slot.serial)
changed-without old new number slot was found updates =
    let name = slot_name number slot.serial in
    let fits = was number (ap is_some found) in
    let before : HasSerial slot.serial (get old number) = λ other same. cc in
    let after : HasSerial slot.serial None = λ other same. absurd cc in
    let in_order = InOrder-from_entries bytes_cmp nat_list_cmp_total (map named_slot (entries old)) in
    same_table bytes_cmp nat_list_cmp_total bytes_cmp-same (slab_handles new) (without_open (slab_handles old) name)
    (InOrder-from_entries bytes_cmp nat_list_cmp_total (map named_slot (entries new)))
    (InOrder-without bytes_cmp (slab_handles old) name in_order)
    (λ at.
    changed-open old new number slot.serial None was fits updates before after at
    ∙ (ap (λ b. cond b None (open_at (slab_handles old) at))
    (nat_list_eq_equiv.symm at name ∙ sym (is_eq-slice_cmp name at))
    ∙ sym (get-without bytes_cmp nat_list_cmp_total (slab_handles old) name at in_order)))

-- ---- calls

-- nothing was open under the name of a free slot
pub closed-put : (old ready : Slab Slot) (number serial : ℕ) (name : List ℕ) → IsNumbered old
    → ready.slots ≡ old.slots → number < 2 ^ 64 → get ready number ≡ None → name ≡ slot_name number serial
    → open_at (slab_handles old) name ≡ None
closed-put old ready number serial name was kept fits free named =
    open-free old name number was (sym (ap (big_number 8) named ∙ name-number number serial fits))
    (ap (λ slots. get_or slots number None) (sym kept) ∙ free)

-- something else is open in a slot
pub swapped-at : (opens : Slab Slot) (name : List ℕ) (number : ℕ) (slot : Slot) (it : Open) → IsNumbered opens
    → get opens number ≡ Some slot → IsNameAt opens name number
    → slab_handles (with_value opens number (record { serial = slot.serial; opened = it }))
    ≡ with_open (slab_handles opens) name it
swapped-at opens name number slot it was found named =
    let after : Slot = record { serial = slot.serial; opened = it } in
    let present = ap is_some found in
    changed-put opens (with_value opens number after) number after was (was number present)
    (Updates-with_value opens number after present)
    (λ other same. let is : slot ≡ other = cc in ap (λ (s : Slot). s.serial) (sym is))
    ∙ ap (λ n. with_open (slab_handles opens) n it) (sym (name-at opens name number slot found named))

-- a slot was freed
pub freed-at : (old new : Slab Slot) (name : List ℕ) (number : ℕ) (slot : Slot) → IsNumbered old
    → get old number ≡ Some slot → IsNameAt old name number → Updates old new number None
    → slab_handles new ≡ without_open (slab_handles old) name
freed-at old new name number slot was found named updates =
    changed-without old new number slot was found updates
    ∙ ap (without_open (slab_handles old)) (sym (name-at old name number slot found named))

-- a name is bytes
pub slot_name-bytes : (number serial : ℕ) → AreBytes (slot_name number serial)
unfolding slot_name
slot_name-bytes number serial =
    bytes-joined (uint64 number) (uint32 serial) (number-bytes 8 number) (number-bytes 4 serial)

-- ---- serials

-- a name begins with its slot
pub first-bytes : (name : List ℕ) (number serial : ℕ) → name ≡ slot_name number serial → take 8 name ≡ uint64 number
unfolding slot_name
first-bytes name number serial is = ap (take 8) is

last-bytes : (name : List ℕ) (number serial : ℕ) → name ≡ slot_name number serial → drop 8 name ≡ uint32 serial
unfolding slot_name
last-bytes name number serial is = ap (drop 8) is

same-serial : (a b : ℕ) → a < 2 ^ 32 → b < 2 ^ 32 → uint32 a ≡ uint32 b → a ≡ b
same-serial a b a-fits b-fits same =
    sym (from_be_bytes-to_be_bytes_4 a a-fits) ∙ (ap (from_be_bytes w32) same ∙ from_be_bytes-to_be_bytes_4 b b-fits)

module _ (name : List ℕ) (number given old new : ℕ) (fits : given < 2 ^ 32) (named : name ≡ slot_name number given)
    (next : new ≡ (if given == serial_before old then given else old)) where
  -- the newest name is given again
  pub given-newest : IsNewest old name → slot_name number new ≡ name
  given-newest newest =
      let same : given ≡ serial_before old =
      same-serial given (serial_before old) fits (mod-lt (old + (2 ^ 32 - 1)) (omega arith))
      (sym (last-bytes name number given named) ∙ newest) in
      let chosen : new ≡ given = next ∙ ap (λ b. if b then given else old) (eq-eqb given (serial_before old) same) in
      ap (slot_name number) chosen ∙ sym named

  -- another leaves the next serial as it was
  pub given-older : (IsNewest old name → ⊥) → new ≡ old
  given-older older = next ∙ by (given == serial_before old) refl
    where
      by : (b : Bool) → (given == serial_before old) ≡ b → (if b then given else old) ≡ old
      by false is = refl
      by true is =
          let same = eqb-true given (serial_before old) is in
          absurd (older (last-bytes name number given named ∙ ap uint32 same))

-- ---- how many

count-from : (first : ℕ) (slots : List (Option Slot))
    → ((at number : ℕ) → number ≡ first + at → IsSome (get_or slots at None) → number < 2 ^ 64)
    → size (handles_from first slots) ≡ length (entries_from first slots)
unfolding from_entries
count-from first [] fits = refl
count-from first (None ∷ rest) fits =
    count-from (first + 1) rest (λ at number is in_use. fits (suc at) number (omega (arith, is)) in_use)
count-from first (Some slot ∷ rest) fits =
    let name = slot_name first slot.serial in
    let later : (at number : ℕ) → number ≡ first + 1 + at → IsSome (get_or rest at None) → number < 2 ^ 64 =
    λ at number is in_use. fits (suc at) number (omega (arith, is)) in_use in
    let here = name-number first slot.serial (fits zero first (omega arith) refl) in
    let absent = found-none name (first + 1) rest (λ at number other is found.
    names-apart name number other.serial (later at number is (ap is_some found))
    (λ same. omega (arith, same, here, is))) in
    let more = size-put bytes_cmp (handles_from (first + 1) rest) name slot.opened absent in
    let others = count-from (first + 1) rest later in
    omega (arith, more, others)

-- each slot in use counts once
pub open-count : (opens : Slab Slot) → IsNumbered opens → size (slab_handles opens) ≡ slab_len opens
open-count opens numbered =
    count-from 0 opens.slots (λ at number is in_use.
    numbered number (ap (λ n. is_some (get opens n)) (is ∙ zero-add at) ∙ in_use))
    ∙ length-entries opens

-- ==== Numbers whose names are open.

-- the names of the numbers below n are open
abbrev pub AreOpenBelow : ℕ → Handles → Type 0
AreOpenBelow n handles = (k : ℕ) → k < n → is_some (open_at handles (uint32 k)) ≡ true

-- and that of n too
pub open-below : (n : ℕ) (handles : Handles) → AreOpenBelow n handles → is_some (open_at handles (uint32 n)) ≡ true
    → AreOpenBelow (suc n) handles
open-below n handles are is k less = by (nat_lt k n) refl
  where
    by : (below : Bool) → nat_lt k n ≡ below → is_some (open_at handles (uint32 k)) ≡ true
    by true e = are k (ltb-true k n e)
    by false e =
        let same : n ≡ k = omega (arith, less, ltb-false k n e) in
        subst (λ m. is_some (open_at handles (uint32 m)) ≡ true) same is

-- they are not more than there are handles
pub not-below : (n : ℕ) (handles : Handles) → n ≤ 2 ^ 32 → InOrder bytes_cmp handles → size handles < n
    → AreOpenBelow n handles → ⊥
not-below n handles bound order few are =
    let free = name-left n handles bound order few in
    let both : true ≡ false = sym (are free.count free.few) ∙ ap is_some free.absent in
    cc
