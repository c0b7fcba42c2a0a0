-- The table of the handles that a server gives (draft-ietf-secsh-filexfer-02, section 7): slots, each in use or free.
-- A name has 12 bytes: the number of a slot, and the serial of the opening.
use Rattle.std.specs.Prelude.{List, ℕ, map, Bool, false, Option, Some, None, ◌≡◌, ◌++◌, ◌<◌, ◌+◌, ◌-◌, ◌%◌, ◌^◌, take}
use Rattle.std.specs.Prelude.{drop, IsSomeAnd, ◌&&◌, not, true, Result, Ok, Err, nat_lt, if◌then◌else◌, IsTrue}
use Rattle.sftp_path.specs.Place.{bytes_cmp, Name, name_cmp}
use Rattle.sftp_path.specs.Table.{from_entries, InOrder}
use Rattle.sftp_handles.specs.declared.opens.Open.{Open}
use Rattle.sftp_handles.specs.State.{Handles, with_open, open_at}
use Rattle.sftp_packets.specs.declared.attributes.Attrs.{Attrs}
use Rattle.sftp_packets.specs.declared.names.NameItem.{NameItem}
use Rattle.sftp_handles.specs.declared.opens.Open.TheVariants.{File, Listing}
use Rattle.sftp_handles.specs.Replies.{are_some_left, struck, Said, gives, ended}
use Rattle.slab.specs.Slab.{Slab, ContainsKey, get, entries_from}
use Rattle.sftp_packets.specs.Spelling.{uint32, uint64}
use Rattle.sftp_handles.specs.declared.slots.Slot.{Slot}
pub use Rattle.sftp_listing.specs.Marked.{first_names, item_of, first_items}
use Rattle.std.specs.Option.{option_map}
use Rattle.sftp_packets.specs.declared.open_flags.OpenFlags.{OpenFlags}
use Rattle.sftp_tree.specs.declared.causes.Cause.{Cause}
use Rattle.sftp_tree.specs.declared.causes.Cause.TheVariants.{BadHandle, WrongKind, NotOpenFor, NoRoom}
use Rattle.sftp_tree.specs.PlaceCauses.{CauseSet, no_causes, when, is_none}
use Rattle.sftp_tree.specs.Changes.{write_fits}
use Rattle.sftp_tree.specs.Tree.{content_at}
use Rattle.sftp_handles.specs.State.{State}
use Rattle.sftp_handles.specs.RequestRows.{start_of}
use Rattle.sftp_handles.specs.declared.requests.Use.{Use}
use Rattle.sftp_handles.specs.declared.requests.Use.TheVariants.{Close, ReadFile, WriteFile, TakeNames}
use Rattle.sftp_handles.specs.State.{Needed, anything, a_file, a_listing}
use Rattle.sftp_packets.specs.declared.requests.Ask.{Ask}
use Rattle.sftp_packets.specs.declared.replies.Answer.{Answer}
use Rattle.sftp_packets.specs.declared.replies.Answer.TheVariants as replies
use Rattle.sftp_packets.specs.Requests.{asked_handle}
use Rattle.sftp_path.specs.declared.errors.NoMemory.{NoMemory}
use Rattle.sftp_tree.specs.declared.causes.Refused.{Refused}
use Rattle.sftp_tree.specs.declared.causes.Refused.TheVariants as refusals
use Rattle.sftp_handles.specs.declared.requests.Purpose.{Purpose}
use Rattle.sftp_handles.specs.declared.requests.Purpose.TheVariants.{Change}
use Rattle.sftp_handles.specs.Allowed.{causes}
use Rattle.sftp_handles.specs.Allowed.{Does, step}
use Rattle.sftp_handles.specs.Payloads.{purpose_of}

-- ==== Tables of handles that are not in order and keep their names in some form of their own.

-- the entries by the bytes of their names
abbrev pub named : {K : Type 0} → (K → List ℕ) → List (K × Open) → List (List ℕ × Open)
named bytes_of entries = map (λ e. (bytes_of e.0, e.1)) entries

-- the table of these entries
abbrev pub handles_in : {K : Type 0} → (K → List ℕ) → List (K × Open) → Handles
handles_in bytes_of entries = from_entries bytes_cmp (named bytes_of entries)

-- the entries, and how many more take no memory
pub record Given : Type 0 where
  pub entries : List (List ℕ × Open)
  pub room : ℕ

-- ==== Names that a reply to READDIR gives. Words of private contracts.

-- whether what is open is a listing, and these are some of its remaining entries
abbrev pub gives_names : Option Open → List NameItem → Bool
gives_names (Some (Listing left)) items = are_some_left left items
gives_names (Some (File number flags)) items = false
gives_names None items = false

-- the remaining entries of a listing, if one is open
abbrev pub listing_in : Option Open → Option (List (Name × Attrs))
listing_in (Some (Listing left)) = Some left
listing_in (Some (File number flags)) = None
listing_in None = None

-- what is open is a listing, and its names are in order
abbrev pub IsListing : Option Open → Type 0
IsListing (Some (Listing left)) = InOrder name_cmp left
IsListing (Some (File number flags)) = ⊥
IsListing None = ⊥

-- these names are struck from the listing that is open under the handle
abbrev pub with_struck : Handles → List ℕ → List Name → Option Open → Handles
with_struck handles handle names (Some (Listing left)) = with_open handles handle (Listing (struck left names))
with_struck handles handle names (Some (File number flags)) = handles
with_struck handles handle names None = handles

-- the slots, and the serial of the next opening
pub record Slots : Type 0 where
  pub opens : Slab Slot
  pub serial : ℕ

-- the name of a slot's opening
unfoldable pub slot_name : ℕ → ℕ → List ℕ
slot_name number serial = uint64 number ++ uint32 serial

-- the name of the next opening
abbrev pub next_name : Slots → List ℕ
next_name table = slot_name table.opens.vacant_key table.serial

-- the slot of the name is the next to be used
abbrev pub IsNext : Slots → List ℕ → Type 0
IsNext table name = take 8 name ≡ uint64 table.opens.vacant_key

-- the serial after another; after 2^32 - 1 comes 0
abbrev pub serial_after : ℕ → ℕ
serial_after serial = (serial + 1) % 2 ^ 32

-- the serial before another; before 0 comes 2^32 - 1
abbrev pub serial_before : ℕ → ℕ
serial_before serial = (serial + (2 ^ 32 - 1)) % 2 ^ 32

-- the name has the serial before this one
abbrev pub IsNewest : ℕ → List ℕ → Type 0
IsNewest serial name = drop 8 name ≡ uint32 (serial_before serial)

-- what is open in a slot, by its name
abbrev pub named_slot : ℕ × Slot → List ℕ × Open
named_slot e = (slot_name e.0 e.1.serial, e.1.opened)

-- what is open in the slots from a number on
abbrev pub handles_from : ℕ → List (Option Slot) → Handles
handles_from number slots = from_entries bytes_cmp (map named_slot (entries_from number slots))

-- what is open in the slots
abbrev pub slab_handles : Slab Slot → Handles
slab_handles opens = handles_from 0 opens.slots

-- the name is that of the slot with this number, which is in use
abbrev pub IsNameAt : Slab Slot → List ℕ → ℕ → Type 0
IsNameAt opens name number = IsSomeAnd (get opens number) (λ slot. name ≡ slot_name number slot.serial)

-- the numbers of the slots in use have 8 bytes
abbrev pub IsNumbered : Slab Slot → Type 0
IsNumbered opens = (number : ℕ) → ContainsKey opens number → number < 2 ^ 64

-- ==== The first names of a listing, as a reply to READDIR gives them. Words of private contracts.

-- how many names a reply of this program gives at most
abbrev pub names_in_reply : ℕ
names_in_reply = 32

-- what is open is a listing, and these are its first names, `most` or fewer
abbrev pub AreFirstNames : ℕ → Option Open → List Name → Type 0
AreFirstNames most (Some (Listing left)) names = names ≡ first_names most left
AreFirstNames most (Some (File number flags)) names = ⊥
AreFirstNames most None names = ⊥

-- the same as a record, which tells a proof how many `most` is
pub record AreUpTo (most : ℕ) (found : Option Open) (names : List Name) : Type 0 where
  pub first : AreFirstNames most found names

-- what is open is a listing, and these are the items of its first names, `most` or fewer
abbrev pub AreFirst : ℕ → Option Open → List NameItem → Type 0
AreFirst most (Some (Listing left)) items = items ≡ first_items most left
AreFirst most (Some (File number flags)) items = ⊥
AreFirst most None items = ⊥

-- ==== What requests find under their handles, as the code finds it. Words of private contracts.

-- the number of the file that is open and how it was opened, or why a request on files is refused
abbrev pub found_file : Option Open → Result (ℕ × OpenFlags) Cause
found_file None = Err BadHandle
found_file (Some (File number flags)) = Ok (number, flags)
found_file (Some (Listing left)) = Err WrongKind

-- the causes of a request: none, if what it needs was found, or the only one
abbrev pub refusing : {A : Type 0} → Result A Cause → CauseSet
refusing (Ok found) = no_causes
refusing (Err cause) = when no_causes cause true

-- what was found, unless the file was not opened for the request, or has too little room
abbrev pub granted : {A : Type 0} → A → Bool → Bool → Result A Cause
granted found true fits = Err NotOpenFor
granted found false false = Err NoRoom
granted found false true = Ok found

-- the file of a WRITE that no cause refuses, and where it starts
pub record IsWritable (s : State) (handle : List ℕ) (offset : ℕ) (bytes : List ℕ) (it : ℕ × ℕ) : Type 0 where
  pub flags : OpenFlags
  pub found : found_file (open_at s.handles handle) ≡ Ok (it.0, flags)
  pub starts : option_map (start_of flags offset) (content_at s.tree.files it.0) ≡ Some it.1
  pub fits : write_fits s.tree it.0 it.1 bytes ≡ true

-- the causes of a request that needs room in a file, by whether there is
abbrev pub with_room : CauseSet → Bool → CauseSet
with_room set fits = when set NoRoom (is_none set && not fits)

-- what READ's reply says of the bytes that it gives; none are given where the end was reached
abbrev pub read_said : Option (List ℕ) → Said
read_said None = ended
read_said (Some bytes) = gives bytes

-- ==== How requests use what is open under their handles, as the code has it. Words of private contracts.

-- what must be open for it
abbrev pub needed_for : Use → Needed
needed_for Close = anything
needed_for ReadFile = a_file
needed_for WriteFile = a_file
needed_for TakeNames = a_listing

-- whether it may change the file
abbrev pub writes : Use → Bool
writes WriteFile = true
writes other = false

-- ==== What the code finds out about the answer to a request. Words of private contracts.

-- the code of a status that says neither OK nor that the end was reached
abbrev pub refusal_code : Answer → Option ℕ
refusal_code (replies.Status code message language) = if nat_lt 1 code then Some code else None
refusal_code other = None

-- `ok` says whether the answer is allowed, and `end` is the state then
pub record IsJudged (s : State) (ask : Ask) (answer : Answer) (ok : Bool) (end : State) : Type 0 where
  pub step_is : step s ask answer ≡ (if ok then Some end else None)
  pub kept : ok ≡ false → end ≡ s

-- the same of a status of this code, with any texts
abbrev pub IsJudgedCode : State → Ask → ℕ → Bool → State → Type 0
IsJudgedCode s ask code ok end =
    (message language : List ℕ) → IsJudged s ask (replies.Status code message language) ok end

-- the request is done: no cause holds, and the reply says OK, with any texts
abbrev pub IsDone : State → Ask → State → Type 0
IsDone s ask end = (message language : List ℕ) → Does s ask (replies.Status 0 message language) end

-- a refusal is a cause that holds, or says that memory ran out
abbrev pub IsRefusal : State → Ask → Refused → Type 0
IsRefusal s ask (refusals.Cause cause) = IsTrue (causes s ask cause)
IsRefusal s ask refusals.NoMemory = Unit {0}

-- whether a call was done, and not refused by a cause; `NoMemory` where memory ran out
abbrev pub is_done : {A : Type 0} → Result A Refused → Result Bool NoMemory
is_done (Ok value) = Ok true
is_done (Err (refusals.Cause cause)) = Ok false
is_done (Err refusals.NoMemory) = Err (record {})

-- whether a request for this purpose that names this handle, if any, changes the tree by its paths alone
abbrev pub changes_by : Purpose → Option (List ℕ) → Bool
changes_by Change None = true
changes_by _ _ = false

abbrev pub changes_tree : Ask → Bool
changes_tree ask = changes_by (purpose_of ask) (asked_handle ask)
