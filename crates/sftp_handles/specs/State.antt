-- The state of a session: its tree, and what is open.
use Rattle.std.specs.Prelude.{◌==◌, ℕ, Bool, false, List, [], ◌∷◌, Option, is_some, ◌≡◌, ◌&&◌, nat_le, ◌+◌, ◌≤◌}
use Rattle.std.specs.Prelude.{length, IsTrue, Some, None}
use Rattle.std.specs.Int.RustNames.{bit_and}
use Rattle.sftp_packets.specs.declared.open_flags.OpenFlags.{OpenFlags}
use Rattle.sftp_path.specs.Place.{bytes_cmp}
use Rattle.sftp_path.specs.Table.{Table, get, put, without, count, InOrder, size}
use Rattle.sftp_tree.specs.Tree.{Pins, with_pin, Tree, IsKept, limits, trim, fits, Files, content_at}
pub use Rattle.sftp_listing.specs.Left.{Left, is_plain, IsItem, IsLeft}
use Rattle.sftp_handles.specs.declared.opens.Open.{Open}
use Rattle.sftp_handles.specs.declared.opens.Open.TheVariants.{File, Listing}
use Rattle.std.specs.List.{AllByRecursion}
use Rattle.sftp_packets.specs.Spelling.{handle_limit}
use Rattle.sftp_tree.specs.declared.file_contents.Content.{Content}

-- ==== What is open, by the names of the handles, and which files that pins (draft-ietf-secsh-filexfer-02, sections 6.3
-- and 6.7).

-- ---- handles

-- what is open under each handle; the name of a handle is a byte string
abbrev pub Handles : Type 0
Handles = Table (List ℕ) Open

-- what is open under a handle
abbrev pub open_at : Handles → List ℕ → Option Open
open_at handles handle = get bytes_cmp handles handle

-- with this open under the handle
abbrev pub with_open : Handles → List ℕ → Open → Handles
with_open handles handle it = put bytes_cmp handles handle it

-- with nothing open under the handle
abbrev pub without_open : Handles → List ℕ → Handles
without_open handles handle = without bytes_cmp handles handle

-- whether the handle is open
abbrev pub is_open : Handles → List ℕ → Bool
is_open handles handle = is_some (open_at handles handle)

-- ---- how a file was opened (draft, section 6.3)

-- what an open file keeps of the flags of its OPEN: READ, WRITE and APPEND
abbrev pub kept_flags : ℕ → OpenFlags
kept_flags pflags = record { 0 = bit_and pflags 0x7 }

-- ---- pins

-- whether the file of a number is open under the handle
abbrev pub opens_file : ℕ → Open → Bool
opens_file number (File n flags) = number == n
opens_file number (Listing left) = false

-- under how many handles a file is open
abbrev pub times_open : Handles → ℕ → ℕ
times_open handles number = count handles (opens_file number)

abbrev pub pinned_by : Open → Pins → Pins
pinned_by (File number flags) pins = with_pin pins number
pinned_by (Listing left) pins = pins

-- a file is pinned once by each handle under which it is open
unfoldable pub pins_of : Handles → Pins
pins_of [] = []
pins_of (e ∷ es) = pinned_by e.1 (pins_of es)

pub record State : Type 0 where
  pub tree : Tree
  pub handles : Handles

-- the state of this tree and these handles: the open files are pinned, and a file that has no name and is not open is
-- removed
abbrev pub settled : Tree → Handles → State
settled t handles = record { tree = trim (record t { pins = pins_of handles }); handles = handles }

-- the state in which a session begins on a tree: nothing is open
abbrev pub started : Tree → State
started t = settled t []

-- the tree of a state, once nothing is open
abbrev pub closed_tree : State → Tree
closed_tree s = trim (record s.tree { pins = [] })

-- ---- limits

-- one more handle may be opened
abbrev pub has_handle_left : State → Bool
has_handle_left s = nat_le (size s.handles + 1) (limits s.tree).open_handles

abbrev pub handles_fit : State → Bool
handles_fit s = nat_le (size s.handles) (limits s.tree).open_handles

-- a state within the limits
abbrev pub state_fits : State → Bool
state_fits s = fits s.tree && handles_fit s

-- ---- good states

abbrev pub IsOpen : Open → Type 0
IsOpen (File number flags) = Unit {0}
IsOpen (Listing left) = IsLeft left

-- the name of a handle is not too long, and what is open under it can be given
abbrev pub IsHandle : List ℕ × Open → Type 0
IsHandle e = (length e.0 ≤ handle_limit) × IsOpen e.1

-- What the state of each session keeps: the tree is well formed and within the limits, each of its files has a name or
-- is open, each is pinned as often as it is open, and the handles are in order and not too many. A file that is open
-- exists, since files that are pinned do.
pub record Good (s : State) : Type 0 where
  pub tree : IsKept s.tree
  pub pinned : s.tree.pins ≡ pins_of s.handles
  pub ordered : InOrder bytes_cmp s.handles
  pub handles : AllByRecursion IsHandle s.handles
  pub few : IsTrue (handles_fit s)

-- ==== What a request through a handle sees: what is open under its handle, and nothing else of the state.

-- what a request needs to be open under its handle
pub data Needed : Type 0 where
  -- a file or a listing
  anything : Needed
  a_file : Needed
  a_listing : Needed

pub data Seen : Type 0 where
  -- the handle is not open
  absent : Seen
  -- a listing for a request on a file, or a file for a request on a listing
  other_kind : Seen
  -- something, for a request on either
  something : Seen
  -- a file: its number, how it was opened, and its content
  file : ℕ → OpenFlags → Content → Seen
  -- a listing: its remaining entries
  listing : Left → Seen

-- a file that is open exists in each good state
abbrev pub seen_file : ℕ → OpenFlags → Option Content → Seen
seen_file number flags None = absent
seen_file number flags (Some content) = file number flags content

abbrev pub seen_among : Files → Needed → Option Open → Seen
seen_among files needed None = absent
seen_among files anything (Some it) = something
seen_among files a_file (Some (File number flags)) = seen_file number flags (content_at files number)
seen_among files a_file (Some (Listing left)) = other_kind
seen_among files a_listing (Some (File number flags)) = other_kind
seen_among files a_listing (Some (Listing left)) = listing left

-- what a request that needs this sees
unfoldable pub seen : State → Needed → List ℕ → Seen
seen s needed handle = seen_among s.tree.files needed (open_at s.handles handle)
