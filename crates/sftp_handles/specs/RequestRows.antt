-- The table of requests, and what follows from it for those through handles: by what each sees of its handle, by the
-- limits and by how many bytes all files have, the causes that hold, what its reply says, and what it changes
-- (draft-ietf-secsh-filexfer-02, sections 6.3, 6.4 and 6.7 to 6.9; OpenSSH's PROTOCOL, section 4.6 for fsync). The
-- causes are this profile's own. That an unknown extension is always refused is the draft's, section 8.
use Rattle.std.specs.Prelude.{◌&&◌, not, nat_lt, ℕ, Bool, true, if◌then◌else◌, List, [], ◌∷◌, ◌++◌, length, Option}
use Rattle.std.specs.Prelude.{Some, None, is_some}
use Rattle.sftp_packets.specs.declared.open_flags.OpenFlags.{OpenFlags}
use Rattle.sftp_packets.specs.declared.requests.Ask.{Ask}
use Rattle.sftp_packets.specs.declared.requests.Ask.TheVariants as asks
use Rattle.sftp_packets.specs.declared.replies.Answer.{Answer}
use Rattle.sftp_packets.specs.Spelling.{uint64, packet_limit}
use Rattle.sftp_treefile.specs.declared.limits.TreeLimits.{TreeLimits}
use Rattle.sftp_tree.specs.declared.causes.Cause.TheVariants.{BadHandle, WrongKind, NotOpenFor, NoRoom, Unknown}
use Rattle.sftp_tree.specs.declared.file_contents.Content.{Content}
use Rattle.sftp_tree.specs.Tree.{Tree, limits, content_fits}
use Rattle.sftp_tree.specs.Attributes.{changed_content, shown_content}
use Rattle.sftp_tree.specs.Attributes.{reads, writes, appends}
use Rattle.sftp_tree.specs.Changes.{bytes_at, written_content, total_fits_with}
use Rattle.sftp_tree.specs.PlaceCauses.{CauseSet, no_causes, when, is_none}
use Rattle.sftp_tree.specs.Requests as paths
use Rattle.sftp_handles.specs.State.{Left, Handles}
use Rattle.sftp_handles.specs.State.{State, has_handle_left}
use Rattle.sftp_handles.specs.State.{Needed, anything, a_file, a_listing, Seen, absent, other_kind, something, file}
use Rattle.sftp_handles.specs.State.{listing}
use Rattle.sftp_handles.specs.Replies.{Said, ok, shows, names, gives, ended, lists, opens, extends}
use Rattle.sftp_handles.specs.Replies.{struck, names_given}

-- ---- how the file was opened (draft, section 6.3)

abbrev pub may_read : OpenFlags → Bool
may_read flags = reads flags.0

abbrev pub may_write : OpenFlags → Bool
may_write flags = writes flags.0

-- whether each WRITE goes to the end
abbrev pub goes_to_end : OpenFlags → Bool
goes_to_end flags = appends flags.0

-- ---- requests that name no handle

-- a request that opens something has `NoRoom` too if no other cause holds and there are too many handles already
abbrev pub with_handle_room : State → CauseSet → CauseSet
with_handle_room s set = when set NoRoom (is_none set && not (has_handle_left s))

-- a request that opens something is answered by a new handle
abbrev pub said_by : Handles → paths.Told → Said
said_by handles paths.done = ok
said_by handles (paths.attributes shown) = shows shown
said_by handles (paths.name text) = names text
said_by handles (paths.file number) = opens handles
said_by handles (paths.listed left) = opens handles

-- what the reply to a request for the limits has: the most bytes of a packet, of what a READ gives and, as told but not
-- enforced, of what a WRITE has, and the most handles. This profile's own.
unfoldable pub limits_data : TreeLimits → List ℕ
limits_data bounds =
    uint64 packet_limit ++ (uint64 bounds.read_bytes ++ (uint64 bounds.read_bytes ++ uint64 bounds.open_handles))

-- ---- the table of requests

-- what there is to say of a request
pub record Row : Type 0 where
  -- the causes if it names no handle, from those that the tree has
  pub causes : State → CauseSet → CauseSet
  -- what its reply says then, from what the tree tells
  pub said : State → paths.Told → Said
  -- what must be open under its handle, if it names one
  pub needed : Needed
  -- the causes by how the file was opened
  pub refused : OpenFlags → CauseSet
  -- the content of the file after it, if it changes that
  pub content : OpenFlags → Content → Option Content
  -- what its reply says of the file
  pub said_of_file : TreeLimits → Content → Said

-- of a request on paths alone, or on a handle of either kind that changes no content
abbrev pub plain_row : Row
plain_row = record {
  causes = λ s set. set;
  said = λ s told. said_by s.handles told;
  needed = anything;
  refused = λ flags. no_causes;
  content = λ flags before. None;
  said_of_file = λ bounds before. ok;
}

-- of a request that opens something
abbrev pub opening_row : Row
opening_row = record plain_row { causes = with_handle_room }

-- of a request on a file
abbrev pub file_row : Row
file_row = record plain_row { needed = a_file }

-- the cause of a file that was opened for something else
abbrev pub unless_open_for : Bool → CauseSet
unless_open_for holds = when no_causes NotOpenFor (not holds)

-- where a WRITE starts: at its offset, or at the end
abbrev pub start_of : OpenFlags → ℕ → Content → ℕ
start_of flags offset before = if goes_to_end flags then length before.bytes else offset

-- the bytes from the offset, or that the end was reached, whatever length was asked for
abbrev pub read_from : TreeLimits → ℕ → ℕ → Content → Said
read_from bounds offset len before =
    if nat_lt offset (length before.bytes) then gives (bytes_at bounds offset len before.bytes) else ended

abbrev pub row_of : Ask → Row
row_of (asks.Read handle offset len) = record file_row {
  refused = λ flags. unless_open_for (may_read flags);
  said_of_file = λ bounds before. read_from bounds offset len before;
}
row_of (asks.Write handle offset bytes) = record file_row {
  refused = λ flags. unless_open_for (may_write flags);
  content = λ flags before. Some (written_content (start_of flags offset before) bytes before);
}
row_of (asks.Fstat handle) = record file_row {
  said_of_file = λ bounds before. shows (Some (shown_content before));
}
row_of (asks.Fsetstat handle attrs) = record file_row {
  refused = λ flags. when no_causes NotOpenFor (is_some attrs.size && not (may_write flags));
  content = λ flags before. Some (changed_content attrs before);
}
row_of (asks.Fsync handle) = file_row
row_of (asks.Readdir handle) = record plain_row { needed = a_listing }
row_of (asks.Close handle) = plain_row
row_of (asks.Open path pflags attrs) = opening_row
row_of (asks.Opendir path) = opening_row
row_of asks.Limits = record plain_row {
  causes = λ s set. no_causes;
  said = λ s told. extends (limits_data (limits s.tree));
}
row_of (asks.Unknown extension rest) = record plain_row { causes = λ s set. when no_causes Unknown true }
-- the tree has the rows of these; they are named so that a new request needs a row
row_of (asks.Stat path) = plain_row
row_of (asks.Lstat path) = plain_row
row_of (asks.Setstat path attrs) = plain_row
row_of (asks.Realpath path) = plain_row
row_of (asks.Readlink path) = plain_row
row_of (asks.Symlink targetpath linkpath) = plain_row
row_of (asks.Mkdir path attrs) = plain_row
row_of (asks.Rmdir path) = plain_row
row_of (asks.Remove path) = plain_row
row_of (asks.Rename oldpath newpath) = plain_row
row_of (asks.PosixRename oldpath newpath) = plain_row
row_of (asks.Hardlink oldpath newpath) = plain_row

-- ---- the causes of a request through a handle

-- whether there is room for this content of the file of a number: for the file itself, and with all others
abbrev pub has_file_room : Tree → ℕ → Content → Bool
has_file_room t number next = content_fits (limits t) next && total_fits_with t number (length next.bytes)

-- `NoRoom` holds if no other cause holds and there is no room for the content
abbrev pub with_file_room : Tree → ℕ → CauseSet → Option Content → CauseSet
with_file_room t number set None = set
with_file_room t number set (Some next) = when set NoRoom (is_none set && not (has_file_room t number next))

abbrev pub causes_of : Tree → Row → Seen → CauseSet
causes_of t row absent = when no_causes BadHandle true
causes_of t row other_kind = when no_causes WrongKind true
causes_of t row something = no_causes
causes_of t row (file number flags before) = with_file_room t number (row.refused flags) (row.content flags before)
causes_of t row (listing left) = no_causes

-- ---- what the reply says

-- some of the names, or that there are no more
abbrev pub listed : Left → Said
listed [] = ended
listed (e ∷ es) = lists (e ∷ es)

abbrev pub said_of : TreeLimits → Row → Seen → Said
said_of bounds row (file number flags before) = row.said_of_file bounds before
said_of bounds row (listing left) = listed left
said_of bounds row other = ok

-- ---- the change

-- what a request changes of what it sees
pub data Change : Type 0 where
  nothing : Change
  -- the file of a number gets this content
  rewrites : ℕ → Content → Change
  -- the listing has this left
  leaves : Left → Change
  -- the handle is closed
  closes : Change

abbrev pub change_file : ℕ → Option Content → Change
change_file number None = nothing
change_file number (Some next) = rewrites number next

-- the names that the reply gives are struck out
abbrev pub change_of : Row → Seen → Answer → Change
change_of row something answer = closes
change_of row (file number flags before) answer = change_file number (row.content flags before)
change_of row (listing left) answer = leaves (struck left (names_given answer))
change_of row other answer = nothing
