-- READs that give other bytes than strictly: more of them, up to what was asked for, or none where none were asked for
-- (draft, section 6.4).
use Rattle.std.specs.Prelude.{◌==◌, ◌&&◌, ◌||◌, not, nat_eq, ℕ, Bool, false, List, [], ◌∷◌, length, Option, Some}
use Rattle.std.specs.Prelude.{None, ◌+◌, ◌^◌, nat_le, true, codes, if◌then◌else◌, ◌≡◌, ◌≤◌, ◌<◌, ◌-◌, nat_lt, min}
use Rattle.std.specs.Prelude.{take, drop, IsTrue}
use Rattle.std.specs.List.{ends_with}
use Rattle.sftp_packets.specs.declared.requests.Ask.{Ask}
use Rattle.sftp_path.specs.Place.{components, is_dot, is_dot_dot, same_bytes}
use Rattle.sftp_tree.specs.Requests.{path_of, new_path_of}
use Rattle.sftp_packets.specs.declared.requests.Ask.TheVariants as asks
use Rattle.sftp_packets.specs.declared.replies.Answer.{Answer}
use Rattle.sftp_packets.specs.declared.replies.Answer.TheVariants as replies
use Rattle.sftp_tree.specs.Attributes.{reads, writes, appends, creates, truncates, excludes}
use Rattle.sftp_treefile.specs.declared.limits.TreeLimits.{TreeLimits}
use Rattle.sftp_tree.specs.Tree.{limits}
use Rattle.sftp_tree.specs.Changes.{bytes_at}
use Rattle.sftp_tree.specs.PlaceCauses.{is_none}
use Rattle.sftp_handles.specs.State.{State}
use Rattle.sftp_handles.specs.State.{Seen, file, a_file, seen}
use Rattle.sftp_handles.specs.RequestRows.{may_read}
use Rattle.sftp_handles.specs.Allowed.{causes}
use Rattle.sftp_handles.specs.Replies.{has_code}

-- ==== Paths that end loosely: servers with a real file system may look past the end (POSIX, pathname resolution).

-- it ends in `/`, and is not the root's
abbrev pub ends_in_slash : List ℕ → Bool
ends_in_slash path = ends_with nat_eq path (47 ∷ []) && not (length (components path) == 0)

-- it is `.` or `..`, or ends in one of these after a `/`
abbrev pub ends_in_dots : List ℕ → Bool
ends_in_dots path =
    is_dot path
    || (is_dot_dot path
    || (ends_with nat_eq path (47 ∷ 46 ∷ []) || ends_with nat_eq path (47 ∷ 46 ∷ 46 ∷ [])))

abbrev pub is_loose : List ℕ → Bool
is_loose path = length path == 0 || (ends_in_slash path || ends_in_dots path)

abbrev pub holds_of : (List ℕ → Bool) → Option (List ℕ) → Bool
holds_of test (Some path) = test path
holds_of test None = false

-- a path that the request walks ends loosely
abbrev pub walks_loosely : Ask → Bool
walks_loosely ask = holds_of is_loose (path_of ask) || holds_of is_loose (new_path_of ask)

-- ==== Requests at which servers with a real file system meet limits of their own (POSIX, PATH_MAX, EFBIG and EINVAL).

-- a path that a file system may find too long
abbrev pub is_long : List ℕ → Bool
is_long path = nat_le 1024 (length path)

-- the target of a new link
abbrev pub target_of : Ask → Option (List ℕ)
target_of (asks.Symlink target link) = Some target
target_of other = None

-- bytes up to 2^31 or further are read or written
abbrev pub reaches_far : Ask → Bool
reaches_far (asks.Read handle offset len) = nat_le (2 ^ 31) (offset + len)
reaches_far (asks.Write handle offset bytes) = nat_le (2 ^ 31) (offset + length bytes)
reaches_far other = false

abbrev pub is_beyond : Ask → Bool
is_beyond ask =
    holds_of is_long (path_of ask)
    || (holds_of is_long (new_path_of ask) || (holds_of is_long (target_of ask) || reaches_far ask))

-- ==== Extensions that only look (OpenSSH's PROTOCOL, section 4; the draft filexfer-extensions-00). What they answer is
-- free.

abbrev pub is_limits : List ℕ → Bool
is_limits name = same_bytes name (codes "limits@openssh.com")

-- of the file system of a path, or of an open file
abbrev pub is_statvfs : List ℕ → Bool
is_statvfs name = same_bytes name (codes "statvfs@openssh.com") || same_bytes name (codes "fstatvfs@openssh.com")

abbrev pub is_users_groups : List ℕ → Bool
is_users_groups name = same_bytes name (codes "users-groups-by-id@openssh.com")

-- they give a path
abbrev pub is_path_query : List ℕ → Bool
is_path_query name = same_bytes name (codes "expand-path@openssh.com") || same_bytes name (codes "home-directory")

-- the sizes of the replies are those of OpenSSH
abbrev pub carries : List ℕ → List ℕ → Bool
carries name content =
    is_limits name && length content == 32 || (is_statvfs name && length content == 88 || is_users_groups name)

-- an answer that such an extension may have
abbrev pub is_look : List ℕ → Answer → Bool
is_look name (replies.Extended content) = carries name content
is_look name (replies.Name items) = is_path_query name && length items == 1
is_look name other = false

-- the request is such an extension, and may have this answer
abbrev pub is_looked_at : Ask → Answer → Bool
is_looked_at (asks.Unknown name rest) answer = is_look name answer
is_looked_at other answer = false

-- whether a request is an extension that is not known
abbrev pub is_unknown : Ask → Bool
is_unknown (asks.Unknown name rest) = true
is_unknown other = false

-- whether the name is one of these
abbrev pub only_looks : Ask → Bool
only_looks (asks.Unknown name rest) =
    is_limits name || (is_statvfs name || (is_users_groups name || is_path_query name))
only_looks other = false

-- ==== The flags of OPEN as a file system goes by them (POSIX, open).

abbrev pub flag_if : Bool → ℕ → ℕ
flag_if holds flag = if holds then flag else 0

-- What is not opened to be written is read. What is not written is not appended to, and what is not made may exist.
-- What is not both made and written is emptied by a SETSTAT of its own. Unknown flags are dropped.
abbrev pub mended_flags : ℕ → ℕ
mended_flags flags =
    flag_if (reads flags || not (writes flags)) 1 + flag_if (writes flags) 2
    + flag_if (writes flags && appends flags) 4 + flag_if (creates flags) 8
    + flag_if (truncates flags && (creates flags && writes flags)) 16 + flag_if (creates flags && excludes flags) 32

-- a file is emptied, and not both made and written
abbrev pub empties : ℕ → Bool
empties flags = truncates flags && not (creates flags && writes flags)

-- ==== Answers that say that a request was refused, or that it opened something.

-- a code that says that a request was refused (draft, section 7)
abbrev pub is_refusal_code : ℕ → Bool
is_refusal_code code = code == 2 || (code == 3 || (code == 4 || (code == 5 || code == 8)))

abbrev pub is_refusal : Answer → Bool
is_refusal (replies.Status code message language) = is_refusal_code code
is_refusal other = false

abbrev pub is_handle : Answer → Bool
is_handle (replies.Handle handle) = true
is_handle other = false

-- ---- what may be read

-- as many bytes as are asked for, or all that are left
abbrev pub most : ℕ → ℕ → ℕ → ℕ
most size offset len = min len (size - offset)

-- one byte or more, no more than these, and no fewer than the limit of a READ makes of them
abbrev pub is_count : TreeLimits → ℕ → ℕ → ℕ → ℕ → Bool
is_count bounds size offset len count =
    nat_lt 0 count
    && (nat_le count (most size offset len) && nat_le (min (most size offset len) bounds.read_bytes) count)

-- the bytes from the offset on begin with these
abbrev pub stand_at : ℕ → List ℕ → List ℕ → Bool
stand_at offset bytes given = same_bytes given (take (length given) (drop offset bytes))

-- what a READ of a file may give
abbrev pub are_read : TreeLimits → ℕ → ℕ → Seen → List ℕ → Bool
are_read bounds offset len (file number flags content) given =
    is_count bounds (length content.bytes) offset len (length given) && stand_at offset content.bytes given
are_read bounds offset len other given = false

-- what a READ may be answered that no cause refuses
abbrev pub is_read : State → List ℕ → ℕ → ℕ → Answer → Bool
is_read s handle offset len (replies.Data given) =
    len == 0 && length given == 0 || are_read (limits s.tree) offset len (seen s a_file handle) given
is_read s handle offset len answer = len == 0 && has_code 1 answer

-- no cause refuses a READ, and it may be answered so
abbrev pub passes_read : State → Ask → Answer → Bool
passes_read s (asks.Read handle offset len) answer =
    is_none (causes s (asks.Read handle offset len)) && is_read s handle offset len answer
passes_read s other answer = false

-- ---- words of private contracts

-- the file may be read, and has as many bytes or more
abbrev pub is_readable : Seen → ℕ → Bool
is_readable (file number flags content) end = may_read flags && nat_le end (length content.bytes)
is_readable other end = false

-- the bytes of the file from the offset on begin with these
abbrev pub stand_in : ℕ → Seen → List ℕ → Bool
stand_in offset (file number flags content) given = stand_at offset content.bytes given
stand_in offset other given = false

-- how many bytes a file has
abbrev pub size_of : Seen → Option ℕ
size_of (file number flags content) = Some (length content.bytes)
size_of other = None

-- the bytes of the file that one READ gives from an offset on
abbrev pub piece_of : TreeLimits → ℕ → Seen → List ℕ
piece_of bounds at (file number flags content) = bytes_at bounds at 4294967295 content.bytes
piece_of bounds at other = []

-- so many of these bytes are the file's, and the others decide
pub record Goes (at : ℕ) (found : Seen) (rest : List ℕ) (count : ℕ) : Type 0 where
  pub some : 0 < count
  pub few : count ≤ length rest
  pub there : IsTrue (is_readable found (at + count + length (drop count rest)))
  pub decides : stand_in (at + count) found (drop count rest) ≡ stand_in at found rest
