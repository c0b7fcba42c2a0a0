-- Answers that a profile lets pass and that change nothing (draft-ietf-secsh-filexfer-02, sections 6 and 7; POSIX,
-- EACCES and ENOSPC).
use Rattle.std.specs.Prelude.{◌==◌, ◌&&◌, ◌||◌, nat_lt, ℕ, ◌+◌, ◌-◌, Bool, false, if◌then◌else◌, List, [], length}
use Rattle.std.specs.Prelude.{take, drop, codes, Option, Some, None, Ok, not, true, is_some}
use Rattle.sftp_packets.specs.declared.requests.Ask.{Ask}
use Rattle.sftp_packets.specs.declared.requests.Ask.TheVariants as asks
use Rattle.sftp_packets.specs.declared.replies.Answer.{Answer}
use Rattle.sftp_packets.specs.Reading.{Reader, ◌>>=◌, string_at, uint64_at}
use Rattle.sftp_path.specs.Place.{same_bytes}
use Rattle.sftp_tree.specs.PlaceCauses.{is_none}
use Rattle.sftp_handles.specs.State.{State}
use Rattle.sftp_handles.specs.State.{Seen, file, a_file, seen}
use Rattle.sftp_handles.specs.Allowed.{causes}
use Rattle.sftp_handles.specs.Replies.{has_code}
use Rattle.sftp_handles.specs.Clash.{share, touched}
use Rattle.sftp_profile.specs.declared.copies.Copying.{Copying}
use Rattle.sftp_profile.specs.Replaced.{whole}
use Rattle.sftp_profile.specs.BytesRead.{most, passes_read}
use Rattle.std.specs.List.{list_all}
use Rattle.sftp_packets.specs.declared.replies.Answer.TheVariants as replies
use Rattle.sftp_tree.specs.Attributes.{creates}
use Rattle.sftp_profile.specs.declared.profiles.Profile.{Profile}
use Rattle.sftp_profile.specs.BytesRead.{walks_loosely}
use Rattle.sftp_profile.specs.BytesRead.{is_beyond}
use Rattle.sftp_profile.specs.BytesRead.{is_unknown, is_looked_at, only_looks}
use Rattle.sftp_profile.specs.StrictAnswers.{is_dots, is_readdir}
use Rattle.sftp_profile.specs.BytesRead.{is_refusal}
use Rattle.sftp_profile.specs.Realpaths.{passes_realpath}
use Rattle.sftp_profile.specs.Replaced.{setstat_of, sets_nothing, passes_lsetstat}

-- ==== copy-data: bytes of an open file are copied to another one (OpenSSH's PROTOCOL, section 4; the draft
-- filexfer-extensions-00, section 7; OpenSSH's sftp sends it for `cp`).

-- ---- the request

abbrev pub is_copy_data : List ℕ → Bool
is_copy_data name = same_bytes name (codes "copy-data")

-- the handle that is read, from where, and how much; the handle that is written, and from where
unfoldable pub copying_at : Reader Copying
copying_at rest = do
  from ← string_at rest
  offset ← uint64_at from.1
  len ← uint64_at offset.1
  to ← string_at len.1
  at ← uint64_at to.1
  Ok (record { from = from.0; offset = offset.0; len = len.0; to = to.0; at = at.0 }, at.1)

-- what these bytes spell, if they spell nothing else
unfoldable pub copying_in : List ℕ → Option Copying
copying_in rest = whole (copying_at rest)

-- what a copy-data asks for
abbrev pub copying_of : Ask → Option Copying
copying_of (asks.Unknown name rest) = if is_copy_data name then copying_in rest else None
copying_of other = None

-- ---- it reads

-- a READ of the one file
abbrev pub reading : Copying → Ask
reading c = asks.Read c.from c.offset 0

-- as many bytes as are asked for and left; where 0 are asked for, all that are left
abbrev pub copied_count : ℕ → ℕ → ℕ → ℕ
copied_count size offset len = if len == 0 then size - offset else most size offset len

-- the bytes of a file that are copied
abbrev pub bytes_from : Seen → ℕ → ℕ → List ℕ
bytes_from (file number flags content) offset len =
    take (copied_count (length content.bytes) offset len) (drop offset content.bytes)
bytes_from other offset len = []

-- so many bytes of a file. A word of private contracts
abbrev pub bytes_within : Seen → ℕ → ℕ → List ℕ
bytes_within (file number flags content) offset count = take count (drop offset content.bytes)
bytes_within other offset count = []

abbrev pub copied : State → Copying → List ℕ
copied s c = bytes_from (seen s a_file c.from) c.offset c.len

-- ---- and writes

-- a WRITE of these bytes to the other file
abbrev pub writing : Copying → List ℕ → Ask
writing c bytes = asks.Write c.to c.at bytes

-- ---- within one file

-- both handles are of one file
abbrev pub is_within_file : State → Copying → Bool
is_within_file s c = share (touched s (reading c)) (touched s (writing c []))

-- the bytes that are asked to be read and to be written overlap
abbrev pub overlaps : Copying → Bool
overlaps c = c.len == 0 || nat_lt c.offset (c.at + c.len) && nat_lt c.at (c.offset + c.len)

-- ---- what it is taken for

-- bytes that are to be written where they are read cannot be copied
abbrev pub write_of : State → Copying → List ℕ → Option Ask
write_of s c bytes =
    if nat_lt 0 (length bytes) && (overlaps c && is_within_file s c) then None else Some (writing c bytes)

-- where the READ is refused, that; else a WRITE of what is read
abbrev pub copy_of : State → Copying → Option Ask
copy_of s c = if is_none (causes s (reading c)) then write_of s c (copied s c) else Some (reading c)

abbrev pub copy_if : State → Option Copying → Option Ask
copy_if s (Some c) = copy_of s c
copy_if s None = None

abbrev pub copied_as : State → Ask → Option Ask
copied_as s ask = copy_if s (copying_of ask)

-- ---- what passes as it stands

-- a copy within one file may be refused
abbrev pub refuses_copy : State → Option Copying → Answer → Bool
refuses_copy s (Some c) answer = has_code 4 answer && is_within_file s c
refuses_copy s None answer = false

abbrev pub passes_copy_data : State → Ask → Answer → Bool
passes_copy_data s ask answer = refuses_copy s (copying_of ask) answer

-- ---- by the state

-- some cause refuses the request, and so does the answer, with whichever code
abbrev pub passes_codes : State → Ask → Answer → Bool
passes_codes s ask answer = is_refusal answer && not (is_none (causes s ask))

abbrev pub are_dots : Answer → Bool
are_dots (replies.Name items) = nat_lt 0 (length items) && list_all (λ item. is_dots item.filename) items
are_dots other = false

-- READDIR is not refused, and gives `.` and `..` alone
abbrev pub passes_dots : State → Ask → Answer → Bool
passes_dots s ask answer = is_readdir ask && (are_dots answer && is_none (causes s ask))

-- ---- by the request and its answer alone

-- a path ends loosely, and the answer refuses it
abbrev pub passes_slash : Profile → Ask → Answer → Bool
passes_slash profile ask answer =
    walks_loosely ask && (has_code 2 answer || (has_code 4 answer || profile.codes && is_refusal answer))

abbrev pub is_empty_setstat : Ask → Bool
is_empty_setstat (asks.Setstat path attrs) = sets_nothing attrs
is_empty_setstat other = false

-- nothing is to be set, and the answer says OK
abbrev pub passes_empty_setstat : Ask → Answer → Bool
passes_empty_setstat ask answer = is_empty_setstat ask && has_code 0 answer

-- the request meets a limit of the server's own, and the answer refuses it
abbrev pub passes_limits : Profile → Ask → Answer → Bool
passes_limits profile ask answer = is_beyond ask && (has_code 4 answer || profile.codes && is_refusal answer)

-- an extension that is not known is refused, or only looks
abbrev pub passes_extensions : Ask → Answer → Bool
passes_extensions ask answer = is_unknown ask && is_refusal answer || is_looked_at ask answer

-- a file may get longer by this size
abbrev pub is_some_size : Option ℕ → Bool
is_some_size (Some size) = nat_lt 0 size
is_some_size None = false

-- the request may need room on a disk: for an entry, or for bytes
abbrev pub needs_room : Ask → Bool
needs_room (asks.Open path pflags attrs) = creates pflags
needs_room (asks.Write handle offset bytes) = nat_lt 0 (length bytes)
needs_room (asks.Setstat path attrs) = is_some_size attrs.size
needs_room (asks.Fsetstat handle attrs) = is_some_size attrs.size
needs_room (asks.Mkdir path attrs) = true
needs_room (asks.Symlink targetpath linkpath) = true
needs_room (asks.Hardlink oldpath newpath) = true
needs_room (asks.Rename oldpath newpath) = true
needs_room (asks.PosixRename oldpath newpath) = true
needs_room other = false

-- there is none, and the answer refuses the request
abbrev pub passes_full : Ask → Answer → Bool
passes_full ask answer = needs_room ask && has_code 4 answer

-- the user may not do this, or the disk has no room for it, and the answer refuses it
abbrev pub passes_user : Profile → Ask → Answer → Bool
passes_user profile ask answer = profile.denied && has_code 3 answer || profile.full && passes_full ask answer

-- ---- by what the session has

-- a READ or a REALPATH may be answered so
abbrev pub passes_looking : Profile → State → Ask → Answer → Bool
passes_looking profile s ask answer =
    profile.read && passes_read s ask answer || profile.realpath && passes_realpath s.tree profile.codes ask answer

-- an extension whose fields are known may be answered so
abbrev pub passes_fields : Profile → State → Ask → Answer → Bool
passes_fields profile s ask answer =
    profile.lsetstat && passes_lsetstat profile s.tree ask answer
    || profile.copy_data && passes_copy_data s ask answer

-- ---- all of them

abbrev pub passes_in : Profile → State → Ask → Answer → Bool
passes_in profile s ask answer =
    profile.codes && passes_codes s ask answer
    || (profile.dots && passes_dots s ask answer
    || (passes_looking profile s ask answer || passes_fields profile s ask answer))

abbrev pub passes_alone : Profile → Ask → Answer → Bool
passes_alone profile ask answer =
    profile.slash && passes_slash profile ask answer
    || (profile.empty_setstat && passes_empty_setstat ask answer
    || (profile.limits && passes_limits profile ask answer
    || (profile.extensions && passes_extensions ask answer || passes_user profile ask answer)))

-- the profile lets the answer pass; the session stays as it is
unfoldable pub is_forgiven : Profile → State → Ask → Answer → Bool
is_forgiven profile s ask answer = passes_alone profile ask answer || passes_in profile s ask answer

-- ---- what is not followed

-- an extension that the profile does not know is neither refused nor at an end, so it may have changed anything
abbrev pub is_unmodelled : Ask → Answer → Bool
is_unmodelled ask answer = is_unknown ask && not (only_looks ask || (is_refusal answer || has_code 1 answer))

-- the fields of an extension are known by the profile
abbrev pub has_fields : Profile → Ask → Bool
has_fields profile ask =
    profile.lsetstat && is_some (setstat_of ask) || profile.copy_data && is_some (copying_of ask)

-- whether the profile follows a request with this answer
abbrev pub is_modelled : Profile → Ask → Answer → Bool
is_modelled profile ask answer =
    not (profile.extensions && (is_unmodelled ask answer && not (has_fields profile ask)))
