-- The requests (draft-ietf-secsh-filexfer-02, sections 6 and 8): how each is spelled, how it is read, and which reply
-- it may get.
use Rattle.std.specs.Prelude.{◌==◌, ℕ, Bool, false, if◌then◌else◌, List, [], ◌∷◌, codes, map, bytes_eq, find, Option}
use Rattle.std.specs.Prelude.{Some, None, is_some, ◌||◌}
use Rattle.std.specs.List.{list_any}
use Rattle.sftp_packets.specs.declared.errors.Fault.TheVariants.{WrongType}
use Rattle.sftp_packets.specs.declared.requests.Ask.{Ask}
use Rattle.sftp_packets.specs.declared.requests.Ask.TheVariants as asks
use Rattle.sftp_packets.specs.declared.packets.Packet.{Packet}
use Rattle.sftp_packets.specs.declared.packets.Packet.TheVariants.{Request, Reply}
use Rattle.sftp_packets.specs.declared.attributes.Attrs.{Attrs}
use Rattle.sftp_packets.specs.declared.names.NameItem.{NameItem}
use Rattle.sftp_packets.specs.Spelling.{Field, Number, LongNumber, Flags, Text, Handle, ExtensionName, Message, Rest}
use Rattle.sftp_packets.specs.Spelling.{Attributes, Items, Row, plain, extension, no_attributes, row_parts, Fit}
use Rattle.sftp_packets.specs.Spelling.{handle_in}
use Rattle.sftp_packets.specs.Reading.{Reader, ◌>>=◌, refuse, none_at, one, two, three, uint32_at, uint64_at}
use Rattle.sftp_packets.specs.Reading.{string_at, handle_at, rest_at, attributes_at, names_at}
use Rattle.sftp_packets.specs.declared.replies.Answer.{Answer}
use Rattle.sftp_packets.specs.declared.replies.Answer.TheVariants as answers

-- ---- the names of the extensions that have requests of their own (OpenSSH's PROTOCOL, section 4)

abbrev pub posix_rename_name : List ℕ
posix_rename_name = codes "posix-rename@openssh.com"

abbrev pub hardlink_name : List ℕ
hardlink_name = codes "hardlink@openssh.com"

abbrev pub fsync_name : List ℕ
fsync_name = codes "fsync@openssh.com"

-- and of one that is this profile's own
abbrev pub limits_name : List ℕ
limits_name = codes "limits@sftpv3.test"

-- in the order in which the server offers them
abbrev pub known_extensions : List (List ℕ)
known_extensions = posix_rename_name ∷ hardlink_name ∷ fsync_name ∷ limits_name ∷ []

-- whether a name is one of these
abbrev pub is_known_extension : List ℕ → Bool
is_known_extension name = list_any (bytes_eq name) known_extensions

-- the extensions that the server offers, each in its version `1`
abbrev pub server_extensions : List (List ℕ × List ℕ)
server_extensions = map (λ name. (name, codes "1")) known_extensions

-- ---- how requests are spelled

-- The row of each request: its type, the name of the type, and the fields after the id.
-- The order of SYMLINK's fields and the data of the known extensions are those of OpenSSH's PROTOCOL, section 4.
abbrev pub ask_row : Ask → Row
ask_row (asks.Open path pflags attrs) = plain 3 (codes "OPEN") (Text path ∷ Flags pflags ∷ Attributes attrs ∷ [])
ask_row (asks.Close handle) = plain 4 (codes "CLOSE") (Handle handle ∷ [])
ask_row (asks.Read handle offset len) = plain 5 (codes "READ") (Handle handle ∷ LongNumber offset ∷ Number len ∷ [])
ask_row (asks.Write handle offset bytes) = plain 6 (codes "WRITE") (Handle handle ∷ LongNumber offset ∷ Text bytes ∷ [])
ask_row (asks.Lstat path) = plain 7 (codes "LSTAT") (Text path ∷ [])
ask_row (asks.Fstat handle) = plain 8 (codes "FSTAT") (Handle handle ∷ [])
ask_row (asks.Setstat path attrs) = plain 9 (codes "SETSTAT") (Text path ∷ Attributes attrs ∷ [])
ask_row (asks.Fsetstat handle attrs) = plain 10 (codes "FSETSTAT") (Handle handle ∷ Attributes attrs ∷ [])
ask_row (asks.Opendir path) = plain 11 (codes "OPENDIR") (Text path ∷ [])
ask_row (asks.Readdir handle) = plain 12 (codes "READDIR") (Handle handle ∷ [])
ask_row (asks.Remove path) = plain 13 (codes "REMOVE") (Text path ∷ [])
ask_row (asks.Mkdir path attrs) = plain 14 (codes "MKDIR") (Text path ∷ Attributes attrs ∷ [])
ask_row (asks.Rmdir path) = plain 15 (codes "RMDIR") (Text path ∷ [])
ask_row (asks.Realpath path) = plain 16 (codes "REALPATH") (Text path ∷ [])
ask_row (asks.Stat path) = plain 17 (codes "STAT") (Text path ∷ [])
ask_row (asks.Rename oldpath newpath) = plain 18 (codes "RENAME") (Text oldpath ∷ Text newpath ∷ [])
ask_row (asks.Readlink path) = plain 19 (codes "READLINK") (Text path ∷ [])
ask_row (asks.Symlink targetpath linkpath) = plain 20 (codes "SYMLINK") (Text targetpath ∷ Text linkpath ∷ [])
ask_row (asks.PosixRename oldpath newpath) =
    extension (codes "POSIX-RENAME") posix_rename_name (Text oldpath ∷ Text newpath ∷ [])
ask_row (asks.Hardlink oldpath newpath) = extension (codes "HARDLINK") hardlink_name (Text oldpath ∷ Text newpath ∷ [])
ask_row (asks.Fsync handle) = extension (codes "FSYNC") fsync_name (Handle handle ∷ [])
ask_row asks.Limits = extension (codes "LIMITS") limits_name []
ask_row (asks.Unknown name rest) = plain 200 (codes "EXTENDED") (ExtensionName name ∷ Rest rest ∷ [])

-- the type of a request, and the bytes after its id
abbrev pub ask_parts : Ask → ℕ × List ℕ
ask_parts ask = row_parts (ask_row ask)

-- each field is in range
abbrev pub FitsAsk : Ask → Type 0
FitsAsk ask = Fit (ask_row ask).fields

-- the handle that a request names, if it names one
abbrev pub asked_handle : Ask → Option (List ℕ)
asked_handle ask = handle_in (ask_row ask).fields

-- an extension that has a request of its own, written as an unknown one
abbrev pub asks_known : Ask → Bool
asks_known (asks.Unknown name rest) = is_known_extension name
asks_known other = false

-- a request of each kind; those of the known extensions come before that of any other
abbrev pub every_ask : List Ask
every_ask =
    asks.Open [] 0 no_attributes ∷ asks.Close [] ∷ asks.Read [] 0 0 ∷ asks.Write [] 0 [] ∷ asks.Lstat []
    ∷ asks.Fstat [] ∷ asks.Setstat [] no_attributes ∷ asks.Fsetstat [] no_attributes ∷ asks.Opendir []
    ∷ asks.Readdir [] ∷ asks.Remove [] ∷ asks.Mkdir [] no_attributes ∷ asks.Rmdir [] ∷ asks.Realpath []
    ∷ asks.Stat [] ∷ asks.Rename [] [] ∷ asks.Readlink [] ∷ asks.Symlink [] [] ∷ asks.PosixRename [] []
    ∷ asks.Hardlink [] [] ∷ asks.Fsync [] ∷ asks.Limits ∷ asks.Unknown [] [] ∷ []

-- ---- which replies they may get

-- The type of the reply that a request may get; each may get a status beside it, of the type 101 (draft, sections 6 and
-- 7). That LIMITS gets 201, and every other extension no more than a status, is this profile's own.
abbrev pub reply_type : Ask → ℕ
reply_type (asks.Open path pflags attrs) = 102
reply_type (asks.Opendir path) = 102
reply_type (asks.Read handle offset len) = 103
reply_type (asks.Readdir handle) = 104
reply_type (asks.Realpath path) = 104
reply_type (asks.Readlink path) = 104
reply_type (asks.Stat path) = 105
reply_type (asks.Lstat path) = 105
reply_type (asks.Fstat handle) = 105
reply_type asks.Limits = 201
reply_type other = 101

-- ---- how requests are read

-- The fields of a request of the kind of this one, whatever its own; of an extension those after its name (draft,
-- sections 6 and 8).
abbrev pub ask_at : Ask → Reader Ask
ask_at (asks.Open path pflags attrs) = three string_at uint32_at attributes_at asks.Open
ask_at (asks.Close handle) = one handle_at asks.Close
ask_at (asks.Read handle offset len) = three handle_at uint64_at uint32_at asks.Read
ask_at (asks.Write handle offset bytes) = three handle_at uint64_at string_at asks.Write
ask_at (asks.Lstat path) = one string_at asks.Lstat
ask_at (asks.Fstat handle) = one handle_at asks.Fstat
ask_at (asks.Setstat path attrs) = two string_at attributes_at asks.Setstat
ask_at (asks.Fsetstat handle attrs) = two handle_at attributes_at asks.Fsetstat
ask_at (asks.Opendir path) = one string_at asks.Opendir
ask_at (asks.Readdir handle) = one handle_at asks.Readdir
ask_at (asks.Remove path) = one string_at asks.Remove
ask_at (asks.Mkdir path attrs) = two string_at attributes_at asks.Mkdir
ask_at (asks.Rmdir path) = one string_at asks.Rmdir
ask_at (asks.Realpath path) = one string_at asks.Realpath
ask_at (asks.Stat path) = one string_at asks.Stat
ask_at (asks.Rename oldpath newpath) = two string_at string_at asks.Rename
ask_at (asks.Readlink path) = one string_at asks.Readlink
ask_at (asks.Symlink targetpath linkpath) = two string_at string_at asks.Symlink
ask_at (asks.PosixRename oldpath newpath) = two string_at string_at asks.PosixRename
ask_at (asks.Hardlink oldpath newpath) = two string_at string_at asks.Hardlink
ask_at (asks.Fsync handle) = one handle_at asks.Fsync
ask_at asks.Limits = none_at asks.Limits
ask_at (asks.Unknown name rest) = one rest_at (asks.Unknown name)

-- a request: its id, and what it asks for
abbrev pub request_at : Reader Ask → Reader Packet
request_at ask = two uint32_at ask (λ id a. Request (record { id = id; ask = a }))

-- whether a row has the name of a known extension, and it is this one
abbrev pub is_named : List ℕ → Option (List ℕ) → Bool
is_named name None = false
is_named name (Some known) = bytes_eq name known

-- the data of a known extension, if there is one of that name, and else of an unknown one
abbrev pub data_at : List ℕ → Option Ask → Reader Ask
data_at name None = ask_at (asks.Unknown name [])
data_at name (Some ask) = ask_at ask

-- the data of an extension, by its name (OpenSSH's PROTOCOL, section 4)
unfoldable pub extension_data_at : List ℕ → Reader Ask
extension_data_at name = data_at name (find (λ ask. is_named name (ask_row ask).extension) every_ask)

-- an extension: its name, and then its data (draft, section 8)
unfoldable pub extension_at : Reader Ask
extension_at bytes = do
  name ← string_at bytes
  extension_data_at name.0 name.1

-- a request that has a type of its own, if there is one of that type
abbrev pub asked_at : Option Ask → Reader Packet
asked_at None = refuse WrongType
asked_at (Some ask) = request_at (ask_at ask)

-- the fields after the type of a request (draft, sections 6 and 8)
abbrev pub request_packet_at : ℕ → Reader Packet
request_packet_at kind =
    if kind == 200 then request_at extension_at else asked_at (find (λ ask. kind == (ask_row ask).kind) every_ask)

-- ---- what a request has after its id; for contracts of the code, which reads the id of all requests in one place

-- whether it is the type of a request
abbrev pub is_request : ℕ → Bool
is_request kind = kind == 200 || is_some (find (λ ask. kind == (ask_row ask).kind) every_ask)

-- the fields of a request like this one, if there is one
abbrev pub fields_like : Option Ask → Reader Ask
fields_like None = refuse WrongType
fields_like (Some ask) = ask_at ask

-- the fields after the id of a request of this type
abbrev pub request_fields_at : ℕ → Reader Ask
request_fields_at kind =
    if kind == 200 then extension_at else fields_like (find (λ ask. kind == (ask_row ask).kind) every_ask)

-- ---- what makes requests; for proofs, which so speak of all rows at once

-- the values that a field may have
abbrev pub Value : Field → Type 0
Value (Number number) = ℕ
Value (LongNumber number) = ℕ
Value (Flags flags) = ℕ
Value (Text text) = List ℕ
Value (Handle handle) = List ℕ
Value (ExtensionName name) = List ℕ
Value (Message message language) = List ℕ × List ℕ
Value (Rest bytes) = List ℕ
Value (Attributes attrs) = Attrs
Value (Items items) = List NameItem

-- a function that makes something of a value of each such field, in their order
abbrev pub Makes : List Field → Type 0 → Type 0
Makes [] A = A
Makes (field ∷ fields) A = Value field → Makes fields A

-- what makes a request of the values of its fields
abbrev pub maker : (ask : Ask) → Makes (ask_row ask).fields Ask
maker (asks.Open path pflags attrs) = asks.Open
maker (asks.Close handle) = asks.Close
maker (asks.Read handle offset len) = asks.Read
maker (asks.Write handle offset bytes) = asks.Write
maker (asks.Lstat path) = asks.Lstat
maker (asks.Fstat handle) = asks.Fstat
maker (asks.Setstat path attrs) = asks.Setstat
maker (asks.Fsetstat handle attrs) = asks.Fsetstat
maker (asks.Opendir path) = asks.Opendir
maker (asks.Readdir handle) = asks.Readdir
maker (asks.Remove path) = asks.Remove
maker (asks.Mkdir path attrs) = asks.Mkdir
maker (asks.Rmdir path) = asks.Rmdir
maker (asks.Realpath path) = asks.Realpath
maker (asks.Stat path) = asks.Stat
maker (asks.Rename oldpath newpath) = asks.Rename
maker (asks.Readlink path) = asks.Readlink
maker (asks.Symlink targetpath linkpath) = asks.Symlink
maker (asks.PosixRename oldpath newpath) = asks.PosixRename
maker (asks.Hardlink oldpath newpath) = asks.Hardlink
maker (asks.Fsync handle) = asks.Fsync
maker asks.Limits = asks.Limits
maker (asks.Unknown name rest) = asks.Unknown

-- ==== The replies (draft-ietf-secsh-filexfer-02, sections 7 and 8): how each is spelled, and how it is read.

-- ---- how replies are spelled

-- the row of each reply: its type, the name of the type, and the fields after the id
abbrev pub answer_row : Answer → Row
answer_row (answers.Status code message language) =
    plain 101 (codes "STATUS") (Number code ∷ Message message language ∷ [])
answer_row (answers.Handle handle) = plain 102 (codes "HANDLE") (Handle handle ∷ [])
answer_row (answers.Data bytes) = plain 103 (codes "DATA") (Text bytes ∷ [])
answer_row (answers.Name items) = plain 104 (codes "NAME") (Items items ∷ [])
answer_row (answers.Attrs attrs) = plain 105 (codes "ATTRS") (Attributes attrs ∷ [])
answer_row (answers.Extended bytes) = plain 201 (codes "EXTENDED_REPLY") (Rest bytes ∷ [])

-- the type of a reply, and the bytes after its id
abbrev pub answer_parts : Answer → ℕ × List ℕ
answer_parts answer = row_parts (answer_row answer)

-- each field is in range
abbrev pub FitsAnswer : Answer → Type 0
FitsAnswer answer = Fit (answer_row answer).fields

-- the handle that an answer gives, if it gives one
abbrev pub answered_handle : Answer → Option (List ℕ)
answered_handle answer = handle_in (answer_row answer).fields

-- a reply of each kind
abbrev pub every_answer : List Answer
every_answer =
    answers.Status 0 [] [] ∷ answers.Handle [] ∷ answers.Data [] ∷ answers.Name [] ∷ answers.Attrs no_attributes
    ∷ answers.Extended [] ∷ []

-- ---- how replies are read

-- a reply: the id of its request, and the answer
abbrev pub reply_at : Reader Answer → Reader Packet
reply_at answer = two uint32_at answer (λ id a. Reply (record { id = id; answer = a }))

-- the fields after the type of a reply (draft, sections 7 and 8)
abbrev pub reply_packet_at : ℕ → Reader Packet
reply_packet_at kind =
    if kind == 101 then reply_at (three uint32_at string_at string_at answers.Status) else
    if kind == 102 then reply_at (one handle_at answers.Handle) else
    if kind == 103 then reply_at (one string_at answers.Data) else
    if kind == 104 then reply_at (one names_at answers.Name) else
    if kind == 105 then reply_at (one attributes_at answers.Attrs) else
    if kind == 201 then reply_at (one rest_at answers.Extended) else
    refuse WrongType
