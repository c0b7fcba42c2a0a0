-- Events and bytes that worked examples name.
use Rattle.std.specs.Prelude.{ℕ, List, [], ◌++◌, map, codes, Some}
use Rattle.sftp_packets.specs.declared.attributes.Attrs.{Attrs}
use Rattle.sftp_packets.specs.declared.names.NameItem.{NameItem}
use Rattle.sftp_packets.specs.declared.requests.Ask.TheVariants.{Opendir, Mkdir, Rmdir, Stat, Lstat, Realpath, Readlink}
use Rattle.sftp_packets.specs.declared.requests.Ask.TheVariants.{Symlink, Open, Read, Close}
use Rattle.sftp_packets.specs.declared.replies.Answer.TheVariants.{Status, Handle, Data, Name, Attrs as attributes}
use Rattle.sftp_strings.specs.Hexadecimal.{hex}
use Rattle.sftp_packets.specs.Spelling.{no_attributes}
use Rattle.sftp_wire.specs.Examples.{version_bytes}
use Rattle.sftp_transcript.specs.declared.events.Event.{Event}
use Rattle.sftp_transcript.specs.declared.events.Event.TheVariants.{Asked, Replied}

-- a request for a directory of the tree's own owner
abbrev pub mkdir : ℕ → List ℕ → Event
mkdir id path = Asked (record { id = id; ask = Mkdir path no_attributes })

abbrev pub rmdir : ℕ → List ℕ → Event
rmdir id path = Asked (record { id = id; ask = Rmdir path })

abbrev pub open_directory : ℕ → List ℕ → Event
open_directory id path = Asked (record { id = id; ask = Opendir path })

abbrev pub stat : ℕ → List ℕ → Event
stat id path = Asked (record { id = id; ask = Stat path })

abbrev pub lstat : ℕ → List ℕ → Event
lstat id path = Asked (record { id = id; ask = Lstat path })

abbrev pub real_path : ℕ → List ℕ → Event
real_path id path = Asked (record { id = id; ask = Realpath path })

abbrev pub read_link : ℕ → List ℕ → Event
read_link id path = Asked (record { id = id; ask = Readlink path })

-- a request for a link with this target
abbrev pub symlink : ℕ → List ℕ → List ℕ → Event
symlink id linktarget link = Asked (record { id = id; ask = Symlink linktarget link })

-- a request for a file, to read it
abbrev pub open_to_read : ℕ → List ℕ → Event
open_to_read id path = Asked (record { id = id; ask = Open path 1 no_attributes })

-- a request for `len` bytes of the file that a handle names, from an offset on
abbrev pub read : ℕ → List ℕ → ℕ → ℕ → Event
read id handle offset len = Asked (record { id = id; ask = Read handle offset len })

abbrev pub close : ℕ → List ℕ → Event
close id handle = Asked (record { id = id; ask = Close handle })

-- a reply with a code, and no texts
abbrev pub status : ℕ → ℕ → Event
status id code = Replied (record { id = id; answer = Status code [] [] })

-- a reply with a handle
abbrev pub handle_reply : ℕ → List ℕ → Event
handle_reply id handle = Replied (record { id = id; answer = Handle handle })

-- a reply with bytes of a file
abbrev pub data_reply : ℕ → List ℕ → Event
data_reply id bytes = Replied (record { id = id; answer = Data bytes })

-- a name of which nothing else is said
abbrev pub bare_name : List ℕ → NameItem
bare_name name = record { filename = name; longname = []; attrs = no_attributes }

-- a reply with these names
abbrev pub name_reply : ℕ → List (List ℕ) → Event
name_reply id names = Replied (record { id = id; answer = Name (map bare_name names) })

-- a reply with these attributes
abbrev pub attributes_reply : ℕ → Attrs → Event
attributes_reply id attrs = Replied (record { id = id; answer = attributes attrs })

-- those of a link of user 0 and group 0, whose target has `size` bytes
abbrev pub of_link : ℕ → Attrs
of_link size = record no_attributes { size = Some size; owner = Some (0, 0); permissions = Some 0o120777 }

-- the same, but for the permissions
abbrev pub with_no_permissions : ℕ → Attrs
with_no_permissions size = record no_attributes { size = Some size; owner = Some (0, 0) }

-- the transcript file of a session without a request: the opening, an INIT of version 3, and the VERSION
abbrev pub handshake_bytes : List ℕ
handshake_bytes = hex (codes "5346545054523031 43 00000005 01 00000003 53") ++ version_bytes
