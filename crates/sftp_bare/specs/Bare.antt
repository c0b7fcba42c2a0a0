-- Replies without what is free in them, handles and the choice of names aside (draft-ietf-secsh-filexfer-02, sections 5
-- and 7): the texts of statuses, long names, times and extended pairs. That these are free is this profile's own.
use Rattle.std.specs.Prelude.{[], map, None}
use Rattle.sftp_packets.specs.declared.attributes.Attrs.{Attrs}
use Rattle.sftp_packets.specs.declared.names.NameItem.{NameItem}
use Rattle.sftp_packets.specs.declared.replies.Answer.{Answer}
use Rattle.sftp_packets.specs.declared.replies.Answer.TheVariants as replies

-- attributes without times and extended pairs
abbrev pub bare_attrs : Attrs → Attrs
bare_attrs attrs = record attrs { times = None; extended = None }

-- a name without its long name
abbrev pub bare_item : NameItem → NameItem
bare_item item = record { filename = item.filename; longname = []; attrs = bare_attrs item.attrs }

-- an answer without texts, long names, times and extended pairs
abbrev pub bare : Answer → Answer
bare (replies.Status code message language) = replies.Status code [] []
bare (replies.Name items) = replies.Name (map bare_item items)
bare (replies.Attrs attrs) = replies.Attrs (bare_attrs attrs)
bare other = other
