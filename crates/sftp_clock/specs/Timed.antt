-- Attributes and names but for their times, and how long names with times may be. How long they may be is this
-- project's own.
use Rattle.std.specs.Prelude.{ℕ, ◌≤◌, ◌&&◌, not, Bool, List, None, is_some, length, nat_lt, IsTrue}
use Rattle.std.specs.List.{list_all}
use Rattle.sftp_packets.specs.declared.attributes.Attrs.{Attrs}
use Rattle.sftp_packets.specs.declared.names.NameItem.{NameItem}
use Rattle.sftp_packets.specs.declared.packets.Packet.{Packet}
use Rattle.sftp_packets.specs.declared.packets.Packet.TheVariants.{Reply}
use Rattle.sftp_packets.specs.declared.replies.Answer.TheVariants as replies
use Rattle.sftp_packets.specs.Spelling.{name_item, FitsNameItem}

-- the reply of this id that shows attributes
abbrev pub shown : ℕ → Attrs → Packet
shown id attrs = Reply (record { id = id; answer = replies.Attrs attrs })

-- the reply of this id that gives names
abbrev pub listing : ℕ → List NameItem → Packet
listing id items = Reply (record { id = id; answer = replies.Name items })

-- attributes without times
abbrev pub untimed_attrs : Attrs → Attrs
untimed_attrs attrs = record attrs { times = None }

-- a name without times
abbrev pub untimed : NameItem → NameItem
untimed item = record { filename = item.filename; longname = item.longname; attrs = untimed_attrs item.attrs }

-- whether a name has room for times
abbrev pub is_plain : NameItem → Bool
is_plain item =
    nat_lt (length item.filename) 256 && (nat_lt (length item.longname) 401 && not (is_some item.attrs.extended))

-- the most bytes of a name with times
abbrev pub item_limit : ℕ
item_limit = 700

-- the most names that get times
abbrev pub names_limit : ℕ
names_limit = 256

-- names that have room for times
pub record ArePlain (items : List NameItem) : Type 0 where
  pub few : length items ≤ names_limit
  pub plain : IsTrue (list_all is_plain items)

-- a name with its times, or with none
pub record IsTimed (item : NameItem) : Type 0 where
  pub fits : FitsNameItem item
  pub short : IsTrue (is_plain item) → length (name_item item) ≤ item_limit
