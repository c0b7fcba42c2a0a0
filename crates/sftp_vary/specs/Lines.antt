-- Replies to READDIR whose names have lines as `ls -l` writes them. How long they may be is this project's own.
use Rattle.std.specs.Prelude.{ℕ, ◌≤◌, Bool, List, length, nat_lt, IsTrue}
use Rattle.std.specs.List.{list_all}
use Rattle.sftp_packets.specs.declared.names.NameItem.{NameItem}
use Rattle.sftp_packets.specs.declared.packets.Packet.{Packet}
use Rattle.sftp_packets.specs.declared.packets.Packet.TheVariants.{Reply}
use Rattle.sftp_packets.specs.declared.replies.Answer.TheVariants as replies
use Rattle.sftp_packets.specs.Spelling.{name_item, FitsString, FitsNameItem}

-- the reply of this id that gives names
abbrev pub listing : ℕ → List NameItem → Packet
listing id items = Reply (record { id = id; answer = replies.Name items })

-- the most bytes of a name that gets a line, of a line, and of both with their attributes
abbrev pub name_limit : ℕ
name_limit = 255

abbrev pub line_limit : ℕ
line_limit = 400

abbrev pub item_limit : ℕ
item_limit = 700

-- the most names that get lines
abbrev pub names_limit : ℕ
names_limit = 256

abbrev pub is_short : NameItem → Bool
is_short item = nat_lt (length item.filename) 256

-- names that have room for lines
pub record AreShort (items : List NameItem) : Type 0 where
  pub few : length items ≤ names_limit
  pub short : IsTrue (list_all is_short items)

pub record IsLine (line : List ℕ) : Type 0 where
  pub fits : FitsString line
  pub short : length line ≤ line_limit

-- a name with its line, or without a long name
pub record IsLined (item : NameItem) : Type 0 where
  pub fits : FitsNameItem item
  pub short : IsTrue (is_short item) → length (name_item item) ≤ item_limit
