-- What the reply to a request says, by what it tells of: for the calls of a tree, and for profiles. No cause and no
-- change is told by it.
use Rattle.std.specs.Prelude.{ℕ, List, Option, Some, None, ◌==◌, Bool, true, false, IsTrue}
use Rattle.sftp_packets.specs.declared.attributes.Attrs.{Attrs}
use Rattle.sftp_packets.specs.declared.requests.Ask.{Ask}
use Rattle.sftp_path.specs.Place.{Name}
use Rattle.sftp_path.specs.Table.{Table}
use Rattle.sftp_tree.specs.Tree.{Tree}
use Rattle.sftp_tree.specs.Requests.{Told, attributes, name, file, listed, done, led, led_to, told_at, causes}
use Rattle.std.specs.Int.{bit_at}
use Rattle.sftp_packets.specs.declared.requests.Ask.TheVariants.{Stat, Lstat}
use Rattle.sftp_tree.specs.declared.causes.Causes.{Causes}
use Rattle.sftp_tree.specs.declared.causes.Refused.{Refused}
use Rattle.sftp_tree.specs.declared.causes.Refused.TheVariants.{Cause, NoMemory}
use Rattle.sftp_tree.specs.PlaceCauses.{CauseSet, row, is_none}

abbrev pub attributes_of : Told → Option Attrs
attributes_of (attributes shown) = shown
attributes_of (name bytes) = None
attributes_of (file number) = None
attributes_of (listed names) = None
attributes_of done = None

abbrev pub name_of : Told → Option (List ℕ)
name_of (name bytes) = bytes
name_of (attributes shown) = None
name_of (file number) = None
name_of (listed names) = None
name_of done = None

abbrev pub number_of : Told → Option ℕ
number_of (file number) = number
number_of (attributes shown) = None
number_of (name bytes) = None
number_of (listed names) = None
number_of done = None

abbrev pub names_of : Told → Option (Table Name Attrs)
names_of (listed names) = Some names
names_of (attributes shown) = None
names_of (name bytes) = None
names_of (file number) = None
names_of done = None

-- the attributes of the node that its path leads to
unfoldable pub shown_to : Tree → Ask → Option Attrs
shown_to t ask = led_to None (led t ask) (λ place. attributes_of (told_at t ask place))

-- the text that its reply names: of the place that its path leads to, or the target of the link there
unfoldable pub text_to : Tree → Ask → Option (List ℕ)
text_to t ask = led_to None (led t ask) (λ place. name_of (told_at t ask place))

-- the number of the file that it opens
unfoldable pub file_to : Tree → Ask → Option ℕ
file_to t ask = led_to None (led t ask) (λ place. number_of (told_at t ask place))

-- the names in the directory that its path leads to, with the attributes shown of their nodes
unfoldable pub listing_to : Tree → Ask → Option (Table Name Attrs)
listing_to t ask = led_to None (led t ask) (λ place. names_of (told_at t ask place))

-- ==== Refusals, and sets of causes as the code has them.

-- the set that a value of the code stands for: the bit of each row says whether its cause is in it
unfoldable pub in_set : Causes → CauseSet
in_set s cause = bit_at s.bits (row cause) == 1

-- no cause refuses the request
abbrev pub IsFree : Tree → Ask → Type 0
IsFree t ask = IsTrue (is_none (causes t ask))

-- a refusal is a cause that holds, or says that memory ran out
abbrev pub IsRefusal : Tree → Ask → Refused → Type 0
IsRefusal t ask (Cause cause) = IsTrue (causes t ask cause)
IsRefusal t ask NoMemory = Unit {0}

-- the request for attributes that follows a last link, or does not
abbrev pub stat_ask : Bool → List ℕ → Ask
stat_ask true path = Stat path
stat_ask false path = Lstat path
