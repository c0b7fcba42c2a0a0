-- What replies say (draft-ietf-secsh-filexfer-02, section 7). Which fields of a reply are free is this profile's own.
use Rattle.std.specs.Prelude.{◌==◌, ◌&&◌, not, nat_le, ℕ, Bool, false, List, [], ◌∷◌, length, Option, Some}
use Rattle.sftp_packets.specs.declared.attributes.Attrs.{Attrs}
use Rattle.sftp_packets.specs.declared.names.NameItem.{NameItem}
use Rattle.sftp_packets.specs.declared.replies.Answer.{Answer}
use Rattle.sftp_packets.specs.declared.replies.Answer.TheVariants as replies
use Rattle.sftp_packets.specs.Spelling.{handle_limit}
use Rattle.sftp_path.specs.Place.{Name, same_bytes}
use Rattle.sftp_tree.specs.PlaceCauses.{CauseSet, allow}
pub use Rattle.sftp_listing.specs.Left.{same_attributes, is_among, are_distinct, has_attributes, is_left, names_in}
pub use Rattle.sftp_listing.specs.Left.{are_some_left, struck}
use Rattle.sftp_handles.specs.State.{Left, Handles, is_open}

-- ---- statuses

-- a status with a code that one of the causes allows
abbrev pub refuses : CauseSet → Answer → Bool
refuses set (replies.Status code message language) = allow set code
refuses set other = false

-- a status with this code
abbrev pub has_code : ℕ → Answer → Bool
has_code wanted (replies.Status code message language) = code == wanted
has_code wanted other = false

-- ---- attributes

-- the attributes of what was asked for
abbrev pub is_shown : Option Attrs → Answer → Bool
is_shown (Some shown) (replies.Attrs attrs) = same_attributes shown attrs
is_shown _ _ = false

-- ---- bytes

-- these bytes of a file
abbrev pub is_data : List ℕ → Answer → Bool
is_data bytes (replies.Data given) = same_bytes bytes given
is_data bytes other = false

-- ---- names

-- one name; what else is said of it is free
abbrev pub is_one_name : List ℕ → List NameItem → Bool
is_one_name text (item ∷ []) = same_bytes text item.filename
is_one_name text _ = false

abbrev pub is_named : Option (List ℕ) → Answer → Bool
is_named (Some text) (replies.Name items) = is_one_name text items
is_named _ _ = false

abbrev pub gives_some : Left → Answer → Bool
gives_some left (replies.Name items) = are_some_left left items
gives_some left other = false

-- the names that a reply gives
abbrev pub names_given : Answer → List Name
names_given (replies.Name items) = names_in items
names_given other = []

-- ---- handles

-- a handle that is not open and not too long
abbrev pub is_new_handle : Handles → Answer → Bool
is_new_handle handles (replies.Handle name) = nat_le (length name) handle_limit && not (is_open handles name)
is_new_handle handles other = false

-- ---- extensions

-- these bytes
abbrev pub is_extended : List ℕ → Answer → Bool
is_extended bytes (replies.Extended given) = same_bytes bytes given
is_extended bytes other = false

-- ---- what a reply says

-- what the reply to a request that was done says
pub data Said : Type 0 where
  -- OK
  ok : Said
  -- the attributes of what was asked for
  shows : Option Attrs → Said
  -- a name of these bytes
  names : Option (List ℕ) → Said
  -- these bytes of a file
  gives : List ℕ → Said
  -- that the end was reached
  ended : Said
  -- some of the remaining entries of a listing
  lists : Left → Said
  -- a handle that is not one of these
  opens : Handles → Said
  -- these bytes in the reply of an extension
  extends : List ℕ → Said

-- whether an answer says it; OK has the code 0, and the end the code 1
abbrev pub says : Said → Answer → Bool
says ok answer = has_code 0 answer
says (shows shown) answer = is_shown shown answer
says (names text) answer = is_named text answer
says (gives bytes) answer = is_data bytes answer
says ended answer = has_code 1 answer
says (lists left) answer = gives_some left answer
says (opens handles) answer = is_new_handle handles answer
says (extends bytes) answer = is_extended bytes answer
