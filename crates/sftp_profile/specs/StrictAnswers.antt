-- Answers as they would be strictly, where the profile leaves a part of them free.
use Rattle.std.specs.Prelude.{◌==◌, ◌&&◌, ◌||◌, ◌/◌, ◌^◌, ℕ, Bool, true, false, if◌then◌else◌, List, [], ◌∷◌}
use Rattle.std.specs.Prelude.{Option, Some, None}
use Rattle.std.specs.Int.RustNames.{bit_and, bit_or}
use Rattle.std.specs.List.{flat_map}
use Rattle.sftp_packets.specs.declared.attributes.Attrs.{Attrs}
use Rattle.sftp_packets.specs.declared.names.NameItem.{NameItem}
use Rattle.sftp_packets.specs.declared.requests.Ask.{Ask}
use Rattle.sftp_packets.specs.declared.requests.Ask.TheVariants as asks
use Rattle.sftp_packets.specs.declared.replies.Answer.{Answer}
use Rattle.sftp_packets.specs.declared.replies.Answer.TheVariants as replies
use Rattle.sftp_path.specs.Place.{is_dot, is_dot_dot}
use Rattle.sftp_handles.specs.State.{Left}
use Rattle.sftp_handles.specs.State.{State}
use Rattle.sftp_profile.specs.declared.profiles.Profile.{Profile}
use Rattle.sftp_profile.specs.Shown.{shown_in, left_of, shown_left}

-- ---- attributes

-- permissions with this type
abbrev pub is_type : ℕ → Option ℕ → Bool
is_type type (Some permissions) = permissions / 2 ^ 12 == type
is_type type None = false

abbrev pub is_directory : Option ℕ → Bool
is_directory permissions = is_type 4 permissions

abbrev pub is_link : Option ℕ → Bool
is_link permissions = is_type 10 permissions

-- the size 0 of a directory, if the profile leaves it free
abbrev pub with_size : Profile → Attrs → Attrs
with_size profile attrs =
    if profile.dir_size && is_directory attrs.permissions then record attrs { size = Some 0 } else attrs

-- permissions with the bits 0o6000 of those shown
abbrev pub with_bits : Option ℕ → Option ℕ → Option ℕ
with_bits (Some shown) (Some given) = Some (bit_or (bit_and given 0xfffff3ff) (bit_and shown 0o6000))
with_bits shown given = given

-- the bits 0o6000 that are shown, if the profile leaves them free
abbrev pub with_id : Profile → Attrs → Attrs → Attrs
with_id profile shown attrs =
    if profile.set_id then record attrs { permissions = with_bits shown.permissions attrs.permissions } else attrs

-- the owner and the permissions that are shown of a link, if the profile leaves them free
abbrev pub with_link : Profile → Attrs → Attrs → Attrs
with_link profile shown attrs =
    if profile.link_attrs && (is_link shown.permissions && is_link attrs.permissions)
    then record attrs { owner = shown.owner; permissions = shown.permissions } else attrs

-- no bytes
abbrev pub is_no_size : Option ℕ → Bool
is_no_size (Some size) = size == 0
is_no_size None = false

-- a file of no bytes, which may be in the tree for what the tree cannot hold
abbrev pub is_empty_file : Attrs → Bool
is_empty_file shown = is_type 8 shown.permissions && is_no_size shown.size

-- a FIFO, a character device, a block device or a socket (POSIX, sys/stat.h)
abbrev pub is_special : Option ℕ → Bool
is_special permissions =
    is_type 1 permissions || (is_type 2 permissions || (is_type 6 permissions || is_type 12 permissions))

-- permissions with the type of a file
abbrev pub as_file : Option ℕ → Option ℕ
as_file (Some permissions) = Some (bit_or (bit_and permissions 0o7777) 0o100000)
as_file None = None

-- the type of a file that is shown with no bytes and has none, if the profile leaves it free
abbrev pub with_special : Profile → Attrs → Attrs → Attrs
with_special profile shown attrs =
    if profile.special && (is_empty_file shown && (is_no_size attrs.size && is_special attrs.permissions))
    then record attrs { permissions = as_file attrs.permissions } else attrs

-- the attributes, with what is shown where the profile leaves a field free
abbrev pub mended : Profile → Option Attrs → Attrs → Attrs
mended profile (Some shown) attrs =
    with_special profile shown (with_link profile shown (with_id profile shown (with_size profile attrs)))
mended profile None attrs = with_size profile attrs

-- ---- names

-- `.` or `..`
abbrev pub is_dots : List ℕ → Bool
is_dots name = is_dot name || is_dot_dot name

-- the name without its long name, with mended attributes; nothing, if the profile passes over it
abbrev pub mended_item : Profile → Option Left → NameItem → List NameItem
mended_item profile left item =
    if profile.dots && is_dots item.filename then []
    else record {
      filename = item.filename;
      longname = [];
      attrs = mended profile (shown_left left item.filename) item.attrs;
    } ∷ []

abbrev pub mended_items : Profile → Option Left → List NameItem → List NameItem
mended_items profile left items = flat_map (mended_item profile left) items

-- ---- answers

abbrev pub is_readdir : Ask → Bool
is_readdir (asks.Readdir handle) = true
is_readdir other = false

-- a field of attributes is free
abbrev pub frees_attributes : Profile → Bool
frees_attributes profile = profile.dir_size || (profile.set_id || (profile.link_attrs || profile.special))

abbrev pub told_attributes : Profile → Option Attrs → Attrs → Option Answer
told_attributes profile shown attrs =
    if frees_attributes profile then Some (replies.Attrs (mended profile shown attrs)) else None

-- the answer as it would be strictly; `None` if the profile leaves nothing of it free
abbrev pub told : Profile → State → Ask → Answer → Option Answer
told profile s ask (replies.Attrs attrs) = told_attributes profile (shown_in s ask) attrs
told profile s ask (replies.Name items) =
    if is_readdir ask && (profile.dots || frees_attributes profile)
    then Some (replies.Name (mended_items profile (left_of s ask) items)) else None
told profile s ask other = None
