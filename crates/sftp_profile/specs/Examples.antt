-- What the worked examples name: profiles of one departure, trees with little room, and a listing with `.` and `..`.
use Rattle.std.specs.Prelude.{ℕ, ◌+◌, ◌*◌, ◌^◌, true, List, [], ◌∷◌, ◌++◌, map, codes, Some}
use Rattle.sftp_packets.specs.declared.attributes.Attrs.{Attrs}
use Rattle.sftp_packets.specs.declared.requests.Ask.{Ask}
use Rattle.sftp_packets.specs.declared.requests.Ask.TheVariants.{Unknown}
use Rattle.sftp_packets.specs.Spelling.{uint64, string, attributes}
use Rattle.sftp_packets.specs.declared.replies.Answer.{Answer}
use Rattle.sftp_packets.specs.declared.replies.Answer.TheVariants.{Name}
use Rattle.sftp_packets.specs.Spelling.{no_attributes}
use Rattle.sftp_treefile.specs.TreeFile.{usual_limits}
use Rattle.sftp_tree.specs.declared.nodes.Node.TheVariants.{Dir, Link, File as a_file}
use Rattle.sftp_tree.specs.Attributes.{said}
use Rattle.sftp_tree.specs.Picture.{blank}
use Rattle.sftp_tree.specs.Tree.{Tree}
use Rattle.sftp_tree.specs.WalkExamples.{tree_of, empty_file}
use Rattle.sftp_handles.specs.State.{State}
use Rattle.sftp_handles.specs.Examples.{closed, item, with_three, with_text, with_owned}
use Rattle.sftp_handles.specs.State.{kept_flags}
use Rattle.sftp_handles.specs.declared.opens.Open.TheVariants.{File, Listing}
use Rattle.sftp_tree.specs.Attributes.{listing}
use Rattle.sftp_profile.specs.declared.profiles.NewOwner.TheVariants.{Given, Group, Posix}
use Rattle.sftp_profile.specs.declared.profiles.Profile.{Profile}
use Rattle.sftp_profile.specs.Profiles.{strict}

-- ---- profiles

abbrev pub any_code : Profile
any_code = record strict { codes = true }

abbrev pub loose_paths : Profile
loose_paths = record strict { slash = true }

abbrev pub empty_setstats : Profile
empty_setstats = record strict { empty_setstat = true }

abbrev pub free_sizes : Profile
free_sizes = record strict { dir_size = true; dots = true }

abbrev pub beyond : Profile
beyond = record strict { limits = true; extensions = true }

abbrev pub any_flags : Profile
any_flags = record strict { flags = true }

abbrev pub linked_links : Profile
linked_links = record strict { hardlink_link = true }

abbrev pub wide_reads : Profile
wide_reads = record strict { read = true }

abbrev pub free_bits : Profile
free_bits = record strict { set_id = true }

abbrev pub free_links : Profile
free_links = record strict { link_attrs = true }

abbrev pub free_types : Profile
free_types = record strict { special = true }

abbrev pub texts_of_paths : Profile
texts_of_paths = record strict { realpath = true }

abbrev pub owned_by_user : Profile
owned_by_user = record strict { made = true; umask = 0o022 }

abbrev pub owned_as_given : Profile
owned_as_given = record owned_by_user { new_owner = Given }

abbrev pub owned_by_group : Profile
owned_by_group = record owned_by_user { new_owner = Group }

abbrev pub owned_by_bit : Profile
owned_by_bit = record owned_by_user { new_owner = Posix }

abbrev pub kept_owners : Profile
kept_owners = record strict { keep_owner = true }

abbrev pub denied_requests : Profile
denied_requests = record strict { denied = true }

abbrev pub full_disks : Profile
full_disks = record strict { full = true }

abbrev pub set_links : Profile
set_links = record strict { lsetstat = true }

abbrev pub copied_files : Profile
copied_files = record strict { copy_data = true }

abbrev pub empty_link_sets : Profile
empty_link_sets = record strict { empty_setstat = true; lsetstat = true }

abbrev pub known_fields : Profile
known_fields = record strict { extensions = true; lsetstat = true; copy_data = true }

-- ---- extensions

abbrev pub lsetstat : List ℕ → Attrs → Ask
lsetstat path attrs = Unknown (codes "lsetstat@openssh.com") (string path ++ attributes attrs)

abbrev pub copy_data : List ℕ → ℕ → ℕ → List ℕ → ℕ → Ask
copy_data from offset len to at =
    Unknown (codes "copy-data") (string from ++ (uint64 offset ++ (uint64 len ++ (string to ++ uint64 at))))

-- ---- trees

-- of user 1 and group 2, with the directory `/d` of user 5 and group 9, and the link `/l` to `d/f`, where nothing is
abbrev pub with_other_group : Tree
with_other_group =
    record (tree_of ((codes "d" ∷ [], Dir (record { uid = 5; gid = 9; permissions = 0o755 }))
    ∷ (codes "l" ∷ [], Link (codes "d/f")) ∷ [])) { uid = 1; gid = 2 }

-- the same, with the set-gid bit of `/d`
abbrev pub with_set_group : Tree
with_set_group =
    record (tree_of ((codes "d" ∷ [], Dir (record { uid = 5; gid = 9; permissions = 0o2755 }))
    ∷ (codes "l" ∷ [], Link (codes "d/f")) ∷ [])) { uid = 1; gid = 2 }

-- ---- attributes and names

-- an owner, and nothing else
abbrev pub owned_by : ℕ → ℕ → Attrs
owned_by user group = record no_attributes { owner = Some (user, group) }

-- those of a directory made without any, and of a file made for user 7 and group 8 with 0o777, without 0o022
abbrev pub permitted_directory : Attrs
permitted_directory = record no_attributes { permissions = Some 0o755 }

abbrev pub given_file : Attrs
given_file = record no_attributes { owner = Some (7, 8); permissions = Some 0o777 }

abbrev pub permitted_file : Attrs
permitted_file = record no_attributes { permissions = Some 0o755 }

-- the same of this user and group
abbrev pub permitted_to : ℕ → ℕ → Attrs
permitted_to user group = record permitted_file { owner = Some (user, group) }

-- the same of a directory with the set-gid bit, made with 0o755
abbrev pub set_group_directory : ℕ → ℕ → Attrs
set_group_directory user group = record no_attributes { owner = Some (user, group); permissions = Some 0o2755 }

-- a directory of 4,096 bytes, as servers with a real file system show it
abbrev pub large_directory : Attrs
large_directory = said 4096 0 0 0o040755

-- these directories, each of 4,096 bytes
abbrev pub large_directories : List (List ℕ) → Answer
large_directories names = Name (map (item large_directory) names)

-- the directory `/d` with the directories `/d/a`, `/d/b` and `/d/c`, open under the handle `h`
abbrev pub listed_three : State
listed_three = record {
  tree = with_three;
  handles = (codes "h", Listing (listing with_three (codes "d" ∷ []))) ∷ [];
}

-- the file `/f` with these bytes, and the root open under the handle `h`
abbrev pub listed_file : List ℕ → State
listed_file bytes = record {
  tree = with_text bytes;
  handles = (codes "h", Listing (listing (with_text bytes) [])) ∷ [];
}

-- the same, with the listing of the root at its end
abbrev pub listed_to_end : List ℕ → State
listed_to_end bytes = record (listed_file bytes) { handles = (codes "h", Listing []) ∷ [] }

-- the file `/f`, open under the handle `h` to be read
abbrev pub open_to_read : List ℕ → State
open_to_read bytes = record {
  tree = record (with_text bytes) { pins = (0, 1) ∷ [] };
  handles = (codes "h", File 0 (kept_flags 1)) ∷ [];
}

-- the same, open to be read and to be written
abbrev pub open_for_both : List ℕ → State
open_for_both bytes = record {
  tree = record (with_text bytes) { pins = (0, 1) ∷ [] };
  handles = (codes "h", File 0 (kept_flags 3)) ∷ [];
}

-- the files `/f` and `/g` with these bytes, `/f` open under the handle `h` to be read, and `/g` under `i` to be written
abbrev pub open_two : List ℕ → List ℕ → State
open_two read written = record {
  tree = record (tree_of ((codes "f" ∷ [], a_file 0) ∷ (codes "g" ∷ [], a_file 1) ∷ [])) {
    files = (0, record empty_file { bytes = read }) ∷ (1, record empty_file { bytes = written }) ∷ [];
    made = 2;
    pins = (0, 1) ∷ (1, 1) ∷ [];
  };
  handles = (codes "h", File 0 (kept_flags 1)) ∷ (codes "i", File 1 (kept_flags 2)) ∷ [];
}

-- the file `/f` with `abc`, of user 5 and group 9, open under the handle `h` to be written
abbrev pub open_of_another : State
open_of_another = record {
  tree = record (with_owned 5 9 (codes "abc")) { pins = (0, 1) ∷ [] };
  handles = (codes "h", File 0 (kept_flags 2)) ∷ [];
}

-- the file `/f` with `abc`, open under the handle `h` to be written, in a tree whose files have four bytes at most
abbrev pub with_room_for_one : State
with_room_for_one = record {
  tree = record (with_text (codes "abc")) { pins = (0, 1) ∷ []; limits = record usual_limits { file_bytes = 4 } };
  handles = (codes "h", File 0 (kept_flags 2)) ∷ [];
}

-- the blank tree without room for an entry
abbrev pub with_no_room : State
with_no_room = closed (record blank { limits = record usual_limits { entries = 0 } })

-- a link to `d/e` of user 7 and group 8, with permissions of its own
abbrev pub owned_link : Attrs
owned_link = said 3 7 8 0o120700

-- no bytes of user 0 and group 0, of this type and with these permissions
abbrev pub of_type : ℕ → ℕ → Attrs
of_type type permissions = said 0 0 0 (type * 2 ^ 12 + permissions)

-- a directory whose files get its group
abbrev pub set_group : Attrs
set_group = said 0 0 0 0o042755

-- a text as the only name
abbrev pub one_text : List ℕ → Answer
one_text text = Name (item no_attributes text ∷ [])
