-- What the worked examples name: states, requests through handles, and their answers.
use Rattle.std.specs.Prelude.{ℕ, List, [], ◌∷◌, map, codes, Some, Bool}
use Rattle.sftp_packets.specs.declared.attributes.Attrs.{Attrs}
use Rattle.sftp_packets.specs.declared.names.NameItem.{NameItem}
use Rattle.sftp_packets.specs.declared.requests.Ask.{Ask}
use Rattle.sftp_packets.specs.declared.requests.Ask.TheVariants.{Open, Opendir, Readdir}
use Rattle.sftp_packets.specs.declared.replies.Answer.{Answer}
use Rattle.sftp_packets.specs.declared.replies.Answer.TheVariants.{Status, Handle, Name}
use Rattle.sftp_packets.specs.Spelling.{no_attributes}
use Rattle.sftp_tree.specs.declared.nodes.Node.TheVariants.{File}
use Rattle.sftp_tree.specs.Tree.{Tree}
use Rattle.sftp_tree.specs.Attributes.{said}
use Rattle.sftp_tree.specs.Picture.{blank}
use Rattle.sftp_tree.specs.WalkExamples.{directory, tree_of, holding, empty_file}
use Rattle.sftp_handles.specs.declared.opens.Open.TheVariants.{File as open_file, File, Listing}
use Rattle.sftp_handles.specs.State.{kept_flags}
use Rattle.sftp_handles.specs.State.{State, settled}
use Rattle.sftp_packets.specs.declared.requests.Ask.TheVariants as asks
use Rattle.sftp_tree.specs.RequestExamples.{with_two_files}
use Rattle.sftp_handles.specs.Clash.{clash}

-- ---- states

-- nothing is open
abbrev pub closed : Tree → State
closed t = record { tree = t; handles = [] }

-- the blank tree after `made` files were made
abbrev pub emptied : ℕ → Tree
emptied made = record blank { made = made }

-- the file `/f` with this text
abbrev pub with_text : List ℕ → Tree
with_text bytes = holding ((codes "f" ∷ [], File 0) ∷ []) (record empty_file { bytes = bytes })

-- the file `/f` with this text, of this user and group, with the permissions 0o600
abbrev pub with_owned : ℕ → ℕ → List ℕ → Tree
with_owned user group bytes =
    holding ((codes "f" ∷ [], File 0) ∷ [])
    (record { owner = record { uid = user; gid = group; permissions = 0o600 }; bytes = bytes })

-- the directory `/d` with the directories `/d/a`, `/d/b` and `/d/c`
abbrev pub with_three : Tree
with_three =
    tree_of ((codes "d" ∷ [], directory) ∷ (codes "d" ∷ codes "a" ∷ [], directory)
    ∷ (codes "d" ∷ codes "b" ∷ [], directory) ∷ (codes "d" ∷ codes "c" ∷ [], directory) ∷ [])

-- the directory `/d`, which is empty
abbrev pub with_none : Tree
with_none = tree_of ((codes "d" ∷ [], directory) ∷ [])

-- the directory `/d` with the file `/d/f`, which has this text
abbrev pub with_file_below : List ℕ → Tree
with_file_below bytes =
    holding ((codes "d" ∷ [], directory) ∷ (codes "d" ∷ codes "f" ∷ [], File 0) ∷ [])
    (record empty_file { bytes = bytes })

-- the file 0 of this tree is open for reading under `h`
abbrev pub reading : Tree → State
reading t = record {
  tree = record t { pins = (0, 1) ∷ [] };
  handles = (codes "h", open_file 0 (kept_flags 1)) ∷ [];
}

-- ---- requests and their answers

-- a file is opened with these flags, and gets this handle
abbrev pub opened : List ℕ → ℕ → List ℕ → Ask × Answer
opened path flags handle = (Open path flags no_attributes, Handle handle)

-- a directory is opened, and gets this handle
abbrev pub opened_directory : List ℕ → List ℕ → Ask × Answer
opened_directory path handle = (Opendir path, Handle handle)

-- a size, and an owner with the permissions 0o600, as FSETSTAT sets them
abbrev pub sized : ℕ → Attrs
sized size = record no_attributes { size = Some size }

abbrev pub owned : ℕ → ℕ → Attrs
owned user group = record no_attributes { owner = Some (user, group); permissions = Some 0o600 }

-- a status with this code
abbrev pub code : ℕ → Answer
code n = Status n [] []

-- what is done
abbrev pub done : Ask → Ask × Answer
done ask = (ask, code 0)

-- a name with these attributes
abbrev pub item : Attrs → List ℕ → NameItem
item attrs name = record { filename = name; longname = []; attrs = attrs }

-- the attributes of a directory, and of a file of `size` bytes
abbrev pub of_directory : Attrs
of_directory = said 0 0 0 0o040755

abbrev pub of_file : ℕ → Attrs
of_file size = said size 0 0 0o100644

-- more names are asked for, and these directories given
abbrev pub more : List ℕ → List (List ℕ) → Ask × Answer
more handle names = (Readdir handle, Name (map (item of_directory) names))

-- more names are asked for, and there are none
abbrev pub no_more : List ℕ → Ask × Answer
no_more handle = (Readdir handle, code 1)

-- ==== What the worked examples of requests that conflict name: a state, and requests through its handles.

-- The file 0 is open for reading under `a`, and for reading and writing under `b`, and the file 1 for reading under
-- `c`. Two listings, of which nothing is left, are open under `l` and `m`.
abbrev pub with_handles : State
with_handles =
    settled with_two_files ((codes "a", File 0 (kept_flags 1)) ∷ (codes "b", File 0 (kept_flags 3))
    ∷ (codes "c", File 1 (kept_flags 1)) ∷ (codes "l", Listing []) ∷ (codes "m", Listing []) ∷ [])

abbrev pub read : List ℕ → Ask
read handle = asks.Read handle 0 10

abbrev pub write : List ℕ → Ask
write handle = asks.Write handle 0 (codes "x")

abbrev pub set : List ℕ → Ask
set handle = asks.Fsetstat handle no_attributes

abbrev pub make : List ℕ → Ask
make path = asks.Mkdir path no_attributes

-- whether these two conflict in that state
abbrev pub clash_there : Ask → Ask → Bool
clash_there first second = clash with_handles (record { id = 1; ask = first }) (record { id = 2; ask = second })

-- the same handles, on a tree whose files have at most 16 MiB together
abbrev pub bounded : State
bounded = record with_handles {
  tree = record with_handles.tree { limits = record with_handles.tree.limits { total_bytes = 16777216 } };
}

-- whether these two conflict there
abbrev pub clash_bounded : Ask → Ask → Bool
clash_bounded first second = clash bounded (record { id = 1; ask = first }) (record { id = 2; ask = second })
