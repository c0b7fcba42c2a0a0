-- What the worked examples of requests name: small trees whose home is the root, and the attributes shown of their
-- entries.
use Rattle.std.specs.Prelude.{ℕ, List, [], ◌∷◌, Some, codes}
use Rattle.sftp_packets.specs.declared.attributes.Attrs.{Attrs}
use Rattle.sftp_packets.specs.Spelling.{no_attributes}
use Rattle.sftp_path.specs.Place.{Name, Place}
use Rattle.sftp_path.specs.Table.{Table}
use Rattle.sftp_tree.specs.declared.file_contents.Content.{Content}
use Rattle.sftp_tree.specs.declared.nodes.Node.{Node}
use Rattle.sftp_tree.specs.declared.nodes.Node.TheVariants.{Dir, File, Link}
use Rattle.sftp_tree.specs.Tree.{Tree}
use Rattle.sftp_tree.specs.WalkExamples.{directory, tree_of, holding, empty_file}

-- the root, with one entry below it
abbrev pub tree_with : Place → Node → Tree
tree_with place node = tree_of ((place, node) ∷ [])

-- ---- a link and a directory

-- the link `/l` to `x y`
abbrev pub linked : Tree
linked = tree_with (codes "l" ∷ []) (Link (codes "x y"))

-- the directory `/d` of another owner, who alone may use it
abbrev pub with_directory : Tree
with_directory = tree_with (codes "d" ∷ []) (Dir (record { uid = 1000; gid = 100; permissions = 0o700 }))

-- attributes that ask for that, with the type bits of a file
abbrev pub private_attributes : Attrs
private_attributes = record no_attributes { owner = Some (1000, 100); permissions = Some 0o100700 }

-- the attributes shown of the link, and of the directory
abbrev pub shown_link : Attrs
shown_link = record no_attributes { size = Some 3; owner = Some (0, 0); permissions = Some 0o120777 }

abbrev pub shown_directory : Attrs
shown_directory = record no_attributes { size = Some 0; owner = Some (1000, 100); permissions = Some 0o040700 }

-- ---- a file

-- the file of another owner with the text `hello`
abbrev pub hello : Content
hello = record { owner = record { uid = 1000; gid = 100; permissions = 0o644 }; bytes = codes "hello" }

-- `/f` is its name
abbrev pub with_file : Tree
with_file = holding ((codes "f" ∷ [], File 0) ∷ []) hello

-- another text in it
abbrev pub with_text : List ℕ → Tree
with_text bytes = holding ((codes "f" ∷ [], File 0) ∷ []) (record hello { bytes = bytes })

-- `/f` and `/g` are its names
abbrev pub with_two_names : Tree
with_two_names = holding ((codes "f" ∷ [], File 0) ∷ (codes "g" ∷ [], File 0) ∷ []) hello

-- the file does not exist any more, and its number is not given again
abbrev pub without_file : Tree
without_file = record (tree_of []) { made = 1 }

-- the attributes shown of it
abbrev pub shown_file : Attrs
shown_file = record no_attributes { size = Some 5; owner = Some (1000, 100); permissions = Some 0o100644 }

-- attributes that ask for permissions, with the type bits of a file
abbrev pub open_attributes : Attrs
open_attributes = record no_attributes { permissions = Some 0o100777 }

-- the file with those permissions
abbrev pub with_open_file : Tree
with_open_file =
    holding ((codes "f" ∷ [], File 0) ∷ [])
    (record hello { owner = record { uid = 1000; gid = 100; permissions = 0o777 } })

-- attributes that ask for a size
abbrev pub size_attributes : ℕ → Attrs
size_attributes size = record no_attributes { size = Some size }

-- attributes that ask for a size and an owner
abbrev pub sized_attributes : Attrs
sized_attributes = record no_attributes { size = Some 0; owner = Some (1000, 100) }

-- `/g` is the name of another file, which is empty
abbrev pub with_two_files : Tree
with_two_files =
    record (tree_of ((codes "f" ∷ [], File 0) ∷ (codes "g" ∷ [], File 1) ∷ []))
    { files = (0, hello) ∷ (1, empty_file) ∷ []; made = 2 }

-- `/g` is the name of the first, and the other does not exist any more
abbrev pub with_moved_file : Tree
with_moved_file = record (holding ((codes "g" ∷ [], File 0) ∷ []) hello) { made = 2 }

-- ---- files that are opened

-- attributes that ask for a size, an owner and permissions, with the type bits of a directory
abbrev pub given_attributes : Attrs
given_attributes = record no_attributes { size = Some 5; owner = Some (1000, 100); permissions = Some 0o040600 }

-- a file of that owner, who alone may read and write it
abbrev pub given_file : Content
given_file = record { owner = record { uid = 1000; gid = 100; permissions = 0o600 }; bytes = [] }

-- `/g` is the name of a new file, which has the number 1
abbrev pub with_new_file : Tree
with_new_file =
    record (tree_of ((codes "f" ∷ [], File 0) ∷ (codes "g" ∷ [], File 1) ∷ []))
    { files = (0, hello) ∷ (1, given_file) ∷ []; made = 2 }

-- the link `/l` to `x y`, which is the name of a new file
abbrev pub with_linked_file : Tree
with_linked_file = holding ((codes "l" ∷ [], Link (codes "x y")) ∷ (codes "x y" ∷ [], File 0) ∷ []) empty_file

-- nothing, where all numbers of files but one are given, and where all are
abbrev pub with_a_number : Tree
with_a_number = record (tree_of []) { made = 0xfffffffe }

abbrev pub with_no_number : Tree
with_no_number = record (tree_of []) { made = 0xffffffff }

-- ---- directories below one another, and a file

-- the directories `/d` and `/d/e`, the file `/d/e/f`, and the directory `/t`
abbrev pub before_move : Tree
before_move =
    holding
    ((codes "d" ∷ [], directory) ∷ (codes "d" ∷ codes "e" ∷ [], directory)
    ∷ (codes "d" ∷ codes "e" ∷ codes "f" ∷ [], File 0) ∷ (codes "t" ∷ [], directory) ∷ [])
    hello

-- `/x` with all below it in place of `/d`
abbrev pub after_move : Tree
after_move =
    holding
    ((codes "t" ∷ [], directory) ∷ (codes "x" ∷ [], directory)
    ∷ (codes "x" ∷ codes "e" ∷ [], directory) ∷ (codes "x" ∷ codes "e" ∷ codes "f" ∷ [], File 0) ∷ [])
    hello

-- the file `/f`, and the directories `/x` and `/x/e`
abbrev pub with_directories : Tree
with_directories =
    holding
    ((codes "f" ∷ [], File 0) ∷ (codes "x" ∷ [], directory) ∷ (codes "x" ∷ codes "e" ∷ [], directory) ∷ [])
    hello

-- ---- listings

-- the directory `/d` with the file `/d/f`, the directory `/d/g`, which has an entry, and the link `/d/l` to it
abbrev pub with_listing : Tree
with_listing =
    holding
    ((codes "d" ∷ [], directory) ∷ (codes "d" ∷ codes "f" ∷ [], File 0) ∷ (codes "d" ∷ codes "g" ∷ [], directory)
    ∷ (codes "d" ∷ codes "g" ∷ codes "e" ∷ [], directory) ∷ (codes "d" ∷ codes "l" ∷ [], Link (codes "g")) ∷ [])
    hello

-- the attributes shown of the directory `/d/g`, and of the link `/d/l`
abbrev pub shown_plain_directory : Attrs
shown_plain_directory = record no_attributes { size = Some 0; owner = Some (0, 0); permissions = Some 0o040755 }

abbrev pub shown_short_link : Attrs
shown_short_link = record no_attributes { size = Some 1; owner = Some (0, 0); permissions = Some 0o120777 }

-- what is in `/d`
abbrev pub listed_names : Table Name Attrs
listed_names = (codes "f", shown_file) ∷ (codes "g", shown_plain_directory) ∷ (codes "l", shown_short_link) ∷ []

-- ==== What the worked examples of open files name.

-- the file `/f` with the text `hello`, which is pinned so often
abbrev pub pinned : ℕ → Tree
pinned often = record with_file { pins = (0, often) ∷ [] }

-- the file without its name
abbrev pub unnamed : ℕ → Tree
unnamed often = record without_file { files = (0, hello) ∷ []; pins = (0, often) ∷ [] }
