-- Trees and their tree files, worked out by hand.
use Rattle.std.specs.Prelude.{ℕ, List, [], ◌∷◌, codes}
use Rattle.sftp_strings.specs.Hexadecimal.{hex}
use Rattle.sftp_treefile.specs.declared.files.Owner.{Owner}
use Rattle.sftp_treefile.specs.TreeFile.{usual_limits}
use Rattle.sftp_tree.specs.declared.nodes.Node.TheVariants.{Dir, File, Link}
use Rattle.sftp_tree.specs.Tree.{Tree}

abbrev pub user_owner : Owner
user_owner = record { uid = 1000; gid = 100; permissions = 0o750 }

-- the home is `/d`, a directory; `/l` is a link to `d`
abbrev pub linked : Tree
linked = record {
  names = ([], Dir (record { uid = 0; gid = 5; permissions = 0o755 }))
      ∷ (codes "d" ∷ [], Dir user_owner)
      ∷ (codes "l" ∷ [], Link (codes "d")) ∷ [];
  files = [];
  made = 0;
  pins = [];
  limits = usual_limits;
  home = codes "d" ∷ [];
  uid = 1000;
  gid = 100;
}

-- its home, user and group
abbrev pub linked_front : List ℕ
linked_front =
    0x53 ∷ 0x46 ∷ 0x54 ∷ 0x52 ∷ 0x45 ∷ 0x45 ∷ 0x30 ∷ 0x31
    ∷ 0x00 ∷ 0x00 ∷ 0x00 ∷ 0x02 ∷ 0x2f ∷ 0x64
    ∷ 0x00 ∷ 0x00 ∷ 0x03 ∷ 0xe8
    ∷ 0x00 ∷ 0x00 ∷ 0x00 ∷ 0x64 ∷ []

-- how many entries, and the root's owner
abbrev pub linked_root : List ℕ
linked_root =
    0x00 ∷ 0x00 ∷ 0x00 ∷ 0x02
    ∷ 0x00 ∷ 0x00 ∷ 0x00 ∷ 0x00 ∷ 0x00 ∷ 0x00 ∷ 0x00 ∷ 0x05 ∷ 0x00 ∷ 0x00 ∷ 0x01 ∷ 0xed ∷ []

-- `/d`, `D` and its owner
abbrev pub linked_directory : List ℕ
linked_directory =
    0x00 ∷ 0x00 ∷ 0x00 ∷ 0x02 ∷ 0x2f ∷ 0x64
    ∷ 0x44 ∷ 0x00 ∷ 0x00 ∷ 0x03 ∷ 0xe8 ∷ 0x00 ∷ 0x00 ∷ 0x00 ∷ 0x64 ∷ 0x00 ∷ 0x00 ∷ 0x01 ∷ 0xe8 ∷ []

-- `/l`, `L` and its target
abbrev pub linked_link : List ℕ
linked_link = 0x00 ∷ 0x00 ∷ 0x00 ∷ 0x02 ∷ 0x2f ∷ 0x6c ∷ 0x4c ∷ 0x00 ∷ 0x00 ∷ 0x00 ∷ 0x01 ∷ 0x64 ∷ []

-- the blank tree with a file `/f` of the bytes `abc`, whose second name is `/g`
abbrev pub two_names : Tree
two_names = record {
  names = ([], Dir (record { uid = 0; gid = 0; permissions = 0o755 }))
      ∷ (codes "f" ∷ [], File 0) ∷ (codes "g" ∷ [], File 0) ∷ [];
  files = (0, record { owner = record { uid = 0; gid = 0; permissions = 0o644 }; bytes = codes "abc" }) ∷ [];
  made = 1;
  pins = [];
  limits = usual_limits;
  home = [];
  uid = 0;
  gid = 0;
}

-- the blank head with two entries; `/f`, `F`, the owner and the bytes; `/g`, `H` and the number 1
abbrev pub two_names_bytes : List ℕ
two_names_bytes = hex (codes "5346545245453031 00000001 2f 00000000 00000000 00000002 00000000 00000000 000001ed 00000002 2f66 46 00000000 00000000 000001a4 00000003 616263 00000002 2f67 48 00000001")
