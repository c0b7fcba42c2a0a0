-- The tree files of the worked examples.
use Rattle.std.specs.Prelude.{ℕ, List, [], ◌∷◌, ◌++◌, codes}
use Rattle.sftp_strings.specs.Hexadecimal.{hex}
use Rattle.sftp_treefile.specs.declared.files.Kind.TheVariants.{Dir, First, Further, Link}
use Rattle.sftp_treefile.specs.declared.files.TreeFile.{TreeFile}
use Rattle.sftp_treefile.specs.TreeFile.{usual_limits, highest_limits, most_limits, no_times}

-- the root alone, which is the home
abbrev pub blank : TreeFile
blank = record {
  limits = usual_limits;
  home = codes "/";
  uid = 0;
  gid = 0;
  root = record { uid = 0; gid = 0; permissions = 0o755 };
  rows = [];
  times = [];
}

abbrev pub blank_bytes : List ℕ
blank_bytes = hex (codes "5346545245453031 00000001 2f 00000000 00000000 00000000 00000000 00000000 000001ed")

-- the blank tree with the highest limits
abbrev pub raised : TreeFile
raised = record blank { limits = highest_limits }

abbrev pub raised_bytes : List ℕ
raised_bytes =
    hex (codes "5346545245453032 00000001 2f 00000000 00000000 00100000 04000000 00010000 00000400 "
    ++ codes "00000000 00000000 00000000 000001ed")

-- what would be the blank tree, with the usual limits
abbrev pub usual_bytes : List ℕ
usual_bytes =
    hex (codes "5346545245453032 00000001 2f 00000000 00000000 00010000 01000000 00008000 00000100 "
    ++ codes "00000000 00000000 00000000 000001ed")

-- `/d`, which is the home, `/d/e` and a link to it, `/l`; no two numbers are the same
abbrev pub linked : TreeFile
linked = record {
  limits = usual_limits;
  home = codes "/d";
  uid = 1000;
  gid = 100;
  root = record { uid = 1; gid = 2; permissions = 0o1755 };
  rows = record { path = codes "/d"; kind = Dir (record { uid = 3; gid = 4; permissions = 0o700 }) }
      ∷ record { path = codes "/d/e"; kind = Dir (record { uid = 5; gid = 6; permissions = 0o7777 }) }
      ∷ record { path = codes "/l"; kind = Link (codes "d/e") } ∷ [];
  times = [];
}

abbrev pub linked_bytes : List ℕ
linked_bytes = hex (codes "5346545245453031 00000002 2f64 000003e8 00000064 00000003 00000001 00000002 000003ed 00000002 2f64 44 00000003 00000004 000001c0 00000004 2f642f65 44 00000005 00000006 00000fff 00000002 2f6c 4c 00000003 642f65")

-- the blank tree with a file `/f` of `abc`, and its second name `/g`
abbrev pub two_names : TreeFile
two_names = record {
  limits = usual_limits;
  home = codes "/";
  uid = 0;
  gid = 0;
  root = record { uid = 0; gid = 0; permissions = 0o755 };
  rows = record { path = codes "/f"; kind = First (record { uid = 0; gid = 0; permissions = 0o644 }) (codes "abc") }
      ∷ record { path = codes "/g"; kind = Further 1 } ∷ [];
  times = [];
}

abbrev pub two_names_bytes : List ℕ
two_names_bytes = hex (codes "5346545245453031 00000001 2f 00000000 00000000 00000002 00000000 00000000 000001ed 00000002 2f66 46 00000000 00000000 000001a4 00000003 616263 00000002 2f67 48 00000001")

-- ==== With the third opening.

-- the blank tree with the most of each limit
abbrev pub most : TreeFile
most = record blank { limits = most_limits }

abbrev pub most_bytes : List ℕ
most_bytes =
    hex (codes "5346545245453033 00000001 2f 00000000 00000000 fffffffd 0000010000000000 0003fc00 00010000 "
    ++ codes "0400000000000000 00000000 44 00000000 00000000 000001ed")

-- the same file as `two_names`, read in second 2 and changed in second 3, and the root was changed in second 1
abbrev pub timed : TreeFile
timed = record two_names {
  times = record { accessed = 0; modified = 1 } ∷ record { accessed = 2; modified = 3 } ∷ no_times ∷ [];
}

abbrev pub timed_bytes : List ℕ
timed_bytes =
    hex (codes "5346545245453033 00000001 2f 00000000 00000000 00010000 0000000001000000 00008000 00000100 "
    ++ codes "0400000000000000 00000002 64 00000000 00000000 000001ed 00000000 00000001 "
    ++ codes "00000002 2f66 66 00000000 00000000 000001a4 00000002 00000003 00000003 616263 00000002 2f67 48 00000001")

-- what would be the blank tree with the usual limits
abbrev pub lower_bytes : List ℕ
lower_bytes =
    hex (codes "5346545245453033 00000001 2f 00000000 00000000 00010000 0000000001000000 00008000 00000100 "
    ++ codes "0400000000000000 00000000 44 00000000 00000000 000001ed")
