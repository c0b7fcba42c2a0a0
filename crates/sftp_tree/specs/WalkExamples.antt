-- What the worked examples of walks name: trees with links, and with a file.
use Rattle.std.specs.Prelude.{ℕ, zero, suc, ◌+◌, List, [], ◌∷◌, ◌++◌, replicate, codes}
use Rattle.sftp_treefile.specs.TreeFile.{usual_limits}
use Rattle.sftp_tree.specs.declared.file_contents.Content.{Content}
use Rattle.sftp_tree.specs.declared.nodes.Node.{Node}
use Rattle.sftp_tree.specs.declared.nodes.Node.TheVariants.{Dir, File, Link}
use Rattle.sftp_tree.specs.Tree.{Names, Tree}

-- a directory of user 0 and group 0 that its owner may write
abbrev pub directory : Node
directory = Dir (record { uid = 0; gid = 0; permissions = 0o755 })

-- the tree with a root and these entries below it, whose home is the root
abbrev pub tree_of : Names → Tree
tree_of names = record {
  names = ([], directory) ∷ names;
  files = [];
  made = 0;
  pins = [];
  limits = usual_limits;
  home = [];
  uid = 0;
  gid = 0;
}

-- the same with a file, which has the number 0
abbrev pub holding : Names → Content → Tree
holding names content = record (tree_of names) { files = (0, content) ∷ []; made = 1 }

-- an empty file of user 0 and group 0 that its owner may write
abbrev pub empty_file : Content
empty_file = record { owner = record { uid = 0; gid = 0; permissions = 0o644 }; bytes = [] }

-- nothing but the file `/f`
abbrev pub with_file : Tree
with_file = holding ((codes "f" ∷ [], File 0) ∷ []) empty_file

-- the directory `/d/e`, and the link `/l` to it
abbrev pub with_link : Tree
with_link =
    tree_of ((codes "d" ∷ [], directory) ∷ (codes "d" ∷ codes "e" ∷ [], directory)
    ∷ (codes "l" ∷ [], Link (codes "d/e")) ∷ [])

-- nothing but a link `/l` with this target
abbrev pub with_target : List ℕ → Tree
with_target target = tree_of ((codes "l" ∷ [], Link target) ∷ [])

-- the home `/home/u`, with the directory `x` in it
abbrev pub with_home : Tree
with_home =
    record (tree_of ((codes "home" ∷ [], directory) ∷ (codes "home" ∷ codes "u" ∷ [], directory)
    ∷ (codes "home" ∷ codes "u" ∷ codes "x" ∷ [], directory) ∷ []))
    { home = codes "home" ∷ codes "u" ∷ [] }

-- the home `/h` is a link to the directory `/d`
abbrev pub with_linked_home : Tree
with_linked_home =
    record (tree_of ((codes "d" ∷ [], directory) ∷ (codes "h" ∷ [], Link (codes "d")) ∷ []))
    { home = codes "h" ∷ [] }

-- the link `/a` to `b/x`, and the link `/b` to the directory `/c`, which has the directory `x`
abbrev pub with_two_links : Tree
with_two_links =
    tree_of ((codes "a" ∷ [], Link (codes "b/x")) ∷ (codes "b" ∷ [], Link (codes "c"))
    ∷ (codes "c" ∷ [], directory) ∷ (codes "c" ∷ codes "x" ∷ [], directory) ∷ [])

-- the links `/d/r` to `e`, and `/d/s` to `/e`
abbrev pub with_both_targets : Tree
with_both_targets =
    tree_of ((codes "d" ∷ [], directory) ∷ (codes "d" ∷ codes "r" ∷ [], Link (codes "e"))
    ∷ (codes "d" ∷ codes "s" ∷ [], Link (codes "/e")) ∷ [])

-- as many times the letter `a`
abbrev pub letters : ℕ → List ℕ
letters n = replicate n 97

-- `last` at `/a`, and the given number of links, each to what has a letter less: `/aa` to `a`, `/aaa` to `aa`
unfoldable pub chain : Node → ℕ → Names
chain last zero = (letters 1 ∷ [], last) ∷ []
chain last (suc n) = chain last n ++ (letters (suc (suc n)) ∷ [], Link (letters (suc n))) ∷ []

-- the chain ends at a directory
abbrev pub with_chain : ℕ → Tree
with_chain n = tree_of (chain directory n)

-- it ends at a file
abbrev pub with_chained_file : ℕ → Tree
with_chained_file n = holding (chain (File 0) n) empty_file

-- the path of the last of `n` links
abbrev pub chained : ℕ → List ℕ
chained n = 47 ∷ letters (n + 1)
