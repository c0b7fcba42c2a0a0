-- The tree of a tree file is one.
use Rattle.sftp_tree.proofs.Imports.{◌≡◌, ℕ, List, [], length, sym, ap, subst, ◌∙◌, arith, Place, place_cmp, InOrder}
use Rattle.sftp_tree.proofs.Imports.{Row, TreeFile, most_limits, place_of, AreRows, Names, IsKept, is_directory}
use Rattle.sftp_tree.proofs.Imports.{node_at, seen, AreCounted, Stores, IsGrown, names_of, tree_of, rows_wider}
use Rattle.sftp_tree.proofs.TreeFiles.Files.{kept_of_file}
use Rattle.sftp_tree.proofs.TreeFiles.Numbers.{made_few, length-entries}
use Rattle.sftp_tree.proofs.TreeFiles.Stores.{many_files, tree_grown}
use Rattle.sftp_treefile.specs.TreeFile.{contents_length}
use Rattle.sftp_tree.proofs.pictures.reading.tree_of.Goals as goal
use Rattle.sftp_tree.proofs.pictures.reading.tree_of.Goals.{After-len-made}

pub grow-requires-clause-rows : goal.grow-requires-clause-rows
grow-requires-clause-rows c =
    subst (AreRows most_limits []) (sym c.into_vec-rows.ensures)
    (rows_wider c.args.file.limits most_limits c.requires.limits.file_bytes.1 [] c.args.file.rows c.requires.rows)

pub grow-requires-clause-count : goal.grow-requires-clause-count
grow-requires-clause-count c =
    omega (arith, ap length c.into_vec-rows.ensures, c.requires.count, c.requires.limits.entries.1)

pub grow-requires-clause-total : goal.grow-requires-clause-total
grow-requires-clause-total c =
    omega (arith, ap contents_length c.into_vec-rows.ensures, c.requires.total, c.requires.limits.total_bytes.1)

pub overflow_cast-made : goal.overflow_cast-made
overflow_cast-made c =
    let rows = c.into_vec-rows.result.items in
    let g = c.in_ok-root.field-0 in
    omega (arith, c.len-made.ensures, many_files c.args.file.root rows g.root g.files c.in_ok-root.ensures, made_few rows, ap length c.into_vec-rows.ensures, c.requires.count, c.requires.limits.entries.1)

names-are : (c : After-len-made) → c.in_ok-root.field-0.root ≡ names_of c.args.file.root c.args.file.rows
names-are c = c.in_ok-root.ensures.names_are ∙ ap (names_of c.args.file.root) c.into_vec-rows.ensures

pub of-requires-clause-ordered : goal.of-requires-clause-ordered
of-requires-clause-ordered c = subst (λ (ns : Names). InOrder place_cmp ns) (sym (names-are c))
    (kept_of_file c.args.file c.requires).well_formed.ordered

pub of-requires-clause-directory : goal.of-requires-clause-directory
of-requires-clause-directory c = ap (λ (ns : Names). is_directory (node_at ns [])) (names-are c)
    ∙ (kept_of_file c.args.file c.requires).well_formed.root

pub of-requires-clause-count : goal.of-requires-clause-count
of-requires-clause-count c =
    let rows = c.into_vec-rows.result.items in
    omega (arith, c.len-len.ensures, ap length c.in_ok-root.ensures.names_are, length-entries [] rows)

-- the tree of the entries, whose root is the one that was read
same : (file : TreeFile) (rows : List Row) (names root : Names) (files : Stores) (made : ℕ) (home : Place)
    → names ≡ root → rows ≡ file.rows → IsGrown file.root rows root files → made ≡ length files
    → home ≡ place_of file.home → seen names files made file.limits home file.uid file.gid ≡ tree_of file
same file rows names root files made home are rows-are grown made-is home-is =
    ap (λ ns. seen ns files made file.limits home file.uid file.gid) are
    ∙ tree_grown file rows root files made home rows-are grown made-is home-is

pub from_parts-requires-clause-kept : goal.from_parts-requires-clause-kept
from_parts-requires-clause-kept c =
    let g = c.in_ok-root.field-0 in
    subst IsKept (sym
    (same c.args.file c.into_vec-rows.result.items c.of.result g.root g.files c.len-made.result c.in_ok-home.home
    c.of.ensures c.into_vec-rows.ensures c.in_ok-root.ensures c.len-made.ensures
    (c.in_ok-home.ensures ∙ ap place_of c.as_slice.ensures))) (kept_of_file c.args.file c.requires)

pub from_parts-requires-clause-counted : goal.from_parts-requires-clause-counted
from_parts-requires-clause-counted c =
    subst (λ ns. AreCounted ns c.in_ok-root.field-0.files) (sym c.of.ensures) c.in_ok-root.ensures.counted

pub returns : goal.returns
returns c =
    let g = c.in_ok-root.field-0 in
    c.from_parts.ensures
    ∙ same c.args.file c.into_vec-rows.result.items c.of.result g.root g.files c.len-made.result c.in_ok-home.home
    c.of.ensures c.into_vec-rows.ensures c.in_ok-root.ensures c.len-made.ensures
    (c.in_ok-home.ensures ∙ ap place_of c.as_slice.ensures)
