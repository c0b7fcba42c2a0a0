use Rattle.sftp_tree.proofs.Imports.{◌≡◌, ℕ, IsTrue, sym, ap, refl, subst, ◌∙◌, arith, are_bytes, Table, Stored, Tree}
use Rattle.sftp_tree.proofs.Imports.{IsKept, seen, AreCounted, written_content, with_written_file, after_write}
use Rattle.sftp_tree.proofs.Requests.{bytes-are}
use Rattle.sftp_tree.proofs.KeptTrees.Counts.{content-parts}
use Rattle.sftp_tree.proofs.OpenFiles.{kept-write, write-end, written-small, total-small}
use Rattle.sftp_tree.proofs.KeptTrees.Counts.{each-some}
use Rattle.sftp_tree.proofs.Imports.{◌<◌, ◌^◌, get, nat_cmp, option_map, get-with_values, content_at}
use Rattle.sftp_tree.specs.Tree.{total_of}
use Rattle.sftp_tree.proofs.trees.Tree.write_file.Goals as goal

pub write_at-requires-clause-writable : goal.write_at-requires-clause-writable
write_at-requires-clause-writable c = λ some. omega (
  arith,
  write-end c.args.self.now c.args.number c.args.offset c.args.new.now (subst IsKept c.self.view_is c.self.invariant.0)
      c.requires some,
)

pub write_at-requires-clause-total : goal.write_at-requires-clause-total
write_at-requires-clause-total c =
    subst (λ (t : Tree). total_of t.files < 2 ^ 63) (sym c.self.view_is)
    (total-small c.args.self.now (subst IsKept c.self.view_is c.self.invariant.0))

pub write_at-requires-clause-count : goal.write_at-requires-clause-count
write_at-requires-clause-count c = each-some _ (get nat_cmp c.self.inside.files c.args.number) (λ s there.
    let found = ap (λ (t : Tree). content_at t.files c.args.number) (sym c.self.view_is)
    ∙ get-with_values nat_cmp (λ (s : Stored). s.content) c.self.inside.files c.args.number
    ∙ ap (option_map (λ (s : Stored). s.content)) there in
    written-small c.args.self.now c.args.number c.args.offset c.args.new.now s.content
    (subst IsKept c.self.view_is c.self.invariant.0) found c.requires)

-- the tree with other files
abbrev with_files : (c : goal.In_ok-write_at) → Table ℕ Stored → Tree
with_files c files =
    seen c.self.inside.names files c.self.inside.made c.self.inside.limits c.self.inside.home c.self.inside.uid
    c.self.inside.gid

-- the tree afterwards, and its counts
parts : (c : goal.In_ok-write_at)
    → (with_files c c.write_at.new.self ≡ after_write c.args.self.now c.args.number c.args.offset c.args.new.now)
    × AreCounted c.self.inside.names c.write_at.new.self
parts c =
    let t = with_files c c.self.inside.files in
    let both = content-parts c.self.inside.names c.self.inside.files c.self.inside.made c.self.inside.limits
    c.self.inside.home c.self.inside.uid c.self.inside.gid c.self.invariant.0 c.self.invariant.1
    (written_content c.args.offset c.args.new.now) c.args.number c.write_at.new.self c.in_ok-write_at.ensures.ok
    (with_written_file t c.args.offset c.args.new.now c.args.number) refl (λ content. refl) in
    (both.0 ∙ ap (λ (t : Tree). after_write t c.args.number c.args.offset c.args.new.now) c.self.view_is, both.1)

pub invariant_of-self-2 : goal.invariant_of-self-2
invariant_of-self-2 c =
    let bytes : IsTrue (are_bytes c.args.new.now) = bytes-are c.args.new.now (λ i. omega (arith, c.type_inv.new i)) in
    let before = subst IsKept c.self.view_is c.self.invariant.0 in
    let kept = kept-write c.args.self.now c.args.number c.args.offset c.args.new.now before bytes c.requires in
    (subst IsKept (sym (parts c).0) kept, (parts c).1)

pub returns-clause-ok : goal.returns-clause-ok
returns-clause-ok c = (parts c).0

pub returns-clause-valid : goal.returns-clause-valid
returns-clause-valid c = (invariant_of-self-2 c).0
