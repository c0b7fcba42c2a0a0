use Rattle.sftp_tree.proofs.Imports.{◌≡◌, ◌+◌, ◌^◌, nat_lt, arith, sym, ap, subst, ◌∙◌, None, ltb-true, nat_cmp, get}
use Rattle.sftp_tree.proofs.Imports.{put, File, Tree, IsKept, node_at, with_node, seen, AreCounted, with_new_file}
use Rattle.sftp_tree.proofs.Limits.{fits-parts}
use Rattle.sftp_tree.proofs.KeptTrees.{trimmed-already}
use Rattle.sftp_tree.proofs.KeptTrees.Counts.{files-in_order}
use Rattle.sftp_tree.proofs.KeptTrees.NewFiles.{kept-new, made-parts, next-free, put-back, one-to-lose}
use Rattle.sftp_tree.proofs.OpenFiles.{total-small, made-count}
use Rattle.sftp_tree.proofs.Imports.{◌<◌}
use Rattle.sftp_tree.specs.Tree.{total_of}
use Rattle.sftp_tree.proofs.trees.Tree.make_file.Goals as goal

pub put-requires-clause-total : goal.put-requires-clause-total
put-requires-clause-total c =
    subst (λ (t : Tree). total_of t.files < 2 ^ 63) (sym c.self.view_is)
    (total-small c.args.self.now (subst IsKept c.self.view_is c.self.invariant.0))

pub put-requires-clause-count : goal.put-requires-clause-count
put-requires-clause-count c = made-count c.args.self.now c.args.place c.args.content
    (subst IsKept c.self.view_is c.self.invariant.0) c.requires.room

-- ---- there was no memory for the name

pub forget_name-requires : goal.forget_name-requires
forget_name-requires c =
    one-to-lose c.self.inside.files c.put.new.self c.new-number.result c.args.content c.in_ok-put.ensures.ok

-- the files are as before
files-back : (c : goal.After-drop-place-inside-in-Err) → c.forget_name.new.self ≡ c.self.inside.files
files-back c =
    let inside = c.self.inside in
    let free = next-free inside.names inside.files inside.made inside.limits inside.home inside.uid inside.gid
    c.self.invariant.0 in
    put-back inside.files c.put.new.self c.forget_name.new.self c.new-number.result c.args.content
    (files-in_order inside.files c.self.invariant.0.well_formed.numbered)
    (ap (λ n. get nat_cmp inside.files n) c.new-number.ensures ∙ free) c.in_ok-put.ensures.ok c.forget_name.ensures

pub invariant_of-self-in-Err : goal.invariant_of-self-in-Err
invariant_of-self-in-Err c =
    let inside = c.self.inside in
    subst (λ ns. IsKept (seen ns c.forget_name.new.self inside.made inside.limits inside.home inside.uid inside.gid) ×
    AreCounted ns c.forget_name.new.self) (sym c.in-Err.ensures.err) (subst
    (λ fs. IsKept (seen inside.names fs inside.made inside.limits inside.home inside.uid inside.gid) ×
    AreCounted inside.names fs) (sym (files-back c)) c.self.invariant)

pub returns-in-Err-clause-err : goal.returns-in-Err-clause-err
returns-in-Err-clause-err c =
    let inside = c.self.inside in
    (λ i. seen (c.in-Err.ensures.err i) (files-back c i) inside.made inside.limits inside.home inside.uid inside.gid)
    ∙ c.self.view_is

-- ---- the file is made

pub overflow_add-self : goal.overflow_add-self
overflow_add-self c =
    let last = (fits-parts (with_new_file c.args.self.now c.args.place c.args.content) c.requires.room).numbers in
    let small = ltb-true (c.self.inside.made + 1) (2 ^ 32)
    (ap (λ (t : Tree). nat_lt (t.made + 1) (2 ^ 32)) c.self.view_is ∙ last) in
    omega (arith, small)

parts : (c : goal.After-drop-place-inside-2) →
    (seen c.put-2.new.self c.put.new.self (c.self.inside.made + 1) c.self.inside.limits c.self.inside.home
    c.self.inside.uid c.self.inside.gid ≡ with_new_file c.args.self.now c.args.place c.args.content) ×
    AreCounted c.put-2.new.self c.put.new.self
parts c =
    let inside = c.self.inside in
    let number : c.new-number.result ≡ inside.made = c.new-number.ensures in
    let absent : node_at inside.names c.args.place ≡ None = ap (λ (t : Tree). node_at t.names c.args.place) c.self.view_is ∙ c.requires.absent in
    let both = made-parts inside.names inside.files inside.made inside.limits inside.home inside.uid inside.gid c.args.place c.args.content c.self.invariant.0 c.self.invariant.1 absent c.put-2.new.self c.put.new.self (c.in_default.ensures.ok ∙ ap (λ n. with_node inside.names c.args.place (File n)) number) (c.in_ok-put.ensures.ok ∙ ap (λ n. put nat_cmp inside.files n (record { content = c.args.content; names = 1; pins = 0 })) number) in
    (both.0 ∙ ap (λ (t : Tree). with_new_file t c.args.place c.args.content) c.self.view_is, both.1)

kept : (c : goal.After-drop-place-inside-2) → IsKept (with_new_file c.args.self.now c.args.place c.args.content)
kept c =
    kept-new c.args.self.now c.args.place c.args.content (subst IsKept c.self.view_is c.self.invariant.0) c.requires

pub invariant_of-self-2 : goal.invariant_of-self-2
invariant_of-self-2 c = (subst IsKept (sym (parts c).0) (kept c), (parts c).1)

pub returns-clause-ok : goal.returns-clause-ok
returns-clause-ok c = (parts c).0 ∙ sym (trimmed-already _ (kept c).trimmed)

pub returns-clause-valid : goal.returns-clause-valid
returns-clause-valid c = (invariant_of-self-2 c).0
