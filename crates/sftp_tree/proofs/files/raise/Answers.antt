use Rattle.sftp_tree.proofs.Imports.{rules, sym, refl, ap, ◌∙◌, ◌+◌, option_copied_mut, get, Stored, with_a_name}
use Rattle.sftp_tree.proofs.FileCounts.{changed-nowhere, changed-written}
use Rattle.sftp_tree.proofs.files.raise.Goals as goal

pub overflow_add-stored : goal.overflow_add-stored
unfolding get
overflow_add-stored c = search rules

pub returns-in-Some : goal.returns-in-Some
returns-in-Some c =
    let w : Stored = record c.in-Some.stored.now { names = c.in-Some.stored.now.names + 1 } in
    changed-written with_a_name c.args.number c.args.files.now (c.get_mut.follows.lender w) c.in-Some.stored.now w (sym c.in-Some.ensures.value) refl (c.get_mut.follows.holds w)

pub returns-in_default : goal.returns-in_default
returns-in_default c =
    changed-nowhere with_a_name c.args.number c.args.files.now c.get_mut.follows.lender-at-none c.get_mut.ensures.ordered (sym c.get_mut.ensures.value ∙ ap option_copied_mut c.in_default.is) c.get_mut.follows.holds-at-none
