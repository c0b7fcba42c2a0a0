use Rattle.sftp_tree.proofs.Imports.{◌-◌, ◌<◌, sym, ap, ◌∙◌, arith, option_copied_mut, MatchOption-at_some, get, Stored}
use Rattle.sftp_tree.proofs.Imports.{without_a_pin}
use Rattle.sftp_tree.proofs.FileCounts.{changed-nowhere, changed-written, changed-removed, where_held-gone}
use Rattle.sftp_tree.proofs.FileCounts.{where_held-left}
use Rattle.sftp_tree.proofs.files.unpin.Goals as goal

pub returns-in_default : goal.returns-in_default
returns-in_default c = changed-nowhere without_a_pin c.args.number c.args.files.now c.get_mut.follows.lender-at-none
    c.get_mut.ensures.ordered (sym c.get_mut.ensures.value ∙ ap option_copied_mut c.in_default.is)
    c.get_mut.follows.holds-at-none

pub overflow_sub-stored : goal.overflow_sub-stored
unfolding get
overflow_sub-stored c =
    let some : 0 < c.in-Some.stored.now.pins =
    MatchOption-at_some _ (λ (s : Stored). 0 < s.pins) c.in-Some.stored.now (sym c.in-Some.ensures.value) c.requires in
    omega arith

pub returns-then-not-is_held : goal.returns-then-not-is_held
returns-then-not-is_held c =
    let s : Stored = c.in-Some.stored.now in
    let w : Stored = record s { pins = s.pins - 1 } in
    changed-removed without_a_pin c.args.number c.args.files.now (c.get_mut.follows.lender w) c.remove.new.self s w
    (sym c.in-Some.ensures.value) (where_held-gone w (sym c.is_held.ensures ∙ c.if-not-is_held.true))
    (c.get_mut.follows.holds w) c.remove.ensures.updates c.remove.ensures.ordered

pub returns-else-not-is_held : goal.returns-else-not-is_held
returns-else-not-is_held c =
    let s : Stored = c.in-Some.stored.now in
    let w : Stored = record s { pins = s.pins - 1 } in
    changed-written without_a_pin c.args.number c.args.files.now (c.get_mut.follows.lender w) s w
    (sym c.in-Some.ensures.value) (where_held-left w (sym c.is_held.ensures ∙ c.if-not-is_held.false))
    (c.get_mut.follows.holds w)
