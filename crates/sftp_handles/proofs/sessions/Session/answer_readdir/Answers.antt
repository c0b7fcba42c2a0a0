use Rattle.sftp_handles.proofs.Imports.{◌≡◌, ◌==◌, true, nat_lt, length, refl, sym, ap, subst, ◌∙◌, lit<, lit≤}
use Rattle.sftp_handles.proofs.Imports.{Readdir, Answer, State, Good, open_at, names_in, AreFirstNames, IsAnswered}
use Rattle.sftp_packets.specs.declared.replies.Answer.TheVariants.{Name}
use Rattle.sftp_handles.proofs.Judged.GivenNames.{good-given}
use Rattle.sftp_handles.proofs.Answered.NameReplies.{some-items, no-items, counted-names, names-fit, first-listing}
use Rattle.sftp_handles.proofs.Answered.NameReplies.{first-given, readdir-answered, readdir-ended}
use Rattle.sftp_handles.proofs.Good.Pins.{state_of}
use Rattle.sftp_handles.proofs.sessions.Session.answer_readdir.Goals as goal

pub returns-then-is_empty-clause-done : goal.returns-then-is_empty-clause-done
returns-then-is_empty-clause-done g c =
    let s = c.args.self.now in
    let names = c.in_ok-longnames.longnames.items in
    subst (λ (answer : Answer). IsAnswered s (Readdir c.args.handle.now) answer s) (sym c.status.ensures.status)
    (readdir-ended s c.args.handle.now (subst Good c.self.view_is c.self.invariant) _ names (lit< tt)
    c.in_ok-longnames.ensures.first
    (no-items names c.is_empty.result (c.is_empty.ensures ∙ ap (λ n. n == 0) c.in_ok-longnames.longnames.ok.0)
    c.if-is_empty.true))

pub give_first-names-requires-clause-listing : goal.give_first-names-requires-clause-listing
give_first-names-requires-clause-listing g c =
    let s = state_of c.self.inside.tree (g.T.HandleTable.handles c.self.inside.table) in
    let names = c.in_ok-longnames.longnames.items in
    first-listing s c.args.handle.now c.self.invariant (length names) names
    (subst (λ (s : State). AreFirstNames (length names) (open_at s.handles c.args.handle.now) names)
    (sym c.self.view_is)
    (counted-names _ names (open_at c.args.self.now.handles c.args.handle.now) c.in_ok-longnames.ensures.first))

pub give_first-names-requires-clause-names : goal.give_first-names-requires-clause-names
give_first-names-requires-clause-names g c =
    let names = c.in_ok-longnames.longnames.items in
    subst (λ (s : State). AreFirstNames (length names) (open_at s.handles c.args.handle.now) names)
    (sym c.self.view_is)
    (counted-names _ names (open_at c.args.self.now.handles c.args.handle.now) c.in_ok-longnames.ensures.first)

pub invariant_of-self : goal.invariant_of-self
invariant_of-self g c =
    let s = state_of c.self.inside.tree (g.T.HandleTable.handles c.self.inside.table) in
    let names = c.in_ok-longnames.longnames in
    let items = c.give_first-names.result in
    let some : nat_lt 0 (length items) ≡ true =
    ap (nat_lt 0) c.give_first-names.ensures.count
    ∙ some-items names.items c.is_empty.result (c.is_empty.ensures ∙ ap (λ n. n == 0) names.ok.0) c.if-is_empty.false in
    good-given s c.args.handle.now items (names_in items) (g.T.HandleTable.handles c.give_first-names.new.table)
    c.self.invariant
    (sym (first-given s c.args.handle.now c.self.invariant (length names.items) items
    c.give_first-names.ensures.first some)) refl c.give_first-names.ensures.struck

pub returns-clause-done : goal.returns-clause-done
returns-clause-done g c =
    let s = state_of c.self.inside.tree (g.T.HandleTable.handles c.self.inside.table) in
    let names = c.in_ok-longnames.longnames in
    let items = c.give_first-names.result in
    let some : nat_lt 0 (length items) ≡ true =
    ap (nat_lt 0) c.give_first-names.ensures.count
    ∙ some-items names.items c.is_empty.result (c.is_empty.ensures ∙ ap (λ n. n == 0) names.ok.0) c.if-is_empty.false in
    subst
    (λ s. IsAnswered s (Readdir c.args.handle.now) (Name items)
    (state_of c.self.inside.tree (g.T.HandleTable.handles c.give_first-names.new.table)))
    c.self.view_is
    (readdir-answered s c.args.handle.now c.self.invariant (length names.items) items (names_in items)
    (g.T.HandleTable.handles c.give_first-names.new.table)
    (names-fit _ names.items (open_at c.args.self.now.handles c.args.handle.now) (lit≤ tt)
    c.in_ok-longnames.ensures.first) c.give_first-names.ensures.first some refl c.give_first-names.ensures.struck)
