use Rattle.sftp_tree.proofs.Imports.{◌≡◌, suc, ◌-◌, ◌++◌, [], ◌∷◌, if◌then◌else◌, sym, ap, subst, ◌∙◌, Ok, arith}
use Rattle.sftp_tree.proofs.Imports.{list_all, and_parts, is_step, components, Split, walk, looked, start_of, meets}
use Rattle.sftp_tree.proofs.Imports.{is_last, through, meeting, Standing, IsLentAt}
use Rattle.sftp_tree.proofs.Walks.{walk-turn, looked-turn, walk-nil, behind_link-none, behind_link-some}
use Rattle.sftp_tree.proofs.Walks.{looked_behind-some, stays, lends, below, counted-on, counted-last, counted-all}
use Rattle.sftp_tree.proofs.Walks.{counted-stopped, looked_behind-none, looked-nil, looked-cons}
use Rattle.sftp_tree.proofs.Walks.{steps-behind, through-link}
use Rattle.sftp_tree.proofs.Walks.{place-of}
use Rattle.sftp_tree.proofs.trees.Tree.follow_route.Goals as goal

pub loop-component-smaller-in-Enters : goal.loop-component-smaller-in-Enters
loop-component-smaller-in-Enters c =
    below _ _ (looked-turn c.args.self.now.names c.loop-component.trail.names c.args.follow c.loop-component.links_left c.loop-component.trail.at c.meet.new.trail.at c.loop-component.route c.in-Some.component.now c.next_component.new.self c.is_done.result c.in_ok-meet.field-0 _ c.loop-component.invariant.names c.in-Some.ensures c.is_done.ensures c.in_ok-meet.ensures.meets c.in-Enters.is)

pub loop-component-preserved-in-Enters : goal.loop-component-preserved-in-Enters
loop-component-preserved-in-Enters c = record {
  names = c.in_ok-meet.ensures.names ∙ c.loop-component.invariant.names;
  steps = (and_parts (is_step c.in-Some.component.now) (list_all is_step c.next_component.new.self) (ap (list_all is_step) (sym c.in-Some.ensures) ∙ c.loop-component.invariant.steps)).1;
  counted = counted-on _ _ _ _ _ c.loop-component.invariant.counted c.add.ensures (looked-turn c.args.self.now.names c.loop-component.trail.names c.args.follow c.loop-component.links_left c.loop-component.trail.at c.meet.new.trail.at c.loop-component.route c.in-Some.component.now c.next_component.new.self c.is_done.result c.in_ok-meet.field-0 _ c.loop-component.invariant.names c.in-Some.ensures c.is_done.ensures c.in_ok-meet.ensures.meets c.in-Enters.is);
  same = walk-turn c.args.self.now.names c.loop-component.trail.names c.args.follow c.loop-component.links_left c.loop-component.trail.at c.meet.new.trail.at c.loop-component.route c.in-Some.component.now c.next_component.new.self c.is_done.result c.in_ok-meet.field-0 _ _ c.loop-component.invariant.names c.loop-component.invariant.same c.in-Some.ensures c.is_done.ensures c.in_ok-meet.ensures.meets c.in-Enters.is;
}

pub returns-in-Ends-clause-reached : goal.returns-in-Ends-clause-reached
returns-in-Ends-clause-reached c =
    ap Ok (c.in_ok-enter-in-Ends.ensures.ok ∙ ap (λ at. at ++ c.in-Ends.name ∷ []) c.into_place-place.ensures)
    ∙ sym (walk-turn c.args.self.now.names c.loop-component.trail.names c.args.follow c.loop-component.links_left c.loop-component.trail.at c.meet.new.trail.at c.loop-component.route c.in-Some.component.now c.next_component.new.self c.is_done.result c.in_ok-meet.field-0 _ _ c.loop-component.invariant.names c.loop-component.invariant.same c.in-Some.ensures c.is_done.ensures c.in_ok-meet.ensures.meets c.in-Ends.is)

pub returns-in-Fails-clause-reached : goal.returns-in-Fails-clause-reached
returns-in-Fails-clause-reached c =
    sym (walk-turn c.args.self.now.names c.loop-component.trail.names c.args.follow c.loop-component.links_left c.loop-component.trail.at c.meet.new.trail.at c.loop-component.route c.in-Some.component.now c.next_component.new.self c.is_done.result c.in_ok-meet.field-0 _ _ c.loop-component.invariant.names c.loop-component.invariant.same c.in-Some.ensures c.is_done.ensures c.in_ok-meet.ensures.meets c.in-Fails.is)

pub returns-clause-reached : goal.returns-clause-reached
returns-clause-reached c = ap Ok c.here.ensures.place
    ∙ sym (c.loop-component.invariant.same ∙ ap (walk c.args.self.now.names c.args.follow c.loop-component.links_left c.loop-component.trail.at) c.in_default.ensures.0 ∙ walk-nil c.args.self.now.names c.args.follow c.loop-component.links_left c.loop-component.trail.at)

pub returns-in-Ends-clause-found : goal.returns-in-Ends-clause-found
returns-in-Ends-clause-found c =
    let answer = sym (walk-turn c.args.self.now.names c.loop-component.trail.names c.args.follow c.loop-component.links_left c.loop-component.trail.at c.meet.new.trail.at c.loop-component.route c.in-Some.component.now c.next_component.new.self c.is_done.result c.in_ok-meet.field-0 _ _ c.loop-component.invariant.names c.loop-component.invariant.same c.in-Some.ensures c.is_done.ensures c.in_ok-meet.ensures.meets c.in-Ends.is) in
    let there = lends c.loop-component.trail.names c.in_ok-meet.field-0 c.in-Ends.name c.in-Ends.node c.meet.new.trail.at c.in_ok-meet.ensures.lends c.in-Ends.is in
    let at = c.in_ok-enter-in-Ends.ensures.ok ∙ ap (λ at. at ++ c.in-Ends.name ∷ []) c.into_place-place.ensures in
    record {
      place = place-of c.args.self.now c.args.follow c.args.route.now c.enter.new.self c.names-names.ensures.kept c.requires.steps (ap Ok at ∙ answer);
      lent = subst (λ place. IsLentAt c.args.self.now.names place c.in-Ends.node) (sym at)
          (subst (λ names. IsLentAt names (c.meet.new.trail.at ++ c.in-Ends.name ∷ []) c.in-Ends.node) c.loop-component.invariant.names there);
    }

pub returns-clause-found : goal.returns-clause-found
returns-clause-found c =
    let answer = sym (c.loop-component.invariant.same ∙ ap (walk c.args.self.now.names c.args.follow c.loop-component.links_left c.loop-component.trail.at) c.in_default.ensures.0 ∙ walk-nil c.args.self.now.names c.args.follow c.loop-component.links_left c.loop-component.trail.at) in
    record {
      place = place-of c.args.self.now c.args.follow c.args.route.now c.here.result.place c.names-names.ensures.kept c.requires.steps (ap Ok c.here.ensures.place ∙ answer);
      lent = subst (λ names. IsLentAt names c.here.result.place c.here.result.node) c.loop-component.invariant.names c.here.ensures.there;
    }

pub returns-in-Through-clause-reached : goal.returns-in-Through-clause-reached
returns-in-Through-clause-reached c =
    sym (walk-turn c.args.self.now.names c.loop-component.trail.names c.args.follow c.loop-component.links_left c.loop-component.trail.at c.meet.new.trail.at c.loop-component.route c.in-Some.component.now c.next_component.new.self c.is_done.result c.in_ok-meet.field-0 _ _ c.loop-component.invariant.names c.loop-component.invariant.same c.in-Some.ensures c.is_done.ensures c.in_ok-meet.ensures.meets c.in-Through.is
    ∙ behind_link-none c.args.self.now.names c.args.follow c.loop-component.links_left c.loop-component.trail.at c.in-Through.field-0.now c.next_component.new.self c.if-links_left-eq0.true)

-- behind a link the walk starts where its target does
start : (c : goal.In_ok-go_through-in-Through-2) → c.go_to_start.new.trail.at ≡ start_of c.loop-component.trail.at c.in-Through.field-0.now
start c =
    ap (λ (s : Standing). s.at) c.go_to_start.ensures ∙ ap (λ (s : Split). if s.absolute then [] else c.meet.new.trail.at) c.new-target.ensures
    ∙ ap (λ p. start_of p c.in-Through.field-0.now) (stays c.in_ok-meet.field-0 c.in-Through.field-0 c.loop-component.trail.at c.meet.new.trail.at c.in_ok-meet.ensures.stays c.in-Through.is)

-- and goes over its components first
goes : (c : goal.In_ok-go_through-in-Through-2) → c.go_through.new.self ≡ components c.in-Through.field-0.now ++ c.next_component.new.self
goes c = c.in_ok-go_through-in-Through-2.ensures ∙ ap (λ (s : Split). s.left ++ c.next_component.new.self) c.new-target.ensures

left : (c : goal.In_ok-go_through-in-Through-2) → c.loop-component.links_left ≡ suc (c.loop-component.links_left - 1)
left c = omega arith

pub loop-component-smaller : goal.loop-component-smaller
loop-component-smaller c =
    below _ _ (looked-turn c.args.self.now.names c.loop-component.trail.names c.args.follow c.loop-component.links_left c.loop-component.trail.at c.meet.new.trail.at c.loop-component.route c.in-Some.component.now c.next_component.new.self c.is_done.result c.in_ok-meet.field-0 _ c.loop-component.invariant.names c.in-Some.ensures c.is_done.ensures c.in_ok-meet.ensures.meets c.in-Through.is
    ∙ ap (λ n. suc n) (looked_behind-some c.args.self.now.names c.args.follow c.loop-component.links_left (c.loop-component.links_left - 1) c.loop-component.trail.at c.go_to_start.new.trail.at c.in-Through.field-0.now c.next_component.new.self c.go_through.new.self (left c) (start c) (goes c)))

pub loop-component-preserved : goal.loop-component-preserved
loop-component-preserved c =
    let names = c.args.self.now.names in
    let seen : meets names c.args.follow c.loop-component.trail.at c.in-Some.component.now (is_last c.next_component.new.self) ≡ through c.in-Through.field-0.now =
    ap (meets names c.args.follow c.loop-component.trail.at c.in-Some.component.now) (sym c.is_done.ensures)
    ∙ ap (λ n. meets n c.args.follow c.loop-component.trail.at c.in-Some.component.now c.is_done.result) (sym c.loop-component.invariant.names)
    ∙ c.in_ok-meet.ensures.meets ∙ ap (λ m. meeting m c.meet.new.trail.at) c.in-Through.is in
    let rest = (and_parts (is_step c.in-Some.component.now) (list_all is_step c.next_component.new.self) (ap (list_all is_step) (sym c.in-Some.ensures) ∙ c.loop-component.invariant.steps)).1 in
    let there = through-link names c.args.follow c.loop-component.trail.at c.in-Some.component.now c.next_component.new.self c.in-Through.field-0.now seen in
    record {
      names = ap (λ (s : Standing). s.names) c.go_to_start.ensures ∙ c.in_ok-meet.ensures.names ∙ c.loop-component.invariant.names;
      steps = ap (list_all is_step) (goes c) ∙ steps-behind c.args.self.now c.names-names.ensures.kept (c.loop-component.trail.at ++ c.in-Some.component.now ∷ []) c.in-Through.field-0.now c.next_component.new.self there rest;
      counted = counted-on _ _ _ _ _ c.loop-component.invariant.counted c.add.ensures (looked-turn c.args.self.now.names c.loop-component.trail.names c.args.follow c.loop-component.links_left c.loop-component.trail.at c.meet.new.trail.at c.loop-component.route c.in-Some.component.now c.next_component.new.self c.is_done.result c.in_ok-meet.field-0 _ c.loop-component.invariant.names c.in-Some.ensures c.is_done.ensures c.in_ok-meet.ensures.meets c.in-Through.is
          ∙ ap (λ n. suc n) (looked_behind-some c.args.self.now.names c.args.follow c.loop-component.links_left (c.loop-component.links_left - 1) c.loop-component.trail.at c.go_to_start.new.trail.at c.in-Through.field-0.now c.next_component.new.self c.go_through.new.self (left c) (start c) (goes c)));
      same =
          walk-turn c.args.self.now.names c.loop-component.trail.names c.args.follow c.loop-component.links_left c.loop-component.trail.at c.meet.new.trail.at c.loop-component.route c.in-Some.component.now c.next_component.new.self c.is_done.result c.in_ok-meet.field-0 _ _ c.loop-component.invariant.names c.loop-component.invariant.same c.in-Some.ensures c.is_done.ensures c.in_ok-meet.ensures.meets c.in-Through.is
          ∙ behind_link-some c.args.self.now.names c.args.follow c.loop-component.links_left (c.loop-component.links_left - 1) c.loop-component.trail.at c.go_to_start.new.trail.at c.in-Through.field-0.now c.next_component.new.self c.go_through.new.self (left c) (start c) (goes c);
    }

pub add-requires : goal.add-requires
add-requires c =
    let few = c.requires.few c.names-names.ensures.kept in
    omega (arith, c.loop-component.invariant.counted, few)

pub returns-in-Ends-clause-counted : goal.returns-in-Ends-clause-counted
returns-in-Ends-clause-counted c = counted-last _ _ _ _ c.loop-component.invariant.counted c.add.ensures (looked-turn c.args.self.now.names c.loop-component.trail.names c.args.follow c.loop-component.links_left c.loop-component.trail.at c.meet.new.trail.at c.loop-component.route c.in-Some.component.now c.next_component.new.self c.is_done.result c.in_ok-meet.field-0 _ c.loop-component.invariant.names c.in-Some.ensures c.is_done.ensures c.in_ok-meet.ensures.meets c.in-Ends.is)

pub returns-in-Fails-clause-counted : goal.returns-in-Fails-clause-counted
returns-in-Fails-clause-counted c = counted-last _ _ _ _ c.loop-component.invariant.counted c.add.ensures (looked-turn c.args.self.now.names c.loop-component.trail.names c.args.follow c.loop-component.links_left c.loop-component.trail.at c.meet.new.trail.at c.loop-component.route c.in-Some.component.now c.next_component.new.self c.is_done.result c.in_ok-meet.field-0 _ c.loop-component.invariant.names c.in-Some.ensures c.is_done.ensures c.in_ok-meet.ensures.meets c.in-Fails.is)

pub returns-clause-counted : goal.returns-clause-counted
returns-clause-counted c = counted-all _ _ _ c.loop-component.invariant.counted (ap (looked c.args.self.now.names c.args.follow c.loop-component.links_left c.loop-component.trail.at) c.in_default.ensures.0 ∙ looked-nil c.args.self.now.names c.args.follow c.loop-component.links_left c.loop-component.trail.at)

pub returns-in-Through-clause-counted : goal.returns-in-Through-clause-counted
returns-in-Through-clause-counted c = counted-last _ _ _ _ c.loop-component.invariant.counted c.add.ensures (looked-turn c.args.self.now.names c.loop-component.trail.names c.args.follow c.loop-component.links_left c.loop-component.trail.at c.meet.new.trail.at c.loop-component.route c.in-Some.component.now c.next_component.new.self c.is_done.result c.in_ok-meet.field-0 _ c.loop-component.invariant.names c.in-Some.ensures c.is_done.ensures c.in_ok-meet.ensures.meets c.in-Through.is
    ∙ ap (λ n. suc n) (looked_behind-none c.args.self.now.names c.args.follow c.loop-component.links_left c.loop-component.trail.at c.in-Through.field-0.now c.next_component.new.self c.if-links_left-eq0.true))

pub returns-in_err-meet-clause-counted : goal.returns-in_err-meet-clause-counted
returns-in_err-meet-clause-counted c = counted-stopped _ c.from_residual.result _ _ _ _ _ c.from_residual.ensures.1 c.loop-component.invariant.counted c.add.ensures (ap (looked c.args.self.now.names c.args.follow c.loop-component.links_left c.loop-component.trail.at) c.in-Some.ensures ∙ looked-cons c.args.self.now.names c.args.follow c.loop-component.links_left c.loop-component.trail.at c.in-Some.component.now c.next_component.new.self)

pub returns-in_err-enter-in-Ends-clause-counted : goal.returns-in_err-enter-in-Ends-clause-counted
returns-in_err-enter-in-Ends-clause-counted c = counted-stopped _ c.from_residual-in_err-enter-in-Ends.result _ _ _ _ _ c.from_residual-in_err-enter-in-Ends.ensures.1 c.loop-component.invariant.counted c.add.ensures (ap (looked c.args.self.now.names c.args.follow c.loop-component.links_left c.loop-component.trail.at) c.in-Some.ensures ∙ looked-cons c.args.self.now.names c.args.follow c.loop-component.links_left c.loop-component.trail.at c.in-Some.component.now c.next_component.new.self)

pub returns-in_err-go_through-in-Through-2-clause-counted : goal.returns-in_err-go_through-in-Through-2-clause-counted
returns-in_err-go_through-in-Through-2-clause-counted c = counted-stopped _ c.from_residual-in_err-go_through-in-Through-2.result _ _ _ _ _ c.from_residual-in_err-go_through-in-Through-2.ensures.1 c.loop-component.invariant.counted c.add.ensures (ap (looked c.args.self.now.names c.args.follow c.loop-component.links_left c.loop-component.trail.at) c.in-Some.ensures ∙ looked-cons c.args.self.now.names c.args.follow c.loop-component.links_left c.loop-component.trail.at c.in-Some.component.now c.next_component.new.self)
