use Rattle.sftp_tree.proofs.Imports.{rules, ◌≡◌, ◌≤◌, ◌++◌, [], refl, sym, ap, ◌∙◌, subst, IfOk, MatchResult, arith}
use Rattle.sftp_tree.proofs.Imports.{list_all, is_step, are_names, components, Split, list_all-octets, walk, looked}
use Rattle.sftp_tree.proofs.Imports.{link_limit, looked_limit, steps_of}
use Rattle.sftp_tree.specs.Plans.{placed}
use Rattle.sftp_tree.proofs.Walks.Counts.{walk-count}
use Rattle.sftp_tree.proofs.Walks.{reached-good, reached-bad, looked_of-good, looked_of-bad, counted-most}
use Rattle.sftp_tree.proofs.Walks.{steps-from}
use Rattle.sftp_tree.proofs.trees.Tree.follow_path.Goals as goal
use Rattle.sftp_tree.proofs.trees.Tree.follow_path.Goals.{then-parts, else-parts}

pub returns-in_default-clause-reached : goal.returns-in_default-clause-reached
returns-in_default-clause-reached c = sym (reached-bad c.args.self.now c.args.follow c.args.path.now c.in_default.ensures.bad)

-- the route has the components that a walk goes over
route : (c : goal.After-drop) → c.new-route.result ≡ steps_of c.args.self.now c.args.path.now
route c = search rules

pub follow_route-reached-requires-clause-steps : goal.follow_route-reached-requires-clause-steps
follow_route-reached-requires-clause-steps c =
    let path = c.args.path.now in
    let left : c.in-Ok.parts.left ≡ components path = ap (λ (s : Split). s.left) c.in-Ok.ensures.parts in
    let bytes = list_all-octets path c.type_inv.path in
    ap (list_all is_step) c.new-route.ensures ∙ ap (λ l. list_all is_step (c.if-parts.names.now ++ l)) left
    ∙ elim c.if-parts.branch [
      | then-parts w ↦ ap (λ h. list_all is_step (h.now ++ components path)) w.names-is ∙ steps-from [] path refl c.in-Ok.ensures.good bytes
      | else-parts w ↦ ap (λ h. list_all is_step (h.now ++ components path)) w.names-is
          ∙ steps-from w.names-names.result.now path (ap are_names w.names-names.ensures.names ∙ w.names-names.ensures.named) c.in-Ok.ensures.good bytes
    ]

pub returns-clause-reached : goal.returns-clause-reached
returns-clause-reached c =
    subst (λ w. IfOk c.follow_route-reached.result (λ r. placed r ≡ w)) (ap (walk c.args.self.now.names c.args.follow link_limit []) (route c) ∙ sym (reached-good c.args.self.now c.args.follow c.args.path.now c.in-Ok.ensures.good)) c.follow_route-reached.ensures.reached

-- the walk looks at no more than the limit
few : (c : goal.After-drop) → looked c.args.self.now.names c.args.follow link_limit [] c.new-route.result ≤ looked_limit
few c = subst (λ r. looked c.args.self.now.names c.args.follow link_limit [] r ≤ looked_limit) (sym (route c)) (walk-count c.args.self.now c.args.follow c.args.path.now c.follow_route-reached.ensures.kept c.in-Ok.ensures.good)

pub follow_route-reached-requires-clause-few : goal.follow_route-reached-requires-clause-few
follow_route-reached-requires-clause-few c = λ kept.
    let same : c.new-route.result ≡ steps_of c.args.self.now c.args.path.now = search rules in
    subst (λ r. looked c.args.self.now.names c.args.follow link_limit [] r ≤ looked_limit) (sym same) (walk-count c.args.self.now c.args.follow c.args.path.now kept c.in-Ok.ensures.good)

pub returns-clause-counted : goal.returns-clause-counted
returns-clause-counted c =
    subst (λ n. MatchResult c.follow_route-reached.result (λ r. c.follow_route-reached.new.ticks ≡ n) (λ e. c.follow_route-reached.new.ticks ≤ n)) (ap (looked c.args.self.now.names c.args.follow link_limit []) (route c) ∙ sym (looked_of-good c.args.self.now c.args.follow c.args.path.now c.in-Ok.ensures.good)) c.follow_route-reached.ensures.counted

pub returns-clause-few : goal.returns-clause-few
returns-clause-few c = counted-most c.follow_route-reached.result _ _ _ (few c) c.follow_route-reached.ensures.counted

pub returns-in_default-clause-counted : goal.returns-in_default-clause-counted
returns-in_default-clause-counted c = c.requires.uncounted ∙ sym (looked_of-bad c.args.self.now c.args.follow c.args.path.now c.in_default.ensures.bad)

pub returns-in_default-clause-few : goal.returns-in_default-clause-few
returns-in_default-clause-few c = omega (arith, c.requires.uncounted)
