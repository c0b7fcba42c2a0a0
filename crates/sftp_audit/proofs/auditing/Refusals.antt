-- An event is refused for one reason at most: its turn and the window are one or the other, and of the replies that are
-- not allowed one is the first.
use Rattle.sftp_audit.proofs.Imports.{same_Some, ◌≡◌, ◌≢◌, ℕ, true, List, [], ◌∷◌, ◌++◌, Option, Some, None, is_some}
use Rattle.sftp_audit.proofs.Imports.{IsTrue, refl, sym, ap, subst, ◌∙◌, option_map, Request, StepOf, Event, Asked}
use Rattle.sftp_audit.proofs.Imports.{Replied, leading_pairs, Run, Refusal, RecordedReply, Exchange, IsFirstWrong}
use Rattle.sftp_audit.proofs.Imports.{Refuses, recorded_exchanges, is_answered, AreAnswered, reply_of, ledger_of}
use Rattle.sftp_audit.proofs.Imports.{arith, false, length, cases_Bool, eq-eqb, sound_by, Tree, AccountsBy}
use Rattle.sftp_audit.proofs.Imports.{is_awaited, unsettled, waits_for}
use Rattle.sftp_audit.proofs.steps.{HasOneEnd}
use Rattle.sftp_audit.proofs.auditing.{same_head, same_tail}
use Rattle.sftp_audit.specs.declared.errors.Refusal.TheVariants as refusals
use Rattle.std.proofs.lemmas.Bool.{or_parts}
use Rattle.sftp_audit.specs.Cuts.{AccountsCutBy, is_unanswered, unanswered_count, unsettled_count}
use Rattle.sftp_audit.proofs.auditing.Turns.{closed_if_none, none_if_closed}

-- ---- the first step of a run

record FirstStep {S : Type 0} (step : StepOf S) (start : S) (x : Exchange) (others : List Exchange) (end : S)
    : Type 0
  where
    reply : RecordedReply
    reply_is : x.reply ≡ Some reply
    mid : S
    allowed : step start x.request reply.reply mid
    run : Run step mid (leading_pairs (ledger_of others)) end

record IsWrong {S : Type 0} (step : StepOf S) (mid : S) (x : Exchange) : Type 0 where
  reply : RecordedReply
  reply_is : x.reply ≡ Some reply
  wrong : (end : S) → step mid x.request reply.reply end → ⊥

module _ {S : Type 0} (step : StepOf S) (one_end : HasOneEnd step) where
  first_step_by : (start : S) (x : Exchange) (others : List Exchange) (end : S) (reply : Option RecordedReply)
      → x.reply ≡ reply → is_some reply ≡ true
      → Run step start (leading_pairs ((x.request, option_map reply_of reply) ∷ ledger_of others)) end
      → FirstStep step start x others end
  unfolding leading_pairs
  first_step_by start x others end None is answered run = absurd cc
  first_step_by start x others end (Some reply) is answered run =
      record { reply = reply; reply_is = is; mid = run.0; allowed = run.1; run = run.2 }

  first_step : (start : S) (x : Exchange) (others : List Exchange) (end : S) → IsTrue (is_answered x)
      → Run step start (leading_pairs (ledger_of (x ∷ others))) end → FirstStep step start x others end
  first_step start x others end answered run = first_step_by start x others end x.reply refl answered run

  -- a reply leads to one state
  same_mid : (start : S) (request : Request) (a b : RecordedReply) (to_a to_b : S) → a ≡ b
      → step start request a.reply to_a → step start request b.reply to_b → to_a ≡ to_b
  same_mid start request a b to_a to_b same by_a by_b = one_end start request a.reply to_a to_b by_a (rw same by_b)

  -- ---- the first reply that is not allowed

  -- what is wrong is not the first step of a run
  not_wrong : (start mid : S) (x y : Exchange) (others : List Exchange) (end : S) → mid ≡ start → x ≡ y
      → IsWrong step mid x → FirstStep step start y others end → ⊥
  not_wrong start mid x y others end here same wrong first =
      let reply : first.reply ≡ wrong.reply = grind (arith, first.reply_is, wrong.reply_is, same) in
      wrong.wrong first.mid (rw (here, same, ← reply) first.allowed)

  one_wrong : (start : S) (b c : List Exchange) (x y : Exchange) (behind_b behind_c : List Exchange)
      (mid_b mid_c : S) → b ++ x ∷ behind_b ≡ c ++ y ∷ behind_c → AreAnswered b → AreAnswered c
      → Run step start (leading_pairs (ledger_of b)) mid_b → Run step start (leading_pairs (ledger_of c)) mid_c
      → IsWrong step mid_b x → IsWrong step mid_c y → x ≡ y
  unfolding leading_pairs
  one_wrong start [] [] x y behind_b behind_c mid_b mid_c same all_b all_c run_b run_c wrong_b wrong_c =
      same_head x y behind_b behind_c same
  one_wrong start [] (z ∷ c) x y behind_b behind_c mid_b mid_c same all_b all_c run_b run_c wrong_b wrong_c =
      absurd (not_wrong start mid_b x z c mid_c run_b (same_head x z behind_b (c ++ y ∷ behind_c) same) wrong_b
      (first_step start z c mid_c all_c.0 run_c))
  one_wrong start (z ∷ b) [] x y behind_b behind_c mid_b mid_c same all_b all_c run_b run_c wrong_b wrong_c =
      absurd (not_wrong start mid_c y z b mid_b run_c (sym (same_head z y (b ++ x ∷ behind_b) behind_c same)) wrong_c
      (first_step start z b mid_b all_b.0 run_b))
  one_wrong start (z ∷ b) (w ∷ c) x y behind_b behind_c mid_b mid_c same all_b all_c run_b run_c wrong_b wrong_c =
      let first : z ≡ w = same_head z w (b ++ x ∷ behind_b) (c ++ y ∷ behind_c) same in
      let step_b = first_step start z b mid_b all_b.0 run_b in
      let step_w = first_step start w c mid_c all_c.0 run_c in
      let step_c : FirstStep step start z c mid_c = subst (λ (v : Exchange). FirstStep step start v c mid_c) (sym first) step_w in
      let reply : step_b.reply ≡ step_c.reply =
      same_Some step_b.reply step_c.reply (sym step_b.reply_is ∙ step_c.reply_is) in
      let mid : step_b.mid ≡ step_c.mid =
      same_mid start z.request step_b.reply step_c.reply step_b.mid step_c.mid reply step_b.allowed step_c.allowed in
      one_wrong step_b.mid b c x y behind_b behind_c mid_b mid_c
      (same_tail z w (b ++ x ∷ behind_b) (c ++ y ∷ behind_c) same) all_b.1 all_c.1 step_b.run
      (subst (λ (m : S). Run step m (leading_pairs (ledger_of c)) mid_c) (sym mid) step_c.run) wrong_b wrong_c

  number_of : (x y : Exchange) (r q : RecordedReply) → x.reply ≡ Some r → y.reply ≡ Some q → x ≡ y → r.number ≡ q.number
  number_of x y r q is_r is_q same = cc

  pub one_first_wrong : (start : S) (xs : List Exchange) (m n : ℕ) → IsFirstWrong step start xs m
      → IsFirstWrong step start xs n → m ≡ n
  one_first_wrong start xs m n a b =
      let reply_a : RecordedReply = record { reply = a.reply; number = m } in
      let reply_b : RecordedReply = record { reply = b.reply; number = n } in
      let x : Exchange = record { request = a.request; number = a.asked_in; reply = Some reply_a } in
      let y : Exchange = record { request = b.request; number = b.asked_in; reply = Some reply_b } in
      let wrong_a : IsWrong step a.mid x = record { reply = reply_a; reply_is = refl; wrong = a.wrong } in
      let wrong_b : IsWrong step b.mid y = record { reply = reply_b; reply_is = refl; wrong = b.wrong } in
      let same : a.before ++ x ∷ a.behind ≡ b.before ++ y ∷ b.behind = sym a.exchanges_are ∙ b.exchanges_are in
      let exchange : x ≡ y =
      one_wrong start a.before b.before x y a.behind b.behind a.mid b.mid same a.answered b.answered a.run b.run wrong_a
      wrong_b in
      number_of x y reply_a reply_b refl refl exchange

  -- ---- the reasons

  pub one_refusal : (start : S) (events : List Event) (event : Event) (a b : Refusal)
      → Refuses step start events event a → Refuses step start events event b → a ≢ refusals.NoMemory
      → b ≢ refusals.NoMemory
      → a ≡ b
  one_refusal start events (Asked request) a b for_a for_b not_a not_b = grind arith
  one_refusal start events (Replied reply) (refusals.NotAllowed m) (refusals.NotAllowed n) for_a for_b not_a not_b =
      ap refusals.NotAllowed
      (one_first_wrong start (recorded_exchanges (events ++ Replied reply ∷ [])) m n for_a.1 for_b.1)
  one_refusal start events (Replied reply) a b for_a for_b not_a not_b = grind arith

-- ==== A session that may have been cut is complete where none of its requests is unanswered.

-- ---- nothing unanswered, nothing open

pub none_open : (xs : List Exchange) → unanswered_count xs ≡ 0 → (id : ℕ) → is_awaited id xs ≡ false
unfolding is_awaited is_unanswered
none_open [] none id = refl
none_open (x ∷ xs) none id = grind (arith, cases_Bool, none_open xs)

pub none_unanswered : (xs : List Exchange) → ((id : ℕ) → is_awaited id xs ≡ false) → unanswered_count xs ≡ 0
unfolding is_awaited is_unanswered
none_unanswered [] shut = refl
none_unanswered (x ∷ xs) shut =
    let rest = none_unanswered xs (λ id. (or_parts (waits_for id x) (is_awaited id xs) (shut id)).1) in
    grind (arith, eq-eqb, or_parts, cases_Bool, shut x.request.id, rest)

pub none_unsettled : (xs : List Exchange) → unanswered_count xs ≡ 0 → unsettled xs ≡ []
unfolding unsettled is_unanswered
none_unsettled [] none = refl
none_unsettled (x ∷ xs) none = grind (arith, cases_Bool, none_unsettled xs)

-- ---- the two accounts

module _ {S : Type 0} (step : StepOf S) (begin : Tree → S) (close : S → Tree) (tree transcript : List ℕ)
    (start : Tree) (events : List Event) (end : Tree)
  where
    pub cut-of_complete : AccountsBy step begin close tree transcript start events end
        → AccountsCutBy step begin close tree transcript start events end
    cut-of_complete a = record {
      start_is = a.start_is;
      events_are = a.events_are;
      last = a.last;
      sound = sound_by step (begin start) events a.last a.explained;
      end_is = a.end_is;
    }

    pub answered-of_complete : AccountsBy step begin close tree transcript start events end
        → unanswered_count (recorded_exchanges events) ≡ 0
    answered-of_complete a =
        let sound = sound_by step (begin start) events a.last a.explained in
        none_unanswered (recorded_exchanges events)
        (λ id. none_if_closed events id sound.in_turn (a.explained.matching id))

    pub complete-of_cut : AccountsCutBy step begin close tree transcript start events end
        → unanswered_count (recorded_exchanges events) ≡ 0 → AccountsBy step begin close tree transcript start events end
    complete-of_cut a none = record {
      start_is = a.start_is;
      events_are = a.events_are;
      last = a.last;
      explained = record {
        matching = λ id. closed_if_none events id a.sound.in_turn
            (none_open (recorded_exchanges events) none id);
        within_window = a.sound.within_window;
        run = a.sound.run;
      };
      end_is = a.end_is;
    }

pub judged-if_answered : (events : List Event) → unanswered_count (recorded_exchanges events) ≡ 0
    → unsettled_count events ≡ 0
judged-if_answered events none = ap length (none_unsettled (recorded_exchanges events) none)
