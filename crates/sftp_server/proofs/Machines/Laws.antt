-- The laws of the core, from those of steps that do not clash.
use Rattle.sftp_server.proofs.Imports.{◌≡◌, ◌≤◌, ℕ, true, false, List, [], Request, Reply, IsAsk, State, Good}
use Rattle.sftp_server.proofs.Imports.{Allowed, Event, Explained, BeginsFrom, in_window, full_window, Machine}
use Rattle.sftp_server.proofs.Imports.{at_start, IsSent, server_clash, IsValue, IsReached, LeadsTo, Bool, ◌∷◌, ◌++◌}
use Rattle.sftp_server.proofs.Imports.{Option, Some, refl, sym, subst, append-nil, Asked, Replied, Act, Deliver, Work}
use Rattle.sftp_server.proofs.Imports.{Send, taken, can_take, is_ready, reply_at, IsWorked, IsAct, IsDelivery, IsWork}
use Rattle.sftp_server.proofs.Imports.{IsSend, Delivers, all_both}
use Rattle.sftp_handles.specs.Clash.{IsAskable, IsAnswerable}
use Rattle.sftp_handles.proofs.RangeLaws.SteadyRanges.{ranges-exchanged, still-free}
use Rattle.sftp_server.proofs.Machines.{Premises, HasReply}
use Rattle.sftp_server.proofs.Machines.{Follows, done, IsReplyFor}
use Rattle.sftp_server.proofs.Machines.Acts.{follows-start, follows-acts, follows-reply, acts-more}
use Rattle.sftp_server.proofs.Machines.Acts as endings

-- a good state stays good
abbrev pub StaysGood : Type 0
StaysGood =
    (s : State) (request : Request) (reply : Reply) (end : State) → Good s → IsAsk request.ask
    → Allowed s request reply end → Good end

-- each request has a reply
abbrev pub IsTotal : Type 0
IsTotal = (s : State) (request : Request) → Good s → IsAskable request → IsAnswerable s request

module _ (stays : StaysGood) (total : IsTotal) where
  some-reply : (s : State) (request : Request) → Good s → IsValue request → HasReply Allowed s request
  some-reply s request good is =
      let some = total s request good is.askable in
      record { reply = some.reply; end = some.end; allowed = some.allowed; spelled = some.spelled }

  -- two requests that do not clash may change places
  change-places : (s mid end : State) (p q : Request) (a b : Reply) → Good s → IsValue p → IsValue q
      → server_clash s p q ≡ false → Allowed s q b mid → Allowed mid p a end
      → (other : State) × Allowed s p a other × Allowed other q b end
  change-places s mid end p q a b good is_p is_q apart first second =
      let places = ranges-exchanged stays s mid end p q a b good is_p.ask is_q.ask apart first second in
      (places.between, places.first, places.second)

  -- what does not clash with a request makes nothing else clash with it
  still-apart : (s end : State) (p o q : Request) (a : Reply) → Good s → IsValue p → IsValue o → IsValue q
      → server_clash s p q ≡ false → server_clash s o q ≡ false → Allowed s p a end → server_clash end o q ≡ false
  still-apart s end p o q a good is_p is_o is_q apart free does =
      still-free s end p o q a good is_p.ask does apart free

  premises : Premises Allowed server_clash Good IsValue
  premises = record {
    exchange = change-places;
    steady = still-apart;
    stays_good = λ s end p a good is does. stays s p a end good is.ask does;
    total = some-reply;
    same_id = λ s end p a does. does.same_id;
  }

  follows : (start : State) (window : ℕ) (events : List Event) (core : Machine State) → Good start
      → window ≤ full_window → IsReached start window events core → Follows Allowed Good IsValue start core events
  follows start window events core good bound reached =
      let first = follows-start Allowed server_clash Good IsValue premises start window good bound in
      follows-acts Allowed server_clash Good IsValue premises start (at_start start window) [] reached.acts events core
      first reached.deliverable reached.steps

  pub begun : (start : State) (window : ℕ) (events : List Event) (core : Machine State) → Good start
      → window ≤ full_window → IsReached start window events core → BeginsFrom Allowed start events
  begun start window events core good bound reached =
      endings.begins Allowed server_clash Good IsValue premises start core events
      (follows start window events core good bound reached)

  pub explained : (start : State) (window : ℕ) (events : List Event) (core : Machine State) → Good start
      → window ≤ full_window → IsReached start window events core → core.queue ≡ []
      → Explained Allowed start events core.state
  explained start window events core good bound reached empty =
      endings.explained Allowed server_clash Good IsValue premises start core events
      (follows start window events core good bound reached) empty

  -- the requests done so far, in the order asked, lead to the core's state
  pub leads-to : (start : State) (window : ℕ) (events : List Event) (core : Machine State) → Good start
      → window ≤ full_window → IsReached start window events core → LeadsTo Allowed start events core.state
  leads-to start window events core good bound reached =
      endings.leads-to Allowed Good IsValue start core events (follows start window events core good bound reached)

  pub windowed : (start : State) (window : ℕ) (events : List Event) (core : Machine State) → Good start
      → window ≤ full_window → IsReached start window events core → in_window events ≡ true
  windowed start window events core good bound reached =
      endings.in-window Allowed Good IsValue start core events (follows start window events core good bound reached)

  pub still-good : (start : State) (window : ℕ) (events : List Event) (core : Machine State) → Good start
      → window ≤ full_window → IsReached start window events core → Good core.state
  still-good start window events core good bound reached =
      (follows start window events core good bound reached).good_state

  -- a reply that is sent has the id of its request, and can be encoded
  pub reply-for : (start : State) (window : ℕ) (events : List Event) (core : Machine State) (k : ℕ) (reply : Reply)
      (after : Machine State) → Good start → window ≤ full_window → IsReached start window events core
      → (sent : IsSent core k reply after) → IsReplyFor sent.request (done reply)
  reply-for start window events core k reply after good bound reached =
      follows-reply Allowed server_clash Good IsValue premises start core events k reply after
      (follows start window events core good bound reached)

-- ==== What is reached from what was reached, by one act more.

pub reached-start : (start : State) (window : ℕ) → IsReached start window [] (at_start start window)
reached-start start window = record {
  acts = [];
  deliverable = tt;
  steps = record { unchanged = refl; silent = refl };
}

pub reached-act : (start : State) (window : ℕ) (events : List Event) (before after : Machine State) (act : Act)
    (more : List Event) → IsReached start window events before → Delivers IsValue act
    → IsAct Allowed server_clash before act more after → IsReached start window (events ++ more) after
reached-act start window events before after act more reached is acted =
    let first = at_start start window in
    record {
      acts = reached.acts ++ act ∷ [];
      deliverable = all_both (Delivers IsValue) reached.acts (act ∷ []) reached.deliverable (is, tt);
      steps = acts-more Allowed server_clash first before after reached.acts events act more reached.steps acted;
    }

-- a request was taken
pub reached-taken : (start : State) (window : ℕ) (events : List Event) (before : Machine State) (request : Request)
    → IsReached start window events before → IsValue request → can_take before request ≡ true
    → IsReached start window (events ++ Asked request ∷ []) (taken before request)
reached-taken start window events before request reached is can =
    let acted : IsDelivery (can_take before request) before request (Asked request ∷ []) (taken before request) =
    rw can (refl, refl) in
    reached-act start window events before (taken before request) (Deliver request) (Asked request ∷ []) reached is
    acted

-- a request was done
pub reached-worked : (start : State) (window : ℕ) (events : List Event) (before after : Machine State) (k : ℕ)
    → IsReached start window events before → is_ready server_clash before k ≡ true
    → IsWorked Allowed before k after → IsReached start window events after
reached-worked start window events before after k reached ready worked =
    let acted : IsWork Allowed (is_ready server_clash before k) before k [] after =
    subst (λ (b : Bool). IsWork Allowed b before k [] after) (sym ready) (worked, refl) in
    subst (λ (es : List Event). IsReached start window es after) (append-nil events)
    (reached-act start window events before after (Work k) [] reached tt acted)

-- a reply was sent
pub reached-sent : (start : State) (window : ℕ) (events : List Event) (before after : Machine State) (k : ℕ)
    (reply : Reply) → IsReached start window events before → reply_at before.queue k ≡ Some reply
    → IsSent before k reply after → IsReached start window (events ++ Replied reply ∷ []) after
reached-sent start window events before after k reply reached is acted =
    reached-act start window events before after (Send k) (Replied reply ∷ []) reached tt
    (subst (λ (o : Option Reply). IsSend o before k (Replied reply ∷ []) after) (sym is) (acted, refl))
