-- Replies that a profile permits, by the strict step and by what the profile forgives.
use Rattle.std.proofs.Common.{◌≡◌, Bool, true, false, Option, Some, None, refl, sym, ap, subst, ◌∙◌}
use Rattle.std.proofs.Common.{◌↔◌, IsTrue, IfOk, Result, Ok, Err}
use Rattle.sftp_path.specs.declared.errors.NoMemory.{NoMemory}
use Rattle.sftp_packets.specs.declared.requests.Ask.{Ask}
use Rattle.sftp_packets.specs.declared.requests.Ask.TheVariants as asks
use Rattle.sftp_packets.specs.declared.replies.Answer.{Answer}
use Rattle.sftp_packets.specs.declared.replies.Answer.TheVariants as replies
use Rattle.sftp_packets.specs.declared.names.NameItem.{NameItem}
use Rattle.std.specs.Prelude.{List, if◌then◌else◌, ◌&&◌, not, unwrap_or}
use Rattle.sftp_packets.specs.declared.packets.Request.{Request}
use Rattle.sftp_packets.specs.declared.packets.Reply.{Reply}
use Rattle.sftp_tree.specs.Attributes.{excludes}
use Rattle.sftp_handles.specs.State.{Left}
use Rattle.sftp_handles.specs.State as sessions
use Rattle.sftp_handles.specs.Allowed as strictly
use Rattle.sftp_handles.proofs.Judged.{step-is_allowed, allowed-step}
use Rattle.sftp_profile.specs.declared.profiles.Profile.{Profile}
use Rattle.sftp_profile.specs.Profiles.{strict, keeps_requests, is_stateless}
use Rattle.sftp_profile.specs.Replaced.{put, replaced, directory_where, file_where, keeps_half, kept_attributes}
use Rattle.sftp_profile.specs.Shown.{shown_at, shown_open}
use Rattle.sftp_profile.specs.State.{State, bare}
use Rattle.sftp_profile.specs.declared.notes.Note.{Note}
use Rattle.sftp_profile.specs.Notes.{note_of, led_to}
use Rattle.sftp_profile.specs.DirectoryHandles.{directory_of}
use Rattle.sftp_profile.specs.Departures.{is_forgiven}
use Rattle.sftp_profile.specs.Interpretations.{asked, followed}
use Rattle.sftp_profile.specs.Shown.{left_of}
use Rattle.sftp_profile.specs.StrictAnswers.{told, mended_items, is_readdir}
use Rattle.sftp_profile.specs.Permitted.{Outcome, IsStrict, IsTaken, IsFollowed, IsTakenFor}
use Rattle.sftp_profile.specs.Permitted.{IsForgiven, IsJudged, IsStep}
use Rattle.sftp_profile.specs.Permitted.{Permitted, taken, taken_for, retold, with_followed, first_of, forgiven}
use Rattle.sftp_profile.specs.Permitted.{forgiven_by, permitted, under, met, with_note, judged, step}
use Rattle.sftp_profile.specs.Permitted.{same_end}

abbrev pub under_same : State → sessions.State → State
under_same s session = record s { session = session }

-- ---- from a state and its answer

under-profile : (s : State) (o : Option sessions.State) (end : State) → under s o ≡ Some end
    → end.profile ≡ s.profile
under-profile s (Some session) end is = ap (λ (s : State). s.profile) (same_end _ end _ is refl)
under-profile s None end is = absurd cc

noted-profile : (s : State) (note : Note) (answer : Answer) (o : Option sessions.State) (end : State)
    → with_note s note answer o ≡ Some end → end.profile ≡ s.profile
noted-profile s note answer (Some session) end is = ap (λ (s : State). s.profile) (same_end _ end _ is refl)
noted-profile s note answer None end is = absurd cc

either-profile : (profile : Profile) (b : Bool) (x y : Option State) (end : State)
    → (x ≡ Some end → end.profile ≡ profile) → (y ≡ Some end → end.profile ≡ profile)
    → (if b then x else y) ≡ Some end → end.profile ≡ profile
either-profile profile true x y end of_x of_y is = of_x is
either-profile profile false x y end of_x of_y is = of_y is

judged-profile : (s : State) (ask : Ask) (answer : Answer) (end : State) → judged s ask answer ≡ Some end
    → end.profile ≡ s.profile
unfolding judged
judged-profile s ask answer end is =
    either-profile s.profile (is_stateless s.profile) _ _ end
    (under-profile s (permitted s.profile s.session ask answer) end)
    (noted-profile s (note_of s.session.tree ask answer) answer
    (met s.profile s.session (directory_of s.directories ask) ask answer) end) is

pub permitted-profile : (s : State) (request : Request) (reply : Reply) (end : State) → Permitted s request reply end
    → end.profile ≡ s.profile
unfolding step
permitted-profile s request reply end p =
    judged-profile s (put s.profile s.session request.ask) reply.answer end p.step

-- ---- requests that stand as they are

record KeepsAll (profile : Profile) : Type 0 where
  makes : profile.made ≡ false
  owners : profile.keep_owner ≡ false
  links : profile.symlink_draft ≡ false

none-of : (a b c : Bool) → (not a && (not b && not c)) ≡ true → (a ≡ false) × (b ≡ false) × (c ≡ false)
none-of true b c is = absurd cc
none-of false true c is = absurd cc
none-of false false true is = absurd cc
none-of false false false is = (refl, refl, refl)

keeps-all : (profile : Profile) → IsTrue (keeps_requests profile) → KeepsAll profile
keeps-all profile keeps =
    let parts = none-of profile.made profile.keep_owner profile.symlink_draft keeps in
    record { makes = parts.0; owners = parts.1; links = parts.2 }

not-replaced : (profile : Profile) (s : sessions.State) (ask : Ask) → KeepsAll profile → replaced profile s ask ≡ None
not-replaced profile s (asks.Mkdir path attrs) keeps =
    ap
    (λ b.
    if b then Some (asks.Mkdir path (directory_where profile s.tree (led_to s.tree false path) attrs)) else None)
    keeps.makes
not-replaced profile s (asks.Open path pflags attrs) keeps =
    ap
    (λ b.
    if b
    then Some (asks.Open path pflags (file_where profile s.tree (led_to s.tree (not (excludes pflags)) path) attrs))
    else None) keeps.makes
not-replaced profile s (asks.Setstat path attrs) keeps =
    ap
    (λ b.
    if b && keeps_half attrs.owner
    then Some (asks.Setstat path (kept_attributes (shown_at s.tree (asks.Stat path)) attrs)) else None) keeps.owners
not-replaced profile s (asks.Fsetstat handle attrs) keeps =
    ap
    (λ b.
    if b && keeps_half attrs.owner
    then Some (asks.Fsetstat handle (kept_attributes (shown_open s handle) attrs)) else None) keeps.owners
not-replaced profile s (asks.Symlink targetpath linkpath) keeps =
    ap (λ b. if b then Some (asks.Symlink linkpath targetpath) else None) keeps.links
not-replaced profile s other keeps = refl

pub put-same : (profile : Profile) (s : sessions.State) (ask : Ask) → IsTrue (keeps_requests profile)
    → put profile s ask ≡ ask
put-same profile s ask keeps = ap (λ o. unwrap_or o ask) (not-replaced profile s ask (keeps-all profile keeps))

-- ---- what is allowed strictly

-- a profile without a use for directories judges by the session alone
pub stateless-judged : (s : State) (ask : Ask) (answer : Answer) → is_stateless s.profile ≡ true
    → judged s ask answer ≡ under s (permitted s.profile s.session ask answer)
unfolding judged
stateless-judged s ask answer is =
    ap
    (λ b.
    if b then under s (permitted s.profile s.session ask answer)
    else with_note s (note_of s.session.tree ask answer) answer
    (met s.profile s.session (directory_of s.directories ask) ask answer)) is

pub strictly-permitted : (profile : Profile) (s : sessions.State) (request : Request) (reply : Reply)
    (end : sessions.State) → IsTrue (keeps_requests profile) → IsTrue (is_stateless profile)
    → strictly.Allowed s request reply end → Permitted (bare profile s) request reply (bare profile end)
unfolding step permitted
strictly-permitted profile s request reply end keeps stateless a = record {
  same_id = a.same_id;
  step =
      ap (λ ask. judged (bare profile s) ask reply.answer) (put-same profile s request.ask keeps)
      ∙ (stateless-judged (bare profile s) request.ask reply.answer stateless
      ∙ ap (λ o. under (bare profile s) (first_of o (forgiven profile s request.ask reply.answer)))
      (allowed-step s request reply end a));
}

-- ---- the strict profile

first-none : (o : Option sessions.State) → first_of o None ≡ o
first-none (Some s) = refl
first-none None = refl

strict-asked : (s : sessions.State) (ask : Ask) → asked strict s ask ≡ None
strict-asked s (asks.Lstat path) = refl
strict-asked s (asks.Open path pflags attrs) = refl
strict-asked s (asks.Hardlink oldpath newpath) = refl
strict-asked s (asks.Unknown name rest) = refl
strict-asked s other = refl

strict-names : (readdir : Bool) (left : Option Left) (items : List NameItem)
    → (if readdir && false then Some (replies.Name (mended_items strict left items)) else None) ≡ None
strict-names true left items = refl
strict-names false left items = refl

strict-told : (s : sessions.State) (ask : Ask) (answer : Answer) → told strict s ask answer ≡ None
strict-told s ask (replies.Attrs attrs) = refl
strict-told s ask (replies.Name items) = strict-names (is_readdir ask) (left_of s ask) items
strict-told s ask other = refl

strict-permitted : (s : sessions.State) (ask : Ask) (answer : Answer) → permitted strict s ask answer
    ≡ strictly.step s ask answer
unfolding permitted forgiven is_forgiven
strict-permitted s ask answer =
    ap
    (λ o.
    first_of (strictly.step s ask answer)
    (first_of (retold s ask (told strict s ask answer))
    (strictly.and_then (taken strict s o answer) (with_followed (followed strict ask) answer))))
    (strict-asked s ask)
    ∙ (ap (λ o. first_of (strictly.step s ask answer) (first_of (retold s ask o) None)) (strict-told s ask answer)
    ∙ first-none (strictly.step s ask answer))

under-session : (s : State) (o : Option sessions.State) (end : State) → under s o ≡ Some end
    → (o ≡ Some end.session) × (end ≡ record s { session = end.session })
under-session s (Some session) end is =
    let same : end ≡ record s { session = session } = same_end _ end _ is refl in
    (ap (λ (s : State). Some s.session) (sym same), same ∙ ap (λ x. record s { session = x.session }) (sym same))
under-session s None end is = absurd cc

strict-allowed : (s : sessions.State) (request : Request) (reply : Reply) (end : State)
    → Permitted (bare strict s) request reply end
    → (end ≡ bare strict end.session) × strictly.Allowed s request reply end.session
unfolding step
strict-allowed s request reply end p =
    let found =
    under-session (bare strict s) (permitted strict s request.ask reply.answer) end
    (sym (stateless-judged (bare strict s) request.ask reply.answer refl)
    ∙ (ap (λ ask. judged (bare strict s) ask reply.answer) (sym (put-same strict s request.ask refl))
    ∙ p.step)) in (
      found.1,
      step-is_allowed s request reply end.session p.same_id
          (sym (strict-permitted s request.ask reply.answer) ∙ found.0),
    )

pub strict-both : (s : sessions.State) (request : Request) (reply : Reply) (end : State)
    → Permitted (bare strict s) request reply end
    ↔ ((end ≡ bare strict end.session) × strictly.Allowed s request reply end.session)
strict-both s request reply end = (
  strict-allowed s request reply end,
  λ both.
      subst (Permitted (bare strict s) request reply) (sym both.0)
      (strictly-permitted strict s request reply end.session refl refl both.1),
)

-- ---- outcomes

none-by : (s : sessions.State) (request : Request) (reply : Reply) (o : Option sessions.State)
    → strictly.step s request.ask reply.answer ≡ o → reply.id ≡ request.id
    → ((end : sessions.State) → strictly.Allowed s request reply end → ⊥) → o ≡ None
none-by s request reply None is same never = refl
none-by s request reply (Some end) is same never = absurd (never end (step-is_allowed s request reply end same is))

strict-outcome : (s : State) (request : Request) (reply : Reply) (end : sessions.State) → reply.id ≡ request.id
    → (ok : Bool) → (IsTrue ok → strictly.Allowed s.session request reply end)
    → (ok ≡ false → (other : sessions.State) → strictly.Allowed s.session request reply other → ⊥)
    → (ok ≡ false → end ≡ s.session) → IsStrict s request.ask reply.answer ok (under_same s end)
strict-outcome s request reply end same true allowed never kept = record {
  is = ap (under s) (allowed-step s.session request reply end (allowed refl));
  kept = λ e. absurd cc;
}
strict-outcome s request reply end same false allowed never kept = record {
  is = ap (under s) (none-by s.session request reply _ refl same (never refl));
  kept = λ e. ap (under_same s) (kept refl);
}

-- what the session says of a reply
pub strict-result : (s : State) (request : Request) (reply : Reply) (end : sessions.State) → reply.id ≡ request.id
    → (result : Result Bool NoMemory) → IfOk result (λ ok. IsTrue ok → strictly.Allowed s.session request reply end)
    → IfOk result (λ ok. ok ≡ false → (other : sessions.State) → strictly.Allowed s.session request reply other → ⊥)
    → IfOk result (λ ok. ok ≡ false → end ≡ s.session)
    → IfOk result (λ ok. IsStrict s request.ask reply.answer ok (under_same s end))
strict-result s request reply end same (Ok ok) allowed never kept =
    strict-outcome s request reply end same ok allowed never kept
strict-result s request reply end same (Err e) allowed never kept = tt

-- the first of two is found
pub first-outcome : (at : State) (a b : Option sessions.State) (s end : State) (ok : Bool) → ok ≡ true
    → Outcome (under at a) s ok end → Outcome (under at (first_of a b)) s true end
first-outcome at (Some here) b s end true is_true found = found
first-outcome at None b s end true is_true found = absurd (let is = found.is in cc)
first-outcome at a b s end false is_true found = absurd cc

-- the first of two is not found; then the state is as before
pub second-outcome : (at : State) (a b : Option sessions.State) (s now end : State) (ok : Bool)
    → Outcome (under at a) s false now → Outcome (under at b) now ok end
    → Outcome (under at (first_of a b)) s ok end
second-outcome at (Some here) b s now end ok found next = absurd (let is = found.is in cc)
second-outcome at None b s now end ok found next = record {
  is = next.is;
  kept = λ e. next.kept e ∙ found.kept refl;
}

-- the same of what the second says of the state as it is now
pub second-result : (first second : State → Option sessions.State) (s now end : State) (result : Result Bool NoMemory)
    → (here : Bool) → here ≡ false → Outcome (under s (first s)) s here now
    → IfOk result (λ ok. Outcome (under now (second now)) now ok end)
    → IfOk result (λ ok. Outcome (under s (first_of (first s) (second s))) s ok end)
second-result first second s now end (Ok ok) false is_false found next =
    second-outcome s (first s) (second s) s now end ok found
    (subst (λ (before : State). Outcome (under before (second before)) now ok end) (found.kept refl) next)
second-result first second s now end (Err e) false is_false found next = tt
second-result first second s now end result true is_false found next = absurd cc

-- ---- one request after another

-- the last session counts
under-again : (s : State) (here : sessions.State) (o : Option sessions.State) → under (under_same s here) o ≡ under s o
under-again s here (Some session) = refl
under-again s here None = refl

-- what comes first is found, and what is next leads to a state
pub then-outcome : (at : State) (a : Option sessions.State) (next : sessions.State → Option sessions.State)
    (s mid end : State) (ok : Bool) → ok ≡ true → Outcome (under at a) s ok mid
    → under mid (next mid.session) ≡ Some end
    → Outcome (under at (strictly.and_then a next)) s true end
then-outcome at (Some here) next s mid end true is_true found leads = record {
  is =
      sym (under-again at here (next here))
      ∙ subst (λ (m : State). under m (next m.session) ≡ Some end)
      (sym (same_end _ (under_same at here) mid refl found.is)) leads;
  kept = λ e. absurd cc;
}
then-outcome at None next s mid end true is_true found leads = absurd (let is = found.is in cc)
then-outcome at a next s mid end false is_true found leads = absurd cc

-- the other request with what comes with it
pub follow-outcome : (s mid end : State) (ask : Ask) (answer : Answer) (ok : Bool) → ok ≡ true
    → IsTaken s ask answer ok mid → IsFollowed mid ask answer end → IsTakenFor s ask answer true end
follow-outcome s mid end ask answer true is_true found follows =
    let same : mid.profile ≡ s.profile =
    under-profile s (taken s.profile s.session (asked s.profile s.session ask) answer) mid found.is in
    then-outcome s (taken s.profile s.session (asked s.profile s.session ask) answer)
    (with_followed (followed s.profile ask) answer) s mid end true refl found
    (subst
    (λ (p : Profile). under mid (with_followed (followed p ask) answer mid.session) ≡ Some end) same follows)
follow-outcome s mid end ask answer false is_true found follows = absurd cc

-- ---- what passes as it stands

pub passes-outcome : (s : State) (ask : Ask) (answer : Answer)
    → is_forgiven s.profile s.session ask answer ≡ true → IsForgiven s ask answer true s
unfolding forgiven
passes-outcome s ask answer is = record {
  is =
      ap
      (λ b.
      under s
      (first_of (forgiven_by s.session b)
      (first_of (retold s.session ask (told s.profile s.session ask answer))
      (taken_for s.profile s.session ask answer)))) is;
  kept = λ e. refl;
}

pub unpassed-outcome : (s end : State) (ask : Ask) (answer : Answer) (ok : Bool)
    → is_forgiven s.profile s.session ask answer ≡ false
    → Outcome (under s (first_of (retold s.session ask (told s.profile s.session ask answer))
    (taken_for s.profile s.session ask answer))) s ok end → IsForgiven s ask answer ok end
unfolding forgiven
unpassed-outcome s end ask answer ok not found = record {
  is =
      ap
      (λ b.
      under s
      (first_of (forgiven_by s.session b)
      (first_of (retold s.session ask (told s.profile s.session ask answer))
      (taken_for s.profile s.session ask answer)))) not
      ∙ found.is;
  kept = found.kept;
}

-- ---- replies

pub permitted-reply : (s end : State) (request : Request) (reply : Reply) → reply.id ≡ request.id → (ok : Bool)
    → IsStep s request.ask reply.answer ok end → IsTrue ok → Permitted s request reply end
permitted-reply s end request reply same true found is = record { same_id = same; step = found.is }
permitted-reply s end request reply same false found is = absurd cc

pub refused-reply : (s end : State) (request : Request) (reply : Reply) (ok : Bool)
    → IsStep s request.ask reply.answer ok end → ok ≡ false → (other : State)
    → Permitted s request reply other → ⊥
refused-reply s end request reply true found is other p = absurd cc
refused-reply s end request reply false found is other p =
    let none : step s request.ask reply.answer ≡ None = found.is in
    let some : step s request.ask reply.answer ≡ Some other = p.step in
    cc

-- the answer to the request that stands for this one
pub replaced-outcome : (s end : State) (ask other : Ask) (answer : Answer) (ok : Bool)
    → put s.profile s.session ask ≡ other → IsJudged s other answer ok end → IsStep s ask answer ok end
unfolding step
replaced-outcome s end ask other answer ok is found = record {
  is = ap (λ ask. judged s ask answer) is ∙ found.is;
  kept = found.kept;
}
