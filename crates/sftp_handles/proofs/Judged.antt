-- Which answers are allowed.
use Rattle.sftp_handles.proofs.Imports.{◌≡◌, ◌&&◌, ◌||◌, Bool, true, false, not, List, [], ◌∷◌, Option, Some, refl}
use Rattle.sftp_handles.proofs.Imports.{sym, ap, ◌∙◌, inl, inr, ◌⊎◌, list_any, and_from, Ask, Answer, Status, Request}
use Rattle.sftp_handles.proofs.Imports.{Reply, Cause, CauseSet, every_cause, allows, is_none, State, refuses, causes}
use Rattle.sftp_handles.proofs.Imports.{answers, after, Refuses, Does, Allowed, stepped, step, ◌==◌, nat_lt, ℕ, zero}
use Rattle.sftp_handles.proofs.Imports.{suc, if◌then◌else◌, None, subst, IsTrue, arith, and_parts, both_ways}
use Rattle.sftp_handles.proofs.Imports.{eqb-true, lt-ltb, ltb-true, ne_eqb, same_Some, asked_handle, BadFlags, allow}
use Rattle.sftp_handles.proofs.Imports.{none-each, Said, says, has_code, said_to, IsJudged, IsJudgedCode, IsDone}
use Rattle.sftp_handles.proofs.Imports.{refusal_code, ◌≢◌, nat_le, Result, Ok, Err, IfOk, IfErr, OnOk, OnErr}
use Rattle.sftp_handles.proofs.Imports.{OpenFlags, Place, size, TreeLimits, Refused, Content, Tree, Files, IsKept}
use Rattle.sftp_handles.proofs.Imports.{content_at, limits, Told, done, led, led_to, told_at, has_step, outcome}
use Rattle.sftp_handles.proofs.Imports.{IsFree, pins-stay, limits-stay, Open, File, Listing, open_at, Good, settled}
use Rattle.sftp_handles.proofs.Imports.{Needed, anything, a_file, a_listing, seen, seen_among, seen_file, Row, row_of}
use Rattle.sftp_handles.proofs.Imports.{said_of, path_causes, path_said, causes_by, after_by, told_to, said_by}
use Rattle.sftp_handles.proofs.Imports.{with_new, flags_of, opened_by, IsRefusal, purpose_of}
use Rattle.sftp_handles.specs.Replies.{ok, shows, names, ended}
use Rattle.sftp_packets.specs.declared.requests.Ask.TheVariants as asks
use Rattle.sftp_tree.specs.declared.causes.Refused.TheVariants as refusals
use Rattle.sftp_tree.specs.Requests as paths
use Rattle.sftp_tree.specs.Told as of_tree
use Rattle.sftp_handles.specs.declared.requests.Purpose.TheVariants.{Change}
use Rattle.sftp_handles.specs.Slots.{is_done, changes_by, changes_tree}
use Rattle.sftp_handles.proofs.Good.Pins.{state_of, settled-pinned}
pub mod GivenNames
pub mod QueryReplies

-- ==== Steps by their tests.

any_both : (p q : Cause → Bool) (xs : List Cause) → list_any (λ x. p x && q x) xs ≡ true → list_any p xs ≡ true
any_both p q [] is = absurd cc
any_both p q (x ∷ xs) is = by (any_both p q xs) (p x) refl is
  where
    by : (list_any (λ y. p y && q y) xs ≡ true → list_any p xs ≡ true) → (a : Bool) → p x ≡ a
        → ((p x && q x) || list_any (λ y. p y && q y) xs) ≡ true → (p x || list_any p xs) ≡ true
    by rest true pa e = rw pa refl
    by rest false pa e =
        rw pa (rest (let f : ((false && q x) || list_any (λ y. p y && q y) xs) ≡ true = rw pa at e in f))

-- a code that one of the causes allows says that there is one
pub refused-some : (set : CauseSet) (answer : Answer) → refuses set answer ≡ true → is_none set ≡ false
refused-some set (Status code message language) is = ap not (any_both set (λ cause. allows cause code) every_cause is)
refused-some set other is = absurd cc

-- ---- as a function

step-by : (s : State) (ask : Ask) (answer : Answer) (end : State) (refused none answered : Bool)
    → refuses (causes s ask) answer ≡ refused → is_none (causes s ask) ≡ none → answers s ask answer ≡ answered
    → stepped s ask answer refused (none && answered) ≡ Some end → Refuses s ask answer end ⊎ Does s ask answer end
step-by s ask answer end true none answered refuses_is none_is answers_is e =
    let same : s ≡ end = cc in inl (record { cause = refuses_is; unchanged = sym same })
step-by s ask answer end false true true refuses_is none_is answers_is e =
    let same : after s ask answer ≡ end = cc in
    inr (record { free = none_is; answered = answers_is; changed = sym same })
step-by s ask answer end false true false refuses_is none_is answers_is e = absurd cc
step-by s ask answer end false false answered refuses_is none_is answers_is e = absurd cc

pub step-is_allowed : (s : State) (request : Request) (reply : Reply) (end : State) → reply.id ≡ request.id
    → step s request.ask reply.answer ≡ Some end → Allowed s request reply end
unfolding step
step-is_allowed s request reply end same e = record {
  same_id = same;
  step =
      step-by s request.ask reply.answer end (refuses (causes s request.ask) reply.answer)
      (is_none (causes s request.ask)) (answers s request.ask reply.answer) refl refl refl e;
}

refused-end : (s : State) (ask : Ask) (answer : Answer) (end : State) → Refuses s ask answer end
    → step s ask answer ≡ Some end
unfolding step
refused-end s ask answer end r =
    ap (λ b. stepped s ask answer b (is_none (causes s ask) && answers s ask answer)) r.cause
    ∙ ap (λ (x : State). Some x) (sym r.unchanged)

-- no status refuses what no cause refuses
not-refused : (s : State) (ask : Ask) (answer : Answer) → is_none (causes s ask) ≡ true
    → refuses (causes s ask) answer ≡ false
not-refused s ask answer free = by (refuses (causes s ask) answer) refl
  where
    by : (b : Bool) → refuses (causes s ask) answer ≡ b → refuses (causes s ask) answer ≡ false
    by true is = absurd (let some = refused-some (causes s ask) answer is in cc)
    by false is = is

pub done-step : (s : State) (ask : Ask) (answer : Answer) (end : State) → Does s ask answer end
    → step s ask answer ≡ Some end
unfolding step
done-step s ask answer end d =
    ap (λ b. stepped s ask answer b (is_none (causes s ask) && answers s ask answer)) (not-refused s ask answer d.free)
    ∙ (ap (stepped s ask answer false) (and_from (is_none (causes s ask)) (answers s ask answer) d.free d.answered)
    ∙ ap (λ (x : State). Some x) (sym d.changed))

pub allowed-step : (s : State) (request : Request) (reply : Reply) (end : State) → Allowed s request reply end
    → step s request.ask reply.answer ≡ Some end
allowed-step s request reply end a = elim a.step [
  | inl r ↦ refused-end s request.ask reply.answer end r
  | inr d ↦ done-step s request.ask reply.answer end d
]

-- ---- one end

same_end : (o : Option State) (a b : State) → o ≡ Some a → o ≡ Some b → a ≡ b
same_end o a b is_a is_b = cc

pub allowed-one_end : (s : State) (request : Request) (reply : Reply) (a b : State) → Allowed s request reply a
    → Allowed s request reply b → a ≡ b
allowed-one_end s request reply a b to_a to_b =
    same_end (step s request.ask reply.answer) a b (allowed-step s request reply a to_a)
    (allowed-step s request reply b to_b)

-- ==== Judgements: whether an answer is allowed, and the state then, by the causes and by what the answer says.

-- ---- causes

-- a cause that holds says that there is one
pub some-holds : (set : CauseSet) (cause : Cause) → IsTrue (set cause) → is_none set ≡ false
some-holds set cause holds = by (is_none set) refl
  where
    by : (b : Bool) → is_none set ≡ b → is_none set ≡ false
    by true none = absurd (let is = none-each set none cause in cc)
    by false some = some

neither : (a b : Bool) → b ≡ false → (a && b) ≡ false
neither true b is = is
neither false b is = refl

none-allow : (set : CauseSet) (test : Cause → Bool) (causes : List Cause) → ((cause : Cause) → test cause ≡ false)
    → list_any (λ cause. set cause && test cause) causes ≡ false
none-allow set test [] none = refl
none-allow set test (c ∷ cs) none = rw (neither (set c) (test c) (none c)) (none-allow set test cs none)

zero-not_allowed : (cause : Cause) → allows cause 0 ≡ false
zero-not_allowed BadFlags = refl
zero-not_allowed _ = refl

-- no cause allows the code that says OK
pub allow-zero : (set : CauseSet) → allow set 0 ≡ false
allow-zero set = none-allow set (λ cause. allows cause 0) every_cause zero-not_allowed

one-not_allowed : (cause : Cause) → allows cause 1 ≡ false
one-not_allowed BadFlags = refl
one-not_allowed _ = refl

-- nor the code that says that the end was reached
pub allow-one : (set : CauseSet) → allow set 1 ≡ false
allow-one set = none-allow set (λ cause. allows cause 1) every_cause one-not_allowed

-- ---- steps by the causes and the answer

stepped-none : (s : State) (ask : Ask) (answer : Answer) (free answered : Bool) → (free ≡ true → answered ≡ false)
    → stepped s ask answer false (free && answered) ≡ None
stepped-none s ask answer false answered never = refl
stepped-none s ask answer true answered never = ap (stepped s ask answer false) (never refl)

-- an answer that no cause allows, and that is not the request's where no cause holds
pub not-allowed : (s : State) (ask : Ask) (answer : Answer) → refuses (causes s ask) answer ≡ false
    → (is_none (causes s ask) ≡ true → answers s ask answer ≡ false) → step s ask answer ≡ None
unfolding step
not-allowed s ask answer unlike never =
    ap (λ b. stepped s ask answer b (is_none (causes s ask) && answers s ask answer)) unlike
    ∙ stepped-none s ask answer (is_none (causes s ask)) (answers s ask answer) never

-- a cause holds, and none that does allows the answer
pub none-allowed : (s : State) (ask : Ask) (answer : Answer) → is_none (causes s ask) ≡ false
    → refuses (causes s ask) answer ≡ false → step s ask answer ≡ None
none-allowed s ask answer some unlike =
    not-allowed s ask answer unlike (λ free. absurd (let clash : true ≡ false = sym free ∙ some in cc))

-- the answer is not the request's, and no cause allows it
pub not-answered : (s : State) (ask : Ask) (answer : Answer) → answers s ask answer ≡ false
    → refuses (causes s ask) answer ≡ false → step s ask answer ≡ None
not-answered s ask answer other unlike = not-allowed s ask answer unlike (λ free. other)

-- a cause that holds allows the answer
pub refused-step : (s : State) (ask : Ask) (answer : Answer) → refuses (causes s ask) answer ≡ true
    → step s ask answer ≡ Some s
unfolding step
refused-step s ask answer is =
    ap (λ b. stepped s ask answer b (is_none (causes s ask) && answers s ask answer)) is

-- ---- judgements

pub judged-some : (s : State) (ask : Ask) (answer : Answer) (end : State) → step s ask answer ≡ Some end
    → IsJudged s ask answer true end
judged-some s ask answer end is = record { step_is = is; kept = λ e. absurd cc }

pub judged-none : (s : State) (ask : Ask) (answer : Answer) → step s ask answer ≡ None
    → IsJudged s ask answer false s
judged-none s ask answer is = record { step_is = is; kept = λ e. refl }

-- what a request was asked for is done
pub judged-done : (s : State) (ask : Ask) (answer : Answer) (end : State) → Does s ask answer end
    → IsJudged s ask answer true end
judged-done s ask answer end d = judged-some s ask answer end (done-step s ask answer end d)

-- a cause that holds refuses an answer that no cause allows
pub judged-refused : (s : State) (ask : Ask) (answer : Answer) (cause : Cause) → IsTrue (causes s ask cause)
    → refuses (causes s ask) answer ≡ false → IsJudged s ask answer false s
judged-refused s ask answer cause holds unlike =
    judged-none s ask answer (none-allowed s ask answer (some-holds (causes s ask) cause holds) unlike)

-- an answer that no cause allows, to a request that then changes nothing: it is allowed if no cause holds and it is the
-- request's
pub judged-still : (s : State) (ask : Ask) (answer : Answer) (allowed : Bool)
    → refuses (causes s ask) answer ≡ false → (answers s ask answer ≡ true → after s ask answer ≡ s)
    → allowed ≡ (is_none (causes s ask) && answers s ask answer) → IsJudged s ask answer allowed s
judged-still s ask answer true unlike still is =
    let parts = and_parts (is_none (causes s ask)) (answers s ask answer) (sym is) in
    judged-done s ask answer s (record { free = parts.0; answered = parts.1; changed = sym (still parts.1) })
judged-still s ask answer false unlike still is = judged-none s ask answer (not-allowed s ask answer unlike never)
  where
    never : is_none (causes s ask) ≡ true → answers s ask answer ≡ false
    never free = sym (is ∙ ap (λ b. b && answers s ask answer) free)

-- ---- statuses

-- a status of another code than 0 and 1 says nothing of a request that was done
pub says-other : (said : Said) (code : ℕ) (message language : List ℕ) → (code == 0) ≡ false → (code == 1) ≡ false
    → says said (Status code message language) ≡ false
says-other ok code message language not_ok not_end = not_ok
says-other ended code message language not_ok not_end = not_end
says-other (shows None) code message language not_ok not_end = refl
says-other (names None) code message language not_ok not_end = refl
says-other other code message language not_ok not_end = refl

answers-other : (s : State) (ask : Ask) (code : ℕ) (message language : List ℕ) → (code == 0) ≡ false
    → (code == 1) ≡ false → answers s ask (Status code message language) ≡ false
unfolding answers
answers-other s ask code message language = says-other (said_to s ask (asked_handle ask)) code message language

-- so it is allowed exactly if a cause that holds allows its code
pub judged-other : (s : State) (ask : Ask) (code : ℕ) (allowed : Bool) → (code == 0) ≡ false → (code == 1) ≡ false
    → allow (causes s ask) code ≡ allowed → IsJudgedCode s ask code allowed s
judged-other s ask code true not_ok not_end is message language =
    judged-some s ask (Status code message language) s (refused-step s ask (Status code message language) is)
judged-other s ask code false not_ok not_end is message language =
    judged-none s ask (Status code message language)
    (not-answered s ask (Status code message language) (answers-other s ask code message language not_ok not_end) is)

-- a status with a code that can refuse is allowed exactly if a cause that holds allows the code
judged-code : (s : State) (ask : Ask) (c code : ℕ) (message language : List ℕ) (allowed above : Bool) → nat_lt 1 c ≡ above
    → (if above then Some c else None) ≡ Some code → allow (causes s ask) code ≡ allowed
    → IsJudged s ask (Status c message language) allowed s
judged-code s ask c code message language allowed true above is judged =
    let less = ltb-true 1 c above in
    judged-other s ask c allowed (ne_eqb c 0 (λ e. absurd (omega (arith, less, e))))
    (ne_eqb c 1 (λ e. absurd (omega (arith, less, e))))
    (ap (allow (causes s ask)) (same_Some c code is) ∙ judged) message language
judged-code s ask c code message language allowed false above is judged = absurd cc

pub judged-refusal : (s : State) (ask : Ask) (answer : Answer) (code : ℕ) (allowed : Bool)
    → refusal_code answer ≡ Some code → allow (causes s ask) code ≡ allowed → IsJudged s ask answer allowed s
judged-refusal s ask (Status c message language) code allowed is judged =
    judged-code s ask c code message language allowed (nat_lt 1 c) refl is judged
judged-refusal s ask other code allowed is judged = absurd cc

few-codes : (set : CauseSet) (c : ℕ) (above : Bool) → nat_lt 1 c ≡ above
    → (if above then Some c else None) ≡ None → allow set c ≡ false
few-codes set zero above above_is is = allow-zero set
few-codes set (suc zero) above above_is is = allow-one set
few-codes set (suc (suc c)) true above_is is = absurd cc
few-codes set (suc (suc c)) false above_is is =
    absurd (both_ways (nat_lt 1 (suc (suc c))) above_is (lt-ltb 1 (suc (suc c)) (omega arith)))

-- no cause allows another answer
pub unlike : (s : State) (ask : Ask) (answer : Answer) → refusal_code answer ≡ None
    → refuses (causes s ask) answer ≡ false
unlike s ask (Status c message language) is = few-codes (causes s ask) c (nat_lt 1 c) refl is
unlike s ask other is = refl

-- a status with a code is any with that code
pub judged-coded : (s : State) (ask : Ask) (answer : Answer) (code : ℕ) (allowed : Bool) (end : State)
    → has_code code answer ≡ true → IsJudgedCode s ask code allowed end → IsJudged s ask answer allowed end
judged-coded s ask (Status c message language) code allowed end is judged =
    subst (λ (n : ℕ). IsJudged s ask (Status n message language) allowed end) (sym (eqb-true c code is))
    (judged message language)
judged-coded s ask other code allowed end is judged = absurd cc

-- a request that is done
pub judged-ok : (s : State) (ask : Ask) (end : State) → IsDone s ask end → IsJudgedCode s ask 0 true end
judged-ok s ask end does message language =
    judged-done s ask (Status 0 message language) end (does message language)

-- a request that a cause refuses
pub judged-not_ok : (s : State) (ask : Ask) (cause : Cause) → IsTrue (causes s ask cause)
    → IsJudgedCode s ask 0 false s
judged-not_ok s ask cause holds message language =
    judged-refused s ask (Status 0 message language) cause holds (allow-zero (causes s ask))

-- ---- what the reply says

pub answers-said : (s : State) (ask : Ask) (said : Said) (answer : Answer) → said_to s ask (asked_handle ask) ≡ said
    → answers s ask answer ≡ says said answer
unfolding answers
answers-said s ask said answer is = ap (λ said. says said answer) is

-- ---- replies

-- a reply with the id of the request is allowed exactly if its answer is
pub allowed-reply : (s : State) (request : Request) (reply : Reply) (end : State) (allowed : Bool)
    → reply.id ≡ request.id → IsJudged s request.ask reply.answer allowed end → IsTrue allowed
    → Allowed s request reply end
allowed-reply s request reply end true same judged is = step-is_allowed s request reply end same judged.step_is
allowed-reply s request reply end false same judged is = absurd cc

pub refused-reply : (s : State) (request : Request) (reply : Reply) (end : State) (allowed : Bool)
    → IsJudged s request.ask reply.answer allowed end → allowed ≡ false
    → (other : State) → Allowed s request reply other → ⊥
refused-reply s request reply end true judged is other a = absurd cc
refused-reply s request reply end false judged is other a =
    let none : step s request.ask reply.answer ≡ None = judged.step_is in
    let some = allowed-step s request reply other a in
    cc

-- ==== Replies that say OK: which requests are done, and which have another answer.

-- ---- a call that does a request

-- what the call returns says whether the request is done
pub judged-call : {A : Type 0} (s : State) (ask : Ask) (answer : Answer) (end : State) (call : Result A Refused)
    → has_code 0 answer ≡ true → OnOk call (IsDone s ask end) → IfErr call (IsRefusal s ask) → OnErr call (end ≡ s)
    → IfOk (is_done call) (λ allowed. IsJudged s ask answer allowed end)
judged-call s ask answer end (Ok value) coded does refused kept =
    judged-coded s ask answer 0 true end coded (judged-ok s ask end does)
judged-call s ask answer end (Err (refusals.Cause cause)) coded does refused kept =
    subst (λ (t : State). IsJudged s ask answer false t) (sym kept)
    (judged-coded s ask answer 0 false s coded (judged-not_ok s ask cause refused))
judged-call s ask answer end (Err refusals.NoMemory) coded does refused kept = tt

-- ---- requests that change the tree

record IsChange (s : State) (ask : Ask) : Type 0 where
  pub on_paths : IsTrue (has_step ask)
  pub no_handle : asked_handle ask ≡ None
  pub same_causes : path_causes s ask ≡ paths.causes s.tree ask
  pub same_said : path_said s ask ≡ said_by s.handles (told_to s.tree ask)
  pub says_done : (place : Place) → told_at s.tree ask place ≡ done

is-change : (s : State) (ask : Ask) → IsTrue (changes_tree ask) → IsChange s ask
is-change s (asks.Close handle) is = absurd cc
is-change s other is =
    record { on_paths = cc; no_handle = cc; same_causes = cc; same_said = cc; says_done = λ place. cc }

pub change-causes : (s : State) (ask : Ask) → IsTrue (changes_tree ask) → causes s ask ≡ paths.causes s.tree ask
unfolding causes
change-causes s ask is = ap (causes_by s ask) (is-change s ask is).no_handle ∙ (is-change s ask is).same_causes

-- a refusal of the tree is one of the session
pub change-refused : (s : State) (ask : Ask) (refused : Refused) → IsTrue (changes_tree ask)
    → of_tree.IsRefusal s.tree ask refused → IsRefusal s ask refused
change-refused s ask (refusals.Cause cause) changes is = ap (λ set. set cause) (change-causes s ask changes) ∙ is
change-refused s ask refusals.NoMemory changes is = tt

led_to-done : (end : Option (Result Place Cause)) (at : Place → Told) → ((place : Place) → at place ≡ done)
    → led_to done end at ≡ done
led_to-done None at is = refl
led_to-done (Some (Err cause)) at is = refl
led_to-done (Some (Ok place)) at is = is place

told-done : (s : State) (ask : Ask) → IsTrue (changes_tree ask) → told_to s.tree ask ≡ done
unfolding told_to
told-done s ask is = led_to-done (led s.tree ask) (told_at s.tree ask) (is-change s ask is).says_done

path-ok : (s : State) (ask : Ask) → IsTrue (changes_tree ask) → path_said s ask ≡ ok
path-ok s ask is = (is-change s ask is).same_said ∙ ap (said_by s.handles) (told-done s ask is)

change-after : (s : State) (ask : Ask) (answer : Answer) → IsTrue (changes_tree ask)
    → after s ask answer ≡ settled (outcome s.tree ask) s.handles
unfolding after
change-after s ask answer is =
    ap (after_by s ask answer) (is-change s ask is).no_handle
    ∙ ap (λ told. settled (outcome s.tree ask) (with_new s.handles (opened_by (flags_of ask) told) answer))
    (told-done s ask is)

module _ (s : State) (ask : Ask) (t : Tree) (good : Good s) (changes : IsTrue (changes_tree ask))
    (is : t ≡ paths.after s.tree ask) where
  pub change-done : IsFree s.tree ask → IsDone s ask (state_of t s.handles)
  change-done free message language = record {
    free = ap is_none (change-causes s ask changes) ∙ free;
    answered =
        answers-said s ask ok (Status 0 message language)
        (ap (said_to s ask) (is-change s ask changes).no_handle ∙ path-ok s ask changes);
    changed =
        ap (λ t. state_of t s.handles) is
        ∙ sym
        (change-after s ask (Status 0 message language) changes
        ∙ settled-pinned (outcome s.tree ask) s.handles (pins-stay s.tree ask ∙ good.pinned));
  }

  pub change-good : IsKept t → Good (state_of t s.handles)
  change-good kept = record {
    tree = kept;
    pinned = ap (λ t. t.pins) is ∙ (pins-stay s.tree ask ∙ good.pinned);
    ordered = good.ordered;
    handles = good.handles;
    few =
        ap (λ t. nat_le (size s.handles) (limits t).open_handles) is
        ∙ (ap (λ bounds. nat_le (size s.handles) bounds.open_handles) (limits-stay s.tree ask) ∙ good.few);
  }

-- ---- what the reply to a change says

-- through a handle
record IsOk (ask : Ask) : Type 0 where
  pub no_listing : (row_of ask).needed ≢ a_listing
  pub told : (bounds : TreeLimits) (before : Content) → (row_of ask).said_of_file bounds before ≡ ok

is-ok : (ask : Ask) → purpose_of ask ≡ Change → IsOk ask
is-ok (asks.Close handle) is = record { no_listing = λ needs. cc; told = λ bounds before. refl }
is-ok other is = record { no_listing = λ needs. cc; told = λ bounds before. cc }

module _ (bounds : TreeLimits) (row : Row) (told : (before : Content) → row.said_of_file bounds before ≡ ok) where
  content-ok : (number : ℕ) (flags : OpenFlags) (content : Option Content)
      → said_of bounds row (seen_file number flags content) ≡ ok
  content-ok number flags None = refl
  content-ok number flags (Some before) = told before

  seen-ok : (files : Files) (needed : Needed) (found : Option Open) → needed ≢ a_listing
      → said_of bounds row (seen_among files needed found) ≡ ok
  seen-ok files needed None other = refl
  seen-ok files anything (Some it) other = refl
  seen-ok files a_file (Some (File number flags)) other = content-ok number flags (content_at files number)
  seen-ok files a_file (Some (Listing left)) other = refl
  seen-ok files a_listing (Some it) other = absurd (other refl)

module _ (s : State) (ask : Ask) (is : purpose_of ask ≡ Change) where
  said-ok : (named : Option (List ℕ)) → asked_handle ask ≡ named → said_to s ask named ≡ ok
  unfolding seen
  said-ok None asked = path-ok s ask (λ i. changes_by (is i) (asked i))
  said-ok (Some handle) asked =
      seen-ok (limits s.tree) (row_of ask) ((is-ok ask is).told (limits s.tree)) s.tree.files (row_of ask).needed
      (open_at s.handles handle) (is-ok ask is).no_listing

  pub change-said : said_to s ask (asked_handle ask) ≡ ok
  change-said = said-ok (asked_handle ask) refl

-- an answer that does not say OK
pub judged-other_answer : (s : State) (ask : Ask) (answer : Answer) → purpose_of ask ≡ Change
    → refusal_code answer ≡ None → has_code 0 answer ≡ false → IsJudged s ask answer false s
judged-other_answer s ask answer is code other =
    judged-none s ask answer
    (not-answered s ask answer (answers-said s ask ok answer (change-said s ask is) ∙ other) (unlike s ask answer code))
