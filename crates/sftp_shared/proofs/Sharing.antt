-- What a step and a leave change of what is open.
use Rattle.std.proofs.Common.{◌≡◌, ◌≢◌, ◌⊎◌, inl, inr, ℕ, Bool, true, false, not, List, [], ◌∷◌, refl, sym, ap, ◌∙◌}
use Rattle.std.proofs.Common.{◌^◌, ◌<◌, Option, Some, None, subst, take, cond, IsTrue, arith}
use Rattle.std.proofs.lemmas.Bool.{cases_Bool}
use Rattle.std.proofs.lemmas.List.{take_at}
use Rattle.std.specs.Int.{w32, from_be_bytes}
use Rattle.sftp_strings.specs.Strings.{uint32}
use Rattle.sftp_strings.proofs.Bytes.{wide32}
use Rattle.sftp_handles.proofs.Imports.{bytes_cmp, bytes_cmp-same, nat_list_cmp_total, bytes_decides, same_bytes, InOrder}
use Rattle.sftp_handles.proofs.Imports.{get-put, get-without, is_eq, Equal-is, Handles, open_at, with_open, without_open}
use Rattle.sftp_handles.proofs.Imports.{State, Good, Ask, Answer, Request, Reply}
use Rattle.sftp_handles.specs.declared.opens.Open.{Open}
use Rattle.sftp_handles.specs.declared.opens.Open.TheVariants.{Listing}
use Rattle.sftp_handles.proofs.Imports.{Change, nothing, rewrites, leaves, closes, changed, change_of, row_of, seen}
use Rattle.sftp_handles.proofs.Imports.{after, after_by, with_new, opened_by, flags_of, told_to, asked_handle}
use Rattle.sftp_handles.proofs.Imports.{Allowed, Refuses, Does, InOrder-retain}
unfoldable use Rattle.sftp_path.specs.Table.{get, retain}
use Rattle.sftp_path.specs.Table.{kept}
use Rattle.sftp_path.proofs.Table.Laws.{get-retain}
use Rattle.sftp_packets.specs.declared.replies.Answer.TheVariants as answers
use Rattle.sftp_joint.specs.Joint.{joint_handle}
use Rattle.sftp_joint.specs.Deeds.{AreAsked, Deed, answered, departed}
use Rattle.sftp_joint.proofs.Ownership.{Premises, AreValues}
use Rattle.sftp_joint.proofs.Translated.{IgnoresIds}
use Rattle.std.proofs.Common.{zero, suc, ◌≤◌, length, nat_lt, lt-ltb, le-leb, leb-true}
use Rattle.std.proofs.lemmas.Bool.{false≢true}
use Rattle.std.specs.List.{filter}
use Rattle.sftp_handles.proofs.Imports.{IsAsk, IsHandle, pins_of, opens_file, is_pinned, times_pinned, limits, each-retain, seen_among}
use Rattle.sftp_handles.proofs.Good.{good-by, good-opens}
use Rattle.sftp_handles.proofs.Good.Pins.{pins-times}
use Rattle.sftp_shared.specs.Sharing.{is_of, without_client, left_by}

-- ==== A step.

apart-names : (a b : List ℕ) → (a ≡ b → ⊥) → is_eq (bytes_cmp a b) ≡ false
apart-names a b apart = by (is_eq (bytes_cmp a b)) refl
  where
    by : (t : Bool) → is_eq (bytes_cmp a b) ≡ t → is_eq (bytes_cmp a b) ≡ false
    by true is = absurd (apart (bytes_cmp-same a b ((Equal-is (bytes_cmp a b)).0 is)))
    by false is = is

put-other : (handles : Handles) (handle name : List ℕ) (it : Open) → (handle ≡ name → ⊥)
    → open_at (with_open handles handle it) name ≡ open_at handles name
put-other handles handle name it apart =
    get-put bytes_cmp nat_list_cmp_total handles handle it name
    ∙ ap (λ t. cond t (Some it) (open_at handles name)) (apart-names name handle (λ e. apart (sym e)))

shut-other : (handles : Handles) (handle name : List ℕ) → InOrder bytes_cmp handles → (handle ≡ name → ⊥)
    → open_at (without_open handles handle) name ≡ open_at handles name
shut-other handles handle name order apart =
    get-without bytes_cmp nat_list_cmp_total handles handle name order
    ∙ ap (λ t. cond t None (open_at handles name)) (apart-names handle name apart)

changed-other : (s : State) (handle name : List ℕ) (change : Change) → InOrder bytes_cmp s.handles
    → (handle ≡ name → ⊥) → open_at (changed s handle change).handles name ≡ open_at s.handles name
changed-other s handle name nothing order apart = refl
changed-other s handle name (rewrites number next) order apart = refl
changed-other s handle name (leaves left) order apart = put-other s.handles handle name (Listing left) apart
changed-other s handle name closes order apart = shut-other s.handles handle name order apart

new-other : (handles : Handles) (it : Option Open) (answer : Answer) (name : List ℕ)
    → (answer ≡ answers.Handle name → ⊥) → open_at (with_new handles it answer) name ≡ open_at handles name
new-other handles (Some it) (answers.Handle handle) name apart =
    put-other handles handle name it (λ e. apart (ap (λ (n : List ℕ). answers.Handle n) e))
new-other handles None answer name apart = refl
new-other handles (Some it) answer name apart = refl

after-other : (s : State) (ask : Ask) (answer : Answer) (named : Option (List ℕ)) (name : List ℕ)
    → InOrder bytes_cmp s.handles → (named ≡ Some name → ⊥) → (answer ≡ answers.Handle name → ⊥)
    → open_at (after_by s ask answer named).handles name ≡ open_at s.handles name
after-other s ask answer None name order apart given =
    new-other s.handles (opened_by (flags_of ask) (told_to s.tree ask)) answer name given
after-other s ask answer (Some handle) name order apart given =
    changed-other s handle name (change_of (row_of ask) (seen s (row_of ask).needed handle) answer) order
    (λ e. apart (ap (λ (n : List ℕ). Some n) e))

-- a step changes at most what is open under the name that its request has and under the one that its reply gives
pub frame : (s end : State) (request : Request) (reply : Reply) (name : List ℕ) → Good s
    → Allowed s request reply end → (asked_handle request.ask ≡ Some name → ⊥)
    → (reply.answer ≡ answers.Handle name → ⊥) → open_at end.handles name ≡ open_at s.handles name
unfolding after
frame s end request reply name good allowed apart given = elim allowed.step [
  | inl refused ↦ ap (λ (s : State). open_at s.handles name) refused.unchanged
  | inr done ↦
      ap (λ (s : State). open_at s.handles name) done.changed
      ∙ after-other s request.ask reply.answer (asked_handle request.ask) name good.ordered apart given
]

-- ==== A leave.

pub joint-is_of : (client : ℕ) (h : List ℕ) → is_of client (joint_handle client h) ≡ true
joint-is_of client h =
    (bytes_decides (take 4 (joint_handle client h)) (uint32 client)).1 (take_at (uint32 client) h 4 (wide32.len client))

pub joint-is_other : (client other : ℕ) (h : List ℕ) → client < 2 ^ 32 → other < 2 ^ 32 → (client ≡ other → ⊥)
    → is_of client (joint_handle other h) ≡ false
joint-is_other client other h fits fits_other apart = by (is_of client (joint_handle other h)) refl
  where
    by : (t : Bool) → is_of client (joint_handle other h) ≡ t → is_of client (joint_handle other h) ≡ false
    by true is =
        absurd
        (let same : uint32 other ≡ uint32 client =
        sym (take_at (uint32 other) h 4 (wide32.len other))
        ∙ (bytes_decides (take 4 (joint_handle other h)) (uint32 client)).0 is in
        apart
        (sym (wide32.again client fits)
        ∙ (ap (from_be_bytes w32) (sym same) ∙ wide32.again other fits_other)))
    by false is = is

pub kept-none : (client : ℕ) (name : List ℕ) (found : Option Open) → is_of client name ≡ true
    → kept (λ e. not (is_of client e.0)) name found ≡ None
kept-none client name None is = refl
kept-none client name (Some it) is = rw is refl

pub kept-all : (client : ℕ) (name : List ℕ) (found : Option Open) → is_of client name ≡ false
    → kept (λ e. not (is_of client e.0)) name found ≡ found
kept-all client name None is = refl
kept-all client name (Some it) is = rw is refl

pub left-found : (client : ℕ) (s : State) (name : List ℕ) → InOrder bytes_cmp s.handles
    → open_at (left_by client s).handles name ≡ kept (λ e. not (is_of client e.0)) name (open_at s.handles name)
left-found client s name order =
    get-retain bytes_cmp nat_list_cmp_total bytes_cmp-same s.handles (λ e. not (is_of client e.0)) name order

-- what the client had open is closed
pub left-own : (client : ℕ) (s : State) (h : List ℕ) → Good s
    → open_at (left_by client s).handles (joint_handle client h) ≡ None
left-own client s h good =
    left-found client s (joint_handle client h) good.ordered
    ∙ kept-none client (joint_handle client h) (open_at s.handles (joint_handle client h)) (joint-is_of client h)

-- and nothing else
pub left-others : (client other : ℕ) (s : State) (h : List ℕ) → client < 2 ^ 32 → other < 2 ^ 32
    → (client ≡ other → ⊥) → Good s
    → open_at (left_by client s).handles (joint_handle other h) ≡ open_at s.handles (joint_handle other h)
left-others client other s h fits fits_other apart good =
    left-found client s (joint_handle other h) good.ordered
    ∙ kept-all client (joint_handle other h) (open_at s.handles (joint_handle other h))
    (joint-is_other client other h fits fits_other apart)

-- ==== A leave keeps a state good.

-- entries that pass two tests are among those that pass the second
fewer-twice : (p q : List ℕ × Open → Bool) (es : Handles) → length (filter p (filter q es)) ≤ length (filter p es)
fewer-twice p q [] = omega arith
fewer-twice p q (e ∷ es) = by (q e) (p e) refl refl (fewer-twice p q es)
  where
    by : (a b : Bool) → q e ≡ a → p e ≡ b → length (filter p (filter q es)) ≤ length (filter p es)
        → length (filter p (cond a (e ∷ filter q es) (filter q es))) ≤ length (cond b (e ∷ filter p es) (filter p es))
    by true true is_q is_p later = rw is_p (omega (arith, later))
    by true false is_q is_p later = rw is_p later
    by false true is_q is_p later = omega (arith, later)
    by false false is_q is_p later = later

fewer-once : (q : List ℕ × Open → Bool) (es : Handles) → length (filter q es) ≤ length es
fewer-once q [] = omega arith
fewer-once q (e ∷ es) = by (q e) (fewer-once q es)
  where
    by : (a : Bool) → length (filter q es) ≤ length es
        → length (cond a (e ∷ filter q es) (filter q es)) ≤ length (e ∷ es)
    by true later = omega (arith, later)
    by false later = omega (arith, later)

still-pinned : (n m : ℕ) → m ≤ n → nat_lt 0 m ≡ true → nat_lt 0 n ≡ true
still-pinned zero zero less is = is
still-pinned (suc n) m less is = lt-ltb 0 (suc n) (omega arith)
still-pinned zero (suc m) less is = absurd (omega (arith, less))

pub less-pinned : (client : ℕ) (handles : Handles) (number : ℕ)
    → IsTrue (is_pinned (pins_of (without_client client handles)) number) → IsTrue (is_pinned (pins_of handles) number)
unfolding retain
less-pinned client handles number pinned =
    let before = pins-times handles number in
    let after = pins-times (without_client client handles) number in
    let less = fewer-twice (λ e. opens_file number e.1) (λ e. not (is_of client e.0)) handles in
    still-pinned (times_pinned (pins_of handles) number)
    (times_pinned (pins_of (without_client client handles)) number) (omega (arith, before, after, less)) pinned

pub left-good : (client : ℕ) (s : State) → Good s → Good (left_by client s)
unfolding retain
left-good client s good =
    good-by s.tree (without_client client s.handles) good.tree.well_formed good.tree.within_limits
    (λ number pinned. good-opens s good number (less-pinned client s.handles number pinned))
    (InOrder-retain bytes_cmp s.handles (λ e. not (is_of client e.0)) good.ordered)
    (each-retain IsHandle IsHandle s.handles (λ e. not (is_of client e.0)) (λ e is keeps. is) good.handles)
    (le-leb (length (filter (λ e. not (is_of client e.0)) s.handles)) (limits s.tree).open_handles
    (omega (
      arith,
      fewer-once (λ e. not (is_of client e.0)) s.handles,
      leb-true (length s.handles) (limits s.tree).open_handles good.few,
    )))

-- ==== What opens something.

-- what is open under a name, if anything is
abbrev pub open_in : State → List ℕ → Option Open
open_in s name = open_at s.handles name

pub some-or-none : (o : Option Open) → (o ≡ None) ⊎ (o ≢ None)
some-or-none None = inl refl
some-or-none (Some it) = inr (λ none. cc)

not-none : (o : Option Open) (it : Open) → o ≡ Some it → o ≢ None
not-none o it is none = cc

-- the handle of a request under which it changes what is open is open
changed-opens : (s : State) (ask : Ask) (handle : List ℕ) (answer : Answer)
    → InOrder bytes_cmp s.handles → open_at s.handles handle ≡ None
    → open_at (changed s handle (change_of (row_of ask) (seen s (row_of ask).needed handle) answer)).handles handle ≡ None
unfolding seen
changed-opens s ask handle answer order none =
    subst (λ (o : Option Open). open_at (changed s handle (change_of (row_of ask) (seen_among s.tree.files (row_of ask).needed o) answer)).handles handle ≡ None)
    (sym none) none

through-given : (s : State) (ask : Ask) (answer : Answer) (handle name : List ℕ) → InOrder bytes_cmp s.handles
    → open_at (after_by s ask answer (Some handle)).handles name ≢ None → open_at s.handles name ≢ None
through-given s ask answer handle name order there = elim (cases_Bool (same_bytes handle name)) [
  | inl same ↦
      let is : handle ≡ name = (bytes_decides handle name).0 same in
      λ none.
      there
      (subst (λ (n : List ℕ). open_at (after_by s ask answer (Some handle)).handles n ≡ None) is
      (changed-opens s ask handle answer order (ap (open_at s.handles) is ∙ none)))
  | inr other ↦
      λ none.
      there
      (changed-other s handle name (change_of (row_of ask) (seen s (row_of ask).needed handle) answer) order
      (λ is. false≢true (sym other ∙ (bytes_decides handle name).1 is)) ∙ none)
]

path-given : (handles : Handles) (it : Option Open) (answer : Answer) (name : List ℕ)
    → open_at (with_new handles it answer) name ≢ None
    → (open_at handles name ≢ None) ⊎ (answer ≡ answers.Handle name)
path-given handles (Some it) (answers.Handle handle) name there = elim (cases_Bool (same_bytes handle name)) [
  | inl same ↦ inr (ap (λ (n : List ℕ). answers.Handle n) ((bytes_decides handle name).0 same))
  | inr other ↦
      inl
      (λ none.
      there
      (put-other handles handle name it (λ is. false≢true (sym other ∙ (bytes_decides handle name).1 is)) ∙ none))
]
path-given handles None answer name there = inl there
path-given handles (Some it) answer name there = inl there

after-given : (s : State) (ask : Ask) (answer : Answer) (named : Option (List ℕ)) (name : List ℕ)
    → InOrder bytes_cmp s.handles → open_at (after_by s ask answer named).handles name ≢ None
    → (open_at s.handles name ≢ None) ⊎ (answer ≡ answers.Handle name)
after-given s ask answer None name order there =
    path-given s.handles (opened_by (flags_of ask) (told_to s.tree ask)) answer name there
after-given s ask answer (Some handle) name order there = inl (through-given s ask answer handle name order there)

-- only a reply that gives a name opens something under it
pub given : (s end : State) (request : Request) (reply : Reply) (name : List ℕ) → Good s
    → Allowed s request reply end → open_at end.handles name ≢ None
    → (open_at s.handles name ≢ None) ⊎ (reply.answer ≡ answers.Handle name)
unfolding after
given s end request reply name good allowed there = elim allowed.step [
  | inl refused ↦ inl (subst (λ (s : State). open_at s.handles name ≢ None) refused.unchanged there)
  | inr done ↦
      after-given s request.ask reply.answer (asked_handle request.ask) name good.ordered
      (subst (λ (s : State). open_at s.handles name ≢ None) done.changed there)
]

pub kept-some : (client : ℕ) (name : List ℕ) (found : Option Open)
    → kept (λ e. not (is_of client e.0)) name found ≢ None → found ≢ None
kept-some client name None there none = there refl
kept-some client name (Some it) there none = cc

pub premises : ((s : State) (request : Request) (reply : Reply) (end : State) → Good s → IsAsk request.ask
    → Allowed s request reply end → Good end)
    → Premises open_in Allowed left_by Good (λ request. IsAsk request.ask)
premises stays = record {
  frame = frame;
  given = given;
  closed = λ s client h good. left-own client s h good;
  others = λ s client other h good fits fits_other apart. left-others client other s h fits fits_other apart good;
  fewer = λ s client name good there.
      kept-some client name (open_at s.handles name)
      (subst (λ (o : Option Open). o ≢ None) (left-found client s name good.ordered) there);
  stays_good = λ s end request reply good fit allowed. stays s request reply end good fit allowed;
  good_leave = λ s client good. left-good client s good;
}

pub asked-values : (deeds : List Deed) → AreAsked deeds → AreValues (λ request. IsAsk request.ask) deeds
unfolding AreAsked
asked-values [] asked = tt
asked-values (answered client request reply ∷ deeds) asked = (asked.0, asked.1, asked-values deeds asked.2)
asked-values (departed client ∷ deeds) asked = (asked.0, asked-values deeds asked.1)

-- ==== A step reads no id, but that the reply has that of its request.

pub allowed-ignores : IgnoresIds Allowed
allowed-ignores s end request other reply again asks answers same done = record {
  same_id = same;
  step =
      subst (λ (ask : Ask). Refuses s ask again.answer end ⊎ Does s ask again.answer end) asks
      (subst (λ (answer : Answer). Refuses s request.ask answer end ⊎ Does s request.ask answer end) answers done.step);
}
