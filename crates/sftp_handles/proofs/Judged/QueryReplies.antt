-- Queries: what their replies carry, and that they leave a good state as it is.
use Rattle.sftp_handles.proofs.Imports.{◌≡◌, ◌&&◌, ℕ, Bool, true, false, List, Option, Some, None, Result, Ok, Err}
use Rattle.sftp_handles.proofs.Imports.{IsTrue, refl, sym, ap, subst, ◌∙◌, Attrs, OpenFlags, Ask, Answer, asked_handle}
use Rattle.sftp_handles.proofs.Imports.{Place, absolute, are_bytes, Cause, Refused, Content, Tree, Files, node_at}
use Rattle.sftp_handles.proofs.Imports.{content_at, is_none, Told, led, led_to, told_at, outcome, shown_at, has_step}
use Rattle.sftp_handles.proofs.Imports.{IsFree, stat_ask, PathsLeadWell, Opened, File, Listing, open_at, State, Good}
use Rattle.sftp_handles.proofs.Imports.{settled, a_file, seen, seen_among, Said, says, Row, row_of, change_of}
use Rattle.sftp_handles.proofs.Imports.{change_file, nothing, causes, answers, after, after_by, told_to, said_by}
use Rattle.sftp_handles.proofs.Imports.{said_to, opened_by, flags_of, with_new, changed, path_said, IsJudged, IsRefusal}
use Rattle.sftp_handles.proofs.Imports.{refusal_code, purpose_of, FitsSaid, Carries, IsReplyOf, IsAnswered, said_in}
use Rattle.sftp_handles.proofs.Imports.{answer_of}
use Rattle.sftp_packets.specs.declared.requests.Ask.TheVariants as asks
use Rattle.sftp_tree.specs.declared.causes.Refused.TheVariants as refusals
use Rattle.sftp_tree.specs.Requests as paths
use Rattle.sftp_tree.specs.Requests.{target_of}
use Rattle.sftp_tree.specs.Told.{shown_to, text_to}
use Rattle.sftp_tree.specs.Told as of_tree
use Rattle.sftp_handles.specs.Replies.{shows, names}
use Rattle.sftp_handles.specs.declared.payloads.Payload.{Payload}
use Rattle.sftp_handles.specs.declared.requests.Purpose.TheVariants.{Query}
use Rattle.sftp_handles.proofs.Good.{good-settled}
use Rattle.sftp_handles.proofs.Judged.{answers-said, unlike, judged-still}
use Rattle.sftp_handles.proofs.Answered.LimitsAnswers.{limits-still}
use Rattle.sftp_handles.proofs.TotalSteps.SaidReplies.{payload-reply}
use Rattle.sftp_tree.specs.Changes.{carried, no_change}
use Rattle.sftp_handles.proofs.TotalSteps.PathReplies.{seen-fits}
use Rattle.sftp_handles.proofs.TotalSteps.PathReplies.{path-fits, stat-fits, lstat-fits, target-fits, place-fits}

-- ---- queries of a path

nothing-changes : (t : Tree) (end : Option (Result Place Cause))
    → carried t (led_to no_change end (λ place. no_change)) ≡ t
nothing-changes t None = refl
nothing-changes t (Some (Ok place)) = refl
nothing-changes t (Some (Err cause)) = refl

path-left : (t : Tree) (ask : Ask) → purpose_of ask ≡ Query → asked_handle ask ≡ None → IsTrue (has_step ask)
    → outcome t ask ≡ t
unfolding outcome
path-left t (asks.Stat path) is asked on = nothing-changes t (led t (asks.Stat path))
path-left t other is asked on = first_of (cc, search nothing-changes)

path-causes : (s : State) (ask : Ask) → purpose_of ask ≡ Query → asked_handle ask ≡ None → IsTrue (has_step ask)
    → causes s ask ≡ paths.causes s.tree ask
unfolding causes
path-causes s (asks.Stat path) is asked on = refl
path-causes s other is asked on = cc

path-said : (s : State) (ask : Ask) → purpose_of ask ≡ Query → asked_handle ask ≡ None → IsTrue (has_step ask)
    → path_said s ask ≡ said_by s.handles (told_to s.tree ask)
path-said s (asks.Stat path) is asked on = refl
path-said s other is asked on = cc

-- it opens nothing
opens-none : (pflags : ℕ) (end : Option (Result Place Cause)) (at : Place → Told)
    → ((place : Place) → opened_by pflags (at place) ≡ None) → opened_by pflags (led_to paths.done end at) ≡ None
opens-none pflags None at none = refl
opens-none pflags (Some (Ok place)) at none = none place
opens-none pflags (Some (Err cause)) at none = refl

module _ (s : State) (ask : Ask) (is : purpose_of ask ≡ Query) (asked : asked_handle ask ≡ None)
    (on : IsTrue (has_step ask)) where
  path-still : ((place : Place) → opened_by (flags_of ask) (told_at s.tree ask place) ≡ None) → (answer : Answer)
      → Good s → after s ask answer ≡ s
  unfolding after told_to
  path-still none answer good =
      ap (after_by s ask answer) asked
      ∙ ((λ i. settled (path-left s.tree ask is asked on i)
      (with_new s.handles (opens-none (flags_of ask) (led s.tree ask) (told_at s.tree ask) none i) answer))
      ∙ good-settled s good)

  -- a refusal of the tree is one of the session
  pub path-refusal : (refused : Refused) → of_tree.IsRefusal s.tree ask refused → IsRefusal s ask refused
  path-refusal (refusals.Cause cause) holds = ap (λ set. set cause) (path-causes s ask is asked on) ∙ holds
  path-refusal refusals.NoMemory holds = tt

  carries-path : (told : Told) → Good s → IsFree s.tree ask → told_to s.tree ask ≡ told
      → FitsSaid (said_by s.handles (told_to s.tree ask)) → Carries s ask (said_by s.handles told)
  carries-path told good free tells fits = record {
    free = ap is_none (path-causes s ask is asked on) ∙ free;
    is = ap (said_to s ask) asked ∙ (path-said s ask is asked on ∙ ap (said_by s.handles) tells);
    fits = subst FitsSaid (ap (said_by s.handles) tells) fits;
    good = good;
  }

led-attributes : (end : Option (Result Place Cause)) (at : Place → Option Attrs) (shown : Attrs)
    → led_to None end at ≡ Some shown
    → led_to paths.done end (λ place. paths.attributes (at place)) ≡ paths.attributes (Some shown)
led-attributes None at shown is = absurd cc
led-attributes (Some (Ok place)) at shown is = ap paths.attributes is
led-attributes (Some (Err cause)) at shown is = absurd cc

led-name : (end : Option (Result Place Cause)) (at : Place → Option (List ℕ)) (text : List ℕ)
    → led_to None end at ≡ Some text
    → led_to paths.done end (λ place. paths.name (at place)) ≡ paths.name (Some text)
led-name None at text is = absurd cc
led-name (Some (Ok place)) at text is = ap paths.name is
led-name (Some (Err cause)) at text is = absurd cc

-- ---- STAT and LSTAT

stat-told : (t : Tree) (follow : Bool) (path : List ℕ) (shown : Attrs) → shown_to t (stat_ask follow path) ≡ Some shown
    → told_to t (stat_ask follow path) ≡ paths.attributes (Some shown)
unfolding shown_to told_to
stat-told t true path shown is =
    led-attributes (led t (asks.Stat path)) (λ place. shown_at t (node_at t.names place)) shown is
stat-told t false path shown is =
    led-attributes (led t (asks.Lstat path)) (λ place. shown_at t (node_at t.names place)) shown is

pub carries-stat : (s : State) (follow : Bool) (path : List ℕ) (shown : Attrs) → Good s
    → IsFree s.tree (stat_ask follow path) → shown_to s.tree (stat_ask follow path) ≡ Some shown
    → Carries s (stat_ask follow path) (shows (Some shown))
carries-stat s true path shown good free is =
    carries-path s (asks.Stat path) refl refl refl (paths.attributes (Some shown)) good free
    (stat-told s.tree true path shown is)
    (path-fits s good (asks.Stat path) (λ place. stat-fits s good path place free))
carries-stat s false path shown good free is =
    carries-path s (asks.Lstat path) refl refl refl (paths.attributes (Some shown)) good free
    (stat-told s.tree false path shown is)
    (path-fits s good (asks.Lstat path) (λ place. lstat-fits s good path place free))

pub stat-refusal : (s : State) (follow : Bool) (path : List ℕ) (refused : Refused)
    → of_tree.IsRefusal s.tree (stat_ask follow path) refused → IsRefusal s (stat_ask follow path) refused
stat-refusal s true path refused holds = path-refusal s (asks.Stat path) refl refl refl refused holds
stat-refusal s false path refused holds = path-refusal s (asks.Lstat path) refl refl refl refused holds

-- ---- REALPATH and READLINK

realpath-told : (t : Tree) (path text : List ℕ) → text_to t (asks.Realpath path) ≡ Some text
    → told_to t (asks.Realpath path) ≡ paths.name (Some text)
unfolding text_to told_to
realpath-told t path text is = led-name (led t (asks.Realpath path)) (λ place. Some (absolute place)) text is

readlink-told : (t : Tree) (path text : List ℕ) → text_to t (asks.Readlink path) ≡ Some text
    → told_to t (asks.Readlink path) ≡ paths.name (Some text)
unfolding text_to told_to
readlink-told t path text is =
    led-name (led t (asks.Readlink path)) (λ place. target_of (node_at t.names place)) text is

pub carries-place : PathsLeadWell → (s : State) (path text : List ℕ) → Good s → IsTrue (are_bytes path)
    → IsFree s.tree (asks.Realpath path) → text_to s.tree (asks.Realpath path) ≡ Some text
    → Carries s (asks.Realpath path) (names (Some text))
carries-place paths-lead s path text good bytes free is =
    carries-path s (asks.Realpath path) refl refl refl (paths.name (Some text)) good free
    (realpath-told s.tree path text is)
    (path-fits s good (asks.Realpath path) (λ place. place-fits s good paths-lead path place bytes))

pub carries-target : (s : State) (path text : List ℕ) → Good s → IsFree s.tree (asks.Readlink path)
    → text_to s.tree (asks.Readlink path) ≡ Some text → Carries s (asks.Readlink path) (names (Some text))
carries-target s path text good free is =
    carries-path s (asks.Readlink path) refl refl refl (paths.name (Some text)) good free
    (readlink-told s.tree path text is)
    (path-fits s good (asks.Readlink path) (λ place. target-fits s good path place free))

-- ---- queries of an open file

module _ (row : Row) (files : Files)
    (same : (flags : OpenFlags) (before : Content) → row.content flags before ≡ None) where
  no-change : (found : Option Opened) (answer : Answer) → change_of row (seen_among files a_file found) answer ≡ nothing
  no-change None answer = refl
  no-change (Some (File number flags)) answer = by (content_at files number) refl
    where
      by : (content : Option Content) → content_at files number ≡ content
          → change_of row (seen_among files a_file (Some (File number flags))) answer ≡ nothing
      by None is = rw is refl
      by (Some before) is = rw is (ap (change_file number) (same flags before))
  no-change (Some (Listing left)) answer = refl

module _ (s : State) (ask : Ask) (handle : List ℕ) (asked : asked_handle ask ≡ Some handle) where
  open-still : (row_of ask).needed ≡ a_file
      → ((flags : OpenFlags) (before : Content) → (row_of ask).content flags before ≡ None) → (answer : Answer)
      → Good s → after s ask answer ≡ s
  unfolding after seen
  open-still needs same answer good =
      ap (after_by s ask answer) asked
      ∙ (ap (λ n. changed s handle
      (change_of (row_of ask) (seen_among s.tree.files n (open_at s.handles handle)) answer)) needs
      ∙ (ap (changed s handle) (no-change (row_of ask) s.tree.files same (open_at s.handles handle) answer)
      ∙ good-settled s good))

  pub carries-open : (said : Said) → Good s → IsTrue (is_none (causes s ask)) → said_to s ask (Some handle) ≡ said
      → Carries s ask said
  carries-open said good free is = record {
    free = free;
    is = ap (said_to s ask) asked ∙ is;
    fits = subst FitsSaid is (seen-fits s good ask handle);
    good = good;
  }

-- ---- all queries

query-still : (s : State) (ask : Ask) (answer : Answer) → purpose_of ask ≡ Query → Good s → after s ask answer ≡ s
query-still s (asks.Stat path) answer is good =
    path-still s (asks.Stat path) refl refl refl (λ place. refl) answer good
query-still s (asks.Lstat path) answer is good =
    path-still s (asks.Lstat path) refl refl refl (λ place. refl) answer good
query-still s (asks.Realpath path) answer is good =
    path-still s (asks.Realpath path) refl refl refl (λ place. refl) answer good
query-still s (asks.Readlink path) answer is good =
    path-still s (asks.Readlink path) refl refl refl (λ place. refl) answer good
query-still s asks.Limits answer is good = limits-still s answer good
query-still s (asks.Fstat handle) answer is good =
    open-still s (asks.Fstat handle) handle refl refl (λ flags before. refl) answer good
query-still s (asks.Read handle offset len) answer is good =
    open-still s (asks.Read handle offset len) handle refl refl (λ flags before. refl) answer good
query-still s other answer is good = absurd cc

-- an answer is allowed exactly if it carries what the query asks for
pub judged-query : (s : State) (ask : Ask) (said : Said) (answer : Answer) (fits : Bool) → purpose_of ask ≡ Query
    → refusal_code answer ≡ None → Carries s ask said → fits ≡ says said answer → IsJudged s ask answer fits s
judged-query s ask said answer fits is code carries fits_is =
    judged-still s ask answer fits (unlike s ask answer code) (λ e. query-still s ask answer is carries.good)
    (sym (ap (λ b. b && answers s ask answer) carries.free ∙ (answers-said s ask said answer carries.is ∙ sym fits_is)))

pub answered-query : (s : State) (ask : Ask) (payload : Payload) (answer : Answer) → purpose_of ask ≡ Query
    → Carries s ask (said_in payload) → answer ≡ answer_of payload → IsAnswered s ask answer s
answered-query s ask payload answer is carries same =
    let reply = subst (IsReplyOf (said_in payload)) (sym same) (payload-reply payload carries.fits) in
    record {
      does =
          record {
            free = carries.free;
            answered = answers-said s ask (said_in payload) answer carries.is ∙ reply.says;
            changed = sym (query-still s ask answer is carries.good);
          };
      spelled = reply.spelled;
    }
