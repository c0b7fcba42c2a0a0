-- Requests on open files, and what opens them.
use Rattle.sftp_handles.proofs.Imports.{◌≡◌, ◌==◌, ◌&&◌, ◌||◌, not, ℕ, Bool, true, false, List, Option, Some, None}
use Rattle.sftp_handles.proofs.Imports.{Result, Ok, Err, IfOk, is_some, option_map, refl, sym, ap, subst, ◌∙◌, IsTrue}
use Rattle.sftp_handles.proofs.Imports.{nat_lt, lt-ltb, eq-eqb, OpenFlags, Ask, bytes_cmp, count-found, TreeLimits}
use Rattle.sftp_handles.proofs.Imports.{Cause, Content, Tree, Files, IsKept, HasFile, is_pinned, content_at}
use Rattle.sftp_handles.proofs.Imports.{content_fits, limits, size_fits, changed_content, write_fits, written_content}
use Rattle.sftp_handles.proofs.Imports.{Attrs, same_Some, CauseSet, row, no_causes, when, Open, File, Listing}
use Rattle.sftp_handles.proofs.Imports.{open_at, opens_file, times_open, pins_of, State, Good, a_file, seen}
use Rattle.sftp_handles.proofs.Imports.{seen_among, seen_file, Row, row_of, causes_of, with_file_room, start_of}
use Rattle.sftp_handles.proofs.Imports.{may_write, unless_open_for, causes, causes_by, asked_handle, BadHandle}
use Rattle.sftp_handles.proofs.Imports.{NotOpenFor, NoRoom, found_file, with_room, refusing, granted, is_none, Said}
use Rattle.sftp_handles.proofs.Imports.{said_of, said_to, IfErr, OnOk, both_ways, Answer, Status, without-absent}
use Rattle.sftp_handles.proofs.Imports.{Refused, Pins, with_content, trim, without_pin, after_write, after_set}
use Rattle.sftp_handles.proofs.Imports.{IsRoomRefusal, Left, Handles, without_open, settled, anything, file, says}
use Rattle.sftp_handles.proofs.Imports.{change_of, change_file, answers, changed, after, after_by, IsWritable, IsDone}
use Rattle.sftp_handles.proofs.Imports.{IsRefusal}
use Rattle.sftp_packets.specs.declared.requests.Ask.TheVariants as asks
use Rattle.sftp_tree.proofs.OpenFiles.{room-written}
use Rattle.sftp_tree.proofs.CauseLaws.{changed-fits}
use Rattle.sftp_handles.proofs.Good.Pins.{pins-times, pins-close_file, pins-close_listing}
use Rattle.sftp_handles.proofs.Good.{good-opens, good-closed}
use Rattle.sftp_tree.specs.declared.causes.Refused.TheVariants as refusals
use Rattle.sftp_tree.specs.Changes.{with_changed_file}
use Rattle.sftp_tree.specs.Changes.{with_written_file, after_unpin}
use Rattle.sftp_handles.specs.Replies.{ok}
use Rattle.sftp_handles.specs.RequestRows.{has_file_room}
use Rattle.sftp_handles.proofs.Good.Pins.{state_of, settled-already}
pub mod Opened

-- ==== The causes of requests through handles, by what is found under the handle.

-- a file that is open is pinned
pub open-pinned : (s : State) (handle : List ℕ) (number : ℕ) (flags : OpenFlags)
    → open_at s.handles handle ≡ Some (File number flags) → IsTrue (is_pinned (pins_of s.handles) number)
open-pinned s handle number flags there =
    ap (nat_lt 0) (pins-times s.handles number)
    ∙ lt-ltb 0 (times_open s.handles number)
    (count-found bytes_cmp s.handles handle (File number flags) (opens_file number) there (eq-eqb number number refl))

-- and exists
open-exists : (s : State) (handle : List ℕ) (number : ℕ) (flags : OpenFlags) → Good s
    → open_at s.handles handle ≡ Some (File number flags) → HasFile s.tree.files number
open-exists s handle number flags good there = good-opens s good number (open-pinned s handle number flags there)

found-exists : (s : State) (handle : List ℕ) (found : Option Open) → Good s → open_at s.handles handle ≡ found
    → IfOk (found_file found) (λ f. HasFile s.tree.files f.0)
found-exists s handle None good is = tt
found-exists s handle (Some (File number flags)) good is = open-exists s handle number flags good is
found-exists s handle (Some (Listing left)) good is = tt

pub file-there : (s : State) (handle : List ℕ) (result : Result (ℕ × OpenFlags) Cause) → Good s
    → result ≡ found_file (open_at s.handles handle) → IfOk result (λ f. HasFile s.tree.files f.0)
file-there s handle result good is =
    subst (λ r. IfOk r (λ f. HasFile s.tree.files f.0)) (sym is)
    (found-exists s handle (open_at s.handles handle) good refl)

-- of a request that changes no content
module _ (t : Tree) (row : Row)
    (same : (flags : OpenFlags) (before : Content) → row.content flags before ≡ None) where
  pub of-content : (number : ℕ) (flags : OpenFlags) (content : Option Content) → IsTrue (is_some content)
      → causes_of t row (seen_file number flags content) ≡ row.refused flags
  of-content number flags None there = absurd cc
  of-content number flags (Some before) there = ap (with_file_room t number (row.refused flags)) (same flags before)

-- where there is a next content, by whether it fits
pub room-causes : (t : Tree) (row : Row) (number : ℕ) (flags : OpenFlags) (content : Option Content) (fits : Bool)
    → (next : Content → Content) → ((before : Content) → row.content flags before ≡ Some (next before))
    → option_map (λ before. has_file_room t number (next before)) content ≡ Some fits
    → causes_of t row (seen_file number flags content) ≡ with_room (row.refused flags) fits
room-causes t row number flags None fits next is there = absurd cc
room-causes t row number flags (Some before) fits next is there =
    ap (with_file_room t number (row.refused flags)) (is before)
    ∙ ap (with_room (row.refused flags)) (same_Some (has_file_room t number (next before)) fits there)

-- a WRITE has room where the tree says so
pub write-room : (t : Tree) (number start : ℕ) (flags : OpenFlags) (offset : ℕ) (new : List ℕ) (fits : Bool) (content : Option Content)
    → IsKept t → content_at t.files number ≡ content
    → option_map (start_of flags offset) content ≡ Some start → fits ≡ write_fits t number start new
    → option_map (λ before. has_file_room t number (written_content (start_of flags offset before) new before)) content ≡ Some fits
write-room t number start flags offset new fits None kept is there same = absurd cc
write-room t number start flags offset new fits (Some before) kept is there same =
    ap Some
    (ap (λ n. has_file_room t number (written_content n new before)) (same_Some (start_of flags offset before) start there)
    ∙ room-written t number start new before kept.within_limits is
    ∙ sym same)

-- and an FSETSTAT
pub set-room : (t : Tree) (number : ℕ) (attrs : Attrs) (fits : Bool) (content : Option Content)
    → IsKept t → content_at t.files number ≡ content → IsTrue (is_some content) → fits ≡ size_fits t number attrs.size
    → option_map (λ before. has_file_room t number (changed_content attrs before)) content ≡ Some fits
set-room t number attrs fits None kept is there same = absurd cc
set-room t number attrs fits (Some before) kept is there same =
    ap Some (changed-fits t number before attrs.size kept.within_limits is ∙ sym same)

-- ---- what is found, or the only cause

-- a cause that does not hold leaves the set as it is
leaves : (a b : Bool) → (a && false || b) ≡ b
leaves true b = refl
leaves false b = refl

when-not : (set : CauseSet) (one : Cause) → when set one false ≡ set
unfolding when
when-not set one = λ i cause. leaves (row one == row cause) (set cause) i

-- a file that may have too little room
pub granted-room : {A : Type 0} (a : A) (misused fits : Bool)
    → with_room (when no_causes NotOpenFor misused) fits ≡ refusing (granted a misused fits)
unfolding when no_causes
granted-room a true fits = when-not (when no_causes NotOpenFor true) NoRoom
granted-room a false false = ap (λ set. when set NoRoom true) (when-not no_causes NotOpenFor)
granted-room a false true = when-not (when no_causes NotOpenFor false) NoRoom ∙ when-not no_causes NotOpenFor

-- a file that is only read
pub granted-read : {A : Type 0} (a : A) (misused : Bool)
    → when no_causes NotOpenFor misused ≡ refusing (granted a misused true)
granted-read a true = refl
granted-read a false = when-not no_causes NotOpenFor

granted-in : {A : Type 0} (P : A → Type 0) (a : A) (misused fits : Bool) → (fits ≡ true → P a)
    → IfOk (granted a misused fits) P
granted-in P a true fits holds = tt
granted-in P a false false holds = tt
granted-in P a false true holds = holds refl

pub granted-has : {A : Type 0} (P : A → Type 0) (a : A) (misused fits : Bool) (result : Result A Cause)
    → result ≡ granted a misused fits → (fits ≡ true → P a) → IfOk result P
granted-has P a misused fits result is holds = subst (λ r. IfOk r P) (sym is) (granted-in P a misused fits holds)

-- ---- by what the code found

error_of : Result (ℕ × OpenFlags) Cause → Cause
error_of (Ok f) = BadHandle
error_of (Err cause) = cause

file_of : ℕ × OpenFlags → Result (ℕ × OpenFlags) Cause → ℕ × OpenFlags
file_of other (Ok f) = f
file_of other (Err cause) = other

abbrev one_cause : Cause → CauseSet
one_cause cause = when no_causes cause true

pub lost-causes : (t : Tree) (row : Row) (files : Files) (found : Option Open) (cause : Cause)
    → found_file found ≡ Err cause
    → causes_of t row (seen_among files a_file found) ≡ when no_causes cause true
unfolding error_of
lost-causes t row files None cause is = ap (λ r. one_cause (error_of r)) is
lost-causes t row files (Some (File number flags)) cause is = absurd cc
lost-causes t row files (Some (Listing left)) cause is = ap (λ r. one_cause (error_of r)) is

pub seen-found : (files : Files) (found : Option Open) (f : ℕ × OpenFlags) → found_file found ≡ Ok f
    → seen_among files a_file found ≡ seen_file f.0 f.1 (content_at files f.0)
unfolding file_of
seen-found files None f is = absurd cc
seen-found files (Some (File number flags)) f is =
    ap (λ r. let g = file_of f r in seen_file g.0 g.1 (content_at files g.0)) is
seen-found files (Some (Listing left)) f is = absurd cc

module _ (s : State) (handle : List ℕ) where
  pub write-found : (offset : ℕ) (new : List ℕ) (f : ℕ × OpenFlags) (fits : Bool)
      → found_file (open_at s.handles handle) ≡ Ok f
      → option_map (λ before. has_file_room s.tree f.0 (written_content (start_of f.1 offset before) new before))
      (content_at s.tree.files f.0) ≡ Some fits
      → causes s (asks.Write handle offset new) ≡ with_room (unless_open_for (may_write f.1)) fits
  unfolding causes seen
  write-found offset new f fits is there =
      ap (causes_of s.tree (row_of (asks.Write handle offset new))) (seen-found s.tree.files (open_at s.handles handle) f is)
      ∙ room-causes s.tree (row_of (asks.Write handle offset new)) f.0 f.1 (content_at s.tree.files f.0) fits
      (λ before. written_content (start_of f.1 offset before) new before) (λ before. refl) there

  pub set-found : (attrs : Attrs) (f : ℕ × OpenFlags) (fits : Bool)
      → found_file (open_at s.handles handle) ≡ Ok f
      → option_map (λ before. has_file_room s.tree f.0 (changed_content attrs before))
      (content_at s.tree.files f.0) ≡ Some fits
      → causes s (asks.Fsetstat handle attrs) ≡ with_room (when no_causes NotOpenFor (is_some attrs.size && not (may_write f.1))) fits
  unfolding causes seen
  set-found attrs f fits is there =
      ap (causes_of s.tree (row_of (asks.Fsetstat handle attrs))) (seen-found s.tree.files (open_at s.handles handle) f is)
      ∙ room-causes s.tree (row_of (asks.Fsetstat handle attrs)) f.0 f.1 (content_at s.tree.files f.0) fits
      (changed_content attrs) (λ before. refl) there

-- of a request on a file
module _ (s : State) (ask : Ask) (handle : List ℕ) (asked : asked_handle ask ≡ Some handle)
    (needs : (row_of ask).needed ≡ a_file) where
  by-seen : causes s ask ≡ causes_of s.tree (row_of ask) (seen_among s.tree.files a_file (open_at s.handles handle))
  unfolding causes seen
  by-seen =
      ap (causes_by s ask) asked
      ∙ ap (λ n. causes_of s.tree (row_of ask) (seen_among s.tree.files n (open_at s.handles handle))) needs

  -- the handle opens no file
  pub lost : (cause : Cause) → found_file (open_at s.handles handle) ≡ Err cause → causes s ask ≡ when no_causes cause true
  lost cause is =
      by-seen ∙ lost-causes s.tree (row_of ask) s.tree.files (open_at s.handles handle) cause is

  -- it opens one, and the request changes no content
  pub plain-found : ((flags : OpenFlags) (before : Content) → (row_of ask).content flags before ≡ None)
      → (f : ℕ × OpenFlags) → found_file (open_at s.handles handle) ≡ Ok f → HasFile s.tree.files f.0
      → causes s ask ≡ (row_of ask).refused f.1
  plain-found same f is there =
      by-seen
      ∙ (ap (causes_of s.tree (row_of ask)) (seen-found s.tree.files (open_at s.handles handle) f is)
      ∙ of-content s.tree (row_of ask) same f.0 f.1 (content_at s.tree.files f.0) there)

  -- and however the file was opened
  module _ (same : (flags : OpenFlags) (before : Content) → (row_of ask).content flags before ≡ None)
      (free : (flags : OpenFlags) → (row_of ask).refused flags ≡ no_causes) where
    by-result : (result : Result (ℕ × OpenFlags) Cause) → result ≡ found_file (open_at s.handles handle)
        → IfOk result (λ f. HasFile s.tree.files f.0) → causes s ask ≡ refusing result
    by-result (Ok f) is there = plain-found same f (sym is) there ∙ free f.1
    by-result (Err cause) is there = lost cause (sym is)

    pub file-causes : (result : Result (ℕ × OpenFlags) Cause) → Good s
        → result ≡ found_file (open_at s.handles handle) → causes s ask ≡ refusing result
    file-causes result good is = by-result result is (file-there s handle result good is)

-- ==== What replies to requests on open files say, by what is found under the handle.

-- no cause is in the empty set
pub none-free : IsTrue (is_none no_causes)
unfolding no_causes
none-free = refl

-- the only cause holds
pub cause-holds : (cause : Cause) → IsTrue (when no_causes cause true cause)
unfolding when no_causes
cause-holds cause = ap (λ b. b && true || no_causes cause) (eq-eqb (row cause) (row cause) refl)

pub none-holds : (s : State) (ask : Ask) → causes s ask ≡ no_causes → IsTrue (is_none (causes s ask))
none-holds s ask is = ap is_none is ∙ none-free

pub only-holds : (s : State) (ask : Ask) (cause : Cause) → causes s ask ≡ when no_causes cause true
    → IsTrue (causes s ask cause)
only-holds s ask cause is = ap (λ set. set cause) is ∙ cause-holds cause

of-said : (bounds : TreeLimits) (row : Row) (number : ℕ) (flags : OpenFlags) (content : Option Content) (said : Said)
    → option_map (row.said_of_file bounds) content ≡ Some said → said_of bounds row (seen_file number flags content) ≡ said
of-said bounds row number flags None said is = absurd cc
of-said bounds row number flags (Some before) said is = same_Some (row.said_of_file bounds before) said is

-- what is said of the file that is found
pub said-found : (s : State) (ask : Ask) (handle : List ℕ) → (row_of ask).needed ≡ a_file
    → (f : ℕ × OpenFlags) (said : Said) → found_file (open_at s.handles handle) ≡ Ok f
    → option_map ((row_of ask).said_of_file (limits s.tree)) (content_at s.tree.files f.0) ≡ Some said
    → said_to s ask (Some handle) ≡ said
unfolding seen
said-found s ask handle needs f said is there =
    ap (λ n. said_of (limits s.tree) (row_of ask) (seen_among s.tree.files n (open_at s.handles handle))) needs
    ∙ (ap (said_of (limits s.tree) (row_of ask)) (seen-found s.tree.files (open_at s.handles handle) f is)
    ∙ of-said (limits s.tree) (row_of ask) f.0 f.1 (content_at s.tree.files f.0) said there)

-- of what is shown
pub shown-found : {A B : Type 0} (f : Content → A) (g : A → B) (content : Option Content) (shown : A)
    → option_map f content ≡ Some shown → option_map (λ before. g (f before)) content ≡ Some (g shown)
shown-found f g None shown is = absurd cc
shown-found f g (Some before) shown is = ap (λ a. Some (g a)) (same_Some (f before) shown is)

-- ==== Requests that change what is open: CLOSE, and those that give an open file another content.

with_pins_of : Tree → Pins → Tree
with_pins_of t pins = record t { pins = pins }

-- ---- calls of the tree

-- where the tree's call is done, so is the request
call-done : (s : State) (ask : Ask) (t next : Tree) (end : State) (result : Result Unit Refused)
    → (IsKept t → t ≡ next → IsDone s ask (state_of t s.handles)) → OnOk result (IsKept t) → OnOk result (t ≡ next)
    → end ≡ state_of t s.handles → OnOk result (IsDone s ask end)
call-done s ask t next end (Ok done) rest kept same is_end = subst (IsDone s ask) (sym is_end) (rest kept same)
call-done s ask t next end (Err refused) rest kept same is_end = tt

-- where there is room, no cause refuses it
pub call-refused : (s : State) (ask : Ask) (fits : Bool) (result : Result Unit Refused) → fits ≡ true
    → IfErr result (IsRoomRefusal fits) → IfErr result (IsRefusal s ask)
call-refused s ask fits (Ok done) fit is = tt
call-refused s ask fits (Err (refusals.Cause cause)) fit is = absurd (both_ways fits is.1 fit)
call-refused s ask fits (Err refusals.NoMemory) fit is = tt

-- ---- a request on an open file

-- the handle leads to a file of this content
module _ (s : State) (ask : Ask) (handle : List ℕ) (asked : asked_handle ask ≡ Some handle)
    (needs : (row_of ask).needed ≡ a_file) (f : ℕ × OpenFlags) (before : Content)
    (is : found_file (open_at s.handles handle) ≡ Ok f) (there : content_at s.tree.files f.0 ≡ Some before) where
  seen-is : seen s (row_of ask).needed handle ≡ file f.0 f.1 before
  unfolding seen
  seen-is =
      ap (λ n. seen_among s.tree.files n (open_at s.handles handle)) needs
      ∙ (seen-found s.tree.files (open_at s.handles handle) f is ∙ ap (seen_file f.0 f.1) there)

  says-is : (answer : Answer) → answers s ask answer ≡ says ((row_of ask).said_of_file (limits s.tree) before) answer
  unfolding answers
  says-is answer =
      ap (λ h. says (said_to s ask h) answer) asked
      ∙ ap (λ x. says (said_of (limits s.tree) (row_of ask) x) answer) seen-is

  after-is : (answer : Answer)
      → after s ask answer ≡ changed s handle (change_file f.0 ((row_of ask).content f.1 before))
  unfolding after
  after-is answer =
      ap (after_by s ask answer) asked
      ∙ ap (λ x. changed s handle (change_of (row_of ask) x answer)) seen-is

  -- where no cause holds, it is done with OK
  pub done-file : (end : State) → (row_of ask).said_of_file (limits s.tree) before ≡ ok → causes s ask ≡ no_causes
      → end ≡ changed s handle (change_file f.0 ((row_of ask).content f.1 before)) → IsDone s ask end
  done-file end told free is_end message language = record {
    free = none-holds s ask free;
    answered =
        says-is (Status 0 message language) ∙ ap (λ said. says said (Status 0 message language)) told;
    changed = is_end ∙ sym (after-is (Status 0 message language));
  }

  -- the file gets a content, and all else in the tree stays
  done-rewritten : (next : Content) (t : Tree) → Good s → IsKept t → (row_of ask).said_of_file (limits s.tree) before ≡ ok
      → causes s ask ≡ no_causes → (row_of ask).content f.1 before ≡ Some next
      → t ≡ record s.tree { files = with_content s.tree.files f.0 next } → IsDone s ask (state_of t s.handles)
  done-rewritten next t good kept told free gets same =
      done-file (state_of t s.handles) told free
      (sym (settled-already t s.handles kept (ap (λ (t : Tree). t.pins) same ∙ good.pinned))
      ∙ (ap (λ t. settled t s.handles) same
      ∙ ap (λ o. changed s handle (change_file f.0 o)) (sym gets)))

-- ---- WRITE

module _ (s : State) (handle : List ℕ) (offset : ℕ) (new : List ℕ) (it : ℕ × ℕ) (good : Good s)
    (free : causes s (asks.Write handle offset new) ≡ no_causes) (is : IsWritable s handle offset new it) where
  write-done : (t : Tree) (content : Option Content) → content_at s.tree.files it.0 ≡ content
      → option_map (start_of is.flags offset) content ≡ Some it.1 → IsKept t
      → t ≡ with_written_file s.tree it.1 new it.0 content → IsDone s (asks.Write handle offset new) (state_of t s.handles)
  write-done t None there starts kept same = absurd cc
  write-done t (Some before) there starts kept same =
      let from = same_Some (start_of is.flags offset before) it.1 starts in
      done-rewritten s (asks.Write handle offset new) handle refl refl (it.0, is.flags) before is.found there
      (written_content (start_of is.flags offset before) new before) t good kept refl free refl
      (same ∙ ap (λ n. with_written_file s.tree n new it.0 (Some before)) (sym from))

  pub write-ends : (result : Result Unit Refused) (t : Tree) (end : State) → OnOk result (IsKept t)
      → OnOk result (t ≡ after_write s.tree it.0 it.1 new) → end ≡ state_of t s.handles
      → OnOk result (IsDone s (asks.Write handle offset new) end)
  write-ends result t end =
      call-done s (asks.Write handle offset new) t (after_write s.tree it.0 it.1 new) end result
      (write-done t (content_at s.tree.files it.0) refl is.starts)

-- ---- FSETSTAT

module _ (s : State) (handle : List ℕ) (attrs : Attrs) (f : ℕ × OpenFlags) (good : Good s)
    (free : causes s (asks.Fsetstat handle attrs) ≡ no_causes) (is : found_file (open_at s.handles handle) ≡ Ok f)
    (there : HasFile s.tree.files f.0) where
  set-done : (t : Tree) (content : Option Content) → content_at s.tree.files f.0 ≡ content → IsTrue (is_some content)
      → IsKept t → t ≡ with_changed_file s.tree attrs f.0 content
      → IsDone s (asks.Fsetstat handle attrs) (state_of t s.handles)
  set-done t None at some kept same = absurd cc
  set-done t (Some before) at some kept same =
      done-rewritten s (asks.Fsetstat handle attrs) handle refl refl f before is at (changed_content attrs before) t good
      kept refl free refl same

  pub set-ends : (result : Result Unit Refused) (t : Tree) (end : State) → OnOk result (IsKept t)
      → OnOk result (t ≡ after_set s.tree f.0 attrs) → end ≡ state_of t s.handles
      → OnOk result (IsDone s (asks.Fsetstat handle attrs) end)
  set-ends result t end =
      call-done s (asks.Fsetstat handle attrs) t (after_set s.tree f.0 attrs) end result
      (set-done t (content_at s.tree.files f.0) refl there)

-- ---- CLOSE

module _ (s : State) (handle : List ℕ) (handles : Handles) (closed : handles ≡ without_open s.handles handle)
    (good : Good s) where
  -- its pin goes with the handle of a file
  file-closed : (number : ℕ) (flags : OpenFlags) (t : Tree)
      → open_at s.handles handle ≡ Some (File number flags) → t ≡ after_unpin s.tree number
      → state_of t handles ≡ settled s.tree (without_open s.handles handle)
  unfolding with_pins_of
  file-closed number flags t there is =
      (λ i. state_of (is i) (closed i))
      ∙ ap (λ pins. state_of (trim (with_pins_of s.tree pins)) (without_open s.handles handle))
      (ap (λ pins. without_pin pins number) good.pinned ∙ sym (pins-close_file s.handles handle number flags there))

  -- a listing has none
  listing-closed : (left : Left) → open_at s.handles handle ≡ Some (Listing left)
      → state_of s.tree handles ≡ settled s.tree (without_open s.handles handle)
  listing-closed left there =
      ap (state_of s.tree) closed
      ∙ sym
      (settled-already s.tree (without_open s.handles handle) good.tree
      (good.pinned ∙ sym (pins-close_listing s.handles handle left there)))

  -- whatever was open
  pub it-closed : (it : Open) (t : Tree) → open_at s.handles handle ≡ Some it
      → ((number : ℕ) (flags : OpenFlags) → it ≡ File number flags → t ≡ after_unpin s.tree number)
      → ((left : Left) → it ≡ Listing left → t ≡ s.tree)
      → state_of t handles ≡ settled s.tree (without_open s.handles handle)
  it-closed (File number flags) t there of_file of_listing =
      file-closed number flags t there (of_file number flags refl)
  it-closed (Listing left) t there of_file of_listing =
      ap (λ t. state_of t handles) (of_listing left refl) ∙ listing-closed left there

  pub good-it_closed : (it : Open) (t : Tree) → open_at s.handles handle ≡ Some it
      → ((number : ℕ) (flags : OpenFlags) → it ≡ File number flags → t ≡ after_unpin s.tree number)
      → ((left : Left) → it ≡ Listing left → t ≡ s.tree) → Good (state_of t handles)
  good-it_closed it t there of_file of_listing =
      subst Good (sym (it-closed it t there of_file of_listing)) (good-closed s handle it good there)

  -- nothing was open
  pub nothing-closed : open_at s.handles handle ≡ None → state_of s.tree handles ≡ s
  nothing-closed absent = ap (state_of s.tree) (closed ∙ without-absent bytes_cmp s.handles handle absent)

module _ (s : State) (handle : List ℕ) where
  seen-closing : (found : Option Open) → open_at s.handles handle ≡ found
      → seen s anything handle ≡ seen_among s.tree.files anything found
  unfolding seen
  seen-closing found is = ap (seen_among s.tree.files anything) is

  pub close-lost : open_at s.handles handle ≡ None → IsTrue (causes s (asks.Close handle) BadHandle)
  unfolding causes
  close-lost absent =
      ap (λ x. causes_of s.tree (row_of (asks.Close handle)) x BadHandle) (seen-closing None absent)
      ∙ cause-holds BadHandle

  pub close-done : (it : Open) (end : State) → open_at s.handles handle ≡ Some it
      → end ≡ settled s.tree (without_open s.handles handle) → IsDone s (asks.Close handle) end
  unfolding causes answers after
  close-done it end there is_end message language = record {
    free =
        ap (λ x. is_none (causes_of s.tree (row_of (asks.Close handle)) x)) (seen-closing (Some it) there)
        ∙ none-free;
    answered =
        ap (λ x. says (said_of (limits s.tree) (row_of (asks.Close handle)) x) (Status 0 message language))
        (seen-closing (Some it) there);
    changed =
        is_end
        ∙ sym
        (ap (λ x. changed s handle (change_of (row_of (asks.Close handle)) x (Status 0 message language)))
        (seen-closing (Some it) there));
  }
