-- Good states, and that steps keep them.
use Rattle.sftp_handles.proofs.Imports.{◌≡◌, not, nat_lt, nat_le, ℕ, zero, suc, ◌+◌, ◌≤◌, Bool, true, false, cond}
use Rattle.sftp_handles.proofs.Imports.{List, Option, Some, None, unwrap_or, ◌↔◌, refl, sym, ap, subst, ◌∙◌, arith}
use Rattle.sftp_handles.proofs.Imports.{IsTrue, nat_cmp, is_eq, AllByRecursion, nat_cmp_total, nat_list_cmp_total}
use Rattle.sftp_handles.proofs.Imports.{nat_cmp-IsAntisymmetric, lt-ltb, Name, bytes_cmp, name_cmp, InOrder, get}
use Rattle.sftp_handles.proofs.Imports.{size, bytes_cmp-same, InOrder-put, InOrder-retain, InOrder-without}
use Rattle.sftp_handles.proofs.Imports.{size-put_present, size-without, get-without, get-put_here, count-without}
use Rattle.sftp_handles.proofs.Imports.{Content, Tree, Files, WellFormed, IsPin, HasFile, IsContent, content_at}
use Rattle.sftp_handles.proofs.Imports.{with_content, times_pinned, is_pinned, limits, fits, content_fits, each-get}
use Rattle.sftp_handles.proofs.Imports.{get-each, each-put, each-retain, each-all, fits-parts, fits-from, Open}
use Rattle.sftp_handles.proofs.Imports.{Listing, Left, Handles, open_at, with_open, without_open, opens_file, pins_of}
use Rattle.sftp_handles.proofs.Imports.{State, settled, Good, IsHandle, IsLeft, IsItem, struck, is_among, ◌==◌, ◌&&◌}
use Rattle.sftp_handles.proofs.Imports.{◌||◌, if◌then◌else◌, [], ◌∷◌, ◌++◌, length, drop, and_parts, and_from}
use Rattle.sftp_handles.proofs.Imports.{same_Some, OpenFlags, Ask, Answer, IsAsk, TreeLimits, are_bytes, NoRoom}
use Rattle.sftp_handles.proofs.Imports.{changed_content, resized, overwritten, written_content, CauseSet, is_none}
use Rattle.sftp_handles.proofs.Imports.{when, none-each, each-none, fewer, bytes-fit, File, Needed, anything, a_file}
use Rattle.sftp_handles.proofs.Imports.{a_listing, seen_file, seen_among, seen, names_given, row_of, start_of}
use Rattle.sftp_handles.proofs.Imports.{with_file_room, causes_of, change_of, change_file, changed}
use Rattle.std.proofs.lemmas.Bool.Decides.{nat_tests}
use Rattle.sftp_tree.proofs.KeptTrees.{kept-trim}
use Rattle.sftp_tree.proofs.KeptTrees.{well-formed-content, node-content}
use Rattle.sftp_tree.proofs.Limits.{fits-content}
use Rattle.sftp_tree.proofs.OpenFiles.{well-formed-pins, narrow-with}
use Rattle.sftp_tree.specs.Tree.{IsKept}
use Rattle.sftp_tree.specs.Changes.{total_fits_with}
use Rattle.sftp_treefile.specs.TreeFileParts.{AreRaised}
use Rattle.std.proofs.lemmas.Bool.{leb-true}
use Rattle.sftp_handles.specs.RequestRows.{has_file_room}
use Rattle.sftp_tree.specs.declared.nodes.Node.TheVariants as nodes
use Rattle.sftp_handles.proofs.Good.Pins.{pins-times, pins-order, pins-positive, pins-listing_again}
use Rattle.sftp_handles.proofs.Good.Pins.{settled-already}
use Rattle.sftp_packets.specs.declared.requests.Ask.TheVariants as asks
use Rattle.sftp_tree.proofs.WellFormedTrees.{sized-bytes, changed-content-fits}
pub mod GoodPaths
pub mod Pins

-- ==== Good states: that a step of a request through a handle keeps a state good.

-- ---- a good state is settled

pub good-settled : (s : State) → Good s → settled s.tree s.handles ≡ s
good-settled s good = settled-already s.tree s.handles good.tree good.pinned

-- ---- the files that are open exist

-- each file that is open exists
abbrev pub OpensExist : Files → Handles → Type 0
OpensExist files handles = (number : ℕ) → IsTrue (is_pinned (pins_of handles) number) → HasFile files number

pinned-found : (found : Option ℕ) → nat_lt 0 (unwrap_or found 0) ≡ true → (often : ℕ) × (found ≡ Some often)
pinned-found None is = absurd cc
pinned-found (Some often) is = (often, refl)

-- the files that are pinned exist in each tree
pub pinned-exist : (t : Tree) (handles : Handles) → WellFormed t → t.pins ≡ pins_of handles
    → OpensExist t.files handles
pinned-exist t handles well same number pinned =
    let found = pinned-found (get nat_cmp (pins_of handles) number) pinned in
    let pins = subst (λ pins. AllByRecursion (λ e. IsPin t.files e) pins) same well.pinned in
    (each-get nat_cmp nat_cmp-IsAntisymmetric (λ e. IsPin t.files e) (pins_of handles) number found.0 pins found.1).1

pub good-opens : (s : State) → Good s → OpensExist s.tree.files s.handles
good-opens s good = pinned-exist s.tree s.handles good.tree.well_formed good.pinned

pins-exist : (files : Files) (handles : Handles) → OpensExist files handles
    → AllByRecursion (λ e. IsPin files e) (pins_of handles)
pins-exist files handles exist =
    get-each nat_cmp nat_cmp-IsAntisymmetric nat_cmp_total (λ e. IsPin files e) (pins_of handles) (pins-order handles)
    (λ number often there.
    let more = pins-positive handles number often there in
    (more, exist number (ap (λ o. nat_lt 0 (unwrap_or o 0)) there ∙ lt-ltb 0 often more)))

-- ---- a state that is settled is good

pub good-by : (t : Tree) (handles : Handles) → WellFormed t → IsTrue (fits t) → OpensExist t.files handles
    → InOrder bytes_cmp handles → AllByRecursion IsHandle handles
    → IsTrue (nat_le (size handles) (limits t).open_handles) → Good (settled t handles)
unfolding fits
good-by t handles well within exist order each few = record {
  tree = kept-trim (record t { pins = pins_of handles })
      (well-formed-pins t (pins_of handles) well (pins-order handles) (pins-exist t.files handles exist)) within;
  pinned = refl;
  ordered = order;
  handles = each;
  few = few;
}

-- nothing changes
pub good-again : (s : State) → Good s → Good (settled s.tree s.handles)
good-again s good = subst Good (sym (good-settled s good)) good

-- a tree with another content of a file is within the limits just where there is room for the content
pub content-room : (t : Tree) (number : ℕ) (next : Content) → IsKept t
    → fits (record t { files = with_content t.files number next }) ≡ has_file_room t number next
content-room t number next kept = fits-content t number next kept.within_limits kept.well_formed.numbered

-- with limits of the first two openings there is room just where the file may have so many bytes
pub room-near : (t : Tree) (number : ℕ) (next : Content) → IsKept t → AreRaised (limits t)
    → has_file_room t number next ≡ content_fits (limits t) next
room-near t number next kept near = by (content_fits (limits t) next) refl
  where
    by : (b : Bool) → content_fits (limits t) next ≡ b → (b && total_fits_with t number (length next.bytes)) ≡ b
    by true fits =
        narrow-with t number (length next.bytes) kept near (leb-true (length next.bytes) (limits t).file_bytes fits)
    by false fits = refl

-- a file has another content
pub good-rewritten : (s : State) (number : ℕ) (before next : Content) → Good s
    → content_at s.tree.files number ≡ Some before → IsContent next → IsTrue (has_file_room s.tree number next)
    → Good (settled (record s.tree { files = with_content s.tree.files number next }) s.handles)
good-rewritten s number before next good there is_content room =
    good-by (record s.tree { files = with_content s.tree.files number next }) s.handles
    (well-formed-content s.tree number before next good.tree.well_formed there is_content)
    (content-room s.tree number next good.tree ∙ room)
    (λ other pinned.
    node-content s.tree.files number next (nodes.File other) (good-opens s good other pinned))
    good.ordered good.handles good.few

-- a listing has given names
pub left-struck : (left : Left) (names : List Name) → IsLeft left → IsLeft (struck left names)
left-struck left names is = record {
  ordered = InOrder-retain name_cmp left (λ e. not (is_among e.0 names)) is.ordered;
  items =
      each-retain IsItem IsItem left (λ e. not (is_among e.0 names)) (λ e item kept. item) is.items;
}

pub good-listing : (s : State) (handle : List ℕ) (before left : Left) → Good s
    → open_at s.handles handle ≡ Some (Listing before) → IsLeft left
    → Good (settled s.tree (with_open s.handles handle (Listing left)))
good-listing s handle before left good there is_left =
    let same = pins-listing_again s.handles handle before left good.ordered there in
    let old : IsHandle (handle, Listing before) =
    each-get bytes_cmp bytes_cmp-same IsHandle s.handles handle (Listing before) good.handles there in
    good-by s.tree (with_open s.handles handle (Listing left)) good.tree.well_formed good.tree.within_limits
    (λ number pinned. good-opens s good number (ap (λ pins. is_pinned pins number) (sym same) ∙ pinned))
    (InOrder-put bytes_cmp nat_list_cmp_total s.handles handle (Listing left) good.ordered)
    (each-put bytes_cmp bytes_cmp-same nat_list_cmp_total IsHandle s.handles handle (Listing left) good.ordered
    (old.0, is_left) good.handles)
    (ap (λ n. nat_le n (limits s.tree).open_handles)
    (size-put_present bytes_cmp nat_list_cmp_total s.handles handle (Listing left) (Listing before) good.ordered there)
    ∙ good.few)

-- ---- a handle is closed

found-before : (b : Bool) (o : Option Open) (it : Open) → cond b None o ≡ Some it → o ≡ Some it
found-before true o it e = absurd cc
found-before false o it e = e

each-left : (handles : Handles) (handle : List ℕ) → InOrder bytes_cmp handles → AllByRecursion IsHandle handles
    → AllByRecursion IsHandle (without_open handles handle)
each-left handles handle order each =
    get-each bytes_cmp bytes_cmp-same nat_list_cmp_total IsHandle (without_open handles handle)
    (InOrder-without bytes_cmp handles handle order)
    (λ at it there.
    each-get bytes_cmp bytes_cmp-same IsHandle handles at it each
    (found-before (is_eq (bytes_cmp handle at)) (open_at handles at) it
    (sym (get-without bytes_cmp nat_list_cmp_total handles handle at order) ∙ there)))

fewer-pins : (n m : ℕ) → m ≤ n → nat_lt 0 m ≡ true → nat_lt 0 n ≡ true
fewer-pins zero zero less is = is
fewer-pins (suc n) m less is = lt-ltb 0 (suc n) (omega arith)
fewer-pins zero (suc m) less is = absurd (omega (arith, less))

less-pinned : (handles : Handles) (handle : List ℕ) (it : Open) (number : ℕ) → open_at handles handle ≡ Some it
    → IsTrue (is_pinned (pins_of (without_open handles handle)) number) → IsTrue (is_pinned (pins_of handles) number)
less-pinned handles handle it number there pinned =
    let before = pins-times handles number in
    let after = pins-times (without_open handles handle) number in
    let less = count-without bytes_cmp handles handle it (opens_file number) there in
    fewer-pins (times_pinned (pins_of handles) number) (times_pinned (pins_of (without_open handles handle)) number)
    (omega (arith, before, after, less)) pinned

fewer-handles : (n m limit : ℕ) → m + 1 ≡ n → nat_le n limit ≡ true → nat_le m limit ≡ true
fewer-handles n m limit less fit = grind (arith, nat_tests)

pub good-closed : (s : State) (handle : List ℕ) (it : Open) → Good s → open_at s.handles handle ≡ Some it
    → Good (settled s.tree (without_open s.handles handle))
good-closed s handle it good there =
    good-by s.tree (without_open s.handles handle) good.tree.well_formed good.tree.within_limits
    (λ number pinned. good-opens s good number (less-pinned s.handles handle it number there pinned))
    (InOrder-without bytes_cmp s.handles handle good.ordered)
    (each-left s.handles handle good.ordered good.handles)
    (fewer-handles (size s.handles) (size (without_open s.handles handle)) (limits s.tree).open_handles
    (size-without bytes_cmp s.handles handle it there) good.few)

-- ==== Good states: that each request leaves a good state good.

-- ---- the content that a request writes

bytes-dropped : (n : ℕ) (bytes : List ℕ) → IsTrue (are_bytes bytes) → IsTrue (are_bytes (drop n bytes))
bytes-dropped zero [] h = h
bytes-dropped zero (b ∷ bytes) h = h
bytes-dropped (suc n) [] h = h
bytes-dropped (suc n) (b ∷ bytes) h = bytes-dropped n bytes (and_parts (nat_lt b 256) (are_bytes bytes) h).1

bytes-joined : (xs ys : List ℕ) → IsTrue (are_bytes xs) → IsTrue (are_bytes ys) → IsTrue (are_bytes (xs ++ ys))
bytes-joined [] ys h k = k
bytes-joined (x ∷ xs) ys h k =
    let parts = and_parts (nat_lt x 256) (are_bytes xs) h in
    and_from (nat_lt x 256) (are_bytes (xs ++ ys)) parts.0 (bytes-joined xs ys parts.1 k)

written-bytes : (b : Bool) (offset : ℕ) (new bytes : List ℕ) → IsTrue (are_bytes new) → IsTrue (are_bytes bytes)
    → IsTrue (are_bytes (if b then bytes else overwritten offset new bytes))
written-bytes true offset new bytes fit h = h
written-bytes false offset new bytes fit h =
    bytes-joined (resized offset bytes ++ new) (drop (offset + length new) bytes)
    (bytes-joined (resized offset bytes) new (sized-bytes (Some offset) bytes h) fit)
    (bytes-dropped (offset + length new) bytes h)

-- what comes after a request is the content of a file
pub next-content : (ask : Ask) (flags : OpenFlags) (before next : Content) → IsAsk ask → IsContent before
    → (row_of ask).content flags before ≡ Some next → IsContent next
next-content (asks.Write handle offset bytes) flags before next fit is e =
    subst IsContent (same_Some (written_content (start_of flags offset before) bytes before) next e) (
      is.0,
      written-bytes (length bytes == 0) (start_of flags offset before) bytes before.bytes
          (bytes-fit bytes fit.1.1) is.1,
    )
next-content (asks.Fsetstat handle attrs) flags before next fit is e =
    subst IsContent (same_Some (changed_content attrs before) next e) (changed-content-fits attrs before fit.1 is)
next-content other flags before next fit is e = absurd cc

-- ---- where no cause holds

room-from : (b c d : Bool) → ((b && not c) || d) ≡ false → b ≡ true → c ≡ true
room-from true true d e none = refl
room-from true false d e none = absurd cc
room-from false true d e none = refl
room-from false false d e none = absurd cc

-- `NoRoom` does not hold where no cause holds
pub room-of : (set : CauseSet) (room : Bool) → is_none (when set NoRoom (is_none set && not room)) ≡ true
    → (is_none set ≡ true) × (room ≡ true)
unfolding when
room-of set room free =
    let each = none-each (when set NoRoom (is_none set && not room)) free in
    let none = each-none set (fewer set NoRoom (is_none set && not room) each) in
    (none, room-from (is_none set) room (set NoRoom) (each NoRoom) none)

-- a file that no cause keeps from changing has room
pub room-left : (t : Tree) (number : ℕ) (set : CauseSet) (next : Content)
    → is_none (with_file_room t number set (Some next)) ≡ true → has_file_room t number next ≡ true
room-left t number set next free = (room-of set (has_file_room t number next) free).1

-- ---- a request through a handle

module _ (s : State) (ask : Ask) (handle : List ℕ) (answer : Answer) (good : Good s) (fit : IsAsk ask) where
  of-file : (number : ℕ) (flags : OpenFlags) (before : Content) (next : Option Content)
      → (row_of ask).content flags before ≡ next → content_at s.tree.files number ≡ Some before
      → is_none (with_file_room s.tree number ((row_of ask).refused flags) next) ≡ true
      → Good (changed s handle (change_file number next))
  of-file number flags before None is there free = good-again s good
  of-file number flags before (Some next) is there free =
      let content = each-get nat_cmp nat_cmp-IsAntisymmetric (λ e. IsContent e.1) s.tree.files number before
      good.tree.well_formed.contents there in
      good-rewritten s number before next good there (next-content ask flags before next fit content is)
      (room-left s.tree number ((row_of ask).refused flags) next free)

  of-number : (number : ℕ) (flags : OpenFlags) (found : Option Content) → content_at s.tree.files number ≡ found
      → is_none (causes_of s.tree (row_of ask) (seen_file number flags found)) ≡ true
      → Good (changed s handle (change_of (row_of ask) (seen_file number flags found) answer))
  of-number number flags None there free = good-again s good
  of-number number flags (Some before) there free =
      of-file number flags before ((row_of ask).content flags before) refl there free

  of-open : (needed : Needed) (found : Option Open) → open_at s.handles handle ≡ found
      → is_none (causes_of s.tree (row_of ask) (seen_among s.tree.files needed found)) ≡ true
      → Good (changed s handle (change_of (row_of ask) (seen_among s.tree.files needed found) answer))
  of-open needed None there free = good-again s good
  of-open anything (Some it) there free = good-closed s handle it good there
  of-open a_file (Some (File number flags)) there free =
      of-number number flags (content_at s.tree.files number) refl free
  of-open a_file (Some (Listing left)) there free = good-again s good
  of-open a_listing (Some (File number flags)) there free = good-again s good
  of-open a_listing (Some (Listing left)) there free =
      let it = each-get bytes_cmp bytes_cmp-same IsHandle s.handles handle (Listing left) good.handles there in
      good-listing s handle left (struck left (names_given answer)) good there
      (left-struck left (names_given answer) it.1)

  pub good-through : is_none (causes_of s.tree (row_of ask) (seen s (row_of ask).needed handle)) ≡ true
      → Good (changed s handle (change_of (row_of ask) (seen s (row_of ask).needed handle) answer))
  unfolding seen
  good-through = of-open (row_of ask).needed (open_at s.handles handle) refl
