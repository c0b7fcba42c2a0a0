-- Loops over directories and names, by what is still to come.
use Rattle.std.proofs.Common.{◌≡◌, ℕ, ◌+◌, ◌<◌, ◌≤◌, Bool, true, false, List, [], ◌∷◌, map, length, drop, get_or}
use Rattle.std.proofs.Common.{Option, Some, None, refl, sym, ap, ◌∙◌, if◌then◌else◌, ◌&&◌, ◌||◌, ◌++◌, take, set}
use Rattle.std.proofs.Common.{arith, length-drop, append_assoc}
use Rattle.std.specs.List.{list_all}
use Rattle.std.proofs.lemmas.List.{at_drop_more, at_drop_all, drop_more, take_more, take_more_set, drop-set-lt}
use Rattle.std.proofs.lemmas.List.{take-append-drop, map-append, append-nil, length-map}
use Rattle.std.proofs.lemmas.Grind.{drop_more_same}
use Rattle.sftp_packets.specs.declared.names.NameItem.{NameItem}
use Rattle.sftp_path.specs.Place.{Name, Place, name_cmp, same_bytes}
use Rattle.sftp_path.specs.Table.{put}
use Rattle.sftp_tree.specs.declared.listings.Item.{Item}
use Rattle.sftp_tree.specs.Items.{entry_of}
use Rattle.sftp_handles.specs.State.{Left}
use Rattle.sftp_handles.specs.Replies.{names_in, is_among}
use Rattle.sftp_profile.specs.declared.directories.Directory.{Directory}
use Rattle.sftp_profile.specs.Profiles.{is_under, directory_at, struck_bytes, struck_names}
use Rattle.sftp_profile.specs.Notes.{all_put, note_of, noted, opened, shift_of, shift_note, when_done}
use Rattle.std.specs.Prelude.{◌==◌}
use Rattle.sftp_packets.specs.declared.requests.Ask.{Ask}
use Rattle.sftp_packets.specs.declared.replies.Answer.{Answer}
use Rattle.sftp_packets.specs.declared.replies.Answer.TheVariants as replies
use Rattle.sftp_handles.specs.State as sessions
use Rattle.sftp_handles.specs.Allowed as strictly
use Rattle.sftp_profile.specs.declared.notes.Note.{Note}
use Rattle.sftp_profile.specs.State.{State}
use Rattle.sftp_profile.specs.Profiles.{is_stateless}
use Rattle.sftp_profile.specs.DirectoryHandles.{directory_of, is_barred, refuses_kind}
use Rattle.sftp_profile.specs.Permitted.{first_of, forgiven_by, permitted, taken_as, with_given, under, with_note}
use Rattle.sftp_profile.specs.Permitted.{by_directory, met, judged}
use Rattle.sftp_profile.specs.Permitted.{Outcome, IsStrict, IsPermitted, IsJudged, IsNoted, IsMet, IsGiven}
use Rattle.sftp_profile.proofs.Permissions.{stateless-judged}
use Rattle.sftp_packets.specs.declared.attributes.Attrs.{Attrs}
use Rattle.sftp_packets.specs.declared.requests.Ask.TheVariants as asks
use Rattle.sftp_tree.specs.Tree.{Tree}
use Rattle.sftp_profile.specs.declared.notes.Note.TheVariants as notes

-- ---- names that are struck

pub struck-next : (d next : Directory) (items : List NameItem) (i : ℕ) (x : NameItem) → i < length items
    → x ≡ get_or items i x → next ≡ struck_bytes d x.filename
    → struck_names next (names_in (drop (i + 1) items)) ≡ struck_names d (names_in (drop i items))
unfolding struck_names
struck-next d next items i x within is same =
    ap (λ n. struck_names n (names_in (drop (i + 1) items))) same
    ∙ (ap (λ (y : NameItem). struck_names d (names_in (y ∷ drop (i + 1) items))) is
    ∙ sym (at_drop_more (λ l. struck_names d (names_in l)) items i x within))

pub struck-last : (d : Directory) (items : List NameItem) (i : ℕ) → length items ≤ i
    → d ≡ struck_names d (names_in (drop i items))
unfolding struck_names
struck-last d items i past = sym (at_drop_all (λ l. struck_names d (names_in l)) items i past)

-- ---- entries that are put

pub put-next : (table next : Left) (items : List Item) (i : ℕ) (x : Item) → i < length items → x ≡ get_or items i x
    → next ≡ put name_cmp table x.name x.attrs
    → all_put next (map entry_of (drop (i + 1) items)) ≡ all_put table (map entry_of (drop i items))
unfolding all_put
put-next table next items i x within is same =
    ap (λ t. all_put t (map entry_of (drop (i + 1) items))) same
    ∙ (ap (λ (y : Item). all_put table (map entry_of (y ∷ drop (i + 1) items))) is
    ∙ sym (at_drop_more (λ l. all_put table (map entry_of l)) items i x within))

pub put-last : (table : Left) (items : List Item) (i : ℕ) → length items ≤ i
    → table ≡ all_put table (map entry_of (drop i items))
unfolding all_put
put-last table items i past = sym (at_drop_all (λ l. all_put table (map entry_of l)) items i past)

-- ---- the first directory under a handle

at-either : (b : Bool) (x : Directory) (o : Option Directory) → b ≡ false → (if b then Some x else o) ≡ o
at-either true x o is = absurd cc
at-either false x o is = refl

at-here : (b : Bool) (x : Directory) (o : Option Directory) → b ≡ true → (if b then Some x else o) ≡ Some x
at-here true x o is = refl
at-here false x o is = absurd cc

more-directories : (ds : List Directory) (handle : List ℕ) (i : ℕ) (x : Directory) → i < length ds
    → x ≡ get_or ds i x
    → directory_at (drop i ds) handle ≡ (if is_under handle x then Some x else directory_at (drop (i + 1) ds) handle)
unfolding directory_at
more-directories ds handle i x within is =
    at_drop_more (λ l. directory_at l handle) ds i x within
    ∙ ap (λ (y : Directory). directory_at (y ∷ drop (i + 1) ds) handle) (sym is)

pub directory-next : (ds : List Directory) (handle : List ℕ) (i : ℕ) (x : Directory) → i < length ds
    → x ≡ get_or ds i x → is_under handle x ≡ false
    → directory_at (drop (i + 1) ds) handle ≡ directory_at (drop i ds) handle
directory-next ds handle i x within is other =
    sym (more-directories ds handle i x within is ∙ at-either (is_under handle x) x _ other)

pub directory-here : (ds : List Directory) (handle : List ℕ) (i : ℕ) (x : Directory) → i < length ds
    → x ≡ get_or ds i x → is_under handle x ≡ true → directory_at (drop i ds) handle ≡ Some x
directory-here ds handle i x within is same =
    more-directories ds handle i x within is ∙ at-here (is_under handle x) x _ same

pub directory-none : (ds : List Directory) (handle : List ℕ) (i : ℕ) → length ds ≤ i
    → directory_at (drop i ds) handle ≡ None
unfolding directory_at
directory-none ds handle i past = at_drop_all (λ l. directory_at l handle) ds i past

-- ---- tests of all items

more-items : (test : NameItem → Bool) (items : List NameItem) (i : ℕ) (x : NameItem) → i < length items
    → x ≡ get_or items i x → list_all test (drop i items) ≡ (test x && list_all test (drop (i + 1) items))
more-items test items i x within is =
    at_drop_more (list_all test) items i x within
    ∙ ap (λ (y : NameItem). list_all test (y ∷ drop (i + 1) items)) (sym is)

pub all-next : (test : NameItem → Bool) (items : List NameItem) (i : ℕ) (x : NameItem) → i < length items
    → x ≡ get_or items i x → test x ≡ true → list_all test (drop (i + 1) items) ≡ list_all test (drop i items)
all-next test items i x within is passes =
    sym (more-items test items i x within is ∙ ap (λ b. b && list_all test (drop (i + 1) items)) passes)

pub all-not : (test : NameItem → Bool) (items : List NameItem) (i : ℕ) (x : NameItem) → i < length items
    → x ≡ get_or items i x → test x ≡ false → list_all test (drop i items) ≡ false
all-not test items i x within is passes =
    more-items test items i x within is ∙ ap (λ b. b && list_all test (drop (i + 1) items)) passes

pub all-end : (test : NameItem → Bool) (items : List NameItem) (i : ℕ) → length items ≤ i
    → list_all test (drop i items) ≡ true
all-end test items i past = at_drop_all (list_all test) items i past

-- ---- a name among those of items

more-names : (name : Name) (items : List NameItem) (i : ℕ) (x : NameItem) → i < length items → x ≡ get_or items i x
    → is_among name (names_in (drop i items))
    ≡ (same_bytes name x.filename || is_among name (names_in (drop (i + 1) items)))
more-names name items i x within is =
    at_drop_more (λ l. is_among name (names_in l)) items i x within
    ∙ ap (λ (y : NameItem). is_among name (names_in (y ∷ drop (i + 1) items))) (sym is)

pub among-next : (name : Name) (items : List NameItem) (i : ℕ) (x : NameItem) → i < length items
    → x ≡ get_or items i x → same_bytes name x.filename ≡ false
    → is_among name (names_in (drop (i + 1) items)) ≡ is_among name (names_in (drop i items))
among-next name items i x within is other =
    sym
    (more-names name items i x within is ∙ ap (λ b. b || is_among name (names_in (drop (i + 1) items))) other)

pub among-here : (name : Name) (items : List NameItem) (i : ℕ) (x : NameItem) → i < length items
    → x ≡ get_or items i x → same_bytes name x.filename ≡ true → is_among name (names_in (drop i items)) ≡ true
among-here name items i x within is same =
    more-names name items i x within is ∙ ap (λ b. b || is_among name (names_in (drop (i + 1) items))) same

pub among-none : (name : Name) (items : List NameItem) (i : ℕ) → length items ≤ i
    → is_among name (names_in (drop i items)) ≡ false
among-none name items i past = at_drop_all (λ l. is_among name (names_in l)) items i past

-- ---- names that are entered

pub entered-next : (top names : Place) (i : ℕ) (x : Name) (before after : Place) → i < length names
    → x ≡ get_or names i x → before ≡ top ++ take i names → after ≡ before ++ x ∷ []
    → after ≡ top ++ take (i + 1) names
entered-next top names i x before after within is was same =
    same
    ∙ (ap (λ l. l ++ x ∷ []) was
    ∙ (append_assoc top (take i names) (x ∷ [])
    ∙ ap (λ l. top ++ l) (ap (λ y. take i names ++ y ∷ []) is ∙ sym (take_more names i x within))))

all-taken : (names : Place) (i : ℕ) → length names ≤ i → take i names ≡ names
all-taken names i past =
    sym (append-nil (take i names))
    ∙ (ap (λ l. take i names ++ l) (sym (at_drop_all (λ l. l) names i past)) ∙ take-append-drop i names)

pub entered-all : (top names : Place) (i : ℕ) (place : Place) → length names ≤ i → place ≡ top ++ take i names
    → place ≡ top ++ names
entered-all top names i place past is = is ∙ ap (λ l. top ++ l) (all-taken names i past)

-- ---- each changed in its place

module _ {X : Type 0} (f : X → X) (before : List X) where
  same_heads : (x y : X) (xs ys : List X) → x ∷ xs ≡ y ∷ ys → x ≡ y
  same_heads x y xs ys is = cc

  within_now : (now : List X) (i : ℕ) → i < length before → drop i now ≡ drop i before → i < length now
  within_now now i within rest = omega (arith, within, ap length rest, length-drop i now, length-drop i before)

  pub change-taken : (now : List X) (i : ℕ) (x y : X) → i < length before → take i now ≡ map f (take i before)
      → drop i now ≡ drop i before → y ≡ f (get_or now i x)
      → take (i + 1) (set now i y) ≡ map f (take (i + 1) before)
  change-taken now i x y within taken rest same =
      let in_now : i < length now = within_now now i within rest in
      let heads : get_or now i x ≡ get_or before i x =
      same_heads _ _ _ _ (sym (drop_more now i x in_now) ∙ (rest ∙ drop_more before i x within)) in
      take_more_set now i y in_now
      ∙ (ap (λ l. l ++ y ∷ []) taken
      ∙ (ap (λ z. map f (take i before) ++ z ∷ []) (same ∙ ap f heads)
      ∙ (sym (map-append f (take i before) (get_or before i x ∷ [])) ∙ ap (map f) (sym (take_more before i x within)))))

  pub change-rest : (now : List X) (i : ℕ) (y : X) → drop i now ≡ drop i before
      → drop (i + 1) (set now i y) ≡ drop (i + 1) before
  change-rest now i y rest = drop-set-lt (i + 1) now i y (omega arith) ∙ drop_more_same now before i rest

  pub change-all : (now : List X) (i : ℕ) → length before ≤ i → take i now ≡ map f (take i before)
      → drop i now ≡ drop i before → now ≡ map f before
  change-all now i past taken rest =
      let none : drop i before ≡ [] = at_drop_all (λ l. l) before i past in
      sym (take-append-drop i now)
      ∙ (ap (λ l. l ++ drop i now) taken
      ∙ (ap (λ l. map f (take i before) ++ l) (rest ∙ (none ∙ ap (map f) (sym none)))
      ∙ (sym (map-append f (take i before) (drop i before)) ∙ ap (map f) (take-append-drop i before))))

  pub change-length : (now : List X) (i : ℕ) → length before ≤ i → take i now ≡ map f (take i before)
      → drop i now ≡ drop i before → length now ≡ length before
  change-length now i past taken rest = ap length (change-all now i past taken rest) ∙ length-map before f

-- ==== Replies that are permitted with a look at the directories that are open.

-- ---- what is noted

pub stateless-outcome : (s end : State) (ask : Ask) (answer : Answer) (ok : Bool) → is_stateless s.profile ≡ true
    → IsPermitted s ask answer ok end → IsJudged s ask answer ok end
stateless-outcome s end ask answer ok is found = record {
  is = stateless-judged s ask answer is ∙ found.is;
  kept = found.kept;
}

pub noted-outcome : (s end : State) (ask : Ask) (answer : Answer) (note : Note) (ok : Bool)
    → is_stateless s.profile ≡ false → note ≡ note_of s.session.tree ask answer → IsNoted s ask answer note ok end
    → IsJudged s ask answer ok end
unfolding judged
noted-outcome s end ask answer note ok is same found = record {
  is =
      ap
      (λ b.
      if b then under s (permitted s.profile s.session ask answer)
      else with_note s (note_of s.session.tree ask answer) answer
      (met s.profile s.session (directory_of s.directories ask) ask answer)) is
      ∙ (ap (λ n. with_note s n answer (met s.profile s.session (directory_of s.directories ask) ask answer)) (sym same)
      ∙ found.is);
  kept = found.kept;
}

unmet : (s end : State) (note : Note) (answer : Answer) (o : Option sessions.State) → Outcome (under s o) s false end
    → with_note s note answer o ≡ None
unmet s end note answer (Some session) found = absurd (let is = found.is in cc)
unmet s end note answer None found = refl

pub unmet-outcome : (s end : State) (ask : Ask) (answer : Answer) (note : Note) (ok : Bool) → ok ≡ false
    → IsMet s ask answer ok end → IsNoted s ask answer note false end
unmet-outcome s end ask answer note true is found = absurd cc
unmet-outcome s end ask answer note false is found = record {
  is = unmet s end note answer (met s.profile s.session (directory_of s.directories ask) ask answer) found;
  kept = found.kept;
}

same_state : (a b : State) → Some a ≡ Some b → a ≡ b
same_state a b is = cc

met-note : (s mid end : State) (note : Note) (answer : Answer) (o : Option sessions.State)
    → Outcome (under s o) s true mid → end ≡ record mid { directories = noted mid.directories note answer }
    → with_note s note answer o ≡ Some end
met-note s mid end note answer (Some session) found same =
    let is : record s { session = session } ≡ mid = same_state _ mid found.is in
    ap (λ (m : State). Some (record m { directories = noted m.directories note answer })) is ∙ ap Some (sym same)
met-note s mid end note answer None found same = absurd (let is = found.is in cc)

pub met-outcome : (s mid end : State) (ask : Ask) (answer : Answer) (note : Note) (ok : Bool) → ok ≡ true
    → IsMet s ask answer ok mid → end ≡ record mid { directories = noted mid.directories note answer }
    → IsNoted s ask answer note true end
met-outcome s mid end ask answer note false is found same = absurd cc
met-outcome s mid end ask answer note true is found same = record {
  is = met-note s mid end note answer (met s.profile s.session (directory_of s.directories ask) ask answer) found same;
  kept = λ e. absurd cc;
}

-- ---- on a directory or on anything else

forgiven-is : (s : State) (b : Bool) → under s (forgiven_by s.session b) ≡ (if b then Some s else None)
forgiven-is s true = refl
forgiven-is s false = refl

pub barred-outcome : (s : State) (ask : Ask) (answer : Answer)
    → is_barred (directory_of s.directories ask) ask ≡ true → IsMet s ask answer (refuses_kind s.profile answer) s
unfolding met
barred-outcome s ask answer is = record {
  is =
      ap
      (λ b.
      under s
      (if b then forgiven_by s.session (refuses_kind s.profile answer)
      else first_of (permitted s.profile s.session ask answer)
      (by_directory s.profile s.session (directory_of s.directories ask) ask answer))) is
      ∙ forgiven-is s (refuses_kind s.profile answer);
  kept = λ e. refl;
}

pub unbarred-outcome : (s end : State) (ask : Ask) (answer : Answer) (ok : Bool)
    → is_barred (directory_of s.directories ask) ask ≡ false
    → Outcome (under s (first_of (permitted s.profile s.session ask answer)
    (by_directory s.profile s.session (directory_of s.directories ask) ask answer))) s ok end
    → IsMet s ask answer ok end
unfolding met
unbarred-outcome s end ask answer ok is found = record {
  is =
      ap
      (λ b.
      under s
      (if b then forgiven_by s.session (refuses_kind s.profile answer)
      else first_of (permitted s.profile s.session ask answer)
      (by_directory s.profile s.session (directory_of s.directories ask) ask answer))) is
      ∙ found.is;
  kept = found.kept;
}

-- ---- the first of several

pub forgiven-outcome : (s : State) (b : Bool) (rest : Option sessions.State) → b ≡ true
    → Outcome (under s (first_of (forgiven_by s.session b) rest)) s true s
forgiven-outcome s true rest is = record { is = refl; kept = λ e. refl }
forgiven-outcome s false rest is = absurd cc

pub unforgiven-outcome : (s end : State) (b : Bool) (rest : Option sessions.State) (ok : Bool) → b ≡ false
    → Outcome (under s rest) s ok end → Outcome (under s (first_of (forgiven_by s.session b) rest)) s ok end
unforgiven-outcome s end true rest ok is found = absurd cc
unforgiven-outcome s end false rest ok is found = found

-- what a departure that is off would have found is not found
pub off-outcome : (s : State) (b : Bool) (o : Option sessions.State) → b ≡ false
    → Outcome (under s (if b then o else None)) s false s
off-outcome s true o is = absurd cc
off-outcome s false o is = record { is = refl; kept = λ e. refl }

-- what one that is on finds, is found
pub on-outcome : (s end : State) (b : Bool) (o : Option sessions.State) (ok : Bool) → b ≡ true
    → Outcome (under s o) s ok end → Outcome (under s (if b then o else None)) s ok end
on-outcome s end true o ok is found = found
on-outcome s end false o ok is found = absurd cc

-- ---- the request that stands for one on a directory

pub standing-outcome : (s end : State) (other : Option Ask) (ask : Ask) (answer : Answer) (ok : Bool)
    → other ≡ Some ask → IsPermitted s ask answer ok end
    → Outcome (under s (taken_as s.profile s.session other answer)) s ok end
standing-outcome s end other ask answer ok is found = record {
  is = ap (λ o. under s (taken_as s.profile s.session o answer)) is ∙ found.is;
  kept = found.kept;
}

pub no-standing : (s : State) (other : Option Ask) (answer : Answer) → other ≡ None
    → Outcome (under s (taken_as s.profile s.session other answer)) s false s
no-standing s other answer is = record {
  is = ap (λ o. under s (taken_as s.profile s.session o answer)) is;
  kept = λ e. refl;
}

-- ---- names that may be given

pub no-given : (s : State) (ask : Ask) (due : Option (List NameItem)) → due ≡ None
    → Outcome (under s (with_given s.session ask due)) s false s
no-given s ask due is = record { is = ap (λ d. under s (with_given s.session ask d)) is; kept = λ e. refl }

pub given-outcome : (s end : State) (ask : Ask) (due : Option (List NameItem)) (items : List NameItem) (ok : Bool)
    → due ≡ Some items → IsGiven s ask items ok end → Outcome (under s (with_given s.session ask due)) s ok end
given-outcome s end ask due items ok is found = record {
  is = ap (λ d. under s (with_given s.session ask d)) is ∙ found.is;
  kept = found.kept;
}

-- what giving these names does, by whether there are none
given-as : (s : State) (ask : Ask) (items : List NameItem) (is_none : Bool) → (length items == 0) ≡ is_none
    → under s (if length items == 0 then Some s.session else strictly.step s.session ask (replies.Name items))
    ≡ under s (if is_none then Some s.session else strictly.step s.session ask (replies.Name items))
given-as s ask items is_none is =
    ap (λ b. under s (if b then Some s.session else strictly.step s.session ask (replies.Name items))) is

pub none-given : (s : State) (ask : Ask) (items : List NameItem) → (length items == 0) ≡ true
    → IsGiven s ask items true s
none-given s ask items is = record {
  is = given-as s ask items true is;
  kept = λ e. refl;
}

pub some-given : (s end : State) (ask : Ask) (items : List NameItem) (ok : Bool) → (length items == 0) ≡ false
    → IsStrict s ask (replies.Name items) ok end → IsGiven s ask items ok end
some-given s end ask items ok is found = record {
  is = given-as s ask items false is ∙ found.is;
  kept = found.kept;
}

-- ==== What is noted, request by request.

module _ (t : Tree) (ask : Ask) (answer : Answer) where
  pub opendir-note : (path : List ℕ) → ask ≡ asks.Opendir path
      → note_of t ask answer ≡ opened t path true answer notes.Nothing
  unfolding note_of
  opendir-note path is = ap (λ a. note_of t a answer) is

  pub open-note : (path : List ℕ) (pflags : ℕ) (attrs : Attrs) → ask ≡ asks.Open path pflags attrs
      → note_of t ask answer ≡ opened t path false answer (shift_note (shift_of t ask))
  unfolding note_of
  open-note path pflags attrs is =
      ap (λ a. note_of t a answer) is
      ∙ ap (λ a. opened t path false answer (shift_note (shift_of t a))) (sym is)

  pub readdir-note : (handle : List ℕ) → ask ≡ asks.Readdir handle → note_of t ask answer ≡ notes.Gives handle
  unfolding note_of
  readdir-note handle is = ap (λ a. note_of t a answer) is

  pub close-note : (handle : List ℕ) → ask ≡ asks.Close handle
      → note_of t ask answer ≡ when_done answer (notes.Closes handle)
  unfolding note_of
  close-note handle is = ap (λ a. note_of t a answer) is

pub other-note : (t : Tree) (ask : Ask) (answer : Answer) → ((path : List ℕ) → ask ≡ asks.Opendir path → ⊥)
    → ((path : List ℕ) (pflags : ℕ) (attrs : Attrs) → ask ≡ asks.Open path pflags attrs → ⊥)
    → ((handle : List ℕ) → ask ≡ asks.Readdir handle → ⊥) → ((handle : List ℕ) → ask ≡ asks.Close handle → ⊥)
    → note_of t ask answer ≡ when_done answer (shift_note (shift_of t ask))
unfolding note_of
other-note t (asks.Opendir path) answer a b c d = absurd (a path refl)
other-note t (asks.Open path pflags attrs) answer a b c d = absurd (b path pflags attrs refl)
other-note t (asks.Readdir handle) answer a b c d = absurd (c handle refl)
other-note t (asks.Close handle) answer a b c d = absurd (d handle refl)
other-note t other answer a b c d = refl
