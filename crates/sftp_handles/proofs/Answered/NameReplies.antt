-- READDIR: the reply that gives the first names of a listing, and the reply that there are no more.
use Rattle.sftp_handles.proofs.Imports.{◌≡◌, ◌==◌, nat_lt, ℕ, zero, suc, ◌<◌, Bool, true, false, List, [], ◌∷◌}
use Rattle.sftp_handles.proofs.Imports.{length, Option, Some, None, refl, sym, ap, subst, ◌∙◌, arith, lit<, inl, inr}
use Rattle.sftp_handles.proofs.Imports.{both_ways, eqb-true, lt-ltb, NameItem, Ask, Answer, Name, Open, File, Listing}
use Rattle.sftp_handles.proofs.Imports.{Handles, open_at, State, Good, names_in, refuses, causes, Does, IsJudged}
use Rattle.sftp_handles.proofs.Imports.{IsSpelledAnswer, IsAnswered, IsListing, gives_names, with_struck}
use Rattle.sftp_handles.proofs.Imports.{are_some_left, AreFirst, AreFirstNames, AreUpTo, IsReplyOf, Readdir, ◌&&◌}
use Rattle.sftp_handles.proofs.Imports.{◌||◌, not, ◌≤◌, IsTrue, nat_le, leb-true, and_parts, AreBytes, handle_limit}
use Rattle.sftp_handles.proofs.Imports.{NoRoom, Refused, CauseSet, is_none, when, has_handle_left, is_open}
use Rattle.sftp_handles.proofs.Imports.{is_new_handle, with_handle_room, purpose_of, IsRefusal}
use Rattle.sftp_packets.specs.declared.replies.Answer.TheVariants as replies
use Rattle.sftp_listing.proofs.FirstNames.{first-again, first-some}
use Rattle.sftp_handles.specs.Replies.{lists, opens}
use Rattle.sftp_handles.proofs.Judged.GivenNames.{has_none, listing-left, given-judged, readdir-ends}
use Rattle.sftp_handles.proofs.Judged.{allow-one, answers-said}
use Rattle.sftp_handles.proofs.Good.Pins.{state_of}
use Rattle.sftp_handles.proofs.Judged.{step-is_allowed}
use Rattle.sftp_handles.proofs.TotalSteps.SaidReplies.{FitInPacket, few-names, status-spelled, reply-listed}
use Rattle.sftp_handles.proofs.TotalSteps.SaidReplies.{handle-spelled}
use Rattle.sftp_packets.specs.declared.requests.Ask.TheVariants as asks
use Rattle.sftp_tree.specs.Requests as paths
use Rattle.sftp_tree.specs.Told as refusals_of
use Rattle.sftp_handles.specs.declared.requests.Purpose.TheVariants as purposes
use Rattle.sftp_handles.proofs.Judged.GivenNames.{opens-said}
use Rattle.sftp_handles.proofs.OpenFiles.Opened.{refused-file, refused-listing}

-- ---- whether there are names, as the code finds out

pub some-items : {X : Type 0} (items : List X) (empty : Bool) → empty ≡ (length items == 0) → empty ≡ false
    → nat_lt 0 (length items) ≡ true
some-items [] empty test some = absurd (both_ways empty some test)
some-items (item ∷ items) empty test some = lt-ltb 0 (length (item ∷ items)) (omega arith)

pub no-items : {X : Type 0} (items : List X) (empty : Bool) → empty ≡ (length items == 0) → empty ≡ true
    → length items ≡ 0
no-items items empty test none = eqb-true (length items) 0 (sym test ∙ none)

-- ---- what was judged to be allowed

-- an answer that no cause allows is the request's
judged-does : (s : State) (ask : Ask) (answer : Answer) (end : State) → refuses (causes s ask) answer ≡ false
    → IsJudged s ask answer true end → Does s ask answer end
judged-does s ask answer end unlike judged =
    let allowed =
    step-is_allowed s (record { id = 0; ask = ask }) (record { id = 0; answer = answer }) end refl judged.step_is in
    elim allowed.step [
      | inl r ↦ absurd (both_ways (refuses (causes s ask) answer) unlike r.cause)
      | inr d ↦ d
    ]

-- a listing that gives no names, though it may give some, has none
none-in : (most : ℕ) (names : List Name) (found : Option Open) → 0 < most → AreFirstNames most found names
    → length names ≡ 0 → has_none found ≡ true
none-in most names None some first none = absurd first
none-in most names (Some (File number flags)) some first none = absurd first
none-in most names (Some (Listing [])) some first none = refl
none-in zero names (Some (Listing (e ∷ es))) some first none = absurd (omega (arith, some))
none-in (suc n) names (Some (Listing (e ∷ es))) some first none =
    absurd (omega (arith, none, ap (λ (xs : List Name). length xs) first))

-- the first names are as many as there are of them
counted-in : (most : ℕ) (names : List Name) (found : Option Open) → AreFirstNames most found names
    → AreFirstNames (length names) found names
counted-in most names None first = absurd first
counted-in most names (Some (File number flags)) first = absurd first
counted-in most names (Some (Listing left)) first = first-again most names left first

pub counted-names : (most : ℕ) (names : List Name) (found : Option Open) → AreUpTo most found names
    → AreFirstNames (length names) found names
counted-names most names found up = counted-in most names found up.first

-- if so many fit in a packet, they do
fit-in : (most : ℕ) (names : List Name) (found : Option Open) → FitInPacket most → AreFirstNames most found names
    → FitInPacket (length names)
fit-in most names None fit first = absurd first
fit-in most names (Some (File number flags)) fit first = absurd first
fit-in most names (Some (Listing left)) fit first =
    omega (arith, fit, few-names most left, ap (λ (xs : List Name). length xs) first)

pub names-fit : (most : ℕ) (names : List Name) (found : Option Open) → FitInPacket most → AreUpTo most found names
    → FitInPacket (length names)
names-fit most names found fit up = fit-in most names found fit up.first

-- ---- the listing that is open

module _ (s : State) (handle : List ℕ) (good : Good s) where
  given-some : (most : ℕ) (items : List NameItem) (found : Option Open) → open_at s.handles handle ≡ found
      → AreFirst most found items → nat_lt 0 (length items) ≡ true → gives_names found items ≡ true
  given-some most items None there first some = absurd first
  given-some most items (Some (File number flags)) there first some = absurd first
  given-some most items (Some (Listing left)) there first some =
      subst (λ (xs : List NameItem). are_some_left left xs ≡ true) (sym first)
      (first-some most left (listing-left s handle left good there)
      (subst (λ (xs : List NameItem). nat_lt 0 (length xs) ≡ true) first some))

  given-spelled : (most : ℕ) (items : List NameItem) (found : Option Open) → FitInPacket most
      → open_at s.handles handle ≡ found → AreFirst most found items → nat_lt 0 (length items) ≡ true
      → IsSpelledAnswer (replies.Name items)
  given-spelled most items None fit there first some = absurd first
  given-spelled most items (Some (File number flags)) fit there first some = absurd first
  given-spelled most items (Some (Listing left)) fit there first some =
      let reply : IsReplyOf (lists left) (replies.Name items) =
      subst (λ (xs : List NameItem). IsReplyOf (lists left) (replies.Name xs)) (sym first)
      (reply-listed most left fit (listing-left s handle left good there)
      (subst (λ (xs : List NameItem). nat_lt 0 (length xs) ≡ true) first some)) in
      reply.spelled

  named-in : (most : ℕ) (names : List Name) (found : Option Open) → open_at s.handles handle ≡ found
      → AreFirstNames most found names → IsListing found
  named-in most names None there first = absurd first
  named-in most names (Some (File number flags)) there first = absurd first
  named-in most names (Some (Listing left)) there first = (listing-left s handle left good there).ordered

  -- what has first names is a listing
  pub first-listing : (most : ℕ) (names : List Name) → AreFirstNames most (open_at s.handles handle) names
      → IsListing (open_at s.handles handle)
  first-listing most names first = named-in most names (open_at s.handles handle) refl first

  -- its names are given
  pub first-given : (most : ℕ) (items : List NameItem) → AreFirst most (open_at s.handles handle) items
      → nat_lt 0 (length items) ≡ true → gives_names (open_at s.handles handle) items ≡ true
  first-given most items first some = given-some most items (open_at s.handles handle) refl first some

  -- the names that were struck are those of the reply
  pub readdir-answered : (most : ℕ) (items : List NameItem) (given : List Name) (handles : Handles)
      → FitInPacket most → AreFirst most (open_at s.handles handle) items → nat_lt 0 (length items) ≡ true
      → given ≡ names_in items → handles ≡ with_struck s.handles handle given (open_at s.handles handle)
      → IsAnswered s (Readdir handle) (replies.Name items) (state_of s.tree handles)
  readdir-answered most items given handles fit first some same is =
      let gives = first-given most items first some in
      record {
        does =
            judged-does s (Readdir handle) (replies.Name items) (state_of s.tree handles) refl
            (given-judged s handle items given handles good (sym gives) same is);
        spelled = given-spelled most items (open_at s.handles handle) fit refl first some;
      }

  -- it has nothing left
  pub readdir-ended : (most : ℕ) (names : List Name) → 0 < most → AreUpTo most (open_at s.handles handle) names
      → length names ≡ 0 → IsAnswered s (Readdir handle) (replies.Status 1 [] []) s
  readdir-ended most names some up none = record {
    does =
        judged-does s (Readdir handle) (replies.Status 1 [] []) s (allow-one (causes s (Readdir handle)))
        (readdir-ends s handle true good (sym (none-in most names (open_at s.handles handle) some up.first none)) [] []);
    spelled = status-spelled 1 (lit< tt);
  }

-- ==== OPEN and OPENDIR: the reply that gives a new handle, and why there is none.

-- ---- no more handles

no-room : (b : Bool) (set : CauseSet) → b ≡ true → when set NoRoom b NoRoom ≡ true
unfolding when
no-room b set is = ap (λ b. b || set NoRoom) is

lacks : (none left : Bool) → none ≡ true → left ≡ false → (none && not left) ≡ true
lacks true false is full = refl
lacks true true is full = absurd cc
lacks false left is full = absurd cc

room-refuses : (s : State) (set : CauseSet) → is_none set ≡ true → has_handle_left s ≡ false
    → with_handle_room s set NoRoom ≡ true
room-refuses s set none full =
    no-room (is_none set && not (has_handle_left s)) set (lacks (is_none set) (has_handle_left s) none full)

-- a request that no other cause refuses
pub handles-refuse : (s : State) (ask : Ask) → purpose_of ask ≡ purposes.Open → IsTrue (is_none (paths.causes s.tree ask))
    → has_handle_left s ≡ false → IsTrue (causes s ask NoRoom)
unfolding causes
handles-refuse s (asks.Open path pflags attrs) opening none full =
    room-refuses s (paths.causes s.tree (asks.Open path pflags attrs)) none full
handles-refuse s (asks.Opendir path) opening none full = room-refuses s (paths.causes s.tree (asks.Opendir path)) none full
handles-refuse s other opening none full = absurd cc

-- one that another cause refuses
pub path-refuses : (s : State) (ask : Ask) (refused : Refused) → purpose_of ask ≡ purposes.Open
    → refusals_of.IsRefusal s.tree ask refused → IsRefusal s ask refused
path-refuses s (asks.Open path pflags attrs) refused opening holds =
    refused-file s s.tree path pflags attrs refused refl holds
path-refuses s (asks.Opendir path) refused opening holds = refused-listing s s.tree path refused refl holds
path-refuses s other refused opening holds = absurd cc

-- ---- a new handle

-- it is not too long
new-short : (handles : Handles) (handle : List ℕ) → is_new_handle handles (replies.Handle handle) ≡ true
    → length handle ≤ handle_limit
new-short handles handle is =
    leb-true (length handle) handle_limit
    (and_parts (nat_le (length handle) handle_limit) (not (is_open handles handle)) is).0

pub handle-answered : (s : State) (ask : Ask) (handle : List ℕ) (end : State) → purpose_of ask ≡ purposes.Open
    → Does s ask (replies.Handle handle) end → AreBytes handle → IsAnswered s ask (replies.Handle handle) end
handle-answered s ask handle end is does bytes =
    let said = answers-said s ask (opens s.handles) (replies.Handle handle) (opens-said s ask is does.free) in
    record {
      does = does;
      spelled = handle-spelled handle bytes (new-short s.handles handle (sym said ∙ does.answered));
    }
