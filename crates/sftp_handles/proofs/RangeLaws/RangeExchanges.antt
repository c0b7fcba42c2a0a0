-- Requests on one file that keep to ranges of it which do not meet may change places.
use Rattle.sftp_handles.proofs.Imports.{◌≡◌, ◌&&◌, nat_lt, ℕ, zero, suc, ◌+◌, ◌≤◌, Bool, false, List, [], ◌∷◌, length}
use Rattle.sftp_handles.proofs.Imports.{take, drop, Option, Some, None, option_map, ◌⊎◌, inl, inr, refl, sym, ap, subst}
use Rattle.sftp_handles.proofs.Imports.{◌∙◌, arith, nat_cmp, nat_cmp_total, ltb-false, and_cases, same_Some, OpenFlags}
use Rattle.sftp_handles.proofs.Imports.{Ask, Answer, Request, Reply, asked_handle, InOrder, get-put_here, IsAsk}
use Rattle.sftp_handles.proofs.Imports.{Content, content_at, limits, ByteRange, File, open_at, State, Good, a_file}
use Rattle.sftp_handles.proofs.Imports.{file, seen_file, seen_among, seen, row_of, Allowed, step, ComesFirst}
use Rattle.sftp_handles.specs.Clash.{span, meet}
use Rattle.sftp_handles.proofs.ClashLaws.{StaysGood}
use Rattle.sftp_handles.proofs.Judged.{allowed-step, step-is_allowed}
use Rattle.sftp_handles.proofs.RangeLaws.Spans.{over, over-length, over-nothing, over-behind, over-before}
use Rattle.sftp_handles.proofs.RangeLaws.Spans.{over-over}
use Rattle.sftp_handles.proofs.RangeLaws.{Ranged}
use Rattle.sftp_handles.proofs.RangeLaws.{with_file, file-twice, judged, effect, file-step, data_of}
use Rattle.sftp_handles.proofs.RangeLaws.{with_bytes, data-within, effect-over, AreAlike, judged-alike}

-- ---- ranges that do not meet

-- one is empty, or one ends before the other starts
abbrev pub IsApart : ℕ × ℕ → ℕ × ℕ → Type 0
IsApart a b = (a.1 ≤ a.0) ⊎ ((b.1 ≤ b.0) ⊎ ((a.1 ≤ b.0) ⊎ (b.1 ≤ a.0)))

abbrev pub ends_of : ByteRange → ℕ × ℕ
ends_of at = (at.start, at.end)

pub apart-of : (a b : ByteRange) → meet a b ≡ false → IsApart (ends_of a) (ends_of b)
apart-of a b none = elim (and_cases (nat_lt a.start a.end && nat_lt b.start b.end) (nat_lt a.start b.end && nat_lt b.start a.end) none) [
  | inl empty ↦ elim (and_cases (nat_lt a.start a.end) (nat_lt b.start b.end) empty) [
    | inl first ↦ inl (ltb-false a.start a.end first)
    | inr second ↦ inr (inl (ltb-false b.start b.end second))
  ]
  | inr past ↦ elim (and_cases (nat_lt a.start b.end) (nat_lt b.start a.end) past) [
    | inl first ↦ inr (inr (inr (ltb-false a.start b.end first)))
    | inr second ↦ inr (inr (inl (ltb-false b.start a.end second)))
  ]
]

-- data in an empty range are none
over-none : (o : ℕ) (d : List ℕ) (end : ℕ) (bs : List ℕ) → o + length d ≤ end → end ≤ o → over o d bs ≡ bs
over-none o [] end bs fits empty = over-nothing o bs
over-none o (x ∷ xs) end bs fits empty = absurd (omega arith)

module _ (a b : ℕ × ℕ) (d e bs : List ℕ) (fits : a.0 + length d ≤ a.1) (fits_too : b.0 + length e ≤ b.1) where
  overs-apart : IsApart a b → over a.0 d (over b.0 e bs) ≡ over b.0 e (over a.0 d bs)
  overs-apart (inl empty) =
      over-none a.0 d a.1 (over b.0 e bs) fits empty ∙ ap (over b.0 e) (sym (over-none a.0 d a.1 bs fits empty))
  overs-apart (inr (inl empty)) =
      ap (over a.0 d) (over-none b.0 e b.1 bs fits_too empty) ∙ sym (over-none b.0 e b.1 (over a.0 d bs) fits_too empty)
  overs-apart (inr (inr (inl before))) = over-over a.0 d b.0 e bs (omega arith)
  overs-apart (inr (inr (inr behind))) = sym (over-over b.0 e a.0 d bs (omega arith))

-- bytes that are read apart from data that are written
module _ (a b : ℕ × ℕ) (e bs : List ℕ) (fits : b.0 + length e ≤ b.1) where
  read-apart : IsApart a b → (count : ℕ) → a.0 + count ≤ a.1
      → take count (drop a.0 (over b.0 e bs)) ≡ take count (drop a.0 bs)
  read-apart (inl empty) zero within = refl
  read-apart (inl empty) (suc count) within = absurd (omega arith)
  read-apart (inr (inl empty)) count within = ap (λ x. take count (drop a.0 x)) (over-none b.0 e b.1 bs fits empty)
  read-apart (inr (inr (inl before))) count within = over-before b.0 e bs a.0 count (omega arith)
  read-apart (inr (inr (inr behind))) count within = ap (take count) (over-behind b.0 e bs a.0 (omega arith))

turn : (a b : ℕ × ℕ) → IsApart a b → IsApart b a
turn a b (inl empty) = inr (inl empty)
turn a b (inr (inl empty)) = inl empty
turn a b (inr (inr (inl before))) = inr (inr (inr before))
turn a b (inr (inr (inr behind))) = inr (inr (inl behind))

-- ---- a request on a file

-- a request that keeps to this range of the file of a number, which was opened so and has this content
pub record OnFile (s : State) (ask : Ask) (number : ℕ) (flags : OpenFlags) (before : Content) (ends : ℕ × ℕ) : Type 0 where
  pub handle : List ℕ
  pub asked : asked_handle ask ≡ Some handle
  pub needed : (row_of ask).needed ≡ a_file
  pub opened : open_at s.handles handle ≡ Some (File number flags)
  pub there : content_at s.tree.files number ≡ Some before
  pub spanned : span (limits s.tree) ask flags ≡ Some ends
  pub within : ends.1 ≤ length before.bytes

pub on-file : {s : State} {ask : Ask} {at : ByteRange} → (r : Ranged s ask at)
    → OnFile s ask at.number r.flags r.before (ends_of at)
on-file r = record {
  handle = r.handle;
  asked = r.asked;
  needed = r.needed;
  opened = r.opened;
  there = r.there;
  spanned = r.spanned;
  within = r.within;
}

-- the same file
pub on-same : {s : State} {ask : Ask} {m n : ℕ} {flags : OpenFlags} {before content : Content} {ends : ℕ × ℕ} → m ≡ n
    → content_at s.tree.files n ≡ Some content → OnFile s ask m flags before ends → OnFile s ask n flags content ends
on-same {s} {ask} {m} {n} {flags} {before} {content} {ends} same there at =
    let here : content_at s.tree.files m ≡ Some content = ap (content_at s.tree.files) same ∙ there in
    let one : before ≡ content = same_Some before content (sym at.there ∙ here) in
    subst (λ (k : ℕ). OnFile s ask k flags content ends) same (subst (λ (c : Content). OnFile s ask m flags c ends) one at)

module _ {s : State} {ask : Ask} {number : ℕ} {flags : OpenFlags} {before : Content} {ends : ℕ × ℕ}
    (at : OnFile s ask number flags before ends) where
  -- with another content of the same length
  pub on-changed : (next : Content) → length next.bytes ≡ length before.bytes
      → OnFile (with_file s number next) ask number flags next ends
  on-changed next sized = record {
    handle = at.handle;
    asked = at.asked;
    needed = at.needed;
    opened = at.opened;
    there = get-put_here nat_cmp nat_cmp_total s.tree.files number next;
    spanned = at.spanned;
    within = subst (λ n. ends.1 ≤ n) (sym sized) at.within;
  }

  sees-file : seen s (row_of ask).needed at.handle ≡ file number flags before
  unfolding seen
  sees-file =
      (λ i. seen_among s.tree.files (at.needed i) (at.opened i)) ∙ ap (seen_file number flags) at.there

  -- its step, by whether the answer says that it was done
  on-step : (answer : Answer) → Good s → IsAsk ask
      → step s ask answer
      ≡ option_map (λ done. with_file s number (effect done ask flags before))
      (judged s.tree ask number flags before answer)
  on-step answer good fit =
      file-step s ask at.handle number flags before answer good.tree.well_formed.numbered at.there at.asked good fit
      sees-file

  -- the length of the file stays
  pub effect-size : (done : Bool) → length (effect done ask flags before).bytes ≡ length before.bytes
  effect-size done =
      ap (λ (c : Content). length c.bytes)
      (effect-over (limits s.tree) flags before ends at.within done ask at.spanned)
      ∙ over-length ends.0 (data_of done ask) before.bytes

  -- the content after it is as before in a range apart
  effect-alike : (other : ℕ × ℕ) (done : Bool) → IsApart other ends
      → AreAlike other before (effect done ask flags before)
  effect-alike other done apart = record {
    sized = effect-size done;
    bytes =
        λ count within.
        ap (λ (c : Content). take count (drop other.0 c.bytes))
        (effect-over (limits s.tree) flags before ends at.within done ask at.spanned)
        ∙ read-apart other ends (data_of done ask) before.bytes
        (data-within (limits s.tree) flags before ends at.within done ask at.spanned) apart count within;
  }

mapped : {A : Type 0} (f : A → State) (end : State) (found : Option A) → option_map f found ≡ Some end
    → (a : A) × (found ≡ Some a) × (end ≡ f a)
mapped f end None is = absurd cc
mapped f end (Some a) is = (a, refl, sym (same_Some (f a) end is))

-- what an allowed step of such a request did
pub record Did (s : State) (ask : Ask) (number : ℕ) (before : Content) (flags : OpenFlags) (answer : Answer)
    (end : State) : Type 0 where
  pub done : Bool
  pub is : judged s.tree ask number flags before answer ≡ Some done
  pub end_is : end ≡ with_file s number (effect done ask flags before)

pub did : {s end : State} {request : Request} {reply : Reply} {number : ℕ} {flags : OpenFlags} {before : Content}
    {ends : ℕ × ℕ} → Good s → IsAsk request.ask → Allowed s request reply end
    → OnFile s request.ask number flags before ends → Did s request.ask number before flags reply.answer end
did {s} {end} {request} {reply} {number} {flags} {before} good fit allowed at =
    let found = mapped (λ done. with_file s number (effect done request.ask flags before)) end
    (judged s.tree request.ask number flags before reply.answer)
    (sym (on-step at reply.answer good fit) ∙ allowed-step s request reply end allowed) in
    record { done = found.0; is = found.1; end_is = found.2 }

does : {s : State} {request : Request} {reply : Reply} {number : ℕ} {flags : OpenFlags} {before : Content}
    {ends : ℕ × ℕ} (done : Bool) → Good s → IsAsk request.ask → reply.id ≡ request.id
    → OnFile s request.ask number flags before ends
    → judged s.tree request.ask number flags before reply.answer ≡ Some done
    → Allowed s request reply (with_file s number (effect done request.ask flags before))
does {s} {request} {reply} {number} {flags} {before} done good fit same at is =
    step-is_allowed s request reply (with_file s number (effect done request.ask flags before)) same
    (on-step at reply.answer good fit
    ∙ ap (option_map (λ done. with_file s number (effect done request.ask flags before))) is)

-- ---- two requests apart

module _ {s mid end : State} {request other : Request} {reply next : Reply} {number : ℕ} {flags other_flags : OpenFlags}
    {before : Content} {ends other_ends : ℕ × ℕ} (stays-good : StaysGood) (good : Good s) (fit : IsAsk request.ask)
    (fit_other : IsAsk other.ask) (at : OnFile s request.ask number flags before ends)
    (other_at : OnFile s other.ask number other_flags before other_ends) (apart : IsApart ends other_ends)
    (first : Allowed s other next mid) (second : Allowed mid request reply end) where
  order : InOrder nat_cmp s.tree.files
  order = good.tree.well_formed.numbered

  one : Did s other.ask number before other_flags next.answer mid
  one = did good fit_other first other_at

  abbrev middle : Content
  middle = effect one.done other.ask other_flags before

  alike : AreAlike ends before middle
  alike = effect-alike other_at ends one.done apart

  good-mid : Good (with_file s number middle)
  good-mid = subst Good one.end_is (stays-good s other next mid good fit_other first)

  at-mid : OnFile (with_file s number middle) request.ask number flags middle ends
  at-mid = on-changed at middle alike.sized

  two : Did (with_file s number middle) request.ask number middle flags reply.answer end
  two = did good-mid fit (subst (λ (m : State). Allowed m request reply end) one.end_is second) at-mid

  early : judged s.tree request.ask number flags before reply.answer ≡ Some two.done
  early = sym (judged-alike s.tree order number flags before middle ends at.within alike reply.answer request.ask at.spanned)
      ∙ two.is

  abbrev changed : Content
  changed = effect two.done request.ask flags before

  first-now : Allowed s request reply (with_file s number changed)
  first-now = does two.done good fit second.same_id at early

  alike-too : AreAlike other_ends before changed
  alike-too = effect-alike at other_ends two.done (turn ends other_ends apart)

  good-between : Good (with_file s number changed)
  good-between = stays-good s request reply (with_file s number changed) good fit first-now

  at-between : OnFile (with_file s number changed) other.ask number other_flags changed other_ends
  at-between = on-changed other_at changed alike-too.sized

  late : judged (with_file s number changed).tree other.ask number other_flags changed next.answer ≡ Some one.done
  late = judged-alike s.tree order number other_flags before changed other_ends other_at.within alike-too next.answer other.ask other_at.spanned
      ∙ one.is

  second-now : Allowed (with_file s number changed) other next
      (with_file (with_file s number changed) number (effect one.done other.ask other_flags changed))
  second-now = does one.done good-between fit_other first.same_id at-between late

  after-both : effect two.done request.ask flags middle
      ≡ with_bytes before
      (over ends.0 (data_of two.done request.ask) (over other_ends.0 (data_of one.done other.ask) before.bytes))
  after-both =
      effect-over (limits s.tree) flags middle ends (subst (λ n. ends.1 ≤ n) (sym alike.sized) at.within) two.done
      request.ask at.spanned
      ∙ ap (λ (c : Content). with_bytes c (over ends.0 (data_of two.done request.ask) c.bytes))
      (effect-over (limits s.tree) other_flags before other_ends other_at.within one.done other.ask other_at.spanned)

  after-both-turned : effect one.done other.ask other_flags changed
      ≡ with_bytes before
      (over other_ends.0 (data_of one.done other.ask) (over ends.0 (data_of two.done request.ask) before.bytes))
  after-both-turned =
      effect-over (limits s.tree) other_flags changed other_ends
      (subst (λ n. other_ends.1 ≤ n) (sym alike-too.sized) other_at.within) one.done other.ask other_at.spanned
      ∙ ap (λ (c : Content). with_bytes c (over other_ends.0 (data_of one.done other.ask) c.bytes))
      (effect-over (limits s.tree) flags before ends at.within two.done request.ask at.spanned)

  one-content : effect two.done request.ask flags middle ≡ effect one.done other.ask other_flags changed
  one-content =
      after-both
      ∙ (ap (with_bytes before)
      (overs-apart ends other_ends (data_of two.done request.ask) (data_of one.done other.ask) before.bytes
      (data-within (limits s.tree) flags before ends at.within two.done request.ask at.spanned)
      (data-within (limits s.tree) other_flags before other_ends other_at.within one.done other.ask other_at.spanned)
      apart)
      ∙ sym after-both-turned)

  end-is : end ≡ with_file (with_file s number changed) number (effect one.done other.ask other_flags changed)
  end-is =
      two.end_is
      ∙ (file-twice s number middle (effect two.done request.ask flags middle) order
      ∙ (ap (with_file s number) one-content
      ∙ sym (file-twice s number changed (effect one.done other.ask other_flags changed) order)))

  pub exchanged-apart : ComesFirst s request other reply next end
  exchanged-apart = record {
    between = with_file s number changed;
    first = first-now;
    second = subst (Allowed (with_file s number changed) other next) (sym end-is) second-now;
  }
