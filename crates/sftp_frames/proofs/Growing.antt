-- One more frame, and what it changes of each client's stream.
use Rattle.std.proofs.Common.{◌≡◌, ◌==◌, ◌<◌, ◌≤◌, ◌+◌, ◌&&◌, ◌||◌, ℕ, Bool, true, false, List, [], ◌∷◌, ◌++◌, refl, sym}
use Rattle.std.proofs.Common.{ap, ◌∙◌, arith, append-nil, append_assoc, eq-eqb, cond, nat_lt, max}
use Rattle.std.proofs.lemmas.Bool.{eqb-false, le-ltb, ltb-false, ne_eqb}
use Rattle.sftp_frames.specs.Frames.{Frame, has_no_bytes, ends_stream, stream_of, is_ended, begins, IsAway, AreInTime}
use Rattle.sftp_frames.specs.Frames.{next_client}

flipped : (a b : ℕ) → (a == b) ≡ false → (b == a) ≡ false
flipped a b other = ne_eqb b a (λ e. eqb-false a b other (sym e))

-- ==== Whether a stream begins.

pub begins-other : (client : ℕ) (frames : List Frame) (frame : Frame) → (frame.0 == client) ≡ false
    → begins client (frames ++ frame ∷ []) ≡ begins client frames
unfolding begins
begins-other client [] frame other = rw other (by (nat_lt client frame.0))
  where
    by : (lower : Bool) → cond lower false false ≡ false
    by true = refl
    by false = refl
begins-other client (first ∷ frames) frame other = rw (begins-other client frames frame other) refl

pub begins-still : (client : ℕ) (frames : List Frame) (frame : Frame) → begins client frames ≡ true
    → begins client (frames ++ frame ∷ []) ≡ true
unfolding begins
begins-still client [] frame begun = absurd cc
begins-still client (first ∷ frames) frame begun =
    by (first.0 == client) (nat_lt client first.0) (begins client frames) (begins client (frames ++ frame ∷ []))
    (begins-still client frames frame) begun
  where
    by : (same lower before after : Bool) → (before ≡ true → after ≡ true)
        → cond same true (cond lower false before) ≡ true → cond same true (cond lower false after) ≡ true
    by true lower before after so is = refl
    by false true before after so is = is
    by false false before after so is = so is

pub begins-unseen : (client : ℕ) (frames : List Frame) → next_client frames ≤ client → begins client frames ≡ false
unfolding begins next_client
begins-unseen client [] above = refl
begins-unseen client (first ∷ frames) above =
    let all : max (first.0 + 1) (next_client frames) ≤ client = above in
    rw (ne_eqb first.0 client (λ e. omega (arith, all, e)), le-ltb client first.0 (omega (arith, all)))
    (begins-unseen client frames (omega (arith, all)))

pub begins-new : (client : ℕ) (frames : List Frame) (bytes : List ℕ) → next_client frames ≤ client
    → begins client (frames ++ (client, bytes) ∷ []) ≡ true
unfolding begins next_client
begins-new client [] bytes above = rw (eq-eqb client client refl) refl
begins-new client (first ∷ frames) bytes above =
    let all : max (first.0 + 1) (next_client frames) ≤ client = above in
    rw (ne_eqb first.0 client (λ e. omega (arith, all, e)), le-ltb client first.0 (omega (arith, all)))
    (begins-new client frames bytes (omega (arith, all)))

pub begins-late : (client : ℕ) (frames : List Frame) (frame : Frame) → client < next_client frames
    → begins client frames ≡ false → begins client (frames ++ frame ∷ []) ≡ false
unfolding begins next_client
begins-late client [] frame below none = absurd (let no : client < 0 = below in omega (arith, no))
begins-late client (first ∷ frames) frame below none =
    by (first.0 == client) (nat_lt client first.0) refl refl (begins-late client frames frame) none
  where
    all : client < max (first.0 + 1) (next_client frames)
    all = below

    by : (same lower : Bool) → (first.0 == client) ≡ same → nat_lt client first.0 ≡ lower
        → (client < next_client frames → begins client frames ≡ false → begins client (frames ++ frame ∷ []) ≡ false)
        → cond same true (cond lower false (begins client frames)) ≡ false
        → cond same true (cond lower false (begins client (frames ++ frame ∷ []))) ≡ false
    by true lower is_same is_lower later none = absurd cc
    by false true is_same is_lower later none = refl
    by false false is_same is_lower later none =
        let apart : first.0 ≡ client → ⊥ = eqb-false first.0 client is_same in
        let over : first.0 ≤ client = ltb-false client first.0 is_lower in
        later (omega (arith, all, apart, over)) none

-- ==== The bytes of a stream.

pub stream-more : (client : ℕ) (frames : List Frame) (frame : Frame)
    → stream_of client (frames ++ frame ∷ [])
    ≡ stream_of client frames ++ cond (is_ended client frames) [] (cond (frame.0 == client) frame.1 [])
unfolding stream_of is_ended
stream-more client [] frame = by (frame.0 == client) frame.1
  where
    by : (same : Bool) (bytes : List ℕ)
        → cond (same && has_no_bytes bytes) [] (cond same (bytes ++ []) []) ≡ cond same bytes []
    by true [] = refl
    by true (byte ∷ bytes) = append-nil (byte ∷ bytes)
    by false bytes = refl
stream-more client (first ∷ frames) frame =
    by (ends_stream client first) (first.0 == client) (is_ended client frames) (stream_of client frames)
    (stream_of client (frames ++ frame ∷ [])) (cond (frame.0 == client) frame.1 []) (stream-more client frames frame)
  where
    by : (ends same over : Bool) (before after more : List ℕ) → after ≡ before ++ cond over [] more
        → cond ends [] (cond same (first.1 ++ after) after)
        ≡ cond ends [] (cond same (first.1 ++ before) before) ++ cond (cond ends true over) [] more
    by true same over before after more is = refl
    by false true over before after more is =
        ap (λ (l : List ℕ). first.1 ++ l) is ∙ sym (append_assoc first.1 before (cond over [] more))
    by false false over before after more is = is

pub ended-more : (client : ℕ) (frames : List Frame) (frame : Frame)
    → is_ended client (frames ++ frame ∷ []) ≡ (is_ended client frames || ends_stream client frame)
unfolding is_ended
ended-more client [] frame = by (ends_stream client frame)
  where
    by : (ends : Bool) → cond ends true false ≡ ends
    by true = refl
    by false = refl
ended-more client (first ∷ frames) frame =
    by (ends_stream client first) (is_ended client frames) (is_ended client (frames ++ frame ∷ []))
    (ended-more client frames frame)
  where
    by : (ends before after : Bool) → after ≡ (before || ends_stream client frame)
        → cond ends true after ≡ (cond ends true before || ends_stream client frame)
    by true before after is = refl
    by false before after is = is

-- ==== Frames in time.

away-more : (client : ℕ) (frames : List Frame) (frame : Frame) → IsAway client frames → (frame.0 == client) ≡ false
    → IsAway client (frames ++ frame ∷ [])
unfolding IsAway
away-more client [] frame away other = (other, tt)
away-more client (first ∷ frames) frame away other = (away.0, away-more client frames frame away.1 other)

pub in-time-more : (frames : List Frame) (frame : Frame) → AreInTime frames → is_ended frame.0 frames ≡ false
    → AreInTime (frames ++ frame ∷ [])
unfolding AreInTime IsAway is_ended
in-time-more [] frame in_time open_still = (λ none. tt, tt)
in-time-more (first ∷ frames) frame in_time open_still = (
  λ none. away-more first.0 frames frame (in_time.0 none) (flipped first.0 frame.0 (other (first.0 == frame.0) (has_no_bytes first.1) open_still none)),
  in-time-more frames frame in_time.1 (later (ends_stream frame.0 first) open_still),
)
  where
    later : (ends : Bool) → cond ends true (is_ended frame.0 frames) ≡ false → is_ended frame.0 frames ≡ false
    later true is = absurd cc
    later false is = is

    other : (same empty : Bool) → cond (same && empty) true (is_ended frame.0 frames) ≡ false → empty ≡ true → same ≡ false
    other true true is none = absurd cc
    other true false is none = absurd cc
    other false empty is none = refl
