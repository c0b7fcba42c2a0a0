-- Frames in front of bytes, and frames that are written.
use Rattle.std.proofs.Common.{◌≡◌, ◌<◌, ◌≤◌, ◌^◌, ◌≢◌, ◌∷◌, [], ◌++◌, List, ℕ, length, take, drop, ◌∙◌, sym, ap, arith, min}
use Rattle.std.proofs.Common.{append_assoc, append-nil, refl, Option}
use Rattle.std.proofs.lemmas.List.{take-append-drop, length-take-le, take_at, drop_at}
use Rattle.std.proofs.lemmas.Nat.{from_be_bytes-to_be_bytes_4}
use Rattle.std.specs.List.{flat_map, AllByRecursion}
use Rattle.std.specs.Io.KnownBytes.{Appends}
use Rattle.sftp_strings.specs.Strings.{uint32, string}
use Rattle.sftp_streams.proofs.Buffers.{Appends-then}
use Rattle.sftp_frames.specs.Frames.{Frame, frame_limit, frame_text, frames_text}
use Rattle.sftp_frames.specs.Fronts.{BeginsWithFrame}
use Rattle.sftp_frames.specs.Writing.{IsPartOf, AreFramesOf, AppendsStream}

-- ==== A frame in front of bytes.

pub whole : (bytes after rest : List ℕ) (client size : ℕ) → client < 2 ^ 32 → size ≤ frame_limit → size ≤ length rest
    → bytes ≡ uint32 client ++ after → after ≡ uint32 size ++ rest → BeginsWithFrame bytes (client, take size rest)
whole bytes after rest client size number few enough begins follows =
    let part = take size rest in
    let count : length part ≡ size = length-take-le size rest enough in
    record {
      fits = record { client = number; few = rw count few };
      rest = drop size rest;
      bytes_are =
          begins ∙ ap (λ (l : List ℕ). uint32 client ++ l) (follows
          ∙ ap (λ (n : ℕ). uint32 n ++ rest) (sym count)
          ∙ ap (λ (l : List ℕ). uint32 (length part) ++ l) (sym (take-append-drop size rest)));
    }

-- a number, and what follows it
number-apart : (x y : ℕ) (r s : List ℕ) → x < 2 ^ 32 → y < 2 ^ 32 → uint32 x ++ r ≡ uint32 y ++ s → (x ≡ y) × (r ≡ s)
number-apart x y r s x-fits y-fits e = grind (arith, take_at, drop_at, from_be_bytes-to_be_bytes_4)

-- bytes of one length, and what follows them
counted-apart : (t u r s : List ℕ) → length t ≡ length u → t ++ r ≡ u ++ s → t ≡ u
counted-apart t u r s same e =
    sym (take_at t r (length t) refl) ∙ ap (take (length t)) e ∙ take_at u s (length t) (sym same)

pub one : (bytes : List ℕ) (frame other : Frame) → BeginsWithFrame bytes frame → BeginsWithFrame bytes other → frame ≡ other
one bytes frame other f o =
    let client = number-apart frame.0 other.0 (string frame.1 ++ f.rest) (string other.1 ++ o.rest) f.fits.client o.fits.client
    (sym f.bytes_are ∙ o.bytes_are) in
    let size = number-apart (length frame.1) (length other.1) (frame.1 ++ f.rest) (other.1 ++ o.rest)
    (omega (arith, f.fits.few)) (omega (arith, o.fits.few)) client.1 in
    let same : frame.1 ≡ other.1 = counted-apart frame.1 other.1 f.rest o.rest size.0 size.1 in
    ap (λ (n : ℕ). (n, frame.1)) client.0 ∙ ap (λ (l : List ℕ). (other.0, l)) same

-- ==== Frames that are written one after the other.

AllByRecursion-more : {A : Type 0} (P : A → Type 0) (xs : List A) (x : A) → AllByRecursion P xs → P x → AllByRecursion P (xs ++ x ∷ [])
AllByRecursion-more P [] x all is = (is, tt)
AllByRecursion-more P (y ∷ xs) x all is = (all.0, AllByRecursion-more P xs x all.1 is)

flat_map-more : {A B : Type 0} (f : A → List B) (xs : List A) (x : A) → flat_map f (xs ++ x ∷ []) ≡ flat_map f xs ++ f x
flat_map-more f [] x = append-nil (f x)
flat_map-more f (y ∷ xs) x = ap (λ l. f y ++ l) (flat_map-more f xs x) ∙ sym (append_assoc (f y) (flat_map f xs) (f x))

pub AreFramesOf-more : (client : ℕ) (bytes part : List ℕ) (frames : List Frame) → AreFramesOf client bytes frames
    → IsPartOf client (client, part) → AreFramesOf client (bytes ++ part) (frames ++ (client, part) ∷ [])
AreFramesOf-more client bytes part frames are is = record {
  each = AllByRecursion-more (IsPartOf client) frames (client, part) are.each is;
  together = flat_map-more (λ (frame : Frame). frame.1) frames (client, part) ∙ ap (λ (l : List ℕ). l ++ part) are.together;
}

-- of the bytes all but the rest were written, and no call failed
pub record IsWrittenBefore (client : ℕ) (old new : Option (List ℕ)) (failed fails : ℕ) (bytes rest : List ℕ) : Type 0 where
  pub done : List ℕ
  pub parts : bytes ≡ done ++ rest
  pub appended : AppendsStream client done old new
  pub none_failed : fails ≡ failed

-- the next frame of what is left
abbrev pub part_of : List ℕ → List ℕ
part_of rest = take (min (length rest) frame_limit) rest

pub part-fits : (client : ℕ) (rest : List ℕ) → client < 2 ^ 32 → rest ≢ [] → IsPartOf client (client, part_of rest)
part-fits client [] number some = absurd (some refl)
part-fits client (byte ∷ rest) number some =
    let count : length (part_of (byte ∷ rest)) ≡ min (length (byte ∷ rest)) frame_limit =
    length-take-le (min (length (byte ∷ rest)) frame_limit) (byte ∷ rest) (omega arith) in
    record {
      fits = record { client = number; few = omega (arith, count) };
      own = refl;
      some = λ none. omega (arith, count, ap length none);
    }

pub written-next : (client : ℕ) (old mid new : Option (List ℕ)) (failed fails now : ℕ) (bytes rest : List ℕ)
    → IsWrittenBefore client old mid failed fails bytes rest → client < 2 ^ 32 → rest ≢ []
    → Appends mid new (frame_text (client, part_of rest)) → now ≡ fails
    → IsWrittenBefore client old new failed now bytes (drop (min (length rest) frame_limit) rest)
written-next client old mid new failed fails now bytes rest put number some text e =
    let count = min (length rest) frame_limit in
    let part = part_of rest in
    let frames = put.appended.0 in
    let more = frames ++ (client, part) ∷ [] in
    record {
      done = put.done ++ part;
      parts = put.parts ∙ ap (λ (l : List ℕ). put.done ++ l) (sym (take-append-drop count rest))
          ∙ sym (append_assoc put.done part (drop count rest));
      appended = (
        more,
        AreFramesOf-more client put.done part frames put.appended.1 (part-fits client rest number some),
        rw (flat_map-more frame_text frames (client, part))
            (Appends-then old mid new (frames_text frames) (frame_text (client, part)) put.appended.2 text),
      );
      none_failed = e ∙ put.none_failed;
    }
