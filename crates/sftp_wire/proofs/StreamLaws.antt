-- A stream of packets that arrives in pieces: what each call takes and returns.
use Rattle.std.proofs.Common.{◌≡◌, ℕ, ◌+◌, ◌<◌, ◌≤◌, ◌⊎◌, inl, inr, Bool, true, false, cond, eqb, ltb, List, ◌++◌}
use Rattle.std.proofs.Common.{length, take, drop, Option, Some, None, Result, Ok, Err, refl, sym, ap, subst, ◌∙◌}
use Rattle.std.proofs.Common.{append_assoc, arith, ◌-◌, [], ◌∷◌, append-nil}
use Rattle.std.specs.Prelude.{◌||◌, IfOk, IfSome, min, if◌then◌else◌, is_some}
use Rattle.std.specs.Int.{w32, from_be_bytes}
use Rattle.std.proofs.lemmas.Bool.{or_parts, ltb-true, ltb-false, le-ltb, ne_eqb}
use Rattle.std.proofs.lemmas.List.{take_at, drop_at, take-append-drop, length-append, length-take, length-drop}
use Rattle.std.proofs.lemmas.List.{drop-drop, append_cancel_left}
use Rattle.sftp_packets.specs.declared.errors.Fault.{Fault}
use Rattle.sftp_packets.specs.declared.errors.Fault.TheVariants.{Length, WrongType}
use Rattle.sftp_packets.specs.declared.errors.WireError.{WireError}
use Rattle.sftp_packets.specs.declared.errors.WireError.TheVariants as wires
use Rattle.sftp_packets.specs.declared.packets.Packet.{Packet}
use Rattle.sftp_packets.specs.declared.packets.Side.{Side}
use Rattle.sftp_packets.specs.declared.packets.Side.TheVariants.{Client, Server}
use Rattle.sftp_packets.specs.Spelling.{uint32, packet_limit, AreBytes}
use Rattle.sftp_packets.specs.Packets.{contents, spelling, side_of, HasSpelling, packet_of}
use Rattle.sftp_packets.specs.Reading.{◌>>=◌}
use Rattle.sftp_wire.specs.Fronts.{IsReading, StandsInFront, front_of}
use Rattle.sftp_strings.proofs.Bytes.{IsBytes, IsBytes-take, IsBytes-drop, wide32, IsBytes-append}
use Rattle.sftp_strings.proofs.Bytes.{IsBytes-from_all}
use Rattle.sftp_packets.proofs.Readers.{bind_ok, guard_ok, ok_is}
use Rattle.sftp_packets.proofs.PacketLaws.{contents-parts}
use Rattle.sftp_packets.proofs.PacketLaws.{packet_of_takes, packet_of_again, server_packets_refused}
use Rattle.std.proofs.Math.Nat.{zero-min}
use Rattle.sftp_packets.specs.declared.errors.WireError.TheVariants.{Unreadable, NoMemory}
use Rattle.sftp_wire.specs.Fronts.{Frames, Step, Push, Next, IsStep, AreSteps, no_frames, room_of, front_unless}
use Rattle.sftp_wire.specs.Fronts.{told_of, outcome_of, push_of, bytes_in, bytes_out, all_in, all_out, whole_of}

-- ==== The packet in front of the bytes of a stream: what is found is spelled there, what is spelled there is found,
-- and so no packet's spelling begins another's.

-- a test that returns `None` where it holds, and did not hold
guard_none : {A : Type 0} (test : Bool) (read : Result (Option A) Fault) (x : A) → cond test (Ok None) read ≡ Ok (Some x) → (test ≡ false) × (read ≡ Ok (Some x))
guard_none true read x e = absurd cc
guard_none false read x e = (refl, e)

some_is : {A : Type 0} (x y : A) → Some x ≡ Some y → x ≡ y
some_is x y e = cc

pub length-spelling : (packet : Packet) → length (spelling packet) ≡ length (contents packet) + 4
unfolding spelling
length-spelling packet = omega (arith, length-append (uint32 (length (contents packet))) (contents packet))

-- a length field, and then that many bytes that spell a packet's contents, are that packet's spelling
stands : (side : Side) (bytes : List ℕ) (packet : Packet) (size : ℕ) → IsBytes bytes → size ≡ from_be_bytes w32 (take 4 bytes) → size + 4 ≤ packet_limit → size + 4 ≤ length bytes
    → packet_of side (take size (drop 4 bytes)) ≡ Ok packet → StandsInFront side bytes packet (size + 4)
unfolding spelling
stands side bytes packet size is_bytes is within there e =
    let body = take size (drop 4 bytes) in
    let t = packet_of_takes side body packet (IsBytes-take size (drop 4 bytes) (IsBytes-drop 4 bytes is_bytes)) e in
    let body_length : length body ≡ size = omega (arith, length-take size (drop 4 bytes), length-drop 4 bytes) in
    let contents_length : length (contents packet) ≡ size = ap length (sym t.0) ∙ body_length in
    let number : uint32 size ≡ take 4 bytes = ap uint32 is ∙ wide32.back (take 4 bytes) (omega (arith, length-take 4 bytes)) (IsBytes-take 4 bytes is_bytes) in
    let whole : spelling packet ≡ take 4 bytes ++ body = ap (λ (n : ℕ). uint32 n ++ contents packet) contents_length ∙ ap (λ (x : List ℕ). x ++ contents packet) number ∙ ap (λ (x : List ℕ). take 4 bytes ++ x) (sym t.0) in
    let rest : drop (size + 4) bytes ≡ drop size (drop 4 bytes) = let order : size + 4 ≡ 4 + size = omega arith in ap (λ (n : ℕ). drop n bytes) order ∙ sym (drop-drop size 4 bytes) in
    let parts : (take 4 bytes ++ body) ++ drop size (drop 4 bytes) ≡ bytes =
    append_assoc (take 4 bytes) body (drop size (drop 4 bytes)) ∙ ap (λ (x : List ℕ). take 4 bytes ++ x) (take-append-drop size (drop 4 bytes)) ∙ take-append-drop 4 bytes in
    let total : length (spelling packet) ≡ size + 4 = length-spelling packet ∙ ap (λ (n : ℕ). n + 4) contents_length in
    record {
      has_spelling = record { fields = t.1.fields; whole = omega (arith, total); handle = t.1.handle; canonical = t.1.canonical };
      is_sent = t.1.is_sent;
      is_whole = sym total;
      is_spelled = sym parts ∙ ap (λ (x : List ℕ). x ++ drop size (drop 4 bytes)) (sym whole) ∙ ap (λ (x : List ℕ). spelling packet ++ x) (sym rest);
    }

-- what is found in front is spelled there
pub front_takes : (side : Side) (bytes : List ℕ) (x : Packet × ℕ) → IsBytes bytes → front_of side bytes ≡ Ok (Some x) → StandsInFront side bytes x.0 x.1
unfolding front_of
front_takes side bytes x is_bytes e =
    let size = from_be_bytes w32 (take 4 bytes) in
    let a = guard_none (ltb (length bytes) 4) _ x e in
    let b = guard_ok (eqb size 0 || ltb packet_limit (size + 4)) Length _ (Some x) a.1 in
    let c = guard_none (ltb (length bytes) (size + 4)) _ x b.1 in
    let p = bind_ok (packet_of side (take size (drop 4 bytes))) (λ packet. Ok (Some (packet, size + 4))) (Some x) c.1 in
    let within : size + 4 ≤ packet_limit = ltb-false _ _ (or_parts _ _ b.0).1 in
    let there : size + 4 ≤ length bytes = ltb-false _ _ c.0 in
    subst (λ (y : Packet × ℕ). StandsInFront side bytes y.0 y.1) (some_is (p.0, size + 4) x (ok_is _ _ p.2)) (stands side bytes p.0 size is_bytes refl within there p.1)

-- facts of bytes that begin with a packet's spelling
pub record BeginsWith (packet : Packet) (bytes : List ℕ) : Type 0 where
  pub has_length : ltb (length bytes) 4 ≡ false
  pub size : from_be_bytes w32 (take 4 bytes) ≡ length (contents packet)
  pub not_zero : eqb (length (contents packet)) 0 ≡ false
  pub within : ltb packet_limit (length (contents packet) + 4) ≡ false
  pub is_whole : ltb (length bytes) (length (contents packet) + 4) ≡ false
  pub body : take (length (contents packet)) (drop 4 bytes) ≡ contents packet
  pub whole : take (length (contents packet) + 4) bytes ≡ spelling packet

pub begins_with : (packet : Packet) (rest : List ℕ) → HasSpelling packet → BeginsWith packet (spelling packet ++ rest)
unfolding spelling
begins_with packet rest has =
    let text = contents packet in
    let n = length text in
    let bytes = spelling packet ++ rest in
    let total : length (spelling packet) ≡ n + 4 = length-spelling packet in
    let regrouped : bytes ≡ uint32 n ++ (text ++ rest) = append_assoc (uint32 n) text rest in
    let number : from_be_bytes w32 (take 4 bytes) ≡ from_be_bytes w32 (uint32 n) = ap (λ (x : List ℕ). from_be_bytes w32 (take 4 x)) regrouped ∙ ap (from_be_bytes w32) (take_at (uint32 n) (text ++ rest) 4 refl) in
    let after : drop 4 bytes ≡ text ++ rest = ap (drop 4) regrouped ∙ drop_at (uint32 n) (text ++ rest) 4 refl in
    let long : n + 4 ≤ length bytes = omega (arith, length-append (spelling packet) rest, total) in
    let some : 0 < n = omega (arith, ap length (contents-parts packet)) in
    record {
      has_length = le-ltb _ _ (omega (arith, long));
      size = number ∙ wide32.again n (omega (arith, has.whole, total));
      not_zero = ne_eqb n 0 (omega (arith, some));
      within = le-ltb _ _ (omega (arith, has.whole, total));
      is_whole = le-ltb _ _ long;
      body = ap (take n) after ∙ take_at text rest n refl;
      whole = ap (λ (k : ℕ). take k bytes) (sym total) ∙ take_at (spelling packet) rest (length (spelling packet)) refl;
    }

-- a spelling in front is read as the contents after its length are
front_of-spelling : (side : Side) (packet : Packet) (rest : List ℕ) → HasSpelling packet
    → front_of side (spelling packet ++ rest) ≡ (packet_of side (contents packet) >>= λ p. Ok (Some (p, length (spelling packet))))
unfolding front_of
front_of-spelling side packet rest has =
    let b = begins_with packet rest has in
    rw (b.has_length, b.size, b.not_zero, b.within, b.is_whole, b.body, length-spelling packet) refl

-- what is spelled in front is found
pub front_again : (packet : Packet) (rest : List ℕ) → HasSpelling packet → front_of (side_of packet) (spelling packet ++ rest) ≡ Ok (Some (packet, length (spelling packet)))
front_again packet rest has = front_of-spelling (side_of packet) packet rest has ∙ rw (packet_of_again packet has) refl

-- ---- no packet's spelling begins another's

-- of packets of one side
pub spellings-apart : (p q : Packet) (x y : List ℕ) → HasSpelling p → HasSpelling q → side_of p ≡ side_of q → spelling p ++ x ≡ spelling q ++ y → (p ≡ q) × (x ≡ y)
spellings-apart p q x y has_p has_q side same =
    let first : front_of (side_of p) (spelling p ++ x) ≡ Ok (Some (p, length (spelling p))) = front_again p x has_p in
    let second : front_of (side_of q) (spelling q ++ y) ≡ Ok (Some (q, length (spelling q))) = front_again q y has_q in
    let moved : front_of (side_of p) (spelling p ++ x) ≡ front_of (side_of q) (spelling q ++ y) = ap (front_of (side_of p)) same ∙ ap (λ (s : Side). front_of s (spelling q ++ y)) side in
    let found : (p, length (spelling p)) ≡ (q, length (spelling q)) = some_is _ _ (ok_is _ _ (sym first ∙ moved ∙ second)) in
    let is : p ≡ q = ap (λ (z : Packet × ℕ). z.0) found in
    (is, append_cancel_left (spelling q) x y (ap (λ (z : Packet). spelling z ++ x) (sym is) ∙ same))

abbrev front_found : Packet × ℕ → Result (Option (Packet × ℕ)) Fault
front_found x = Ok (Some x)

clash : (x : Packet × ℕ) → front_found x ≡ Err WrongType → ⊥
clash x e = cc

-- no stream begins with both a client's spelling and a server's
sides-apart : (p q : Packet) (x y : List ℕ) → HasSpelling p → HasSpelling q → side_of p ≡ Client → side_of q ≡ Server → spelling p ++ x ≡ spelling q ++ y → ⊥
sides-apart p q x y has_p has_q client server same =
    let first : front_of Client (spelling p ++ x) ≡ Ok (Some (p, length (spelling p))) = ap (λ (s : Side). front_of s (spelling p ++ x)) (sym client) ∙ front_again p x has_p in
    let second : front_of Client (spelling q ++ y) ≡ Err WrongType = front_of-spelling Client q y has_q ∙ rw (server_packets_refused q server) refl in
    absurd (clash (p, length (spelling p)) (sym first ∙ ap (front_of Client) same ∙ second))

same_side : (p q : Packet) (x y : List ℕ) (s t : Side) → HasSpelling p → HasSpelling q → side_of p ≡ s → side_of q ≡ t → spelling p ++ x ≡ spelling q ++ y → side_of p ≡ side_of q
same_side p q x y Client Client has_p has_q is_p is_q same = is_p ∙ sym is_q
same_side p q x y Client Server has_p has_q is_p is_q same = absurd (sides-apart p q x y has_p has_q is_p is_q same)
same_side p q x y Server Client has_p has_q is_p is_q same = absurd (sides-apart q p y x has_q has_p is_q is_p (sym same))
same_side p q x y Server Server has_p has_q is_p is_q same = is_p ∙ sym is_q

-- of packets of either side
pub all-spellings-apart : (p q : Packet) (x y : List ℕ) → HasSpelling p → HasSpelling q → spelling p ++ x ≡ spelling q ++ y → (p ≡ q) × (x ≡ y)
all-spellings-apart p q x y has_p has_q same =
    spellings-apart p q x y has_p has_q (same_side p q x y (side_of p) (side_of q) has_p has_q refl refl same) same

-- ---- where no packet is found there is room for more bytes

none_by : (no_length out_of_range not_whole : Bool) (fault : Fault) (read : Result Packet Fault) (n : ℕ)
    → cond {A = Result (Option (Packet × ℕ)) Fault} no_length (Ok None) (cond out_of_range (Err fault) (cond not_whole (Ok None) (read >>= λ p. Ok (Some (p, n))))) ≡ Ok None → (no_length ≡ true) ⊎ ((out_of_range ≡ false) × (not_whole ≡ true))
none_by true out_of_range not_whole fault read n e = inl refl
none_by false true not_whole fault read n e = absurd cc
none_by false false true fault read n e = inr (refl, refl)
none_by false false false fault (Ok packet) n e = absurd cc
none_by false false false fault (Err other) n e = absurd cc

pub none-leaves_room : (side : Side) (bytes : List ℕ) → front_of side bytes ≡ Ok None → length bytes < packet_limit
unfolding front_of
none-leaves_room side bytes e =
    let size = from_be_bytes w32 (take 4 bytes) in
    let by = none_by (ltb (length bytes) 4) (eqb size 0 || ltb packet_limit (size + 4)) (ltb (length bytes) (size + 4)) Length (packet_of side (take size (drop 4 bytes))) (size + 4) e in
    elim by [
      | inl short ↦ omega (arith, ltb-true (length bytes) 4 short)
      | inr part ↦ omega (arith, ltb-false packet_limit (size + 4) (or_parts _ _ part.0).1, ltb-true (length bytes) (size + 4) part.1)
    ]

-- what `front` returns is spelled in front
pub is_found : (side : Side) (bytes : List ℕ) (r : Result (Option (Packet × ℕ)) WireError) → IsBytes bytes → IsReading r (front_of side bytes) → IfOk r (λ front. IfSome front (λ f. StandsInFront side bytes f.0 f.1))
is_found side bytes (Ok (Some f)) is_bytes given = front_takes side bytes f is_bytes given
is_found side bytes (Ok None) is_bytes given = tt
is_found side bytes (Err error) is_bytes given = tt

given_or_no_memory : (r : Result (Option (Packet × ℕ)) WireError) (f : Option (Packet × ℕ)) → IsReading r (Ok f) → (r ≡ Ok f) ⊎ (r ≡ Err wires.NoMemory)
given_or_no_memory (Ok g) f given = inl (ap (λ (h : Option (Packet × ℕ)). Ok h) (sym (ok_is f g given)))
given_or_no_memory (Err wires.TooLong) f given = absurd given
given_or_no_memory (Err wires.NotCanonical) f given = absurd given
given_or_no_memory (Err wires.NoMemory) f given = inr refl
given_or_no_memory (Err (wires.Unreadable fault place)) f given = absurd (let e = given.0 in cc)

-- what `front` returns where a packet is spelled in front
pub is_only : (side : Side) (bytes : List ℕ) (r : Result (Option (Packet × ℕ)) WireError) → IsReading r (front_of side bytes) → (packet : Packet) (rest : List ℕ) → HasSpelling packet → side_of packet ≡ side
    → bytes ≡ spelling packet ++ rest → (r ≡ Ok (Some (packet, length (spelling packet)))) ⊎ (r ≡ Err wires.NoMemory)
is_only side bytes r given packet rest has sent spelled =
    let read : front_of side bytes ≡ Ok (Some (packet, length (spelling packet))) = ap (front_of side) spelled ∙ ap (λ (s : Side). front_of s (spelling packet ++ rest)) (sym sent) ∙ front_again packet rest has in
    given_or_no_memory r (Some (packet, length (spelling packet))) (subst (λ (f : Result (Option (Packet × ℕ)) Fault). IsReading r f) read given)

-- the law of `src/laws.rt`
pub ruleset front_laws = (all-spellings-apart)

-- ---- what a call keeps

-- the bytes out and those held then are those held before and the bytes in, and all are bytes
record Keeps (s : Frames) (step : Step) (t : Frames) : Type 0 where
  pub are_bytes : IsBytes t.held
  pub parts : bytes_out step ++ t.held ≡ s.held ++ bytes_in step

-- a packet is returned only where it is in front
unless_some : (fault : Option Fault) (front : Result (Option (Packet × ℕ)) Fault) (x : Packet × ℕ) → front_unless fault front ≡ Ok (Some x) → front ≡ Ok (Some x)
unless_some None front x e = e
unless_some (Some fault) front x e = absurd cc

-- no bytes go in or out
still : (s : Frames) (side : Side) (given : Result (Option Packet) WireError) (t : Frames) → IsBytes s.held → bytes_out (Next side given) ≡ [] → t.held ≡ s.held → Keeps s (Next side given) t
still s side given t fits nothing same = record {
  are_bytes = subst IsBytes (sym same) fits;
  parts = ap (λ (x : List ℕ). x ++ t.held) nothing ∙ same ∙ sym (append-nil s.held);
}

push_keeps : (s : Frames) (bytes : List ℕ) (taken : ℕ) (t : Frames) → IsBytes s.held → AreBytes bytes → (taken, t) ≡ push_of s bytes → Keeps s (Push bytes taken) t
push_keeps s bytes taken t fits more e =
    let count : taken ≡ (push_of s bytes).0 = ap (λ (p : ℕ × Frames). p.0) e in
    let held : t.held ≡ s.held ++ take (push_of s bytes).0 bytes = ap (λ (p : ℕ × Frames). p.1.held) e in
    let same : t.held ≡ s.held ++ take taken bytes = held ∙ ap (λ (n : ℕ). s.held ++ take n bytes) (sym count) in
    record {
      are_bytes = subst IsBytes (sym same) (IsBytes-append s.held (take taken bytes) fits (IsBytes-take taken bytes (IsBytes-from_all bytes more)));
      parts = same;
    }

told_keeps : (s : Frames) (side : Side) (told : Result (Option (Packet × ℕ)) Fault) (given : Result (Option Packet) WireError) (t : Frames) → IsBytes s.held → told_of side s ≡ told → (given, t) ≡ outcome_of s told → Keeps s (Next side given) t
told_keeps s side (Ok None) given t fits is e =
    still s side given t fits (ap (λ (p : Result (Option Packet) WireError × Frames). bytes_out (Next side p.0)) e) (ap (λ (p : Result (Option Packet) WireError × Frames). p.1.held) e)
told_keeps s side (Err fault) given t fits is e =
    still s side given t fits (ap (λ (p : Result (Option Packet) WireError × Frames). bytes_out (Next side p.0)) e) (ap (λ (p : Result (Option Packet) WireError × Frames). p.1.held) e)
told_keeps s side (Ok (Some front)) given t fits is e =
    let stands = front_takes side s.held front fits (unless_some s.fault (front_of side s.held) front is) in
    let out : bytes_out (Next side given) ≡ spelling front.0 = ap (λ (p : Result (Option Packet) WireError × Frames). bytes_out (Next side p.0)) e in
    let held : t.held ≡ drop front.1 s.held = ap (λ (p : Result (Option Packet) WireError × Frames). p.1.held) e in
    record {
      are_bytes = subst IsBytes (sym held) (IsBytes-drop front.1 s.held fits);
      parts = ap (λ (x : List ℕ). x ++ t.held) out ∙ ap (λ (x : List ℕ). spelling front.0 ++ x) held ∙ sym stands.is_spelled ∙ sym (append-nil s.held);
    }

step_keeps : (s : Frames) (step : Step) (t : Frames) → IsBytes s.held → IsStep s step t → Keeps s step t
step_keeps s (Push bytes taken) t fits leads = push_keeps s bytes taken t fits leads.0 leads.1
step_keeps s (Next side given) t fits (inl e) = told_keeps s side (told_of side s) given t fits refl e
step_keeps s (Next side given) t fits (inr refused) =
    still s side given t fits (ap (λ (g : Result (Option Packet) WireError). bytes_out (Next side g)) refused.no_memory) (ap (λ (u : Frames). u.held) refused.unchanged)

-- ---- the law of streams

steps_keep : (s : Frames) (steps : List (Step × Frames)) (t : Frames) → IsBytes s.held → AreSteps s steps t → all_out steps ++ t.held ≡ s.held ++ all_in steps
steps_keep s [] t fits same = ap (λ (u : Frames). u.held) (sym same) ∙ sym (append-nil s.held)
steps_keep s (step ∷ steps) t fits leads =
    let first = step_keeps s step.0 step.1 fits leads.0 in
    let others : all_out steps ++ t.held ≡ step.1.held ++ all_in steps = steps_keep step.1 steps t first.are_bytes leads.1 in
    append_assoc (bytes_out step.0) (all_out steps) t.held ∙ ap (λ (x : List ℕ). bytes_out step.0 ++ x) others
    ∙ sym (append_assoc (bytes_out step.0) step.1.held (all_in steps)) ∙ ap (λ (x : List ℕ). x ++ all_in steps) first.parts
    ∙ append_assoc s.held (bytes_in step.0) (all_in steps)

pub stream_is_kept : (steps : List (Step × Frames)) (t : Frames) → AreSteps no_frames steps t → all_out steps ++ t.held ≡ all_in steps
stream_is_kept steps t leads = steps_keep no_frames steps t (λ i. omega arith) leads

-- ---- what `next` returns

none_told : (s : Frames) (told : Result (Option (Packet × ℕ)) Fault) (t : Frames) → (Ok None, t) ≡ outcome_of s told → told ≡ Ok None
none_told s (Ok None) t e = refl
none_told s (Ok (Some front)) t e = absurd (let given = ap (λ (p : Result (Option Packet) WireError × Frames). p.0) e in cc)
none_told s (Err fault) t e = absurd (let given = ap (λ (p : Result (Option Packet) WireError × Frames). p.0) e in cc)

-- it returns `None` only where there is neither a packet nor a fault
pub nothing_is_told : (side : Side) (s t : Frames) → IsStep s (Next side (Ok None)) t → told_of side s ≡ Ok None
nothing_is_told side s t (inl e) = none_told s (told_of side s) t e
nothing_is_told side s t (inr refused) = absurd (let e = refused.no_memory in cc)

-- there it returns `None`, or memory runs out
pub nothing_is_given : (side : Side) (s t : Frames) (given : Result (Option Packet) WireError) → IsStep s (Next side given) t → told_of side s ≡ Ok None → (given ≡ Ok None) ⊎ (given ≡ Err NoMemory)
nothing_is_given side s t given (inl e) none = inl (ap (λ (p : Result (Option Packet) WireError × Frames). p.0) e ∙ ap (λ (r : Result (Option (Packet × ℕ)) Fault). (outcome_of s r).0) none)
nothing_is_given side s t given (inr refused) none = inr refused.no_memory

-- a fault is returned again, and nothing changes
pub fault_stands : (side : Side) (s t : Frames) (fault : Fault) (given : Result (Option Packet) WireError) → s.fault ≡ Some fault → IsStep s (Next side given) t → (given ≡ Err (Unreadable fault s.place)) × (t ≡ s)
fault_stands side s t fault given told (inl e) =
    let same : (given, t) ≡ outcome_of s (Err fault) = e ∙ ap (λ (f : Option Fault). outcome_of s (front_unless f (front_of side s.held))) told in
    let after : t ≡ record { held = s.held; place = s.place; fault = Some fault } = ap (λ (p : Result (Option Packet) WireError × Frames). p.1) same in
    (ap (λ (p : Result (Option Packet) WireError × Frames). p.0) same, after ∙ ap (λ (f : Option Fault). record { held = s.held; place = s.place; fault = f }) (sym told))
fault_stands side s t fault given told (inr refused) = absurd (let none = refused.no_fault in cc)

-- after a fault `push` takes nothing
pub fault_takes_none : (s t : Frames) (fault : Fault) (bytes : List ℕ) (taken : ℕ) → s.fault ≡ Some fault → IsStep s (Push bytes taken) t → (taken ≡ 0) × (t ≡ s)
fault_takes_none s t fault bytes taken told leads =
    let room : room_of s ≡ 0 = ap (λ (f : Option Fault). if is_some f then 0 else packet_limit - length s.held) told in
    let none : min (room_of s) (length bytes) ≡ 0 = ap (λ (n : ℕ). min n (length bytes)) room ∙ zero-min (length bytes) in
    let held : s.held ++ take (min (room_of s) (length bytes)) bytes ≡ s.held = ap (λ (n : ℕ). s.held ++ take n bytes) none ∙ append-nil s.held in
    (ap (λ (p : ℕ × Frames). p.0) leads.1 ∙ none, ap (λ (p : ℕ × Frames). p.1) leads.1 ∙ ap (λ (x : List ℕ). record { held = x; place = s.place; fault = s.fault }) held)

-- ---- the bytes of the packet in front

-- `lent` returns the spelling in front
pub spelled_is_lent : (packet : Packet) (rest : List ℕ) → HasSpelling packet → whole_of (spelling packet ++ rest) ≡ Some (spelling packet)
unfolding whole_of
spelled_is_lent packet rest has =
    let b = begins_with packet rest has in
    rw (b.has_length, b.size, b.not_zero, b.within, b.is_whole, b.whole) refl

-- where no packet is found there is room
pub room-left : (side : Side) (s : Frames) → s.fault ≡ None → front_of side s.held ≡ Ok None → 0 < room_of s
room-left side s no_fault e =
    let room : room_of s ≡ packet_limit - length s.held = ap (λ (f : Option Fault). if is_some f then 0 else packet_limit - length s.held) no_fault in
    omega (arith, room, none-leaves_room side s.held e)

-- the law of streams
pub ruleset buffer_laws = (stream_is_kept, nothing_is_told, nothing_is_given, fault_stands, fault_takes_none, spelled_is_lent)
