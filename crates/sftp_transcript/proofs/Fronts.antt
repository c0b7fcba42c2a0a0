-- What is in front of the bytes held is in front of all bytes ahead: a fault stays, and so does a record of another kind.
use Rattle.sftp_transcript.proofs.Imports.{◌≡◌, ℕ, List, ◌∷◌, ◌+◌, ◌^◌, ◌<◌, ◌≤◌, ◌⊎◌, inl, inr, Bool, true, false}
use Rattle.sftp_transcript.proofs.Imports.{cond, eqb, ltb, ◌++◌, length, take, drop, Option, Some, None, Result, Ok}
use Rattle.sftp_transcript.proofs.Imports.{Err, refl, sym, ap, ◌∙◌, arith, w32, from_be_bytes, or_parts, ltb-true}
use Rattle.sftp_transcript.proofs.Imports.{ltb-false, le-ltb, take_at, take-append-le, drop-append-le, length-append}
use Rattle.sftp_transcript.proofs.Imports.{length-drop, Fault, Packet, Side, wide32, CutsPacket, ◌||◌, front_of, ◌-◌}
use Rattle.sftp_transcript.proofs.Imports.{append_assoc, take-append-drop, drop_at, Keeps, prepend_known, Ahead}
use Rattle.sftp_transcript.proofs.Imports.{Stage, ahead_without, Begins, HasAhead, Took, BeginsNext, MayCome}
use Rattle.sftp_transcript.proofs.Imports.{record_text, rank, ◌≢◌, [], subst, append-nil, IsAtEnd, TranscriptError}
use Rattle.sftp_transcript.proofs.Imports.{Magic, Wire, Truncated, NoMemory, HoldsOpening, CutsAtEnd, FaultAhead}
use Rattle.sftp_transcript.proofs.Imports.{side_of_direction, IsExcuse, transcript_opening, Io, IsInit, IsVersion}
use Rattle.sftp_packets.specs.declared.errors.Fault.TheVariants.{Length}
use Rattle.sftp_packets.specs.Spelling.{uint32, packet_limit}
use Rattle.sftp_packets.specs.Reading.{◌>>=◌}
use Rattle.sftp_packets.specs.Packets.{packet_of}
use Rattle.sftp_transcript.specs.Packets.{IsAfterOpening}
use Rattle.sftp_transcript.specs.declared.stage.Stage.TheVariants as stages
use Rattle.sftp_streams.proofs.Buffers.{front_taken, front_held}
use Rattle.sftp_streams.proofs.Buffers.{ahead_parts}
use Rattle.sftp_transcript.specs.Transcript.{PacketFault, DirectedFault, RecordFault, BeginsOther, KindFault}
use Rattle.sftp_transcript.specs.Transcript.{IsEventPacket, EventFault, FaultIn, NamesRecord, number_in_hand}
use Rattle.sftp_transcript.specs.declared.errors.TranscriptError.TheVariants.{Direction, Start}

-- ==== Bytes after a first one.

pub same_cons : (a b : ℕ) (x y : List ℕ) → a ∷ x ≡ b ∷ y → (a ≡ b) × (x ≡ y)
same_cons a b x y e = (cc, cc)

-- ---- a fault in front stays, whatever follows

abbrev Front : Type 0
Front = Result (Option (Packet × ℕ)) Fault

-- the tests of `front_of` in their order
abbrev tested : Bool → Bool → Bool → Front → Front
tested short out part read = cond short (Ok None) (cond out (Err Length) (cond part (Ok None) read))

abbrev read_body : Side → ℕ → List ℕ → Front
read_body side size body = packet_of side body >>= λ packet. Ok (Some (packet, size + 4))

-- the front of bytes of that length, with that number in front and that body after it
abbrev sized : Side → ℕ → ℕ → List ℕ → Front
sized side size len body =
    tested (ltb len 4) (eqb size 0 || ltb packet_limit (size + 4)) (ltb len (size + 4)) (read_body side size body)

front_is : (side : Side) (bytes : List ℕ) → front_of side bytes
    ≡ sized side (from_be_bytes w32 (take 4 bytes)) (length bytes) (take (from_be_bytes w32 (take 4 bytes)) (drop 4 bytes))
unfolding front_of
front_is side bytes = refl

fault_parts : (short out part : Bool) (read : Front) (fault : Fault) → tested short out part read ≡ Err fault
    → (short ≡ false) × ((out ≡ true) ⊎ ((out ≡ false) × (part ≡ false)))
fault_parts true out part read fault e = absurd cc
fault_parts false true part read fault e = (refl, inl refl)
fault_parts false false true read fault e = absurd cc
fault_parts false false false read fault e = (refl, inr (refl, refl))

out_first : (short out part part_of_more : Bool) (read read_of_more : Front) → short ≡ false → out ≡ true
    → tested short out part_of_more read_of_more ≡ tested short out part read
out_first false true part part_of_more read read_of_more p q = refl
out_first false false part part_of_more read read_of_more p q = absurd cc
out_first true out part part_of_more read read_of_more p q = absurd cc

pub fault_stays : (side : Side) (bytes more : List ℕ) (fault : Fault) → front_of side bytes ≡ Err fault → front_of side (bytes ++ more) ≡ Err fault
fault_stays side bytes more fault e =
    let all = bytes ++ more in
    let size = from_be_bytes w32 (take 4 bytes) in
    let at : sized side size (length bytes) (take size (drop 4 bytes)) ≡ Err fault = sym (front_is side bytes) ∙ e in
    let p = fault_parts (ltb (length bytes) 4) (eqb size 0 || ltb packet_limit (size + 4)) (ltb (length bytes) (size + 4)) (read_body side size (take size (drop 4 bytes))) fault at in
    let long : 4 ≤ length bytes = ltb-false _ _ p.0 in
    let longer : length bytes ≤ length all = omega (arith, length-append bytes more) in
    let number : take 4 all ≡ take 4 bytes = take-append-le 4 bytes more long in
    let moved : front_of side all ≡ sized side size (length all) (take size (drop 4 all)) =
    front_is side all ∙ ap (λ (l : List ℕ). sized side (from_be_bytes w32 l) (length all) (take (from_be_bytes w32 l) (drop 4 all))) number in
    let whole : ltb (length all) 4 ≡ ltb (length bytes) 4 = le-ltb _ _ (omega (arith, long, longer)) ∙ sym p.0 in
    let same : sized side size (length all) (take size (drop 4 all)) ≡ sized side size (length bytes) (take size (drop 4 bytes)) =
    elim p.1 [
      | inl out ↦ rw whole (out_first (ltb (length bytes) 4) (eqb size 0 || ltb packet_limit (size + 4)) (ltb (length bytes) (size + 4)) (ltb (length all) (size + 4)) (read_body side size (take size (drop 4 bytes))) (read_body side size (take size (drop 4 all))) p.0 out)
      | inr within ↦
          let there : size + 4 ≤ length bytes = ltb-false _ _ within.1 in
          let kept : ltb (length all) (size + 4) ≡ ltb (length bytes) (size + 4) = le-ltb _ _ (omega (arith, there, longer)) ∙ sym within.1 in
          let body : take size (drop 4 all) ≡ take size (drop 4 bytes) =
          ap (take size) (drop-append-le 4 bytes more long) ∙ take-append-le size (drop 4 bytes) more (omega (arith, there, length-drop 4 bytes)) in
          rw (whole, kept, body) refl
    ] in
    moved ∙ same ∙ at

-- ---- where the front is no whole packet, bytes are missing

part_by : (short out part : Bool) (read : Result Packet Fault) (n : ℕ)
    → tested short out part (read >>= λ packet. Ok (Some (packet, n))) ≡ Ok None → (short ≡ true) ⊎ ((out ≡ false) × (part ≡ true))
part_by true out part read n e = inl refl
part_by false true part read n e = absurd cc
part_by false false true read n e = inr (refl, refl)
part_by false false false (Ok packet) n e = absurd cc
part_by false false false (Err fault) n e = absurd cc

-- with a number in front the packet is in its range, and not all of it is there
pub part_in_front : (side : Side) (size : ℕ) (after : List ℕ) → size < 2 ^ 32 → front_of side (uint32 size ++ after) ≡ Ok None
    → (size + 4 ≤ packet_limit) × (length (uint32 size ++ after) < size + 4)
part_in_front side size after fits e =
    let bytes = uint32 size ++ after in
    let number : from_be_bytes w32 (take 4 bytes) ≡ size = ap (from_be_bytes w32) (take_at (uint32 size) after 4 (wide32.len size)) ∙ wide32.again size fits in
    let long : 4 ≤ length bytes = omega (arith, length-append (uint32 size) after, wide32.len size) in
    let at : sized side size (length bytes) (take size (drop 4 bytes)) ≡ Ok None =
    ap (λ (n : ℕ). sized side n (length bytes) (take n (drop 4 bytes))) (sym number) ∙ sym (front_is side bytes) ∙ e in
    let by = part_by (ltb (length bytes) 4) (eqb size 0 || ltb packet_limit (size + 4)) (ltb (length bytes) (size + 4)) (packet_of side (take size (drop 4 bytes))) (size + 4) at in
    elim by [
      | inl short ↦ absurd (omega (arith, long, ltb-true (length bytes) 4 short))
      | inr part ↦ (ltb-false packet_limit (size + 4) (or_parts _ _ part.0).1, ltb-true (length bytes) (size + 4) part.1)
    ]

-- the number after the direction says how many bytes are missing
pub part_is_short : (side : Side) (held : List ℕ) (direction size : ℕ) (after : List ℕ) → held ≡ direction ∷ (uint32 size ++ after)
    → size < 2 ^ 32 → CutsPacket held side → (size + 4 ≤ packet_limit) × (length held < size + 5)
part_is_short side held direction size after is fits part =
    let spelled : part.1 ≡ uint32 size ++ after = (same_cons part.0 direction part.1 (uint32 size ++ after) (sym part.2 ∙ is)).1 in
    let in_front = part_in_front side size after fits (ap (front_of side) (sym spelled) ∙ part.3) in
    (in_front.0, omega (arith, ap length is, in_front.1))

-- ==== What is taken from the front of the bytes held is taken from the bytes ahead.

at_front : (stage : Stage) (before : List ℕ) → 1 ≤ rank stage → IsAfterOpening stage before before
at_front stages.Opening before begun = absurd (omega (arith, begun))
at_front other before begun = refl

-- the record in front is taken, where the opening is not next
pub record_took : (stage : Stage) (m : Ahead) (packet : Packet) (rest before : List ℕ) → 1 ≤ rank stage
    → HasAhead m before → MayCome stage packet → Begins m.held packet rest
    → Took (λ all after. BeginsNext stage all packet after) before (ahead_without (length m.held - length rest) m)
record_took stage m packet rest before begun known may begins =
    let p = ahead_parts m before known in
    let text = record_text packet in
    let bytes : before ≡ text ++ (rest ++ p.left) =
    p.bytes_are ∙ ap (λ (l : List ℕ). l ++ p.left) begins.bytes_are ∙ append_assoc text rest p.left in (
      rest ++ p.left,
      front_taken m text rest p.left begins.bytes_are p.known,
      record {
        records = before;
        opened = at_front stage before begun;
        may_come = may;
        begins = record { spelled = begins.spelled; bytes_are = bytes };
      },
    )

-- ==== A fault of the bytes held is one of all bytes ahead.

packet_fault : (number : ℕ) (side : Side) (bytes more : List ℕ) (error : TranscriptError)
    → (front_of side bytes ≡ Ok None → more ≡ []) → PacketFault number side bytes error
    → IsExcuse error ⊎ PacketFault number side (bytes ++ more) error
packet_fault number side bytes more (Truncated place) end fault =
    let all : bytes ++ more ≡ bytes = ap (λ (l : List ℕ). bytes ++ l) (end fault.1) ∙ append-nil bytes in
    inr (fault.0, ap (front_of side) all ∙ fault.1)
packet_fault number side bytes more (Wire f place) end fault = inr (fault.0, fault_stays side bytes more f fault.1)
packet_fault number side bytes more NoMemory end fault = inl tt
packet_fault number side bytes more other end fault = absurd fault

directed_fault : (number : ℕ) (side : Option Side) (bytes more : List ℕ) (error : TranscriptError)
    → ((s : Side) → front_of s bytes ≡ Ok None → more ≡ []) → DirectedFault number side bytes error
    → IsExcuse error ⊎ DirectedFault number side (bytes ++ more) error
directed_fault number None bytes more error end fault = inr fault
directed_fault number (Some side) bytes more error end fault = packet_fault number side bytes more error (end side) fault

record_fault : (number : ℕ) (held more : List ℕ) (error : TranscriptError) → (held ≡ [] → more ≡ [])
    → ((side : Side) → CutsPacket held side → more ≡ []) → RecordFault number held error
    → IsExcuse error ⊎ RecordFault number (held ++ more) error
record_fault number [] more error end part fault =
    inr (subst (λ (l : List ℕ). RecordFault number l error) (sym (end refl)) fault)
record_fault number (direction ∷ bytes) more error end part fault =
    directed_fault number (side_of_direction direction) bytes more error
    (λ side e. part side (direction, bytes, refl, e)) fault

other_record : (P : Packet → Type 0) (held more : List ℕ) → BeginsOther P held → BeginsOther P (held ++ more)
other_record P held more other = record {
  packet = other.packet;
  rest = other.rest ++ more;
  begins = record {
    spelled = other.begins.spelled;
    bytes_are = ap (λ (l : List ℕ). l ++ more) other.begins.bytes_are ∙ append_assoc (record_text other.packet) other.rest more;
  };
  is_other = other.is_other;
}

not_a : (P : Packet → Type 0) (number : ℕ) (held more : List ℕ) (error : TranscriptError) → (held ≡ [] → more ≡ [])
    → ((side : Side) → CutsPacket held side → more ≡ []) → KindFault P number held error
    → IsExcuse error ⊎ KindFault P number (held ++ more) error
not_a P number held more error end part (inl fault) =
    elim (record_fault number held more error end part fault) [
      | inl excuse ↦ inl excuse
      | inr same ↦ inr (inl same)
    ]
not_a P number held more error end part (inr other) = inr (inr (other.0, other_record P held more other.1))

at_end : (left : Option (List ℕ)) (more : List ℕ) → left ≡ Some more → IsAtEnd left → more ≡ []
at_end left more e end = subst IsAtEnd e end

pub fault_ahead : (P : Packet → Type 0) (number : ℕ) (m : Ahead) (before : List ℕ) (error : TranscriptError) → HasAhead m before
    → (m.held ≡ [] → IsAtEnd m.left) → CutsAtEnd m → KindFault P number m.held error
    → IsExcuse error ⊎ KindFault P number before error
fault_ahead P number m before error known end part fault =
    let p = ahead_parts m before known in
    let all = not_a P number m.held p.left error (λ none. at_end m.left p.left p.known (end none)) (λ side cut. at_end m.left p.left p.known (part side cut)) fault in
    subst (λ (l : List ℕ). IsExcuse error ⊎ KindFault P number l error) (sym p.bytes_are) all

-- ---- what comes next is refused

pub opening_fault : (m : Ahead) (before : List ℕ) (error : TranscriptError) → HasAhead m before → HoldsOpening m → error ≡ Magic 0
    → ((rest : List ℕ) → m.held ≡ transcript_opening ++ rest → ⊥) → IsExcuse error ⊎ FaultAhead stages.Opening 0 before error
opening_fault m before error known holds is none =
    inr (is, λ rest opened. none _ (front_held m transcript_opening before rest known opened (holds before rest known opened)))

pub event_fault : (number : ℕ) (m : Ahead) (before : List ℕ) (error : TranscriptError) → HasAhead m before
    → (m.held ≡ [] → IsAtEnd m.left) → CutsAtEnd m → 0 < length m.held → EventFault number m.held error
    → IsExcuse error ⊎ FaultAhead stages.Events number before error
event_fault number m before error known end part some fault =
    let p = ahead_parts m before known in
    let ahead : before ≢ [] = λ none. absurd (omega (arith, ap length none, ap length p.bytes_are, length-append m.held p.left)) in
    elim (fault_ahead IsEventPacket number m before error known end part fault) [
      | inl excuse ↦ inl excuse
      | inr same ↦ inr (ahead, same)
    ]

-- ==== An error is of the record in hand.

packet_names : (number : ℕ) (side : Side) (bytes : List ℕ) (error : TranscriptError) → PacketFault number side bytes error
    → NamesRecord number error
packet_names number side bytes (Truncated place) fault = fault.0
packet_names number side bytes (Wire f place) fault = fault.0
packet_names number side bytes NoMemory fault = tt
packet_names number side bytes (Magic place) fault = absurd fault
packet_names number side bytes (Direction place) fault = absurd fault
packet_names number side bytes (Start place) fault = absurd fault
packet_names number side bytes (Io place) fault = absurd fault

named : (number : ℕ) (error is : TranscriptError) → error ≡ is → NamesRecord number is → NamesRecord number error
named number error is e names = subst (NamesRecord number) (sym e) names

directed_names : (number : ℕ) (side : Option Side) (bytes : List ℕ) (error : TranscriptError)
    → DirectedFault number side bytes error → NamesRecord number error
directed_names number None bytes error fault = named number error (Direction number) fault refl
directed_names number (Some side) bytes error fault = packet_names number side bytes error fault

record_names : (number : ℕ) (bytes : List ℕ) (error : TranscriptError) → RecordFault number bytes error
    → NamesRecord number error
record_names number [] error fault = named number error (Start number) fault refl
record_names number (direction ∷ bytes) error fault =
    directed_names number (side_of_direction direction) bytes error fault

kind_names : (P : Packet → Type 0) (number : ℕ) (bytes : List ℕ) (error : TranscriptError)
    → (error ≡ Io number) ⊎ KindFault P number bytes error → NamesRecord number error
kind_names P number bytes error (inl failed) = named number error (Io number) failed refl
kind_names P number bytes error (inr (inl fault)) = record_names number bytes error fault
kind_names P number bytes error (inr (inr other)) = named number error (Start number) other.0 refl

opening_names : (error : TranscriptError) → (error ≡ Io 0) ⊎ (error ≡ Magic 0) → NamesRecord 0 error
opening_names error (inl failed) = named 0 error (Io 0) failed refl
opening_names error (inr fault) = named 0 error (Magic 0) fault refl

fault_names : (stage : Stage) (number : ℕ) (held : List ℕ) (error : TranscriptError) → FaultIn stage number held error
    → NamesRecord (number_in_hand stage number) error
fault_names stages.Opening number held error fault = opening_names error fault
fault_names stages.Init number held error fault = kind_names IsInit 1 held error fault
fault_names stages.Version number held error fault = kind_names IsVersion 2 held error fault
fault_names stages.Events number held error fault = kind_names IsEventPacket number held error fault

-- the same after the error was reported, by a reader that counts from this number
pub names_record : (now stage : Stage) (number old : ℕ) (held : List ℕ) (error : TranscriptError) → now ≡ stage → number ≡ old
    → FaultIn stage number held error → NamesRecord (number_in_hand now old) error
names_record now stage number old held error is same fault =
    let at : NamesRecord (number_in_hand stage old) error =
    subst (λ (n : ℕ). NamesRecord (number_in_hand stage n) error) same (fault_names stage number held error fault) in
    subst (λ (s : Stage). NamesRecord (number_in_hand s old) error) (sym is) at
