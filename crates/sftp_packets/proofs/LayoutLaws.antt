-- Each packet has the layout that is found by its bytes, and its name is found by its type.
use Rattle.std.proofs.Common.{◌≡◌, ℕ, false, List, [], ◌∷◌, length, refl, ◌++◌, sym, ap}
use Rattle.std.proofs.Common.{◌∙◌, ◌^◌, ◌<◌, true, zero, suc, Bool, take, drop}
use Rattle.std.proofs.Common.{Some, inl, inr}
use Rattle.std.specs.Prelude.{bytes_eq, nat_lt, find, nat_eq}
use Rattle.sftp_packets.specs.declared.requests.Ask.{Ask}
use Rattle.sftp_packets.specs.declared.replies.Answer.{Answer}
use Rattle.sftp_packets.specs.declared.packets.Packet.{Packet}
use Rattle.sftp_packets.specs.declared.packets.Packet.TheVariants.{Init, Version, Request, Reply}
use Rattle.sftp_packets.specs.Spelling.{uint32, string}
use Rattle.sftp_packets.specs.Spelling.{with_id}
use Rattle.sftp_packets.specs.Requests.{ask_parts, asks_known, FitsAsk, known_extensions, ask_row}
use Rattle.sftp_packets.specs.Requests.{answer_parts, answer_row}
use Rattle.sftp_packets.specs.Packets.{contents, side_of, hides_extension, FitsFields}
use Rattle.std.proofs.lemmas.Bool.{ltb-true, and_parts, or_parts, cases_Bool, true≢false}
use Rattle.std.proofs.lemmas.List.{take_at}
use Rattle.sftp_packets.specs.declared.packets.Side.TheVariants.{Client, Server}
use Rattle.sftp_strings.proofs.Bytes.{wide32}
use Rattle.sftp_packets.proofs.PacketLaws.{ends_last}
use Rattle.std.specs.List.{AllByRecursion, list_all, list_any, starts_with}
use Rattle.std.proofs.lemmas.Slice.Eq.{bytes_eq-Decides, starts_is}
use Rattle.sftp_packets.specs.declared.requests.Ask.TheVariants as asks
use Rattle.sftp_packets.specs.declared.replies.Answer.TheVariants as answers
use Rattle.std.specs.Int.{w32, from_be_bytes}
use Rattle.std.proofs.lemmas.Bool.Decides.{Decides-eqb}
use Rattle.sftp_packets.specs.Layouts.{row_shape, packet_shape, shapes, may_have, layout_of_bytes, type_name_of}
use Rattle.sftp_packets.specs.Layouts.{is_of_type, name_in}

-- ---- names of extensions in front of bytes

-- a string that begins as another one is that string
begins_as : (a b rest : List ℕ) → length a < 2 ^ 32 → length b < 2 ^ 32 → string b ++ rest ≡ string a ++ drop (length (string a)) (string b ++ rest) → a ≡ b
begins_as a b rest short_a short_b same =
    let number : from_be_bytes w32 (uint32 (length b)) ≡ from_be_bytes w32 (uint32 (length a)) = ap (λ (l : List ℕ). from_be_bytes w32 (take 4 l)) same in
    let len : length b ≡ length a = sym (wide32.again (length b) short_b) ∙ number ∙ wide32.again (length a) short_a in
    let left = drop (length (string a)) (string b ++ rest) in
    let behind : b ++ rest ≡ a ++ left = ap (drop 4) same in
    sym (take_at a left (length a) refl) ∙ ap (take (length a)) (sym behind) ∙ take_at b rest (length a) len

not_begun : (a name rest : List ℕ) → length a < 2 ^ 32 → length name < 2 ^ 32 → bytes_eq name a ≡ false → starts_with nat_eq (string name ++ rest) (string a) ≡ false
not_begun a name rest short_a short other =
    elim (cases_Bool (starts_with nat_eq (string name ++ rest) (string a))) [
      | inl begins ↦
          let same = begins_as a name rest short_a short ((starts_is Decides-eqb (string name ++ rest) (string a) _ refl).0 begins) in
          absurd (true≢false (sym ((bytes_eq-Decides name a).1 (sym same)) ∙ other))
      | inr begins_not ↦ begins_not
    ]

-- the name of an unknown extension is in front, and none of the known ones
all_not_begun : (name rest : List ℕ) → length name < 2 ^ 32 → (known : List (List ℕ)) → list_all (λ k. nat_lt (length k) (2 ^ 32)) known ≡ true → list_any (bytes_eq name) known ≡ false
    → AllByRecursion (λ k. starts_with nat_eq (string name ++ rest) (string k) ≡ false) known
all_not_begun name rest lt [] short unknown = tt
all_not_begun name rest lt (k ∷ known) short unknown =
    let fits = and_parts _ _ short in
    let others = or_parts _ _ unknown in
    (not_begun k name rest (ltb-true (length k) (2 ^ 32) fits.0) lt others.0, all_not_begun name rest lt known fits.1 others.1)

-- ---- the layout of bytes

-- what none of the first values has is found behind them
find_after : {A : Type 0} (has : A → Bool) (count : ℕ) (values : List A) → AllByRecursion (λ a. has a ≡ false) (take count values) → find has values ≡ find has (drop count values)
find_after has zero values none = refl
find_after has (suc count) [] none = refl
find_after has (suc count) (a ∷ values) none = rw (none.0) (find_after has count values none.1)

ask_layout : (id : ℕ) (ask : Ask) → FitsAsk ask → asks_known ask ≡ false → layout_of_bytes Client (string (with_id id (ask_parts ask))) ≡ Some (row_shape (ask_row ask))
unfolding layout_of_bytes shapes
ask_layout id (asks.Unknown name rest) fits unknown =
    find_after (may_have (string (with_id id (ask_parts (asks.Unknown name rest))))) (length known_extensions) (drop 19 (shapes Client))
    (all_not_begun name rest fits.0.length_fits known_extensions refl unknown)
ask_layout id other fits unknown = refl

answer_layout : (id : ℕ) (answer : Answer) → layout_of_bytes Server (string (with_id id (answer_parts answer))) ≡ Some (row_shape (answer_row answer))
unfolding layout_of_bytes shapes
answer_layout id (answers.Handle handle) = refl
answer_layout id other = refl

pub packet_layout : (packet : Packet) → FitsFields packet → hides_extension packet ≡ false → layout_of_bytes (side_of packet) (string (contents packet)) ≡ Some (packet_shape packet)
unfolding layout_of_bytes shapes
packet_layout (Init version extensions) fits unknown = refl
packet_layout (Version version extensions) fits unknown = refl
packet_layout (Request request) fits unknown = ask_layout request.id request.ask fits.1 unknown
packet_layout (Reply reply) fits unknown = answer_layout reply.id reply.answer

-- ---- what replies end in

pub answer_ends_last : (answer : Answer) → ends_last (answer_row answer).fields ≡ true
answer_ends_last (answers.Handle handle) = refl
answer_ends_last other = refl

-- ---- names of types

pub ask_name : (ask : Ask) → name_in (find (is_of_type (ask_row ask).kind) (shapes Client)) ≡ type_name_of (row_shape (ask_row ask))
unfolding shapes
ask_name asks.Limits = refl
ask_name other = refl

pub answer_name : (answer : Answer) → name_in (find (is_of_type (answer_row answer).kind) (shapes Server)) ≡ type_name_of (row_shape (answer_row answer))
unfolding shapes
answer_name (answers.Handle handle) = refl
answer_name other = refl
