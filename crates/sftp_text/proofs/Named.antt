-- Each packet that has a spelling is shown by its name: its layout is found by its bytes, and takes them all. No
-- request or reply is named here; what is shown is any list of fields.
use Rattle.std.proofs.Common.{◌≡◌, ℕ, ◌^◌, ◌<◌, ◌≤◌, true, List, [], ◌∷◌, ◌++◌, length}
use Rattle.std.proofs.Common.{Option, Some, None, refl, sym, ap, subst, ◌∙◌, arith, cond}
use Rattle.std.specs.Prelude.{IsSome, option_and_then, ◌==◌, codes}
use Rattle.std.proofs.lemmas.Bool.{cond-true, and_parts, eq-eqb}
use Rattle.std.proofs.lemmas.List.{append-nil, length-append}
use Rattle.sftp_packets.specs.declared.packets.Packet.{Packet}
use Rattle.sftp_packets.specs.declared.packets.Packet.TheVariants.{Init, Version, Request, Reply}
use Rattle.sftp_packets.specs.declared.packets.Side.{Side}
use Rattle.sftp_packets.specs.declared.layouts.FieldKind.{FieldKind}
use Rattle.sftp_packets.specs.declared.layouts.FieldKind.TheVariants.{Number, LongNumber, Flags, Text, Handle}
use Rattle.sftp_packets.specs.declared.layouts.Tail.{Tail}
use Rattle.sftp_packets.specs.declared.layouts.Tail.TheVariants.{Nothing, Attributes, Pairs, Items, Message, Rest}
use Rattle.sftp_packets.specs.Spelling as wire
use Rattle.sftp_packets.specs.Requests.{ask_row}
use Rattle.sftp_packets.specs.Requests.{answer_row}
use Rattle.sftp_packets.specs.Packets as packets
use Rattle.sftp_packets.specs.Layouts.{Shape, before, kinds_of, mark_of, row_shape, first_packet, packet_shape, layout_of_bytes}
use Rattle.sftp_packets.proofs.PacketLaws.{has_others, ends_last, ask_ends_last}
use Rattle.sftp_packets.proofs.LayoutLaws.{answer_ends_last, packet_layout}
use Rattle.sftp_text.specs.Formats.{Format, nothing as no_text, ◌then◌, word, mark}
use Rattle.sftp_text.specs.Digits as digits
use Rattle.sftp_text.specs.Fields.{field_text, tail_text, fields_text}
use Rattle.sftp_text.specs.Fields.{body_text, packet_text}
use Rattle.sftp_text.specs.Lines.{side_letter, whole, show_whole, show_packet, named_line}
use Rattle.sftp_text.proofs.Shows.{Takes, TakesAll, all_from_front, after-all, mark-takes, word_then-takes, front_uint32-spelled}
use Rattle.sftp_text.proofs.Shows.{number-takes, long-takes, flags-takes, string_text-takes, pairs-all, attributes-takes, names-takes, message-all, rest-all}

-- ---- fields and what comes after them

-- fields of these kinds, and what comes after them, take the bytes
record Fielded (parts : List FieldKind × Tail) (bytes : List ℕ) : Type 0 where
  pub takes : TakesAll (fields_text parts.0 then tail_text parts.1).show bytes

no_field : (tail : Tail) (bytes : List ℕ) → TakesAll (tail_text tail).show bytes → Fielded ([], tail) bytes
no_field tail bytes takes = record {
  takes = λ text. let goes = takes text in record { more = goes.more; is = goes.is };
}

nothing : Fielded ([], Nothing) []
unfolding tail_text
nothing = no_field Nothing [] (λ text. record { more = text; is = refl })

one_field : (kind : FieldKind) (parts : List FieldKind × Tail) (bytes others : List ℕ)
    → Takes (field_text kind).show bytes → Fielded parts others → Fielded (kind ∷ parts.0, parts.1) (bytes ++ others)
one_field kind parts bytes others one more =
    let next : List ℕ × List ℕ → Option (List ℕ × List ℕ) = λ m. (fields_text parts.0).show m.0 m.1 in
    let last : List ℕ × List ℕ → Option (List ℕ × List ℕ) = λ m. (tail_text parts.1).show m.0 m.1 in
    record {
      takes = λ text.
          let first = word_then-takes (codes " ") (field_text kind) bytes one text others in
          let rest = more.takes first.more in
          record {
            more = rest.more;
            is = ap (λ o. option_and_then last (option_and_then next o)) first.is ∙ rest.is;
          };
    }

-- a field before others
followed : (field : wire.Field) (parts : List FieldKind × Tail) (others : List ℕ) → has_others field ≡ true
    → wire.FitsField field → Fielded parts others → Fielded (before field parts) (wire.field_bytes field ++ others)
unfolding field_text
followed (wire.Number n) parts others has fits more = one_field Number parts (wire.uint32 n) others (number-takes n fits) more
followed (wire.LongNumber n) parts others has fits more = one_field LongNumber parts (wire.uint64 n) others (long-takes n fits) more
followed (wire.Flags n) parts others has fits more = one_field Flags parts (wire.uint32 n) others (flags-takes n fits) more
followed (wire.Text bytes) parts others has fits more = one_field Text parts (wire.string bytes) others (string_text-takes bytes fits) more
followed (wire.Handle bytes) parts others has fits more = one_field Handle parts (wire.string bytes) others (string_text-takes bytes fits) more
followed (wire.ExtensionName bytes) parts others has fits more = one_field Text parts (wire.string bytes) others (string_text-takes bytes fits) more
followed other parts others has fits more = cc

-- a field that is the last
alone : (field : wire.Field) → wire.FitsField field → Fielded (before field ([], Nothing)) (wire.field_bytes field)
unfolding tail_text
alone (wire.Message m l) fits = no_field Message (wire.string m ++ wire.string l) (message-all m l fits.0 fits.1)
alone (wire.Rest bytes) fits = no_field Rest bytes (rest-all bytes)
alone (wire.Attributes a) fits = no_field Attributes (wire.attributes a) (all_from_front _ (wire.attributes a) (attributes-takes a fits))
alone (wire.Items ns) fits = no_field Items (wire.names ns) (all_from_front _ (wire.names ns) (names-takes ns fits))
alone other fits =
    subst (Fielded (before other ([], Nothing))) (append-nil (wire.field_bytes other))
    (followed other ([], Nothing) [] refl fits nothing)

-- fields
fielded : (fields : List wire.Field) → ends_last fields ≡ true → wire.Fit fields
    → Fielded (kinds_of fields) (wire.fields_bytes fields)
fielded [] last fits = nothing
fielded (field ∷ []) last fits = alone field fits
fielded (field ∷ next ∷ others) last fits =
    let both = and_parts _ _ last in
    followed field (kinds_of (next ∷ others)) (wire.fields_bytes (next ∷ others)) both.0 fits.0
    (fielded (next ∷ others) both.1 fits.1)

-- ---- packets after their length

-- what comes after the id
abbrev named : Shape → Format
named s = word (32 ∷ s.name) then mark s.mark then fields_text s.fields then tail_text s.tail

named-takes : (s : Shape) (bytes : List ℕ) → Fielded (s.fields, s.tail) bytes → TakesAll (named s).show (s.mark ++ bytes)
named-takes s bytes fields text =
    let goes =
    after-all (mark s.mark).show (fields_text s.fields then tail_text s.tail).show s.mark bytes (mark-takes s.mark)
    fields.takes (text ++ (32 ∷ s.name))
    in
    record { more = goes.more; is = goes.is }

body-takes : (s : Shape) (bytes : List ℕ) → TakesAll (body_text s).show bytes → TakesAll (packet_text s).show (s.kind ∷ bytes)
body-takes s bytes body = after-all (mark (s.kind ∷ [])).show (body_text s).show (s.kind ∷ []) bytes (mark-takes (s.kind ∷ [])) body

-- the mark comes before the fields
named_bytes-parts : (extension : Option (List ℕ)) (fields : List wire.Field)
    → mark_of extension ++ wire.fields_bytes fields ≡ wire.named_bytes extension fields
named_bytes-parts None fields = refl
named_bytes-parts (Some name) [] = append-nil (wire.string name)
named_bytes-parts (Some name) (field ∷ fields) = refl

-- a request or a reply: its type, its id, its mark, and its fields
row-takes : (row : wire.Row) (id : ℕ) → ends_last row.fields ≡ true → id < 2 ^ 32 → wire.Fit row.fields
    → TakesAll (packet_text (row_shape row)).show (wire.with_id id (wire.row_parts row))
row-takes row id last lt fits =
    let s = row_shape row in
    let bytes = mark_of row.extension ++ wire.fields_bytes row.fields in
    let numbered : TakesAll ((word (codes " ") then digits.number) then named s).show (wire.uint32 id ++ bytes) =
    after-all (word (codes " ") then digits.number).show (named s).show (wire.uint32 id) bytes
    (word_then-takes (codes " ") digits.number (wire.uint32 id) (number-takes id lt))
    (named-takes s (wire.fields_bytes row.fields) (fielded row.fields last fits))
    in
    subst (λ l. TakesAll (packet_text s).show (row.kind ∷ (wire.uint32 id ++ l)))
    (named_bytes-parts row.extension row.fields) (body-takes s (wire.uint32 id ++ bytes) numbered)

-- a first packet: its type, its version, and pairs
first_packet-takes : (kind : ℕ) (name : List ℕ) (version : ℕ) (extensions : List (List ℕ × List ℕ)) → version < 2 ^ 32
    → wire.FitsPairs extensions
    → TakesAll (packet_text (first_packet kind name)).show (kind ∷ (wire.uint32 version ++ wire.pairs extensions))
unfolding field_text tail_text
first_packet-takes kind name version extensions lt fits =
    let s = first_packet kind name in
    let bytes = wire.uint32 version ++ wire.pairs extensions in
    let fields =
    one_field Number ([], Pairs) (wire.uint32 version) (wire.pairs extensions) (number-takes version lt)
    (no_field Pairs (wire.pairs extensions) (pairs-all extensions fits))
    in
    let body : TakesAll (no_text then named s).show bytes =
    λ text. let goes = named-takes s bytes fields text in record { more = goes.more; is = goes.is }
    in
    body-takes s bytes body

packet-takes : (packet : Packet) → packets.FitsFields packet → TakesAll (packet_text (packet_shape packet)).show (packets.contents packet)
packet-takes (Init version extensions) fits = first_packet-takes 1 (codes "INIT") version extensions fits.0 fits.1
packet-takes (Version version extensions) fits = first_packet-takes 2 (codes "VERSION") version extensions fits.0 fits.1
packet-takes (Request request) fits = row-takes (ask_row request.ask) request.id (ask_ends_last request.ask) fits.0 fits.1
packet-takes (Reply reply) fits = row-takes (answer_row reply.answer) reply.id (answer_ends_last reply.answer) fits.0 fits.1

-- ---- packets

-- a packet whose layout is found and takes what is after the length is shown by name
shown_by_name : (side : Side) (s : Shape) (contents : List ℕ) → length contents < 2 ^ 32
    → layout_of_bytes side (wire.string contents) ≡ Some s → TakesAll (packet_text s).show contents
    → IsSome (named_line side (wire.string contents))
unfolding named_line
shown_by_name side s contents lt found takes =
    let n = length contents in
    let format = packet_text s in
    let goes = takes (side_letter side ∷ []) in
    let next : ℕ × List ℕ → Option (List ℕ) = λ f. cond (f.0 == length f.1) (show_whole side format f.1) None in
    let is : option_and_then (show_packet side (wire.string contents)) (layout_of_bytes side (wire.string contents)) ≡ Some goes.more =
    ap (option_and_then (show_packet side (wire.string contents))) found
    ∙ ap (option_and_then next) (front_uint32-spelled n contents lt)
    ∙ cond-true (n == length contents) (show_whole side format contents) None (eq-eqb n n refl)
    ∙ ap whole goes.is
    in
    subst (λ o. IsSome o) (sym is) refl

short : (contents : List ℕ) → length (wire.string contents) ≤ wire.packet_limit → length contents < 2 ^ 32
short contents fits = omega (arith, fits, length-append (wire.uint32 (length contents)) contents)

pub packet-shown : (packet : Packet) → packets.HasSpelling packet → IsSome (named_line (packets.side_of packet) (packets.spelling packet))
unfolding packets.spelling
packet-shown packet has =
    shown_by_name (packets.side_of packet) (packet_shape packet) (packets.contents packet) (short (packets.contents packet) has.whole)
    (packet_layout packet has.fields has.canonical) (packet-takes packet has.fields)

pub ruleset named_laws = (packet-shown)
