-- Packets after their length: what is read is spelled so, and what is spelled so is read again.
use Rattle.std.proofs.Common.{◌≡◌, ℕ, ◌≤◌, false, List, [], ◌∷◌, length, refl, cond, eqb, ◌++◌, Ok, sym, ap, subst}
use Rattle.std.proofs.Common.{◌∙◌, ◌^◌, ◌<◌, true, codes, map, append_assoc, arith, Err, Bool}
use Rattle.std.proofs.Common.{Option, Some, None}
use Rattle.std.specs.Prelude.{IfSome, ◌&&◌, ◌||◌, nat_lt, find, is_some}
use Rattle.sftp_packets.specs.declared.requests.Ask.{Ask}
use Rattle.sftp_packets.specs.declared.replies.Answer.{Answer}
use Rattle.sftp_packets.specs.declared.packets.Packet.{Packet}
use Rattle.sftp_packets.specs.declared.packets.Packet.TheVariants.{Init, Version, Request, Reply}
use Rattle.sftp_packets.specs.declared.packets.Side.{Side}
use Rattle.sftp_packets.specs.Spelling.{handle_limit, uint32, pairs, FitsPairs, string, AreBytes, FitsString}
use Rattle.sftp_packets.specs.Spelling.{attributes, FitsAttrs, with_id, names, FitsNames, Field, Text, Attributes}
use Rattle.sftp_packets.specs.Spelling.{FitsField, Fit, Message, Rest, Items, Number, LongNumber, Flags, Handle}
use Rattle.sftp_packets.specs.Spelling.{ExtensionName, Row, field_bytes, fields_bytes, named_bytes, row_parts, handle_in}
use Rattle.sftp_packets.specs.Requests.{ask_parts, asked_handle, asks_known, FitsAsk, known_extensions, ask_row}
use Rattle.sftp_packets.specs.Requests.{is_known_extension, server_extensions, extension_data_at, extension_at}
use Rattle.sftp_packets.specs.Requests.{request_at, every_ask, ask_at, is_named, data_at, asked_at, Value, Makes}
use Rattle.sftp_packets.specs.Requests.{maker}
use Rattle.sftp_packets.specs.Requests.{answer_parts, answered_handle, FitsAnswer, reply_at}
use Rattle.sftp_packets.specs.Packets.{contents, side_of, handle_of, hides_extension, FitsFields, packet_at}
use Rattle.sftp_packets.specs.Packets.{packet_of, spelling, HasSpelling, client_packet_at, server_packet_at}
use Rattle.std.proofs.lemmas.Bool.{eqb-true, cond_both, ltb-true, and_parts, or_parts, true≢false}
use Rattle.std.proofs.lemmas.List.{append-nil, nil_from_length}
use Rattle.sftp_packets.specs.declared.errors.Fault.{Fault}
use Rattle.sftp_packets.specs.declared.packets.Side.TheVariants.{Client, Server}
use Rattle.sftp_packets.specs.Reading.{Reader, refuse, two, uint32_at, pairs_at, one, string_at, handle_at}
use Rattle.sftp_packets.specs.Reading.{◌>>=◌, rest_at, three, uint64_at, attributes_at, names_at, pair_at}
use Rattle.sftp_strings.proofs.Bytes.{Is32, IsBytes, IsBytes-rest}
use Rattle.sftp_packets.proofs.Readers.{TakesAs, two_takes, two_again, one_takes, one_again, Takes-none}
use Rattle.sftp_packets.proofs.Readers.{three_takes, three_again}
use Rattle.sftp_packets.proofs.FieldLaws.{uint32_takes, uint32_again, FitsHandle, as_bytes, string_takes}
use Rattle.sftp_packets.proofs.FieldLaws.{string_again, handle_takes, handle_again, rest_takes, rest_again}
use Rattle.sftp_packets.proofs.FieldLaws.{uint64_takes, uint64_again}
use Rattle.sftp_packets.proofs.FieldLaws.{pairs_takes, pairs_again, pair_takes, pair_again}
use Rattle.std.specs.Simd.Lanes.{all_below}
use Rattle.std.specs.List.{list_all, list_any}
use Rattle.std.proofs.lemmas.Slice.Eq.{bytes_eq-Decides}
use Rattle.sftp_packets.specs.declared.requests.Ask.TheVariants as asks
use Rattle.sftp_packets.proofs.Readers.{bind_ok, Takes, Takes-then, guard_held, ok_is}
use Rattle.sftp_packets.specs.declared.errors.Fault.TheVariants.{WrongType, Trailing}
use Rattle.sftp_packets.proofs.FieldLaws.{attributes_takes, attributes_again}
use Rattle.sftp_packets.specs.declared.replies.Answer.TheVariants as answers
use Rattle.sftp_packets.proofs.FieldLaws.{names_takes, names_again}
use Rattle.sftp_packets.specs.Layouts.{IsValue, AreValues, IsAsk}

-- ==== What a row of the packet table says of a packet: its type, the fields after it, and what they fit.

-- ---- the type, and what follows it

abbrev pub head : List ℕ → ℕ
head [] = 0
head (b ∷ bytes) = b

abbrev pub tail : List ℕ → List ℕ
tail [] = []
tail (b ∷ bytes) = bytes

-- the fields after the type
abbrev pub fields_of : Packet → List ℕ
fields_of packet = tail (contents packet)

-- what a request has after its id, and an answer after that of its request
abbrev pub ask_fields : Ask → List ℕ
ask_fields ask = (ask_parts ask).1

abbrev pub answer_fields : Answer → List ℕ
answer_fields answer = (answer_parts answer).1

pub contents-parts : (packet : Packet) → contents packet ≡ head (contents packet) ∷ fields_of packet
contents-parts (Init version extensions) = refl
contents-parts (Version version extensions) = refl
contents-parts (Request request) = refl
contents-parts (Reply reply) = refl

-- ---- what is read after a type fits

abbrev pub IsSmall : List ℕ → Type 0
IsSmall handle = length handle ≤ handle_limit

-- the fields fit, a handle is within its limit, no extension is hidden, and the type is this one
abbrev pub FitsAskOf : ℕ → Ask → Type 0
FitsAskOf kind a = FitsAsk a × IfSome (asked_handle a) IsSmall × (asks_known a ≡ false) × ((ask_parts a).0 ≡ kind)

abbrev pub FitsAnswerOf : ℕ → Answer → Type 0
FitsAnswerOf kind a = FitsAnswer a × IfSome (answered_handle a) IsSmall × ((answer_parts a).0 ≡ kind)

pub record FitsRow (side : Side) (kind : ℕ) (packet : Packet) : Type 0 where
  pub fields : FitsFields packet
  pub handle : IfSome (handle_of packet) IsSmall
  pub canonical : hides_extension packet ≡ false
  pub kind_is : head (contents packet) ≡ kind
  pub is_sent : side_of packet ≡ side

-- ---- fields of a row, each with any value

-- whether others may follow a field
abbrev pub has_others : Field → Bool
has_others (Message message language) = false
has_others (Rest bytes) = false
has_others (Attributes attrs) = false
has_others (Items items) = false
has_others other = true

-- whether what comes after the fields comes last
abbrev pub ends_last : List Field → Bool
ends_last [] = true
ends_last (field ∷ []) = true
ends_last (field ∷ next ∷ others) = has_others field && ends_last (next ∷ others)

abbrev is_no_handle : Field → Bool
is_no_handle (Handle handle) = false
is_no_handle other = true

-- whether a handle comes first
abbrev handle_first : List Field → Bool
handle_first [] = true
handle_first (field ∷ fields) = list_all is_no_handle fields

-- a handle is within its limit
abbrev SmallIn : Field → Type 0
SmallIn (Handle handle) = IsSmall handle
SmallIn other = Unit {0}

abbrev AreSmall : List Field → Type 0
AreSmall [] = Unit {0}
AreSmall (field ∷ fields) = SmallIn field × AreSmall fields

small-field : (field : Field) → is_no_handle field ≡ true → SmallIn field
small-field (Handle handle) e = absurd cc
small-field other e = tt

small-fields : (fields : List Field) → list_all is_no_handle fields ≡ true → AreSmall fields
small-fields [] e = tt
small-fields (field ∷ fields) e = let both = and_parts _ _ e in (small-field field both.0, small-fields fields both.1)

all-small : (fields : List Field) → handle_first fields ≡ true → IfSome (handle_in fields) IsSmall → AreSmall fields
all-small [] first small = tt
all-small (Handle handle ∷ fields) first small = (small, small-fields fields first)
all-small (other ∷ fields) first small = (tt, small-fields fields first)

handle-small : (fields : List Field) → AreSmall fields → IfSome (handle_in fields) IsSmall
handle-small [] small = tt
handle-small (Handle handle ∷ fields) small = small.0
handle-small (other ∷ fields) small = tt

-- the value of a field, and the field with another value
abbrev value_of : (field : Field) → Value field
value_of (Number number) = number
value_of (LongNumber number) = number
value_of (Flags flags) = flags
value_of (Text text) = text
value_of (Handle handle) = handle
value_of (ExtensionName name) = name
value_of (Message message language) = (message, language)
value_of (Rest bytes) = bytes
value_of (Attributes attrs) = attrs
value_of (Items items) = items

abbrev with_value : (field : Field) → Value field → Field
with_value (Number number) value = Number value
with_value (LongNumber number) value = LongNumber value
with_value (Flags flags) value = Flags value
with_value (Text text) value = Text value
with_value (Handle handle) value = Handle value
with_value (ExtensionName name) value = ExtensionName value
with_value (Message message language) value = Message value.0 value.1
with_value (Rest bytes) value = Rest value
with_value (Attributes attrs) value = Attributes value
with_value (Items items) value = Items value

-- a value of such a field, whatever its own, and what is made of a value of each
abbrev value_at : (field : Field) → Reader (Value field)
value_at (Number number) = uint32_at
value_at (LongNumber number) = uint64_at
value_at (Flags flags) = uint32_at
value_at (Text text) = string_at
value_at (Handle handle) = handle_at
value_at (ExtensionName name) = string_at
value_at (Message message language) = pair_at
value_at (Rest bytes) = rest_at
value_at (Attributes attrs) = attributes_at
value_at (Items items) = names_at

abbrev fields_at : {A : Type 0} → (fields : List Field) → Makes fields A → Reader A
fields_at [] make bytes = Ok (make, bytes)
fields_at (field ∷ fields) make bytes = value_at field bytes >>= λ value. fields_at fields (make value.0) value.1

-- the values of fields, the fields with other values, and what is made of values
abbrev Values : List Field → Type 0
Values [] = Unit {0}
Values (field ∷ fields) = Value field × Values fields

abbrev values_of : (fields : List Field) → Values fields
values_of [] = tt
values_of (field ∷ fields) = (value_of field, values_of fields)

abbrev with_values : (fields : List Field) → Values fields → List Field
with_values [] values = []
with_values (field ∷ fields) values = with_value field values.0 ∷ with_values fields values.1

abbrev made : {A : Type 0} → (fields : List Field) → Makes fields A → Values fields → A
made [] make values = make
made (field ∷ fields) make values = made fields (make values.0) values.1

-- the bytes of fields, and that they fit, one by one
bytes-then : (field : Field) (fields : List Field) → fields_bytes (field ∷ fields) ≡ field_bytes field ++ fields_bytes fields
bytes-then field [] = sym (append-nil (field_bytes field))
bytes-then field (next ∷ others) = refl

fit-then : (field : Field) (fields : List Field) → FitsField field → Fit fields → Fit (field ∷ fields)
fit-then field [] fits fit = fits
fit-then field (next ∷ others) fits fit = (fits, fit)

-- a value that is read is spelled so, and fits
value-takes : (field : Field) → TakesAs (value_at field) (λ value. field_bytes (with_value field value)) (λ value. FitsField (with_value field value) × SmallIn (with_value field value))
value-takes (Number number) bytes x rest is_bytes e = let t = uint32_takes bytes x rest is_bytes e in (t.0, (t.1, tt))
value-takes (LongNumber number) bytes x rest is_bytes e = let t = uint64_takes bytes x rest is_bytes e in (t.0, (t.1, tt))
value-takes (Flags flags) bytes x rest is_bytes e = let t = uint32_takes bytes x rest is_bytes e in (t.0, (t.1, tt))
value-takes (Text text) bytes x rest is_bytes e = let t = string_takes bytes x rest is_bytes e in (t.0, (t.1, tt))
value-takes (Handle handle) bytes x rest is_bytes e = handle_takes bytes x rest is_bytes e
value-takes (ExtensionName name) bytes x rest is_bytes e = let t = string_takes bytes x rest is_bytes e in (t.0, (t.1, tt))
value-takes (Message message language) bytes x rest is_bytes e = let t = pair_takes bytes x rest is_bytes e in (t.0, (t.1, tt))
value-takes (Rest text) bytes x rest is_bytes e = let t = rest_takes bytes x rest is_bytes e in (t.0, (t.1, tt))
value-takes (Attributes attrs) bytes x rest is_bytes e = let t = attributes_takes bytes x rest is_bytes e in (t.0, (t.1, tt))
value-takes (Items items) bytes x rest is_bytes e = let t = names_takes bytes x rest is_bytes e in (t.0, (t.1, tt))

-- a field that fits is read again; what comes last has nothing after it
value-again : (field : Field) (rest : List ℕ) → FitsField field → SmallIn field → (has_others field ≡ false → rest ≡ []) → value_at field (field_bytes field ++ rest) ≡ Ok (value_of field, rest)
value-again (Number number) rest fits small last = uint32_again rest number fits
value-again (LongNumber number) rest fits small last = uint64_again rest number fits
value-again (Flags flags) rest fits small last = uint32_again rest flags fits
value-again (Text text) rest fits small last = string_again rest text fits
value-again (Handle handle) rest fits small last = handle_again rest handle (fits, small)
value-again (ExtensionName name) rest fits small last = string_again rest name fits
value-again (Message message language) rest fits small last = pair_again rest (message, language) fits
value-again (Rest bytes) rest fits small last = subst (λ (r : List ℕ). rest_at (bytes ++ r) ≡ Ok (bytes, r)) (sym (last refl)) (rest_again bytes)
value-again (Attributes attrs) rest fits small last = attributes_again rest attrs fits
value-again (Items items) rest fits small last = names_again rest items fits

-- what was made of values that were read
record HasRead {A : Type 0} (fields : List Field) (make : Makes fields A) (bytes : List ℕ) (a : A) (rest : List ℕ) : Type 0 where
  pub values : Values fields
  pub is_made : made fields make values ≡ a
  pub taken : Takes bytes (fields_bytes (with_values fields values)) rest
  pub fit : Fit (with_values fields values)
  pub small : AreSmall (with_values fields values)

fields-take : {A : Type 0} (fields : List Field) (make : Makes fields A) (bytes : List ℕ) (a : A) (rest : List ℕ) → IsBytes bytes → fields_at fields make bytes ≡ Ok (a, rest) → HasRead fields make bytes a rest
fields-take {A = A} [] make bytes a rest is_bytes e =
    subst (λ (y : A × List ℕ). HasRead {A = A} [] make bytes y.0 y.1) (ok_is (make, bytes) (a, rest) e)
    (record { values = tt; is_made = refl; taken = Takes-none bytes is_bytes; fit = tt; small = tt })
fields-take {A = A} (field ∷ fields) make bytes a rest is_bytes e =
    let v = bind_ok (value_at field bytes) (λ value. fields_at {A = A} fields (make value.0) value.1) (a, rest) e in
    let t = value-takes field bytes v.0.0 v.0.1 is_bytes v.1 in
    let others = fields-take {A = A} fields (make v.0.0) v.0.1 a rest t.0.rest_fits v.2 in
    let filled = with_value field v.0.0 in
    let after = with_values fields others.values in
    let both = Takes-then bytes (field_bytes filled) v.0.1 (fields_bytes after) rest t.0 others.taken in
    record {
      values = (v.0.0, others.values);
      is_made = others.is_made;
      taken = subst (λ (text : List ℕ). Takes bytes text rest) (sym (bytes-then filled after)) both;
      fit = fit-then filled after t.1.0 others.fit;
      small = (t.1.1, others.small);
    }

-- fields that fit are read again
fields-again : {A : Type 0} (fields : List Field) (make : Makes fields A) → Fit fields → AreSmall fields → ends_last fields ≡ true → fields_at fields make (fields_bytes fields ++ []) ≡ Ok (made fields make (values_of fields), [])
fields-again [] make fits small last = refl
fields-again (field ∷ []) make fits small last = rw (value-again field [] fits small.0 (λ none. refl)) refl
fields-again {A = A} (field ∷ next ∷ others) make fits small last =
    let both = and_parts (has_others field) (ends_last (next ∷ others)) last in
    ap (fields_at {A = A} (field ∷ next ∷ others) make) (append_assoc (field_bytes field) (fields_bytes (next ∷ others)) [])
    ∙ rw (value-again field (fields_bytes (next ∷ others) ++ []) fits.0 small.0 (λ none. absurd (true≢false (sym both.0 ∙ none))))
    (fields-again {A = A} (next ∷ others) (make (value_of field)) fits.1 small.1 both.1)

-- ==== Packets of a side, by their type: the first packets, and what the packets of either side share.

-- a row of the packet table: what is read after a type is a packet of that type and that side
abbrev pub TakesRow : Side → ℕ → Reader Packet → Type 0
TakesRow side kind read = TakesAs read fields_of (FitsRow side kind)

-- a row is read where the type is its own
pub by_kind : (side : Side) (kind k : ℕ) (row others : Reader Packet) → TakesRow side k row → TakesRow side kind others → TakesRow side kind (cond (eqb kind k) row others)
by_kind side kind k row others row_takes others_take =
    cond_both (eqb kind k) row others (TakesRow side kind) (λ same. subst (λ (j : ℕ). TakesRow side j row) (sym (eqb-true kind k same)) row_takes) (λ other. others_take)

pub refuse_takes : (side : Side) (kind : ℕ) (fault : Fault) → TakesRow side kind (refuse fault)
refuse_takes side kind fault bytes packet rest is_bytes e = absurd cc

-- ---- the first packets

pub init_takes : TakesRow Client 1 (two uint32_at pairs_at Init)
init_takes =
    two_takes uint32_at pairs_at Init uint32 pairs fields_of Is32 FitsPairs (FitsRow Client 1) uint32_takes pairs_takes (λ a b. refl)
    (λ a b f g. record { fields = (f, g); handle = tt; canonical = refl; kind_is = refl; is_sent = refl })

pub version_takes : TakesRow Server 2 (two uint32_at pairs_at Version)
version_takes =
    two_takes uint32_at pairs_at Version uint32 pairs fields_of Is32 FitsPairs (FitsRow Server 2) uint32_takes pairs_takes (λ a b. refl)
    (λ a b f g. record { fields = (f, g); handle = tt; canonical = refl; kind_is = refl; is_sent = refl })

-- the first packets: a version, and pairs
pub first_again : (make : ℕ → List (List ℕ × List ℕ) → Packet) (version : ℕ) (extensions : List (List ℕ × List ℕ)) → version < 2 ^ 32 → FitsPairs extensions
    → two uint32_at pairs_at make (uint32 version ++ pairs extensions) ≡ Ok (make version extensions, [])
first_again make version extensions lt fits =
    ap (two uint32_at pairs_at make) (sym (append-nil (uint32 version ++ pairs extensions)))
    ∙ two_again uint32_at pairs_at make uint32 pairs version extensions [] (uint32_again (pairs extensions ++ []) version lt) (pairs_again extensions fits)

pub ends : (side : Side) (kind : ℕ) (body : List ℕ) (packet : Packet) → packet_at side kind body ≡ Ok (packet, []) → packet_of side (kind ∷ body) ≡ Ok packet
unfolding packet_of
ends side kind body packet e = rw e refl

-- ==== What the rows of requests have in common. One request is named in each lemma, so that all others compute: a new
-- one needs no line here.

-- ---- what is made of a row's fields

-- the request that is made of values has them in its row
ask-made : (ask : Ask) (values : Values (ask_row ask).fields) → ask_row (made (ask_row ask).fields (maker ask) values) ≡ record (ask_row ask) { fields = with_values (ask_row ask).fields values }
ask-made asks.Limits values = refl
ask-made other values = refl

-- made of its own values it is itself
ask-again : (ask : Ask) → made (ask_row ask).fields (maker ask) (values_of (ask_row ask).fields) ≡ ask
ask-again asks.Limits = refl
ask-again other = refl

pub ask_ends_last : (ask : Ask) → ends_last (ask_row ask).fields ≡ true
ask_ends_last asks.Limits = refl
ask_ends_last other = refl

ask-handle_first : (ask : Ask) → handle_first (ask_row ask).fields ≡ true
ask-handle_first asks.Limits = refl
ask-handle_first other = refl

-- ---- extensions among them

-- an extension that has no request of its own
abbrev is_unknown : Ask → Bool
is_unknown (asks.Unknown name rest) = true
is_unknown other = false

-- any other request is read as its row says
read-as : (ask : Ask) → is_unknown ask ≡ false → (bytes : List ℕ) → ask_at ask bytes ≡ fields_at (ask_row ask).fields (maker ask) bytes
read-as (asks.Unknown name rest) e bytes = absurd cc
read-as other e bytes = refl

made-known : (ask : Ask) → is_unknown ask ≡ false → (values : Values (ask_row ask).fields) → asks_known (made (ask_row ask).fields (maker ask) values) ≡ false
made-known (asks.Unknown name rest) e values = absurd cc
made-known other e values = refl

-- an unknown extension, and each with a name in its row, has the type 200
unknown-type : (ask : Ask) → cond (is_unknown ask) (ask_row ask).kind 200 ≡ 200
unknown-type asks.Limits = refl
unknown-type other = refl

named-type : (ask : Ask) → cond (is_some (ask_row ask).extension) (ask_row ask).kind 200 ≡ 200
named-type asks.Limits = refl
named-type other = refl

not-unknown : (ask : Ask) → eqb (ask_row ask).kind 200 ≡ false → is_unknown ask ≡ false
not-unknown ask other = by (is_unknown ask) (unknown-type ask)
  where
    by : (b : Bool) → cond b (ask_row ask).kind 200 ≡ 200 → b ≡ false
    by true is = absurd (true≢false (sym (ap (λ (k : ℕ). eqb k 200) is) ∙ other))
    by false is = refl

not-named : (ask : Ask) → eqb (ask_row ask).kind 200 ≡ false → (ask_row ask).extension ≡ None
not-named ask other = by (ask_row ask).extension (named-type ask)
  where
    by : (o : Option (List ℕ)) → cond (is_some o) (ask_row ask).kind 200 ≡ 200 → o ≡ None
    by None is = refl
    by (Some name) is = absurd (true≢false (sym (ap (λ (k : ℕ). eqb k 200) is) ∙ other))

-- one with a name in its row is known
named-known : (ask : Ask) → cond (is_some (ask_row ask).extension) (is_unknown ask) false ≡ false
named-known asks.Limits = refl
named-known other = refl

-- its name is written out
abbrev is_text : Option (List ℕ) → Bool
is_text None = true
is_text (Some name) = all_below 256 name && nat_lt (length name) (2 ^ 32)

named-text : (ask : Ask) → is_text (ask_row ask).extension ≡ true
named-text asks.Limits = refl
named-text other = refl

-- what is read after its id or after its name
abbrev reader_of : Option (List ℕ) → Ask → Reader Ask
reader_of None ask = ask_at ask
reader_of (Some name) ask = extension_at

asked-as : (ask : Ask) → is_unknown ask ≡ false → (bytes : List ℕ) → client_packet_at (ask_row ask).kind bytes ≡ request_at (reader_of (ask_row ask).extension ask) bytes
unfolding client_packet_at
asked-as (asks.Unknown name rest) e bytes = absurd cc
asked-as other e bytes = refl

abbrev data_by : Option (List ℕ) → Ask → Reader Ask
data_by None ask = ask_at ask
data_by (Some name) ask = extension_data_at name

data-as : (ask : Ask) (bytes : List ℕ) → data_by (ask_row ask).extension ask bytes ≡ ask_at ask bytes
unfolding extension_data_at
data-as asks.Limits bytes = refl
data-as other bytes = refl

-- ---- finding one

some_is : {A : Type 0} (x y : A) → Some x ≡ Some y → x ≡ y
some_is x y e = cc

find-holds : {A : Type 0} (has : A → Bool) (xs : List A) (x : A) → find has xs ≡ Some x → has x ≡ true
find-holds has [] x e = absurd cc
find-holds {A = A} has (y ∷ xs) x e = by (has y) refl e (find-holds has xs x)
  where
    by : (b : Bool) → has y ≡ b → cond b (Some y) (find has xs) ≡ Some x → (find has xs ≡ Some x → has x ≡ true) → has x ≡ true
    by true is e others = subst (λ (z : A). has z ≡ true) (some_is y x e) is
    by false is e others = others e

find-none : {A : Type 0} (has : A → Bool) (xs : List A) → find has xs ≡ None → list_any has xs ≡ false
find-none has [] e = refl
find-none has (y ∷ xs) e = by (has y) e (find-none has xs)
  where
    by : (b : Bool) → cond b (Some y) (find has xs) ≡ None → (find has xs ≡ None → list_any has xs ≡ false) → (b || list_any has xs) ≡ false
    by true e others = absurd cc
    by false e others = others e

named-is : (name : List ℕ) (o : Option (List ℕ)) → is_named name o ≡ true → o ≡ Some name
named-is name None e = absurd cc
named-is name (Some known) e = ap (λ (n : List ℕ). Some n) (sym ((bytes_eq-Decides name known).0 e))

-- ==== Extensions: the name decides what is read after it. What is read is spelled so, and what is spelled so is read
-- again.

-- ---- what is read is spelled so

-- data of an extension of that name
abbrev TakesData : List ℕ → Reader Ask → Type 0
TakesData name read = (bytes : List ℕ) (ask : Ask) (rest : List ℕ) → IsBytes bytes → read bytes ≡ Ok (ask, rest)
    → (behind : List ℕ) × Takes bytes behind rest × FitsAskOf 200 ask × (ask_fields ask ≡ string name ++ behind)

named-then : (name : List ℕ) (fields : List Field) → named_bytes (Some name) fields ≡ string name ++ fields_bytes fields
named-then name [] = sym (append-nil (string name))
named-then name (field ∷ fields) = refl

known_takes : (name : List ℕ) (ask : Ask) → (ask_row ask).extension ≡ Some name → TakesData name (ask_at ask)
known_takes name ask named bytes a rest is_bytes e =
    let known : is_unknown ask ≡ false = subst (λ (o : Option (List ℕ)). cond (is_some o) (is_unknown ask) false ≡ false) named (named-known ask) in
    let t = fields-take (ask_row ask).fields (maker ask) bytes a rest is_bytes (sym (read-as ask known bytes) ∙ e) in
    let filled = with_values (ask_row ask).fields t.values in
    let kind : (ask_row ask).kind ≡ 200 = subst (λ (o : Option (List ℕ)). cond (is_some o) (ask_row ask).kind 200 ≡ 200) named (named-type ask) in
    let spelled : named_bytes (ask_row ask).extension filled ≡ string name ++ fields_bytes filled = ap (λ (o : Option (List ℕ)). named_bytes o filled) named ∙ named-then name filled in
    let row =
    subst (λ (row : Row). Fit row.fields × IfSome (handle_in row.fields) IsSmall × (row.kind ≡ 200) × ((row_parts row).1 ≡ string name ++ fields_bytes filled))
    (sym (ask-made ask t.values)) (t.fit, handle-small filled t.small, kind, spelled) in
    subst (λ (b : Ask). (behind : List ℕ) × Takes bytes behind rest × FitsAskOf 200 b × (ask_fields b ≡ string name ++ behind)) t.is_made
    (fields_bytes filled, t.taken, (row.0, row.1, made-known ask known t.values, row.2), row.3)

unknown_takes : (name : List ℕ) → FitsString name → is_known_extension name ≡ false → TakesData name (ask_at (asks.Unknown name []))
unknown_takes name fits unknown bytes a rest is_bytes e =
    let b = bind_ok (rest_at bytes) (λ b. Ok (asks.Unknown name b.0, b.1)) (a, rest) e in
    let t = rest_takes bytes b.0.0 b.0.1 is_bytes b.1 in
    subst (λ (y : Ask × List ℕ). (behind : List ℕ) × Takes bytes behind y.1 × FitsAskOf 200 y.0 × (ask_fields y.0 ≡ string name ++ behind))
    (ok_is (asks.Unknown name b.0.0, b.0.1) (a, rest) b.2) (b.0.0, t.0, ((fits, t.1), tt, unknown, refl), refl)

found_takes : (name : List ℕ) → FitsString name → (found : Option Ask) → find (λ ask. is_named name (ask_row ask).extension) every_ask ≡ found → TakesData name (data_at name found)
found_takes name fits None is = unknown_takes name fits (find-none (λ ask. is_named name (ask_row ask).extension) every_ask is)
found_takes name fits (Some ask) is =
    known_takes name ask (named-is name (ask_row ask).extension (find-holds (λ ask. is_named name (ask_row ask).extension) every_ask ask is))

extension_data_takes : (name : List ℕ) → FitsString name → TakesData name (extension_data_at name)
unfolding extension_data_at
extension_data_takes name fits = found_takes name fits (find (λ ask. is_named name (ask_row ask).extension) every_ask) refl

pub extension_takes : TakesAs extension_at ask_fields (FitsAskOf 200)
unfolding extension_at
extension_takes bytes ask rest is_bytes e =
    let n = bind_ok (string_at bytes) (λ name. extension_data_at name.0 name.1) (ask, rest) e in
    let t = string_takes bytes n.0.0 n.0.1 is_bytes n.1 in
    let u = extension_data_takes n.0.0 t.1 n.0.1 ask rest t.0.rest_fits n.2 in
    let both = Takes-then bytes (string n.0.0) n.0.1 u.0 rest t.0 u.1 in
    (subst (λ (text : List ℕ). Takes bytes text rest) (sym u.3) both, u.2)

-- ---- what is spelled so is read again

-- the name decides what is read after it
named_again : (name fields : List ℕ) → FitsString name → extension_at ((string name ++ fields) ++ []) ≡ extension_data_at name (fields ++ [])
unfolding extension_at
named_again name fields fits = ap extension_at (append_assoc (string name) fields []) ∙ rw (string_again (fields ++ []) name fits) refl

-- bytes that pass the test for them are bytes
are_bytes : (bytes : List ℕ) → all_below 256 bytes ≡ true → AreBytes bytes
are_bytes [] e = tt
are_bytes (b ∷ bytes) e = let p = and_parts _ _ e in (ltb-true b 256 p.0, are_bytes bytes p.1)

-- a name that is written out
fits_name : (name : List ℕ) → is_text (Some name) ≡ true → FitsString name
fits_name name text =
    let both = and_parts _ _ text in
    record { bytes_fit = are_bytes name both.0; length_fits = ltb-true (length name) (2 ^ 32) both.1 }

-- what the server announces can be encoded
announced_fit : (names : List (List ℕ)) → list_all (λ name. is_text (Some name)) names ≡ true → FitsPairs (map (λ name. (name, codes "1")) names)
announced_fit [] fit = tt
announced_fit (name ∷ names) fit =
    let fits = and_parts _ _ fit in
    ((fits_name name fits.0, fits_name (codes "1") refl), announced_fit names fits.1)

pub version_spelled : HasSpelling (Version 3 server_extensions)
unfolding spelling
version_spelled =
    record { fields = (omega arith, announced_fit known_extensions refl); whole = omega arith; handle = tt; canonical = refl }

-- after any other name all that is left is read
none_found : {A : Type 0} (has : A → Bool) (xs : List A) → list_any has xs ≡ false → find has xs ≡ None
none_found has [] none = refl
none_found has (x ∷ xs) none = let others = or_parts (has x) (list_any has xs) none in rw (others.0) (none_found has xs others.1)

unknown_again : (name rest : List ℕ) → FitsString name → is_known_extension name ≡ false → extension_at ((string name ++ rest) ++ []) ≡ Ok (asks.Unknown name rest, [])
unfolding extension_data_at
unknown_again name rest fits unknown =
    named_again name rest fits
    ∙ ap (λ (found : Option Ask). data_at name found (rest ++ [])) (none_found (λ ask. is_named name (ask_row ask).extension) every_ask unknown)
    ∙ one_again rest_at (asks.Unknown name) rest rest [] (rest_again rest)

-- ==== Requests after their length: what is read is spelled so, and what is spelled so is read again.

-- ---- what is read is spelled so

request_takes : (kind : ℕ) (ask : Reader Ask) → TakesAs ask ask_fields (FitsAskOf kind) → TakesRow Client kind (request_at ask)
request_takes kind ask takes =
    two_takes uint32_at ask (λ id a. Request (record { id = id; ask = a })) uint32 ask_fields fields_of Is32 (FitsAskOf kind) (FitsRow Client kind) uint32_takes takes (λ id a. refl)
    (λ id a f g. record { fields = (f, g.0); handle = g.1; canonical = g.2; kind_is = g.3; is_sent = refl })

-- a request that has a type of its own
ask_takes : (ask : Ask) → eqb (ask_row ask).kind 200 ≡ false → TakesAs (ask_at ask) ask_fields (FitsAskOf (ask_row ask).kind)
ask_takes ask own bytes a rest is_bytes e =
    let known = not-unknown ask own in
    let t = fields-take (ask_row ask).fields (maker ask) bytes a rest is_bytes (sym (read-as ask known bytes) ∙ e) in
    let filled = with_values (ask_row ask).fields t.values in
    let taken = subst (λ (o : Option (List ℕ)). Takes bytes (named_bytes o filled) rest) (sym (not-named ask own)) t.taken in
    let row =
    subst (λ (row : Row). Takes bytes (row_parts row).1 rest × Fit row.fields × IfSome (handle_in row.fields) IsSmall × (row.kind ≡ (ask_row ask).kind))
    (sym (ask-made ask t.values)) (taken, t.fit, handle-small filled t.small, refl) in
    subst (λ (b : Ask). Takes bytes (ask_fields b) rest × FitsAskOf (ask_row ask).kind b) t.is_made
    (row.0, (row.1, row.2, made-known ask known t.values, row.3))

asked_takes : (kind : ℕ) → eqb kind 200 ≡ false → (found : Option Ask) → find (λ ask. eqb kind (ask_row ask).kind) every_ask ≡ found → TakesRow Client kind (asked_at found)
asked_takes kind own None is = refuse_takes Client kind WrongType
asked_takes kind own (Some ask) is =
    let same : kind ≡ (ask_row ask).kind = eqb-true kind (ask_row ask).kind (find-holds (λ ask. eqb kind (ask_row ask).kind) every_ask ask is) in
    let off : eqb (ask_row ask).kind 200 ≡ false = subst (λ (k : ℕ). eqb k 200 ≡ false) same own in
    subst (λ (k : ℕ). TakesRow Client k (request_at (ask_at ask))) (sym same) (request_takes (ask_row ask).kind (ask_at ask) (ask_takes ask off))

-- ---- the packets of a client, by their type

pub client_packet_takes : (kind : ℕ) → TakesRow Client kind (client_packet_at kind)
unfolding client_packet_at
client_packet_takes kind =
    let found = find (λ ask. eqb kind (ask_row ask).kind) every_ask in
    by_kind Client kind 1 (two uint32_at pairs_at Init) _ init_takes
    (cond_both (eqb kind 200) (request_at extension_at) (asked_at found) (TakesRow Client kind)
    (λ same. subst (λ (k : ℕ). TakesRow Client k (request_at extension_at)) (sym (eqb-true kind 200 same)) (request_takes 200 extension_at extension_takes))
    (λ own. asked_takes kind own found refl))

-- ---- what is spelled so is read again

request_again : (ask : Reader Ask) (id : ℕ) (a : Ask) → id < 2 ^ 32 → ask ((ask_parts a).1 ++ []) ≡ Ok (a, []) → request_at ask (uint32 id ++ (ask_parts a).1) ≡ Ok (Request (record { id = id; ask = a }), [])
request_again ask id a lt e =
    ap (request_at ask) (sym (append-nil (uint32 id ++ (ask_parts a).1)))
    ∙ two_again uint32_at ask (λ id a. Request (record { id = id; ask = a })) uint32 (λ (x : Ask). (ask_parts x).1) id a [] (uint32_again ((ask_parts a).1 ++ []) id lt) e

-- the fields of a request, without the name of an extension
fields_again : (ask : Ask) → is_unknown ask ≡ false → FitsAsk ask → IfSome (asked_handle ask) IsSmall → ask_at ask (fields_bytes (ask_row ask).fields ++ []) ≡ Ok (ask, [])
fields_again ask known fits small =
    read-as ask known (fields_bytes (ask_row ask).fields ++ [])
    ∙ fields-again (ask_row ask).fields (maker ask) fits (all-small (ask_row ask).fields (ask-handle_first ask) small) (ask_ends_last ask)
    ∙ ap (λ (a : Ask). Ok (a, [])) (ask-again ask)

-- and with it
reader_again : (ask : Ask) (o : Option (List ℕ)) → (ask_row ask).extension ≡ o → is_unknown ask ≡ false → FitsAsk ask → IfSome (asked_handle ask) IsSmall
    → reader_of o ask (named_bytes o (ask_row ask).fields ++ []) ≡ Ok (ask, [])
reader_again ask None is known fits small = fields_again ask known fits small
reader_again ask (Some name) is known fits small =
    let behind = fields_bytes (ask_row ask).fields in
    let text = subst (λ (o : Option (List ℕ)). is_text o ≡ true) is (named-text ask) in
    ap (λ (bytes : List ℕ). extension_at (bytes ++ [])) (named-then name (ask_row ask).fields)
    ∙ named_again name behind (fits_name name text)
    ∙ subst (λ (o : Option (List ℕ)). data_by o ask (behind ++ []) ≡ ask_at ask (behind ++ [])) is (data-as ask (behind ++ []))
    ∙ fields_again ask known fits small

known_again : (id : ℕ) (ask : Ask) → is_unknown ask ≡ false → id < 2 ^ 32 → FitsAsk ask → IfSome (asked_handle ask) IsSmall → packet_of Client (with_id id (ask_parts ask)) ≡ Ok (Request (record { id = id; ask = ask }))
known_again id ask known lt fits small =
    ends Client (ask_row ask).kind (uint32 id ++ (ask_parts ask).1) (Request (record { id = id; ask = ask }))
    (asked-as ask known (uint32 id ++ (ask_parts ask).1)
    ∙ request_again (reader_of (ask_row ask).extension ask) id ask lt (reader_again ask (ask_row ask).extension refl known fits small))

pub asked_again : (id : ℕ) (ask : Ask) → id < 2 ^ 32 → FitsAsk ask → IfSome (asked_handle ask) IsSmall → asks_known ask ≡ false → packet_of Client (with_id id (ask_parts ask)) ≡ Ok (Request (record { id = id; ask = ask }))
unfolding client_packet_at
asked_again id (asks.Unknown name rest) lt fits small known = ends Client 200 _ _ (request_again extension_at id _ lt (unknown_again name rest fits.0 known))
asked_again id other lt fits small known = known_again id other refl lt fits small

-- ==== Replies after their length: what is read is spelled so, and what is spelled so is read again. One more reply is
-- some lines more, all of them here.

-- ---- what is read is spelled so

reply_takes : (kind : ℕ) (answer : Reader Answer) → TakesAs answer answer_fields (FitsAnswerOf kind) → TakesRow Server kind (reply_at answer)
reply_takes kind answer takes =
    two_takes uint32_at answer (λ id a. Reply (record { id = id; answer = a })) uint32 answer_fields fields_of Is32 (FitsAnswerOf kind) (FitsRow Server kind) uint32_takes takes (λ id a. refl)
    (λ id a f g. record { fields = (f, g.0); handle = g.1; canonical = refl; kind_is = g.2; is_sent = refl })

status_takes : TakesRow Server 101 (reply_at (three uint32_at string_at string_at answers.Status))
status_takes = reply_takes 101 (three uint32_at string_at string_at answers.Status) (three_takes uint32_at string_at string_at answers.Status uint32 string string answer_fields Is32 FitsString FitsString (FitsAnswerOf 101) uint32_takes string_takes string_takes (λ a b c. refl) (λ a b c f g h. ((f, (g, h)), tt, refl)))

given_handle_takes : TakesRow Server 102 (reply_at (one handle_at answers.Handle))
given_handle_takes = reply_takes 102 (one handle_at answers.Handle) (one_takes handle_at answers.Handle string answer_fields FitsHandle (FitsAnswerOf 102) handle_takes (λ a. refl) (λ a f. (f.0, f.1, refl)))

data_takes : TakesRow Server 103 (reply_at (one string_at answers.Data))
data_takes = reply_takes 103 (one string_at answers.Data) (one_takes string_at answers.Data string answer_fields FitsString (FitsAnswerOf 103) string_takes (λ a. refl) (λ a f. (f, tt, refl)))

name_takes : TakesRow Server 104 (reply_at (one names_at answers.Name))
name_takes = reply_takes 104 (one names_at answers.Name) (one_takes names_at answers.Name names answer_fields FitsNames (FitsAnswerOf 104) names_takes (λ a. refl) (λ a f. (f, tt, refl)))

attrs_takes : TakesRow Server 105 (reply_at (one attributes_at answers.Attrs))
attrs_takes = reply_takes 105 (one attributes_at answers.Attrs) (one_takes attributes_at answers.Attrs attributes answer_fields FitsAttrs (FitsAnswerOf 105) attributes_takes (λ a. refl) (λ a f. (f, tt, refl)))

extended_takes : TakesRow Server 201 (reply_at (one rest_at answers.Extended))
extended_takes = reply_takes 201 (one rest_at answers.Extended) (one_takes rest_at answers.Extended as_bytes answer_fields AreBytes (FitsAnswerOf 201) rest_takes (λ a. refl) (λ a f. (f, tt, refl)))

-- ---- the packets of a server, by their type

pub server_packet_takes : (kind : ℕ) → TakesRow Server kind (server_packet_at kind)
unfolding server_packet_at
server_packet_takes kind =
    by_kind Server kind 2 _ _ version_takes
    (by_kind Server kind 101 _ _ status_takes
    (by_kind Server kind 102 _ _ given_handle_takes
    (by_kind Server kind 103 _ _ data_takes
    (by_kind Server kind 104 _ _ name_takes
    (by_kind Server kind 105 _ _ attrs_takes
    (by_kind Server kind 201 _ _ extended_takes
    (refuse_takes Server kind WrongType)))))))

-- ---- what is spelled so is read again

reply_again : (answer : Reader Answer) (id : ℕ) (a : Answer) → id < 2 ^ 32 → answer ((answer_parts a).1 ++ []) ≡ Ok (a, []) → reply_at answer (uint32 id ++ (answer_parts a).1) ≡ Ok (Reply (record { id = id; answer = a }), [])
reply_again answer id a lt e =
    ap (reply_at answer) (sym (append-nil (uint32 id ++ (answer_parts a).1)))
    ∙ two_again uint32_at answer (λ id a. Reply (record { id = id; answer = a })) uint32 (λ (x : Answer). (answer_parts x).1) id a [] (uint32_again ((answer_parts a).1 ++ []) id lt) e

pub answered_again : (id : ℕ) (answer : Answer) → id < 2 ^ 32 → FitsAnswer answer → IfSome (answered_handle answer) IsSmall → packet_of Server (with_id id (answer_parts answer)) ≡ Ok (Reply (record { id = id; answer = answer }))
unfolding server_packet_at
answered_again id (answers.Status code message language) lt fits small = ends Server 101 _ _ (reply_again (three uint32_at string_at string_at answers.Status) id _ lt (three_again uint32_at string_at string_at answers.Status uint32 string string code message language [] (uint32_again (string message ++ (string language ++ [])) code fits.0) (string_again (string language ++ []) message fits.1.0) (string_again [] language fits.1.1)))
answered_again id (answers.Handle handle) lt fits small = ends Server 102 _ _ (reply_again (one handle_at answers.Handle) id _ lt (one_again handle_at answers.Handle (string handle) handle [] (handle_again [] handle (fits, small))))
answered_again id (answers.Data bytes) lt fits small = ends Server 103 _ _ (reply_again (one string_at answers.Data) id _ lt (one_again string_at answers.Data (string bytes) bytes [] (string_again [] bytes fits)))
answered_again id (answers.Name items) lt fits small = ends Server 104 _ _ (reply_again (one names_at answers.Name) id _ lt (one_again names_at answers.Name (names items) items [] (names_again [] items fits)))
answered_again id (answers.Attrs attrs) lt fits small = ends Server 105 _ _ (reply_again (one attributes_at answers.Attrs) id _ lt (one_again attributes_at answers.Attrs (attributes attrs) attrs [] (attributes_again [] attrs fits)))
answered_again id (answers.Extended bytes) lt fits small = ends Server 201 _ _ (reply_again (one rest_at answers.Extended) id _ lt (one_again rest_at answers.Extended bytes bytes [] (rest_again bytes)))

-- a server's packet has a type that a client's packets do not have
pub refused_answer : (id : ℕ) (answer : Answer) → packet_of Client (with_id id (answer_parts answer)) ≡ Err WrongType
unfolding packet_of client_packet_at
refused_answer id (answers.Status code message language) = refl
refused_answer id (answers.Handle handle) = refl
refused_answer id (answers.Data bytes) = refl
refused_answer id (answers.Name items) = refl
refused_answer id (answers.Attrs attrs) = refl
refused_answer id (answers.Extended bytes) = refl

-- ==== Packets after their length: what is read is spelled so, and what is spelled so is read again.

packet_takes : (side : Side) (kind : ℕ) → TakesRow side kind (packet_at side kind)
packet_takes Client kind = client_packet_takes kind
packet_takes Server kind = server_packet_takes kind

-- ---- a packet whole

pub packet_of_takes : (side : Side) (bytes : List ℕ) (packet : Packet) → IsBytes bytes → packet_of side bytes ≡ Ok packet → (bytes ≡ contents packet) × FitsRow side (head bytes) packet
unfolding packet_of
packet_of_takes side [] packet is_bytes e = absurd cc
packet_of_takes side (kind ∷ body) packet is_bytes e =
    let p = bind_ok (packet_at side kind body) (λ p. cond (eqb (length p.1) 0) (Ok p.0) (Err Trailing)) packet e in
    let g = guard_held (eqb (length p.0.1) 0) Trailing (Ok p.0.0) packet p.2 in
    let t = packet_takes side kind body p.0.0 p.0.1 (IsBytes-rest kind body is_bytes) p.1 in
    let nothing : p.0.1 ≡ [] = nil_from_length p.0.1 (eqb-true _ _ g.0) in
    let all : body ≡ fields_of p.0.0 = t.0.parts ∙ ap (λ (x : List ℕ). fields_of p.0.0 ++ x) nothing ∙ append-nil (fields_of p.0.0) in
    let whole : kind ∷ body ≡ contents p.0.0 = ap (λ (x : List ℕ). kind ∷ x) all ∙ ap (λ (k : ℕ). k ∷ fields_of p.0.0) (sym t.1.kind_is) ∙ sym (contents-parts p.0.0) in
    subst (λ (q : Packet). (kind ∷ body ≡ contents q) × FitsRow side kind q) (ok_is p.0.0 packet g.1) (whole, t.1)

-- what a packet is spelled with after its length is read as that packet
pub packet_of_again : (packet : Packet) → HasSpelling packet → packet_of (side_of packet) (contents packet) ≡ Ok packet
unfolding client_packet_at server_packet_at
packet_of_again (Init version extensions) has = ends Client 1 _ _ (first_again Init version extensions has.fields.0 has.fields.1)
packet_of_again (Version version extensions) has = ends Server 2 _ _ (first_again Version version extensions has.fields.0 has.fields.1)
packet_of_again (Request request) has = asked_again request.id request.ask has.fields.0 has.fields.1 has.handle has.canonical
packet_of_again (Reply reply) has = answered_again reply.id reply.answer has.fields.0 has.fields.1 has.handle

pub server_packets_refused : (packet : Packet) → side_of packet ≡ Server → packet_of Client (contents packet) ≡ Err WrongType
unfolding packet_of client_packet_at
server_packets_refused (Init version extensions) e = absurd cc
server_packets_refused (Version version extensions) e = refl
server_packets_refused (Request request) e = absurd cc
server_packets_refused (Reply reply) e = refused_answer reply.id reply.answer

-- ==== What can be encoded has values: its bytes are bytes, and the numbers of an owner have 32 bits.

encoded-field : (field : Field) → FitsField field → IsValue field
encoded-field (Text text) fit = fit.bytes_fit
encoded-field (Attributes attrs) fit = fit.owner
encoded-field other fit = tt

encoded-fields : (fields : List Field) → Fit fields → AreValues fields
encoded-fields [] fit = tt
encoded-fields (field ∷ []) fit = encoded-field field fit
encoded-fields (field ∷ next ∷ others) fit = (encoded-field field fit.0, encoded-fields (next ∷ others) fit.1)

pub encoded-ask : (ask : Ask) → FitsAsk ask → IsAsk ask
encoded-ask ask fit = encoded-fields (ask_row ask).fields fit
