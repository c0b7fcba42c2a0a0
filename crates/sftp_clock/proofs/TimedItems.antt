-- Names that get times one by one, and how long a reply of such names is.
use Rattle.std.proofs.Common.{◌≡◌, ℕ, zero, suc, ◌+◌, ◌*◌, ◌<◌, ◌≤◌, ◌^◌, ◌&&◌, not, Bool, true, false, Option, None}
use Rattle.std.proofs.Common.{Some, List, [], ◌∷◌, ◌++◌, length, map, take, drop, is_some, IfSome}
use Rattle.std.proofs.Common.{set, get_or, refl, sym, ap, subst, ◌∙◌, arith, length-append, length-drop, IsTrue, nat_lt}
use Rattle.std.proofs.lemmas.List.{at_drop_all, drop_more, take_more, take_more_set, drop-set-lt}
use Rattle.std.proofs.lemmas.List.{take-append-drop, map-append, append-nil, length-map}
use Rattle.std.proofs.lemmas.Bool.{ltb-true}
use Rattle.std.proofs.lemmas.Grind.{drop_more_same}
use Rattle.std.specs.List.{flat_map, list_all, AllByRecursion}
use Rattle.sftp_packets.specs.declared.attributes.Attrs.{Attrs}
use Rattle.sftp_packets.specs.declared.names.NameItem.{NameItem}
use Rattle.sftp_packets.specs.Packets.{HasSpelling, spelling}
use Rattle.sftp_packets.specs.Spelling.{name_item, string, uint32, uint64, two_uint32, optional, counted_pairs}
use Rattle.sftp_packets.specs.Spelling.{attributes, attribute_fields, attribute_flags, FitsNameItem, FitsString}
use Rattle.sftp_packets.specs.Spelling.{FitsAttrs, FitsTwo, FitsCounted}
use Rattle.sftp_bare.specs.Bare.{bare_item}
use Rattle.sftp_clock.specs.Timed.{shown, listing, untimed, untimed_attrs, is_plain, ArePlain, IsTimed}

-- ---- one by one

same_heads : (x y : NameItem) (xs ys : List NameItem) → x ∷ xs ≡ y ∷ ys → x ≡ y
same_heads x y xs ys is = cc

within_now : (before now : List NameItem) (i : ℕ) → i < length before → drop i now ≡ drop i before → i < length now
within_now before now i within rest = omega (arith, within, ap length rest, length-drop i now, length-drop i before)

pub untimed-taken : (before now : List NameItem) (i : ℕ) (x y : NameItem) → i < length before
    → map untimed (take i now) ≡ map untimed (take i before) → drop i now ≡ drop i before
    → untimed y ≡ untimed (get_or now i x)
    → map untimed (take (i + 1) (set now i y)) ≡ map untimed (take (i + 1) before)
untimed-taken before now i x y within taken rest same =
    let in_now : i < length now = within_now before now i within rest in
    let heads : get_or now i x ≡ get_or before i x =
    same_heads _ _ _ _ (sym (drop_more now i x in_now) ∙ (rest ∙ drop_more before i x within)) in
    ap (map untimed) (take_more_set now i y in_now)
    ∙ (map-append untimed (take i now) (y ∷ [])
    ∙ (ap (λ l. l ++ untimed y ∷ []) taken
    ∙ (ap (λ z. map untimed (take i before) ++ z ∷ []) (same ∙ ap untimed heads)
    ∙ (sym (map-append untimed (take i before) (get_or before i x ∷ []))
    ∙ ap (map untimed) (sym (take_more before i x within))))))

all-more : (xs : List NameItem) (y : NameItem) → AllByRecursion IsTimed xs → IsTimed y
    → AllByRecursion IsTimed (xs ++ y ∷ [])
all-more [] y all is = (is, tt)
all-more (x ∷ xs) y all is = (all.0, all-more xs y all.1 is)

pub timed-taken : (before now : List NameItem) (i : ℕ) (y : NameItem) → i < length before
    → drop i now ≡ drop i before → AllByRecursion IsTimed (take i now) → IsTimed y
    → AllByRecursion IsTimed (take (i + 1) (set now i y))
timed-taken before now i y within rest all is =
    subst (AllByRecursion IsTimed) (sym (take_more_set now i y (within_now before now i within rest)))
    (all-more (take i now) y all is)

pub rest-taken : (before now : List NameItem) (i : ℕ) (y : NameItem) → drop i now ≡ drop i before
    → drop (i + 1) (set now i y) ≡ drop (i + 1) before
rest-taken before now i y rest = drop-set-lt (i + 1) now i y (omega arith) ∙ drop_more_same now before i rest

none-left : (before now : List NameItem) (i : ℕ) → length before ≤ i → drop i now ≡ drop i before → take i now ≡ now
none-left before now i past rest =
    sym (append-nil (take i now))
    ∙ (ap (λ l. take i now ++ l) (sym (rest ∙ at_drop_all (λ l. l) before i past)) ∙ take-append-drop i now)

pub untimed-all : (before now : List NameItem) (i : ℕ) → length before ≤ i
    → map untimed (take i now) ≡ map untimed (take i before) → drop i now ≡ drop i before
    → map untimed now ≡ map untimed before
untimed-all before now i past taken rest =
    ap (map untimed) (sym (none-left before now i past rest))
    ∙ (taken ∙ ap (map untimed) (none-left before before i past refl))

pub timed-all : (before now : List NameItem) (i : ℕ) → length before ≤ i → AllByRecursion IsTimed (take i now)
    → drop i now ≡ drop i before → AllByRecursion IsTimed now
timed-all before now i past all rest = subst (AllByRecursion IsTimed) (none-left before now i past rest) all

pub untimed-length : (before now : List NameItem) → map untimed now ≡ map untimed before
    → length now ≡ length before
untimed-length before now same = sym (length-map now untimed) ∙ (ap length same ∙ length-map before untimed)

all-at : (P : NameItem → Type 0) (items : List NameItem) (i : ℕ) (x : NameItem) → AllByRecursion P items
    → i < length items → P (get_or items i x)
all-at P [] i x all within = absurd (omega (arith, within))
all-at P (item ∷ items) zero x all within = all.0
all-at P (item ∷ items) (suc i) x all within = all-at P items i x all.1 (omega (arith, within))

pub fits-at : (before now : List NameItem) (i : ℕ) (x : NameItem) → AllByRecursion FitsNameItem before
    → i < length before → drop i now ≡ drop i before → FitsNameItem (get_or now i x)
fits-at before now i x all within rest =
    let in_now : i < length now = within_now before now i within rest in
    let heads : get_or now i x ≡ get_or before i x =
    same_heads _ _ _ _ (sym (drop_more now i x in_now) ∙ (rest ∙ drop_more before i x within)) in
    subst FitsNameItem (sym heads) (all-at FitsNameItem before i x all within)

-- ---- how long a name with times is

size-long : (size : Option ℕ) → length (optional uint64 size) ≤ 8
size-long None = omega arith
size-long (Some size) = omega arith

two-long : (numbers : Option (ℕ × ℕ)) → length (optional two_uint32 numbers) ≤ 8
two-long None = omega arith
two-long (Some numbers) = omega arith

one-long : (number : Option ℕ) → length (optional uint32 number) ≤ 4
one-long None = omega arith
one-long (Some number) = omega arith

pairs-long : (extended : Option (List (List ℕ × List ℕ))) → not (is_some extended) ≡ true
    → length (optional counted_pairs extended) ≤ 0
pairs-long None none = omega arith
pairs-long (Some pairs) none = absurd cc

pub fields-long : (attrs : Attrs) → not (is_some attrs.extended) ≡ true → length (attribute_fields attrs) ≤ 28
fields-long attrs none =
    let size : List ℕ = optional uint64 attrs.size in
    let owner : List ℕ = optional two_uint32 attrs.owner in
    let permissions : List ℕ = optional uint32 attrs.permissions in
    let times : List ℕ = optional two_uint32 attrs.times in
    let extended : List ℕ = optional counted_pairs attrs.extended in
    omega (
      arith,
      size-long attrs.size,
      two-long attrs.owner,
      one-long attrs.permissions,
      two-long attrs.times,
      pairs-long attrs.extended none,
      length-append size (owner ++ (permissions ++ (times ++ extended))),
      length-append owner (permissions ++ (times ++ extended)),
      length-append permissions (times ++ extended),
      length-append times extended,
    )

and-first : (a b : Bool) → (a && b) ≡ true → a ≡ true
and-first true b is = refl
and-first false b is = is

and-second : (a b : Bool) → (a && b) ≡ true → b ≡ true
and-second true b is = is
and-second false b is = absurd cc

item-long : (item : NameItem) → is_plain item ≡ true → length (name_item item) ≤ 700
item-long item plain =
    let rest = and-second (nat_lt (length item.filename) 256) _ plain in
    omega (
      arith,
      ltb-true (length item.filename) 256 (and-first (nat_lt (length item.filename) 256) _ plain),
      ltb-true (length item.longname) 401 (and-first (nat_lt (length item.longname) 401) _ rest),
      fields-long item.attrs (and-second (nat_lt (length item.longname) 401) _ rest),
      length-append (string item.filename) (string item.longname ++ attributes item.attrs),
      length-append (uint32 (length item.filename)) item.filename,
      length-append (string item.longname) (attributes item.attrs),
      length-append (uint32 (length item.longname)) item.longname,
      length-append (uint32 (attribute_flags item.attrs)) (attribute_fields item.attrs),
    )

-- attributes that are the same but for their times, which are in range
pub fits-timed : (old new : Attrs) → untimed_attrs new ≡ untimed_attrs old → IfSome new.times FitsTwo → FitsAttrs old
    → FitsAttrs new
fits-timed old new same times fits = record {
  size = subst (λ n. IfSome n (λ n. n < 2 ^ 64)) (sym (ap (λ (a : Attrs). a.size) same)) fits.size;
  owner = subst (λ n. IfSome n FitsTwo) (sym (ap (λ (a : Attrs). a.owner) same)) fits.owner;
  permissions =
      subst (λ n. IfSome n (λ n. n < 2 ^ 32)) (sym (ap (λ (a : Attrs). a.permissions) same)) fits.permissions;
  times = times;
  extended = subst (λ n. IfSome n FitsCounted) (sym (ap (λ (a : Attrs). a.extended) same)) fits.extended;
}

pub timed : (old new : NameItem) → untimed new ≡ untimed old → IfSome new.attrs.times FitsTwo → FitsNameItem old
    → IsTimed new
timed old new same times fits = record {
  fits = record {
    filename = subst FitsString (sym (ap (λ (n : NameItem). n.filename) same)) fits.filename;
    longname = subst FitsString (sym (ap (λ (n : NameItem). n.longname) same)) fits.longname;
    attrs = fits-timed old.attrs new.attrs (ap (λ (n : NameItem). n.attrs) same) times fits.attrs;
  };
  short = λ plain. item-long new plain;
}

-- ---- how long a reply is

plain-untimed : (items : List NameItem) → list_all is_plain (map untimed items) ≡ list_all is_plain items
plain-untimed [] = refl
plain-untimed (item ∷ items) = ap (λ b. is_plain item && b) (plain-untimed items)

bare-untimed : (items : List NameItem) → map bare_item (map untimed items) ≡ map bare_item items
bare-untimed [] = refl
bare-untimed (item ∷ items) = ap (λ rest. bare_item item ∷ rest) (bare-untimed items)

pub bare-same : (before now : List NameItem) → map untimed now ≡ map untimed before
    → map bare_item now ≡ map bare_item before
bare-same before now same = sym (bare-untimed now) ∙ (ap (map bare_item) same ∙ bare-untimed before)

all-fit : (items : List NameItem) → AllByRecursion IsTimed items → AllByRecursion FitsNameItem items
all-fit [] all = tt
all-fit (item ∷ items) all = (all.0.fits, all-fit items all.1)

all-long : (items : List NameItem) → AllByRecursion IsTimed items → IsTrue (list_all is_plain items)
    → length (flat_map name_item items) ≤ 700 * length items
all-long [] all plain = omega arith
all-long (item ∷ items) all plain =
    omega (
      arith,
      all.0.short (and-first (is_plain item) (list_all is_plain items) plain),
      all-long items all.1 (and-second (is_plain item) (list_all is_plain items) plain),
      length-append (name_item item) (flat_map name_item items),
    )

pub names-spelled : (id : ℕ) (before now : List NameItem) → ArePlain before → AllByRecursion IsTimed now
    → map untimed now ≡ map untimed before → HasSpelling (listing id before) → HasSpelling (listing id now)
unfolding spelling
names-spelled id before now plain all same spelled =
    let few : length now ≤ 256 = omega (arith, plain.few, untimed-length before now same) in
    let long : length (flat_map name_item now) ≤ 700 * length now =
    all-long now all (sym (plain-untimed now) ∙ (ap (list_all is_plain) same ∙ (plain-untimed before ∙ plain.plain))) in
    record {
      fields = (spelled.fields.0, (omega (arith, few), all-fit now all));
      whole = omega (arith, few, long, length-append (uint32 (length now)) (flat_map name_item now));
      handle = tt;
      canonical = refl;
    }

pub attrs-spelled : (id : ℕ) (old new : Attrs) → untimed_attrs new ≡ untimed_attrs old → IfSome new.times FitsTwo
    → not (is_some new.extended) ≡ true → HasSpelling (shown id old) → HasSpelling (shown id new)
unfolding spelling
attrs-spelled id old new same times none spelled =
    record {
      fields = (spelled.fields.0, fits-timed old new same times spelled.fields.1);
      whole = omega (
        arith,
        fields-long new none,
        length-append (uint32 (attribute_flags new)) (attribute_fields new),
      );
      handle = tt;
      canonical = refl;
    }
