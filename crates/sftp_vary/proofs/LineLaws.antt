-- Names that get lines one by one, and how long a reply of such names is.
use Rattle.std.proofs.Common.{◌≡◌, ℕ, zero, suc, ◌+◌, ◌*◌, ◌<◌, ◌≤◌, ◌^◌, ◌&&◌, Bool, true, false, Option, None, Some}
use Rattle.std.proofs.Common.{List, [], ◌∷◌, ◌++◌, length, map, take, drop, IfSome}
use Rattle.std.proofs.Common.{set, get_or, refl, sym, ap, subst, ◌∙◌, arith, length-append, length-drop, IsTrue, nat_lt}
use Rattle.std.proofs.lemmas.List.{at_drop_all, drop_more, take_more, take_more_set, drop-set-lt}
use Rattle.std.proofs.lemmas.List.{take-append-drop, map-append, append-nil, length-map}
use Rattle.std.proofs.lemmas.Bool.{ltb-true}
use Rattle.std.proofs.lemmas.Grind.{drop_more_same}
use Rattle.std.specs.List.{flat_map, list_all, AllByRecursion}
use Rattle.sftp_packets.specs.declared.attributes.Attrs.{Attrs}
use Rattle.sftp_packets.specs.declared.names.NameItem.{NameItem}
use Rattle.sftp_packets.specs.Packets.{HasSpelling, spelling}
use Rattle.sftp_packets.specs.Spelling.{name_item, string, uint32, uint64, two_uint32, optional, counted_pairs}
use Rattle.sftp_packets.specs.Spelling.{attributes, attribute_fields, attribute_flags, FitsNameItem, FitsString}
use Rattle.sftp_packets.specs.Spelling.{FitsTwo, FitsCounted}
use Rattle.sftp_bare.specs.Bare.{bare_item, bare_attrs}
use Rattle.sftp_vary.specs.Lines.{listing, is_short, AreShort, IsLine, IsLined}

-- ---- one by one

same_heads : (x y : NameItem) (xs ys : List NameItem) → x ∷ xs ≡ y ∷ ys → x ≡ y
same_heads x y xs ys is = cc

within_now : (before now : List NameItem) (i : ℕ) → i < length before → drop i now ≡ drop i before → i < length now
within_now before now i within rest = omega (arith, within, ap length rest, length-drop i now, length-drop i before)

pub bare-taken : (before now : List NameItem) (i : ℕ) (x y : NameItem) → i < length before
    → map bare_item (take i now) ≡ map bare_item (take i before) → drop i now ≡ drop i before
    → bare_item y ≡ bare_item (get_or now i x)
    → map bare_item (take (i + 1) (set now i y)) ≡ map bare_item (take (i + 1) before)
bare-taken before now i x y within taken rest same =
    let in_now : i < length now = within_now before now i within rest in
    let heads : get_or now i x ≡ get_or before i x =
    same_heads _ _ _ _ (sym (drop_more now i x in_now) ∙ (rest ∙ drop_more before i x within)) in
    ap (map bare_item) (take_more_set now i y in_now)
    ∙ (map-append bare_item (take i now) (y ∷ [])
    ∙ (ap (λ l. l ++ bare_item y ∷ []) taken
    ∙ (ap (λ z. map bare_item (take i before) ++ z ∷ []) (same ∙ ap bare_item heads)
    ∙ (sym (map-append bare_item (take i before) (get_or before i x ∷ []))
    ∙ ap (map bare_item) (sym (take_more before i x within))))))

all-more : (xs : List NameItem) (y : NameItem) → AllByRecursion IsLined xs → IsLined y
    → AllByRecursion IsLined (xs ++ y ∷ [])
all-more [] y all is = (is, tt)
all-more (x ∷ xs) y all is = (all.0, all-more xs y all.1 is)

pub lined-taken : (before now : List NameItem) (i : ℕ) (y : NameItem) → i < length before
    → drop i now ≡ drop i before → AllByRecursion IsLined (take i now) → IsLined y
    → AllByRecursion IsLined (take (i + 1) (set now i y))
lined-taken before now i y within rest all is =
    subst (AllByRecursion IsLined) (sym (take_more_set now i y (within_now before now i within rest)))
    (all-more (take i now) y all is)

pub rest-taken : (before now : List NameItem) (i : ℕ) (y : NameItem) → drop i now ≡ drop i before
    → drop (i + 1) (set now i y) ≡ drop (i + 1) before
rest-taken before now i y rest = drop-set-lt (i + 1) now i y (omega arith) ∙ drop_more_same now before i rest

none-left : (before now : List NameItem) (i : ℕ) → length before ≤ i → drop i now ≡ drop i before → take i now ≡ now
none-left before now i past rest =
    sym (append-nil (take i now))
    ∙ (ap (λ l. take i now ++ l) (sym (rest ∙ at_drop_all (λ l. l) before i past)) ∙ take-append-drop i now)

pub bare-all : (before now : List NameItem) (i : ℕ) → length before ≤ i
    → map bare_item (take i now) ≡ map bare_item (take i before) → drop i now ≡ drop i before
    → map bare_item now ≡ map bare_item before
bare-all before now i past taken rest =
    ap (map bare_item) (sym (none-left before now i past rest))
    ∙ (taken ∙ ap (map bare_item) (none-left before before i past refl))

pub lined-all : (before now : List NameItem) (i : ℕ) → length before ≤ i → AllByRecursion IsLined (take i now)
    → drop i now ≡ drop i before → AllByRecursion IsLined now
lined-all before now i past all rest = subst (AllByRecursion IsLined) (none-left before now i past rest) all

pub bare-length : (before now : List NameItem) → map bare_item now ≡ map bare_item before
    → length now ≡ length before
bare-length before now same = sym (length-map now bare_item) ∙ (ap length same ∙ length-map before bare_item)

all-at : (P : NameItem → Type 0) (items : List NameItem) (i : ℕ) (x : NameItem) → AllByRecursion P items
    → i < length items → P (get_or items i x)
all-at P [] i x all within = absurd (omega (arith, within))
all-at P (item ∷ items) zero x all within = all.0
all-at P (item ∷ items) (suc i) x all within = all-at P items i x all.1 (omega (arith, within))

pub fits-at : (before now : List NameItem) (i : ℕ) (x : NameItem) → AllByRecursion FitsNameItem before
    → i < length before → drop i now ≡ drop i before → FitsNameItem (get_or now i x)
fits-at before now i x all within rest =
    let in_now : i < length now = within_now before now i within rest in
    let heads : get_or now i x ≡ get_or before i x =
    same_heads _ _ _ _ (sym (drop_more now i x in_now) ∙ (rest ∙ drop_more before i x within)) in
    subst FitsNameItem (sym heads) (all-at FitsNameItem before i x all within)

-- ---- how long a name with its line is

size-long : (size : Option ℕ) → length (optional uint64 size) ≤ 8
size-long None = omega arith
size-long (Some size) = omega arith

two-long : (numbers : Option (ℕ × ℕ)) → length (optional two_uint32 numbers) ≤ 8
two-long None = omega arith
two-long (Some numbers) = omega arith

one-long : (number : Option ℕ) → length (optional uint32 number) ≤ 4
one-long None = omega arith
one-long (Some number) = omega arith

fields-long : (attrs : Attrs) → attrs.extended ≡ None → length (attribute_fields attrs) ≤ 28
fields-long attrs none =
    let size : List ℕ = optional uint64 attrs.size in
    let owner : List ℕ = optional two_uint32 attrs.owner in
    let permissions : List ℕ = optional uint32 attrs.permissions in
    let times : List ℕ = optional two_uint32 attrs.times in
    let extended : List ℕ = optional counted_pairs attrs.extended in
    omega (
      arith,
      size-long attrs.size,
      two-long attrs.owner,
      one-long attrs.permissions,
      two-long attrs.times,
      ap (λ e. length (optional counted_pairs e)) none,
      length-append size (owner ++ (permissions ++ (times ++ extended))),
      length-append owner (permissions ++ (times ++ extended)),
      length-append permissions (times ++ extended),
      length-append times extended,
    )

item-long : (item : NameItem) → item.attrs.extended ≡ None → length item.longname ≤ 400
    → length item.filename < 256 → length (name_item item) ≤ 700
item-long item none line name =
    omega (
      arith,
      line,
      name,
      fields-long item.attrs none,
      length-append (string item.filename) (string item.longname ++ attributes item.attrs),
      length-append (uint32 (length item.filename)) item.filename,
      length-append (string item.longname) (attributes item.attrs),
      length-append (uint32 (length item.longname)) item.longname,
      length-append (uint32 (attribute_flags item.attrs)) (attribute_fields item.attrs),
    )

pub lined : (old new : NameItem) → new.filename ≡ old.filename → bare_attrs new.attrs ≡ bare_attrs old.attrs
    → new.attrs.extended ≡ None → new.attrs.times ≡ old.attrs.times → IsLine new.longname → FitsNameItem old
    → IsLined new
lined old new name same none times line fits = record {
  fits = record {
    filename = subst FitsString (sym name) fits.filename;
    longname = line.fits;
    attrs = record {
      size = subst (λ n. IfSome n (λ n. n < 2 ^ 64)) (sym (ap (λ (a : Attrs). a.size) same)) fits.attrs.size;
      owner = subst (λ n. IfSome n FitsTwo) (sym (ap (λ (a : Attrs). a.owner) same)) fits.attrs.owner;
      permissions =
          subst (λ n. IfSome n (λ n. n < 2 ^ 32)) (sym (ap (λ (a : Attrs). a.permissions) same)) fits.attrs.permissions;
      times = subst (λ n. IfSome n FitsTwo) (sym times) fits.attrs.times;
      extended = subst (λ n. IfSome n FitsCounted) (sym none) tt;
    };
  };
  short = λ short. item-long new none line.short (ltb-true (length new.filename) 256 short);
}

-- ---- how long a reply is

short-bare : (items : List NameItem) → list_all is_short (map bare_item items) ≡ list_all is_short items
short-bare [] = refl
short-bare (item ∷ items) = ap (λ b. is_short item && b) (short-bare items)

all-fit : (items : List NameItem) → AllByRecursion IsLined items → AllByRecursion FitsNameItem items
all-fit [] all = tt
all-fit (item ∷ items) all = (all.0.fits, all-fit items all.1)

and-first : (a b : Bool) → (a && b) ≡ true → a ≡ true
and-first true b is = refl
and-first false b is = is

and-second : (a b : Bool) → (a && b) ≡ true → b ≡ true
and-second true b is = is
and-second false b is = absurd cc

all-long : (items : List NameItem) → AllByRecursion IsLined items → IsTrue (list_all is_short items)
    → length (flat_map name_item items) ≤ 700 * length items
all-long [] all short = omega arith
all-long (item ∷ items) all short =
    omega (
      arith,
      all.0.short (and-first (is_short item) (list_all is_short items) short),
      all-long items all.1 (and-second (is_short item) (list_all is_short items) short),
      length-append (name_item item) (flat_map name_item items),
    )

pub lined-spelled : (id : ℕ) (before now : List NameItem) → AreShort before → AllByRecursion IsLined now
    → map bare_item now ≡ map bare_item before → HasSpelling (listing id before) → HasSpelling (listing id now)
unfolding spelling
lined-spelled id before now short all same spelled =
    let few : length now ≤ 256 = omega (arith, short.few, bare-length before now same) in
    let long : length (flat_map name_item now) ≤ 700 * length now =
    all-long now all (sym (short-bare now) ∙ (ap (list_all is_short) same ∙ (short-bare before ∙ short.short))) in
    record {
      fields = (spelled.fields.0, (omega (arith, few), all-fit now all));
      whole = omega (arith, few, long, length-append (uint32 (length now)) (flat_map name_item now));
      handle = tt;
      canonical = refl;
    }
