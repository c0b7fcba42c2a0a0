-- A reply is allowed if one is that says the same but for what is free.
use Rattle.std.proofs.Common.{◌≡◌, ◌&&◌, nat_lt, ℕ, List, [], ◌∷◌, length, map, Option, Some, None, refl, sym, ap, ◌∙◌}
use Rattle.std.proofs.Common.{inl, inr, ◌⊎◌}
use Rattle.std.proofs.lemmas.List.{length-map}
use Rattle.std.specs.List.{list_all}
use Rattle.sftp_packets.specs.declared.attributes.Attrs.{Attrs}
use Rattle.sftp_packets.specs.declared.names.NameItem.{NameItem}
use Rattle.sftp_packets.specs.declared.packets.Reply.{Reply}
use Rattle.sftp_packets.specs.declared.packets.Request.{Request}
use Rattle.sftp_packets.specs.declared.replies.Answer.{Answer}
use Rattle.sftp_packets.specs.declared.replies.Answer.TheVariants as replies
use Rattle.sftp_packets.specs.declared.requests.Ask.{Ask}
use Rattle.sftp_packets.specs.Requests.{asked_handle}
use Rattle.sftp_path.specs.Place.{name_cmp}
use Rattle.sftp_path.specs.Table.{get}
use Rattle.sftp_tree.specs.PlaceCauses.{CauseSet}
use Rattle.sftp_tree.specs.Requests as paths
use Rattle.sftp_listing.specs.Left.{Left, has_attributes, is_left, names_in, are_distinct, are_some_left, struck}
use Rattle.sftp_handles.specs.declared.opens.Open.{Open}
use Rattle.sftp_handles.specs.Allowed.{Allowed, Refuses, Does}
use Rattle.sftp_handles.specs.State.{Handles}
use Rattle.sftp_handles.specs.Replies.{Said, ok, shows, names, gives, ended, lists, opens, extends, says, refuses}
use Rattle.sftp_handles.specs.RequestRows.{Row, row_of, change_of, leaves}
use Rattle.sftp_handles.specs.Allowed.{causes, answers, after, after_by, said_to, seen_by, changed, with_new, opened_by}
use Rattle.sftp_handles.specs.Allowed.{flags_of, told_to}
use Rattle.sftp_handles.specs.State.{Seen, absent, other_kind, something, file, listing}
use Rattle.sftp_handles.specs.State.{State, settled}
use Rattle.sftp_bare.specs.Bare.{bare, bare_attrs, bare_item}

-- ---- items

has-bare : (left : Option Attrs) (attrs : Attrs) → has_attributes left (bare_attrs attrs) ≡ has_attributes left attrs
has-bare None attrs = refl
has-bare (Some left) attrs = refl

left-bare : (left : Left) (item : NameItem) → is_left left (bare_item item) ≡ is_left left item
left-bare left item = has-bare (get name_cmp left item.filename) item.attrs

all-bare : (left : Left) (items : List NameItem)
    → list_all (is_left left) (map bare_item items) ≡ list_all (is_left left) items
all-bare left [] = refl
all-bare left (item ∷ items) =
    ap (λ b. b && list_all (is_left left) (map bare_item items)) (left-bare left item)
    ∙ ap (λ b. is_left left item && b) (all-bare left items)

names-bare : (items : List NameItem) → names_in (map bare_item items) ≡ names_in items
names-bare [] = refl
names-bare (item ∷ items) = ap (λ rest. item.filename ∷ rest) (names-bare items)

some-bare : (left : Left) (items : List NameItem)
    → are_some_left left (map bare_item items) ≡ are_some_left left items
some-bare left items =
    ap (λ n. nat_lt 0 n && (list_all (is_left left) (map bare_item items)
    && are_distinct (names_in (map bare_item items)))) (length-map items bare_item)
    ∙ (ap (λ b. nat_lt 0 (length items) && (b && are_distinct (names_in (map bare_item items)))) (all-bare left items)
    ∙ ap (λ rest. nat_lt 0 (length items) && (list_all (is_left left) items && are_distinct rest)) (names-bare items))

-- ---- what a reply says

refuses-bare : (set : CauseSet) (answer : Answer) → refuses set (bare answer) ≡ refuses set answer
refuses-bare set (replies.Status code message language) = refl
refuses-bare set (replies.Handle name) = refl
refuses-bare set (replies.Data bytes) = refl
refuses-bare set (replies.Name items) = refl
refuses-bare set (replies.Attrs attrs) = refl
refuses-bare set (replies.Extended bytes) = refl

named-bare : (text : Option (List ℕ)) (items : List NameItem)
    → says (names text) (replies.Name (map bare_item items)) ≡ says (names text) (replies.Name items)
named-bare None items = refl
named-bare (Some text) [] = refl
named-bare (Some text) (item ∷ []) = refl
named-bare (Some text) (item ∷ next ∷ items) = refl

shown-bare : (shown : Option Attrs) (attrs : Attrs)
    → says (shows shown) (replies.Attrs (bare_attrs attrs)) ≡ says (shows shown) (replies.Attrs attrs)
shown-bare None attrs = refl
shown-bare (Some shown) attrs = refl

attrs-bare : (said : Said) (attrs : Attrs)
    → says said (replies.Attrs (bare_attrs attrs)) ≡ says said (replies.Attrs attrs)
attrs-bare ok attrs = refl
attrs-bare (shows shown) attrs = shown-bare shown attrs
attrs-bare (names None) attrs = refl
attrs-bare (names (Some text)) attrs = refl
attrs-bare (gives bytes) attrs = refl
attrs-bare ended attrs = refl
attrs-bare (lists left) attrs = refl
attrs-bare (opens handles) attrs = refl
attrs-bare (extends bytes) attrs = refl

items-bare : (said : Said) (items : List NameItem)
    → says said (replies.Name (map bare_item items)) ≡ says said (replies.Name items)
items-bare ok items = refl
items-bare (shows None) items = refl
items-bare (shows (Some shown)) items = refl
items-bare (names text) items = named-bare text items
items-bare (gives bytes) items = refl
items-bare ended items = refl
items-bare (lists left) items = some-bare left items
items-bare (opens handles) items = refl
items-bare (extends bytes) items = refl

status-bare : (said : Said) (code : ℕ) (message language : List ℕ)
    → says said (replies.Status code [] []) ≡ says said (replies.Status code message language)
status-bare ok code message language = refl
status-bare (shows None) code message language = refl
status-bare (shows (Some shown)) code message language = refl
status-bare (names None) code message language = refl
status-bare (names (Some text)) code message language = refl
status-bare (gives bytes) code message language = refl
status-bare ended code message language = refl
status-bare (lists left) code message language = refl
status-bare (opens handles) code message language = refl
status-bare (extends bytes) code message language = refl

says-bare : (said : Said) (answer : Answer) → says said (bare answer) ≡ says said answer
says-bare said (replies.Status code message language) = status-bare said code message language
says-bare said (replies.Handle name) = refl
says-bare said (replies.Data bytes) = refl
says-bare said (replies.Name items) = items-bare said items
says-bare said (replies.Attrs attrs) = attrs-bare said attrs
says-bare said (replies.Extended bytes) = refl

-- ---- the state after it

given-bare : (left : Left) (row : Row) (answer : Answer)
    → change_of row (listing left) (bare answer) ≡ change_of row (listing left) answer
given-bare left row (replies.Status code message language) = refl
given-bare left row (replies.Handle name) = refl
given-bare left row (replies.Data bytes) = refl
given-bare left row (replies.Name items) = ap (λ given. leaves (struck left given)) (names-bare items)
given-bare left row (replies.Attrs attrs) = refl
given-bare left row (replies.Extended bytes) = refl

change-bare : (row : Row) (sees : Seen) (answer : Answer)
    → change_of row sees (bare answer) ≡ change_of row sees answer
change-bare row absent answer = refl
change-bare row other_kind answer = refl
change-bare row something answer = refl
change-bare row (file number flags before) answer = refl
change-bare row (listing left) answer = given-bare left row answer

new-bare : (handles : Handles) (it : Option Open) (answer : Answer)
    → with_new handles it (bare answer) ≡ with_new handles it answer
new-bare handles None answer = refl
new-bare handles (Some it) (replies.Status code message language) = refl
new-bare handles (Some it) (replies.Handle name) = refl
new-bare handles (Some it) (replies.Data bytes) = refl
new-bare handles (Some it) (replies.Name items) = refl
new-bare handles (Some it) (replies.Attrs attrs) = refl
new-bare handles (Some it) (replies.Extended bytes) = refl

after-by-bare : (s : State) (ask : Ask) (answer : Answer) (handle : Option (List ℕ))
    → after_by s ask (bare answer) handle ≡ after_by s ask answer handle
after-by-bare s ask answer None =
    ap (λ (handles : Handles). settled (paths.outcome s.tree ask) handles)
    (new-bare s.handles (opened_by (flags_of ask) (told_to s.tree ask)) answer)
after-by-bare s ask answer (Some handle) =
    ap (λ change. changed s handle change) (change-bare (row_of ask) (seen_by s ask handle) answer)

after-bare : (s : State) (ask : Ask) (answer : Answer) → after s ask (bare answer) ≡ after s ask answer
unfolding after
after-bare s ask answer = after-by-bare s ask answer (asked_handle ask)

answers-bare : (s : State) (ask : Ask) (answer : Answer) → answers s ask (bare answer) ≡ answers s ask answer
unfolding answers
answers-bare s ask answer = says-bare (said_to s ask (asked_handle ask)) answer

-- ---- which replies are allowed

pub still-allowed : (s : State) (request : Request) (reply other : Reply) (end : State)
    → Allowed s request reply end → other.id ≡ reply.id → bare other.answer ≡ bare reply.answer
    → Allowed s request other end
still-allowed s request reply other end allowed same_id same =
    record { same_id = same_id ∙ allowed.same_id; step = by allowed.step }
  where
    carried : {A : Type 0} (f : Answer → A) → ((answer : Answer) → f (bare answer) ≡ f answer)
        → f other.answer ≡ f reply.answer
    carried f is = sym (is other.answer) ∙ (ap f same ∙ is reply.answer)

    by : Refuses s request.ask reply.answer end ⊎ Does s request.ask reply.answer end
        → Refuses s request.ask other.answer end ⊎ Does s request.ask other.answer end
    by (inl refused) = inl (record {
      cause = carried (refuses (causes s request.ask)) (refuses-bare (causes s request.ask)) ∙ refused.cause;
      unchanged = refused.unchanged;
    })
    by (inr done) = inr (record {
      free = done.free;
      answered = carried (answers s request.ask) (answers-bare s request.ask) ∙ done.answered;
      changed = done.changed ∙ sym (carried (after s request.ask) (after-bare s request.ask));
    })
