-- Trees with zeros in the place of the bytes of a file: a request on paths finds the same entries, has the same causes
-- and gets the same replies.
use Rattle.std.proofs.Common.{◌≡◌, ◌∙◌, ◌==◌, ◌&&◌, not, ap, sym, refl, ℕ, ◌+◌, Bool, true, false, List, []}
use Rattle.std.proofs.Common.{length, Option, Some, None, Result, Ok, Err, filter_map}
use Rattle.std.specs.Option.{option_map, unwrap_or}
use Rattle.std.specs.Prelude.{nat_le, replicate}
use Rattle.std.proofs.lemmas.List.{length-replicate}
use Rattle.sftp_packets.specs.declared.attributes.Attrs.{Attrs}
use Rattle.sftp_packets.specs.declared.requests.Ask.{Ask}
use Rattle.sftp_packets.specs.declared.requests.Ask.TheVariants as asks
use Rattle.sftp_path.specs.Place.{Name, Place}
use Rattle.sftp_tree.specs.declared.file_contents.Content.{Content}
use Rattle.sftp_tree.specs.declared.nodes.Node.{Node}
use Rattle.sftp_tree.specs.declared.nodes.Node.TheVariants.{Dir, File, Link}
use Rattle.sftp_tree.specs.declared.causes.Cause.{Cause}
use Rattle.sftp_tree.specs.declared.causes.Cause.TheVariants.{NoRoom}
use Rattle.sftp_tree.specs.Tree.{Tree, Files, node_at, with_node, without_node, content_at, with_content, fits}
use Rattle.sftp_tree.specs.Tree.{entries_fit, depths_fit, home_fits, links_fit, numbers_fit}
use Rattle.sftp_path.specs.Table.{rekeyed}
use Rattle.sftp_tree.specs.Walk.{reached}
use Rattle.sftp_tree.specs.Attributes.{changed_content, resized, shown, shown_content, said, listing}
use Rattle.sftp_tree.specs.Attributes.{children}
use Rattle.sftp_tree.specs.Changes.{Plan, no_change, put_node, remove_node, move_node, own_directory, set_file}
use Rattle.sftp_tree.specs.Changes.{make_file, empty_file, carried, with_changed_file, with_emptied_file, plan_to_open}
use Rattle.sftp_tree.specs.PlaceCauses.{when, is_none}
use Rattle.sftp_tree.specs.Requests.{done, attributes, file, listed, led, new_led, led_to, plan_at, plan_between}
use Rattle.sftp_tree.specs.Requests.{plan_on, plan_led, outcome, causes_at, new_causes_at, causes_between, plain_of}
use Rattle.sftp_tree.specs.PlaceCauses.{joined}
use Rattle.sftp_tree.specs.Requests.{own_causes, led_causes, both_causes}
use Rattle.sftp_tree.specs.Requests.{plain_causes, causes, told_at, shown_at, number_at, path_of, new_path_of, follows}
use Rattle.sftp_tree.proofs.CauseLaws.{length-resized}
use Rattle.sftp_laws.specs.Alike.{hollowed, hollow_files, hollow_tree}
use Rattle.sftp_laws.proofs.HollowFiles.{files-again, content-hollow, put-hollow, total-hollow, fits-hollow}

-- ---- contents

resized-length : (size : Option ℕ) (xs ys : List ℕ) → length xs ≡ length ys
    → length (unwrap_or (option_map (λ n. resized n xs) size) xs)
    ≡ length (unwrap_or (option_map (λ n. resized n ys) size) ys)
resized-length None xs ys same = same
resized-length (Some size) xs ys same = length-resized size xs ∙ sym (length-resized size ys)

pub changed-alike : (b : Bool) (attrs : Attrs) (c : Content)
    → hollowed b (changed_content attrs (hollowed b c)) ≡ hollowed b (changed_content attrs c)
changed-alike true attrs c =
    ap (λ (n : ℕ). record (changed_content attrs c) { bytes = replicate n 0 })
    (resized-length attrs.size (replicate (length c.bytes) 0) c.bytes (length-replicate {A = ℕ} (length c.bytes) 0))
changed-alike false attrs c = refl

emptied-alike : (b : Bool) (c : Content)
    → hollowed b (record (hollowed b c) { bytes = [] }) ≡ hollowed b (record c { bytes = [] })
emptied-alike true c = refl
emptied-alike false c = refl

pub shown-hollowed : (b : Bool) (c : Content) → shown_content (hollowed b c) ≡ shown_content c
shown-hollowed true c =
    ap (λ (n : ℕ). said n c.owner.uid c.owner.gid (0o100000 + c.owner.permissions))
    (length-replicate {A = ℕ} (length c.bytes) 0)
shown-hollowed false c = refl

module _ (number : ℕ) where
  pub fits-tree : (t : Tree) → fits (hollow_tree number t) ≡ fits t
  unfolding fits
  fits-tree t = λ i.
      entries_fit t
      && (depths_fit t && (home_fits t && (links_fit t && (fits-hollow number t.limits t.files i
      && (nat_le (total-hollow number t.files i) t.limits.total_bytes && numbers_fit t)))))

  trees-again : (t : Tree) → hollow_tree number (hollow_tree number t) ≡ hollow_tree number t
  trees-again t = ap (λ (fs : Files). record t { files = fs }) (files-again number t.files)

  -- ---- a file that gets another content

  pub rewritten : (fs : Files) (k : ℕ) (one other : Content)
      → hollowed (k == number) one ≡ hollowed (k == number) other
      → hollow_files number (with_content (hollow_files number fs) k one)
      ≡ hollow_files number (with_content fs k other)
  rewritten fs k one other same =
      put-hollow number (hollow_files number fs) k one
      ∙ (λ i. with_content (files-again number fs i) k (same i))
      ∙ sym (put-hollow number fs k other)

  set-hollow : (t : Tree) (attrs : Attrs) (k : ℕ) (o : Option Content)
      → hollow_tree number (with_changed_file (hollow_tree number t) attrs k (option_map (hollowed (k == number)) o))
      ≡ hollow_tree number (with_changed_file t attrs k o)
  set-hollow t attrs k None = trees-again t
  set-hollow t attrs k (Some c) =
      ap (λ (fs : Files). record t { files = fs })
      (rewritten t.files k (changed_content attrs (hollowed (k == number) c)) (changed_content attrs c)
      (changed-alike (k == number) attrs c))

  emptied-hollow : (t : Tree) (k : ℕ) (o : Option Content)
      → hollow_tree number (with_emptied_file (hollow_tree number t) k (option_map (hollowed (k == number)) o))
      ≡ hollow_tree number (with_emptied_file t k o)
  emptied-hollow t k None = trees-again t
  emptied-hollow t k (Some c) =
      ap (λ (fs : Files). record t { files = fs })
      (rewritten t.files k (record (hollowed (k == number) c) { bytes = [] }) (record c { bytes = [] })
      (emptied-alike (k == number) c))

  -- ---- plans

  carried-hollow : (t : Tree) (plan : Plan)
      → hollow_tree number (carried (hollow_tree number t) plan) ≡ hollow_tree number (carried t plan)
  carried-hollow t no_change = trees-again t
  carried-hollow t (put_node place it) =
      ap (λ (fs : Files). record t { names = with_node t.names place it; files = fs }) (files-again number t.files)
  carried-hollow t (remove_node place) =
      ap (λ (fs : Files). record t { names = without_node t.names place; files = fs }) (files-again number t.files)
  carried-hollow t (move_node old new) =
      ap (λ (fs : Files). record t { names = rekeyed old new (without_node t.names new); files = fs })
      (files-again number t.files)
  carried-hollow t (own_directory place owner) =
      ap (λ (fs : Files). record t { names = with_node t.names place (Dir owner); files = fs })
      (files-again number t.files)
  carried-hollow t (set_file k attrs) =
      ap (λ o. hollow_tree number (with_changed_file (hollow_tree number t) attrs k o))
      (content-hollow number t.files k)
      ∙ set-hollow t attrs k (content_at t.files k)
  carried-hollow t (make_file place content) =
      ap (λ (fs : Files). record t { names = with_node t.names place (File t.made); files = fs; made = t.made + 1 })
      (rewritten t.files t.made content content refl)
  carried-hollow t (empty_file k) =
      ap (λ o. hollow_tree number (with_emptied_file (hollow_tree number t) k o)) (content-hollow number t.files k)
      ∙ emptied-hollow t k (content_at t.files k)

  opened : (t : Tree) (flags : ℕ) (attrs : Attrs) (place : Place) (o : Option Node)
      → plan_to_open (hollow_tree number t) flags attrs place o ≡ plan_to_open t flags attrs place o
  opened t flags attrs place None = refl
  opened t flags attrs place (Some (Dir owner)) = refl
  opened t flags attrs place (Some (File k)) = refl
  opened t flags attrs place (Some (Link target)) = refl

  plan-here : (t : Tree) (ask : Ask) (place : Place) → plan_at (hollow_tree number t) ask place ≡ plan_at t ask place
  plan-here t (asks.Open path flags attrs) place = opened t flags attrs place (node_at t.names place)
  plan-here t other place = refl

  plan-both : (t : Tree) (ask : Ask) (old new : Place)
      → plan_between (hollow_tree number t) ask old new ≡ plan_between t ask old new
  plan-both t (asks.Rename path new_path) old new = refl
  plan-both t other old new = refl

  plan-with : (t : Tree) (ask : Ask) (place : Place) (new : Option (Result Place Cause))
      → plan_on (hollow_tree number t) ask place new ≡ plan_on t ask place new
  plan-with t ask place None = plan-here t ask place
  plan-with t ask place (Some (Ok new)) = plan-both t ask place new
  plan-with t ask place (Some (Err cause)) = refl

  plan-by : (t : Tree) (ask : Ask) (end new : Option (Result Place Cause))
      → plan_led (hollow_tree number t) ask end new ≡ plan_led t ask end new
  plan-by t ask None new = refl
  plan-by t ask (Some (Ok place)) new = plan-with t ask place new
  plan-by t ask (Some (Err cause)) new = refl

  -- ---- where paths lead

  reached-by : (t : Tree) (follow : Bool) (path : Option (List ℕ))
      → option_map (reached (hollow_tree number t) follow) path ≡ option_map (reached t follow) path
  unfolding reached
  reached-by t follow None = refl
  reached-by t follow (Some path) = refl

  led-hollow : (t : Tree) (ask : Ask) → led (hollow_tree number t) ask ≡ led t ask
  unfolding led
  led-hollow t ask = reached-by t (follows ask) (path_of ask)

  new-led-hollow : (t : Tree) (ask : Ask) → new_led (hollow_tree number t) ask ≡ new_led t ask
  new-led-hollow t ask = reached-by t false (new_path_of ask)

  -- ---- the tree that is asked for

  pub outcome-hollow : (t : Tree) (ask : Ask)
      → hollow_tree number (outcome (hollow_tree number t) ask) ≡ hollow_tree number (outcome t ask)
  unfolding outcome
  outcome-hollow t ask =
      (λ i. hollow_tree number (carried (hollow_tree number t)
      (plan_led (hollow_tree number t) ask (led-hollow t ask i) (new-led-hollow t ask i))))
      ∙ ap (λ plan. hollow_tree number (carried (hollow_tree number t) plan))
      (plan-by t ask (led t ask) (new_led t ask))
      ∙ carried-hollow t (plan_led t ask (led t ask) (new_led t ask))

  outcome-fits : (t : Tree) (ask : Ask) → fits (outcome (hollow_tree number t) ask) ≡ fits (outcome t ask)
  outcome-fits t ask =
      sym (fits-tree (outcome (hollow_tree number t) ask)) ∙ ap fits (outcome-hollow t ask) ∙ fits-tree (outcome t ask)

  -- ---- the causes

  here : (t : Tree) (ask : Ask) → causes_at (hollow_tree number t) ask ≡ causes_at t ask
  here t (asks.Mkdir path attrs) = refl
  here t other = refl

  there : (t : Tree) (ask : Ask) → new_causes_at (hollow_tree number t) ask ≡ new_causes_at t ask
  there t (asks.Mkdir path attrs) = refl
  there t other = refl

  between : (t : Tree) (ask : Ask) → causes_between (hollow_tree number t) ask ≡ causes_between t ask
  between t (asks.Mkdir path attrs) = refl
  between t other = refl

  plain-hollow : (t : Tree) (ask : Ask) → plain_causes (hollow_tree number t) ask ≡ plain_causes t ask
  unfolding plain_causes
  plain-hollow t ask = (λ i. plain_of (hollow_tree number t) ask (led-hollow t ask i) (new-led-hollow t ask i))
      ∙ plain-by (led t ask) (new_led t ask)
    where
      plain-by : (end new : Option (Result Place Cause))
          → plain_of (hollow_tree number t) ask end new ≡ plain_of t ask end new
      plain-by end new = λ i.
          joined (joined (joined (own_causes ask) (led_causes end (here t ask i))) (led_causes new (there t ask i)))
          (both_causes end new (between t ask i))

  pub causes-tree : (t : Tree) (ask : Ask) → causes (hollow_tree number t) ask ≡ causes t ask
  unfolding causes
  causes-tree t ask = λ i.
      when (plain-hollow t ask i) NoRoom (is_none (plain-hollow t ask i) && not (outcome-fits t ask i))

  -- ---- what the reply tells

  shown-by : (b : Bool) (o : Option Content)
      → option_map shown_content (option_map (hollowed b) o) ≡ option_map shown_content o
  shown-by b None = refl
  shown-by b (Some c) = ap (λ a. Some a) (shown-hollowed b c)

  shown-hollow : (t : Tree) (node : Node) → shown (hollow_tree number t) node ≡ shown t node
  shown-hollow t (Dir owner) = refl
  shown-hollow t (File k) =
      ap (option_map shown_content) (content-hollow number t.files k) ∙ shown-by (k == number) (content_at t.files k)
  shown-hollow t (Link target) = refl

  shown-there : (t : Tree) (o : Option Node) → shown_at (hollow_tree number t) o ≡ shown_at t o
  shown-there t None = refl
  shown-there t (Some node) = shown-hollow t node

  numbered : (t : Tree) (o : Option Node) → number_at (hollow_tree number t) o ≡ number_at t o
  numbered t None = refl
  numbered t (Some (Dir owner)) = refl
  numbered t (Some (File k)) = refl
  numbered t (Some (Link target)) = refl

  listing-hollow : (t : Tree) (place : Place) → listing (hollow_tree number t) place ≡ listing t place
  unfolding listing
  listing-hollow t place = λ i.
      filter_map (λ (e : Name × Node). option_map (λ attrs. (e.0, attrs)) (shown-hollow t e.1 i))
      (children t.names place)

  told-there : (t : Tree) (ask : Ask) (place : Place) → told_at (hollow_tree number t) ask place ≡ told_at t ask place
  told-there t (asks.Stat path) place = ap (λ a. attributes a) (shown-there t (node_at t.names place))
  told-there t (asks.Lstat path) place = ap (λ a. attributes a) (shown-there t (node_at t.names place))
  told-there t (asks.Open path flags attrs) place = ap (λ n. file n) (numbered t (node_at t.names place))
  told-there t (asks.Opendir path) place = ap (λ l. listed l) (listing-hollow t place)
  told-there t other place = refl

  told-by : (t : Tree) (ask : Ask) (end : Option (Result Place Cause))
      → led_to done end (told_at (hollow_tree number t) ask) ≡ led_to done end (told_at t ask)
  told-by t ask None = refl
  told-by t ask (Some (Ok place)) = told-there t ask place
  told-by t ask (Some (Err cause)) = refl

  pub told-hollow : (t : Tree) (ask : Ask)
      → led_to done (led (hollow_tree number t) ask) (told_at (hollow_tree number t) ask)
      ≡ led_to done (led t ask) (told_at t ask)
  told-hollow t ask =
      (λ i. led_to done (led-hollow t ask i) (told_at (hollow_tree number t) ask)) ∙ told-by t ask (led t ask)
