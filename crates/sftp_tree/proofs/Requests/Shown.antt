-- Requests for attributes, where the place that their path leads to is known.
use Rattle.sftp_tree.proofs.Imports.{◌≡◌, ◌&&◌, not, Bool, true, false, List, ℕ, refl, ap, ◌∙◌, Option, Some, None}
use Rattle.sftp_tree.proofs.Imports.{Result, Ok, Err, IsTrue, Place, Node, Cause, NoEntry, NoRoom, Tree, fits, node_at}
use Rattle.sftp_tree.proofs.Imports.{CauseSet, is_none, when, no_causes, reached, IsFree, stat_ask}
use Rattle.sftp_tree.specs.PlaceCauses.{joined, needing_causes}
use Rattle.sftp_tree.specs.Requests.{led, causes, plain_of, with_room}
use Rattle.sftp_tree.specs.Plans.{Finds}
use Rattle.sftp_packets.specs.declared.requests.Ask.TheVariants as asks
use Rattle.sftp_tree.proofs.CauseLaws.{causes-are, plain-holds}

pub led-stat : (t : Tree) (follow : Bool) (path : List ℕ) (end : Result Place Cause) → reached t follow path ≡ end
    → led t (stat_ask follow path) ≡ Some end
unfolding led
led-stat t true path end leads = ap Some leads
led-stat t false path end leads = ap Some leads

-- the causes other than `NoRoom`, by the node there
abbrev shows : Option Node → CauseSet
shows node = joined (joined (joined no_causes (needing_causes node)) no_causes) no_causes

shows-none : (t : Tree) (node : Node) → fits t ≡ true → is_none (with_room (shows (Some node)) t) ≡ true
unfolding joined when no_causes
shows-none t node fit =
    ap (λ b. is_none (when (shows (Some node)) NoRoom (is_none (shows (Some node)) && not b))) fit

pub stat-free : (t : Tree) (follow : Bool) (path : List ℕ) (place : Place) (node : Node) → fits t ≡ true
    → reached t follow path ≡ Ok place → node_at t.names place ≡ Some node → IsFree t (stat_ask follow path)
stat-free t true path place node fit leads there =
    ap is_none (causes-are t (asks.Stat path) (Some (Ok place)) None (led-stat t true path (Ok place) leads) refl)
    ∙ ap (λ o. is_none (with_room (shows o) t)) there ∙ shows-none t node fit
stat-free t false path place node fit leads there =
    ap is_none (causes-are t (asks.Lstat path) (Some (Ok place)) None (led-stat t false path (Ok place) leads) refl)
    ∙ ap (λ o. is_none (with_room (shows o) t)) there ∙ shows-none t node fit

-- the same where the walk finds nothing
absent : (t : Tree) (path : List ℕ) (end : Result Place Cause) → Finds t.names None end
    → plain_of t (asks.Stat path) (Some end) None NoEntry ≡ true
unfolding joined when no_causes
absent t path (Ok place) free = ap (λ o. shows o NoEntry) free
absent t path (Err cause) (none, is) =
    ap (λ c. joined (joined (joined no_causes (when no_causes c true)) no_causes) no_causes NoEntry) is

pub stat-absent : (t : Tree) (follow : Bool) (path : List ℕ) → Finds t.names None (reached t follow path)
    → IsTrue (causes t (stat_ask follow path) NoEntry)
stat-absent t true path finds =
    let end = reached t true path in
    let leads = led-stat t true path end refl in
    plain-holds t (asks.Stat path) (Some end) None NoEntry leads refl (absent t path end finds)
stat-absent t false path finds =
    let end = reached t false path in
    let leads = led-stat t false path end refl in
    plain-holds t (asks.Lstat path) (Some end) None NoEntry leads refl (absent t path end finds)
