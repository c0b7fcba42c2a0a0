-- What the replies to requests on paths say fits a reply.
use Rattle.sftp_handles.proofs.Imports.{◌≡◌, nat_lt, ℕ, zero, suc, ◌≤◌, Bool, true, false, if◌then◌else◌, min, List}
use Rattle.sftp_handles.proofs.Imports.{[], ◌∷◌, length, take, drop, Option, Some, None, refl, IsTrue, arith, nat_cmp}
use Rattle.sftp_handles.proofs.Imports.{nat_cmp-IsAntisymmetric, length-take, OpenFlags, Ask, AreBytes, bytes_cmp}
use Rattle.sftp_handles.proofs.Imports.{bytes_cmp-same, are_bytes, Content, IsContent, content_at, limits, bytes_at}
use Rattle.sftp_handles.proofs.Imports.{each-get, bytes-dropped, Open, File, Listing, Left, open_at, State, Good}
use Rattle.sftp_handles.proofs.Imports.{IsHandle, IsLeft, Needed, anything, a_file, a_listing, seen, seen_among}
use Rattle.sftp_handles.proofs.Imports.{seen_file, FitsData, FitsSaid, row_of, said_of, seen_by, ◌+◌, Result, Ok, Err}
use Rattle.sftp_handles.proofs.Imports.{is_some, sym, subst, leb-true, same_Some, Attrs, Place, place_cmp, size}
use Rattle.sftp_handles.proofs.Imports.{place_cmp-same, Cause, NoEntry, NotLink, Node, Tree, IsKept, IsNode, node_at}
use Rattle.sftp_handles.proofs.Imports.{link_fits, reached, said, shown, shown_content, no_causes, when}
use Rattle.sftp_handles.proofs.Imports.{needing_causes, link_causes, done, led, led_to, told_at, shown_at, IsFree}
use Rattle.sftp_handles.proofs.Imports.{each-all, fits-parts, free-at, PathsLeadWell, has_handle_left, said_by}
use Rattle.sftp_handles.proofs.Imports.{told_to, IfSome, request_packet, Request, FitsAsk, HasSpelling, path_of}
use Rattle.sftp_handles.proofs.Imports.{bytes-fit, IsAskable, ◌&&◌, ◌||◌, ◌^◌, ◌<◌, not, ap, inl, inr, lit<, list_any}
use Rattle.sftp_handles.proofs.Imports.{asked_handle, NotDir, Loop, Unknown, CauseSet, every_cause, allows, is_none}
use Rattle.sftp_handles.proofs.Imports.{causes, answers, after, said_to, causes_by, path_causes, path_said}
use Rattle.sftp_handles.proofs.Imports.{IsAnswerable, status_of}
use Rattle.sftp_packets.specs.declared.requests.Ask.TheVariants as asks
use Rattle.sftp_treefile.specs.TreeFile.{most_limits}
use Rattle.sftp_handles.specs.Replies.{gives, ended, shows, names, opens}
use Rattle.sftp_handles.specs.RequestRows.{listed}
use Rattle.sftp_listing.proofs.FirstNames.{content-shown, node-shown, short-target}
use Rattle.sftp_handles.proofs.TotalSteps.{bytes-by, text-fits}
use Rattle.std.specs.Option.{option_map}
use Rattle.sftp_tree.specs.declared.nodes.Node.TheVariants as nodes
use Rattle.sftp_tree.specs.Requests.{target_of}
use Rattle.sftp_tree.specs.Requests as paths
use Rattle.sftp_handles.proofs.Good.{room-of}
use Rattle.sftp_handles.proofs.Answered.LimitsAnswers.{limits-fit}
use Rattle.sftp_handles.proofs.TotalSteps.SaidReplies.{reply_of, status-spelled, fits-sayable}

-- ==== What the replies to requests through handles say fits a reply.

-- ---- the bytes that a READ gives

pub bytes-taken : (n : ℕ) (bytes : List ℕ) → AreBytes bytes → AreBytes (take n bytes)
bytes-taken zero [] are = tt
bytes-taken zero (b ∷ bytes) are = tt
bytes-taken (suc n) [] are = tt
bytes-taken (suc n) (b ∷ bytes) are = (are.0, bytes-taken n bytes are.1)

pub few-taken : (len limit : ℕ) (bytes : List ℕ) → length (take (min len limit) bytes) ≤ limit
few-taken len limit bytes = omega (arith, length-take (min len limit) bytes)

module _ (s : State) (good : Good s) where
  read-limit : (limits s.tree).read_bytes ≤ most_limits.read_bytes
  read-limit = good.tree.well_formed.limits.read_bytes.1

  data-fits : (offset len : ℕ) (bytes : List ℕ) → IsTrue (are_bytes bytes)
      → FitsData (bytes_at (limits s.tree) offset len bytes)
  data-fits offset len bytes are =
      let few = few-taken len (limits s.tree).read_bytes (drop offset bytes) in
      record {
        string =
            record {
              bytes_fit =
                  bytes-taken (min len (limits s.tree).read_bytes) (drop offset bytes)
                  (bytes-by (drop offset bytes) (bytes-dropped offset bytes are));
              length_fits = omega (arith, few, read-limit);
            };
        short = omega (arith, few, read-limit);
      }

  read-fits : (offset len : ℕ) (bytes : List ℕ) → IsTrue (are_bytes bytes) → (b : Bool)
      → FitsSaid (if b then gives (bytes_at (limits s.tree) offset len bytes) else ended)
  read-fits offset len bytes are true = data-fits offset len bytes are
  read-fits offset len bytes are false = tt

  -- what is said of a file
  told-fits : (ask : Ask) (number : ℕ) (content : Content) → content_at s.tree.files number ≡ Some content
      → FitsSaid ((row_of ask).said_of_file (limits s.tree) content)
  told-fits (asks.Read handle offset len) number content there =
      let is = each-get nat_cmp nat_cmp-IsAntisymmetric (λ e. IsContent e.1) s.tree.files number content
      good.tree.well_formed.contents there in
      read-fits offset len content.bytes is.1 (nat_lt offset (length content.bytes))
  told-fits (asks.Fstat handle) number content there = content-shown s.tree number content good.tree there
  told-fits other number content there = tt

  left-fits : (left : Left) → IsLeft left → FitsSaid (listed left)
  left-fits [] is = tt
  left-fits (e ∷ es) is = is

  module _ (ask : Ask) (handle : List ℕ) where
    of-number : (number : ℕ) (flags : OpenFlags) (found : Option Content) → content_at s.tree.files number ≡ found
        → FitsSaid (said_of (limits s.tree) (row_of ask) (seen_file number flags found))
    of-number number flags None there = tt
    of-number number flags (Some content) there = told-fits ask number content there

    of-open : (needed : Needed) (found : Option Open) → open_at s.handles handle ≡ found
        → FitsSaid (said_of (limits s.tree) (row_of ask) (seen_among s.tree.files needed found))
    of-open needed None there = tt
    of-open anything (Some it) there = tt
    of-open a_file (Some (File number flags)) there = of-number number flags (content_at s.tree.files number) refl
    of-open a_file (Some (Listing left)) there = tt
    of-open a_listing (Some (File number flags)) there = tt
    of-open a_listing (Some (Listing left)) there =
        let it = each-get bytes_cmp bytes_cmp-same IsHandle s.handles handle (Listing left) good.handles there in
        left-fits left it.1

    pub seen-fits : FitsSaid (said_of (limits s.tree) (row_of ask) (seen_by s ask handle))
    unfolding seen
    seen-fits = of-open (row_of ask).needed (open_at s.handles handle) refl

-- ---- what is at a place

there : (found : Option Node) → needing_causes found NoEntry ≡ false → (standing : Node) × (found ≡ Some standing)
unfolding when no_causes
there None none = absurd cc
there (Some standing) none = (standing, refl)

link-there : (found : Option Node) → link_causes found NoEntry ≡ false → link_causes found NotLink ≡ false
    → (linktarget : List ℕ) × (found ≡ Some (nodes.Link linktarget))
unfolding when no_causes
link-there None none kind = absurd cc
link-there (Some (nodes.Dir owner)) none kind = absurd cc
link-there (Some (nodes.File number)) none kind = absurd cc
link-there (Some (nodes.Link linktarget)) none kind = (linktarget, refl)

shown-of : (found : Option Content) → is_some found ≡ true
    → (attrs : Attrs) × (option_map shown_content found ≡ Some attrs)
shown-of None is = absurd cc
shown-of (Some content) is = (shown_content content, refl)

-- each node is shown
node-shows : (t : Tree) (standing : Node) → IsNode t.files standing → (attrs : Attrs) × (shown t standing ≡ Some attrs)
node-shows t (nodes.Dir owner) is = (said 0 owner.uid owner.gid (0o040000 + owner.permissions), refl)
node-shows t (nodes.File number) is = shown-of (content_at t.files number) is
node-shows t (nodes.Link linktarget) is = (said (length linktarget) t.uid t.gid 0o120777, refl)

-- the node at a place fits its fields and the limits
pub node-kept : (t : Tree) → IsKept t → (place : Place) (standing : Node) → node_at t.names place ≡ Some standing
    → IsNode t.files standing × (link_fits standing ≡ true)
node-kept t kept place standing is =
    let test = λ (e : Place × Node). link_fits e.1 in (
      each-get place_cmp place_cmp-same (λ e. IsNode t.files e.1) t.names place standing kept.well_formed.nodes is,
      each-get place_cmp place_cmp-same (λ e. IsTrue (test e)) t.names place standing
          (each-all test t.names (fits-parts t kept.within_limits).links) is,
    )

module _ (s : State) (good : Good s) where
  -- ---- by where the path leads

  -- what is said of a place fits
  abbrev pub FitsAt : Ask → Place → Type 0
  FitsAt ask place = FitsSaid (said_by s.handles (told_at s.tree ask place))

  told-by : (ask : Ask) → ((place : Place) → led s.tree ask ≡ Some (Ok place) → FitsAt ask place)
      → (end : Option (Result Place Cause)) → led s.tree ask ≡ end
      → FitsSaid (said_by s.handles (led_to done end (told_at s.tree ask)))
  told-by ask at None leads = tt
  told-by ask at (Some (Ok place)) leads = at place leads
  told-by ask at (Some (Err cause)) leads = tt

  pub path-fits : (ask : Ask) → ((place : Place) → led s.tree ask ≡ Some (Ok place) → FitsAt ask place)
      → FitsSaid (said_by s.handles (told_to s.tree ask))
  unfolding told_to
  path-fits ask at = told-by ask at (led s.tree ask) refl

  -- ---- attributes

  node-fits : (standing : Node) → IsNode s.tree.files standing → link_fits standing ≡ true
      → FitsSaid (shows (shown s.tree standing))
  node-fits standing node link =
      let given = node-shows s.tree standing node in
      subst (λ o. FitsSaid (shows o)) (sym given.1) (node-shown s.tree standing given.0 good.tree node link given.1)

  shown-fits : (place : Place) → needing_causes (node_at s.tree.names place) NoEntry ≡ false
      → FitsSaid (shows (shown_at s.tree (node_at s.tree.names place)))
  shown-fits place none =
      let found = there (node_at s.tree.names place) none in
      let kept = node-kept s.tree good.tree place found.0 found.1 in
      subst (λ o. FitsSaid (shows (shown_at s.tree o))) (sym found.1) (node-fits found.0 kept.0 kept.1)

  -- a request for attributes
  pub stat-fits : (path : List ℕ) (place : Place) → IsFree s.tree (asks.Stat path)
      → led s.tree (asks.Stat path) ≡ Some (Ok place) → FitsAt (asks.Stat path) place
  stat-fits path place free leads =
      shown-fits place ((free-at s.tree (asks.Stat path) place free leads refl).none NoEntry)

  pub lstat-fits : (path : List ℕ) (place : Place) → IsFree s.tree (asks.Lstat path)
      → led s.tree (asks.Lstat path) ≡ Some (Ok place) → FitsAt (asks.Lstat path) place
  lstat-fits path place free leads =
      shown-fits place ((free-at s.tree (asks.Lstat path) place free leads refl).none NoEntry)

  -- ---- names

  names-target : (linktarget : List ℕ) → IsNode s.tree.files (nodes.Link linktarget) → link_fits (nodes.Link linktarget) ≡ true
      → FitsSaid (names (Some linktarget))
  names-target linktarget bytes link =
      let short = short-target linktarget link in
      record {
        string = record { bytes_fit = bytes-by linktarget bytes; length_fits = omega (arith, short) };
        short = omega (arith, short);
      }

  pub target-fits : (path : List ℕ) (place : Place) → IsFree s.tree (asks.Readlink path)
      → led s.tree (asks.Readlink path) ≡ Some (Ok place) → FitsAt (asks.Readlink path) place
  target-fits path place free leads =
      let none = (free-at s.tree (asks.Readlink path) place free leads refl).none in
      let found = link-there (node_at s.tree.names place) (none NoEntry) (none NotLink) in
      let kept = node-kept s.tree good.tree place (nodes.Link found.0) found.1 in
      subst (λ o. FitsSaid (names (target_of o))) (sym found.1) (names-target found.0 kept.0 kept.1)

  leads-to : (path : List ℕ) (place : Place) → led s.tree (asks.Realpath path) ≡ Some (Ok place)
      → reached s.tree true path ≡ Ok place
  unfolding led
  leads-to path place leads = same_Some (reached s.tree true path) (Ok place) leads

  pub place-fits : PathsLeadWell → (path : List ℕ) (place : Place) → IsTrue (are_bytes path)
      → led s.tree (asks.Realpath path) ≡ Some (Ok place) → FitsAt (asks.Realpath path) place
  place-fits paths-lead path place bytes leads =
      let well = paths-lead s.tree good.tree true path place bytes (leads-to path place leads) in
      let fits = text-fits s.tree place good.tree well.named well.above in
      record { string = fits.0; short = fits.1 }

  -- ---- handles

  pub handles-fit : has_handle_left s ≡ true → FitsSaid (opens s.handles)
  handles-fit room =
      let less = leb-true (size s.handles + 1) (limits s.tree).open_handles room in
      record {
        ordered = good.ordered;
        few = omega (arith, less, good.tree.well_formed.limits.open_handles.1);
      }

-- ==== Requests that can be encoded have an id of 32 bits and paths of bytes.

path-bytes : (ask : Ask) → FitsAsk ask → IfSome (path_of ask) (λ path. IsTrue (are_bytes path))
path-bytes (asks.Close handle) fits = tt
path-bytes other fits = first_of (search, search bytes-fit)

pub spelled-askable : (request : Request) → HasSpelling (request_packet request) → IsAskable request
spelled-askable request spelled =
    record { id = spelled.fields.0; path = path-bytes request.ask spelled.fields.1 }

-- ==== Some reply to each request is allowed, and can be encoded.

-- ---- where a cause holds

-- a code of each cause
abbrev first_code : Cause → ℕ
first_code NoEntry = 2
first_code NotDir = 2
first_code Loop = 2
first_code Unknown = 8
first_code other = 4

first-allowed : (cause : Cause) → allows cause (first_code cause) ≡ true
first-allowed NoEntry = refl
first-allowed NotDir = refl
first-allowed Loop = refl
first-allowed Unknown = refl
first-allowed other = refl

first-small : (cause : Cause) → first_code cause < 2 ^ 32
first-small NoEntry = lit< tt
first-small NotDir = lit< tt
first-small Loop = lit< tt
first-small Unknown = lit< tt
first-small other = lit< tt

-- one of the causes of a list that are in a set allows the code
abbrev allowed_by : CauseSet → List Cause → ℕ → Bool
allowed_by set causes code = list_any (λ cause. set cause && allows cause code) causes

some-code : (set : CauseSet) (xs : List Cause) → list_any set xs ≡ true
    → (code : ℕ) × (code < 2 ^ 32) × (allowed_by set xs code ≡ true)
some-code set [] is = absurd cc
some-code set (x ∷ xs) is = by (some-code set xs) (set x) refl
  where
    by : (list_any set xs ≡ true → (code : ℕ) × (code < 2 ^ 32) × (allowed_by set xs code ≡ true))
        → (b : Bool) → set x ≡ b → (code : ℕ) × (code < 2 ^ 32) × (allowed_by set (x ∷ xs) code ≡ true)
    by rest true hit = (first_code x, first-small x, rw (hit, first-allowed x) refl)
    by rest false miss =
        let later = rest (let e : (false || list_any set xs) ≡ true = rw miss at is in e) in
        (later.0, later.1, rw miss later.2)

abbrev request_of : ℕ → Ask → Request
request_of id ask = record { id = id; ask = ask }

refused : (s : State) (id : ℕ) (ask : Ask) → id < 2 ^ 32 → list_any (causes s ask) every_cause ≡ true
    → IsAnswerable s (request_of id ask)
refused s id ask small one =
    let found = some-code (causes s ask) every_cause one in
    record {
      reply = reply_of id (status_of found.0);
      end = s;
      allowed =
          record { same_id = refl; step = inl (record { cause = found.2; unchanged = refl }) };
      spelled = status-spelled found.0 found.1 id small;
    }

-- ---- where none holds

answered : (s : State) (id : ℕ) (ask : Ask) → id < 2 ^ 32 → is_none (causes s ask) ≡ true
    → FitsSaid (said_to s ask (asked_handle ask)) → IsAnswerable s (request_of id ask)
unfolding answers
answered s id ask small free fits =
    let said = fits-sayable (said_to s ask (asked_handle ask)) fits in
    record {
      reply = reply_of id said.0;
      end = after s ask said.0;
      allowed =
          record {
            same_id = refl;
            step = inr (record { free = free; answered = said.1.says; changed = refl });
          };
      spelled = said.1.spelled id small;
    }

-- what the reply to a request says fits one
module _ (paths-lead : PathsLeadWell) (s : State) (good : Good s) where
  path-said-fits : (ask : Ask) → IfSome (path_of ask) (λ path. IsTrue (are_bytes path))
      → is_none (path_causes s ask) ≡ true → FitsSaid (path_said s ask)
  path-said-fits (asks.Open path pflags attrs) bytes free =
      let left = (room-of (paths.causes s.tree (asks.Open path pflags attrs)) (has_handle_left s) free).1 in
      path-fits s good (asks.Open path pflags attrs) (λ place leads. handles-fit s good left)
  path-said-fits (asks.Opendir path) bytes free =
      let left = (room-of (paths.causes s.tree (asks.Opendir path)) (has_handle_left s) free).1 in
      path-fits s good (asks.Opendir path) (λ place leads. handles-fit s good left)
  path-said-fits (asks.Stat path) bytes free =
      path-fits s good (asks.Stat path) (λ place. stat-fits s good path place free)
  path-said-fits (asks.Lstat path) bytes free =
      path-fits s good (asks.Lstat path) (λ place. lstat-fits s good path place free)
  path-said-fits (asks.Readlink path) bytes free =
      path-fits s good (asks.Readlink path) (λ place. target-fits s good path place free)
  path-said-fits (asks.Realpath path) bytes free =
      path-fits s good (asks.Realpath path) (λ place. place-fits s good paths-lead path place bytes)
  path-said-fits asks.Limits bytes free = limits-fit (limits s.tree)
  path-said-fits other bytes free = path-fits s good other (λ place leads. tt)

  said-fits : (ask : Ask) (named : Option (List ℕ)) → IfSome (path_of ask) (λ path. IsTrue (are_bytes path))
      → is_none (causes_by s ask named) ≡ true → FitsSaid (said_to s ask named)
  said-fits ask None bytes free = path-said-fits ask bytes free
  said-fits ask (Some handle) bytes free = seen-fits s good ask handle

  fits-free : (ask : Ask) → IfSome (path_of ask) (λ path. IsTrue (are_bytes path)) → is_none (causes s ask) ≡ true
      → FitsSaid (said_to s ask (asked_handle ask))
  unfolding causes
  fits-free ask = said-fits ask (asked_handle ask)

pub some-allowed : PathsLeadWell → (s : State) (request : Request) → Good s → IsAskable request
    → IsAnswerable s request
some-allowed paths-lead s request good askable = by (list_any (causes s request.ask) every_cause) refl
  where
    by : (b : Bool) → list_any (causes s request.ask) every_cause ≡ b → IsAnswerable s request
    by true one = refused s request.id request.ask askable.id one
    by false none =
        answered s request.id request.ask askable.id (ap not none)
        (fits-free paths-lead s good request.ask askable.path (ap not none))
