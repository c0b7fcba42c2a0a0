-- States with zeros in the place of the bytes of a file: a request that reads none of them has the same causes and the
-- same replies, and leads to states that are the same but for these bytes.
use Rattle.std.proofs.Common.{◌≡◌, ◌∙◌, ◌==◌, ◌&&◌, ◌||◌, not, ap, sym, subst, IsTrue, refl, arith, ℕ}
use Rattle.std.proofs.Common.{◌+◌, ◌-◌, Bool, true}
use Rattle.std.proofs.Common.{false, List, ◌++◌, length, drop, Option, Some, None, inl, inr}
use Rattle.std.specs.Option.{option_map}
use Rattle.std.specs.Prelude.{nat_le, nat_lt, replicate, if◌then◌else◌}
use Rattle.std.proofs.lemmas.List.{length-replicate, length-append, length-drop}
use Rattle.std.proofs.lemmas.Option.{none-some, same_Some}
use Rattle.sftp_packets.specs.declared.requests.Ask.{Ask}
use Rattle.sftp_packets.specs.declared.requests.Ask.TheVariants as asks
use Rattle.sftp_packets.specs.declared.replies.Answer.{Answer}
use Rattle.sftp_packets.specs.declared.packets.Request.{Request}
use Rattle.sftp_packets.specs.declared.packets.Reply.{Reply}
use Rattle.sftp_packets.specs.declared.open_flags.OpenFlags.{OpenFlags}
use Rattle.sftp_packets.specs.Requests.{asked_handle}
use Rattle.sftp_treefile.specs.declared.limits.TreeLimits.{TreeLimits}
use Rattle.sftp_tree.specs.declared.file_contents.Content.{Content}
use Rattle.sftp_tree.specs.Tree.{Tree, Files, content_at, with_content, limits, content_fits, is_named, is_pinned}
use Rattle.sftp_tree.specs.Attributes.{resized}
use Rattle.sftp_tree.specs.Changes.{written, overwritten, written_content, length_of, total_fits_with, bytes_at}
use Rattle.sftp_tree.specs.PlaceCauses.{CauseSet, when, is_none}
use Rattle.sftp_tree.specs.declared.causes.Cause.TheVariants.{NoRoom}
use Rattle.sftp_tree.specs.Requests.{Told, outcome}
use Rattle.sftp_tree.specs.Requests as paths
use Rattle.sftp_tree.proofs.CauseLaws.{length-resized}
use Rattle.sftp_handles.specs.declared.opens.Open.{Open}
use Rattle.sftp_handles.specs.declared.opens.Open.TheVariants.{File, Listing}
use Rattle.sftp_handles.specs.State.{State, Handles, Seen, absent, other_kind, something, file, listing, seen}
use Rattle.sftp_handles.specs.State.{seen_among}
use Rattle.sftp_handles.specs.State.{with_open, without_open}
use Rattle.sftp_handles.specs.Replies.{struck, names_given}
use Rattle.sftp_handles.specs.State.{Needed, anything, a_file, a_listing, seen_file, open_at, settled, pins_of}
use Rattle.sftp_handles.specs.Replies.{shows, ended, gives, says, refuses}
use Rattle.sftp_handles.specs.RequestRows.{row_of, causes_of, said_of, read_from, has_file_room, with_file_room}
use Rattle.sftp_handles.specs.RequestRows.{start_of, goes_to_end, change_of, change_file}
use Rattle.sftp_handles.specs.Allowed.{causes, causes_by, answers, said_to, told_to, after, after_by, changed}
use Rattle.sftp_handles.specs.Allowed.{seen_by, with_new, opened_by, flags_of}
use Rattle.sftp_laws.specs.Alike.{hollowed, hollow_files, hollow_tree, hollow, AreAlike, has_bytes, reads_file}
use Rattle.sftp_laws.specs.Alike.{AllowedApart}
use Rattle.sftp_laws.proofs.HollowFiles.{files-again, hollowed-length, content-hollow, retain-hollow, total-hollow}
use Rattle.sftp_laws.proofs.HollowTrees.{changed-alike, shown-hollowed, rewritten, outcome-hollow, causes-tree}
use Rattle.sftp_laws.proofs.HollowTrees.{told-hollow}

-- ---- what a request through a handle makes of a file

overwritten-length : (offset : ℕ) (new xs ys : List ℕ) → length xs ≡ length ys
    → length (overwritten offset new xs) ≡ length (overwritten offset new ys)
overwritten-length offset new xs ys same = omega (
  arith,
  length-append (resized offset xs ++ new) (drop (offset + length new) xs),
  length-append (resized offset xs) new,
  length-append (resized offset ys ++ new) (drop (offset + length new) ys),
  length-append (resized offset ys) new,
  length-resized offset xs,
  length-resized offset ys,
  length-drop (offset + length new) xs,
  length-drop (offset + length new) ys,
  same,
)

written-by : (none : Bool) (offset : ℕ) (new xs ys : List ℕ) → length xs ≡ length ys
    → length (if none then xs else overwritten offset new xs) ≡ length (if none then ys else overwritten offset new ys)
written-by true offset new xs ys same = same
written-by false offset new xs ys same = overwritten-length offset new xs ys same

written-length : (offset : ℕ) (new xs ys : List ℕ) → length xs ≡ length ys
    → length (written offset new xs) ≡ length (written offset new ys)
written-length offset new xs ys same = written-by (length new == 0) offset new xs ys same

written-alike : (b : Bool) (flags : OpenFlags) (offset : ℕ) (new : List ℕ) (c : Content)
    → hollowed b (written_content (start_of flags offset (hollowed b c)) new (hollowed b c))
    ≡ hollowed b (written_content (start_of flags offset c) new c)
written-alike true flags offset new c =
    let same = length-replicate {A = ℕ} (length c.bytes) 0 in
    ap (λ (n : ℕ). record c { bytes = replicate n 0 })
    (ap (λ (end : ℕ). length (written (if goes_to_end flags then end else offset) new (replicate (length c.bytes) 0)))
    same
    ∙ written-length (start_of flags offset c) new (replicate (length c.bytes) 0) c.bytes same)
written-alike false flags offset new c = refl

-- the content that a request through a handle asks for
pub next-alike : (b : Bool) (ask : Ask) (flags : OpenFlags) (c : Content)
    → option_map (hollowed b) ((row_of ask).content flags (hollowed b c))
    ≡ option_map (hollowed b) ((row_of ask).content flags c)
next-alike b (asks.Write handle offset bytes) flags c = ap (λ x. Some x) (written-alike b flags offset bytes c)
next-alike b (asks.Fsetstat handle attrs) flags c = ap (λ x. Some x) (changed-alike b attrs c)
next-alike b other flags c = refl

module _ (number : ℕ) where
  -- ---- what a request sees of its handle

  abbrev seen_hollow : Seen → Seen
  seen_hollow (file k flags before) = file k flags (hollowed (k == number) before)
  seen_hollow other = other

  file-hollow : (k : ℕ) (flags : OpenFlags) (o : Option Content)
      → seen_file k flags (option_map (hollowed (k == number)) o) ≡ seen_hollow (seen_file k flags o)
  file-hollow k flags None = refl
  file-hollow k flags (Some c) = refl

  among-hollow : (files : Files) (needed : Needed) (o : Option Open)
      → seen_among (hollow_files number files) needed o ≡ seen_hollow (seen_among files needed o)
  among-hollow files anything None = refl
  among-hollow files a_file None = refl
  among-hollow files a_listing None = refl
  among-hollow files anything (Some it) = refl
  among-hollow files a_file (Some (File k flags)) =
      ap (seen_file k flags) (content-hollow number files k) ∙ file-hollow k flags (content_at files k)
  among-hollow files a_file (Some (Listing left)) = refl
  among-hollow files a_listing (Some (File k flags)) = refl
  among-hollow files a_listing (Some (Listing left)) = refl

  pub seen-hollow : (s : State) (needed : Needed) (handle : List ℕ)
      → seen (hollow number s) needed handle ≡ seen_hollow (seen s needed handle)
  unfolding seen
  seen-hollow s needed handle = among-hollow s.tree.files needed (open_at s.handles handle)

  -- ---- the causes

  length-there : (b : Bool) (o : Option Content) → length_of (option_map (hollowed b) o) ≡ length_of o
  length-there b None = refl
  length-there b (Some c) = hollowed-length b c

  total-there : (t : Tree) (k count : ℕ) → total_fits_with (hollow_tree number t) k count ≡ total_fits_with t k count
  total-there t k count = λ i.
      nat_le (total-hollow number t.files i
      - (ap length_of (content-hollow number t.files k) ∙ length-there (k == number) (content_at t.files k)) i + count)
      t.limits.total_bytes

  room-there : (t : Tree) (k : ℕ) (next : Content)
      → has_file_room (hollow_tree number t) k next ≡ has_file_room t k next
  room-there t k next = ap (λ b. content_fits (limits t) next && b) (total-there t k (length next.bytes))

  room-of : (t : Tree) (b : Bool) (k : ℕ) (next : Content)
      → has_file_room t k (hollowed b next) ≡ has_file_room t k next
  room-of t b k next = ap (λ (n : ℕ). nat_le n t.limits.file_bytes && total_fits_with t k n) (hollowed-length b next)

  with-room-of : (t : Tree) (b : Bool) (k : ℕ) (set : CauseSet) (o : Option Content)
      → with_file_room t k set (option_map (hollowed b) o) ≡ with_file_room t k set o
  with-room-of t b k set None = refl
  with-room-of t b k set (Some next) = ap (λ r. when set NoRoom (is_none set && not r)) (room-of t b k next)

  with-room-there : (t : Tree) (k : ℕ) (set : CauseSet) (o : Option Content)
      → with_file_room (hollow_tree number t) k set o ≡ with_file_room t k set o
  with-room-there t k set None = refl
  with-room-there t k set (Some next) = ap (λ r. when set NoRoom (is_none set && not r)) (room-there t k next)

  causes-seen : (t : Tree) (ask : Ask) (sn : Seen)
      → causes_of (hollow_tree number t) (row_of ask) (seen_hollow sn) ≡ causes_of t (row_of ask) sn
  causes-seen t ask absent = refl
  causes-seen t ask other_kind = refl
  causes-seen t ask something = refl
  causes-seen t ask (listing left) = refl
  causes-seen t ask (file k flags before) =
      let b = k == number in
      let set = (row_of ask).refused flags in
      with-room-there t k set ((row_of ask).content flags (hollowed b before))
      ∙ sym (with-room-of t b k set ((row_of ask).content flags (hollowed b before)))
      ∙ ap (with_file_room t k set) (next-alike b ask flags before)
      ∙ with-room-of t b k set ((row_of ask).content flags before)

  row-causes : (s : State) (ask : Ask) (set : CauseSet)
      → (row_of ask).causes (hollow number s) set ≡ (row_of ask).causes s set
  row-causes s (asks.Open path flags attrs) set = refl
  row-causes s other set = refl

  causes-through : (s : State) (ask : Ask) (handle : Option (List ℕ))
      → causes_by (hollow number s) ask handle ≡ causes_by s ask handle
  causes-through s ask None =
      row-causes s ask (paths.causes (hollow_tree number s.tree) ask)
      ∙ ap ((row_of ask).causes s) (causes-tree number s.tree ask)
  causes-through s ask (Some handle) =
      ap (causes_of (hollow_tree number s.tree) (row_of ask)) (seen-hollow s (row_of ask).needed handle)
      ∙ causes-seen s.tree ask (seen_by s ask handle)

  pub causes-hollow : (s : State) (ask : Ask) → causes (hollow number s) ask ≡ causes s ask
  unfolding causes
  causes-hollow s ask = causes-through s ask (asked_handle ask)

  -- ---- what the reply says

  read-by : (bounds : TreeLimits) (offset len : ℕ) (b : Bool) (c : Content)
      → (b && nat_lt offset (length c.bytes)) ≡ false
      → read_from bounds offset len (hollowed b c) ≡ read_from bounds offset len c
  read-by bounds offset len false c apart = refl
  read-by bounds offset len true c apart =
      (λ i. if nat_lt offset (length-replicate {A = ℕ} (length c.bytes) 0 i)
      then gives (bytes_at bounds offset len (replicate (length c.bytes) 0)) else ended)
      ∙ ap (λ r. if r then gives (bytes_at bounds offset len (replicate (length c.bytes) 0)) else ended) apart
      ∙ sym (ap (λ r. if r then gives (bytes_at bounds offset len c.bytes) else ended) apart)

  -- a READ of what is seen finds no bytes of the file
  abbrev reads_seen : Ask → Seen → Bool
  reads_seen (asks.Read handle offset len) sn = has_bytes number offset sn
  reads_seen other sn = false

  said-of-file : (bounds : TreeLimits) (ask : Ask) (k : ℕ) (flags : OpenFlags) (c : Content)
      → reads_seen ask (file k flags c) ≡ false
      → (row_of ask).said_of_file bounds (hollowed (k == number) c) ≡ (row_of ask).said_of_file bounds c
  said-of-file bounds (asks.Read handle offset len) k flags c apart = read-by bounds offset len (k == number) c apart
  said-of-file bounds (asks.Fstat handle) k flags c apart = ap (λ a. shows (Some a)) (shown-hollowed (k == number) c)
  said-of-file bounds other k flags c apart = refl

  said-seen : (bounds : TreeLimits) (ask : Ask) (sn : Seen) → reads_seen ask sn ≡ false
      → said_of bounds (row_of ask) (seen_hollow sn) ≡ said_of bounds (row_of ask) sn
  said-seen bounds ask absent apart = refl
  said-seen bounds ask other_kind apart = refl
  said-seen bounds ask something apart = refl
  said-seen bounds ask (listing left) apart = refl
  said-seen bounds ask (file k flags c) apart = said-of-file bounds ask k flags c apart

  row-said : (s : State) (ask : Ask) (told : Told) → (row_of ask).said (hollow number s) told ≡ (row_of ask).said s told
  row-said s (asks.Open path flags attrs) told = refl
  row-said s other told = refl

  told-same : (s : State) (ask : Ask) → told_to (hollow_tree number s.tree) ask ≡ told_to s.tree ask
  unfolding told_to
  told-same s ask = told-hollow number s.tree ask

  -- whatever handle it names
  abbrev reads_through : State → Ask → Option (List ℕ) → Bool
  reads_through s ask None = false
  reads_through s ask (Some handle) = reads_seen ask (seen_by s ask handle)

  reads-is : (s : State) (ask : Ask) → reads_file number s ask ≡ reads_through s ask (asked_handle ask)
  reads-is s (asks.Read handle offset len) = refl
  reads-is s (asks.Write handle offset bytes) = refl
  reads-is s (asks.Fstat handle) = refl
  reads-is s (asks.Fsetstat handle attrs) = refl
  reads-is s (asks.Close handle) = refl
  reads-is s (asks.Readdir handle) = refl
  reads-is s (asks.Fsync handle) = refl
  reads-is s other = refl

  said-through : (s : State) (ask : Ask) (handle : Option (List ℕ)) → reads_through s ask handle ≡ false
      → said_to (hollow number s) ask handle ≡ said_to s ask handle
  said-through s ask None apart =
      row-said s ask (told_to (hollow_tree number s.tree) ask) ∙ ap ((row_of ask).said s) (told-same s ask)
  said-through s ask (Some handle) apart =
      ap (said_of (limits s.tree) (row_of ask)) (seen-hollow s (row_of ask).needed handle)
      ∙ said-seen (limits s.tree) ask (seen_by s ask handle) apart

  pub answers-hollow : (s : State) (ask : Ask) (answer : Answer) → reads_file number s ask ≡ false
      → answers (hollow number s) ask answer ≡ answers s ask answer
  unfolding answers
  answers-hollow s ask answer apart =
      ap (λ it. says it answer) (said-through s ask (asked_handle ask) (sym (reads-is s ask) ∙ apart))

  has-hollow : (offset : ℕ) (sn : Seen) → has_bytes number offset (seen_hollow sn) ≡ has_bytes number offset sn
  has-hollow offset absent = refl
  has-hollow offset other_kind = refl
  has-hollow offset something = refl
  has-hollow offset (listing left) = refl
  has-hollow offset (file k flags c) =
      ap (λ (n : ℕ). (k == number) && nat_lt offset n) (hollowed-length (k == number) c)

  pub reads-hollow : (s : State) (ask : Ask) → reads_file number (hollow number s) ask ≡ reads_file number s ask
  reads-hollow s (asks.Read handle offset len) =
      ap (has_bytes number offset) (seen-hollow s a_file handle) ∙ has-hollow offset (seen s a_file handle)
  reads-hollow s other = refl

  -- ---- the state after it

  settled-out : (t : Tree) (handles : Handles)
      → hollow number (settled t handles) ≡ settled (hollow_tree number t) handles
  settled-out t handles =
      ap (λ (fs : Files). record {
        tree = record t { files = fs; pins = pins_of handles };
        handles = handles;
      })
      (retain-hollow number t.files (λ k. is_named t.names k || is_pinned (pins_of handles) k))

  pub settled-alike : (one other : Tree) (handles : Handles) → hollow_tree number one ≡ hollow_tree number other
      → hollow number (settled one handles) ≡ hollow number (settled other handles)
  settled-alike one other handles same =
      settled-out one handles ∙ ap (λ (t : Tree). settled t handles) same ∙ sym (settled-out other handles)

  again : (t : Tree) → hollow_tree number (hollow_tree number t) ≡ hollow_tree number t
  again t = ap (λ (fs : Files). record t { files = fs }) (files-again number t.files)

  rewritten-alike : (s : State) (handle : List ℕ) (k : ℕ) (one other : Option Content)
      → option_map (hollowed (k == number)) one ≡ option_map (hollowed (k == number)) other
      → hollow number (changed (hollow number s) handle (change_file k one))
      ≡ hollow number (changed s handle (change_file k other))
  rewritten-alike s handle k None None same = settled-alike (hollow_tree number s.tree) s.tree s.handles (again s.tree)
  rewritten-alike s handle k None (Some other) same = absurd (none-some (hollowed (k == number) other) same)
  rewritten-alike s handle k (Some one) None same = absurd (none-some (hollowed (k == number) one) (sym same))
  rewritten-alike s handle k (Some one) (Some other) same =
      settled-alike (record s.tree { files = with_content (hollow_files number s.tree.files) k one })
      (record s.tree { files = with_content s.tree.files k other }) s.handles
      (ap (λ (fs : Files). record s.tree { files = fs }) (rewritten number s.tree.files k one other
      (same_Some (hollowed (k == number) one) (hollowed (k == number) other) same)))

  changed-seen : (s : State) (ask : Ask) (answer : Answer) (handle : List ℕ) (sn : Seen)
      → hollow number (changed (hollow number s) handle (change_of (row_of ask) (seen_hollow sn) answer))
      ≡ hollow number (changed s handle (change_of (row_of ask) sn answer))
  changed-seen s ask answer handle absent =
      settled-alike (hollow_tree number s.tree) s.tree s.handles (again s.tree)
  changed-seen s ask answer handle other_kind =
      settled-alike (hollow_tree number s.tree) s.tree s.handles (again s.tree)
  changed-seen s ask answer handle something =
      settled-alike (hollow_tree number s.tree) s.tree (without_open s.handles handle) (again s.tree)
  changed-seen s ask answer handle (listing left) =
      settled-alike (hollow_tree number s.tree) s.tree
      (with_open s.handles handle (Listing (struck left (names_given answer)))) (again s.tree)
  changed-seen s ask answer handle (file k flags c) =
      rewritten-alike s handle k ((row_of ask).content flags (hollowed (k == number) c)) ((row_of ask).content flags c)
      (next-alike (k == number) ask flags c)

  after-through : (s : State) (ask : Ask) (answer : Answer) (handle : Option (List ℕ))
      → hollow number (after_by (hollow number s) ask answer handle) ≡ hollow number (after_by s ask answer handle)
  after-through s ask answer None =
      (λ i. hollow number (settled (outcome (hollow_tree number s.tree) ask)
      (with_new s.handles (opened_by (flags_of ask) (told-same s ask i)) answer)))
      ∙ settled-alike (outcome (hollow_tree number s.tree) ask) (outcome s.tree ask)
      (with_new s.handles (opened_by (flags_of ask) (told_to s.tree ask)) answer) (outcome-hollow number s.tree ask)
  after-through s ask answer (Some handle) =
      ap (λ sn. hollow number (changed (hollow number s) handle (change_of (row_of ask) sn answer)))
      (seen-hollow s (row_of ask).needed handle)
      ∙ changed-seen s ask answer handle (seen_by s ask handle)

  pub after-hollow : (s : State) (ask : Ask) (answer : Answer)
      → hollow number (after (hollow number s) ask answer) ≡ hollow number (after s ask answer)
  unfolding after
  after-hollow s ask answer = after-through s ask answer (asked_handle ask)

  -- ---- a step

  pub reads-alike : (one other : State) (ask : Ask) → AreAlike number one other
      → reads_file number one ask ≡ reads_file number other ask
  reads-alike one other ask alike =
      sym (reads-hollow one ask) ∙ ap (λ (s : State). reads_file number s ask) alike ∙ reads-hollow other ask

  pub step-alike : (one other end : State) (request : Request) (reply : Reply) → AreAlike number one other
      → AllowedApart number one request reply end
      → (other_end : State) × AllowedApart number other request reply other_end × AreAlike number end other_end
  step-alike one other end request reply alike step = elim step.allowed.step [
    | inl refused ↦ (
      other,
      record {
        allowed = record {
          same_id = step.allowed.same_id;
          step = inl (record {
            cause = subst (λ set. IsTrue (refuses set reply.answer)) same refused.cause;
            unchanged = refl;
          });
        };
        apart = apart;
      },
      ap (hollow number) refused.unchanged ∙ alike,
    )
    | inr done ↦ (
      after other request.ask reply.answer,
      record {
        allowed = record {
          same_id = step.allowed.same_id;
          step = inr (record {
            free = subst (λ set. IsTrue (is_none set)) same done.free;
            answered = sym said ∙ done.answered;
            changed = refl;
          });
        };
        apart = apart;
      },
      ap (hollow number) done.changed ∙ sym (after-hollow one request.ask reply.answer)
          ∙ ap (λ (s : State). hollow number (after s request.ask reply.answer)) alike
          ∙ after-hollow other request.ask reply.answer,
    )
  ]
    where
      apart : reads_file number other request.ask ≡ false
      apart = sym (reads-alike one other request.ask alike) ∙ step.apart

      same : causes one request.ask ≡ causes other request.ask
      same = sym (causes-hollow one request.ask) ∙ ap (λ (s : State). causes s request.ask) alike
          ∙ causes-hollow other request.ask

      said : answers one request.ask reply.answer ≡ answers other request.ask reply.answer
      said = sym (answers-hollow one request.ask reply.answer step.apart)
          ∙ ap (λ (s : State). answers s request.ask reply.answer) alike
          ∙ answers-hollow other request.ask reply.answer apart
