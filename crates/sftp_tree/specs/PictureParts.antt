-- The tree that a tree file describes, and what the code keeps on its way from the one to the other.
use Rattle.std.specs.Prelude.{◌≡◌, ℕ, suc, ◌+◌, ◌-◌, ◌≤◌, ◌<◌, ◌^◌, List, [], ◌∷◌, ◌++◌, length, take, slice_index}
use Rattle.std.specs.Prelude.{Option, Some, None, map}
use Rattle.std.specs.List.{flat_map, AllByRecursion}
use Rattle.std.specs.Ordering.{nat_cmp}
use Rattle.sftp_path.specs.Place.{Place, absolute, parent}
use Rattle.sftp_path.specs.Table.{Table, get, put}
use Rattle.sftp_treefile.specs.declared.files.Owner.{Owner}
use Rattle.sftp_treefile.specs.declared.files.Kind.{Kind}
use Rattle.sftp_treefile.specs.declared.files.Kind.TheVariants as kinds
use Rattle.sftp_treefile.specs.declared.files.Row.{Row}
use Rattle.sftp_treefile.specs.declared.files.TreeFile.{TreeFile}
use Rattle.sftp_treefile.specs.declared.heads.Head.{Head}
use Rattle.sftp_treefile.specs.declared.times.Times.{Times}
use Rattle.sftp_treefile.specs.TreeFile.{place_of, opening_with, no_times, any_times, times_of_root, times_of_rows}
use Rattle.sftp_treefile.specs.TreeFile.{times_at, AreTimes}
use Rattle.sftp_treefile.specs.TreeFileParts.{paired}
use Rattle.sftp_tree.specs.declared.file_contents.Content.{Content}
use Rattle.sftp_tree.specs.declared.file_contents.Stored.{Stored}
use Rattle.sftp_tree.specs.declared.nodes.Node.{Node}
use Rattle.sftp_tree.specs.declared.nodes.Node.TheVariants.{Dir, File, Link}
use Rattle.sftp_tree.specs.Tree.{Names, Files, Tree, node_at, content_at}
use Rattle.sftp_tree.specs.StoredFiles.{contents, AreCounted, IsChanged, with_a_name}
use Rattle.sftp_tree.specs.Picture.{naming, root_owner, rows_after, AreOfName}
use Rattle.sftp_tree.specs.declared.entries.growing.Opened.{Opened}
use Rattle.sftp_tree.specs.declared.entries.growing.Growth.{Growth}
use Rattle.sftp_tree.specs.Nesting.{placed}

-- the file that an entry comes with
abbrev pub content_of : Kind → List Content
content_of (kinds.Dir owner) = []
content_of (kinds.First owner bytes) = record { owner = owner; bytes = bytes } ∷ []
content_of (kinds.Further number) = []
content_of (kinds.Link target) = []

-- the files that entries come with
abbrev pub contents_of : List Row → List Content
contents_of rows = flat_map (λ (r : Row). content_of r.kind) rows

-- the entry after these; a further name is of the file of the first name whose number it has
abbrev pub node_of : List Row → Kind → Node
node_of earlier (kinds.Dir owner) = Dir owner
node_of earlier (kinds.First owner bytes) = File (length (contents_of earlier))
node_of earlier (kinds.Further number) = File (length (contents_of (take (number - 1) earlier)))
node_of earlier (kinds.Link target) = Link target

abbrev pub entry_of : List Row → Row → Place × Node
entry_of earlier row = (place_of row.path, node_of earlier row.kind)

abbrev pub entries_after : List Row → List Row → Names
entries_after earlier [] = []
entries_after earlier (row ∷ rows) = entry_of earlier row ∷ entries_after (earlier ++ row ∷ []) rows

abbrev pub only_root : Owner → Names
only_root root = ([], Dir root) ∷ []

-- the root, and the entries below it
abbrev pub names_of : Owner → List Row → Names
names_of root rows = only_root root ++ entries_after [] rows

-- files with the numbers from this one on
abbrev pub numbered_from : ℕ → List Content → Files
numbered_from number [] = []
numbered_from number (content ∷ contents) = (number, content) ∷ numbered_from (suc number) contents

-- the tree that a tree file describes
abbrev pub tree_of : TreeFile → Tree
tree_of file = record {
  names = names_of file.root file.rows;
  files = numbered_from 0 (contents_of file.rows);
  made = length (contents_of file.rows);
  pins = [];
  limits = file.limits;
  home = place_of file.home;
  uid = file.uid;
  gid = file.gid;
}

-- ---- on the way to the tree

-- for each entry how many files those before it come with, which is the number of its own file if it comes with one
abbrev pub numbers_from : ℕ → List Row → List ℕ
numbers_from number [] = []
numbers_from number (row ∷ rows) = number ∷ numbers_from (number + length (content_of row.kind)) rows

-- the number of the file that a further name of the entry of this number is of
abbrev pub known_number : List ℕ → ℕ → ℕ
known_number numbers entry = slice_index numbers (entry - 1)

-- the node of an entry, by the numbers of the entries before it and the number of the next file
abbrev pub known_node : List ℕ → ℕ → Kind → Node
known_node numbers next (kinds.Dir owner) = Dir owner
known_node numbers next (kinds.First owner bytes) = File next
known_node numbers next (kinds.Further entry) = File (known_number numbers entry)
known_node numbers next (kinds.Link target) = Link target

-- a further name is of an entry before it
abbrev pub IsKnown : List ℕ → Kind → Type 0
IsKnown numbers (kinds.Dir owner) = Unit {0}
IsKnown numbers (kinds.First owner bytes) = Unit {0}
IsKnown numbers (kinds.Further entry) = (1 ≤ entry) × (entry ≤ length numbers)
IsKnown numbers (kinds.Link target) = Unit {0}

-- files with the counts of their names and pins
abbrev pub Stores : Type 0
Stores = Table ℕ Stored

-- each file has room for one more name
abbrev pub HaveRoom : Stores → Type 0
HaveRoom stores = AllByRecursion (λ e. e.1.names + 1 < 2 ^ 32) stores

-- what an entry makes of the files before it: it may come with one, or be a further name of one
abbrev pub AreWithEntry : List ℕ → ℕ → Kind → Stores → Stores → Type 0
AreWithEntry numbers next (kinds.Dir owner) before after = after ≡ before
AreWithEntry numbers next (kinds.First owner bytes) before after =
    after ≡ put nat_cmp before next (record { content = record { owner = owner; bytes = bytes }; names = 1; pins = 0 })
AreWithEntry numbers next (kinds.Further entry) before after =
    IsChanged with_a_name (known_number numbers entry) before after
AreWithEntry numbers next (kinds.Link target) before after = after ≡ before

-- these are the entries and the files of a tree file with these rows
pub record IsGrown (root : Owner) (rows : List Row) (names : Names) (stores : Stores) : Type 0 where
  pub names_are : names ≡ names_of root rows
  pub contents_are : contents stores ≡ numbered_from 0 (contents_of rows)
  pub counted : AreCounted names stores
  pub unpinned : AllByRecursion (λ e. e.1.pins ≡ 0) stores

-- ---- on the way to the tree file

-- what comes before the entries
abbrev pub head_of : Tree → List Times → Head
head_of t times = record {
  opening = opening_with (any_times times) t.limits;
  limits = t.limits;
  home = absolute t.home;
  uid = t.uid;
  gid = t.gid;
  count = length t.names - 1;
  root = root_owner (node_at t.names []);
  root_times = times_of_root times;
}

-- the entries with their times
abbrev pub timed_entries : Tree → List Times → List (Row × Times)
timed_entries t times = paired (rows_after t.files [] t.names) (times_of_rows times)

-- for each file that was met the number of the entry that is its first name
abbrev pub Firsts : Type 0
Firsts = Table ℕ ℕ

-- with an entry that is a name of the file
abbrev pub with_first : Firsts → ℕ → ℕ → Option ℕ → Firsts
with_first firsts entry number (Some first) = firsts
with_first firsts entry number None = put nat_cmp firsts number entry

-- with the entry of this number
abbrev pub firsts_with : Firsts → ℕ → Node → Firsts
firsts_with firsts entry (Dir owner) = firsts
firsts_with firsts entry (File number) = with_first firsts entry number (get nat_cmp firsts number)
firsts_with firsts entry (Link target) = firsts

-- the entry after those that were met
abbrev pub known_kind : Files → Firsts → Node → Kind
known_kind files firsts (Dir owner) = kinds.Dir owner
known_kind files firsts (File number) = naming (get nat_cmp firsts number) (content_at files number)
known_kind files firsts (Link target) = kinds.Link target

-- the lengths of its strings can be written
abbrev pub IsShort : Files → Node → Type 0
IsShort files (Dir owner) = Unit {0}
IsShort files (File number) = Unit {0}
IsShort files (Link target) = length target < 2 ^ 32

-- ==== How the entries of directories are written: each after those before it, with the text of the place where the
-- writing stands, the number of the next entry, and the first name of each file that was met.

-- what the names add to the text of the place from which they lead: a `/` before each
abbrev pub text_of : Place → List ℕ
text_of place = flat_map (λ name. 47 ∷ name) place

-- the rows of entries, the first of which has this number, by places that start at the place of this text
abbrev pub rows_from : Files → Firsts → ℕ → List ℕ → Names → List Row
rows_from files firsts next text [] = []
rows_from files firsts next text (e ∷ es) =
    record { path = text ++ text_of e.0; kind = known_kind files firsts e.1 } ∷ rows_from files
    (firsts_with firsts next e.1) (suc next) text es

-- with the times of their numbers
abbrev pub entries_from : Files → List Times → Firsts → ℕ → List ℕ → Names → List (Row × Times)
entries_from files times firsts next text [] = []
entries_from files times firsts next text (e ∷ es) =
    (record { path = text ++ text_of e.0; kind = known_kind files firsts e.1 }, times_at times next)
    ∷ entries_from files times (firsts_with firsts next e.1) (suc next) text es

-- the first names with these entries
abbrev pub firsts_from : Firsts → ℕ → Names → Firsts
firsts_from firsts next [] = firsts
firsts_from firsts next (e ∷ es) = firsts_from (firsts_with firsts next e.1) (suc next) es

-- ---- the times of entries, as they are asked one after the other

-- those of the entry after those that were met, whose place has this text
abbrev pub AreKnown : (ℕ → Times → Type 0) → (List ℕ → Times → Type 0) → Firsts → List ℕ → Node → Times → Type 0
AreKnown OfFile OfDirectory firsts path (Dir owner) times = OfDirectory path times
AreKnown OfFile OfDirectory firsts path (File number) times =
    AreOfName (get nat_cmp firsts number) (OfFile number) times
AreKnown OfFile OfDirectory firsts path (Link target) times = times ≡ no_times

-- those of entries, the first of which has this number, by places that start at the place of this text
abbrev pub AreKnownFrom : (ℕ → Times → Type 0) → (List ℕ → Times → Type 0) → Firsts → ℕ → List ℕ → Names
    → List Times → Type 0
AreKnownFrom OfFile OfDirectory firsts next text [] [] = Unit {0}
AreKnownFrom OfFile OfDirectory firsts next text [] (t ∷ times) = ⊥
AreKnownFrom OfFile OfDirectory firsts next text (e ∷ es) [] = ⊥
AreKnownFrom OfFile OfDirectory firsts next text (e ∷ es) (t ∷ times) =
    AreKnown OfFile OfDirectory firsts (text ++ text_of e.0) e.1 t
    × AreKnownFrom OfFile OfDirectory (firsts_with firsts next e.1) (suc next) text es times

-- they are appended
pub record AddsTimes (OfFile : ℕ → Times → Type 0) (OfDirectory : List ℕ → Times → Type 0) (firsts : Firsts) (next : ℕ)
    (text : List ℕ) (names : Names) (old new : List Times) : Type 0 where
  pub more : List Times
  pub appended : new ≡ old ++ more
  pub known : AreKnownFrom OfFile OfDirectory firsts next text names more
  pub numbers : AllByRecursion AreTimes more

-- the lengths of the strings of each entry can be written
abbrev pub AreWritable : Files → List ℕ → Names → Type 0
AreWritable files text names = AllByRecursion (λ e. (length (text ++ text_of e.0) < 2 ^ 32) × IsShort files e.1) names

-- ==== Directories that grow entry by entry: those from the root to the one that gets the next entries, each but the
-- last with the name of the next.

-- the entries of the first directory, if each directory is the last child of the one before it
abbrev pub names_from : List Opened → Names → Names
names_from [] top = top
names_from (o ∷ os) top = o.dir ++ placed o.name (names_from os top)

-- the names that lead to the last one
abbrev pub place_from : List Opened → Place
place_from above = map (λ (o : Opened). o.name) above

-- the entries that have come
abbrev pub names_in : Growth → Names
names_in g = names_from g.above.items g.top

-- the place of the directory that gets the next entries
abbrev pub place_in : Growth → Place
place_in g = place_from g.above.items

-- the directory that is open after an entry: the entry itself, or where it is
abbrev pub open_after : Place → Node → Place
open_after place (Dir owner) = place
open_after place (File number) = parent place
open_after place (Link target) = parent place
