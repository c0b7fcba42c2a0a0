-- Trees as tree files. This profile's own.
use Rattle.std.specs.Prelude.{◌≡◌, ◌&&◌, ◌==◌, nat_le, ℕ, suc, Bool, true, if◌then◌else◌, List, [], ◌∷◌, ◌++◌}
use Rattle.std.specs.Prelude.{Option, Some, None, Result, MatchResult, IsTrue}
use Rattle.std.specs.Io.KnownBytes.{Appends}
use Rattle.sftp_streams.specs.Streams.{AppendsPart}
use Rattle.std.specs.Option.{option_map}
use Rattle.sftp_path.specs.Place.{Place, absolute}
use Rattle.sftp_treefile.specs.declared.errors.TreeError.{TreeError}
use Rattle.sftp_treefile.specs.declared.errors.TreeError.TheVariants.{NoMemory}
use Rattle.sftp_treefile.specs.Streamed.{IsExcuse}
use Rattle.sftp_treefile.specs.declared.files.Owner.{Owner}
use Rattle.sftp_treefile.specs.declared.files.Kind.{Kind}
use Rattle.sftp_treefile.specs.declared.files.Kind.TheVariants as kinds
use Rattle.sftp_treefile.specs.declared.files.Row.{Row}
use Rattle.sftp_treefile.specs.declared.files.TreeFile.{TreeFile}
use Rattle.sftp_treefile.specs.declared.times.Times.{Times}
use Rattle.sftp_treefile.specs.TreeFile.{spelled, no_times, AreFileTimes}
use Rattle.sftp_treefile.specs.TreeFileParts.{kept}
use Rattle.sftp_treefile.specs.TreeFile.{usual_limits}
use Rattle.sftp_tree.specs.declared.file_contents.Content.{Content}
use Rattle.sftp_tree.specs.declared.nodes.Node.{Node}
use Rattle.sftp_tree.specs.declared.nodes.Node.TheVariants.{Dir, File, Link}
use Rattle.sftp_tree.specs.Tree.{Names, Files, Tree, WellFormed, IsTrimmed, fits, node_at, content_at, names_file}

-- ---- what the tree file of a tree says

-- the number of the first entry that is a name of the file of this number; the root, which is not one, comes first with
-- the number 0
abbrev pub entry_naming : ℕ → Names → Option ℕ
entry_naming number [] = None
entry_naming number (e ∷ es) = if names_file number e.1 then Some 0 else option_map suc (entry_naming number es)

abbrev pub no_owner : Owner
no_owner = record { uid = 0; gid = 0; permissions = 0 }

-- a name of a file is a further one if an earlier entry is its name; the first one comes with the file
abbrev pub naming : Option ℕ → Option Content → Kind
naming (Some entry) content = kinds.Further entry
naming None (Some content) = kinds.First content.owner content.bytes
naming None None = kinds.First no_owner []

-- after these entries, the root among them
abbrev pub kind_of : Files → Names → Node → Kind
kind_of files earlier (Dir owner) = kinds.Dir owner
kind_of files earlier (File number) = naming (entry_naming number earlier) (content_at files number)
kind_of files earlier (Link target) = kinds.Link target

-- the rows of an entry: the root has none, since its owner is in the head
abbrev pub rows_of : Files → Names → Place × Node → List Row
rows_of files earlier ([], standing) = []
rows_of files earlier (n ∷ ns, standing) =
    record { path = absolute (n ∷ ns); kind = kind_of files earlier standing } ∷ []

-- the rows of entries after others
abbrev pub rows_after : Files → Names → Names → List Row
rows_after files earlier [] = []
rows_after files earlier (e ∷ es) = rows_of files earlier e ++ rows_after files (earlier ++ e ∷ []) es

-- the owner of the root, which is a directory in every tree
abbrev pub root_owner : Option Node → Owner
root_owner (Some (Dir owner)) = owner
root_owner (Some (File number)) = no_owner
root_owner (Some (Link target)) = no_owner
root_owner None = no_owner

-- what the tree file of a tree says, with times that are kept beside the tree
abbrev pub timed_file_of : Tree → List Times → TreeFile
timed_file_of t times = record {
  limits = t.limits;
  home = absolute t.home;
  uid = t.uid;
  gid = t.gid;
  root = root_owner (node_at t.names []);
  rows = rows_after t.files [] t.names;
  times = times;
}

-- and without times
abbrev pub file_of : Tree → TreeFile
file_of t = timed_file_of t []

-- the tree file of a tree without times
unfoldable pub picture : Tree → List ℕ
picture t = spelled (file_of t)

-- the bytes are the tree file of a tree, with times or without
pub record IsPicture (t : Tree) (bytes : List ℕ) : Type 0 where
  pub times : List Times
  pub are : AreFileTimes (file_of t).rows times
  pub bytes_are : bytes ≡ spelled (timed_file_of t times)

-- ---- times that something beside a tree has: of files by their numbers, of directories by their absolute texts

-- a file has its times with its first name, and a further name has none
abbrev pub AreOfName : Option ℕ → (Times → Type 0) → Times → Type 0
AreOfName (Some entry) Of times = times ≡ no_times
AreOfName None Of times = Of times

-- those of an entry after these, the root among them
abbrev pub AreTold : (ℕ → Times → Type 0) → (List ℕ → Times → Type 0) → Names → Place × Node → Times → Type 0
AreTold OfFile OfDirectory earlier (place, Dir owner) times = OfDirectory (absolute place) times
AreTold OfFile OfDirectory earlier (place, File number) times =
    AreOfName (entry_naming number earlier) (OfFile number) times
AreTold OfFile OfDirectory earlier (place, Link target) times = times ≡ no_times

-- and one for each of the entries after them
abbrev pub AreToldAfter : (ℕ → Times → Type 0) → (List ℕ → Times → Type 0) → Names → Names → List Times → Type 0
AreToldAfter OfFile OfDirectory earlier [] [] = Unit {0}
AreToldAfter OfFile OfDirectory earlier [] (t ∷ times) = ⊥
AreToldAfter OfFile OfDirectory earlier (e ∷ es) [] = ⊥
AreToldAfter OfFile OfDirectory earlier (e ∷ es) (t ∷ times) =
    AreTold OfFile OfDirectory earlier e t × AreToldAfter OfFile OfDirectory (earlier ++ e ∷ []) es times

-- these are the times of a tree file of the tree, and none if all are 0
pub record AreToldTimes (OfFile : ℕ → Times → Type 0) (OfDirectory : List ℕ → Times → Type 0) (t : Tree)
    (times : List Times) : Type 0 where
  pub told : List Times
  pub are_told : AreToldAfter OfFile OfDirectory [] t.names told
  pub times_are : times ≡ kept told
  pub of_file : AreFileTimes (file_of t).rows times

-- the tree file of the tree is appended, with these times
pub record AppendsTimed (OfFile : ℕ → Times → Type 0) (OfDirectory : List ℕ → Times → Type 0) (t : Tree)
    (old new : Option (List ℕ)) : Type 0 where
  pub times : List Times
  pub are : AreToldTimes OfFile OfDirectory t times
  pub appended : Appends old new (spelled (timed_file_of t times))

-- a beginning of a tree file of the tree is appended, with times or without
pub record AppendsSome (t : Tree) (old new : Option (List ℕ)) : Type 0 where
  pub bytes : List ℕ
  pub are : IsPicture t bytes
  pub part : AppendsPart old new bytes

-- ---- the tree of a tree file

-- whether a name's number is one of the `given` that were given to files, or the next
abbrev pub is_given_or_next : Node → ℕ → Bool
is_given_or_next (Dir owner) given = true
is_given_or_next (File number) given = nat_le number given
is_given_or_next (Link target) given = true

-- and how many are given with it
abbrev pub given_with : Node → ℕ → ℕ
given_with (Dir owner) given = given
given_with (File number) given = if number == given then suc given else given
given_with (Link target) given = given

-- the files are numbered in the order of their first names, and these are the numbers that were given
abbrev pub is_numbered : ℕ → Names → ℕ → Bool
is_numbered given [] made = given == made
is_numbered given (e ∷ es) made = is_given_or_next e.1 given && is_numbered (given_with e.1 given) es made

-- the tree that a tree file is that of, which may have times besides: its files are numbered from 0, and none is pinned
pub record IsStart (t : Tree) (bytes : List ℕ) : Type 0 where
  pub well_formed : WellFormed t
  pub within_limits : IsTrue (fits t)
  pub trimmed : IsTrimmed t
  pub unpinned : t.pins ≡ []
  pub numbered : IsTrue (is_numbered 0 t.names t.made)
  pub picture_is : IsPicture t bytes

-- the result is the tree, unless memory ran out
abbrev pub GivesTree : Result Tree TreeError → Tree → Type 0
GivesTree result t = MatchResult result (λ u. u ≡ t) (λ error. error ≡ NoMemory)

-- the same, unless memory ran out or the source failed
abbrev pub GivesTreeUnless : Result Tree TreeError → Tree → Type 0
GivesTreeUnless result t = MatchResult result (λ u. u ≡ t) (λ error. IsExcuse error)

-- the root alone, with permissions 0o755, which is the home; the user 0 and the group 0 own everything
abbrev pub blank : Tree
blank = record {
  names = ([], Dir (record { uid = 0; gid = 0; permissions = 0o755 })) ∷ [];
  files = [];
  made = 0;
  pins = [];
  limits = usual_limits;
  home = [];
  uid = 0;
  gid = 0;
}
