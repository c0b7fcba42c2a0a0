-- Which failure of a run each error is: when memory runs out, no file is to blame.
use Rattle.std.specs.Prelude.{◌≡◌, ℕ, List, ◌≢◌, ◌⊎◌, if◌then◌else◌}
use Rattle.sftp_treefile.specs.declared.errors.TreeError.{TreeError}
use Rattle.sftp_treefile.specs.declared.errors.TreeError.TheVariants as tree_errors
use Rattle.sftp_transcript.specs.declared.errors.TranscriptError.{TranscriptError}
use Rattle.sftp_transcript.specs.declared.errors.TranscriptError.TheVariants as transcript_errors
use Rattle.sftp_files.specs.declared.messages.Failure.{Failure}
use Rattle.sftp_files.specs.declared.messages.Failure.TheVariants as failures
use Rattle.std.specs.Int.RustNames.{bit_and}
use Rattle.sftp_files.specs.declared.links.Owned.{Owned}
use Rattle.sftp_files.specs.declared.messages.Ending.{Ending}
use Rattle.sftp_files.specs.declared.messages.Ending.TheVariants.{Done, Refused, Broken, Different}
use Rattle.sftp_files.specs.declared.messages.Ending.TheVariants.{Unmatched, Explained}

abbrev pub tree_failure : TreeError → Failure
tree_failure tree_errors.NoMemory = failures.OutOfMemory
tree_failure error = failures.Tree error

-- the file of this name cannot be read
abbrev pub IsUnreadFile : List ℕ → Failure → Type 0
IsUnreadFile name (failures.CannotRead file _) = file.now ≡ name
IsUnreadFile name _ = ⊥

-- the file or stream of this name cannot be written
abbrev pub IsUnwrittenFile : List ℕ → Failure → Type 0
IsUnwrittenFile name (failures.CannotWrite file _) = file.now ≡ name
IsUnwrittenFile name _ = ⊥

-- the file of this name cannot be replaced, and is unchanged
abbrev pub IsUnreplacedFile : List ℕ → Failure → Type 0
IsUnreplacedFile name (failures.CannotReplace file _) = file.now ≡ name
IsUnreplacedFile name _ = ⊥

-- the file of this name cannot be read twice, and no copy of it can be kept
abbrev pub IsUncopiedFile : List ℕ → Failure → Type 0
IsUncopiedFile name (failures.CannotCopy file _) = file.now ≡ name
IsUncopiedFile name _ = ⊥

-- usage is bad, or memory ran out
abbrev pub IsUsage : Failure → Type 0
IsUsage (failures.Usage _) = Unit {0}
IsUsage failures.OutOfMemory = Unit {0}
IsUsage _ = ⊥

-- a file cannot be read, or memory ran out
abbrev pub IsUnread : Failure → Type 0
IsUnread (failures.CannotRead _ _) = Unit {0}
IsUnread failures.OutOfMemory = Unit {0}
IsUnread _ = ⊥

-- a file or a stream cannot be written or is not, or memory ran out
abbrev pub IsUnwritten : Failure → Type 0
IsUnwritten (failures.CannotWrite _ _) = Unit {0}
IsUnwritten (failures.CannotReplace _ _) = Unit {0}
IsUnwritten (failures.Unfit _ _) = Unit {0}
IsUnwritten failures.OutOfMemory = Unit {0}
IsUnwritten _ = ⊥

-- the error of the transcript in the file of this name: where the source fails, the file cannot be read
abbrev pub IsTranscriptFailure : List ℕ → TranscriptError → Failure → Type 0
IsTranscriptFailure name transcript_errors.NoMemory failure = failure ≡ failures.OutOfMemory
IsTranscriptFailure name (transcript_errors.Io number) failure = IsUnreadFile name failure
IsTranscriptFailure name error failure = failure ≡ failures.Transcript error

-- ==== Which symbolic links are followed on the way to a file that is written.

-- what belongs to this owner is the user's, or root's
abbrev pub IsTheirs : ℕ → ℕ → Type 0
IsTheirs user owner = (owner ≡ user) ⊎ (owner ≡ 0)

-- nobody but this user and root writes to the folder
abbrev pub IsTheirsAlone : ℕ → Owned → Type 0
IsTheirsAlone user folder = IsTheirs user folder.uid × (bit_and folder.permissions 0o022 ≡ 0)

-- for this user, a link of this owner in this folder is followed
abbrev pub IsTrusted : ℕ → ℕ → Owned → Type 0
IsTrusted user link folder = IsTheirs user link ⊎ IsTheirsAlone user folder

-- others make files of their own in the folder, and this owner of a file in it is neither this user nor the folder's
abbrev pub IsPlanted : ℕ → ℕ → Owned → Type 0
IsPlanted user file folder = (bit_and folder.permissions 0o1000 ≢ 0) × (bit_and folder.permissions 0o022 ≢ 0)
    × (file ≢ user) × (file ≢ folder.uid)

-- ==== The exit status of each outcome of a run.

abbrev pub ending_status : Ending → ℕ
ending_status Done = 0
ending_status Refused = 1
ending_status Broken = 1
ending_status Different = 1
ending_status Unmatched = 1
ending_status Explained = 2

-- 2: bad usage or a malformed input file or text; 3: a file, a stream or memory failed
abbrev pub failure_status : Failure → ℕ
failure_status (failures.Usage _) = 2
failure_status (failures.Tree _) = 2
failure_status (failures.TreeOf _ _) = 2
failure_status (failures.Transcript _) = 2
failure_status (failures.Text _) = 2
failure_status failures.UnknownFile = 2
failure_status (failures.CannotRead _ _) = 3
failure_status (failures.CannotWrite _ _) = 3
failure_status (failures.CannotReplace _ _) = 3
failure_status (failures.CannotCopy _ _) = 3
failure_status (failures.Unfit _ _) = 3
failure_status (failures.OverLimit _) = 3
failure_status failures.OutOfMemory = 3
failure_status (failures.Unjudged _ _ are_read) = if are_read then 2 else 3
