-- Sessions that read nothing of a file: they are the same from trees that differ in the bytes of that file alone.
use Rattle.std.specs.Prelude.{◌≡◌, ◌==◌, ◌&&◌, nat_lt, ℕ, Bool, true, false, [], ◌∷◌, length, replicate}
use Rattle.sftp_packets.specs.declared.requests.Ask.{Ask}
use Rattle.sftp_packets.specs.declared.requests.Ask.TheVariants as asks
use Rattle.sftp_packets.specs.declared.packets.Request.{Request}
use Rattle.sftp_packets.specs.declared.packets.Reply.{Reply}
use Rattle.sftp_tree.specs.declared.file_contents.Content.{Content}
use Rattle.sftp_tree.specs.Tree.{Tree, Files}
use Rattle.sftp_handles.specs.State.{State, Seen, file, seen, a_file}
use Rattle.sftp_handles.specs.Allowed.{Allowed}

-- ---- states that are the same but for the bytes of a file

-- a file with zeros in the place of its bytes, as many
abbrev pub hollowed : Bool → Content → Content
hollowed true content = record content { bytes = replicate (length content.bytes) 0 }
hollowed false content = content

-- the files, that of the number with zeros in the place of its bytes
unfoldable pub hollow_files : ℕ → Files → Files
hollow_files number [] = []
hollow_files number (e ∷ files) = (e.0, hollowed (e.0 == number) e.1) ∷ hollow_files number files

abbrev pub hollow_tree : ℕ → Tree → Tree
hollow_tree number t = record t { files = hollow_files number t.files }

abbrev pub hollow : ℕ → State → State
hollow number s = record s { tree = hollow_tree number s.tree }

-- two states are the same but for the bytes of the file of this number, of which both have as many
abbrev pub AreAlike : ℕ → State → State → Type 0
AreAlike number one other = hollow number one ≡ hollow number other

-- ---- requests that read nothing of a file

-- a READ from the offset finds bytes of the file of the number
abbrev pub has_bytes : ℕ → ℕ → Seen → Bool
has_bytes number offset (file n flags before) = n == number && nat_lt offset (length before.bytes)
has_bytes number offset other = false

-- the request is a READ that finds bytes of the file
abbrev pub reads_file : ℕ → State → Ask → Bool
reads_file number s (asks.Read handle offset len) = has_bytes number offset (seen s a_file handle)
reads_file number s other = false

-- the reply is allowed, and the request is no READ that finds bytes of the file
pub record AllowedApart (number : ℕ) (s : State) (request : Request) (reply : Reply) (end : State) : Type 0 where
  pub allowed : Allowed s request reply end
  pub apart : reads_file number s request.ask ≡ false
