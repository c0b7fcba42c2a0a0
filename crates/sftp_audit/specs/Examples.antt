-- What the worked examples name: trees, and sessions.
use Rattle.std.specs.Prelude.{ℕ, List, [], ◌∷◌, ◌++◌, codes, true, None}
use Rattle.sftp_packets.specs.declared.requests.Ask.TheVariants.{Mkdir, Limits}
use Rattle.sftp_packets.specs.declared.replies.Answer.TheVariants.{Extended}
use Rattle.sftp_packets.specs.declared.attributes.Attrs.{Attrs}
use Rattle.sftp_strings.specs.Hexadecimal.{hex}
use Rattle.sftp_packets.specs.Spelling.{no_attributes}
use Rattle.sftp_transcript.specs.declared.events.Event.{Event}
use Rattle.sftp_transcript.specs.declared.events.Event.TheVariants.{Asked, Replied}
use Rattle.sftp_transcript.specs.Examples.{mkdir, rmdir, open_directory, stat, lstat, real_path, read_link, symlink}
use Rattle.sftp_transcript.specs.Examples.{open_to_read, read, close, status, handle_reply, data_reply, name_reply}
use Rattle.sftp_transcript.specs.Examples.{attributes_reply, handshake_bytes}
use Rattle.sftp_path.specs.Place.{Place}
use Rattle.sftp_tree.specs.declared.nodes.Node.{Node}
use Rattle.sftp_tree.specs.declared.nodes.Node.TheVariants.{Dir, Link}
use Rattle.sftp_tree.specs.Tree.{Tree}
use Rattle.sftp_tree.specs.Picture.{blank}
use Rattle.sftp_handles.specs.State.{State, started}
use Rattle.sftp_handles.specs.Allowed.{Allowed}
use Rattle.sftp_handles.specs.Examples.{with_text}
use Rattle.sftp_transcript.specs.Explained.{Explained}
use Rattle.sftp_audit.specs.declared.exchanges.Exchange.{Exchange}
use Rattle.sftp_audit.specs.Auditor.{Audited}

-- ---- trees

-- a directory of user 0 and group 0 that its owner may write
abbrev pub plain_directory : Node
plain_directory = Dir (record { uid = 0; gid = 0; permissions = 0o755 })

-- the blank tree with other entries
abbrev pub tree_of : List (Place × Node) → Tree
tree_of names = record blank { names = names }

-- with the directory `/a`
abbrev pub with_a : Tree
with_a = tree_of (([], plain_directory) ∷ (codes "a" ∷ [], plain_directory) ∷ [])

-- with the directories `/a` and `/a/b`
abbrev pub with_a_and_b : Tree
with_a_and_b = tree_of (with_a.names ++ (codes "a" ∷ codes "b" ∷ [], plain_directory) ∷ [])

-- its tree file
abbrev pub with_a_and_b_bytes : List ℕ
with_a_and_b_bytes =
    hex (codes "5346545245453031 00000001 2f 00000000 00000000 00000002 00000000 00000000 000001ed") ++
    hex (codes "00000002 2f61 44 00000000 00000000 000001ed 00000004 2f612f62 44 00000000 00000000 000001ed")

-- with the link `/l` to `x y`
abbrev pub with_link : Tree
with_link = tree_of (([], plain_directory) ∷ (codes "l" ∷ [], Link (codes "x y")) ∷ [])

-- nothing but the file `/f`, with the text `abcde`
abbrev pub with_five_letters : Tree
with_five_letters = with_text (codes "abcde")

-- ---- sessions

-- three requests on one path and its parent
abbrev pub three_requests : List Event
three_requests = mkdir 1 (codes "/a") ∷ mkdir 2 (codes "/a/b") ∷ rmdir 3 (codes "/a") ∷ []

-- their replies come in the opposite order, and the last request is refused with this code
abbrev pub backward_replies : ℕ → List Event
backward_replies code = three_requests ++ status 3 code ∷ status 2 0 ∷ status 1 0 ∷ []

-- the same before the last of the replies, which is that to the first request
abbrev pub two_backward_replies : ℕ → List Event
two_backward_replies code = three_requests ++ status 3 code ∷ status 2 0 ∷ []

-- the last of three requests has its reply
abbrev pub last_answered : List Event
last_answered = three_requests ++ status 3 4 ∷ []

-- another request with its id follows
abbrev pub id_used_again : List Event
id_used_again = last_answered ++ mkdir 3 (codes "/c") ∷ []

-- the first of two requests has its reply
abbrev pub first_answered : List Event
first_answered = mkdir 1 (codes "/a") ∷ mkdir 2 (codes "/a/b") ∷ status 1 0 ∷ []

-- the second one, which waits in record 4
abbrev pub second_waits : List Exchange
second_waits =
    record { request = record { id = 2; ask = Mkdir (codes "/a/b") no_attributes }; number = 4; reply = None } ∷ []

-- the second request has no reply
abbrev pub one_unanswered : List Event
one_unanswered = three_requests ++ status 3 4 ∷ status 1 0 ∷ []

-- the first request has two replies
abbrev pub one_answered_twice : List Event
one_answered_twice = three_requests ++ status 3 4 ∷ status 2 0 ∷ status 1 0 ∷ status 1 0 ∷ []

-- the same directory, asked for twice and in two spellings; the second is refused with this code
abbrev pub same_directory_twice : ℕ → List Event
same_directory_twice code = mkdir 1 (codes "/a") ∷ mkdir 2 (codes "a/.") ∷ status 2 code ∷ status 1 0 ∷ []

-- a directory is asked for, and the reply has bytes of a file
abbrev pub data_for_mkdir : List Event
data_for_mkdir = mkdir 1 (codes "/a") ∷ data_reply 1 (codes "a") ∷ []

-- a request for a directory that does not exist, with the code that says so
abbrev pub opendir_of_nothing : List Event
opendir_of_nothing = open_directory 1 (codes "/a") ∷ status 1 2 ∷ []

-- the link `/l` to `x y` is made and looked at: READLINK is answered with these names, STAT says that there is no such
-- file, and LSTAT is answered with these attributes
abbrev pub link_session : List (List ℕ) → Attrs → List Event
link_session names attrs =
    symlink 1 (codes "x y") (codes "/l") ∷ status 1 0 ∷ read_link 2 (codes "/l") ∷ name_reply 2 names
    ∷ stat 3 (codes "/l") ∷ status 3 2 ∷ lstat 4 (codes "/l") ∷ attributes_reply 4 attrs ∷ []

-- the parent of the root's parent is asked for
abbrev pub above_the_root : List Event
above_the_root = real_path 1 (codes "/../..") ∷ name_reply 1 (codes "/" ∷ []) ∷ []

-- `/f` is opened to read; three parts of it are asked for before any is answered, and the replies come in the opposite
-- order: that the end was reached, the fourth and fifth byte, and these for the first three; then it is closed
abbrev pub read_in_parts : List ℕ → List Event
read_in_parts first =
    open_to_read 1 (codes "/f") ∷ handle_reply 1 (codes "h") ∷ read 2 (codes "h") 0 3 ∷ read 3 (codes "h") 3 3
    ∷ read 4 (codes "h") 6 3 ∷ status 4 1 ∷ data_reply 3 (codes "de") ∷ data_reply 2 first
    ∷ close 5 (codes "h") ∷ status 5 0 ∷ []

-- the limits are asked for, and the reply has this data
abbrev pub limits_session : List ℕ → List Event
limits_session told =
    Asked (record { id = 5; ask = Limits }) ∷ Replied (record { id = 5; answer = Extended told }) ∷ []

-- the usual limits, and the highest, as such data
abbrev pub usual_limits_told : List ℕ
usual_limits_told = hex (codes "0000000000040000 0000000000008000 0000000000008000 0000000000000100")

abbrev pub highest_limits_told : List ℕ
highest_limits_told = hex (codes "0000000000040000 0000000000010000 0000000000010000 0000000000000400")

-- the transcript file of such a session where the usual limits are told
abbrev pub limits_bytes : List ℕ
limits_bytes =
    handshake_bytes ++
    hex (codes "43 0000001b c8 00000005 00000012 6c696d697473407366747076332e74657374") ++
    hex (codes "53 00000025 c9 00000005 0000000000040000 0000000000008000 0000000000008000 0000000000000100")

-- the beginning of a transcript file of the three requests
abbrev pub three_requests_bytes : List ℕ
three_requests_bytes =
    handshake_bytes ++
    hex (codes "43 0000000f 0e 00000001 00000002 2f61 00000000") ++
    hex (codes "43 00000011 0e 00000002 00000004 2f612f62 00000000") ++
    hex (codes "43 0000000b 0f 00000003 00000002 2f61")

-- the transcript file of the replies that come backwards, the removal being refused
abbrev pub backward_replies_bytes : List ℕ
backward_replies_bytes =
    three_requests_bytes ++
    hex (codes "53 00000011 65 00000003 00000004 00000000 00000000") ++
    hex (codes "53 00000011 65 00000002 00000000 00000000 00000000") ++
    hex (codes "53 00000011 65 00000001 00000000 00000000 00000000")

-- the same, but the reply says that the removal is done
abbrev pub removal_done_bytes : List ℕ
removal_done_bytes =
    three_requests_bytes ++
    hex (codes "53 00000011 65 00000003 00000000 00000000 00000000") ++
    hex (codes "53 00000011 65 00000002 00000000 00000000 00000000") ++
    hex (codes "53 00000011 65 00000001 00000000 00000000 00000000")

-- ---- what an auditor keeps

-- it has settled requests that lead to this tree, keeps these exchanges, and the next record has this number
abbrev pub auditor_with : Tree → List Exchange → ℕ → Audited State
auditor_with tree kept number =
    record { state = started tree; kept = kept; number = number; refusal = None; follows = true }

-- ---- sessions that are not explained

-- no run from the tree explains the events, whatever the end
abbrev pub Unexplained : Tree → List Event → Type 0
Unexplained start events = (end : State) → ¬ Explained Allowed (started start) events end
