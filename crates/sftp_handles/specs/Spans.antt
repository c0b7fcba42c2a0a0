-- The span of a READ or WRITE: the bytes that it reads or writes, whether its file has them or not. What is open under
-- its handle says it, and the size of the file does not matter: so it stays while others are done, as what a request
-- touches does. The range that it keeps to is its span, if the file is as long as that now.
use Rattle.std.specs.Prelude.{ℕ, ◌+◌, List, length, Option, Some, None, option_map}
use Rattle.sftp_packets.specs.declared.requests.Ask.{Ask}
use Rattle.sftp_packets.specs.Requests.{asked_handle}
use Rattle.sftp_treefile.specs.declared.limits.TreeLimits.{TreeLimits}
use Rattle.sftp_tree.specs.Tree.{content_at, limits}
use Rattle.sftp_handles.specs.declared.byte_range.ByteRange.{ByteRange}
use Rattle.sftp_handles.specs.declared.byte_range.Span.{Span}
use Rattle.sftp_handles.specs.declared.opens.Open.{Open}
use Rattle.sftp_handles.specs.declared.opens.Open.TheVariants.{File}
use Rattle.sftp_handles.specs.State.{open_at}
use Rattle.sftp_handles.specs.State.{State}
use Rattle.sftp_handles.specs.State.{Needed, a_file}
use Rattle.sftp_handles.specs.RequestRows.{row_of}
use Rattle.sftp_handles.specs.Clash.{Touched, reads_file, writes_file}
use Rattle.sftp_handles.specs.Clash.{span, range_within}

-- ---- the span of a request

-- through what is open under its handle, where it needs this
abbrev pub span_open : TreeLimits → Ask → Needed → Option Open → Option (ℕ × ℕ)
span_open bounds ask a_file (Some (File number flags)) = span bounds ask flags
span_open bounds ask needed found = None

abbrev pub span_by : State → Ask → Option (List ℕ) → Option (ℕ × ℕ)
span_by s ask None = None
span_by s ask (Some handle) = span_open (limits s.tree) ask (row_of ask).needed (open_at s.handles handle)

-- where the bytes of a request start in its file, and where they end
unfoldable pub spanned : State → Ask → Option (ℕ × ℕ)
spanned s ask = span_by s ask (asked_handle ask)

-- the same of a span that is kept as its start and its length
abbrev pub ends_of : Option Span → Option (ℕ × ℕ)
ends_of None = None
ends_of (Some it) = Some (it.start, it.start + it.count)

-- ---- the range that it is

-- the file that is touched, if nothing else is
abbrev pub file_in : Touched → Option ℕ
file_in (reads_file number) = Some number
file_in (writes_file number) = Some number
file_in other = None

-- how many bytes the file of a number has
abbrev pub size_in : State → ℕ → Option ℕ
size_in s number = option_map (λ before. length before.bytes) (content_at s.tree.files number)

-- the range of a file of this number and size that a span is, if it ends within the file
abbrev pub range_sized : ℕ → Option (ℕ × ℕ) → Option ℕ → Option ByteRange
range_sized number ends None = None
range_sized number ends (Some size) = range_within number size ends

-- the same of a file as it is now
abbrev pub range_now : State → Option ℕ → Option (ℕ × ℕ) → Option ByteRange
range_now s None ends = None
range_now s (Some number) ends = range_sized number ends (size_in s number)
