-- The bytes of a tree file that is made of parts.
use Rattle.std.specs.Prelude.{ℕ, min, List, [], ◌∷◌, ◌++◌, length, take, drop}
use Rattle.sftp_infer.specs.declared.texts.Part.{Part}
use Rattle.sftp_infer.specs.declared.texts.Part.TheVariants.{Made, Given, Zeros}
use Rattle.sftp_infer.specs.declared.texts.TreeText.{TreeText}
use Rattle.sftp_infer.specs.declared.texts.TextStream.{TextStream}

-- so many bytes, or as many as there are
abbrev pub front : ℕ → List ℕ → List ℕ
front len bytes = take (min len (length bytes)) bytes

-- so many bytes from a place on, as far as they are there
abbrev pub part_of : List ℕ → ℕ → ℕ → List ℕ
part_of bytes from len = front len (drop (min from (length bytes)) bytes)

-- the bytes of a part, some of which are where the session has them, or are of a run of zeros
abbrev pub part_bytes : List ℕ → List ℕ → Part → List ℕ
part_bytes session zeros (Made bytes) = bytes.items
part_bytes session zeros (Given from len) = part_of session from len
part_bytes session zeros (Zeros len) = front len zeros

-- the bytes of parts, one part after the other
unfoldable pub joined : List ℕ → List ℕ → List Part → List ℕ
joined session zeros [] = []
joined session zeros (part ∷ parts) = part_bytes session zeros part ++ joined session zeros parts

abbrev pub bytes_of : TreeText → List ℕ
bytes_of text = joined text.session.now text.zeros.items text.parts.items

-- what a stream has left
abbrev pub left_of : TextStream → List ℕ
left_of stream = stream.rest.now ++ joined stream.session.now stream.zeros.now stream.parts.now
