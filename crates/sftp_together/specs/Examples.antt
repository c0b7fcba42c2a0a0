-- Two sessions that use one file at the same time, which the worked examples name.
use Rattle.std.specs.Prelude.{ℕ, List, [], ◌∷◌, map, codes}
use Rattle.sftp_packets.specs.declared.requests.Ask.TheVariants.{Open, Write}
use Rattle.sftp_packets.specs.Spelling.{no_attributes}
use Rattle.sftp_transcript.specs.declared.events.Event.TheVariants.{Asked}
use Rattle.sftp_transcript.specs.Examples.{open_to_read, read, close, status, handle_reply, data_reply}
use Rattle.sftp_together.specs.Sets.{Sessions, TimedEvent, timed_exchanges}

-- the first session makes `/f`, and writes `abc` to it
abbrev pub writer : List TimedEvent
writer =
    (Asked (record { id = 1; ask = Open (codes "f") 0xb no_attributes }), 10) ∷ (handle_reply 1 (codes "h"), 20)
    ∷ (Asked (record { id = 2; ask = Write (codes "h") 0 (codes "abc") }), 30) ∷ (status 2 0, 40)
    ∷ (close 3 (codes "h"), 50) ∷ (status 3 0, 60) ∷ []

-- the second one opens the file under a handle of the same name, and reads these bytes
abbrev pub reader : List ℕ → List TimedEvent
reader bytes =
    (open_to_read 1 (codes "f"), 25) ∷ (handle_reply 1 (codes "h"), 35)
    ∷ (read 2 (codes "h") 0 10, 45) ∷ (data_reply 2 bytes, 55)
    ∷ (close 3 (codes "h"), 65) ∷ (status 3 0, 70) ∷ []

-- the exchanges of both
abbrev pub writer_and_reader : List ℕ → Sessions
writer_and_reader bytes = map timed_exchanges (writer ∷ reader bytes ∷ [])

-- the requests of both by turns
abbrev pub by_turns : List ℕ
by_turns = 0 ∷ 1 ∷ 0 ∷ 1 ∷ 0 ∷ 1 ∷ []

-- those of the writer first
abbrev pub writer_first : List ℕ
writer_first = 0 ∷ 0 ∷ 0 ∷ 1 ∷ 1 ∷ 1 ∷ []
