-- That a client leaves is as if each of its handles were closed by a request. This profile's own.
use Rattle.std.specs.Prelude.{◌≡◌, ℕ, List, [], IsTrue}
use Rattle.std.specs.List.{AllByRecursion}
use Rattle.sftp_packets.specs.declared.requests.Ask.TheVariants.{Close}
use Rattle.sftp_packets.specs.declared.replies.Answer.TheVariants.{Status}
use Rattle.sftp_packets.specs.declared.packets.Request.{Request}
use Rattle.sftp_packets.specs.declared.packets.Reply.{Reply}
use Rattle.sftp_transcript.specs.Explained.{Run}
use Rattle.sftp_handles.specs.State.{State}
use Rattle.sftp_handles.specs.Allowed.{Allowed}
use Rattle.sftp_shared.specs.Sharing.{is_of, left_by}

-- a CLOSE of a handle of this client, and OK
pub record IsCloseOf (client : ℕ) (pair : Request × Reply) : Type 0 where
  pub name : List ℕ
  pub own : IsTrue (is_of client name)
  pub asked : pair.0.ask ≡ Close name
  pub answered : pair.1.answer ≡ Status 0 [] []

-- some such CLOSEs, one after the other, lead to the state that the client leaves
pub record IsClosing (s : State) (client : ℕ) : Type 0 where
  pub closes : List (Request × Reply)
  pub are_closes : AllByRecursion (IsCloseOf client) closes
  pub run : Run Allowed s closes (left_by client s)
