-- From what the library promises of a session to what a run does.
use Rattle.std.proofs.Common.{◌≡◌, Bool, List, Option, Some, None, Result, is_some, ℕ, false, refl, subst}
use Rattle.sftp_packets.specs.declared.packets.Packet.{Packet}
use Rattle.sftp_packets.specs.Packets.{HasSpelling}
use Rattle.sftp_packets.proofs.PacketLaws.{version_spelled}
use Rattle.sftp_transcript.specs.Transcript.{IsVersion}
use Rattle.sftp_tree.specs.Tree.{Tree}
use Rattle.sftp_server.specs.declared.ends.SessionEnd.{SessionEnd}
use Rattle.sftp_server.specs.Served.{StreamBytes, stream_bytes, Serves, ServesFrom, announcing, our_version}
use Rattle.sftp_server.specs.Left.{LeavesAt, LeavesFrom}
use Rattle.sftp_vary.specs.declared.worded.Style.{Style}
use Rattle.sftp_files.specs.declared.messages.Ending.{Ending}
use Rattle.sftp_files.specs.declared.messages.Failure.{Failure}
use Rattle.sftp_serving.specs.Runs.{ServesFreely, ServesTo, Runs, RunBytes, wish}

-- a session with the usual VERSION is one whose VERSION may be free
pub usually : (is_free : Bool) (start : Tree) (past now : StreamBytes) (end : SessionEnd)
    → Serves start past now end.ended → LeavesAt start past now end.ended end.left
    → ServesFreely is_free start past now end
usually is_free start past now end served left = record {
  version = our_version;
  is_version = refl;
  spelled = version_spelled;
  usual = λ _. refl;
  served = served;
  left = left;
}

-- what is not there when it is not free is the usual VERSION then
usual_of : (is_free : Bool) (found : Option Packet) (version : Packet)
    → found ≡ Some version → (is_free ≡ false → found ≡ None) → is_free ≡ false → version ≡ our_version
usual_of is_free found version is_found usual unfree = let gone : found ≡ None = usual unfree in cc

-- and so is one with another VERSION, if it is free
pub with_version : (is_free : Bool) (start : Tree) (found : Option Packet) (version : Packet)
    (past now : StreamBytes) (end : SessionEnd)
    → found ≡ Some version → (is_free ≡ false → found ≡ None) → IsVersion version → HasSpelling version
    → ServesFrom (announcing start version) past now end.ended
    → LeavesFrom (announcing start version) past now end.ended end.left → ServesFreely is_free start past now end
with_version is_free start found version past now end is_found usual is_version spelled served left = record {
  version = version;
  is_version = is_version;
  spelled = spelled;
  usual = usual_of is_free found version is_found usual;
  served = served;
  left = left;
}

-- a session over an input, an output or a record that has the same bytes
pub over_input : (is_free : Bool) (start : Tree) (left written logged : Option (List ℕ)) (now : StreamBytes)
    (end : SessionEnd) (same : Option (List ℕ)) → same ≡ left
    → ServesFreely is_free start (stream_bytes same written logged) now end
    → ServesTo is_free start (stream_bytes left written logged) now.logged end
over_input is_free start left written logged now end same is served = record {
  left = now.left;
  written = now.written;
  served = subst (λ (bytes : Option (List ℕ)). ServesFreely is_free start (stream_bytes bytes written logged) now end)
      is served;
}

pub over_output : (is_free : Bool) (start : Tree) (left written logged logged' : Option (List ℕ))
    (end : SessionEnd) (same : Option (List ℕ)) → same ≡ written
    → ServesTo is_free start (stream_bytes left same logged) logged' end
    → ServesTo is_free start (stream_bytes left written logged) logged' end
over_output is_free start left written logged logged' end same is served =
    subst (λ (bytes : Option (List ℕ)). ServesTo is_free start (stream_bytes left bytes logged) logged' end) is served

pub over_record : (is_free : Bool) (start : Tree) (past : StreamBytes) (logged : Option (List ℕ)) (end : SessionEnd)
    (same : Option (List ℕ)) → same ≡ logged → ServesTo is_free start past same end
    → ServesTo is_free start past logged end
over_record is_free start past logged end same is served =
    subst (λ (bytes : Option (List ℕ)). ServesTo is_free start past bytes end) is served

-- a run with replies of the same style
pub styled : (conducted style : Style) (saves : Bool) (limit : Option ℕ) (file : Option (List ℕ)) (past now : RunBytes)
    (result : Result Ending Failure) → conducted ≡ style
    → Runs (wish (is_some conducted.variation) conducted.has_times saves) limit file past now result
    → Runs (wish (is_some style.variation) style.has_times saves) limit file past now result
styled conducted style saves limit file past now result is runs =
    subst (λ (of : Style). Runs (wish (is_some of.variation) of.has_times saves) limit file past now result) is runs
