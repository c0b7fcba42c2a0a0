-- Requests that name no handle.
use Rattle.std.proofs.Common.{◌≡◌, ℕ, Option, None, refl}
use Rattle.sftp_packets.specs.declared.requests.Ask.{Ask}
use Rattle.sftp_packets.specs.declared.requests.Ask.TheVariants as asks
use Rattle.sftp_packets.specs.Requests.{asked_handle}
use Rattle.sftp_joint.specs.Joint.{joint_ask}

-- a request that names no handle is the same in the session of all
pub unnamed : (client : ℕ) (ask : Ask) → asked_handle ask ≡ None → joint_ask client ask ≡ ask
unnamed client (asks.Close handle) none = absurd cc
unnamed client (asks.Read handle offset len) none = absurd cc
unnamed client (asks.Write handle offset bytes) none = absurd cc
unnamed client (asks.Fstat handle) none = absurd cc
unnamed client (asks.Fsetstat handle attrs) none = absurd cc
unnamed client (asks.Readdir handle) none = absurd cc
unnamed client (asks.Fsync handle) none = absurd cc
unnamed client (asks.Open path pflags attrs) none = refl
unnamed client (asks.Lstat path) none = refl
unnamed client (asks.Setstat path attrs) none = refl
unnamed client (asks.Opendir path) none = refl
unnamed client (asks.Remove path) none = refl
unnamed client (asks.Mkdir path attrs) none = refl
unnamed client (asks.Rmdir path) none = refl
unnamed client (asks.Realpath path) none = refl
unnamed client (asks.Stat path) none = refl
unnamed client (asks.Rename oldpath newpath) none = refl
unnamed client (asks.Readlink path) none = refl
unnamed client (asks.Symlink targetpath linkpath) none = refl
unnamed client (asks.PosixRename oldpath newpath) none = refl
unnamed client (asks.Hardlink oldpath newpath) none = refl
unnamed client asks.Limits none = refl
unnamed client (asks.Unknown name rest) none = refl
